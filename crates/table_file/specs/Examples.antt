-- What the words for limits, counts and damage rule out.
use Rattle.std.specs.Prelude.{◌≡◌, ◌+◌, ◌<◌, ◌≤◌, ℕ, List, length, Some, None, Ok, Err}
use Rattle.peb_base.specs.declared.entry.Entry.{Entry}
use Rattle.peb_base.specs.declared.limit_kind.LimitKind.{LimitKind}
use Rattle.peb_base.specs.declared.limit_kind.LimitKind.TheVariants as kinds
use Rattle.peb_base.specs.declared.table_row.TableRow.{TableRow}
use Rattle.table_file.specs.Damages.{TellsTable, IsToldAt, IsPlaceOfDamage}
use Rattle.table_file.specs.Limits.{index_fault, push_fault, IsRefused}
use Rattle.table_file.specs.Taking.{TakesAtMost}
use Rattle.table_file.specs.declared.put_fault.PutFault.{PutFault}
use Rattle.table_file.specs.declared.put_fault.PutFault.TheVariants.{Fault, Limit}
use Rattle.table_file.specs.declared.table_fault.TableFault.TheVariants.{Damaged}

-- an index may have 2,147,483,648 bytes, and not one more; a table that has 1,717,986,918 entries takes
-- none more
pub record LimitsStand : Type 0 where
  pub index : index_fault 2147483648 ≡ None
  pub longer : index_fault 2147483649 ≡ Some (Limit kinds.Index 2147483648)
  pub entries : (full : ℕ) (es : List Entry) (e : Entry) → 1717986918 ≤ length es
      → push_fault full es e ≡ Some (Limit kinds.Entries 1717986918)

-- where a limit is passed, neither Ok is answered nor a fault nor another limit; where none is, no limit
pub record RefusalsStand : Type 0 where
  pub no_ok : (why : PutFault) → IsRefused {T = Unit {0}} (Some why) (Ok tt) → ⊥
  pub no_fault : (why : PutFault) → IsRefused {T = Unit {0}} (Some why) (Err Fault) → ⊥
  pub no_other : (kind : LimitKind) (n : ℕ)
      → IsRefused {T = Unit {0}} (Some (Limit kind n)) (Err (Limit kind (n + 1))) → ⊥
  pub no_limit : (kind : LimitKind) (n : ℕ)
      → IsRefused {T = Unit {0}} None (Err (Limit kind n)) → ⊥

-- of 2 bytes at most, none is counted as taken twice, and none is lost
pub record CountsStand : Type 0 where
  pub no_more : TakesAtMost 2 5 8 → ⊥
  pub no_fewer : TakesAtMost 2 5 4 → ⊥
  pub most : TakesAtMost 2 5 7

-- damage is told of its table and at its place alone
pub record DamagesStand : Type 0 where
  pub own_table : (at : ℕ) → TellsTable 1 (Damaged 2 at) → ⊥
  pub own_place : (table : ℕ) → IsToldAt (λ at. at ≡ 5) (Damaged table 6) → ⊥
  pub shorter : (row : TableRow) (bytes : List ℕ) (at : ℕ) → length bytes < row.bytes
      → IsPlaceOfDamage row bytes at → at ≡ length bytes
  pub longer : (row : TableRow) (bytes : List ℕ) (at : ℕ) → row.bytes < length bytes
      → IsPlaceOfDamage row bytes at → at ≡ row.bytes
