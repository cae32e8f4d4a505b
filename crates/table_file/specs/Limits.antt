-- The limits of a table.
use Rattle.std.specs.Prelude.{◌≡◌, ℕ, Option, Some, None, Result, Ok, Err, List, [], ◌∷◌, ◌++◌, length, nat_lt, nat_le, if◌then◌else◌}
use Rattle.peb_base.specs.declared.entry.Entry.{Entry}
use Rattle.peb_base.specs.declared.limit_kind.LimitKind.TheVariants as kinds
use Rattle.table_file.specs.Form.{cut_of, items_from, index_bytes}
use Rattle.table_file.specs.declared.put_fault.PutFault.{PutFault}
use Rattle.table_file.specs.declared.put_fault.PutFault.TheVariants.{Fault, Limit, Memory}

-- an index of so many bytes is too long
abbrev pub index_fault : ℕ → Option PutFault
index_fault n = if nat_lt 2147483648 n then Some (Limit kinds.Index 2147483648) else None

-- the index of these blocks is too long
abbrev pub blocks_fault : List (List Entry) → Option PutFault
blocks_fault blocks = index_fault (length (index_bytes (items_from 0 blocks)))

-- a table of these entries can't take this one
abbrev pub push_fault : ℕ → List Entry → Entry → Option PutFault
push_fault full es e =
    if nat_le 1717986918 (length es) then Some (Limit kinds.Entries 1717986918)
    else blocks_fault (cut_of full (es ++ e ∷ [])).closed

-- that limit is answered exactly where it would be passed; want of memory may come in any case
abbrev pub IsRefused : {T : Type 0} → Option PutFault → Result T PutFault → Type 0
IsRefused refusal (Ok x) = refusal ≡ None
IsRefused refusal (Err Memory) = Unit {0}
IsRefused refusal (Err Fault) = refusal ≡ None
IsRefused refusal (Err (Limit kind n)) = refusal ≡ Some (Limit kind n)
