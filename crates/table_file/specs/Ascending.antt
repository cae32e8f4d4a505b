-- The entry order along entries.
use Rattle.std.proofs.Common.{◌≡◌, ℕ, ◌<◌, true, List, [], ◌∷◌, ◌++◌, length, arith}
use Rattle.peb_base.specs.Entries.{comes_before, AscendFrom}
use Rattle.peb_base.specs.EntryLaws.{before_trans}
use Rattle.peb_base.specs.Keys.{Bytes}
use Rattle.peb_base.specs.Tables.{last_key}
use Rattle.peb_base.specs.declared.entry.Entry.{Entry}
use Rattle.table_file.specs.Form.{last_number}

-- the last of entries that ascend comes after what they all come after
pub last_after : (before : Bytes) (above : ℕ) (es : List Entry) → AscendFrom before above es
    → 0 < length es → comes_before before above (last_key es) (last_number es) ≡ true
last_after before above [] each some = absurd (omega (arith, some))
last_after before above (e ∷ []) each some = each.1
last_after before above (e ∷ f ∷ es) each some =
    before_trans before above e.key e.number (last_key (f ∷ es)) (last_number (f ∷ es)) each.1
    (last_after e.key e.number (f ∷ es) each.2 (omega arith))

pub front_ascends : (before : Bytes) (above : ℕ) (xs ys : List Entry)
    → AscendFrom before above (xs ++ ys) → AscendFrom before above xs
front_ascends before above [] ys each = tt
front_ascends before above (x ∷ xs) ys each =
    (each.0, each.1, front_ascends x.key x.number xs ys each.2)

pub rest_ascends : (before : Bytes) (above : ℕ) (xs ys : List Entry) → 0 < length xs
    → AscendFrom before above (xs ++ ys) → AscendFrom (last_key xs) (last_number xs) ys
rest_ascends before above [] ys some each = absurd (omega (arith, some))
rest_ascends before above (x ∷ []) ys some each = each.2
rest_ascends before above (x ∷ z ∷ xs) ys some each =
    rest_ascends x.key x.number (z ∷ xs) ys (omega arith) each.2
