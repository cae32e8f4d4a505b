-- One entry more in what is counted.
use Rattle.std.proofs.Common.{◌≡◌, ◌+◌, ◌<◌, min, max, List, [], ◌∷◌, ◌++◌, length, refl, arith}
use Rattle.std.proofs.lemmas.List.Sums.{sum_by_push}
use Rattle.peb_base.specs.Entries.{value_of}
use Rattle.peb_base.specs.Tables.{least_number, greatest_number, raw_length}
use Rattle.peb_base.specs.declared.entry.Entry.{Entry}

pub least_first : (es : List Entry) (e : Entry) → length es ≡ 0 → least_number (es ++ e ∷ []) ≡ e.number
least_first [] e none = refl
least_first (x ∷ es) e none = absurd (omega (arith, none))

pub least_on : (es : List Entry) (e : Entry) → 0 < length es
    → least_number (es ++ e ∷ []) ≡ min (least_number es) e.number
least_on [] e some = absurd (omega (arith, some))
least_on (x ∷ []) e some = refl
least_on (x ∷ y ∷ es) e some = let ih = least_on (y ∷ es) e (omega arith) in omega (arith, ih)

pub greatest_on : (es : List Entry) (e : Entry)
    → greatest_number (es ++ e ∷ []) ≡ max (greatest_number es) e.number
greatest_on [] e = omega arith
greatest_on (x ∷ es) e = let ih = greatest_on es e in omega (arith, ih)

pub raw_on : (es : List Entry) (e : Entry)
    → raw_length (es ++ e ∷ []) ≡ raw_length es + (length e.key + length (value_of e.change))
raw_on es e = sum_by_push (λ x. length x.key + length (value_of x.change)) es e
