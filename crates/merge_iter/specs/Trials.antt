-- What the cursor of the tests shows.
use Rattle.std.proofs.Common.{◌≡◌, ℕ, suc, ◌-◌, ◌≤◌, ◌^◌, Bool, true, false, ◌&&◌, not, List, [], ◌∷◌, ◌++◌, length, Option, Some, None, refl, sym, ap, ◌∙◌, subst, arith}
use Rattle.std.specs.Prelude.{if◌then◌else◌, nat_lt, nat_le, slice_get}
use Rattle.std.proofs.lemmas.Bool.{and_parts, ltb-true, leb-true}
use Rattle.peb_base.specs.Cursors.{ComesBeforeNone}
use Rattle.peb_base.specs.Entries.{IsEntry, entry_lt, value_of, comes_before}
use Rattle.peb_base.specs.Keys.{Bytes}
use Rattle.peb_base.specs.declared.entry.Entry.{Entry}
use Rattle.merge_iter.specs.CutLaws.{some_is, not_met}

-- the entry is within its limits
abbrev pub fits : Entry → Bool
fits e = nat_lt 0 (length e.key) && nat_le (length e.key) 1024 && nat_lt e.number (2 ^ 63)
    && nat_le (length (value_of e.change)) 32768

-- the entry, where it is within its limits
abbrev pub checked : Option Entry → Option Entry
checked None = None
checked (Some e) = if fits e then Some e else None

-- the entry at a place, where it is within its limits
abbrev pub shown_at : List Entry → ℕ → Option Entry
shown_at es n = checked (slice_get es n)

-- both are there, and the first comes before the second
abbrev pub is_lower : Option Entry → Option Entry → Bool
is_lower None b = false
is_lower (Some a) None = false
is_lower (Some a) (Some b) = entry_lt a b

-- it is there, and doesn't come before a key and number
abbrev pub reaches : Bytes → ℕ → Option Entry → Bool
reaches key number None = false
reaches key number (Some e) = not (comes_before e.key e.number key number)

-- how many steps on there are from a place, and how many back
abbrev pub steps_on : ℕ → ℕ → ℕ
steps_on count n = count - n

abbrev pub steps_back : ℕ → ℕ → ℕ
steps_back count n = if nat_lt n count then suc n else 0

-- ---- laws

pub checked_fits : (o : Option Entry) (e : Entry) → checked o ≡ Some e → IsEntry e
checked_fits None e h = cc
checked_fits (Some x) e h = by (fits x) refl
  where
    record_of : fits x ≡ true → IsEntry x
    record_of t =
        let a = and_parts _ _ t in
        let b = and_parts _ _ a.0 in
        let c = and_parts _ _ b.0 in
        record {
          some = ltb-true 0 (length x.key) c.0;
          key = leb-true (length x.key) 1024 c.1;
          number = ltb-true x.number (2 ^ 63) b.1;
          value = leb-true (length (value_of x.change)) 32768 a.1;
        }

    by : (b : Bool) → fits x ≡ b → IsEntry e
    by true t =
        let same : Some x ≡ Some e = sym (ap (λ b. if b then Some x else None) t) ∙ h in
        subst IsEntry (some_is x e same) (record_of t)
    by false t = cc (sym (ap (λ b. if b then Some x else None) t) ∙ h)

-- what doesn't come before an entry comes before none of those that it doesn't
pub still_behind : (es : List Entry) (e f : Entry) → ComesBeforeNone e es → entry_lt f e ≡ false
    → ComesBeforeNone f (es ++ e ∷ [])
still_behind [] e f h low = (low, tt)
still_behind (x ∷ es) e f h low = (not_met false f e x low h.0, still_behind es e f h.1 low)

back_low : (b : Bool) (n count : ℕ) → n ≤ count → (if b then suc n else 0) ≤ suc count
back_low true n count h = omega (arith, h)
back_low false n count h = omega arith

pub bounded_steps : (n count : ℕ) → n ≤ count
    → (steps_on count n ≤ suc count) × (steps_back count n ≤ suc count)
bounded_steps n count h = (omega arith, back_low (nat_lt n count) n count h)
