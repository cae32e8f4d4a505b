-- What the entries that were gone over tell.
use Rattle.std.proofs.Common.{◌≡◌, ℕ, ◌-◌, ◌<◌, ◌∙◌, ◌^◌, List, [], ◌∷◌, ◌++◌, length, Some, refl, sym, ap, arith, length-append}
use Rattle.std.specs.Prelude.{slice_get, min, max}
use Rattle.peb_base.specs.Keys.{Bytes}
use Rattle.peb_base.specs.Entries.{AscendFrom}
use Rattle.peb_base.specs.Tables.{least_number, greatest_number}
use Rattle.peb_base.specs.declared.entry.Entry.{Entry}
use Rattle.block_form.specs.Ends.{TellsEnds}
use Rattle.block_form.specs.declared.ends.Ends.{Ends}
use Rattle.block_form.proofs.Spots.{entry_is}

-- the least number of these, or u64's greatest
abbrev pub least_of : List Entry → ℕ
least_of [] = 2 ^ 64 - 1
least_of (e ∷ es) = min e.number (least_of es)

pub record Gone (front : List Entry) (key : Bytes) (ends : Ends) : Type 0 where
  pub least : ends.least ≡ least_of front
  pub greatest : ends.greatest ≡ greatest_number front
  pub last : (e : Entry) → slice_get front (length front - 1) ≡ Some e → (key ≡ e.key) × (ends.last ≡ e.number)

least_push : (es : List Entry) (e : Entry) → e.number < 2 ^ 64 → least_of (es ++ e ∷ []) ≡ min (least_of es) e.number
least_push [] e fits = omega (arith, fits)
least_push (f ∷ es) e fits = omega (arith, least_push es e fits)

greatest_push : (es : List Entry) (e : Entry) → greatest_number (es ++ e ∷ []) ≡ max (greatest_number es) e.number
greatest_push [] e = omega arith
greatest_push (f ∷ es) e = omega (arith, greatest_push es e)

last_push : (es : List Entry) (e : Entry) → slice_get (es ++ e ∷ []) (length (es ++ e ∷ []) - 1) ≡ Some e
last_push es e = let long : length (es ++ e ∷ []) - 1 ≡ length es = omega (arith, length-append es (e ∷ [])) in ap (slice_get (es ++ e ∷ [])) long ∙ behind es
  where
    behind : (es : List Entry) → slice_get (es ++ e ∷ []) (length es) ≡ Some e
    behind [] = refl
    behind (f ∷ es) = behind es

least_is : (before : Bytes) (above : ℕ) (es : List Entry) → AscendFrom before above es → 0 < length es → least_of es ≡ least_number es
least_is before above [] each some = absurd (omega (arith, some))
least_is before above (e ∷ []) each some = omega (arith, each.0.number)
least_is before above (e ∷ f ∷ es) each some = omega (arith, least_is e.key e.number (f ∷ es) each.2 (omega arith))

-- at the end they are all
pub all_gone : (es : List Entry) (key : Bytes) (ends : Ends) → AscendFrom [] 0 es → ends.count ≡ length es → Gone es key ends → TellsEnds es key ends
all_gone es key ends each count gone = record {
  count = count;
  least = λ some. gone.least ∙ least_is [] 0 es each some;
  greatest = gone.greatest;
  last = gone.last;
}

pub none_gone : (key : Bytes) (ends : Ends) → ends.least ≡ 2 ^ 64 - 1 → ends.greatest ≡ 0 → Gone [] key ends
none_gone key ends least greatest = record { least = least; greatest = greatest; last = λ e there. nothing e there }
  where
    nothing : (e : Entry) → slice_get [] (length {A = Entry} [] - 1) ≡ Some e → (key ≡ e.key) × (ends.last ≡ e.number)
    nothing e there = cc

pub one_gone : (front : List Entry) (key next : Bytes) (ends now : Ends) (e : Entry) → Gone front key ends → e.number < 2 ^ 64 → now.least ≡ min ends.least e.number → now.greatest ≡ max ends.greatest e.number → now.last ≡ e.number
    → next ≡ e.key → Gone (front ++ e ∷ []) next now
one_gone front key next ends now e gone fits least greatest last is = record {
  least = omega (arith, least, gone.least, least_push front e fits);
  greatest = omega (arith, greatest, gone.greatest, greatest_push front e);
  last = λ f there. let same = entry_is e f (sym (last_push front e) ∙ there) in (is ∙ ap (λ (x : Entry). x.key) same, last ∙ ap (λ (x : Entry). x.number) same);
}
