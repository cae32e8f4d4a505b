-- The entries at the ends of blocks.
use Rattle.std.proofs.Common.{◌≡◌, ℕ, zero, suc, ◌-◌, ◌<◌, ◌∙◌, Bool, true, false, List, [], ◌∷◌, length, Some, refl, sym, ap, arith}
use Rattle.std.specs.Prelude.{slice_get}
use Rattle.block_form.specs.Ends.{TellsEnds}
use Rattle.block_form.specs.declared.ends.Ends.{Ends}
use Rattle.peb_base.specs.Keys.{Bytes}
use Rattle.peb_base.specs.Tables.{last_key}
use Rattle.peb_base.specs.declared.entry.Entry.{Entry}
use Rattle.table_file.specs.Form.{last_number}

entry_is : (a b : Entry) → Some a ≡ Some b → a ≡ b
entry_is a b same = cc

-- the last entry has the last key and the last number
pub last_at : (es : List Entry) (e : Entry) → slice_get es (length es - 1) ≡ Some e → (last_key es ≡ e.key) × (last_number es ≡ e.number)
last_at [] e there = cc
last_at (f ∷ []) e there = let same = entry_is f e there in (ap (λ (x : Entry). x.key) same, ap (λ (x : Entry). x.number) same)
last_at (f ∷ g ∷ es) e there =
    let one : length (f ∷ g ∷ es) - 1 ≡ suc (length (g ∷ es) - 1) = omega arith in
    last_at (g ∷ es) e (sym (ap (slice_get (f ∷ g ∷ es)) one) ∙ there)

-- what is told of the last entry
pub ends_tell : (es : List Entry) (key : Bytes) (ends : Ends) → TellsEnds es key ends → 0 < length es → (last_key es ≡ key) × (last_number es ≡ ends.last)
ends_tell es key ends told some =
    let e = there es some in
    let is = told.last e.0 e.1 in
    let last = last_at es e.0 e.1 in
    (last.0 ∙ sym is.0, last.1 ∙ sym is.1)
  where
    there : (es : List Entry) → 0 < length es → (e : Entry) × (slice_get es (length es - 1) ≡ Some e)
    there [] some = absurd (omega (arith, some))
    there (f ∷ []) some = (f, refl)
    there (f ∷ g ∷ es) some =
        let deep = there (g ∷ es) (omega arith) in
        let one : length (f ∷ g ∷ es) - 1 ≡ suc (length (g ∷ es) - 1) = omega arith in
        (deep.0, ap (slice_get (f ∷ g ∷ es)) one ∙ deep.1)

-- a number that a test found not to be 0
pub not_none : (n : ℕ) (test : Bool) → test ≡ false → (n ≡ 0 → test ≡ true) → 0 < n
not_none zero test no_ is = let yes_ = is refl in cc
not_none (suc n) test no_ is = omega arith
