-- What a view lends at its place.
use Rattle.std.proofs.Common.{◌≡◌, ℕ, zero, suc, Bool, true, false, not, ◌||◌, List, [], ◌∷◌, Option, Some, None, refl, sym, ap, ◌∙◌, subst}
use Rattle.std.specs.Prelude.{slice_get}
use Rattle.peb_base.specs.Keys.{Bytes}
use Rattle.peb_base.specs.Cursors.{entry_at}
use Rattle.peb_base.specs.declared.cursor.Cursor.{Ghosts}
use Rattle.peb_base.specs.declared.entry.Entry.{Entry}
use Rattle.merge_iter.specs.CutLaws.{some_is}
use Rattle.merge_iter.specs.Seeing.{puts, put_at_most, is_passed, seen, visible, Sees}
use Rattle.merge_iter.specs.StandLaws.{Among}
use Rattle.merge_iter.proofs.Going.{seen_passed, seen_deleted, seen_put}
use Rattle.merge_iter.proofs.Showing.{not_hidden}

-- each entry that is seen is a put at or below the number
all_put : (n : ℕ) (key : Bytes) (es : List Entry) (p : ℕ) (e : Entry)
    → slice_get (seen n key es) p ≡ Some e → put_at_most n (Some e) ≡ Some e
all_put n key [] p e h = cc
all_put n key (y ∷ es) p e h =
    by (is_passed n key y) refl (puts y.change) refl (λ k q. all_put n k es q e)
  where
    Deeper : Type 0
    Deeper = (k : Bytes) (q : ℕ) → slice_get (seen n k es) q ≡ Some e → put_at_most n (Some e) ≡ Some e

    by : (b : Bool) → is_passed n key y ≡ b → (c : Bool) → puts y.change ≡ c → Deeper
        → put_at_most n (Some e) ≡ Some e
    by true t c d ih = ih key p (ap (λ vs. slice_get vs p) (sym (seen_passed n key y es t)) ∙ h)
    by false t false d ih =
        ih y.key p (ap (λ vs. slice_get vs p) (sym (seen_deleted n key y es t d)) ∙ h)
    by false t true d ih =
        at_put p (ap (λ vs. slice_get vs p) (sym (seen_put n key y es t d)) ∙ h) ih
      where
        at_put : (q : ℕ) → slice_get (y ∷ seen n y.key es) q ≡ Some e → Deeper
            → put_at_most n (Some e) ≡ Some e
        at_put zero b ih =
            subst (λ (z : Entry). put_at_most n (Some z) ≡ Some z) (some_is y e b)
            (not_hidden n key (Some y) (ap (λ a. a || not (puts y.change)) t ∙ ap not d))
        at_put (suc q) b ih = ih y.key q b

-- where it sees a place of entries, it lends the visible one there
pub lends : {C : Type 0} (g : Ghosts C) → Among g → (n : ℕ) (c : C) (es : List Entry)
    (place : Option ℕ) → Sees g n c es place
    → put_at_most n (g.shows c) ≡ entry_at (visible n es) place
lends g among n c es place s =
    ap (put_at_most n) ((among c es s.at s.stands).shows ∙ sym s.same) ∙ there place
  where
    there : (place : Option ℕ)
        → put_at_most n (entry_at (visible n es) place) ≡ entry_at (visible n es) place
    there None = refl
    there (Some p) = by (slice_get (visible n es) p) refl
      where
        by : (o : Option Entry) → slice_get (visible n es) p ≡ o → put_at_most n o ≡ o
        by None is = refl
        by (Some e) is = all_put n [] es p e is
