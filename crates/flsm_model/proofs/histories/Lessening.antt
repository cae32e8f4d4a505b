-- Outcomes that have work leave less to do.
use Rattle.std.proofs.Common.{◌≡◌, ℕ, suc, ◌+◌, ◌<◌, ◌≤◌, Bool, true, false, ◌&&◌, not, List, [], ◌∷◌, ◌++◌, length, sym, subst, arith}
use Rattle.std.specs.Prelude.{if◌then◌else◌, filter, Option, Some, None}
use Rattle.peb_base.specs.Keys.{Bytes}
use Rattle.peb_base.specs.Batches.{entries_of}
use Rattle.peb_base.specs.Choice.{level_of}
use Rattle.peb_base.specs.Entries.{in_order, entries_between}
use Rattle.peb_base.specs.Profiles.{column, Column}
use Rattle.peb_base.specs.declared.entry.Entry.{Entry}
use Rattle.peb_base.specs.declared.profile.Profile.{Profile}
use Rattle.flsm_model.specs.declared.chosen.Chosen.{Chosen}
use Rattle.flsm_model.specs.declared.edit.Edit.{Edit}
use Rattle.flsm_model.specs.declared.edit.Edit.TheVariants.{Flush}
use Rattle.flsm_model.specs.declared.job.Job.{Job}
use Rattle.flsm_model.specs.Choices.{put_keys, chosen_at, choices, chosen_by, Chooses}
use Rattle.flsm_model.specs.Compaction.{is_put}
use Rattle.flsm_model.specs.Ranges.{has_key}
use Rattle.flsm_model.specs.Shape.{Shape, empty_shape, outputs_of, shape_after, shape_of}
use Rattle.flsm_model.specs.Fits.{fits, is_chosen, is_legal_record}
use Rattle.flsm_model.specs.Trees.{Tree, empty_tree}
use Rattle.flsm_model.specs.Writes.{total}
use Rattle.flsm_model.specs.Settling.{entries_in, entries_taken, entries_frozen, frozen_after, keys_chosen, to_do, HasWork, Lessens, LeavesLess, OutcomesSettle}
use Rattle.flsm_model.specs.Events.{Session, Standing, base}
use Rattle.flsm_model.specs.Outcomes.{frozen_entries, IsEditOf, IsOutcome}
use Rattle.flsm_model.specs.Legal.{Always}
use Rattle.flsm_model.specs.Steps.{run}
use Rattle.flsm_model.proofs.contents.Conserved.{Counted, conserves, counted_from}
use Rattle.flsm_model.proofs.contents.Structure.{fit_push}
use Rattle.flsm_model.proofs.guards.Facts.{flush_facts}
use Rattle.flsm_model.proofs.histories.Settling.{edits_settle, number_falls}
use Rattle.flsm_model.proofs.histories.Truth.{All, shape_told}
use Rattle.flsm_model.proofs.histories.Undisturb.{EditIs, IsFlushOf, IsMoveOf, IsCutOf, IsMergeOf, edit_is}
use Rattle.flsm_model.proofs.histories.Whole.{shape_push, stands_always}

counted_here : (o : Column) (w : Standing) → All o w → Counted w.tree.tables
counted_here o w al = subst (λ (t : Tree). Counted t.tables) (sym al.told.books.tree) (counted_from o w.batches (empty_tree o) w.edits al.told.books.described tt)

-- ---- a Flush chooses no more keys than it takes entries

keys_few : (es : List Entry) → length (put_keys es) ≤ length es
keys_few [] = omega arith
keys_few (e ∷ es) = by (is_put e.change && not (has_key e.key (put_keys es))) (keys_few es)
  where
    by : (b : Bool) → length (put_keys es) ≤ length es → length (if b then e.key ∷ put_keys es else put_keys es) ≤ suc (length es)
    by true h = omega (arith, h)
    by false h = omega (arith, h)

filter_few : (p : Bytes → Bool) (ks : List Bytes) → length (filter p ks) ≤ length ks
filter_few p [] = omega arith
filter_few p (k ∷ ks) = by (p k) (filter_few p ks)
  where
    by : (b : Bool) → length (filter p ks) ≤ length ks → length (if b then k ∷ filter p ks else filter p ks) ≤ suc (length ks)
    by true h = omega (arith, h)
    by false h = omega (arith, h)

choices_few : (o : Column) (ks : List Bytes) → length (choices o ks) ≤ length ks
choices_few o [] = omega arith
choices_few o (k ∷ ks) = by (level_of o k) (choices_few o ks)
  where
    by : (level : Option ℕ) → length (choices o ks) ≤ length ks → length (chosen_at k level ++ choices o ks) ≤ suc (length ks)
    by None h = omega (arith, h)
    by (Some l) h = omega (arith, h)

chosen_few : (o : Column) (s : Shape) (es : List Entry) → length (chosen_by o s es) ≤ length es
chosen_few o s es =
    omega (arith, choices_few o (filter (λ k. not (is_chosen s.chosen k)) (put_keys es)), filter_few (λ k. not (is_chosen s.chosen k)) (put_keys es), keys_few es)

chooses_few : (o : Column) (w : Standing) (n : Session) (j : Job) (e : Edit) → All o w → IsOutcome o w n j e → keys_chosen e ≤ entries_taken w.tree.shape (entries_frozen w n) e
chooses_few o w n j e al out = by (edit_is n j e out.formed.same)
  where
    Goal : Edit → Type 0
    Goal x = keys_chosen x ≤ entries_taken w.tree.shape (entries_frozen w n) x

    by : EditIs j e → Goal e
    by (IsFlushOf q row from to log chosen s) =
        let f = flush_facts o w.tree.shape row from to log chosen (subst (λ x. fits o w.tree.shape x ≡ true) s out.formed.fit) in
        let same = subst (λ a. IsEditOf a n j (Flush row from to log chosen)) q (subst (IsEditOf j.kind n j) s out.formed.same) in
        let chooses = subst (Chooses o w.batches w.tree) s (out.chooses al.holds.tells) in
        let back : w.tree.shape.to ≡ from = sym f.follows in
        let is : entries_frozen w n ≡ length (in_order (entries_between from to (entries_of w.batches))) + 0 =
        (λ i. total (λ (es : List Entry). length es) (frozen_entries w.batches (back i) (same.0 i))) in
        let few : length chosen ≤ length (in_order (entries_between from to (entries_of w.batches))) =
        subst (λ (cs : List Chosen). length cs ≤ length (in_order (entries_between from to (entries_of w.batches)))) (sym chooses)
        (chosen_few o w.tree.shape (in_order (entries_between from to (entries_of w.batches)))) in
        subst Goal (sym s) (omega (arith, is, few))
    by (IsMoveOf q floor outputs s) = subst Goal (sym s) (omega arith)
    by (IsCutOf q outputs s) = subst Goal (sym s) (omega arith)
    by (IsMergeOf q floor whole outputs s) = subst Goal (sym s) (omega arith)

-- an outcome of any job that has work leaves less to do
pub leaves_less : (p : Profile) (w : Standing) (n : Session) (j : Job) (e : Edit) → All (column p) w → IsOutcome (column p) w n j e → HasWork (column p) w.tree.shape (entries_frozen w n) e
    → LeavesLess (column p) w n e
leaves_less p w n j e al out work =
    let o = column p in
    let b = al.told.books in
    let shape : w.tree.shape ≡ shape_of o w.edits = shape_told o w.batches w.edits w.tree b in
    let legal : is_legal_record o (w.edits ++ e ∷ []) ≡ true = fit_push o (empty_shape o) w.edits e b.legal (subst (λ s. fits o s e ≡ true) shape out.formed.fit) in
    let has = subst (λ s. HasWork o s (entries_frozen w n) e) shape work in
    let few = subst (λ s. entries_in (outputs_of e) ≤ entries_taken s (entries_frozen w n) e) shape (conserves o w n j e al out (counted_here o w al)) in
    let keys = subst (λ s. keys_chosen e ≤ entries_taken s (entries_frozen w n) e) shape (chooses_few o w n j e al out) in
    let less = edits_settle p w.edits e (entries_frozen w n) legal has few in
    let number = number_falls p w.edits e (entries_frozen w n) legal has few keys in
    let after = subst (λ s. Lessens o (entries_frozen w n) (shape_of o w.edits) (frozen_after (entries_frozen w n) e) s
    × (to_do o (frozen_after (entries_frozen w n) e) s < to_do o (entries_frozen w n) (shape_of o w.edits))) (shape_push (empty_shape o) w.edits e) (less, number) in
    subst (λ s. Lessens o (entries_frozen w n) s (frozen_after (entries_frozen w n) e) (shape_after s e)
    × (to_do o (frozen_after (entries_frozen w n) e) (shape_after s e) < to_do o (entries_frozen w n) s)) (sym shape) after

pub outcomes_settle : Always OutcomesSettle
outcomes_settle p bs r h base_true legal n eq x i e out work =
    leaves_less p (run (column p) (base true (column p) bs r) h) n x.1 e (stands_always p bs r h base_true legal).all out work
