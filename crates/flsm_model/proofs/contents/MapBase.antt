-- The law of the map, from a true base.
use Rattle.std.proofs.Common.{◌≡◌, ℕ, ◌+◌, ◌-◌, ◌<◌, ◌≤◌, true, ◌&&◌, List, [], ◌∷◌, length, ◌⊎◌, inl, inr, sym, subst, arith}
use Rattle.std.specs.Prelude.{◌==◌, ◌↔◌}
use Rattle.std.proofs.lemmas.Bool.{and_parts, or_cases, cases_lt, eqb-true, false≢true}
use Rattle.peb_base.specs.Batches.{Batches, entries_of, is_boundary, last_number}
use Rattle.peb_base.specs.Profiles.{column, Column}
use Rattle.peb_base.specs.declared.entry.Entry.{Entry}
use Rattle.flsm_model.specs.Shape.{Record}
use Rattle.flsm_model.specs.Fits.{fits, fit_from}
use Rattle.flsm_model.specs.Trees.{Tree, rows_of, tree_after, tree_from, tree_of, empty_tree}
use Rattle.flsm_model.specs.TrueRecord.{DescribedFrom, IsNewest, Live, Flushed, IsTrueRecord}
use Rattle.peb_base.specs.Members.{IsIn}
use Rattle.flsm_model.specs.Events.{Event, Standing, base}
use Rattle.flsm_model.specs.Jobs.{floor_of}
use Rattle.flsm_model.specs.Steps.{is_held, run, step}
use Rattle.flsm_model.specs.Legal.{IsLegal, Always}
use Rattle.flsm_model.specs.Reading.{InMemory, MapHolds}
use Rattle.flsm_model.proofs.contents.Bound.{rows_step}
use Rattle.flsm_model.proofs.contents.Falls.{AllFlushed}
use Rattle.flsm_model.proofs.contents.Begin.{Known, row_in}
use Rattle.flsm_model.proofs.histories.Histories.{Holds, holds_step, fresh_rows, known_step}
use Rattle.flsm_model.proofs.contents.Base.{sound_base, deep, kept_empty}
use Rattle.flsm_model.proofs.contents.Places.{Placed, placed_step, placed_base, shape_same}
use Rattle.flsm_model.proofs.contents.Covers.{OneByNumber, one_step, newest_same}
use Rattle.flsm_model.proofs.contents.Maps.{union_shows}
use Rattle.flsm_model.proofs.contents.Shown.{AtLevels, levels_step, ShowsAt, floor_last}
use Rattle.flsm_model.proofs.contents.MapLaw.{Shows, Readable, shows_step}

record Numbers (o : Column) (t : Tree) : Type 0 where
  rows : rows_of t.tables ≡ t.shape.live
  known : Known t.shape
  one : OneByNumber t.tables
  levels : AtLevels o t.tables

numbers_from : (o : Column) (bs : Batches) (t : Tree) (r : Record) → fit_from o t.shape r ≡ true → DescribedFrom o bs t r → Numbers o t → Numbers o (tree_from o bs t r)
numbers_from o bs t [] f d k = k
numbers_from o bs t (e ∷ es) f d k =
    let p = and_parts (fits o t.shape e) _ f in
    numbers_from o bs (tree_after o bs t e) es p.1 d.2 (record {
      rows = rows_step o bs t e d.0 k.rows;
      known = known_step o t.shape e p.0 k.known;
      one = one_step o bs t e (fresh_rows o t.shape e p.0) (λ u i. k.known.known u.row (subst (IsIn u.row) k.rows (row_in u t.tables i))) k.one;
      levels = levels_step o bs t e p.0 k.levels;
    })

boundary_last : (n : ℕ) (bs : Batches) → is_boundary n bs ≡ true → n ≤ last_number bs
boundary_last n [] b = omega (arith, eqb-true n 0 b)
boundary_last n (x ∷ bs) b = elim (or_cases (n == x.0 + length x.1 - 1) (is_boundary n bs) b) [
  | inl s ↦ omega (arith, eqb-true n (x.0 + length x.1 - 1) s)
  | inr r ↦ omega (arith, boundary_last n bs r)
]

-- where all numbers are at most `to`, it is one at which number from `to` on one looks
from_to : (P : Entry → Type 0) (to m : ℕ) (x : Entry) → ((y : Entry) → P y → y.number ≤ to) → to ≤ m → IsNewest P x to → IsNewest P x m
from_to P to m x low l n = record { here = n.here; below = omega (arith, n.below); newest = λ f p k b. n.newest f p k (low f p) }

to_from : (P : Entry → Type 0) (to m : ℕ) (x : Entry) → ((y : Entry) → P y → y.number ≤ to) → to ≤ m → IsNewest P x m → IsNewest P x to
to_from P to m x low l n = record { here = n.here; below = low x n.here; newest = λ f p k b. n.newest f p k (omega arith) }

pub shows_base : (o : Column) (bs : Batches) (r : Record) → IsTrueRecord o r bs → Shows o (base true o bs r)
shows_base o bs r h =
    let e = kept_empty o in
    let k = numbers_from o bs (empty_tree o) r h.legal h.described
    (record { rows = e.rows; known = e.known; one = record { one = λ t u i. absurd i }; levels = record { level = λ u i. absurd i } }) in
    let fl : AllFlushed (tree_of o bs r).tables (tree_of o bs r).shape.to = (sound_base o r bs h).sound.flushed in
    record {
      one = k.one;
      levels = k.levels;
      to_last = boundary_last _ bs (subst (λ s. is_boundary s.to bs ≡ true) (sym (shape_same o bs (empty_tree o) r)) h.boundary);
      session = tt;
      shown = λ m at x put.
          let l : (tree_of o bs r).shape.to ≤ m = elim at [ inl a ↦ a | inr b ↦ absurd b ] in
          let q = h.map x put in (
            λ a. from_to (Flushed bs (tree_of o bs r).shape.to) _ m x (λ y f. f.upto) l (q.0 (to_from (Live (tree_of o bs r)) _ m x (λ y v. fl.flushed v.table y v.among v.inside) l a)),
            λ a. from_to (Live (tree_of o bs r)) _ m x (λ y v. fl.flushed v.table y v.among v.inside) l (q.1 (to_from (Flushed bs (tree_of o bs r).shape.to) _ m x (λ y f. f.upto) l a)),
          );
    }

record Whole (o : Column) (w : Standing) : Type 0 where
  holds : Holds o w
  placed : Placed o w
  shows : Shows o w

whole_run : (o : Column) (w : Standing) (es : List Event) → 0 < o.last_level → Whole o w → IsLegal o w es → Whole o (run o w es)
whole_run o w [] d h l = h
whole_run o w (e ∷ es) d h l =
    whole_run o (step o w e) es d (record { holds = holds_step o w e d h.holds l.0; placed = placed_step o w e h.placed l.0; shows = shows_step o w e h.holds h.placed h.shows l.0 }) l.1

held_above : (actor m : ℕ) (held : List (ℕ × ℕ)) (last : ℕ) → is_held (actor, m) held ≡ true → floor_of held last ≤ m
held_above actor m [] last h = absurd (false≢true h)
held_above actor m (p ∷ ps) last h = elim (or_cases (actor == p.0 && m == p.1) (is_held (actor, m) ps) h) [
  | inl s ↦ omega (arith, eqb-true m p.1 (and_parts _ _ s).1)
  | inr r ↦ omega (arith, held_above actor m ps last r)
]

pub map_holds : Always MapHolds
map_holds p bs r es base_true legal n eq m read x put =
    let o = column p in
    let w = run o (base true o bs r) es in
    let h = whole_run o (base true o bs r) es (deep p) (record { holds = sound_base o r bs base_true; placed = placed_base o bs r base_true; shows = shows_base o bs r base_true }) legal in
    let to : ℕ = w.tree.shape.to in
    let floor : floor_of n.held (last_number w.batches) ≤ m =
    elim read [ inl l ↦ omega (arith, l, h.shows.to_last, floor_last n.held (last_number w.batches)) | inr a ↦ held_above a.0 m n.held (last_number w.batches) a.1 ] in
    let same : ShowsAt w.tree w.batches m = h.shows.shown m (inr (subst (λ s. Readable (last_number w.batches) s m) (sym eq) floor)) in
    let low_live : (y : Entry) → Live w.tree y → y.number ≤ to = λ y v. h.holds.sound.flushed.flushed v.table y v.among v.inside in
    let low : (y : Entry) → Flushed w.batches to y → y.number ≤ to = λ y v. v.upto in
    let high : (y : Entry) → InMemory w.batches to y → to < y.number = λ y v. v.above in
    let all : (y : Entry) → (Flushed w.batches to y ⊎ InMemory w.batches to y) ↔ IsIn y (entries_of w.batches) =
    λ y. (
      λ v. elim v [ inl a ↦ a.entry | inr b ↦ b.entry ],
      λ i. elim (cases_lt to y.number) [ inl a ↦ inr (record { entry = i; above = a }) | inr b ↦ inl (record { entry = i; upto = b }) ],
    ) in (
      λ a. newest_same (λ y. Flushed w.batches to y ⊎ InMemory w.batches to y) (λ y. IsIn y (entries_of w.batches)) x m all
          (union_shows (Live w.tree) (Flushed w.batches to) (InMemory w.batches to) to m low high x (same x put).0 a),
      λ a. union_shows (Flushed w.batches to) (Live w.tree) (InMemory w.batches to) to m low_live high x (same x put).1
          (newest_same (λ y. IsIn y (entries_of w.batches)) (λ y. Flushed w.batches to y ⊎ InMemory w.batches to y) x m (λ y. ((all y).1, (all y).0)) a),
    )
