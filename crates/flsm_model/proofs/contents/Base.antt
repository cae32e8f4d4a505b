-- A true record is a base from which every legal history keeps the laws.
use Rattle.std.proofs.Common.{◌≡◌, ℕ, zero, suc, ◌<◌, true, [], ◌∷◌, replicate, get_or, refl, arith}
use Rattle.std.proofs.lemmas.Bool.{and_parts}
use Rattle.std.proofs.lemmas.List.{length-replicate}
use Rattle.peb_base.specs.Batches.{Batches}
use Rattle.peb_base.specs.Profiles.{column, Column}
use Rattle.peb_base.specs.declared.profile.Profile.{Profile}
use Rattle.peb_base.specs.declared.profile.Profile.TheVariants.{Normal, Small}
use Rattle.flsm_model.specs.Shape.{Record, empty_shape, guards_at}
use Rattle.flsm_model.specs.Fits.{fits, fit_from}
use Rattle.flsm_model.specs.Trees.{Tree, rows_of, tree_after, tree_from, empty_tree}
use Rattle.flsm_model.specs.TrueRecord.{DescribedFrom, IsTrueRecord}
use Rattle.flsm_model.specs.Events.{base}
use Rattle.flsm_model.specs.Legal.{Always}
use Rattle.flsm_model.specs.Placing.{OrderHolds}
use Rattle.flsm_model.proofs.contents.Bound.{rows_step}
use Rattle.flsm_model.proofs.guards.Guards.{AscendFrom}
use Rattle.flsm_model.proofs.guards.InGuards.{InGuards, in_guards_step}
use Rattle.flsm_model.proofs.contents.Falls.{AllFlushed, flushed_step}
use Rattle.flsm_model.proofs.contents.Begin.{Spans, Known}
use Rattle.flsm_model.proofs.contents.Sorts.{AllSorted, sorted_step, spans_step}
use Rattle.flsm_model.proofs.histories.Histories.{known_step, Holds, holds_run}

-- what every legal and described record keeps
pub record Kept (o : Column) (t : Tree) : Type 0 where
  pub rows : rows_of t.tables ≡ t.shape.live
  pub guards : InGuards o t.shape
  pub flushed : AllFlushed t.tables t.shape.to
  pub spans : Spans t.tables
  pub sorted : AllSorted t.tables
  pub known : Known t.shape

no_guards : (n l : ℕ) → AscendFrom [] (get_or (replicate n []) l [])
no_guards zero l = tt
no_guards (suc n) zero = tt
no_guards (suc n) (suc l) = no_guards n l

no_guards_at : (o : Column) (l : ℕ) → AscendFrom [] (guards_at (empty_shape o) l)
no_guards_at o zero = tt
no_guards_at o (suc l) = no_guards o.last_level l

pub kept_empty : (o : Column) → Kept o (empty_tree o)
kept_empty o =
    record {
      rows = refl;
      guards = record { count = length-replicate o.last_level []; ascend = no_guards_at o; rows = tt; inside = tt };
      flushed = record { flushed = λ t x i. absurd i };
      spans = record { spans = λ u y i. absurd i };
      sorted = record { sorted = λ t i. absurd i };
      known = record { known = λ r i. absurd i; older = λ r i. absurd i };
    }

pub kept_from : (o : Column) (bs : Batches) (t : Tree) (r : Record) → fit_from o t.shape r ≡ true → DescribedFrom o bs t r → Kept o t → Kept o (tree_from o bs t r)
kept_from o bs t [] f d k = k
kept_from o bs t (e ∷ es) f d k =
    let p = and_parts (fits o t.shape e) _ f in
    kept_from o bs (tree_after o bs t e) es p.1 d.2 (record {
      rows = rows_step o bs t e d.0 k.rows;
      guards = in_guards_step o t.shape e k.guards p.0;
      flushed = flushed_step o bs t e p.0 k.flushed;
      spans = spans_step o bs t e d.0 k.sorted k.spans;
      sorted = sorted_step o bs t e k.sorted;
      known = known_step o t.shape e p.0 k.known;
    })

pub sound_base : (o : Column) (r : Record) (bs : Batches) → IsTrueRecord o r bs → Holds o (base true o bs r)
sound_base o r bs h =
    let k = kept_from o bs (empty_tree o) r h.legal h.described (kept_empty o) in
    record {
      tells = refl;
      sound = record { rows = k.rows; guards = k.guards; flushed = k.flushed; falls = h.falls; spans = k.spans; sorted = k.sorted; known = k.known };
      jobs = tt;
    }

pub deep : (p : Profile) → 0 < (column p).last_level
deep Normal = omega arith
deep Small = omega arith

pub order_holds : Always OrderHolds
order_holds p bs r h base_true legal = (holds_run (column p) (base true (column p) bs r) h (deep p) (sound_base (column p) r bs base_true) legal).sound.falls
