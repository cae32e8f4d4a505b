-- Where histories begin and how far they went.
use Rattle.std.specs.Prelude.{◌≡◌, ℕ, ◌<◌, ◌≤◌, List, [], ◌++◌, Some}
use Rattle.peb_base.specs.Profiles.{column, Column}
use Rattle.peb_base.specs.declared.profile.Profile.{Profile}
use Rattle.flsm_model.specs.TrueRecord.{IsTrueRecord}
use Rattle.flsm_model.specs.Events.{Event, Session, Standing, last_of}
use Rattle.flsm_model.specs.Steps.{run}
use Rattle.flsm_model.specs.Legal.{IsLegal}

-- the empty record is true of no batches, so a first opening has a base
abbrev pub EmptyIsTrue : Type 0
EmptyIsTrue = (p : Profile) → IsTrueRecord (column p) [] []

-- each front of a legal history is legal
abbrev pub FrontsAreLegal : Type 0
FrontsAreLegal =
    (o : Column) (w : Standing) (front rest : List Event) → IsLegal o w (front ++ rest)
    → IsLegal o w front

-- a history that is legal from where a legal one leads is legal behind it
abbrev pub HistoriesJoin : Type 0
HistoriesJoin =
    (o : Column) (w : Standing) (h later : List Event) → IsLegal o w h → IsLegal o (run o w h) later
    → IsLegal o w (h ++ later)

-- the last flush is stable, and what is stable is at most the last number; what is frozen lies
-- above that flush, and is stable too
pub record MarksStand (w : Standing) (n : Session) : Type 0 where
  pub flushed : w.tree.shape.to ≤ n.stable
  pub stable : n.stable ≤ last_of w
  pub frozen : (k : ℕ) → n.frozen ≡ Some k → (w.tree.shape.to < k) × (k ≤ n.stable)

-- so it is while a session is open
abbrev pub MarksInOrder : Column → Standing → Type 0
MarksInOrder o w = (n : Session) → w.session ≡ Some n → MarksStand w n
