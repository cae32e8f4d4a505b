-- What devices and calls do with makers.
use Rattle.std.specs.Prelude.{◌≡◌, ℕ, ◌≤◌, None}
use Rattle.peb_base.specs.Faults.{Rose}
use Rattle.disk_model.specs.declared.maker.Maker.{Ghosts}
use Rattle.disk_model.specs.Tables.{none_gone}

-- a maker that did nothing yet
pub record IsNewMaker {M F : Type 0} (g : Ghosts M F) (maker : M) : Type 0 where
  pub no_faults : g.faults maker ≡ 0
  pub no_bytes : g.taken maker ≡ 0
  pub none_gone_yet : g.gone maker ≡ none_gone
  pub none_begun : g.begun maker ≡ None
  pub none_sealed : (n : ℕ) → g.sealed maker n ≡ None

-- the maker took no table away, and the call failed by it only where its count of faults rose
pub record TakesNothingAway {M F : Type 0} (g : Ghosts M F) (old new : M)
    (failed : Type 0) : Type 0 where
  pub gone : g.gone new ≡ g.gone old
  pub later : g.faults old ≤ g.faults new
  pub cause : failed → Rose (g.faults old) (g.faults new)

-- the maker sealed no table and took none away, and the call failed by it only where its count of
-- faults rose
pub record SealsNothing {M F : Type 0} (g : Ghosts M F) (old new : M)
    (failed : Type 0) : Type 0 where
  pub sealed : g.sealed new ≡ g.sealed old
  pub gone : g.gone new ≡ g.gone old
  pub later : g.faults old ≤ g.faults new
  pub cause : failed → Rose (g.faults old) (g.faults new)

-- the maker wrote at most: it began, sealed and took away no table, and the call failed by it only
-- where its count of faults rose
pub record WritesAtMost {M F : Type 0} (g : Ghosts M F) (old new : M)
    (failed : Type 0) : Type 0 where
  pub begun : g.begun new ≡ g.begun old
  pub sealed : g.sealed new ≡ g.sealed old
  pub gone : g.gone new ≡ g.gone old
  pub later : g.faults old ≤ g.faults new
  pub cause : failed → Rose (g.faults old) (g.faults new)
