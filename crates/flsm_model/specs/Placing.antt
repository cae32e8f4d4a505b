-- Where entries lie: in one table, newer ones above older ones, tables within guards.
use Rattle.std.specs.Prelude.{◌≡◌, ℕ, suc, ◌<◌, ◌≤◌, true, List, [], ◌∷◌, ◌++◌, ⊤}
use Rattle.peb_base.specs.Batches.{Batches}
use Rattle.peb_base.specs.Profiles.{column, Column}
use Rattle.flsm_model.specs.Compaction.{is_put}
use Rattle.peb_base.specs.declared.entry.Entry.{Entry}
use Rattle.peb_base.specs.declared.table_row.TableRow.{TableRow}
use Rattle.peb_base.specs.declared.profile.Profile.{Profile}
use Rattle.flsm_model.specs.declared.edit.Edit.{Edit}
use Rattle.flsm_model.specs.declared.edit.Edit.TheVariants.{Move}
use Rattle.flsm_model.specs.Ranges.{range_of}
use Rattle.flsm_model.specs.Shape.{Record, guards_at, has_number}
use Rattle.flsm_model.specs.Fits.{lies_in, is_candidate, is_guard}
use Rattle.flsm_model.specs.Trees.{Table, Tree, tree_of, tree_after}
use Rattle.flsm_model.specs.Writes.{copies_in}
use Rattle.flsm_model.specs.TrueRecord.{Falls, IsTrueRecord}
use Rattle.peb_base.specs.Members.{IsIn}
use Rattle.flsm_model.specs.Events.{Event, Standing, base}
use Rattle.flsm_model.specs.Steps.{run}
use Rattle.flsm_model.specs.Legal.{IsLegal}

-- each entry is in one live table at most
abbrev pub OnePlace : Column → Standing → Type 0
OnePlace o w = (q : ℕ) → copies_in q w.tree.tables ≤ 1

-- a key's numbers fall from each level to every deeper one
abbrev pub OrderHolds : Column → Standing → Type 0
OrderHolds o w = Falls w.tree.tables

-- each live table below level 0 lies in one guard's range of its level
abbrev pub PlaceInGuards : Column → Standing → Type 0
PlaceInGuards o w =
    (r : TableRow) → IsIn r w.tree.shape.live → 0 < r.level
    → lies_in (range_of (guards_at w.tree.shape r.level) r.smallest) r ≡ true

-- a Move finds each candidate of the next level that is the key of a put of its inputs among that
-- level's guards
abbrev pub CutBefore : Tree → Edit → Type 0
CutBefore t (Move level floor inputs outputs) =
    (u : Table) (x : Entry) → IsIn u t.tables → has_number u.row.number inputs ≡ true
    → IsIn x u.entries → is_put x.change ≡ true
    → is_candidate t.shape.chosen (suc level) x.key ≡ true
    → is_guard t.shape (suc level) x.key ≡ true
CutBefore t e = ⊤

-- each of the edits does
abbrev pub CutBeforeFrom : Column → Batches → Tree → Record → Type 0
CutBeforeFrom o bs t [] = ⊤
CutBeforeFrom o bs t (e ∷ es) = CutBefore t e × CutBeforeFrom o bs (tree_after o bs t e) es

-- each Move since the base found its candidates cut
pub record MovesAreCut (o : Column) (r : Record) (w : Standing) : Type 0 where
  pub since : Record
  pub edits : w.edits ≡ r ++ since
  pub cut : CutBeforeFrom o w.batches (tree_of o w.batches r) since

-- so it is after every legal history over a true base
abbrev pub AlwaysCut : Type 0
AlwaysCut =
    (p : Profile) (bs : Batches) (r : Record) (h : List Event) → IsTrueRecord (column p) r bs
    → IsLegal (column p) (base true (column p) bs r) h
    → MovesAreCut (column p) r (run (column p) (base true (column p) bs r) h)
