-- An edit that a worker makes of a running job, and why it may be installed whenever the job is
-- done.
use Rattle.std.specs.Prelude.{◌≡◌, ℕ, ◌+◌, Bool, true, false, ◌&&◌, List, length, map, flat_map, nat_lt, nat_le, ◌==◌, ⊤, Some}
use Rattle.std.specs.List.{list_all, AllZip}
use Rattle.flsm_model.specs.Compaction.{kept, pieces, some_entries}
use Rattle.peb_base.specs.Tables.{is_row}
use Rattle.flsm_model.specs.Fits.{lies_in, lie_apart, range_of_row, are_choices, numbers_differ}
use Rattle.flsm_model.specs.Trees.{Describes, contents, content_of}
use Rattle.peb_base.specs.Entries.{in_order}
use Rattle.peb_base.specs.declared.entry.Entry.{Entry}
use Rattle.peb_base.specs.Profiles.{Column}
use Rattle.flsm_model.specs.declared.edit.Edit.{Edit}
use Rattle.flsm_model.specs.declared.edit.Edit.TheVariants.{Flush, Move, Cut, Merge}
use Rattle.flsm_model.specs.declared.job_kind.JobKind.{JobKind}
use Rattle.flsm_model.specs.declared.job_kind.JobKind.TheVariants.{Flush as FlushJob, Move as MoveJob, Cut as CutJob, Merge as MergeJob}
use Rattle.flsm_model.specs.declared.job.Job.{Job}
use Rattle.flsm_model.specs.Shape.{Shape, has_number, outputs_of}
use Rattle.flsm_model.specs.Choices.{Chooses}
use Rattle.peb_base.specs.Members.{IsIn}
use Rattle.flsm_model.specs.Events.{Event, Session, Standing, Running}
use Rattle.flsm_model.specs.Jobs.{numbers_needed, job_range}
use Rattle.flsm_model.specs.Outcomes.{level_into, outcome, frozen_entries, IsEditOf, IsOutcome}
use Rattle.flsm_model.specs.Steps.{step}
use Rattle.flsm_model.specs.Legal.{AllowedIn}

-- a Flush begins where the last one ended
abbrev pub StartsAt : ℕ → Edit → Type 0
StartsAt to (Flush row from upto log chosen) = from ≡ to
StartsAt to e = ⊤

-- how rows lie by the keys of a job of the kind: a Flush's entries and chosen keys, a Move's and a
-- Cut's pieces, a Merge's one table
abbrev pub suits : JobKind → Column → Shape → Job → Edit → Bool
suits FlushJob o s j (Flush row from to log chosen) =
    nat_lt from row.first && nat_le row.last to && are_choices o s chosen
suits MoveJob o s j (Move level floor inputs outputs) = lie_apart j.keys outputs
suits CutJob o s j (Cut level keys inputs outputs) =
    list_all (λ r. lies_in (range_of_row j.keys r) r) outputs
suits MergeJob o s j (Merge floor whole inputs outputs) = nat_le (length outputs) 1
suits k o s j e = false

-- the rows of an edit of the job are in their form, lie in the job's range, and lie there as its
-- kind asks
pub record RowsSuit (o : Column) (s : Shape) (j : Job) (e : Edit) : Type 0 where
  pub form : list_all (is_row 0) (outputs_of e) ≡ true
  pub inside : list_all (lies_in (job_range j)) (outputs_of e) ≡ true
  pub pieces : suits j.kind o s j e ≡ true

-- the edit is one that the job's worker makes: rows of the job's level, with numbers of its own,
-- that describe the outcome's contents, or, where contents aren't known, suit the job
pub record IsMade (o : Column) (w : Standing) (n : Session) (j : Job) (e : Edit) : Type 0 where
  pub same : IsEditOf j.kind n j e
  pub starts : StartsAt w.tree.shape.to e
  pub holds : w.told ≡ true → AllZip (Describes o) (outputs_of e) (contents o w.batches w.tree e)
  pub chooses : w.told ≡ true → Chooses o w.batches w.tree e
  pub rows : w.told ≡ false → RowsSuit o w.tree.shape j e
  pub levels : list_all (λ r. r.level == level_into j && r.tier == 0) (outputs_of e) ≡ true
  pub numbers : list_all (λ r. nat_le j.numbers r.number
      && nat_lt r.number (j.numbers + numbers_needed j)) (outputs_of e) ≡ true
  pub differ : numbers_differ (map (λ r. r.number) (outputs_of e)) ≡ true

-- whatever other jobs did since, such an edit of a job in flight fits the record and is the job's
-- outcome
abbrev pub OutcomesFit : Column → Standing → Type 0
OutcomesFit o w =
    (n : Session) → w.session ≡ Some n → (r : Running) → IsIn r n.running → (e : Edit)
    → IsMade o w n r.1 e → IsOutcome o w n r.1 e

-- all entries of the parts, in order
abbrev pub entries_of_parts : List (List Entry) → List Entry
entries_of_parts parts = in_order (flat_map (λ es. es) parts)

-- what a job of the kind makes of its parts: a Flush one table of each, a Move what is kept in pieces
-- by its own keys, a Cut the pieces of each, a Merge one table of what is kept
abbrev pub made_by : JobKind → Job → List (List Entry) → List (List Entry)
made_by FlushJob j parts = parts
made_by MoveJob j parts = pieces (kept (entries_of_parts parts) j.floor false) j.keys
made_by CutJob j parts = flat_map (λ es. pieces es j.keys) parts
made_by MergeJob j parts = some_entries (kept (entries_of_parts parts) j.floor j.whole)

-- what a job makes of its parts
abbrev pub made_of : Job → List (List Entry) → List (List Entry)
made_of j parts = made_by j.kind j parts

-- the parts of a job of the kind: what is frozen, or the contents of its inputs, in their order
abbrev pub parts_at : JobKind → Standing → Session → Job → List (List Entry)
parts_at FlushJob w n j = frozen_entries w.batches w.tree.shape.to n.frozen
parts_at MoveJob w n j = map (content_of w.tree.tables) j.inputs
parts_at CutJob w n j = map (content_of w.tree.tables) j.inputs
parts_at MergeJob w n j = map (content_of w.tree.tables) j.inputs

-- the parts of a job
abbrev pub parts_of : Standing → Session → Job → List (List Entry)
parts_of w n j = parts_at j.kind w n j

-- the outcome of a job in flight is what the job makes of its parts; while it stays in flight, the
-- inputs' entries and the outcome stay
pub record OutcomeStands (o : Column) (w : Standing) (n : Session) (r : Running) : Type 0 where
  pub own : outcome o w n r.1 ≡ made_of r.1 (parts_of w n r.1)
  pub inputs : (e : Event) (m : Session) → AllowedIn o w n e → (step o w e).session ≡ Some m
      → IsIn r m.running
      → (k : ℕ) → has_number k r.1.inputs ≡ true
      → content_of (step o w e).tree.tables k ≡ content_of w.tree.tables k
  pub stays : (e : Event) (m : Session) → AllowedIn o w n e → (step o w e).session ≡ Some m
      → IsIn r m.running → outcome o (step o w e) m r.1 ≡ outcome o w n r.1

-- so it is of each job in flight
abbrev pub OutcomesStay : Column → Standing → Type 0
OutcomesStay o w =
    (n : Session) → w.session ≡ Some n → (r : Running) → IsIn r n.running → OutcomeStands o w n r
