-- What stands after an event, and after a history.
use Rattle.std.specs.Prelude.{ℕ, suc, ◌+◌, max, Bool, false, ◌&&◌, ◌||◌, not, if◌then◌else◌, List, [], ◌∷◌, ◌++◌, length, map, filter, ◌==◌, Option, Some, None, option_map}
use Rattle.peb_base.specs.Batches.{batches_to}
use Rattle.peb_base.specs.Profiles.{Column}
use Rattle.flsm_model.specs.declared.edit.Edit.{Edit}
use Rattle.flsm_model.specs.declared.edit.Edit.TheVariants.{Open, Flush}
use Rattle.flsm_model.specs.declared.job.Job.{Job}
use Rattle.flsm_model.specs.Trees.{tree_after}
use Rattle.flsm_model.specs.Events.{Event, Opened, Commit, Synced, Look, Hold, Release, Freeze, Begin, Done, Short, JournalFault, Stop, Running, Session, Attempt, Standing, new_session}
use Rattle.flsm_model.specs.Jobs.{numbers_needed}
use Rattle.flsm_model.specs.Outcomes.{level_into, attempts_of}
use Rattle.flsm_model.specs.Ledgers.{Shorts}

-- ---- jobs in flight

-- the job of an actor
abbrev pub job_of : List Running → ℕ → Option Job
job_of [] actor = None
job_of (r ∷ rs) actor = if r.0 == actor then Some r.1 else job_of rs actor

-- the jobs of the other actors
abbrev pub without_job : List Running → ℕ → List Running
without_job rs actor = filter (λ r. not (r.0 == actor)) rs

-- the jobs of an actor
abbrev pub running_of : ℕ → Session → List Running
running_of actor s = filter (λ r. r.0 == actor) s.running

-- these jobs, each cut short after so many bytes
abbrev pub shorts_of : ℕ → List Running → Shorts
shorts_of bytes rs = map (λ r. (level_into r.1, bytes)) rs

-- ---- snapshots

-- the actor holds the number
abbrev pub is_held : ℕ × ℕ → List (ℕ × ℕ) → Bool
is_held p [] = false
is_held p (h ∷ hs) = (p.0 == h.0 && p.1 == h.1) || is_held p hs

-- the snapshots without one of these
abbrev pub held_without : ℕ × ℕ → List (ℕ × ℕ) → List (ℕ × ℕ)
held_without p [] = []
held_without p (h ∷ hs) = if p.0 == h.0 && p.1 == h.1 then hs else h ∷ held_without p hs

-- ---- edits and attempts

-- with a change of the session, if one is open
abbrev pub on_session : (Session → Session) → Standing → Standing
on_session f w = record w { session = option_map f w.session }

-- with one edit more
abbrev pub with_edit : Column → Standing → Edit → Standing
with_edit o w e = record w { edits = w.edits ++ e ∷ []; tree = tree_after o w.batches w.tree e }

-- with one edit more, if there is one
abbrev pub with_last_edit : Column → Standing → Option Edit → Standing
with_last_edit o w None = w
with_last_edit o w (Some e) = with_edit o w e

-- a flush takes the frozen mark away
abbrev pub frozen_left : Edit → Option ℕ → Option ℕ
frozen_left (Flush row from to log chosen) frozen = None
frozen_left e frozen = frozen

-- the attempts, with these jobs of the session among them
abbrev pub attempts_with : Column → Standing → Option Session → (Session → List Running)
    → List Attempt
attempts_with o w None f = w.attempts
attempts_with o w (Some s) f = w.attempts ++ attempts_of o w s (f s)

-- ---- events

-- what stands after an event
abbrev pub step : Column → Standing → Event → Standing
step o w (Opened session log) =
    record (with_edit o w (Open session log)) { session = Some (new_session w log) }
step o w (Commit actor first ops) =
    record (on_session (λ s. record s {
      committed = s.committed + length ops;
    }) w) { batches = w.batches ++ (first, ops) ∷ [] }
step o w (Synced actor n) = on_session (λ s. record s { stable = max s.stable n }) w
step o w (Look actor n) = w
step o w (Hold actor n) = on_session (λ s. record s { held = (actor, n) ∷ s.held }) w
step o w (Release actor n) = on_session (λ s. record s { held = held_without (actor, n) s.held }) w
step o w (Freeze n) =
    on_session (λ s. record s {
      frozen = Some n;
      mem_from = n;
      stable = max s.stable n;
      freezes = suc s.freezes;
    }) w
step o w (Begin actor job) =
    on_session (λ s. record s {
      running = (actor, job) ∷ s.running;
      reserved = s.reserved + numbers_needed job;
    }) w
step o w (Done actor e) =
    on_session (λ s. record s {
      running = without_job s.running actor;
      frozen = frozen_left e s.frozen;
      edits_made = s.edits_made ++ e ∷ [];
    }) (with_edit o w e)
step o w (Short actor cause bytes) =
    on_session (λ s. record s {
      running = without_job s.running actor;
      jobs_cut_short = s.jobs_cut_short ++ shorts_of bytes (running_of actor s);
    }) (record w { attempts = attempts_with o w w.session (running_of actor) })
step o w JournalFault = on_session (λ s. record s { faulted = Some s.running }) w
step o w (Stop n e) =
    record (with_last_edit o w e) {
      batches = batches_to n w.batches;
      attempts = attempts_with o w
          w.session (λ s. s.running);
      session = None;
    }

-- what stands after a history
abbrev pub run : Column → Standing → List Event → Standing
run o w [] = w
run o w (e ∷ es) = run o (step o w e) es
