-- Where an open store stands: the batches that it has, and which of them a crash leaves.
use Rattle.std.specs.Prelude.{◌≡◌, ◌⊎◌, ℕ, ◌+◌, ◌-◌, ◌*◌, ◌^◌, ◌<◌, ◌≤◌, max, map, length, Bool, true, false, List, [], ◌∷◌, ◌++◌, Result, Ok, Err}
use Rattle.peb_base.specs.declared.op.Op.{Op}
use Rattle.peb_base.specs.declared.change.Change.TheVariants.{Put}
use Rattle.peb_base.specs.Keys.{Bytes}
use Rattle.peb_base.specs.declared.limit_kind.LimitKind.{LimitKind}
use Rattle.peb_base.specs.declared.profile.Profile.{Profile}
use Rattle.disk_model.specs.Told.{JournalTold}
use Rattle.peb_base.specs.declared.limit_kind.LimitKind.TheVariants as kinds
use Rattle.peb_base.specs.Batches.{Batches, last_number}
use Rattle.record_log.specs.Groups.{records_bytes}
use Rattle.flsm_model.specs.Shape.{Record}
use Rattle.store_layout.specs.Logs.{record_of}
use Rattle.store_layout.specs.Recorded.{next_opening}
use Rattle.flsm_core.specs.declared.commit_fault.CommitFault.{CommitFault}
use Rattle.flsm_core.specs.declared.commit_fault.CommitFault.TheVariants as commits
use Rattle.flsm_core.specs.declared.sync_fault.SyncFault.{SyncFault}
use Rattle.flsm_core.specs.declared.sync_fault.SyncFault.TheVariants as syncs

-- what an opening begins with
pub record Start : Type 0 where
  -- the journal's moment
  pub moment : ℕ
  -- how often the journal had failed
  pub faults : ℕ
  -- the profile that is asked for
  pub profile : Profile
  -- each image of that moment stands for the base and the record
  pub honest : Bool
  -- the batches that are opened
  pub base : Batches
  -- the record that is opened
  pub edits : Record

-- an opening in this profile, on this base and this record, begins with the journal as it is
abbrev pub start_at : JournalTold → Profile → Bool → Batches → Record → Start
start_at told profile honest base edits =
    record {
      moment = told.moment;
      faults = told.faults;
      profile = profile;
      honest = honest;
      base = base;
      edits = edits;
    }

-- a store since its opening
pub record Place : Type 0 where
  -- what the opening began with
  pub start : Start
  -- the record that every crash leaves, where the opening was honest
  pub edits : Record
  -- the batches that every crash leaves, where the opening was honest
  pub settled : Batches
  -- the batches after them, which a crash may lose
  pub waiting : Batches
  -- the journal has failed
  pub stopped : Bool

-- all batches
abbrev pub all_of : Place → Batches
all_of p = p.settled ++ p.waiting

-- the place right after an opening whose first log is this one: it is recorded
abbrev pub opened : Start → ℕ → Place
opened start log =
    record {
      start = start;
      edits = start.edits ++ next_opening start.profile start.edits log ∷ [];
      settled = start.base;
      waiting = [];
      stopped = false;
    }

-- it is the record of a store at this place
abbrev pub IsRecordOf : Place → Record → Type 0
IsRecordOf p edits = edits ≡ p.edits

-- it is that, or the one that was opened
abbrev pub WasRecordOf : Place → Record → Type 0
WasRecordOf p edits = (edits ≡ p.start.edits) ⊎ (edits ≡ p.edits)

-- the number that the next operation gets: the next one of its session
abbrev pub next_number : ℕ → Batches → ℕ
next_number session batches = max (last_number batches) (session * 2 ^ 40) + 1

-- a batch of one put
abbrev pub put_op : Bytes → Bytes → Op
put_op key value = record { key = key; change = Put value }

-- one more batch waits
abbrev pub with_batch : ℕ → Place → List Op → Place
with_batch session p ops = record p {
  waiting = p.waiting
      ++ (next_number session (all_of p), ops) ∷ [];
}

-- all batches are settled
abbrev pub all_settled : Place → Place
all_settled p = record p { settled = all_of p; waiting = [] }

-- the journal failed: what waits may be lost
abbrev pub halted : Place → Place
halted p = record p { stopped = true }

-- ---- what the calls of a store may answer, and where they lead

-- the next number is past the last one of the session
abbrev pub IsOutOfNumbers : ℕ → Batches → Type 0
IsOutOfNumbers session batches = session * 2 ^ 40 + 2 ^ 40 ≤ next_number session batches

-- the records that wait and one more would take more bytes than a tail may have
abbrev pub IsTailFull : ℕ → Place → List Op → Type 0
IsTailFull session p ops =
    2 ^ 31 < length (records_bytes (map record_of p.waiting)) + 4
    + length (record_of (next_number session (all_of p), ops))

-- no limit is passed
pub record IsWithinLimits (session : ℕ) (p : Place) (ops : List Op) : Type 0 where
  pub numbered : IsOutOfNumbers session (all_of p) → ⊥
  pub fits : IsTailFull session p ops → ⊥

-- the kind's stated number is the first one that would be passed: numbers come before the tail
abbrev pub PassesLimit : ℕ → Place → List Op → LimitKind → ℕ → Type 0
PassesLimit session p ops kind n =
    ((kind ≡ kinds.Operations) × (n ≡ 2 ^ 40 - 1) × IsOutOfNumbers session (all_of p))
    ⊎ ((kind ≡ kinds.Tail) × (n ≡ 2 ^ 31) × (IsOutOfNumbers session (all_of p) → ⊥)
    × IsTailFull session p ops)

-- where a put leads
abbrev pub after_put : ℕ → Place → List Op → Result ℕ CommitFault → Place
after_put session p ops (Ok n) = with_batch session p ops
after_put session p ops (Err fault) = p

-- a put may answer so: its number is the next one; it is refused exactly where the journal has
-- failed before, or where a limit is passed, or for want of memory
abbrev pub Puts : ℕ → Place → List Op → Result ℕ CommitFault → Type 0
Puts session p ops (Ok n) =
    (p.stopped ≡ false) × IsWithinLimits session p ops × (n ≡ next_number session (all_of p))
Puts session p ops (Err commits.Stopped) = p.stopped ≡ true
Puts session p ops (Err (commits.Limit kind n)) = (p.stopped ≡ false)
    × PassesLimit session p ops kind n
Puts session p ops (Err commits.Memory) = p.stopped ≡ false

-- where a sync leads
abbrev pub after_sync : Place → Result ℕ SyncFault → Place
after_sync p (Ok n) = all_settled p
after_sync p (Err syncs.Stopped) = p
after_sync p (Err syncs.Journal) = halted p

-- a sync may answer so: it tells the last number
abbrev pub Syncs : Place → Result ℕ SyncFault → Type 0
Syncs p (Ok n) = (p.stopped ≡ false) × (n ≡ last_number (all_of p))
Syncs p (Err syncs.Stopped) = p.stopped ≡ true
Syncs p (Err syncs.Journal) = p.stopped ≡ false
