-- What happens to a store, one event after another, and what stands after it.
use Rattle.std.specs.Prelude.{ℕ, max, Bool, List, [], Option, None}
use Rattle.peb_base.specs.Batches.{Batches, last_number}
use Rattle.peb_base.specs.declared.entry.Entry.{Entry}
use Rattle.peb_base.specs.declared.op.Op.{Op}
use Rattle.peb_base.specs.Profiles.{Column}
use Rattle.flsm_model.specs.declared.edit.Edit.{Edit}
use Rattle.flsm_model.specs.declared.job.Job.{Job}
use Rattle.flsm_model.specs.declared.short_cause.ShortCause.{ShortCause}
use Rattle.flsm_model.specs.Shape.{Record}
use Rattle.flsm_model.specs.Ledgers.{Shorts}
use Rattle.flsm_model.specs.Trees.{Tree, tree_of}

-- each is one turn of one actor at the store; `n` is the number that it was told, or names
pub data Event : Type 0 where
  Opened : (session log : ℕ) → Event
  Commit : (actor first : ℕ) (ops : List Op) → Event
  Synced : (actor n : ℕ) → Event
  Look : (actor n : ℕ) → Event
  Hold : (actor n : ℕ) → Event
  Release : (actor n : ℕ) → Event
  Freeze : (n : ℕ) → Event
  Begin : (actor : ℕ) (job : Job) → Event
  Done : (actor : ℕ) (edit : Edit) → Event
  Short : (actor : ℕ) (cause : ShortCause) (bytes : ℕ) → Event
  JournalFault : Event
  Stop : (n : ℕ) (edit : Option Edit) → Event

-- a job in flight with its actor
abbrev pub Running : Type 0
Running = ℕ × Job

-- what stands within a session, that is from an opening to the next stop
pub record Session : Type 0 where
  pub log : ℕ  -- its first log
  pub stable : ℕ  -- every stop leaves the batches up to this number
  pub committed : ℕ  -- operations
  pub reserved : ℕ  -- table numbers
  pub freezes : ℕ
  pub mem_from : ℕ  -- the memtable has the entries above it
  pub frozen : Option ℕ  -- frozen up to this number, and not flushed
  pub held : List (ℕ × ℕ)  -- actors with the snapshots that they hold
  pub running : List Running
  -- after the journal's fault: the jobs that were in flight at it
  pub faulted : Option (List Running)
  pub edits_made : Record  -- after the opening's own edit
  pub jobs_cut_short : Shorts  -- the level into which each wrote, and the bytes

-- a job that was cut short, or in flight at a stop: the level into which it wrote, and the contents
-- of its outcome
abbrev pub Attempt : Type 0
Attempt = ℕ × List (List Entry)

-- what stands after a history
pub record Standing : Type 0 where
  -- whether the entries of its tables are known: over devices that tell their bytes
  pub told : Bool
  pub batches : Batches
  pub edits : Record
  pub tree : Tree
  pub attempts : List Attempt
  pub session : Option Session

-- the last number: of the batches, or of the last flush where that is greater, as over tables of
-- which nothing is read
abbrev pub last_of : Standing → ℕ
last_of w = max (last_number w.batches) w.tree.shape.to

-- before the first event, over batches and a record
abbrev pub base : Bool → Column → Batches → Record → Standing
base told o bs r =
    record {
      told = told;
      batches = bs;
      edits = r;
      tree = tree_of o bs r;
      attempts = [];
      session = None;
    }

-- a session right after its opening
abbrev pub new_session : Standing → ℕ → Session
new_session w log =
    record {
      log = log;
      stable = last_of w;
      committed = 0;
      reserved = 0;
      freezes = 0;
      mem_from = w.tree.shape.to;
      frozen = None;
      held = [];
      running = [];
      faulted = None;
      edits_made = [];
      jobs_cut_short = [];
    }
