-- What devices tell of their journal and of their tables.
use Rattle.std.specs.Prelude.{◌≡◌, ◌↔◌, ◌+◌, ℕ, IsTrue}
use Rattle.disk_model.specs.Images.{Image}
use Rattle.disk_model.specs.Tables.{Sealed, TableFiles, Tally, IsTableImage, no_tally, capped, with_port}
use Rattle.disk_model.specs.declared.journal.Journal as journal
use Rattle.disk_model.specs.declared.port.Port as port

-- What is told of a journal: the files as reads give them, what a crash at this moment may leave,
-- the moment, what a crash since each moment might have left, how often a call has failed, and a
-- fact while which `size` and `read` never fail.
pub record JournalTold : Type 1 where
  pub seen : Image
  pub may_leave : Image → Type 0
  pub moment : ℕ
  pub left_since : ℕ → Image → Type 0
  pub faults : ℕ
  pub steady : Type 0

-- What is told of tables: the files that are there, the sealed tables that a crash leaves, what was
-- done by the ports and makers that were handed back, how often a call of these has failed, and a
-- fact while which reads never fail.
pub record TablesTold : Type 1 where
  pub files : TableFiles
  pub kept : Sealed
  pub tally : Tally
  pub faults : ℕ
  pub steady : Type 0

-- what a journal tells of itself
abbrev pub told_by : {J : Type 0} → journal.Ghosts J → J → JournalTold
told_by g journal = record {
  seen = g.seen journal;
  may_leave = g.may_leave journal;
  moment = g.moment journal;
  left_since = g.left_since journal;
  faults = g.faults journal;
  steady = g.steady journal;
}

-- all that is told of a journal is the same, and it is steady where it was
pub record TellsTheSame (old new : JournalTold) : Type 0 where
  pub bytes : new.seen ≡ old.seen
  pub images : (image : Image) → new.may_leave image ↔ old.may_leave image
  pub time : new.moment ≡ old.moment
  pub past : (t : ℕ) (image : Image) → new.left_since t image ↔ old.left_since t image
  pub count : new.faults ≡ old.faults
  pub still_steady : old.steady → new.steady

-- the table files, what a crash leaves of them and what was done stay, and reads are steady where
-- they were
pub record FilesStay (old new : TablesTold) : Type 0 where
  pub there : new.files ≡ old.files
  pub left : new.kept ≡ old.kept
  pub done : new.tally ≡ old.tally
  pub still_steady : old.steady → new.steady

-- all that is told of tables stays, the count of faults too
pub record TablesStay (old new : TablesTold) : Type 0 where
  pub there : new.files ≡ old.files
  pub left : new.kept ≡ old.kept
  pub done : new.tally ≡ old.tally
  pub count : new.faults ≡ old.faults
  pub still_steady : old.steady → new.steady

-- what is told of tables, with the reads and the faults of one port more
abbrev pub after_port : {P F : Type 0} → port.Ghosts P F → P → TablesTold → TablesTold
after_port g port told = record told {
  tally = with_port (g.reads port) told.tally;
  faults = capped (told.faults + g.faults port);
}

-- A crash may leave these table files: of the sealed tables what `IsTableImage` says; of those that
-- were begun and not sealed any or none, with whatever bytes, which are listed and not found.
pub record MayLeaveTables (told : TablesTold) (files : TableFiles) : Type 0 where
  pub sealed : IsTableImage told.kept told.tally.gone files.sealed
  pub unsealed : (n : ℕ) → IsTrue (files.is_unsealed n) → IsTrue (told.files.is_unsealed n)

-- no table is to come back, and nothing was done
pub record TablesRest (told : TablesTold) : Type 0 where
  pub all_there : (n : ℕ) → told.kept n ≡ told.files.sealed n
  pub nothing_done : told.tally ≡ no_tally
