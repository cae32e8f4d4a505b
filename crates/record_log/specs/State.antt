-- What the layers above may say of a log file.
use Rattle.std.specs.Prelude.{◌≤◌, ℕ, ◌+◌, ◌-◌, ◌^◌, List, length, vec_len, vec_capacity}
use Rattle.disk_model.specs.declared.journal_file.JournalFile.{JournalFile}
use Rattle.record_log.specs.declared.tail.Tail.{Tail}
use Rattle.record_log.specs.declared.log_file.LogFile.{LogFile}
use Rattle.record_log.specs.Frame.{records_in}

-- the records that wait
abbrev pub waiting : Tail → List ℕ
waiting tail = records_in tail.group.items

-- how many more bytes of records a tail takes without memory
abbrev pub room_of : Tail → ℕ
room_of tail = vec_capacity tail.group - vec_len tail.group

-- the file that the log is
abbrev pub log_file : LogFile → JournalFile
log_file log = log.file

-- the place of the gate that the next group will open
abbrev pub log_place : LogFile → ℕ
log_place log = log.place

-- the records that wait for the next group, as they will be written
abbrev pub log_tail : LogFile → List ℕ
log_tail log = waiting log.tail

-- how many more bytes of records fit without memory
abbrev pub log_room : LogFile → ℕ
log_room log = room_of log.tail

-- a record with a body of this length, or of less, is added without memory and within the limit
pub record HasRoom (log : LogFile) (len : ℕ) : Type 0 where
  pub room : 4 + len ≤ log_room log
  pub within : length (log_tail log) + 4 + len ≤ 2 ^ 31
