-- What the layers above may say of a state.
use Rattle.std.specs.Prelude.{ℕ}
use Rattle.disk_model.specs.declared.journal_file.JournalFile.{JournalFile}
use Rattle.record_log.specs.State.{log_file}
use Rattle.flsm_core.specs.declared.state.State.{State}

-- the session of its opening
abbrev pub state_session : {J : Type 0} → State J → ℕ
state_session state = state.session

-- the journal that it keeps its logs in
abbrev pub state_journal : {J : Type 0} → State J → J
state_journal state = state.journal

-- the file of its own log
abbrev pub state_file : {J : Type 0} → State J → JournalFile
state_file state = log_file state.log
