-- What devices and sinks tell at one time.
use Rattle.std.specs.Prelude.{ℕ, Bool, List, Option}
use Rattle.disk_model.specs.Directories.{Directories}
use Rattle.disk_model.specs.SinkNames.{SinkNames}
use Rattle.disk_model.specs.Told.{JournalTold, TablesTold}
use Rattle.disk_model.specs.declared.devices.Devices as devices
use Rattle.disk_model.specs.declared.journal.Journal as journal
use Rattle.disk_model.specs.declared.sinks.Sinks as sinks

-- What devices tell: whether their journals tell what files hold, the journal, the tables, which
-- directory was used, and how often choosing one or handing out its journal has failed.
pub record DevicesTold : Type 1 where
  pub tells : Bool
  pub journal : JournalTold
  pub tables : TablesTold
  pub directories : Directories
  pub faults : ℕ

-- What sinks tell: for whom they were opened, how often that or the report has failed, the replies
-- to client 1 and how often their sink has failed, and the report.
pub record SinksTold : Type 0 where
  pub names : SinkNames
  pub faults : ℕ
  pub replies : Option (List ℕ)
  pub reply_faults : ℕ
  pub report : Option (List ℕ)

-- all that a run may change
pub record Outside : Type 1 where
  pub devices : DevicesTold
  pub sinks : SinksTold

-- what these devices tell
abbrev pub devices_told : {D J F P M : Type 0} → journal.Ghosts J → devices.Ghosts D J F P M → D
    → DevicesTold
devices_told j d devices =
    record {
      tells = j.tells;
      journal = d.journal_told devices;
      tables = d.tables_told devices;
      directories = d.directories devices;
      faults = d.faults devices;
    }

-- what these sinks tell
abbrev pub sinks_told : {K O : Type 0} → sinks.Ghosts K O → K → SinksTold
sinks_told k sinks =
    record {
      names = k.names sinks;
      faults = k.faults sinks;
      replies = k.took sinks 1;
      reply_faults = k.client_faults sinks 1;
      report = k.reported sinks;
    }

-- what these devices and sinks tell
abbrev pub outside : {D J F P M K O : Type 0} → journal.Ghosts J → devices.Ghosts D J F P M
    → sinks.Ghosts K O → D → K → Outside
outside j d k devices sinks =
    record { devices = devices_told j d devices; sinks = sinks_told k sinks }
