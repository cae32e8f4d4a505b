-- The plans of what is kept in memory.
use Rattle.std.specs.Arc.{arc_value}
use Rattle.disk_model.specs.declared.fail_plan.FailPlan.{FailPlan}
use Rattle.disk_model.specs.declared.plans.Plans.{Plans}
use Rattle.disk_model.specs.declared.mem_journal.MemJournal.{MemJournal}
use Rattle.disk_model.specs.declared.mem_devices.MemDevices.{MemDevices}

-- the plan of a journal
abbrev pub journal_plan : MemJournal → FailPlan
journal_plan journal = journal.turns.plan

-- the plans of devices: that of the journal which is at hand, and those of the ports and the makers
abbrev pub plans_of : MemDevices → Plans
plans_of devices = record {
  journal = journal_plan devices.journal;
  port = (arc_value devices.ports).plan;
  maker = (arc_value devices.makers).plan;
}
