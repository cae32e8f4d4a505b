-- What the fault of a record means to an append.
use Rattle.record_log.specs.declared.add_fault.AddFault.{AddFault}
use Rattle.record_log.specs.declared.add_fault.AddFault.TheVariants as adds
use Rattle.manifest.specs.declared.append_fault.AppendFault.{AppendFault}
use Rattle.manifest.specs.declared.append_fault.AppendFault.TheVariants as appends

abbrev pub append_fault : AddFault → AppendFault
append_fault adds.Full = appends.Full
append_fault adds.Memory = appends.Memory
