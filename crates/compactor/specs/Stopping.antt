-- When a flush is stopped.
use Rattle.std.specs.Prelude.{◌≡◌, ℕ, List, [], ◌∷◌, ◌++◌, Option, Some}
use Rattle.std.specs.Option.{option_or}
use Rattle.flsm_model.specs.declared.short_cause.ShortCause.{ShortCause}
use Rattle.flsm_model.specs.declared.short_cause.ShortCause.TheVariants as causes
use Rattle.peb_base.specs.Faults.{Rose}
use Rattle.peb_base.specs.declared.entry.Entry.{Entry}
use Rattle.table_file.specs.Form.{blocks_of}
use Rattle.table_file.specs.Limits.{push_fault, blocks_fault}
use Rattle.table_file.specs.declared.put_fault.PutFault.{PutFault}
use Rattle.table_file.specs.declared.put_fault.PutFault.TheVariants.{Fault, Limit, Memory}

-- the first limit that stops further entries of a table behind those that were pushed, or its end
abbrev pub fault_behind : ℕ → List Entry → List Entry → Option PutFault
fault_behind full pushed [] = blocks_fault (blocks_of full pushed)
fault_behind full pushed (e ∷ es) =
    option_or (push_fault full pushed e) (fault_behind full (pushed ++ e ∷ []) es)

-- the limit that stops a table of these entries
abbrev pub table_fault : ℕ → List Entry → Option PutFault
table_fault full es = fault_behind full [] es

-- where the fault is a limit, it is this one
abbrev pub IsMet : Option PutFault → PutFault → Type 0
IsMet limit Fault = Unit {0}
IsMet limit Memory = Unit {0}
IsMet limit (Limit kind n) = limit ≡ Some (Limit kind n)

-- the job was stopped by a device whose count of faults rose, by this limit, or for want of memory
abbrev pub IsStoppedBy : Option PutFault → ℕ → ℕ → ShortCause → Type 0
IsStoppedBy limit before now causes.Fault = Rose before now
IsStoppedBy limit before now (causes.Damaged table at) = ⊥
IsStoppedBy limit before now (causes.Limit kind n) = limit ≡ Some (Limit kind n)
IsStoppedBy limit before now causes.Memory = Unit {0}

-- the same fault as the cause of a job's end
abbrev pub cause_of : PutFault → ShortCause
cause_of Fault = causes.Fault
cause_of (Limit kind n) = causes.Limit kind n
cause_of Memory = causes.Memory
