-- Which place a fault tells.
use Rattle.std.specs.Prelude.{ℕ}
use Rattle.record_log.specs.declared.log_fault.LogFault.{LogFault}
use Rattle.record_log.specs.declared.log_fault.LogFault.TheVariants.{Fault, Damaged, Memory}

-- P of the place of the damage, where damage is what the fault tells
abbrev pub AtDamage : LogFault → (ℕ → Type 0) → Type 0
AtDamage Fault P = Unit {0}
AtDamage (Damaged at) P = P at
AtDamage Memory P = Unit {0}

-- the device didn't fail
abbrev pub IsNoFault : LogFault → Type 0
IsNoFault Fault = ⊥
IsNoFault (Damaged at) = Unit {0}
IsNoFault Memory = Unit {0}
