-- What a write of a script may answer, and where it leads.
use Rattle.std.specs.Prelude.{◌≡◌, ◌⊎◌, ℕ, Bool, true, false, if◌then◌else◌, List, Result, Ok, Err}
use Rattle.peb_base.specs.declared.op.Op.{Op}
use Rattle.flsm_core.specs.declared.commit_fault.CommitFault.{CommitFault}
use Rattle.flsm_core.specs.declared.commit_fault.CommitFault.TheVariants as commits
use Rattle.flsm_core.specs.Place.{Place, all_of, next_number, with_batch, all_settled, halted, IsWithinLimits, PassesLimit}
use Rattle.pebbles_cli.specs.declared.write_fault.WriteFault.{WriteFault}
use Rattle.pebbles_cli.specs.declared.write_fault.WriteFault.TheVariants as writes

-- the fault of a write that isn't committed
abbrev pub refused : CommitFault → WriteFault
refused commits.Stopped = writes.Stopped
refused (commits.Limit kind n) = writes.Limit kind n
refused commits.Memory = writes.Memory

-- where a write leads: one more batch, which waits unless a sync was asked for
abbrev pub after_write : ℕ → Place → List Op → Bool → Result ℕ WriteFault → Place
after_write session p ops sync (Ok n) =
    if sync then all_settled (with_batch session p ops) else with_batch session p ops
after_write session p ops sync (Err (writes.Unsynced n)) = halted (with_batch session p ops)
after_write session p ops sync (Err writes.Stopped) = p
after_write session p ops sync (Err (writes.Limit kind n)) = p
after_write session p ops sync (Err writes.Memory) = p

-- a write may answer so: its number is the next one; it is refused exactly where the journal has
-- failed before, or where a limit is passed
abbrev pub Writes : ℕ → Place → List Op → Bool → Result ℕ WriteFault → Type 0
Writes session p ops sync (Ok n) =
    (p.stopped ≡ false) × IsWithinLimits session p ops × (n ≡ next_number session (all_of p))
Writes session p ops sync (Err (writes.Unsynced n)) =
    (p.stopped ≡ false) × (sync ≡ true) × IsWithinLimits session p ops
    × (n ≡ next_number session (all_of p))
Writes session p ops sync (Err writes.Stopped) = p.stopped ≡ true
Writes session p ops sync (Err (writes.Limit kind n)) = (p.stopped ≡ false)
    × PassesLimit session p ops kind n
Writes session p ops sync (Err writes.Memory) = p.stopped ≡ false

-- where a sync leads that comes right after a write
abbrev pub after_stable : Place → Result ℕ WriteFault → Place
after_stable p (Ok n) = all_settled p
after_stable p (Err fault) = halted p

-- a sync right after the write of this number tells the number
abbrev pub IsStable : ℕ → Result ℕ WriteFault → Type 0
IsStable number result = (result ≡ Ok number) ⊎ (result ≡ Err (writes.Unsynced number))
