-- Where a write leads, by the store's answers.
use Rattle.std.proofs.Common.{◌≡◌, ℕ, Bool, true, List, Result, Ok, Err, refl, sym, subst, inl, inr}
use Rattle.peb_base.specs.declared.op.Op.{Op}
use Rattle.flsm_core.specs.declared.commit_fault.CommitFault.{CommitFault}
use Rattle.flsm_core.specs.declared.commit_fault.CommitFault.TheVariants as commits
use Rattle.flsm_core.specs.Place.{Place, with_batch, Puts}
use Rattle.pebbles_cli.specs.declared.write_fault.WriteFault.{WriteFault}
use Rattle.pebbles_cli.specs.declared.write_fault.WriteFault.TheVariants as writes
use Rattle.pebbles_cli.specs.Writes.{refused, after_write, Writes, after_stable, IsStable}

-- a refused put is a refused write
pub refused_leads : (session : ℕ) (p : Place) (ops : List Op) (sync : Bool) (fault : CommitFault) → after_write session p ops sync (Err (refused fault)) ≡ p
refused_leads session p ops sync commits.Stopped = refl
refused_leads session p ops sync (commits.Limit kind n) = refl
refused_leads session p ops sync commits.Memory = refl

pub refused_answers : (session : ℕ) (p : Place) (ops : List Op) (sync : Bool) (fault : CommitFault) → Puts session p ops (Err fault) → Writes session p ops sync (Err (refused fault))
refused_answers session p ops sync commits.Stopped puts = puts
refused_answers session p ops sync (commits.Limit kind n) puts = puts
refused_answers session p ops sync commits.Memory puts = puts

-- a put, and a sync right after it
pub stable_leads : (session : ℕ) (p : Place) (ops : List Op) (n : ℕ) (result : Result ℕ WriteFault) → IsStable n result
    → after_stable (with_batch session p ops) result ≡ after_write session p ops true result
stable_leads session p ops n (Ok m) stable = refl
stable_leads session p ops n (Err (writes.Unsynced m)) stable = refl
stable_leads session p ops n (Err writes.Stopped) (inl is) = absurd cc
stable_leads session p ops n (Err writes.Stopped) (inr is) = absurd cc
stable_leads session p ops n (Err (writes.Limit kind m)) (inl is) = absurd cc
stable_leads session p ops n (Err (writes.Limit kind m)) (inr is) = absurd cc
stable_leads session p ops n (Err writes.Memory) (inl is) = absurd cc
stable_leads session p ops n (Err writes.Memory) (inr is) = absurd cc

pub stable_answers : (session : ℕ) (p : Place) (ops : List Op) (n : ℕ) (result : Result ℕ WriteFault) → IsStable n result → Puts session p ops (Ok n) → Writes session p ops true result
stable_answers session p ops n result (inl is) puts = subst (Writes session p ops true) (sym is) puts
stable_answers session p ops n result (inr is) puts = subst (Writes session p ops true) (sym is) (puts.0, refl, puts.1, puts.2)
