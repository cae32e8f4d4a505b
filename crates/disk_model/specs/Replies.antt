-- What calls do with sinks.
use Rattle.std.specs.Prelude.{◌≡◌, ℕ}
use Rattle.disk_model.specs.declared.sinks.Sinks.{Ghosts}

-- what is told of the clients' sinks stays: their names, the bytes that they took, and their counts
-- of faults
pub record ClientsStay {K O : Type 0} (g : Ghosts K O) (old new : K) : Type 0 where
  pub names : g.names new ≡ g.names old
  pub took : (i : ℕ) → g.took new i ≡ g.took old i
  pub faults : (i : ℕ) → g.client_faults new i ≡ g.client_faults old i
