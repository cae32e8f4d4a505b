-- The names that devices keep of directories.
use Rattle.std.specs.Prelude.{ℕ, ◌==◌, List, Option, None, Some, if◌then◌else◌}
use Rattle.disk_model.specs.declared.opened.Opened.{Opened}
use Rattle.disk_model.specs.declared.opened.Opened.TheVariants.{Nothing, Chosen, Earlier}

-- the name that was chosen last, where so many were
abbrev pub chosen_name : ℕ → List ℕ → Option (List ℕ)
chosen_name choices name = if choices == 0 then None else Some name

-- the name of the directory whose journal was handed out last
abbrev pub opened_name : Opened → Option (List ℕ) → List ℕ → Option (List ℕ)
opened_name Nothing chosen earlier = None
opened_name Chosen chosen earlier = chosen
opened_name Earlier chosen earlier = Some earlier
