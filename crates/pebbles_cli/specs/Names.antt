-- Which directory and which file a run uses.
use Rattle.std.specs.Prelude.{◌≡◌, ◌⊎◌, ℕ, List, ◌++◌, codes}
use Rattle.disk_model.specs.Directories.{Directories, after_choice, after_opening}
use Rattle.disk_model.specs.SinkNames.{Label}

-- the name of the file of the replies to the script FILE
abbrev pub replies_name : List ℕ → List ℕ
replies_name file = file ++ codes ".out"

-- the label of a sink for client 1 under this name
abbrev pub replies_label : List ℕ → Label
replies_label name = record { client = 1; name = name }

-- no directory but this one was chosen, and no journal but its own was handed out, each at most
-- once
abbrev pub OpensAtMost : List ℕ → Directories → Directories → Type 0
OpensAtMost dir old new =
    (new ≡ old) ⊎ ((new ≡ after_choice dir old) ⊎ (new ≡ after_opening (after_choice dir old)))
