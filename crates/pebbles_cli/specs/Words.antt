-- The words of a run.
use Rattle.std.specs.Prelude.{ℕ, Bool, false, not, ◌&&◌, ◌==◌, if◌then◌else◌, List, [], ◌∷◌, Option, Some, None, codes}
use Rattle.std.specs.Str.{bytes_eq}
use Rattle.pebbles_cli.specs.declared.words.Names.{Names}

-- neither empty nor an option
abbrev pub is_name : List ℕ → Bool
is_name [] = false
is_name (c ∷ cs) = not (c == 45)

-- these seven words are those of a run
abbrev pub are_run : List ℕ → List ℕ → List ℕ → List ℕ → List ℕ → List ℕ → List ℕ → Bool
are_run run profile small workers count dir file =
    bytes_eq run (codes "run") && bytes_eq profile (codes "--profile")
    && bytes_eq small (codes "small") && bytes_eq workers (codes "--workers")
    && bytes_eq count (codes "0") && is_name dir && is_name file

-- the directory and the script that words name
abbrev pub run_words : List (List ℕ) → Option (List ℕ × List ℕ)
run_words (run ∷ profile ∷ small ∷ workers ∷ count ∷ dir ∷ file ∷ []) =
    if are_run run profile small workers count dir file then Some (dir, file) else None
run_words _ = None

-- the names as bytes
abbrev pub names_of : Names → List ℕ × List ℕ
names_of names = (names.dir.now, names.file.now)
