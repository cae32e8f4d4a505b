-- The scripts that are kept in memory.
use Rattle.std.specs.Prelude.{ℕ, List, [], ◌∷◌, Option, None, Some, if◌then◌else◌, string_bytes}
use Rattle.std.specs.Str.{bytes_eq}
use Rattle.disk_model.specs.declared.script_text.ScriptText.{ScriptText}

-- the bytes of the script of a name; of two with one name the first counts
abbrev pub text_of : List ScriptText → List ℕ → Option (List ℕ)
text_of [] name = None
text_of (script ∷ rest) name =
    if bytes_eq name (string_bytes script.name) then Some script.text.items else text_of rest name
