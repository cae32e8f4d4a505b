-- What was read of a script, where its bytes are told.
use Rattle.std.specs.Prelude.{◌≡◌, ℕ, ◌<◌, ◌≤◌, List, ◌++◌, length, drop, Option, Some, None}

-- these are all bytes of the script
abbrev pub IsWhole : Option (List ℕ) → List ℕ → Type 0
IsWhole None bytes = Unit {0}
IsWhole (Some text) bytes = bytes ≡ text

-- the script has at most n bytes
abbrev pub IsWithin : Option (List ℕ) → ℕ → Type 0
IsWithin None n = Unit {0}
IsWithin (Some text) n = length text ≤ n

-- the script has more than n bytes
abbrev pub HasMore : Option (List ℕ) → ℕ → Type 0
HasMore None n = Unit {0}
HasMore (Some text) n = n < length text

-- the script begins with these bytes
abbrev pub Begins : Option (List ℕ) → List ℕ → Type 0
Begins None bytes = Unit {0}
Begins (Some text) bytes = text ≡ bytes ++ drop (length bytes) text
