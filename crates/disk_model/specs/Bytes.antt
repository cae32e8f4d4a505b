-- What is fetched from a script and taken by a sink, where it is told.
use Rattle.std.specs.Prelude.{◌≡◌, ℕ, ◌<◌, ◌≤◌, List, [], ◌++◌, length, take, drop, Option, Some, None, Result, Ok, Err}
use Rattle.disk_model.specs.declared.failed.Failed.{Failed}

-- a call copied the text's bytes from a place on, and none only where none are left or asked for
abbrev pub Fetches : Option (List ℕ) → ℕ → Result ℕ Failed → List ℕ → Type 0
Fetches text at (Err e) out = Unit {0}
Fetches None at (Ok n) out = n ≤ length out
Fetches (Some text) at (Ok n) out =
    (n ≤ length out) × (n ≤ length (drop at text)) × (take n out ≡ take n (drop at text))
    × (n ≡ 0 → 0 < length out → drop at text ≡ [])

-- a call took all of these bytes after those taken before, or some first ones where it failed
abbrev pub Takes : Option (List ℕ) → List ℕ → Result (Unit {0}) Failed → Option (List ℕ) → Type 0
Takes None bytes result new = new ≡ None
Takes (Some old) bytes (Ok _) new = new ≡ Some (old ++ bytes)
Takes (Some old) bytes (Err _) new = (k : ℕ) × (new ≡ Some (old ++ take k bytes))

-- nothing was taken
abbrev pub IsFresh : Option (List ℕ) → Type 0
IsFresh None = Unit {0}
IsFresh (Some taken) = taken ≡ []
