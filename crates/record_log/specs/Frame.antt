-- Records that wait for the next group, kept as they will be written behind its gate.
use Rattle.std.specs.Prelude.{ℕ, ◌-◌, List, [], ◌∷◌, ◌++◌, length, take, drop}
use Rattle.record_log.specs.Groups.{record_bytes}

-- the length of the records, these, and the next gate, closed
abbrev pub framed : List ℕ → List ℕ
framed records = record_bytes records ++ 0 ∷ []

-- the records between the length and the gate
abbrev pub records_in : List ℕ → List ℕ
records_in bytes = take (length bytes - 5) (drop 4 bytes)
