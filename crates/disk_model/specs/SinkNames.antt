-- What sinks tell of names.
use Rattle.std.specs.Prelude.{ℕ, ◌+◌, ◌==◌, List, Option, None, Some, if◌then◌else◌}
use Rattle.disk_model.specs.Tables.{capped}

-- for which client a sink was opened, and the bytes of the name that it was opened under
pub record Label : Type 0 where
  pub client : ℕ
  pub name : List ℕ

-- the name of a label, if there is one
abbrev pub name_of : Option Label → Option (List ℕ)
name_of None = None
name_of (Some label) = Some label.name

-- how often a client's sink was opened, a count that stays at 2^64 - 1, and for each client the
-- label of the sink that was handed back for it last
pub record SinkNames : Type 0 where
  pub opened : ℕ
  pub returned : ℕ → Option Label

-- one sink more was opened
abbrev pub after_client : SinkNames → SinkNames
after_client names = record names { opened = capped (names.opened + 1) }

-- a sink with this label was handed back for this client
abbrev pub after_return : ℕ → Label → SinkNames → SinkNames
after_return index label names =
    record names { returned = λ i. if index == i then Some label else names.returned i }
