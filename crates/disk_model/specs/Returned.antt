-- What is told of the sinks in memory that were handed back.
use Rattle.std.specs.Prelude.{ℕ, ◌==◌, List, Option, None, Some, if◌then◌else◌}
use Rattle.disk_model.specs.SinkNames.{Label}
use Rattle.disk_model.specs.declared.returned.Returned.{Returned}
use Rattle.disk_model.specs.declared.returned.Returned.TheVariants.{Nothing, Sink'}

-- the bytes that the sink of a client took which was handed back last
abbrev pub took_by : Returned → ℕ → Option (List ℕ)
took_by Nothing index = None
took_by (Sink' client label taken place earlier) index =
    if client == index then Some taken.bytes.items else took_by earlier index

-- how often it had failed
abbrev pub failed_by : Returned → ℕ → ℕ
failed_by Nothing index = 0
failed_by (Sink' client label taken place earlier) index =
    if client == index then taken.faults else failed_by earlier index

-- its label
abbrev pub labelled_by : Returned → ℕ → Option Label
labelled_by Nothing index = None
labelled_by (Sink' client label taken place earlier) index =
    if client == index then Some label else labelled_by earlier index
