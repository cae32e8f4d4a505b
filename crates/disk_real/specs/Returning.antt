-- What is told of the sinks over files that were handed back.
use Rattle.std.specs.Prelude.{ℕ, ◌==◌, Option, None, Some, if◌then◌else◌}
use Rattle.disk_model.specs.SinkNames.{Label}
use Rattle.disk_real.specs.declared.returned.Returned.{Returned}
use Rattle.disk_real.specs.declared.returned.Returned.TheVariants.{Nothing, Sink'}

-- how often the sink of a client had failed that was handed back last
abbrev pub failed_by : Returned → ℕ → ℕ
failed_by Nothing index = 0
failed_by (Sink' client label faults place earlier) index =
    if client == index then faults else failed_by earlier index

-- its label
abbrev pub labelled_by : Returned → ℕ → Option Label
labelled_by Nothing index = None
labelled_by (Sink' client label faults place earlier) index =
    if client == index then Some label else labelled_by earlier index
