use Rattle.std.proofs.Common.{◌≡◌}
use Rattle.std.specs.Prelude.{filter}
use Rattle.job_picker.specs.Seen.{is_new_guard}
use Rattle.job_picker.proofs.jobs.new_guards.Given as goal

abbrev pub invariant-loop-key : goal.invariant-loop-key
invariant-loop-key g l = l.keys.items ≡ filter (is_new_guard l.version l.options.last_level l.level) l.yielded
