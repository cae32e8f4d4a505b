use Rattle.std.proofs.Common.{◌≡◌, ◌-◌, ◌+◌}
use Rattle.peb_base.specs.Profiles.{column}
use Rattle.peb_base.specs.Choice as choice
use Rattle.peb_base.proofs.choosing.level_of.Given as goal

abbrev pub invariant-loop-level : goal.invariant-loop-level
invariant-loop-level l = choice.level_from (column l.options.profile) l.key l.level (l.options.last_level + 1 - l.level) ≡ choice.level_of (column l.options.profile) l.key
