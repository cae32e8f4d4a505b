use Rattle.std.proofs.Common.{rules}
use Rattle.std.proofs.lemmas.List.Sorted.{IsPartitionPoint-from_clause}
use Rattle.peb_base.specs.Keys.{key_lt}
use Rattle.guard_choice.proofs.Places.{parted, point-place}
use Rattle.guard_choice.proofs.sorted.place_of.Goals as goal

pub returns-clause-place : goal.returns-clause-place
returns-clause-place c =
    let key = c.args.key.now in
    let cs = c.args.chosen.now in
    point-place key cs _ c.partition_point.ensures.bound
    (IsPartitionPoint-from_clause (λ d. key_lt d.key key) cs _ c.partition_point.ensures.partitioned (parted key cs c.requires) (λ a r q k. search rules))
