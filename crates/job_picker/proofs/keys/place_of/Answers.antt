use Rattle.std.proofs.Common.{[], rules}
use Rattle.std.proofs.lemmas.List.Sorted.{IsPartitionPoint-from_clause}
use Rattle.peb_base.specs.Keys.{key_lt}
use Rattle.job_picker.proofs.KeyPlaces.{parted, point_place}
use Rattle.job_picker.proofs.keys.place_of.Goals as goal

pub returns-clause-place : goal.returns-clause-place
returns-clause-place c =
    let key = c.args.key.now in
    let keys = c.args.keys.now in
    point_place key keys _ c.partition_point.ensures.bound
    (IsPartitionPoint-from_clause (λ k. key_lt k key) keys _ c.partition_point.ensures.partitioned (parted [] key keys c.requires) (λ a r q k. search rules))
