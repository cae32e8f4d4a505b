use Rattle.std.proofs.Common.{◌-◌, ◌<◌, ◌≤◌, length}
use Rattle.block_form.specs.Spots.{IsSpot}
use Rattle.block_form.proofs.Scans.{FoundFrom}
use Rattle.block_form.proofs.block.Block.scan.Given as goal

abbrev pub invariant-scan : goal.invariant-scan
invariant-scan l =
    (l.place ≤ length l.self) × (l.place < length l.self → IsSpot l.self l.place l.key_out l.spot) × FoundFrom l.key l.number l.place l.self

abbrev pub decreases-scan : goal.decreases-scan
decreases-scan l = length l.self - l.place
