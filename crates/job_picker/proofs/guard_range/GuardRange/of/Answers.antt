use Rattle.std.proofs.Common.{◌≡◌, ◌<◌, ◌-◌, length, get_or, rules}
use Rattle.std.specs.List.{slice_get}
use Rattle.std.specs.Option.{option_copied}
use Rattle.job_picker.proofs.KeyPlaces.{range_beside}
use Rattle.job_picker.proofs.guard_range.GuardRange.of.Goals as goal

pub returns : goal.returns
returns c =
    let keys = c.args.keys.now in
    let within : c.args.guard - 1 < length keys = search rules in
    let high : option_copied c.end_at.result ≡ slice_get keys c.args.guard = c.end_at.ensures in
    let low : c.bytes.result.now ≡ get_or keys (c.args.guard - 1) c.bytes.result.now = search rules in
    range_beside keys c.args.guard c.bytes.result.now (option_copied c.end_at.result) c.if-guard-eq0.false within low high
