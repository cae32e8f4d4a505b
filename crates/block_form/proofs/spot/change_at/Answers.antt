use Rattle.block_form.proofs.Spots.{put_there}
use Rattle.block_form.proofs.spot.change_at.Goals as goal

pub overflow_sub-result : goal.overflow_sub-result
overflow_sub-result c = (put_there c.requires.0 c.args.spot c.args.entries.now c.in-Some.len c.requires.1 c.in-Some.is).long
