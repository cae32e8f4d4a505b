use Rattle.block_form.proofs.Pushes as pushes
use Rattle.block_form.proofs.laws.block_grows.Goals as goal

pub returns : goal.returns
returns c = pushes.block_grows
