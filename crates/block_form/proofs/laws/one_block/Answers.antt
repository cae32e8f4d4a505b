use Rattle.block_form.proofs.Walks as walks
use Rattle.block_form.proofs.laws.one_block.Goals as goal

pub returns : goal.returns
returns c = walks.one_block
