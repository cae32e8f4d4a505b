use Rattle.block_form.proofs.Walks as walks
use Rattle.block_form.proofs.laws.block_reads.Goals as goal

pub returns : goal.returns
returns c = walks.entries_of_block
