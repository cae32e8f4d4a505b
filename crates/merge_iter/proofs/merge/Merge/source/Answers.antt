use Rattle.merge_iter.proofs.Firsts.{current_exact, current_inside}
use Rattle.merge_iter.proofs.merge.Merge.source.Goals as goal

pub returns-clause-inside : goal.returns-clause-inside
returns-clause-inside g c =
    let merge = c.args.self.now in
    current_inside g.C.Cursor merge.inputs.items merge.is_back merge.current merge.chosen

pub returns-clause-exact : goal.returns-clause-exact
returns-clause-exact g c =
    let merge = c.args.self.now in
    current_exact g.C.Cursor merge.inputs.items merge.is_back merge.current merge.chosen
