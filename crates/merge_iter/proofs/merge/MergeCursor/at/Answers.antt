use Rattle.std.proofs.Common.{◌<◌, ◌∙◌, None, length, map, rules, sym, ap, subst}
use Rattle.std.specs.Prelude.{IfSome}
use Rattle.std.proofs.lemmas.List.{get_or-map}
use Rattle.merge_iter.specs.Heads.{current_head}
use Rattle.merge_iter.proofs.Firsts.{current_inside}
use Rattle.merge_iter.proofs.merge.MergeCursor.at.Goals as goal
use Rattle.merge_iter.proofs.merge.MergeCursor.at.Goals.{In-Some, After-at}

inside : (g : _) (c : In-Some g) → c.in-Some.place < length c.args.self.now.inputs.items
inside g c =
    let merge = c.args.self.now in
    subst (λ o. IfSome o (λ i. i < length merge.inputs.items)) c.in-Some.is
    (current_inside g.C.Cursor merge.inputs.items merge.is_back merge.current merge.chosen)

pub index-requires : goal.index-requires
index-requires g c = let lt = inside g c in search rules

within : (g : _) (c : After-at g) → c.in-Some.place < length c.args.self.now.inputs.items
within g c =
    let merge = c.args.self.now in
    subst (λ o. IfSome o (λ i. i < length merge.inputs.items)) c.in-Some.is
    (current_inside g.C.Cursor merge.inputs.items merge.is_back merge.current merge.chosen)

pub returns : goal.returns
returns g c =
    let shows = g.C.Cursor.shows in
    let inputs = c.args.self.now.inputs.items in
    c.at.ensures ∙ ap shows c.index.ensures
    ∙ sym (get_or-map shows inputs c.in-Some.place c.index.result.now None (within g c))
    ∙ ap (current_head (map shows inputs)) (sym c.in-Some.is)
