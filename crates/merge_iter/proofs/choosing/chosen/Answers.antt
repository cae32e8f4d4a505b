use Rattle.std.proofs.Common.{◌≡◌, ◌+◌, None, length, map, sym, ap, ◌∙◌, subst, arith, option_map}
use Rattle.std.proofs.lemmas.List.{get_or-map}
use Rattle.peb_base.specs.EntryRefs.{entry_of}
use Rattle.merge_iter.proofs.Firsts.{Best, best_none, best_more, chosen_some, chosen_none, chosen_empty}
use Rattle.merge_iter.proofs.choosing.chosen.Goals as goal

pub loop-i-init : goal.loop-i-init
loop-i-init g c = best_none c.args.is_back (map g.C.Cursor.shows c.args.inputs.now)

pub loop-i-preserved : goal.loop-i-preserved
loop-i-preserved g c =
    let heads = map g.C.Cursor.shows c.args.inputs.now in
    subst (λ n. Best c.args.is_back heads (c.loop-i.i + 1) n) (sym c.better-best.ensures)
    (best_more c.args.is_back heads c.loop-i.i c.loop-i.best c.loop-i.invariant)

pub returns-then-best-inputs : goal.returns-then-best-inputs
returns-then-best-inputs g c =
    let inputs = c.args.inputs.now in
    let end : c.loop-i.i ≡ length inputs = omega (arith, c.loop-i-test.false, c.loop-i.auto.i-end) in
    chosen_empty g.C.Cursor c.args.is_back inputs c.loop-i.best
    (subst (λ n. Best c.args.is_back (map g.C.Cursor.shows inputs) n c.loop-i.best) end c.loop-i.invariant)
    c.if-best-inputs.true

pub returns-in-Some : goal.returns-in-Some
returns-in-Some g c =
    let shows = g.C.Cursor.shows in
    let inputs = c.args.inputs.now in
    let end : c.loop-i.i ≡ length inputs = omega (arith, c.loop-i-test.false, c.loop-i.auto.i-end) in
    chosen_some g.C.Cursor c.args.is_back inputs c.loop-i.best
    (subst (λ n. Best c.args.is_back (map shows inputs) n c.loop-i.best) end c.loop-i.invariant)
    (entry_of c.in-Some.field-0)
    (get_or-map shows inputs c.loop-i.best c.index-inputs-best.result None c.if-best-inputs.false
    ∙ ap shows (sym c.index-inputs-best.is) ∙ sym c.at.ensures ∙ ap (option_map entry_of) c.in-Some.is)

pub returns-in-None : goal.returns-in-None
returns-in-None g c =
    let shows = g.C.Cursor.shows in
    let inputs = c.args.inputs.now in
    let end : c.loop-i.i ≡ length inputs = omega (arith, c.loop-i-test.false, c.loop-i.auto.i-end) in
    chosen_none g.C.Cursor c.args.is_back inputs c.loop-i.best
    (subst (λ n. Best c.args.is_back (map shows inputs) n c.loop-i.best) end c.loop-i.invariant)
    (get_or-map shows inputs c.loop-i.best c.index-inputs-best.result None c.if-best-inputs.false
    ∙ ap shows (sym c.index-inputs-best.is) ∙ sym c.at.ensures ∙ ap (option_map entry_of) c.in-None.is)
