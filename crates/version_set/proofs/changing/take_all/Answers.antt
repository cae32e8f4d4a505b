use Rattle.std.proofs.Common.{◌∙◌, ap, subst, sym}
use Rattle.std.specs.Prelude.{get_or}
use Rattle.std.specs.List.{AllByRecursion}
use Rattle.version_set.specs.Shapes.{HasRows}
use Rattle.version_set.specs.Changes.{EachTable}
use Rattle.version_set.specs.Contents.{HoldsContent}
use Rattle.version_set.proofs.Holding.{out_step}
use Rattle.version_set.proofs.Taken.{level_step, level_none, taking_done}
use Rattle.version_set.proofs.changing.take_all.Goals as goal
use Rattle.version_set.proofs.changing.take_all.Goals.{in-Some+in_ok-push, in_default}

pub loop-number-preserved : goal.loop-number-preserved
loop-number-preserved g c =
    let row = g.T.HasRow.the_row in
    let numbers = c.args.numbers.now in
    let i = c.loop-number.number-index in
    elim c.match-take.branch [
      | in-Some+in_ok-push w ↦ record {
        keys = w.in-Some.ensures.taken.keys ∙ c.loop-number.invariant.keys;
        taking = λ rows each are. level_step row c.loop-number.level c.take.new.self c.loop-number.gone.items c.match-take.gone.items numbers i rows w.in-Some.table c.loop-number-test.true
            w.in-Some.ensures.taken (ap (λ gone. gone.items) w.gone-is ∙ w.in_ok-push.ensures.items) (c.loop-number.invariant.taking rows each are);
        contents = out_step row g.T.HasRow.holds (get_or numbers i 0) c.args.level.now c.loop-number.level c.take.new.self c.loop-number.gone.items c.match-take.gone.items w.in-Some.table
            w.in-Some.ensures.taken (ap (λ gone. gone.items) w.gone-is ∙ w.in_ok-push.ensures.items) c.loop-number.invariant.contents;
      }
      | in_default w ↦ record {
        keys = ap (λ level. level.keys) w.in_default.ensures.none ∙ c.loop-number.invariant.keys;
        taking = λ rows each are. absurd (level_none row c.loop-number.level c.loop-number.gone.items numbers i rows c.loop-number-test.true w.in_default.ensures.absent (c.loop-number.invariant.taking rows each are));
        contents = λ content each.
            let P = HoldsContent row g.T.HasRow.holds content in
            let was = c.loop-number.invariant.contents content each in
            (subst (EachTable P) (sym w.in_default.ensures.none) was.0, subst (λ gone. AllByRecursion P gone.items) (sym w.gone-is) was.1);
      }
    ]

pub returns-clause-taken : goal.returns-clause-taken
returns-clause-taken g c = λ rows each are.
    taking_done g.T.HasRow.the_row (HasRows g.T.HasRow.the_row c.loop-number.level) c.loop-number.gone.items c.args.numbers.now c.loop-number.number-index rows c.loop-number-test.false
    (c.loop-number.invariant.taking rows each are)
