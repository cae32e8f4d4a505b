use Rattle.std.proofs.Common.{◌∙◌, sym}
use Rattle.merge_iter.proofs.Passing.{went_further, stops}
use Rattle.merge_iter.proofs.Showing.{not_hidden}
use Rattle.merge_iter.proofs.visible.Visible.settle.Goals as goal

pub loop-self-preserved : goal.loop-self-preserved
loop-self-preserved g c =
    went_further g.C.Cursor g.met.C.Cursor.among g.met.C.Cursor.kept_on c.args.self.now c.loop-self.self
    c.keep_passed.new.self c.next.new.self c.loop-self.invariant c.keep_passed.ensures
    (sym c.hides.ensures ∙ c.loop-self-test.true) c.in_ok-next.ensures.goes
    c.next.ensures.counts.never_falls c.next.ensures.keeps c.in_ok-next.ensures.refused c.next.ensures.fewer
    c.in_ok-next.ensures.walks

pub returns-clause-goes : goal.returns-clause-goes
returns-clause-goes g c =
    stops g.C.Cursor g.met.C.Cursor.among c.args.self.now c.loop-self.self c.loop-self.invariant
    (sym c.hides.ensures ∙ c.loop-self-test.false)

pub returns-clause-sees : goal.returns-clause-sees
returns-clause-sees g c =
    not_hidden c.loop-self.self.number c.loop-self.self.key (g.C.Cursor.shows c.loop-self.self.inner)
    (sym c.hides.ensures ∙ c.loop-self-test.false)

pub returns-clause-shown : goal.returns-clause-shown
returns-clause-shown g c = λ given has. record {
  passed = c.loop-self.invariant.passed given has;
  stops = sym c.hides.ensures ∙ c.loop-self-test.false;
}
