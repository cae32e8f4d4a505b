use Rattle.std.proofs.Common.{◌≡◌, [], rules, refl, sym, subst}
use Rattle.peb_base.specs.Cursors.{first_place}
use Rattle.merge_iter.specs.Seeing.{IsAhead}
use Rattle.merge_iter.proofs.Beginning.{first_ahead}
use Rattle.merge_iter.proofs.visible.Visible.first.Goals as goal

pub returns-clause-goes : goal.returns-clause-goes
returns-clause-goes g c = λ es place s.
    let n = c.args.self.now.number in
    let empty : c.put.new.self ≡ [] = search rules in
    c.settle.ensures.goes es (first_place es) 0 (c.in_ok-first.ensures.goes es s.at s.stands)
    (subst (λ key. IsAhead n key es (first_place es) 0) (sym empty) (first_ahead n es))

pub returns-clause-shown : goal.returns-clause-shown
returns-clause-shown g c =
    c.settle.ensures.shown [] (record {
      over = [];
      walks = c.in_ok-first.ensures.walks;
      sees = refl;
      key = search rules;
    })
