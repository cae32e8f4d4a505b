use Rattle.std.proofs.Common.{◌∙◌, ap, false, map, refl, subst, sym}
use Rattle.merge_iter.specs.Heads.{IsChosen}
use Rattle.merge_iter.specs.Told.{first_refusal}
use Rattle.merge_iter.proofs.Seeking.{stands_sought}
use Rattle.merge_iter.proofs.Telling.{none_is}
use Rattle.merge_iter.proofs.merge.Merge.at_places.Goals as goal

pub returns-clause-stands : goal.returns-clause-stands
returns-clause-stands g c = λ es part key number quiet.
    stands_sought g.C.Cursor g.met.C.Cursor.among _ refl
    (subst (λ cs. IsChosen false (map g.C.Cursor.shows cs) c.chosen-current.result) c.deref-2.ensures.value
    c.chosen-current.ensures) es part key number

pub returns-in-Some-clause-quiet : goal.returns-in-Some-clause-quiet
returns-in-Some-clause-quiet g c = λ none.
    sym c.in-Some.is ∙ c.first_refusal.ensures
    ∙ ap (first_refusal g.C.Cursor) c.deref.ensures.value
    ∙ none_is g.C.Cursor c.args.inputs.items none
