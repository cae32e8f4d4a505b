use Rattle.std.proofs.Common.{◌∙◌}
use Rattle.block_form.specs.Parts.{parts_of}
use Rattle.block_form.proofs.Prefixes.{none_front, known_parts, known_kept}
use Rattle.block_form.proofs.stepped.step.Goals as goal

pub unreachable-requires : goal.unreachable-requires
unreachable-requires c =
    none_front c.requires.place c.args.key.now c.args.rest.now c.in_default.ensures.none c.requires.entry c.requires.more c.requires.is c.requires.spelled

pub put-requires-clause-kept : goal.put-requires-clause-kept
put-requires-clause-kept c =
    (known_kept c.requires.place c.args.key.now c.args.rest.now c.requires.more c.in-Some.found.1.now c.requires.entry (parts_of c.in-Some.found.0) c.in-Some.ensures.fits c.in-Some.ensures.found c.requires.is c.requires.spelled).0

pub put-requires-clause-fits : goal.put-requires-clause-fits
put-requires-clause-fits c =
    (known_kept c.requires.place c.args.key.now c.args.rest.now c.requires.more c.in-Some.found.1.now c.requires.entry (parts_of c.in-Some.found.0) c.in-Some.ensures.fits c.in-Some.ensures.found c.requires.is c.requires.spelled).1

pub returns : goal.returns
returns c = λ place e more is spelled.
    let known = known_parts place c.args.key.now c.args.rest.now more c.in-Some.found.1.now e (parts_of c.in-Some.found.0) c.in-Some.ensures.fits c.in-Some.ensures.found is spelled in
    (c.put.ensures ∙ known.0, known.1, known.2, known.3)
