use Rattle.std.proofs.Common.{◌∙◌, ap, sym}
use Rattle.block_form.specs.Parts.{Parts, parts_of}
use Rattle.block_form.proofs.Prefixes.{none_front, known_parts, one_front}
use Rattle.block_form.proofs.Restarts.{restart_rest}
use Rattle.block_form.proofs.stepped.restart_at.Goals as goal

pub unreachable-requires : goal.unreachable-requires
unreachable-requires c =
    let begins = c.requires.1 in
    none_front begins.place c.requires.0 c.args.rest.now c.in_default.ensures.none begins.entry begins.more begins.is begins.spelled

pub returns : goal.returns
returns c = λ place before e more restart is spelled.
    let p = parts_of c.in-Some.found.0 in
    let known = known_parts place before c.args.rest.now more c.in-Some.found.1.now e p c.in-Some.ensures.fits c.in-Some.ensures.found is spelled in
    let same = (one_front place before c.args.rest.now more c.in-Some.found.1.now e p c.in-Some.ensures.fits c.in-Some.ensures.found is spelled).0 in
    (sym (ap (λ (q : Parts). q.rest) same) ∙ restart_rest place before e restart, known.1, known.2, known.3)
