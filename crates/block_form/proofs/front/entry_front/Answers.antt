use Rattle.std.proofs.Common.{◌≡◌, true, false, rules}
use Rattle.block_form.specs.Parts.{parts_of}
use Rattle.block_form.proofs.Prefixes.{none_front, must_meet, next_found, false_not}
use Rattle.block_form.proofs.front.entry_front.Goals as goal

pub returns-in_default-clause-none : goal.returns-in_default-clause-none
returns-in_default-clause-none c = λ e behind is later. none_front c.args.place c.args.before.now c.args.bytes.now c.in_default.ensures.none e behind is

pub returns-then-not-meets-clause-none : goal.returns-then-not-meets-clause-none
returns-then-not-meets-clause-none c = λ e behind is later spelled.
    let no : c.meets.result ≡ false = search rules in
    false_not c.meets.result no
    (c.meets.ensures.1 (must_meet c.args.place c.args.before.now c.args.above c.args.bytes.now behind c.in-Some.found.1.now e (parts_of c.in-Some.found.0) c.in-Some.ensures.fits c.in-Some.ensures.found is later spelled))

pub returns-clause-found : goal.returns-clause-found
returns-clause-found c =
    let yes_ : c.meets.result ≡ true = search rules in
    next_found c.args.place c.args.before.now c.args.above c.args.bytes.now c.in-Some.found.1.now (parts_of c.in-Some.found.0) (c.meets.ensures.0 yes_) c.in-Some.ensures.found
