use Rattle.std.proofs.Common.{◌≡◌, ◌<◌, ◌≤◌, ◌&&◌, length, sym, ap, ◌∙◌, rules}
use Rattle.std.proofs.lemmas.Bool.{le-leb, lt-leb}
use Rattle.peb_base.specs.Keys.{key_eq}
use Rattle.flsm_model.specs.Fits.{is_candidate}
use Rattle.guard_choice.specs.Sorted.{place_in}
use Rattle.guard_choice.proofs.Places.{found-at, absent-at}
use Rattle.guard_choice.proofs.candidates.Candidates.is_candidate.Goals as goal

pub returns-then-at-len : goal.returns-then-at-len
returns-then-at-len c =
    let cs = c.self.inside.chosen.items in
    let key = c.args.key.now in
    let at : c.place_of-at.result ≡ place_in key cs = c.place_of-at.ensures.place ∙ ap (place_in key) c.deref.ensures.value in
    let past : length cs ≤ c.place_of-at.result = search rules in
    sym (absent-at cs c.args.level key c.place_of-at.result c.self.invariant at past) ∙ ap (λ l. is_candidate l c.args.level key) c.self.view_is

pub returns-then-found-level : goal.returns-then-found-level
returns-then-found-level c =
    let cs = c.self.inside.chosen.items in
    let key = c.args.key.now in
    let d = c.index-found.result.now in
    let at : c.place_of-at.result ≡ place_in key cs = c.place_of-at.ensures.place ∙ ap (place_in key) c.deref.ensures.value in
    let within : c.place_of-at.result < length cs = search rules in
    c.eq.ensures ∙ ap (key_eq key) c.bytes.ensures.value ∙ ap (λ b. b && key_eq key d.key) (sym (le-leb d.level c.args.level c.if-found-level.true))
    ∙ sym (found-at cs c.args.level key d c.place_of-at.result c.self.invariant at within c.index-found.ensures) ∙ ap (λ l. is_candidate l c.args.level key) c.self.view_is

pub returns-else-found-level : goal.returns-else-found-level
returns-else-found-level c =
    let cs = c.self.inside.chosen.items in
    let key = c.args.key.now in
    let d = c.index-found.result.now in
    let at : c.place_of-at.result ≡ place_in key cs = c.place_of-at.ensures.place ∙ ap (place_in key) c.deref.ensures.value in
    let within : c.place_of-at.result < length cs = search rules in
    let deeper = lt-leb d.level c.args.level c.if-found-level.false in
    deeper ∙ ap (λ b. b && key_eq key d.key) (sym deeper)
    ∙ sym (found-at cs c.args.level key d c.place_of-at.result c.self.invariant at within c.index-found.ensures) ∙ ap (λ l. is_candidate l c.args.level key) c.self.view_is
