use Rattle.std.proofs.Common.{◌<◌, ◌≤◌, [], length, get_or, sym, subst, ap, ◌∙◌}
use Rattle.std.proofs.lemmas.Bool.{le-ltb}
use Rattle.peb_base.specs.Keys.{key_eq}
use Rattle.job_picker.specs.Places.{place_in}
use Rattle.job_picker.proofs.KeyPlaces.{found, absent}
use Rattle.job_picker.proofs.keys.is_guard.Goals as goal

pub returns-then-place-keys : goal.returns-then-place-keys
returns-then-place-keys c =
    let keys = c.args.keys.now in
    let key = c.args.key.now in
    let here = c.index-keys-place.result in
    let within : place_in key keys < length keys = subst (λ n. n < length keys) c.place_of-place.ensures.place c.if-place-keys.true in
    c.eq.ensures ∙ ap (key_eq key) (c.bytes.ensures.value ∙ c.index-keys-place.is ∙ ap (λ n. get_or keys n here) c.place_of-place.ensures.place)
    ∙ sym (found [] key keys here c.requires within)

pub returns-else-place-keys : goal.returns-else-place-keys
returns-else-place-keys c =
    let keys = c.args.keys.now in
    let key = c.args.key.now in
    let past : length keys ≤ place_in key keys = subst (λ n. length keys ≤ n) c.place_of-place.ensures.place c.if-place-keys.false in
    le-ltb c.place_of-place.result (length keys) c.if-place-keys.false ∙ sym (absent [] key keys c.requires past)
