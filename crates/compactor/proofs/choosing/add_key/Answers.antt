use Rattle.std.proofs.Common.{◌≡◌, ◌∷◌, true, false, Some, sym, ap, ◌∙◌, rules}
use Rattle.std.specs.Prelude.{reverse}
use Rattle.flsm_model.specs.Choices.{put_keys, choices}
use Rattle.flsm_model.specs.Compaction.{is_put}
use Rattle.peb_base.specs.Choice.{level_of}
use Rattle.peb_base.specs.EntryRefs.{entry_of, change_of}
use Rattle.peb_base.specs.Profiles.{column}
use Rattle.compactor.specs.Choosing.{starts_with}
use Rattle.compactor.proofs.Keys.{chosen_before, chosen_now}
use Rattle.compactor.proofs.Walks.{reverse_push}
use Rattle.compactor.proofs.choosing.add_key.Goals as goal

pub returns-then-is_last : goal.returns-then-is_last
returns-then-is_last c = λ es each are.
    let o = column c.args.options.now.profile in
    let key = c.args.entry.now.key.now in
    let starts : starts_with key (choices o (put_keys es)) ≡ true =
    ap (starts_with key) (sym are)
    ∙ ap (λ l. starts_with key (reverse l)) (sym c.deref.ensures.value)
    ∙ sym c.is_last.ensures ∙ c.if-is_last.true in
    are ∙ sym (chosen_before o (entry_of c.args.entry.now) es starts)

pub returns : goal.returns
returns c = λ es each are.
    let o = column c.args.options.now.profile in
    let key = c.args.entry.now.key.now in
    let level = c.in-Some.level in
    let other : starts_with key (choices o (put_keys es)) ≡ false =
    ap (starts_with key) (sym are)
    ∙ ap (λ l. starts_with key (reverse l)) (sym c.deref.ensures.value)
    ∙ sym c.is_last.ensures ∙ c.if-is_last.false in
    let put : is_put (change_of c.args.entry.now.change) ≡ true =
    ap (λ x. is_put (change_of x)) c.in-Put.is in
    let has : level_of o key ≡ Some level = sym c.in-Some.ensures.level in
    let same : c.in_ok-key.key ≡ key = search rules in
    ap reverse c.in_ok-push.ensures.items
    ∙ reverse_push c.args.chosen.now.items (record { key = c.in_ok-key.key; level = level })
    ∙ (λ i. record { key = same i; level = level } ∷ are i)
    ∙ sym (chosen_now o (entry_of c.args.entry.now) es level each put has other)
