use Rattle.std.proofs.Common.{◌≡◌, ℕ, Some, None, ap, ◌∙◌}
use Rattle.peb_base.specs.Batches.{last_number}
use Rattle.peb_base.specs.Map.{value_at}
use Rattle.flsm_core.specs.Place.{all_of}
use Rattle.pebbles_cli.specs.Tells.{value_line}
use Rattle.pebbles_cli.proofs.serve.get.Goals as goal

pub reply_into-requires : goal.reply_into-requires
reply_into-requires g c = c.in-Some.ensures.short

pub returns-in-Some : goal.returns-in-Some
returns-in-Some g c = λ p stands.
    let n = last_number (all_of p) in
    let value : Some c.in-Some.value.now ≡ value_at (all_of p) n c.args.key.now = c.in-Some.ensures.value p stands ∙ ap (value_at (all_of p) n) c.bytes.ensures.value in
    c.reply_into.ensures ∙ ap (λ (m : ℕ). value_line m (Some c.in-Some.value.now)) (c.last-number.ensures p stands) ∙ ap (value_line n) value

pub returns-in-None : goal.returns-in-None
returns-in-None g c = λ p stands.
    let n = last_number (all_of p) in
    let value : None ≡ value_at (all_of p) n c.args.key.now = c.in-None.ensures.value p stands ∙ ap (value_at (all_of p) n) c.bytes.ensures.value in
    c.reply_into-in-None.ensures ∙ ap (λ (m : ℕ). value_line m None) (c.last-number.ensures p stands) ∙ ap (value_line n) value
