use Rattle.std.proofs.Common.{◌≡◌, ◌∙◌, ◌*◌, ◌≤◌, ℕ, ap, sym, subst}
use Rattle.std.specs.List.{position, remove}
use Rattle.flsm_model.specs.Steps.{held_without}
use Rattle.version_set.specs.Registers.{IsRegister, is_pair}
use Rattle.version_set.proofs.HeldLemmas.{found, not_found, register_less}
use Rattle.version_set.proofs.held.Held.release.Goals as goal
use Rattle.version_set.proofs.held.Held.release.Goals.{After-remove}

left : (c : After-remove) → c.remove.new.self.items ≡ held_without (c.args.client, c.args.number) c.self.inside.pairs.items
left c =
    let pair : ℕ × ℕ = (c.args.client, c.args.number) in
    let at = found pair c.deref.result.now c.in-Some.place c.in-Some.ensures in
    c.remove.ensures.items ∙ ap (λ pairs. remove pairs c.in-Some.place) (sym c.deref.ensures.value) ∙ sym at.without ∙ ap (held_without pair) c.deref.ensures.value

pub invariant_of-self : goal.invariant_of-self
invariant_of-self c = record {
  register = subst IsRegister (sym (left c)) (register_less (c.args.client, c.args.number) c.self.inside.pairs.items c.self.invariant.register);
  room_for_all = subst (λ n. 17 * 64 ≤ n) (sym c.remove.ensures.capacity) c.self.invariant.room_for_all;
}

pub returns-in-Some : goal.returns-in-Some
returns-in-Some c = left c ∙ ap (held_without (c.args.client, c.args.number)) c.self.view_is

pub returns-in_default : goal.returns-in_default
returns-in_default c =
    let pair : ℕ × ℕ = (c.args.client, c.args.number) in
    sym (not_found pair c.args.self.now (c.in_default.ensures ∙ ap (position (is_pair pair)) (c.deref.ensures.value ∙ c.self.view_is)))
