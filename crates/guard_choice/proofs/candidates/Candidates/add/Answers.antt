use Rattle.std.proofs.Common.{◌||◌, ◌&&◌, [], ◌∷◌, nat_le, sym, ap, ◌∙◌, arith}
use Rattle.std.proofs.Math.Bool.{or-false}
use Rattle.std.proofs.lemmas.List.Folds.{list_any-append}
use Rattle.peb_base.specs.Keys.{key_eq}
use Rattle.flsm_model.specs.Fits.{is_candidate}
use Rattle.guard_choice.proofs.OneMore.{one-more, ascend-more, handed}
use Rattle.guard_choice.proofs.candidates.Candidates.add.Goals as goal

pub loop-next-preserved : goal.loop-next-preserved
loop-next-preserved c =
    let next = c.in-Some.next in
    let was = c.loop-next.self-inside.chosen.items in
    let rest = c.pop.new.self.items in
    record {
      ascend = rw c.put.ensures.put (ascend-more next was c.loop-next.invariant.ascend);
      room = omega (arith, c.put.ensures.room, c.put.ensures.capacity, c.in-Some.ensures.len, c.loop-next.invariant.room);
      same = λ level key.
          let this = nat_le next.level level && key_eq key next.key in
          ap (λ l. is_candidate l level key || is_candidate rest level key) c.put.ensures.put
          ∙ ap (λ b. b || is_candidate rest level key) (one-more next was level key)
          ∙ handed (is_candidate was level key) this (is_candidate rest level key)
          ∙ ap (λ b. is_candidate was level key || b) (ap (λ b. is_candidate rest level key || b) (sym (or-false this)) ∙ sym (list_any-append (λ d. nat_le d.level level && key_eq key d.key) rest (next ∷ [])) ∙ ap (λ l. is_candidate l level key) (sym c.in-Some.ensures.items))
          ∙ c.loop-next.invariant.same level key;
    }
