use Rattle.std.proofs.Common.{◌≡◌, ◌&&◌, map, filter, take, drop, nat_le, ap, ◌∙◌}
use Rattle.std.proofs.lemmas.Result.{IfOk-weaker}
use Rattle.std.specs.Option.{option_copied}
use Rattle.flsm_model.specs.Ranges.{in_range, has_key, keys_ascend}
use Rattle.flsm_model.specs.Fits.{is_candidate}
use Rattle.guard_choice.specs.Sorted.{end_in, place_in}
use Rattle.guard_choice.proofs.Within.{ascend-drop, has-kept, has-within, kept-ascend}
use Rattle.guard_choice.proofs.candidates.Candidates.in_range.Goals as goal

pub end_of-requires : goal.end_of-requires
end_of-requires c = rw (c.split_at.ensures.back, c.deref.ensures.value) (ascend-drop c.place_of.result c.self.inside.chosen.items c.self.invariant)

pub returns-clause-keys : goal.returns-clause-keys
returns-clause-keys c =
    let cs = c.self.inside.chosen.items in
    let lo = c.args.lo.now in
    let hi = option_copied c.args.hi in
    let place : c.place_of.result ≡ place_in lo cs = c.place_of.ensures.place ∙ ap (place_in lo) c.deref-2.ensures.value in
    let rest : c.split_at.result.1.now ≡ drop (place_in lo cs) cs = c.split_at.ensures.back ∙ ap (drop c.place_of.result) c.deref.ensures.value ∙ ap (λ n. drop n cs) place in
    let part : c.split_at-2.result.0.now ≡ take (end_in hi (drop (place_in lo cs) cs)) (drop (place_in lo cs) cs) =
    c.split_at-2.ensures.front ∙ ap (λ n. take n c.split_at.result.1.now) c.end_of.ensures.place ∙ ap (λ l. take (end_in hi l) l) rest in
    IfOk-weaker c.keys_to.result _ _ (λ keys is key.
    ap (has_key key) is ∙ has-kept c.split_at-2.result.0.now c.args.level key ∙ ap (λ l. is_candidate l c.args.level key) part
    ∙ has-within cs lo hi c.args.level key c.self.invariant ∙ ap (λ l. is_candidate l c.args.level key && in_range lo hi key) c.self.view_is)
    c.keys_to.ensures

pub returns-clause-ascend : goal.returns-clause-ascend
returns-clause-ascend c =
    let cs = c.self.inside.chosen.items in
    let ascend = ascend-drop c.place_of.result cs c.self.invariant in
    let rest : c.split_at.result.1.now ≡ drop c.place_of.result cs = c.split_at.ensures.back ∙ ap (drop c.place_of.result) c.deref.ensures.value in
    let part : c.split_at-2.result.0.now ≡ take c.end_of.result (drop c.place_of.result cs) = c.split_at-2.ensures.front ∙ ap (take c.end_of.result) rest in
    IfOk-weaker c.keys_to.result _ _ (λ keys is.
    ap keys_ascend is ∙ ap (λ l. keys_ascend (map (λ d. d.key) (filter (λ d. nat_le d.level c.args.level) l))) part
    ∙ kept-ascend c.end_of.result (drop c.place_of.result cs) c.args.level ascend)
    c.keys_to.ensures
