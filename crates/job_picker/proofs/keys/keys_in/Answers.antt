use Rattle.std.proofs.Common.{◌≡◌, [], take, drop, sym, ap, ◌∙◌, subst}
use Rattle.std.proofs.lemmas.Result.{IfOk-weaker}
use Rattle.std.specs.Option.{option_copied}
use Rattle.peb_base.specs.Guards.{Ascend}
use Rattle.job_picker.specs.Places.{place_in, end_in}
use Rattle.job_picker.proofs.KeyPlaces.{ascend_drop, within_range}
use Rattle.job_picker.proofs.keys.keys_in.Goals as goal

pub end_of-requires : goal.end_of-requires
end_of-requires c = subst (Ascend []) (sym c.split_at.ensures.back) (ascend_drop [] c.place_of.result c.args.keys.now c.requires)

pub returns : goal.returns
returns c =
    let keys = c.args.keys.now in
    let lo = c.args.range.lo.now in
    let hi = option_copied c.args.range.hi in
    let rest : c.split_at.result.1.now ≡ drop (place_in lo keys) keys = c.split_at.ensures.back ∙ ap (λ n. drop n keys) c.place_of.ensures.place in
    let part : c.split_at-2.result.0.now ≡ take (end_in hi (drop (place_in lo keys) keys)) (drop (place_in lo keys) keys) =
    c.split_at-2.ensures.front ∙ ap (λ n. take n c.split_at.result.1.now) c.end_of.ensures.place ∙ ap (λ l. take (end_in hi l) l) rest in
    IfOk-weaker c.copies.result _ _ (λ within is. is ∙ part ∙ sym (within_range [] lo hi keys c.requires)) c.copies.ensures
