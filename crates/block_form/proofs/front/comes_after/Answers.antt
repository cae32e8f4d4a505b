use Rattle.std.proofs.Common.{◌≡◌, ◌∙◌, refl, sym, ap, true, false, take, ◌++◌, nat_lt}
use Rattle.std.proofs.lemmas.List.{take_rest}
use Rattle.std.specs.declared.cmp.Ordering.TheVariants.{Less, Equal, Greater}
use Rattle.std.specs.Ordering.{nat_cmp}
use Rattle.std.specs.Cmp.Lexicographic.{slice_cmp}
use Rattle.peb_base.specs.Entries.{comes_before}
use Rattle.block_form.proofs.Prefixes.{after_is}
use Rattle.block_form.proofs.front.comes_after.Goals as goal

pub returns-in-Less : goal.returns-in-Less
returns-in-Less c =
    let before = c.args.before.now in
    let e : comes_before before c.args.above (take c.args.shared before ++ c.args.rest.now) c.args.number ≡ true =
    after_is before c.args.rest.now c.args.shared c.args.above c.args.number Less c.requires (sym c.in-Less.is ∙ c.cmp.ensures ∙ ap (λ l. slice_cmp nat_cmp l c.args.rest.now) (take_rest before c.args.shared)) in
    (λ _. e, λ _. refl)

pub returns-in-Equal : goal.returns-in-Equal
returns-in-Equal c =
    let before = c.args.before.now in
    let e : comes_before before c.args.above (take c.args.shared before ++ c.args.rest.now) c.args.number ≡ nat_lt c.args.number c.args.above =
    after_is before c.args.rest.now c.args.shared c.args.above c.args.number Equal c.requires (sym c.in-Equal.is ∙ c.cmp.ensures ∙ ap (λ l. slice_cmp nat_cmp l c.args.rest.now) (take_rest before c.args.shared)) in
    (λ h. e ∙ h, λ h. sym e ∙ h)

pub returns-in-Greater : goal.returns-in-Greater
returns-in-Greater c =
    let before = c.args.before.now in
    let e : comes_before before c.args.above (take c.args.shared before ++ c.args.rest.now) c.args.number ≡ false =
    after_is before c.args.rest.now c.args.shared c.args.above c.args.number Greater c.requires (sym c.in-Greater.is ∙ c.cmp.ensures ∙ ap (λ l. slice_cmp nat_cmp l c.args.rest.now) (take_rest before c.args.shared)) in
    (λ h. e ∙ h, λ h. sym e ∙ h)
