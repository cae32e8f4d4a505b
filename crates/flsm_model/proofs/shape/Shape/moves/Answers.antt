use Rattle.std.proofs.Common.{◌≡◌, true, sym, ◌∙◌, arith}
use Rattle.std.specs.Prelude.{nat_lt}
use Rattle.std.proofs.lemmas.Bool.{lt-ltb}
use Rattle.peb_base.specs.Profiles.{Column, column}
use Rattle.flsm_model.specs.Fields.{fields_of}
use Rattle.flsm_model.proofs.lists.Testing.{move_test}
use Rattle.flsm_model.proofs.shape.Shape.moves.Goals as goal

pub returns : goal.returns
returns c = λ floor.
    let options = c.args.self.now.options in
    let o : Column = column options.profile in
    let above : nat_lt c.args.level o.last_level ≡ true = lt-ltb c.args.level o.last_level (omega (arith, c.if-level-self.false, options.last_level_of)) in
    c.outputs_fit.ensures ∙ sym (move_test o (fields_of c.args.self.now) c.args.level floor c.args.inputs.now c.args.outputs.now above (sym c.are_inputs.ensures ∙ c.if-not-are_inputs.false))
