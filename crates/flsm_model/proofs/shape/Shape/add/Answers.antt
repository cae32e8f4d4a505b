use Rattle.std.proofs.Common.{true, false, refl, sym, ◌∙◌}
use Rattle.peb_base.specs.Profiles.{column}
use Rattle.flsm_model.specs.Fields.{fields_of}
use Rattle.flsm_model.proofs.lists.Shaped.{goes_on}
use Rattle.flsm_model.proofs.shape.Shape.add.Goals as goal

pub returns-then-not-branch-clause-record : goal.returns-then-not-branch-clause-record
returns-then-not-branch-clause-record c =
    goes_on (column c.args.self.now.options.profile) (fields_of c.args.self.now) (fields_of c.args.self.now) c.args.edit.now false (sym c.if-not-branch.true ∙ c.in_ok-fits.ensures) refl

pub returns-clause-record : goal.returns-clause-record
returns-clause-record c =
    goes_on (column c.args.self.now.options.profile) (fields_of c.args.self.now) (fields_of c.grow.new.self) c.args.edit.now true (sym c.if-not-branch.false ∙ c.in_ok-fits.ensures) c.in_ok-grow.ensures.ok
