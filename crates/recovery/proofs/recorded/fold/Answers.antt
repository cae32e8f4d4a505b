use Rattle.std.proofs.Common.{take, refl, sym, ◌∙◌, subst}
use Rattle.std.proofs.lemmas.List.{take_all}
use Rattle.peb_base.specs.declared.options.Options.{Options}
use Rattle.peb_base.specs.Profiles.{column}
use Rattle.flsm_model.specs.Fields.{fields_of}
use Rattle.flsm_model.specs.Fits.{IsShapeOf, GoesOn}
use Rattle.manifest.specs.Manifests.{edits_of}
use Rattle.recovery.proofs.Records.{edits_step, fold_on, fold_refused, first_misfit}
use Rattle.recovery.proofs.recorded.fold.Goals as goal

pub loop-item-init : goal.loop-item-init
loop-item-init c = record {
  options = c.in-Ok.ensures.options;
  shape = c.in-Ok.ensures.record;
}

pub loop-item-preserved : goal.loop-item-preserved
loop-item-preserved c =
    let o = column c.args.options.now.profile in
    let inv = c.loop-item.invariant in
    let taken = edits_of (take c.loop-item.item-index c.args.edits.now) in
    let goes : GoesOn o (fields_of c.loop-item.shape) (fields_of c.add.new.self) c.item-item.result.1 c.in-Ok-add.fitting =
    subst (λ (p : Options). GoesOn (column p.profile) (fields_of c.loop-item.shape) (fields_of c.add.new.self) c.item-item.result.1 c.in-Ok-add.fitting) inv.options c.in-Ok-add.ensures.record in
    record {
      options = c.add.ensures.options ∙ inv.options;
      shape = subst (IsShapeOf o (fields_of c.add.new.self)) (sym (edits_step c.args.edits.now c.loop-item.item-index c.item-item.result c.loop-item-test.true c.item-item.is))
          (fold_on o (fields_of c.loop-item.shape) (fields_of c.add.new.self) taken c.item-item.result.1 c.in-Ok-add.fitting goes c.if-not-fitting.false inv.shape);
    }

pub returns-then-not-fitting-clause-cause : goal.returns-then-not-fitting-clause-cause
returns-then-not-fitting-clause-cause c =
    let o = column c.args.options.now.profile in
    let inv = c.loop-item.invariant in
    let taken = edits_of (take c.loop-item.item-index c.args.edits.now) in
    let goes : GoesOn o (fields_of c.loop-item.shape) (fields_of c.add.new.self) c.item-item.result.1 c.in-Ok-add.fitting =
    subst (λ (p : Options). GoesOn (column p.profile) (fields_of c.loop-item.shape) (fields_of c.add.new.self) c.item-item.result.1 c.in-Ok-add.fitting) inv.options c.in-Ok-add.ensures.record in (
      refl,
      first_misfit o c.args.edits.now c.loop-item.item-index c.item-item.result.0 c.item-item.result c.loop-item-test.true c.item-item.is refl inv.shape.legal
          (fold_refused o (fields_of c.loop-item.shape) (fields_of c.add.new.self) taken c.item-item.result.1 c.in-Ok-add.fitting goes c.if-not-fitting.true inv.shape),
    )

pub returns-clause-shape : goal.returns-clause-shape
returns-clause-shape c =
    let o = column c.args.options.now.profile in
    subst (λ found. IsShapeOf o (fields_of c.loop-item.shape) (edits_of found)) (take_all c.loop-item.item-index c.args.edits.now c.loop-item-test.false) c.loop-item.invariant.shape
