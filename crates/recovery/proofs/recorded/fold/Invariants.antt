use Rattle.std.proofs.Common.{◌≡◌, take}
use Rattle.peb_base.specs.Profiles.{column}
use Rattle.flsm_model.specs.Fields.{fields_of}
use Rattle.flsm_model.specs.Fits.{IsShapeOf}
use Rattle.manifest.specs.Manifests.{edits_of}
use Rattle.recovery.proofs.recorded.fold.Given as goal

abbrev pub invariant-loop-item : goal.invariant-loop-item
invariant-loop-item l = record {
  options : l.shape.options ≡ l.options;
  shape : IsShapeOf (column l.options.profile) (fields_of l.shape) (edits_of (take l.item-index l.edits));
}
