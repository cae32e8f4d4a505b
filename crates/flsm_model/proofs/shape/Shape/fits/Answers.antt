use Rattle.std.proofs.Common.{◌∙◌, ap, sym}
use Rattle.peb_base.specs.Profiles.{Column, column}
use Rattle.flsm_model.specs.declared.edit.Edit.TheVariants.{Move, Merge}
use Rattle.flsm_model.specs.Shape.{Shape}
use Rattle.flsm_model.specs.Fits as fits
use Rattle.flsm_model.specs.Fields.{fields_of}
use Rattle.flsm_model.proofs.shape.Shape.fits.Goals as goal

pub returns-in-Move : goal.returns-in-Move
returns-in-Move c =
    let o : Column = column c.args.self.now.options.profile in
    let s : Shape = fields_of c.args.self.now in
    let m = c.in-Move in
    c.moves.ensures m.floor ∙ ap (λ xs. fits.fits o s (Move m.level m.floor xs c.items-in-Move-2.result.now)) c.items-in-Move.ensures
    ∙ ap (λ ys. fits.fits o s (Move m.level m.floor m.inputs ys)) c.items-in-Move-2.ensures ∙ ap (fits.fits o s) (sym m.is)

pub returns-in-Merge : goal.returns-in-Merge
returns-in-Merge c =
    let o : Column = column c.args.self.now.options.profile in
    let s : Shape = fields_of c.args.self.now in
    let m = c.in-Merge in
    c.merges.ensures m.floor m.whole ∙ ap (λ xs. fits.fits o s (Merge m.floor m.whole xs c.items-in-Merge-2.result.now)) c.items-in-Merge.ensures
    ∙ ap (λ ys. fits.fits o s (Merge m.floor m.whole m.inputs ys)) c.items-in-Merge-2.ensures ∙ ap (fits.fits o s) (sym m.is)
