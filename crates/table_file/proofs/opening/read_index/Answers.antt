use Rattle.std.proofs.Common.{◌≡◌, ◌∙◌, length, take, drop, ap, sym, subst, rules}
use Rattle.table_file.specs.Opening.{IsIndex}
use Rattle.table_file.specs.declared.footer.Footer.{Footer}
use Rattle.table_file.proofs.Openings.{parts_of, one_footer}
use Rattle.table_file.proofs.Placing.{index_place}
use Rattle.table_file.proofs.opening.read_index.Goals as goal

pub returns-in-Err-Form-clause-damaged : goal.returns-in-Err-Form-clause-damaged
returns-in-Err-Form-clause-damaged g c = λ damage told foot items filter o.
    let bytes = g.P.File.TableHandle.bytes c.args.file.now in
    let f = c.args.footer.now in
    let parts = parts_of c.args.row.now items filter bytes o in
    let same = one_footer c.args.row.now o.footer f c.requires.bytes o.agrees c.requires.footer (sym parts.footer ∙ foot) in
    let place : length o.body ≡ f.index = o.body_len ∙ ap (λ (f : Footer). f.index) same in
    let text = c.as_slice-bytes.ensures.value ∙ c.in-Ok.ensures.bytes told ∙ ap (λ (f : Footer). take f.index_len (drop f.index bytes)) (sym same) ∙ parts.index in
    c.in-Err-Form.ensures.form (search rules) items (subst (λ n. IsIndex n items) place o.index) text

pub returns-in-Err-Form-clause-place : goal.returns-in-Err-Form-clause-place
returns-in-Err-Form-clause-place g c = λ told ends.
    index_place c.args.row.now (g.P.File.TableHandle.bytes c.args.file.now) c.args.footer.now c.requires.bytes ends
