use Rattle.std.proofs.Common.{◌≡◌, ◌∙◌, ap, sym}
use Rattle.bloom.specs.Filter.{may_hold}
use Rattle.peb_base.specs.Choice.{mixed}
use Rattle.table_file.proofs.table.Table.may_hold.Goals as goal

pub returns-clause-held : goal.returns-clause-held
returns-clause-held g c = λ es e holds has same.
    let filter : c.self.inside.filter ≡ c.args.self.now.filter = λ i. (c.self.view_is i).filter in
    c.may_hold.ensures ∙ ap (λ f. may_hold f (mixed c.args.key.now)) filter
    ∙ ap (λ k. may_hold c.args.self.now.filter (mixed k)) (sym same)
    ∙ c.law_held.ensures c.args.self.now es e holds has
