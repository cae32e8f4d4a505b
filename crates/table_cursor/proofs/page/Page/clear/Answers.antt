use Rattle.std.proofs.Common.{take}
use Rattle.table_cursor.proofs.Pages.{none_in, empty_page}
use Rattle.table_cursor.proofs.page.Page.clear.Goals as goal

pub invariant_of-self : goal.invariant_of-self
invariant_of-self c = empty_page c.self.inside.len c.self.inside.place c.self.inside.here c.self.inside.loan c.self.inside.key c.self.invariant.fits

pub returns : goal.returns
returns c = none_in (take c.self.inside.len c.self.inside.loan)
