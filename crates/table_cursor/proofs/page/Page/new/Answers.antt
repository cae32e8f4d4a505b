use Rattle.std.proofs.Common.{take, arith}
use Rattle.table_cursor.proofs.Pages.{none_in, empty_page}
use Rattle.table_cursor.proofs.page.Page.new.Goals as goal

pub invariant_of-result : goal.invariant_of-result
invariant_of-result c = empty_page 0 0 c.new.result c.args.loan c.new-2.result (omega arith)

pub returns : goal.returns
returns c = none_in (take 0 c.args.loan)
