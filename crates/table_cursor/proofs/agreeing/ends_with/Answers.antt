use Rattle.std.proofs.Common.{rules}
use Rattle.table_cursor.proofs.Ends.{ends_tell}
use Rattle.table_cursor.proofs.agreeing.ends_with.Goals as goal

pub returns-then-eq : goal.returns-then-eq
returns-then-eq c = λ es told some. let last = ends_tell es c.args.here.now c.args.ends.now told some in rw (last.0, last.1) (search rules)

pub returns-else-eq : goal.returns-else-eq
returns-else-eq c = λ es told some. let last = ends_tell es c.args.here.now c.args.ends.now told some in rw (last.0, last.1) (search rules)
