use Rattle.std.proofs.Common.{◌<◌, length, sym, subst, Err, rules}
use Rattle.table_file.specs.Limits.{IsRefused}
use Rattle.table_file.proofs.Cuts.{fault_last}
use Rattle.table_file.proofs.table_writer.close_last.Goals as goal

pub returns-in-Err-clause-refused : goal.returns-in-Err-clause-refused
returns-in-Err-clause-refused g c = λ blocks index ends.
    let some : 0 < length c.args.builder.now.entries = search rules in
    subst (λ r. IsRefused {T = Unit {0}} r (Err c.in-Err.fault)) (sym (fault_last c.args.index.now blocks c.args.builder.now.entries c.args.summary.now.largest index some (ends.key some))) c.in-Err.ensures.refused
