use Rattle.std.proofs.Common.{◌≡◌, arith, rules, refl}
use Rattle.table_file.proofs.Summing.{first_fits, row_of}
use Rattle.table_file.proofs.summary.Summary.row.Goals as goal

pub of_packed-requires-2 : goal.of_packed-requires-2
of_packed-requires-2 c = let r = c.requires in omega (arith, r.1.last, (first_fits r.0 r.2 r.3).greatest)

pub returns-clause-row : goal.returns-clause-row
returns-clause-row c = λ es sums sorted some.
    let smallest : c.in_ok-smallest.smallest ≡ c.args.self.now.smallest = search rules in
    let largest : c.in_ok-largest.largest ≡ c.args.self.now.largest = search rules in
    row_of _ c.args.self.now es sums sorted some smallest largest refl refl c.of_packed.ensures c.of_packed-2.ensures
