use Rattle.std.proofs.Common.{◌≡◌, ◌+◌, ◌<◌, ◌≤◌, ℕ, List, length, sym, subst, arith}
use Rattle.std.specs.Prelude.{All}
use Rattle.peb_base.specs.Inserting.{inserted_below}
use Rattle.peb_base.specs.Numbers.{number_of}
use Rattle.peb_base.specs.declared.entry.Entry.{Entry}
use Rattle.mem_table.proofs.tests.insert.Goals as goal

pub returns : goal.returns
returns c =
    let old : List Entry = c.args.table.now in
    let n : ℕ = number_of 1 (c.args.count + length c.args.batch.now) in
    let first : c.new.result ≡ number_of 1 c.args.count = c.new.ensures in
    let older = subst (λ m. All (λ (e : Entry). e.number < m) old) (sym first) c.requires.newer in
    let le : c.new.result + length c.args.batch.now ≤ n = omega (arith, first) in
    subst (λ l. All (λ (e : Entry). e.number < n) l) (sym c.in_ok-insert.ensures.ok)
    (inserted_below old c.new.result c.args.batch.now n older le)
