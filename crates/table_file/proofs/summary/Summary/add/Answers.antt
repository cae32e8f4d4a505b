use Rattle.std.proofs.Common.{◌+◌, ap, arith, length, [], refl}
use Rattle.peb_base.specs.EntryRefs.{entry_of}
use Rattle.table_file.proofs.Summing.{last_is, front_sorted, raw-small, sums_on}
use Rattle.table_file.proofs.summary.Summary.add.Goals as goal

pub put_first-requires : goal.put_first-requires
put_first-requires c = omega (arith, (last_is [] 0 c.requires.0 (entry_of c.args.entry.now) c.requires.2).key)

pub overflow_add-self-2 : goal.overflow_add-self-2
overflow_add-self-2 c =
    let is = last_is [] 0 c.requires.0 (entry_of c.args.entry.now) c.requires.2 in
    omega (arith, is.key, is.value, c.len.ensures)

pub overflow_add-self-3 : goal.overflow_add-self-3
overflow_add-self-3 c =
    let is = last_is [] 0 c.requires.0 (entry_of c.args.entry.now) c.requires.2 in
    let sorted = front_sorted [] 0 c.requires.0 (entry_of c.args.entry.now) c.requires.2 in
    omega (arith, is.key, is.value, c.len.ensures, c.requires.1.raw, raw-small [] 0 c.requires.0 sorted, c.requires.3)

pub put-requires-clause-fits : goal.put-requires-clause-fits
put-requires-clause-fits c = omega (arith, (last_is [] 0 c.requires.0 (entry_of c.args.entry.now) c.requires.2).key)

pub returns : goal.returns
returns c = λ es sums sorted.
    let e = entry_of c.args.entry.now in
    sums_on _ _ _ _ _ _ _ c.args.self.now es e sums (last_is [] 0 es e sorted) refl
    (ap (λ n. c.args.self.now.raw + (length e.key + n)) c.len.ensures) c.min-self.ensures c.max-self.ensures refl c.put.ensures c.put_first.ensures.first c.put_first.ensures.later
