use Rattle.std.proofs.Common.{◌≡◌, ◌++◌, ◌∷◌, [], true, List, ℕ, length-append, arith, rules}
use Rattle.peb_base.specs.EntryRefs.{entry_of}
use Rattle.peb_base.specs.Entries.{IsEntry, AscendFrom, AreSorted, comes_before}
use Rattle.peb_base.specs.Keys.{Bytes}
use Rattle.peb_base.specs.declared.entry.Entry.{Entry}
use Rattle.table_cursor.proofs.tests.push_behind.Goals as goal

-- one more entry behind the last
ascend_more : (key : Bytes) (number : ℕ) (es : List Entry) (e f : Entry) → AscendFrom key number (es ++ e ∷ []) → IsEntry f → comes_before e.key e.number f.key f.number ≡ true
    → AscendFrom key number ((es ++ e ∷ []) ++ f ∷ [])
ascend_more key number [] e f each is after = (each.0, each.1, (is, after, tt))
ascend_more key number (x ∷ xs) e f each is after = (each.0, each.1, ascend_more x.key x.number xs e f each.2 is after)

pub returns : goal.returns
returns g c = λ _.
    let es = c.requires.pushed.0 in
    let e = entry_of c.args.entry in
    let after : comes_before c.args.before.0.now c.args.before.1 e.key e.number ≡ true = search rules in
    let sorted : AreSorted (es ++ e ∷ []) = c.requires.pushed.2 e c.requires.entry after in (
      es ++ e ∷ [],
      c.in_ok-push.ensures.pushed es c.requires.pushed.1 sorted,
      omega (arith, length-append es (e ∷ [])),
      λ f is below. ascend_more [] 0 es e f sorted is below,
    )
