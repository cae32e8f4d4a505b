use Rattle.std.proofs.Common.{◌≡◌, ◌∙◌, ◌++◌, true, false, List, refl, ap}
use Rattle.std.specs.Arc.{arc_value}
use Rattle.peb_base.specs.Entries.{entry_lt}
use Rattle.peb_base.specs.SortedParts.{apart_front, apart_rest}
use Rattle.peb_base.specs.declared.entry.Entry.{Entry}
use Rattle.std.proofs.lemmas.Result.{on_ok_weaker}
use Rattle.mem_table.proofs.PutLemmas.{begins, lower_half, upper_half}
use Rattle.mem_table.proofs.chunks.put_in_half.Goals as goal

pub put-requires-clause-apart : goal.put-requires-clause-apart
put-requires-clause-apart c =
    apart_front (arc_value c.args.entry) c.args.low.now c.args.high.now c.requires.apart

pub put-requires-else-is_before-clause-apart : goal.put-requires-else-is_before-clause-apart
put-requires-else-is_before-clause-apart c =
    apart_rest (arc_value c.args.entry) c.args.low.now c.args.high.now c.requires.apart

pub returns-then-is_before : goal.returns-then-is_before
returns-then-is_before c =
    let e : Entry = arc_value c.args.entry in
    let f : Entry = c.entry-first.result.now in
    let low : List Entry = c.args.low.now in
    let high : List Entry = c.args.high.now in
    let lt : entry_lt e f ≡ true = cc in
    let half = lower_half e f (low ++ high) low high refl
    (begins high f c.entry-first.ensures) lt in
    on_ok_weaker c.put.result (λ is. ap (λ l. l ++ high) is ∙ half) c.put.ensures.ok

pub returns-else-is_before : goal.returns-else-is_before
returns-else-is_before c =
    let e : Entry = arc_value c.args.entry in
    let f : Entry = c.entry-first.result.now in
    let low : List Entry = c.args.low.now in
    let high : List Entry = c.args.high.now in
    let ge : entry_lt e f ≡ false = cc in
    let half = upper_half e f (low ++ high) low high refl
    (begins high f c.entry-first.ensures) c.requires.sorted c.requires.apart ge in
    on_ok_weaker c.put-else-is_before.result
    (λ is. ap (λ h. low ++ h) is ∙ half) c.put-else-is_before.ensures.ok
