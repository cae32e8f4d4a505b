use Rattle.std.proofs.Common.{◌≡◌, ◌∙◌, ◌++◌, ◌≤◌, ◌-◌, ℕ, take, drop, List, length, ap, sym, subst, arith}
use Rattle.std.specs.Arc.{arc_value}
use Rattle.std.proofs.lemmas.List.{length-take}
use Rattle.peb_base.specs.Entries.{AreSorted, put_in}
use Rattle.peb_base.specs.Sorting.{IsApart}
use Rattle.peb_base.specs.declared.entry.Entry.{Entry}
use Rattle.mem_table.proofs.PutLemmas.{two_parts}
use Rattle.mem_table.proofs.chunks.halves.Goals as goal

-- the halves are the chunk
whole : (es low high : List Entry) (m : ℕ) → length es ≤ m → low ≡ take (64 - 0) (drop 0 es)
    → high ≡ take (m - 64) (drop 64 es) → low ++ high ≡ es
whole es low high m within lower upper =
    ap (λ l. l ++ high) lower ∙ ap (λ h. take (64 - 0) (drop 0 es) ++ h) upper
    ∙ two_parts 64 m es within

pub put_in_half-requires-clause-low : goal.put_in_half-requires-clause-low
put_in_half-requires-clause-low c =
    omega (arith, ap length c.in_ok-low.ensures, length-take 64 c.args.chunk.now)

pub put_in_half-requires-clause-sorted : goal.put_in_half-requires-clause-sorted
put_in_half-requires-clause-sorted c =
    let es : List Entry = c.args.chunk.now in
    let within : length es ≤ c.len.result = omega (arith, c.len.ensures.len) in
    subst AreSorted (sym
    (whole es c.in_ok-low.low c.in_ok-high.high c.len.result within c.in_ok-low.ensures c.in_ok-high.ensures))
    c.len.ensures.sorted

pub put_in_half-requires-clause-apart : goal.put_in_half-requires-clause-apart
put_in_half-requires-clause-apart c =
    let es : List Entry = c.args.chunk.now in
    let within : length es ≤ c.len.result = omega (arith, c.len.ensures.len) in
    subst (IsApart (arc_value c.args.entry))
    (sym (whole es c.in_ok-low.low c.in_ok-high.high c.len.result within c.in_ok-low.ensures c.in_ok-high.ensures))
    c.requires.apart

pub returns-clause-joined : goal.returns-clause-joined
returns-clause-joined c =
    let es : List Entry = c.args.chunk.now in
    let within : length es ≤ c.len.result = omega (arith, c.len.ensures.len) in
    ap (λ l. l ++ arc_value c.in_ok-new-2.field-0) c.in_ok-new.ensures.ok
    ∙ ap (λ h. c.put_in_half.new.low ++ h) c.in_ok-new-2.ensures.ok
    ∙ c.in_ok-put_in_half.ensures
    ∙ ap (put_in (arc_value c.args.entry))
    (whole es c.in_ok-low.low c.in_ok-high.high c.len.result within c.in_ok-low.ensures c.in_ok-high.ensures)
