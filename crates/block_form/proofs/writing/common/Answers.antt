use Rattle.std.proofs.Common.{◌≡◌, ◌+◌, suc, drop, arith, ap, ◌∙◌}
use Rattle.peb_base.specs.Tables.{common_prefix}
use Rattle.block_form.proofs.Prefixes.{prefix-more, prefix-stop, prefix-past_right}
use Rattle.block_form.proofs.writing.common.Goals as goal

pub returns-then-i-key : goal.returns-then-i-key
returns-then-i-key c =
    let i = c.loop-i.i in
    omega (arith, c.loop-i.invariant, prefix-past_right i (drop i c.args.before.now) c.args.key.now c.if-i-key.true)

pub returns-then-before-i : goal.returns-then-before-i
returns-then-before-i c =
    let i = c.loop-i.i in
    omega (arith, c.loop-i.invariant, prefix-stop i c.args.before.now c.args.key.now (omega arith) c.if-i-key.false c.if-before-i.true)

pub loop-i-preserved : goal.loop-i-preserved
loop-i-preserved c =
    let i = c.loop-i.i in
    let before = c.args.before.now in
    let key = c.args.key.now in
    let one : suc i ≡ i + 1 = omega arith in
    let more : common_prefix (drop i before) (drop i key) ≡ suc (common_prefix (drop (i + 1) before) (drop (i + 1) key)) =
    prefix-more i before key (omega arith) (omega arith) c.if-before-i.false ∙ ap (λ n. suc (common_prefix (drop n before) (drop n key))) one in
    omega (arith, c.loop-i.invariant, more)
