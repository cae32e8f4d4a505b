use Rattle.std.proofs.Common.{rules, ◌≡◌, length, ap, sym, ◌∙◌}
use Rattle.std.specs.Vec.Iter.{into_iter_items, into_iter_len}
use Rattle.std.proofs.lemmas.List.{map-id}
use Rattle.std.proofs.lemmas.Iterator.Adapters.{YieldsList-from_vec}
use Rattle.std.proofs.lemmas.Iterator.Consumers.{YieldsList-end}
use Rattle.peb_base.specs.Batches.{numbered}
use Rattle.peb_base.specs.Map.{apply_change, apply_entries}
use Rattle.recovery.proofs.Replays.{apply_push}
use Rattle.recovery.proofs.replay.apply_all.Goals as goal

pub loop-op-preserved : goal.loop-op-preserved
loop-op-preserved c = λ first.
    c.in_ok-apply.ensures.ok ∙ ap (λ m. apply_change c.in-Some.op.key c.in-Some.op.change m) (c.loop-op.invariant first)
    ∙ sym (apply_push first c.loop-op.yielded c.in-Some.op c.args.current.now)

pub returns : goal.returns
returns c = λ first.
    let from : into_iter_items c.into_iter-op-iterator.result ≡ c.args.ops.items = search rules in
    let count : into_iter_len c.into_iter-op-iterator.result ≡ length c.args.ops.items = search rules in
    let all = YieldsList-end (YieldsList-from_vec c.args.ops.items from count) c.loop-op.yielded c.loop-op.op-iterator c.loop-op.yielded_by c.next.result c.next.new.self c.in-None.is c.next.ensures.steps in
    c.loop-op.invariant first ∙ ap (λ ops. apply_entries (numbered first ops) c.args.current.now) (sym (map-id c.loop-op.yielded) ∙ all.0)
