use Rattle.std.proofs.Common.{◌≡◌, ◌∷◌, ◌++◌, [], length, rules, ap, arith, length-append}
use Rattle.record_log.proofs.Ops.{leaves_none, leaves_less, so_far_op, are_ops-push}
use Rattle.record_log.proofs.Results.{same_error}
use Rattle.record_log.proofs.batch_record.ops_of.Goals as goal

pub returns-in-Err-clause-form : goal.returns-in-Err-clause-form
returns-in-Err-clause-form c = λ err ops are counts whole.
    let left = c.loop-left.invariant.only ops are counts whole in
    leaves_none c.loop-left.left c.loop-left.rest.now left c.loop-left-test.true (c.in-Err.ensures.form (same_error _ _ err))

pub loop-left-preserved : goal.loop-left-preserved
loop-left-preserved c =
    let inv = c.loop-left.invariant in
    let batch = c.loop-left.batch in
    let op = c.in-Ok.found.0 in
    let rest = c.loop-left.rest.now in
    let behind = c.in-Ok.found.1.now in
    let pushed : c.push.new.self ≡ batch ++ op ∷ [] = search rules in
    record {
      so_far = rw pushed (so_far_op batch op rest behind c.args.bytes.now inv.so_far c.in-Ok.ensures.found);
      each = rw pushed (are_ops-push batch op inv.each c.in-Ok.ensures.op);
      counted = omega (arith, ap length pushed, length-append batch (op ∷ []), inv.counted, c.loop-left-test.true);
      only = λ ops are counts whole. leaves_less c.loop-left.left rest op behind (inv.only ops are counts whole) c.loop-left-test.true c.in-Ok.ensures.found c.in-Ok.ensures.op;
    }
