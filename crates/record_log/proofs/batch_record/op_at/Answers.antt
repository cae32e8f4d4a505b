use Rattle.std.proofs.Common.{◌≡◌, ◌∷◌, ◌++◌, ℕ, rules, ◌∙◌, ap}
use Rattle.record_log.specs.Counted.{counted_bytes}
use Rattle.record_log.proofs.Ops.{no_op_value}
use Rattle.record_log.proofs.batch_record.op_at.Goals as goal

pub returns-in-None-value_at-clause-form : goal.returns-in-None-value_at-clause-form
returns-in-None-value_at-clause-form c = λ err op rest is.
    let found = c.in-Some.found in
    let kind : found.0 ≡ 1 = search rules in
    no_op_value c.args.bytes.now found.1.now found.2.now op rest (c.in-Some.ensures.found ∙ ap (λ (k : ℕ). k ∷ (counted_bytes 2 found.1.now ++ found.2.now)) kind) c.in-Some.ensures.key c.in-None-value_at.ensures.none is
