use Rattle.std.proofs.Common.{◌≡◌, ℕ, ◌+◌, ◌*◌, ◌^◌, max, ◌++◌, ◌∷◌, [], List, length, refl, sym, ap, ◌∙◌, subst, arith, inr, Err, false, ◌<◌}
use Rattle.peb_base.specs.declared.op.Op.{Op}
use Rattle.record_log.specs.BatchRecord.{batch_bytes, IsBatch}
use Rattle.record_log.specs.Groups.{record_bytes}
use Rattle.record_log.specs.State.{log_tail}
use Rattle.store_layout.specs.Logs.{record_of, record_of-is}
use Rattle.flsm_core.specs.Place.{put_op, next_number, all_of}
use Rattle.flsm_core.proofs.At.{at_put}
use Rattle.flsm_core.proofs.state.StateStore.put.Goals as goal

pub returns-clause-stands : goal.returns-clause-stands
returns-clause-stands g c = λ p is.
    let d = g.J.Journal in
    let batch : c.in-Ok.batch ≡ put_op c.args.key c.args.value ∷ [] = c.in-Ok.ensures in
    let body : c.in-Ok-write_batch.body.items ≡ batch_bytes c.in-Some.number (put_op c.args.key c.args.value ∷ []) =
    c.in-Ok-write_batch.ensures.bytes ∙ ap (batch_bytes c.in-Some.number) batch in
    let spelled = body ∙ sym (record_of-is (c.in-Some.number, put_op c.args.key c.args.value ∷ [])) in
    at_put d c.args.self.now _ c.args.self.now.session c.in-Some.number (put_op c.args.key c.args.value) p
    (record {
      journal = refl;
      session = refl;
      stopped = refl;
      file = c.add.ensures.file ∙ c.reserve.ensures.file;
      place = c.add.ensures.place ∙ c.reserve.ensures.place;
      tail = c.in-Ok-add.ensures.ok ∙ ap (λ t. t ++ record_bytes c.deref.result.now) c.reserve.ensures.tail
          ∙ ap (λ b. log_tail c.args.self.now.log ++ record_bytes b) (c.deref.ensures.value ∙ spelled);
      last = refl;
      current = c.in-Ok-apply_one.ensures.ok (put_op c.args.key c.args.value) batch;
      batch = record {
        batch = subst (λ (ops : List Op). IsBatch c.in-Some.number ops) batch c.in-Ok-write_batch.ensures.batch;
        here = c.in-Some.ensures.here;
      };
    })
    (c.in-Some.ensures.next ∙ ap (λ (n : ℕ). max n (c.args.self.now.session * 2 ^ 40) + 1) is.last)
    is

pub returns-in-Err-Full-clause-answers : goal.returns-in-Err-Full-clause-answers
returns-in-Err-Full-clause-answers g c = λ p is.
    let fine : p.stopped ≡ false = sym is.stopped ∙ c.if-self.false in
    let ops : List Op = put_op c.args.key c.args.value ∷ [] in
    let numbered : c.in-Some.number ≡ next_number c.args.self.now.session (all_of p) =
    c.in-Some.ensures.next ∙ ap (λ (n : ℕ). max n (c.args.self.now.session * 2 ^ 40) + 1) is.last in
    let body : c.in-Ok-write_batch.body.items ≡ record_of (next_number c.args.self.now.session (all_of p), ops) =
    c.in-Ok-write_batch.ensures.bytes ∙ ap (batch_bytes c.in-Some.number) c.in-Ok.ensures ∙ sym (record_of-is (c.in-Some.number, ops)) ∙ ap (λ n. record_of (n, ops)) numbered in
    let over : 2 ^ 31 < length (log_tail c.args.self.now.log) + 4 + c.len.result = c.in-Err-Full.ensures.full.0 (ap Err c.in-Err-Full.field-0-is) in
    let tail = ap length (is.waits fine).tail in
    let size = ap length body in (
      fine,
      inr (
        refl,
        refl,
        λ out. omega (arith, out, numbered, c.in-Some.ensures.below),
        omega (arith, over, tail, size, c.len.ensures),
      ),
    )

pub returns-clause-answers : goal.returns-clause-answers
returns-clause-answers g c = λ p is.
    let fine : p.stopped ≡ false = sym is.stopped ∙ c.if-self.false in
    let ops : List Op = put_op c.args.key c.args.value ∷ [] in
    let numbered : c.in-Some.number ≡ next_number c.args.self.now.session (all_of p) =
    c.in-Some.ensures.next ∙ ap (λ (n : ℕ). max n (c.args.self.now.session * 2 ^ 40) + 1) is.last in
    let body : c.in-Ok-write_batch.body.items ≡ record_of (next_number c.args.self.now.session (all_of p), ops) =
    c.in-Ok-write_batch.ensures.bytes ∙ ap (batch_bytes c.in-Some.number) c.in-Ok.ensures ∙ sym (record_of-is (c.in-Some.number, ops)) ∙ ap (λ n. record_of (n, ops)) numbered in
    let tail = ap length (is.waits fine).tail in
    let size = ap length body in (
      fine,
      record {
        numbered = λ out. omega (arith, out, numbered, c.in-Some.ensures.below);
        fits = λ over. let full = c.reserve.ensures.full.1 (omega (arith, over, tail, size, c.len.ensures)) in let ok = c.in-Ok-reserve.is in cc;
      },
      numbered,
    )
