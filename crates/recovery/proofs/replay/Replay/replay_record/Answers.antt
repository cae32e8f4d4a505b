use Rattle.std.proofs.Common.{◌≡◌, ◌<◌, ◌≤◌, ℕ, Err, arith, refl, sym, ap, ◌∙◌, subst}
use Rattle.peb_base.specs.Numbers.{session_of}
use Rattle.peb_base.specs.Batches.{numbered}
use Rattle.peb_base.specs.Map.{apply_entries}
use Rattle.store_layout.specs.Logs.{record_of-is}
use Rattle.recovery.proofs.Replays.{no_batch, other_session, not_above, goes_on}
use Rattle.recovery.proofs.replay.Replay.replay_record.Goals as goal

pub returns-in-Err-Form-clause-damaged : goal.returns-in-Err-Form-clause-damaged
returns-in-Err-Form-clause-damaged c = (
  refl,
  λ batches replay.
      no_batch c.args.session batches c.args.item.now.body.items
      (λ first ops is spelled. c.in-Err-Form.ensures.form (ap Err c.in-Err-Form.field-0-is) first ops is (c.deref.ensures.value ∙ spelled)),
)

pub returns-then-session-clause-damaged : goal.returns-then-session-clause-damaged
returns-then-session-clause-damaged c = (
  refl,
  λ batches replay.
      other_session c.one_batch.ensures c.args.session batches c.args.item.now.body.items c.in-Ok.found.0 c.in-Ok.found.1 c.in-Ok.ensures.batch
      (sym c.deref.ensures.value ∙ c.in-Ok.ensures.bytes) (λ e. c.if-session.true (c.session.ensures.session ∙ e)),
)

pub returns-then-packed-clause-damaged : goal.returns-then-packed-clause-damaged
returns-then-packed-clause-damaged c = (
  refl,
  λ batches replay.
      let low : c.in-Ok.found.0 ≤ c.args.self.now.last = omega (arith, c.if-packed.true, c.packed.ensures.number, c.packed-2.ensures.number) in
      not_above c.one_batch.ensures c.args.session batches c.args.item.now.body.items c.in-Ok.found.0 c.in-Ok.found.1 c.in-Ok.ensures.batch
      (sym c.deref.ensures.value ∙ c.in-Ok.ensures.bytes) (subst (λ (n : ℕ). c.in-Ok.found.0 ≤ n) replay.last low),
)

pub returns-clause-ok : goal.returns-clause-ok
returns-clause-ok c = λ batches replay.
    let here : session_of c.in-Ok.found.0 ≡ c.args.session = sym c.session.ensures.session ∙ c.if-session.false in
    let above : c.args.self.now.last < c.in-Ok.found.0 = omega (arith, c.if-packed.false, c.packed.ensures.number, c.packed-2.ensures.number) in
    let current : c.apply_all.new.current ≡ apply_entries (numbered c.in-Ok.found.0 c.in-Ok.found.1) c.args.self.now.current =
    c.in-Ok-apply_all.ensures c.in-Ok.found.0 ∙ ap (λ ops. apply_entries (numbered c.in-Ok.found.0 ops) c.args.self.now.current) c.into_ops.ensures.ops in (
      (c.in-Ok.found.0, c.in-Ok.found.1),
      record { batch = c.in-Ok.ensures.batch; here = here },
      sym c.deref.ensures.value ∙ c.in-Ok.ensures.bytes ∙ sym (record_of-is (c.in-Ok.found.0, c.in-Ok.found.1)),
      goes_on c.args.self.now _ c.args.session batches (c.in-Ok.found.0, c.in-Ok.found.1) (record { batch = c.in-Ok.ensures.batch; here = here })
          above c.last_of-last.ensures current replay,
    )
