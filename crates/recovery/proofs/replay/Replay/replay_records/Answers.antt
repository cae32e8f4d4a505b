use Rattle.std.proofs.Common.{ℕ, ◌++◌, ◌∷◌, [], sym, subst, append_assoc, refl, inl, inr}
use Rattle.std.proofs.lemmas.List.{append-nil, take_all}
use Rattle.peb_base.specs.Batches.{Batches}
use Rattle.record_log.specs.Records.{bodies_of}
use Rattle.recovery.specs.declared.replay_fault.ReplayFault.{ReplayFault}
use Rattle.recovery.specs.declared.replay_fault.ReplayFault.TheVariants as replays
use Rattle.store_layout.specs.Logs.{AreRecords}
use Rattle.recovery.specs.Opening.{IsReplayOf, OnDamage}
use Rattle.recovery.proofs.Replays.{one_more_record, bodies_step, stops_there}
use Rattle.recovery.proofs.replay.Replay.replay_records.Goals as goal

pub loop-item-init : goal.loop-item-init
loop-item-init c = record {
  so_far = λ batches replay. ([], record { records = refl; each = tt }, subst (λ (bs : Batches). IsReplayOf c.args.self.now bs) (sym (append-nil batches)) replay);
  here = inl refl;
}

pub loop-item-preserved : goal.loop-item-preserved
loop-item-preserved c = record {
  so_far = λ batches replay.
      let before = c.loop-item.invariant.so_far batches replay in
      let more = c.in-Ok.ensures.ok (batches ++ before.0) before.2 in
      let bodies = bodies_step c.args.items.now c.loop-item.item-index c.item-item.result c.loop-item-test.true c.item-item.is in (
        before.0 ++ more.0 ∷ [],
        subst (λ bs. AreRecords c.args.session bs (before.0 ++ more.0 ∷ [])) (sym bodies) (one_more_record c.args.session _ _ before.0 more.0 before.1 more.1 more.2),
        subst (λ (bs : Batches). IsReplayOf c.replay_record.new.self bs) (append_assoc batches before.0 (more.0 ∷ [])) more.3,
      );
  here = inr c.in-Ok.ensures.here;
}

on_damage : (fault : ReplayFault) (P Q : ℕ → Type 0) → ((at : ℕ) → P at → Q at) → OnDamage fault P → OnDamage fault Q
on_damage (replays.Damaged at) P Q f p = f at p
on_damage replays.Memory P Q f p = tt

pub returns-in-Err-clause-damaged : goal.returns-in-Err-clause-damaged
returns-in-Err-clause-damaged c = on_damage c.in-Err.fault _ _ (λ at damage batches replay.
    let before = c.loop-item.invariant.so_far batches replay in
    stops_there c.args.session batches before.0 c.args.items.now c.loop-item.item-index at c.item-item.result c.loop-item-test.true c.item-item.is damage.0
    before.1 before.2.ordered (damage.1 (batches ++ before.0) before.2))
    c.in-Err.ensures.damaged

pub returns-clause-ok : goal.returns-clause-ok
returns-clause-ok c = λ batches replay.
    let all = c.loop-item.invariant.so_far batches replay in
    (all.0, subst (λ bs. AreRecords c.args.session (bodies_of bs) all.0) (take_all c.loop-item.item-index c.args.items.now c.loop-item-test.false) all.1, all.2)
