use Rattle.std.proofs.Common.{Err, inl, inr, refl, sym, ◌∙◌, subst}
use Rattle.std.proofs.lemmas.Bool.{true≢false}
use Rattle.flsm_core.specs.declared.sync_fault.SyncFault.TheVariants.{Stopped}
use Rattle.flsm_core.specs.Place.{after_sync, Syncs}
use Rattle.pebbles_cli.proofs.write.make_stable.Goals as goal

pub sync-requires : goal.sync-requires
sync-requires g c = (c.requires.0, c.requires.1)

pub returns-in-Ok-clause-stands : goal.returns-in-Ok-clause-stands
returns-in-Ok-clause-stands g c = λ p stands running. c.in-Ok.ensures.stands p stands

pub returns-in-Ok-clause-answers : goal.returns-in-Ok-clause-answers
returns-in-Ok-clause-answers g c = inl refl

pub returns-in-Err-Journal-clause-stands : goal.returns-in-Err-Journal-clause-stands
returns-in-Err-Journal-clause-stands g c = λ p stands running.
    subst (λ f. g.S.Store.stands c.sync.new.self (after_sync p (Err f))) c.in-Err-Journal.field-0-is (c.in-Err-Journal.ensures.stands p stands)

pub returns-in-Err-Journal-clause-answers : goal.returns-in-Err-Journal-clause-answers
returns-in-Err-Journal-clause-answers g c = inr refl

pub unreachable-requires : goal.unreachable-requires
unreachable-requires g c =
    let stopped : Syncs c.requires.0 (Err Stopped) = subst (λ f. Syncs c.requires.0 (Err f)) c.in-Err-Stopped.field-0-is (c.in-Err-Stopped.ensures.answers c.requires.0 c.requires.1) in
    absurd (true≢false (sym stopped ∙ c.requires.2))
