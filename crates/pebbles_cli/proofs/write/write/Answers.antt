use Rattle.std.proofs.Common.{◌∷◌, [], Err, sym, subst}
use Rattle.flsm_core.specs.Place.{with_batch, put_op}
use Rattle.pebbles_cli.specs.Writes.{Writes, after_write}
use Rattle.pebbles_cli.proofs.Writing.{refused_leads, refused_answers, stable_leads, stable_answers}
use Rattle.pebbles_cli.proofs.write.write.Goals as goal

pub make_stable-requires : goal.make_stable-requires
make_stable-requires g c =
    let p = c.requires.0 in
    (with_batch (g.S.Store.session c.args.store.now) p (put_op c.args.key c.args.value ∷ []), c.in-Ok.ensures.stands p c.requires.1, (c.in-Ok.ensures.answers p c.requires.1).0)

pub returns-then-sync-clause-stands : goal.returns-then-sync-clause-stands
returns-then-sync-clause-stands g c = λ p stands.
    let session = g.S.Store.session c.args.store.now in
    let ops = put_op c.args.key c.args.value ∷ [] in
    rw c.if-sync.true (subst (λ q. g.S.Store.stands c.make_stable.new.store q) (stable_leads session p ops c.in-Ok.number c.make_stable.result c.make_stable.ensures.answers)
    (c.make_stable.ensures.stands (with_batch session p ops) (c.in-Ok.ensures.stands p stands) (c.in-Ok.ensures.answers p stands).0))

pub returns-then-sync-clause-answers : goal.returns-then-sync-clause-answers
returns-then-sync-clause-answers g c = λ p stands.
    rw c.if-sync.true (stable_answers (g.S.Store.session c.args.store.now) p (put_op c.args.key c.args.value ∷ []) c.in-Ok.number c.make_stable.result c.make_stable.ensures.answers (c.in-Ok.ensures.answers p stands))

pub returns-else-sync-clause-stands : goal.returns-else-sync-clause-stands
returns-else-sync-clause-stands g c = λ p stands. rw c.if-sync.false (c.in-Ok.ensures.stands p stands)

pub returns-in-Err-clause-stands : goal.returns-in-Err-clause-stands
returns-in-Err-clause-stands g c = λ p stands.
    let ops = put_op c.args.key c.args.value ∷ [] in
    let session = g.S.Store.session c.args.store.now in
    subst (λ e. g.S.Store.stands c.put.new.self (after_write session p ops c.args.sync (Err e))) (sym c.from.ensures)
    (subst (λ q. g.S.Store.stands c.put.new.self q) (sym (refused_leads session p ops c.args.sync c.in-Err.fault)) (c.in-Err.ensures.stands p stands))

pub returns-in-Err-clause-answers : goal.returns-in-Err-clause-answers
returns-in-Err-clause-answers g c = λ p stands.
    let ops = put_op c.args.key c.args.value ∷ [] in
    let session = g.S.Store.session c.args.store.now in
    subst (λ e. Writes session p ops c.args.sync (Err e)) (sym c.from.ensures) (refused_answers session p ops c.args.sync c.in-Err.fault (c.in-Err.ensures.answers p stands))

pub returns-then-sync-clause-touched : goal.returns-then-sync-clause-touched
returns-then-sync-clause-touched g c = g.met.S.Store.touched_on c.args.store.now c.put.new.self c.make_stable.new.store c.put.ensures.touched c.make_stable.ensures.touched
