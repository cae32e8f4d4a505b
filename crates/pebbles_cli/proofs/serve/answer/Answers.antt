use Rattle.std.proofs.Common.{◌∷◌, [], refl}
use Rattle.flsm_core.specs.Place.{put_op}
use Rattle.pebbles_cli.specs.Writes.{after_write}
use Rattle.pebbles_cli.proofs.serve.answer.Goals as goal

pub returns-in-Put-clause-told : goal.returns-in-Put-clause-told
returns-in-Put-clause-told g c = rw c.in-Put.is (λ old stands. (
  after_write (g.S.Store.session c.args.store.now) old (put_op c.in-Put.key c.in-Put.value ∷ []) c.in-Put.sync c.write-answer.result,
  (
    c.write-answer.ensures.stands old stands,
    record {
      answer = c.write-answer.result;
      answers = c.write-answer.ensures.answers old stands;
      line = c.tell_write.ensures.line;
      tells = c.tell_write.ensures.cause;
      leads = refl;
    },
  ),
))

pub returns-in-Get-clause-told : goal.returns-in-Get-clause-told
returns-in-Get-clause-told g c = rw c.in-Get.is (λ old stands. (old, (stands, record { line = c.get.ensures old stands; tells = refl; leads = refl })))
