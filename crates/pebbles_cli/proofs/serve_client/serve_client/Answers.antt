use Rattle.std.proofs.Common.{None, true, [], inl, inr, refl}
use Rattle.pebbles_cli.proofs.Growing.{runs_show}
use Rattle.pebbles_cli.proofs.Numbering.{runs_number}
use Rattle.pebbles_cli.proofs.Handing.{rose_same, replies_named}
use Rattle.pebbles_cli.proofs.Running.{taken_all}
use Rattle.pebbles_cli.proofs.serve_client.serve_client.Goals as goal

pub returns-in_default-clause-served : goal.returns-in_default-clause-served
returns-in_default-clause-served g c = λ start stands. (
  record { text = []; served = record { fault = None; sink_failed = true }; place = start },
  (
    stands,
    refl,
    inr (record {
      cause = c.in_default.ensures.cause.failed;
      no_reply = c.in_default.ensures.others 1;
      no_text = refl;
      served = refl;
      place = refl;
      names = c.in_default.ensures.unopened;
    }),
  ),
)

pub returns-clause-served : goal.returns-clause-served
returns-clause-served g c = λ start stands.
    let told = c.serve-served.ensures.told start stands in
    let session = g.S.Store.session c.args.store.now in
    let served = c.serve-served.result in
    let sink = c.in-Ok.sink in
    let after = c.serve-served.new.sink in (
      record { text = told.0; served = served; place = told.1 },
      (
        told.2.0,
        refl,
        inl (record {
          told = told.2.1.1;
          shown = runs_show session start c.args.commands.items told.0 served.fault served.sink_failed told.1 told.2.1.1;
          numbered = runs_number session start c.args.commands.items told.0 served.fault served.sink_failed told.1 told.2.1.1;
          taken = taken_all (g.K.One.Sink.taken sink) (g.K.One.Sink.taken after) (g.K.Sinks.took c.back.new.self 1) told.0 c.in-Ok.ensures.fresh told.2.1.0 c.back.ensures.this;
          failed = λ failed. rose_same (g.K.One.Sink.faults sink) 0 (g.K.One.Sink.faults after) (g.K.Sinks.client_faults c.back.new.self 1) c.in-Ok.ensures.unused c.back.ensures.count (c.serve-served.ensures.sink failed);
          names = replies_named c.args.name.now (g.K.One.Sink.label sink) (g.K.One.Sink.label after) (g.K.Sinks.names c.args.sinks.now) (g.K.Sinks.names c.client.new.self) (g.K.Sinks.names c.back.new.self)
              c.serve-served.ensures.label c.in-Ok.ensures.label c.in-Ok.ensures.opened c.back.ensures.returned;
        }),
      ),
    )

pub returns-in_default-clause-touched : goal.returns-in_default-clause-touched
returns-in_default-clause-touched g c = g.met.S.Store.touched_self c.args.store.now
