use Rattle.std.proofs.Common.{rules, ◌≡◌, ◌+◌, true, false, [], ◌∷◌, ◌++◌, length, take, refl, sym, ap, ◌∙◌, arith}
use Rattle.std.specs.Result.{is_err}
use Rattle.std.specs.Vec.Iter.{into_iter_items, into_iter_len}
use Rattle.pebbles_cli.specs.Tells.{TellsOne}
use Rattle.pebbles_cli.proofs.Serving.{since_none, took_none, took_more, took_front, goes_on, stops, ends}
use Rattle.pebbles_cli.proofs.serve.serve.Goals as goal

pub loop-command-init : goal.loop-command-init
loop-command-init g c =
    let all : into_iter_items c.into_iter-command-iterator.result ≡ c.args.commands.items = c.into_iter-command-iterator.ensures.into_iter_gives.0 in
    record {
      told = λ old stands. (
        [],
        old,
        (
          stands,
          (
            took_none (g.K.Sink.taken c.args.sink.now),
            rw all (since_none (TellsOne (g.S.Store.session c.args.store.now)) old c.args.commands.items),
          ),
        ),
      );
      count = search rules;
      some = c.requires;
      session = refl;
      touched = g.met.S.Store.touched_self c.args.store.now;
      label = refl;
      sink_later = omega arith;
    }

pub returns-then-is_err-clause-told : goal.returns-then-is_err-clause-told
returns-then-is_err-clause-told g c = λ old stands.
    let so = c.loop-command.invariant.told old stands in
    let one = c.answer-told.ensures.told so.1 so.2.0 in
    let failed : is_err c.put.result ≡ true = sym c.is_err.ensures.value ∙ c.if-is_err.true in
    let taken = rw c.bytes.ensures at c.put.ensures.taken in
    let took = took_front (g.K.Sink.taken c.args.sink.now) (g.K.Sink.taken c.loop-command.sink) (g.K.Sink.taken c.put.new.self) so.0 c.answer-told.new.out c.put.result failed so.2.1.0 taken in (
      so.0 ++ take took.0 c.answer-told.new.out,
      one.0,
      (
        one.1.0,
        (
          took.1,
          stops (g.S.Store.session c.args.store.now) (g.S.Store.session c.loop-command.store) old so.1 one.0 c.args.commands.items (into_iter_items c.loop-command.command-iterator) (into_iter_items c.next.new.self)
              c.in-Some.command so.0 c.answer-told.new.out c.loop-command.fault c.answer-told.result c.or-fault.result took.0 c.loop-command.invariant.session c.in-Some.ensures.steps.0 c.or-fault.ensures so.2.1.1 one.1.1,
        ),
      ),
    )

pub loop-command-preserved : goal.loop-command-preserved
loop-command-preserved g c = record {
  told = λ old stands.
      let so = c.loop-command.invariant.told old stands in
      let one = c.answer-told.ensures.told so.1 so.2.0 in
      let fine : is_err c.put.result ≡ false = sym c.is_err.ensures.value ∙ c.if-is_err.false in
      let taken = rw c.bytes.ensures at c.put.ensures.taken in (
        so.0 ++ c.answer-told.new.out,
        one.0,
        (
          one.1.0,
          (
            took_more (g.K.Sink.taken c.args.sink.now) (g.K.Sink.taken c.loop-command.sink) (g.K.Sink.taken c.put.new.self) so.0 c.answer-told.new.out c.put.result fine so.2.1.0 taken,
            goes_on (g.S.Store.session c.args.store.now) (g.S.Store.session c.loop-command.store) old so.1 one.0 c.args.commands.items (into_iter_items c.loop-command.command-iterator) (into_iter_items c.next.new.self)
                c.in-Some.command so.0 c.answer-told.new.out c.loop-command.fault c.answer-told.result c.or-fault.result c.loop-command.invariant.session c.in-Some.ensures.steps.0 c.or-fault.ensures so.2.1.1 one.1.1,
          ),
        ),
      );
  count =
      let items : into_iter_items c.loop-command.command-iterator ≡ c.in-Some.command ∷ into_iter_items c.next.new.self = c.in-Some.ensures.steps.0 in
      let fewer : into_iter_len c.next.new.self + 1 ≡ into_iter_len c.loop-command.command-iterator = c.in-Some.ensures.steps.1 in
      let lengths : length (into_iter_items c.loop-command.command-iterator) ≡ length (into_iter_items c.next.new.self) + 1 = ap length items ∙ omega arith in
      omega (arith, fewer, lengths, c.loop-command.invariant.count);
  some = let one = c.answer-told.ensures.told c.loop-command.invariant.some.0 c.loop-command.invariant.some.1 in (one.0, one.1.0);
  session = c.answer-told.ensures.session ∙ c.loop-command.invariant.session;
  touched = g.met.S.Store.touched_on c.args.store.now c.loop-command.store c.answer-told.new.store c.loop-command.invariant.touched c.answer-told.ensures.touched;
  label = c.put.ensures.label ∙ c.loop-command.invariant.label;
  sink_later = omega (arith, c.put.ensures.cause.later, c.loop-command.invariant.sink_later);
}

pub returns-clause-told : goal.returns-clause-told
returns-clause-told g c = λ old stands.
    let so = c.loop-command.invariant.told old stands in
    let none : length (into_iter_items c.loop-command.command-iterator) ≡ 0 = sym c.loop-command.invariant.count ∙ c.in-None.ensures.steps.0 in
    (so.0, so.1, (so.2.0, (so.2.1.0, ends (g.S.Store.session c.args.store.now) old so.1 c.args.commands.items (into_iter_items c.loop-command.command-iterator) so.0 c.loop-command.fault none so.2.1.1)))

pub returns-then-is_err-clause-touched : goal.returns-then-is_err-clause-touched
returns-then-is_err-clause-touched g c = g.met.S.Store.touched_on c.args.store.now c.loop-command.store c.answer-told.new.store c.loop-command.invariant.touched c.answer-told.ensures.touched
