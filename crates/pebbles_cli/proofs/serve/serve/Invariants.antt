use Rattle.std.proofs.Common.{◌≡◌, ℕ, ◌≤◌, List, length}
use Rattle.flsm_core.specs.Place.{Place}
use Rattle.pebbles_cli.specs.Tells.{Since, TellsOne, TookMore}
use Rattle.std.specs.Vec.Iter.{into_iter_items, into_iter_len}
use Rattle.pebbles_cli.proofs.serve.serve.Given as goal

abbrev pub invariant-loop-command : goal.invariant-loop-command
invariant-loop-command g l = record {
  told : (old : Place) → g.S.Store.stands l.fn.store old → (sofar : List ℕ) × (now : Place) × (g.S.Store.stands l.store now
      × ((TookMore (g.K.Sink.taken l.fn.sink) sofar (g.K.Sink.taken l.sink)) × Since (TellsOne (g.S.Store.session l.fn.store)) old l.fn.commands.items sofar l.fault now (into_iter_items l.command-iterator)));
  count : into_iter_len l.command-iterator ≡ length (into_iter_items l.command-iterator);
  some : (p : Place) × g.S.Store.stands l.store p;
  session : g.S.Store.session l.store ≡ g.S.Store.session l.fn.store;
  touched : g.S.Store.touched l.fn.store l.store;
  label : g.K.Sink.label l.sink ≡ g.K.Sink.label l.fn.sink;
  sink_later : g.K.Sink.faults l.fn.sink ≤ g.K.Sink.faults l.sink;
}
