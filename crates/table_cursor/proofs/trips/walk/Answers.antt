use Rattle.std.proofs.Common.{◌≡◌, ◌∙◌, Some, arith, sym, ap, subst}
use Rattle.std.specs.Prelude.{option_map}
use Rattle.peb_base.specs.Cursors.{first_place, next_place}
use Rattle.peb_base.specs.EntryRefs.{entry_of}
use Rattle.std.specs.Arc.{arc_value}
use Rattle.table_cursor.specs.Agreeing.{IsDamageOf}
use Rattle.table_cursor.specs.Trips.{TellsDamage, TellsOf, LimitsTrip}
use Rattle.table_cursor.specs.Views.{table_of, page_of, index_of, shown_by, StandsIn, WalksIn, keeps_on}
use Rattle.table_cursor.specs.Walking.{in_front}
use Rattle.table_cursor.specs.StandingLaws.{stands_among}
use Rattle.table_cursor.proofs.Tripping.{undamaged, nowhere, read_unlimited, damage_told}
use Rattle.table_cursor.proofs.trips.walk.Goals as goal

pub returns-in-Err-clause-undamaged : goal.returns-in-Err-clause-undamaged
returns-in-Err-clause-undamaged g c = λ es place stands.
    subst (λ trip. TellsDamage trip → ⊥) (sym c.from.ensures)
    (undamaged (StandsIn c.first.new.self es) (first_place es) c.in-Err.why (c.in-Err.ensures.goes es place stands))

pub walk-init : goal.walk-init
walk-init g c = record {
  over = subst (WalksIn c.first.new.self) (sym c.new-seen.ensures.items) c.in-Ok.ensures.walks;
  told = λ es place stands. (first_place es, c.in-Ok.ensures.goes es place stands);
  later = c.first.ensures.moves.counts.never_falls;
  keeps = c.first.ensures.moves.keeps;
}

pub walk-preserved : goal.walk-preserved
walk-preserved g c =
    let so_far = c.walk.invariant in
    let e = entry_of c.in-Some.entry in
    let shows : shown_by c.walk.cursor ≡ Some e = sym c.in-Some.ensures.lent in
    record {
      over = subst (WalksIn c.next.new.self) (sym c.in_ok-keep.ensures) (c.in-Ok-next.ensures.walks c.walk.seen.items e shows so_far.over);
      told = λ es place stands.
          let now = so_far.told es place stands in (next_place es now.0, c.in-Ok-next.ensures.goes es now.0 now.1);
      later = omega (arith, so_far.later, c.next.ensures.moves.counts.never_falls);
      keeps = keeps_on c.args.cursor.now c.walk.cursor c.next.new.self so_far.keeps c.next.ensures.moves.keeps;
    }

pub returns-in-Err-next-clause-undamaged : goal.returns-in-Err-next-clause-undamaged
returns-in-Err-next-clause-undamaged g c = λ es place stands.
    let now = c.walk.invariant.told es place stands in
    subst (λ trip. TellsDamage trip → ⊥) (sym c.from-in-Err-next.ensures)
    (undamaged (StandsIn c.next.new.self es) (next_place es now.0) c.in-Err-next.why (c.in-Err-next.ensures.goes es now.0 now.1))

pub returns-clause-told : goal.returns-clause-told
returns-clause-told g c = λ es place stands.
    let cursor = c.walk.cursor in
    let now = c.walk.invariant.told es place stands in
    let among = stands_among g.P.File.TableHandle (table_of cursor) (page_of cursor) (index_of cursor) es now.0 now.1 (λ some. (cursor.shown some).inside) in
    let none = nowhere es now.0 (shown_by cursor) among (sym c.at.ensures.lent ∙ ap (option_map entry_of) c.in_default.is) in
    c.of.ensures ∙ c.law_walk_told.ensures es c.walk.seen.items now.0 now.1 c.walk.invariant.over ∙ ap (λ p. in_front p es) none

pub returns-in-Err-clause-unlimited : goal.returns-in-Err-clause-unlimited
returns-in-Err-clause-unlimited g c = λ full es. subst (LimitsTrip full es) (sym c.from.ensures) (read_unlimited full es c.in-Err.why)

pub returns-in-Err-next-clause-unlimited : goal.returns-in-Err-next-clause-unlimited
returns-in-Err-next-clause-unlimited g c = λ full es.
    subst (LimitsTrip full es) (sym c.from-in-Err-next.ensures) (read_unlimited full es c.in-Err-next.why)

pub returns-in-Err-clause-damage : goal.returns-in-Err-clause-damage
returns-in-Err-clause-damage g c =
    let was = table_of c.args.cursor.now in
    subst (TellsOf (IsDamageOf g.P.File.TableHandle was)) (sym c.from.ensures)
    (damage_told g.P.File.TableHandle (table_of c.first.new.self) was _ c.in-Err.why
    (ap arc_value c.first.ensures.moves.keeps.table) c.in-Err.ensures.moves.damage)

pub returns-in-Err-next-clause-damage : goal.returns-in-Err-next-clause-damage
returns-in-Err-next-clause-damage g c =
    let was = table_of c.args.cursor.now in
    let since = c.next.ensures.moves.keeps.table ∙ c.walk.invariant.keeps.table in
    subst (TellsOf (IsDamageOf g.P.File.TableHandle was)) (sym c.from-in-Err-next.ensures)
    (damage_told g.P.File.TableHandle (table_of c.next.new.self) was _ c.in-Err-next.why
    (ap arc_value since) c.in-Err-next.ensures.moves.damage)
