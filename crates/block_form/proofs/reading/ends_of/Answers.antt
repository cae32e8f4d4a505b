use Rattle.std.proofs.Common.{◌≡◌, ◌<◌, ◌^◌, ◌++◌, ◌∷◌, [], List, ℕ, length, arith, rules, refl, ap, sym, subst, length-append}
use Rattle.block_form.specs.Parts.{parts_of}
use Rattle.block_form.specs.Form.{entry_bytes}
use Rattle.block_form.specs.Walks.{IsNext, Spells, entry_from}
use Rattle.block_form.proofs.Walks.{Walk, walk_start, walk_on, walk_end, walk_stuck, step_none, place_none, length-entry}
use Rattle.block_form.proofs.Ending.{none_gone, one_gone, all_gone}
use Rattle.block_form.proofs.reading.ends_of.Goals as goal

pub walk-init : goal.walk-init
walk-init c = record {
  front = [];
  walk = subst (λ k. Walk [] 0 1 k 0 c.args.entries.now c.args.places.now c.args.entries.now c.args.places.now) (sym c.put.ensures) (walk_start c.args.entries.now c.args.places.now);
  gone = none_gone c.put.new.self _ refl refl;
  small = c.requires;
}

pub walk-preserved : goal.walk-preserved
walk-preserved c =
    let p = parts_of c.in-Some.found.0 in
    let behind = c.in-Some.found.1.now in
    let rest = c.walk.rest.now in
    let some : 0 < length rest = search rules in
    let next : IsNext c.walk.ends.count c.walk.key c.walk.ends.last rest p behind =
    subst (λ (k : List ℕ). IsNext c.walk.ends.count k c.walk.ends.last rest p behind) c.bytes.ensures.value c.in-Some.ensures.found in
    let fits : p.number < 2 ^ 64 = omega (arith, next.meets.entry.number) in
    record {
      front = c.walk.invariant.front ++ entry_from c.walk.key p ∷ [];
      walk = walk_on c.walk.invariant.front c.walk.ends.count c.walk.at _ c.walk.key c.put-in-walk.new.self c.walk.ends.last rest c.walk.left.now c.args.entries.now c.args.places.now p behind c.in-Some-places_behind.later.now
          c.walk.invariant.walk some next c.in-Some-places_behind.ensures.found refl c.put-in-walk.ensures;
      gone = one_gone c.walk.invariant.front c.walk.key c.put-in-walk.new.self c.walk.ends _ (entry_from c.walk.key p) c.walk.invariant.gone fits c.min.ensures c.max.ensures refl c.put-in-walk.ensures;
      small = c.walk.invariant.small;
    }

pub walk-smaller : goal.walk-smaller
walk-smaller c =
    let e = entry_from c.bytes.result.now (parts_of c.in-Some.found.0) in
    let next = c.in-Some.ensures.found in
    omega (arith, ap length next.spelled, length-append (entry_bytes c.walk.ends.count c.bytes.result.now e) c.in-Some.found.1.now, length-entry c.walk.ends.count c.bytes.result.now e)

pub returns-in_default-clause-none : goal.returns-in_default-clause-none
returns-in_default-clause-none c = λ all spells.
    let rest = c.walk.rest.now in
    let some : 0 < length rest = search rules in
    let es = c.walk.invariant.walk.down all spells in
    step_none c.walk.ends.count c.walk.at c.bytes.result.now c.walk.ends.last rest c.walk.left.now es.0 some c.in_default.ensures.none (subst (λ (k : List ℕ). Spells c.walk.ends.count c.walk.at k c.walk.ends.last es.0 rest c.walk.left.now) (sym c.bytes.ensures.value) es.1)

pub returns-in_default-places_behind-clause-none : goal.returns-in_default-places_behind-clause-none
returns-in_default-places_behind-clause-none c = λ all spells.
    let rest = c.walk.rest.now in
    let some : 0 < length rest = search rules in
    let es = c.walk.invariant.walk.down all spells in
    place_none c.walk.ends.count c.walk.at c.walk.key c.walk.ends.last rest c.walk.left.now es.0 some c.in_default-places_behind.ensures.none es.1

pub returns-then-not-is_empty-clause-none : goal.returns-then-not-is_empty-clause-none
returns-then-not-is_empty-clause-none c = λ all spells.
    let empty : length c.walk.rest.now ≡ 0 = search rules in
    let some : 0 < length c.walk.left.now = search rules in
    walk_stuck c.walk.invariant.front c.walk.ends.count c.walk.at c.walk.key c.walk.ends.last c.walk.rest.now c.walk.left.now c.args.entries.now c.args.places.now c.walk.invariant.walk empty some all spells

pub returns-clause-found : goal.returns-clause-found
returns-clause-found c =
    let empty : length c.walk.rest.now ≡ 0 = search rules in
    let none_left : length c.walk.left.now ≡ 0 = search rules in
    let walk = c.walk.invariant.walk in
    let spells = walk_end c.walk.invariant.front c.walk.ends.count c.walk.at c.walk.key c.walk.ends.last c.walk.rest.now c.walk.left.now c.args.entries.now c.args.places.now walk empty none_left in
    (c.walk.invariant.front, spells, all_gone c.walk.invariant.front c.walk.key c.walk.ends spells.each (sym walk.long) c.walk.invariant.gone)
