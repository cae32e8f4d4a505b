use Rattle.std.proofs.Common.{◌≡◌, ◌<◌, true, false, sym, ap, ◌∙◌, ◌++◌, ◌∷◌, [], ◌+◌, take, drop, length, rules, arith, append_assoc}
use Rattle.std.specs.Prelude.{slice_index_or}
use Rattle.peb_base.specs.Keys.{key_lt}
use Rattle.guard_level.proofs.TableLemmas.{below_on, above_on, below_off, above_off, take_left, drop_left, same_at}
use Rattle.guard_level.proofs.tables.move_above.Goals as goal

pub loop-at-preserved-then-is_below : goal.loop-at-preserved-then-is_below
loop-at-preserved-then-is_below g c =
    let row = g.T.HasRow.the_row in
    let key = c.args.key.now in
    let tables = c.loop-at.tables.items in
    let at = c.loop-at.at in
    let x = c.index.result.now in
    let low : key_lt (row x).smallest key ≡ true = search rules in
    let within : at < length tables = search rules in
    let is : x ≡ slice_index_or tables at x = c.index.ensures in
    record {
      within = omega (arith, c.loop-at-test.true);
      kept = below_on row key tables _ at x within is low c.loop-at.invariant.kept;
      given = ap (λ ys. c.loop-at.given.items ++ ys) (sym (above_on row key tables at x within is low)) ∙ c.loop-at.invariant.given;
      room = omega (arith, c.loop-at.invariant.room);
    }

pub loop-at-preserved : goal.loop-at-preserved
loop-at-preserved g c =
    let row = g.T.HasRow.the_row in
    let key = c.args.key.now in
    let tables = c.loop-at.tables.items in
    let left = c.remove.new.self.items in
    let at = c.loop-at.at in
    let x = c.index.result.now in
    let high : key_lt (row x).smallest key ≡ false = search rules in
    let within : at < length tables = search rules in
    let is : x ≡ slice_index_or tables at x = c.index.ensures in
    let removed : left ≡ take at tables ++ drop (at + 1) tables = c.remove.ensures.by_index.2 in
    let same : c.remove.result ≡ x = same_at tables at c.remove.result x within c.remove.ensures.value is in
    let given : c.push.new.self.items ≡ c.loop-at.given.items ++ x ∷ [] = c.in-Ok.ensures.items ∙ ap (λ y. c.loop-at.given.items ++ y ∷ []) same in
    let behind : drop at left ≡ drop (at + 1) tables = drop_left tables left at within removed in
    record {
      within = search rules;
      kept = rw (take_left tables left at within removed, behind, ← below_off row key tables at x within is high) c.loop-at.invariant.kept;
      given = rw (given, behind, append_assoc, ← above_off row key tables at x within is high) c.loop-at.invariant.given;
      room = search rules;
    }
