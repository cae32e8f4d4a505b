use Rattle.std.proofs.Common.{◌≡◌, ◌<◌, ◌≤◌, sym, ap, ◌∙◌, take, drop, length, ◌+◌, rules, subst}
use Rattle.std.proofs.lemmas.List.{drop_all}
use Rattle.guard_level.specs.TableLists.{IsAbsent}
use Rattle.guard_level.proofs.TableLemmas.{parted, same_at}
use Rattle.guard_level.proofs.tables.Tables.take.Goals as goal

pub returns-then-row-number-clause-taken : goal.returns-then-row-number-clause-taken
returns-then-row-number-clause-taken g c =
    let row = g.T.HasRow.the_row in
    let tables = c.loop-at.self-inside.items.items in
    let at = c.loop-at.at in
    let within : at < length tables = search rules in
    let same : c.remove.result ≡ c.index.result.now = same_at tables at c.remove.result c.index.result.now within c.remove.ensures.value c.index.ensures in
    let found : (row c.index.result.now).number ≡ c.args.number = search rules in
    record {
      before = take at tables;
      behind = drop (at + 1) tables;
      named = ap (λ t. (row t).number) same ∙ found;
      was = sym c.self.view_is ∙ sym (λ i. (c.loop-at.invariant.same i).items) ∙ parted tables at c.remove.result within c.remove.ensures.value;
      now = c.remove.ensures.by_index.2;
    }

pub returns-clause-none : goal.returns-clause-none
returns-clause-none g c =
    let Absent = IsAbsent g.T.HasRow.the_row c.args.number in
    let tables = c.loop-at.self-inside.items.items in
    let unchanged : tables ≡ c.args.self.now = (λ i. (c.loop-at.invariant.same i).items) ∙ c.self.view_is in
    let past : length tables ≤ c.loop-at.at = search rules in
    let at_end : Absent (drop c.loop-at.at tables) = rw (drop_all c.loop-at.at tables past) tt in
    (subst Absent unchanged (c.loop-at.invariant.absent at_end), unchanged)
