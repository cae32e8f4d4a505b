use Rattle.std.proofs.Common.{◌++◌, ◌∷◌, [], inl, inr}
use Rattle.table_file.specs.Form.{item_of}
use Rattle.table_cursor.specs.Views.{table_of, page_of, index_of}
use Rattle.guard_commit.proofs.Readings.{reaches}
use Rattle.guard_commit.proofs.passing.passed_at.Goals as goal

pub returns-clause-damage : goal.returns-clause-damage
returns-clause-damage g c = λ full keys es e walks there passed.
    let cursor = c.args.cursor.now in
    let page = page_of cursor in
    let block = c.in-Some.ensures.block in
    inr (record {
      index = index_of cursor;
      item = item_of page.at page.entries;
      read = es ++ e ∷ [];
      number_is = c.requires.number;
      indexed = block.1.agrees.indexed;
      place = block.0;
      is_false = inl (
        reaches g.P.File.TableHandle (table_of cursor) (index_of cursor) page es e cursor.shown cursor.sorted walks there,
        passed,
      );
    })
