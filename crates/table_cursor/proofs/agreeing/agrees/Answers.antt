use Rattle.std.proofs.Common.{◌≡◌, ◌≤◌, ◌∙◌, Some, sym, ap, subst}
use Rattle.std.specs.Prelude.{IsTrue}
use Rattle.peb_base.specs.Tables.{least_number, greatest_number}
use Rattle.peb_base.specs.declared.table_row.TableRow.{TableRow}
use Rattle.block_form.specs.Ends.{TellsEnds}
use Rattle.table_file.specs.Form.{item_of}
use Rattle.table_cursor.specs.IndexLaws.{item_is}
use Rattle.table_cursor.proofs.agreeing.agrees.Goals as goal

pub returns-then-not-numbers_fit-clause-no : goal.returns-then-not-numbers_fit-clause-no
returns-then-not-numbers_fit-clause-no g c = λ at a.
    let es = c.args.block.now in
    let within : (c.row.result.now.first ≤ least_number es) × (greatest_number es ≤ c.row.result.now.last) =
    subst (λ (row : TableRow). (row.first ≤ least_number es) × (greatest_number es ≤ row.last)) (sym c.row.ensures) (a.least, a.greatest) in
    let fits : IsTrue c.numbers_fit.result = (c.numbers_fit.ensures es c.args.room.now c.requires.ends c.requires.some).1 within in
    sym c.if-not-numbers_fit.true ∙ fits

pub returns-clause-yes : goal.returns-clause-yes
returns-clause-yes g c = λ well item there.
    let es = c.args.block.now in
    let row = c.args.table.now.row in
    let told : IsTrue c.ends_with.result = c.if-not-ends_with.false in
    let last = (c.ends_with.ensures es (subst (λ k. TellsEnds es k c.args.ends.now) (sym c.bytes.ensures.value) c.requires.ends) c.requires.some).0 told in
    let within : (row.first ≤ least_number es) × (greatest_number es ≤ row.last) =
    subst (λ (row : TableRow). (row.first ≤ least_number es) × (greatest_number es ≤ row.last)) c.row.ensures ((c.numbers_fit.ensures es c.args.room.now c.requires.ends c.requires.some).0 c.if-not-numbers_fit.false) in
    let begins = c.begins_well.ensures.0 well in
    let same : item ≡ record { place = c.item-number.result.0; len = c.item-number.result.1; key = c.item-number.result.2.now; number = c.item-number.result.3 } = item_is item _ (sym there ∙ c.item-number.ensures.item) in
    let is : item ≡ item_of item.place es = λ i. record {
      place = item.place;
      len = c.requires.long item there i;
      key = ((λ j. (same j).key) ∙ sym last.0) i;
      number = ((λ j. (same j).number) ∙ sym last.1) i;
    } in
    record {
      indexed = there ∙ ap Some is;
      after = begins.0;
      smallest = begins.1;
      largest = λ end. last.0 ∙ c.closes_table.ensures.0 c.if-not-closes_table.false end;
      least = within.0;
      greatest = within.1;
    }
