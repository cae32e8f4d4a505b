use Rattle.std.proofs.Common.{◌≡◌, ◌+◌, ◌-◌, ◌++◌, ◌∙◌, ℕ, length, ap, sym, subst, refl, arith, rules, IsTrue}
use Rattle.std.proofs.lemmas.List.{length-map}
use Rattle.peb_base.specs.Choice.{mixed}
use Rattle.peb_base.specs.Tables.{filter_length}
use Rattle.peb_base.specs.declared.entry.Entry.{Entry}
use Rattle.bloom.specs.Filter.{filter_of}
use Rattle.table_file.specs.Form.{body_bytes, index_bytes, items_from, key_filter, footer_bytes, blocks_table}
use Rattle.table_file.specs.declared.footer.Footer.{Footer}
use Rattle.disk_model.specs.Tables.{capped}
use Rattle.table_file.specs.Taking.{TakesAtMost}
use Rattle.table_file.specs.TakingLaws.{takes_none, takes_failed}
use Rattle.table_file.proofs.Spelled.{table_spelled, length-table, same_number}
use Rattle.table_file.proofs.table_writer.seal_table.Goals as goal

pub overflow_cast-footer-2 : goal.overflow_cast-footer-2
overflow_cast-footer-2 g c =
    let gathers = c.requires.entries.2 in
    let long : length c.in_ok-filter.filter ≡ filter_length (length c.args.hashes.now) = search rules in
    omega (arith, ap length c.bytes.ensures.value, long, ap length gathers.hashes_are, length-map c.requires.entries.0 (λ (e : Entry). mixed e.key), gathers.few)

pub returns-clause-table : goal.returns-clause-table
returns-clause-table g c = λ es blocks gathers wrote.
    let text : c.in_ok-text.text.items ≡ index_bytes (items_from 0 blocks) = c.in_ok-text.ensures ∙ ap index_bytes (c.items.ensures.items ∙ gathers.index_is.items) in
    let counted : length c.args.hashes.now ≡ length es = ap length gathers.hashes_are ∙ length-map es (λ (e : Entry). mixed e.key) in
    let filled : c.in_ok-filter.filter ≡ filter_of (length c.args.hashes.now) c.args.hashes.now = search rules in
    let filter : c.in_ok-filter.filter ≡ key_filter es = filled ∙ (λ i. filter_of (counted i) (gathers.hashes_are i)) in
    let end : c.end-end.result ≡ length (body_bytes blocks) = c.end-end.ensures.end ∙ gathers.index_is.end in
    let footer : Footer = record {
      number = c.args.number;
      index = c.end-end.result;
      index_len = c.len.result;
      filter = c.end-end.result + c.len-2.result;
      filter_len = length c.bytes.result.now;
      entries = length c.args.hashes.now;
    } in
    let text_items : c.len.result ≡ length c.in_ok-text.text.items = omega (arith, c.len.ensures, c.deref.ensures.len, ap length c.deref.ensures.value) in
    let lens : c.len-2.result ≡ c.len.result = c.len-2.ensures ∙ sym c.len.ensures in
    let filter_len : length c.bytes.result.now ≡ length c.in_ok-filter.filter = ap length c.bytes.ensures.value in
    let filter_len2 : length c.bytes-2.result.now ≡ length c.in_ok-filter.filter = ap length c.bytes-2.ensures.value in
    let filter_len3 : length c.in_ok-filter.filter ≡ length (key_filter es) = ap length filter in
    let text_len : length c.in_ok-text.text.items ≡ length (index_bytes (items_from 0 blocks)) = ap length text in
    let whole : c.end-end.result + c.len-2.result + length c.bytes-2.result.now + 48 ≡ length (blocks_table c.args.number blocks es) =
    omega (arith, end, lens, text_items, text_len, filter_len2, filter_len3, length-table c.args.number blocks es) in
    let spelled : IsTrue g.M.File.TableHandle.tells → g.M.File.TableHandle.bytes c.in_ok-file.file ≡ g.M.Maker.written c.args.maker.now ++ (c.in_ok-text.text.items ++ (c.in_ok-filter.filter ++ footer_bytes footer)) =
    λ told. c.in_ok-file.ensures.bytes told ∙ (λ i. g.M.Maker.written c.args.maker.now ++ (c.deref.ensures.value i ++ (c.bytes-3.ensures.value i ++ footer_bytes footer))) in
    record {
      sorted = gathers.sorted;
      row_is = c.in_ok-row.ensures.row es gathers.sums gathers.sorted gathers.some;
      row_bytes = c.in_ok-row.ensures.bytes ∙ whole ∙ ap (λ n. length (blocks_table n blocks es)) (sym c.in_ok-row.ensures.number);
      file_number = same_number (g.M.Maker.begun c.args.maker.now) _ _ c.in_ok-file.ensures.number c.requires.begun ∙ sym c.in_ok-row.ensures.number;
      file_bytes = λ told. (table_spelled c.args.number footer (g.M.Maker.written c.args.maker.now) c.in_ok-text.text.items c.in_ok-filter.filter (g.M.File.TableHandle.bytes c.in_ok-file.file) blocks es
          (spelled told) (wrote told) text filter refl end text_items (ap (λ n. c.end-end.result + n) lens) filter_len counted) ∙ ap (λ n. blocks_table n blocks es) (sym c.in_ok-row.ensures.number);
      items_are = c.take-items.ensures.items ∙ gathers.index_is.items;
      filter_is = filter;
    }

pub returns-clause-row : goal.returns-clause-row
returns-clause-row g c = record { number_is = c.in_ok-row.ensures.number; level_is = c.in_ok-row.ensures.level; tier_is = c.in_ok-row.ensures.tier }

pub returns-in_err-row-clause-taken : goal.returns-in_err-row-clause-taken
returns-in_err-row-clause-taken g c = λ es blocks gathers.
    takes_failed c.from_residual-in_err-row.result _ c.from_residual-in_err-row.ensures.1 _ _ _
    (takes_none _ _ (g.met.M.Maker.taken_fits c.args.maker.now))

pub returns-in_err-file-clause-taken : goal.returns-in_err-file-clause-taken
returns-in_err-file-clause-taken g c = λ es blocks gathers.
    let text : c.in_ok-text.text.items ≡ index_bytes (items_from 0 blocks) = c.in_ok-text.ensures ∙ ap index_bytes (c.items.ensures.items ∙ gathers.index_is.items) in
    let counted : length c.args.hashes.now ≡ length es = ap length gathers.hashes_are ∙ length-map es (λ (e : Entry). mixed e.key) in
    let filled : c.in_ok-filter.filter ≡ filter_of (length c.args.hashes.now) c.args.hashes.now = search rules in
    let filter : c.in_ok-filter.filter ≡ key_filter es = filled ∙ (λ i. filter_of (counted i) (gathers.hashes_are i)) in
    let rest : length c.deref.result.now + (length c.bytes-3.result.now + 48) ≡ length (blocks_table c.args.number blocks es) - length (body_bytes blocks) =
    omega (arith, ap length c.deref.ensures.value, ap length c.bytes-3.ensures.value, ap length text, ap length filter, length-table c.args.number blocks es) in
    takes_failed c.from_residual-in_err-file.result _ c.from_residual-in_err-file.ensures.1 _ _ _
    (subst (λ (n : ℕ). TakesAtMost n (g.M.Maker.taken c.args.maker.now) (g.M.Maker.taken c.write_tail.new.maker)) rest c.in_err-file.ensures.taken)

pub returns-clause-taken : goal.returns-clause-taken
returns-clause-taken g c = λ es blocks gathers.
    let text : c.in_ok-text.text.items ≡ index_bytes (items_from 0 blocks) = c.in_ok-text.ensures ∙ ap index_bytes (c.items.ensures.items ∙ gathers.index_is.items) in
    let counted : length c.args.hashes.now ≡ length es = ap length gathers.hashes_are ∙ length-map es (λ (e : Entry). mixed e.key) in
    let filled : c.in_ok-filter.filter ≡ filter_of (length c.args.hashes.now) c.args.hashes.now = search rules in
    let filter : c.in_ok-filter.filter ≡ key_filter es = filled ∙ (λ i. filter_of (counted i) (gathers.hashes_are i)) in
    let rest : length c.deref.result.now + (length c.bytes-3.result.now + 48) ≡ length (blocks_table c.args.number blocks es) - length (body_bytes blocks) =
    omega (arith, ap length c.deref.ensures.value, ap length c.bytes-3.ensures.value, ap length text, ap length filter, length-table c.args.number blocks es) in
    c.in_ok-file.ensures.taken ∙ ap (λ (n : ℕ). capped (g.M.Maker.taken c.args.maker.now + n)) rest
