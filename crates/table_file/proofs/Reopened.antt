-- The bytes of a table that was written open as that table alone.
use Rattle.std.proofs.Common.{◌≡◌, ℕ, ◌+◌, ◌-◌, ◌<◌, ◌≤◌, ◌^◌, List, ◌++◌, length, drop, refl, sym, ap, ◌∙◌, arith, append_assoc, length-append}
use Rattle.std.proofs.lemmas.List.{drop_at}
use Rattle.byteorder.specs.Endian.{big_number}
use Rattle.bloom.specs.Laws.{FilterIsLong}
use Rattle.peb_base.specs.Entries.{AreSorted}
use Rattle.peb_base.specs.Tables.{filter_length}
use Rattle.peb_base.specs.declared.entry.Entry.{Entry}
use Rattle.peb_base.specs.declared.table_row.TableRow.{TableRow}
use Rattle.table_file.specs.Form.{blocks_of, body_bytes, items_from, index_bytes, key_filter, footer_bytes, blocks_table, table_bytes}
use Rattle.table_file.specs.Opening.{OpensAs}
use Rattle.table_file.specs.declared.footer.Footer.{Footer}
use Rattle.table_file.specs.declared.index_item.IndexItem.{IndexItem}
use Rattle.table_file.proofs.Footers.{index_at, index_read}
use Rattle.table_file.proofs.Openings.{parts_of, one_opening}
use Rattle.table_file.proofs.Spelled.{length-table}
use Rattle.table_file.proofs.Written.{Grows, written_opens}

-- the footer of a table that is written
abbrev footer_with : ℕ → List (List Entry) → List Entry → Footer
footer_with number blocks es =
    let body = body_bytes blocks in
    let index = index_bytes (items_from 0 blocks) in
    record {
      number = number;
      index = length body;
      index_len = length index;
      filter = length body + length index;
      filter_len = length (key_filter es);
      entries = length es;
    }

-- it stands in the last 48 bytes
footer_behind : (number size : ℕ) (blocks : List (List Entry)) (es : List Entry) → size ≡ length (blocks_table number blocks es) → drop (size - 48) (blocks_table number blocks es) ≡ footer_bytes (footer_with number blocks es)
unfolding blocks_table
footer_behind number size blocks es is =
    let body = body_bytes blocks in
    let index = index_bytes (items_from 0 blocks) in
    let filter = key_filter es in
    let foot = footer_bytes (footer_with number blocks es) in
    let apart : body ++ (index ++ (filter ++ foot)) ≡ ((body ++ index) ++ filter) ++ foot = sym (append_assoc body index (filter ++ foot)) ∙ sym (append_assoc (body ++ index) filter foot) in
    let front : length ((body ++ index) ++ filter) ≡ size - 48 = omega (arith, is, length-table number blocks es, length-append (body ++ index) filter, length-append body index) in
    ap (drop (size - 48)) apart ∙ drop_at ((body ++ index) ++ filter) foot (size - 48) front

-- a table that opens has a short index
short_index : FilterIsLong → (row : TableRow) (blocks : List (List Entry)) (es : List Entry) (items : List IndexItem) (filter : List ℕ) → row.entries ≡ length es → row.bytes < 2 ^ 64 → row.bytes ≡ length (blocks_table row.number blocks es)
    → OpensAs row items filter (blocks_table row.number blocks es) → length (index_bytes (items_from 0 blocks)) ≤ 2147483648
short_index long row blocks es items filter is_entries small is_bytes o =
    let f = o.footer in
    let w = footer_with row.number blocks es in
    let same : footer_bytes w ≡ footer_bytes f = sym (footer_behind row.number row.bytes blocks es is_bytes) ∙ (parts_of row items filter (blocks_table row.number blocks es) o).footer in
    let whole = length-table row.number blocks es in
    let place : w.index ≡ f.index = sym (index_at w (omega (arith, whole, is_bytes, small))) ∙ index_read row (footer_bytes w) f (big_number 8 (drop 8 (footer_bytes w))) o.agrees small same refl in
    let filters : length (key_filter es) ≡ f.filter_len = long (length es) _ ∙ ap filter_length (sym is_entries) ∙ sym o.agrees.filter_len in
    omega (arith, whole, is_bytes, place, filters, o.agrees.adjoin, o.agrees.end, o.agrees.index_len)

-- it opens with no other index and no other filter
pub opens_as_written : Grows → FilterIsLong → (row : TableRow) (full : ℕ) (es : List Entry) (items : List IndexItem) (filter : List ℕ) → 5 < full → full ≤ 4096 → AreSorted es → 0 < length es → row.entries ≡ length es → row.bytes < 2 ^ 64
    → row.bytes ≡ length (table_bytes full row.number es) → OpensAs row items filter (table_bytes full row.number es) → (items ≡ items_from 0 (blocks_of full es)) × (filter ≡ key_filter es)
opens_as_written grows long row full es items filter some_bytes most sorted some is_entries small is_bytes o =
    let short = short_index long row (blocks_of full es) es items filter is_entries small is_bytes o in
    let few : length es ≤ 1717986918 = omega (arith, is_entries, o.agrees.few) in
    one_opening row items (items_from 0 (blocks_of full es)) filter (key_filter es) (table_bytes full row.number es) small o
    (written_opens grows long row full row.number es some_bytes most sorted some few short refl is_entries is_bytes)
