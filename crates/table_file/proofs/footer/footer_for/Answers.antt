use Rattle.std.proofs.Common.{◌≡◌, ◌+◌, ◌-◌, ◌/◌, ◌∙◌, not, sym, ap, arith}
use Rattle.std.specs.Cmp.Lexicographic.{bytes_decides}
use Rattle.std.proofs.lemmas.Bool.{true≢false}
use Rattle.std.proofs.lemmas.List.{take_rest}
use Rattle.byteorder.specs.Endian.{big_number}
use Rattle.table_file.specs.Form.{footer_bytes}
use Rattle.table_file.specs.declared.footer.Footer.{Footer}
use Rattle.table_file.proofs.Footers.{index_read}
use Rattle.table_file.proofs.footer.footer_for.Goals as goal
use Rattle.table_file.proofs.footer.footer_for.Goals.{then-index-filter-via-then-index-filter, then-index-filter-via-else-index-filter+then-filter-index-gt2147483648}

pub returns-then-index-filter-clause-none : goal.returns-then-index-filter-clause-none
returns-then-index-filter-clause-none c = λ f is spelled.
    let index = index_read c.args.row.now c.args.bytes.now f c.read_u64-index.result is (omega arith) spelled (c.read_u64-index.ensures ∙ ap (big_number 8) (take_rest c.args.bytes.now 8)) in
    elim c.then-index-filter.branch [
      | then-index-filter-via-then-index-filter w ↦ omega (arith, index, is.adjoin, is.end, is.filter_len, is.index_len, c.max.ensures)
      | then-index-filter-via-else-index-filter+then-filter-index-gt2147483648 w ↦ omega (arith, index, is.adjoin, is.end, is.filter_len, is.index_len, c.max.ensures)
    ]

pub returns-then-ne-clause-none : goal.returns-then-ne-clause-none
returns-then-ne-clause-none c = λ f is spelled.
    let index = index_read c.args.row.now c.args.bytes.now f c.read_u64-index.result is (omega arith) spelled (c.read_u64-index.ensures ∙ ap (big_number 8) (take_rest c.args.bytes.now 8)) in
    let filter_len = (c.max.result + 7) / 8 in
    let filter = c.args.row.now.bytes - 48 - filter_len in
    let is_len : filter_len ≡ f.filter_len = omega (arith, is.filter_len, c.max.ensures) in
    let is_filter : filter ≡ f.filter = omega (arith, is_len, is.end) in
    let is_index_len : filter - c.read_u64-index.result ≡ f.index_len = omega (arith, is_filter, index, is.adjoin) in
    let own : ◌≡◌ {A = Footer} (record { number = c.args.row.now.number; index = c.read_u64-index.result; index_len = filter - c.read_u64-index.result; filter = filter; filter_len = filter_len; entries = c.args.row.now.entries }) f =
    λ i. record { number = sym is.number i; index = index i; index_len = is_index_len i; filter = is_filter i; filter_len = is_len i; entries = sym is.entries i } in
    let same : c.footer_array-text.result ≡ c.args.bytes.now = c.footer_array-text.ensures ∙ ap footer_bytes own ∙ sym spelled in
    true≢false (c.if-ne.ensures ∙ ap not ((bytes_decides c.footer_array-text.result c.args.bytes.now).1 same))
