use Rattle.std.proofs.Common.{◌≡◌, ◌≤◌, ◌∙◌, List, ℕ, Some, sym, subst, refl, arith, rules}
use Rattle.table_file.specs.Form.{index_bytes}
use Rattle.table_file.specs.Opening.{OpensAs}
use Rattle.table_file.proofs.Openings.{opens}
use Rattle.table_file.proofs.Placing.{told_on}
use Rattle.table_file.proofs.Searching.{index_ascends, index_short}
use Rattle.table_file.proofs.table.Table.open.Goals as goal

one_value : (x y : List ℕ) → Some x ≡ Some y → x ≡ y
one_value x y same = cc

pub returns-in-Err-read_footer-clause-damaged : goal.returns-in-Err-read_footer-clause-damaged
returns-in-Err-read_footer-clause-damaged g c = λ damage told bytes sealed items filter o.
    let there : Some (g.F.TableHandle.bytes c.in-Some.file) ≡ (g.P.Port.table_files c.args.port.now).sealed c.args.row.number = search rules in
    let same : bytes ≡ g.F.TableHandle.bytes c.in-Some.file = one_value bytes (g.F.TableHandle.bytes c.in-Some.file) (sym sealed ∙ sym there) in
    c.in-Err-read_footer.ensures.damaged damage told items filter (subst (λ (l : List ℕ). OpensAs c.args.row items filter l) same o)

pub returns-in-Err-read_index-clause-damaged : goal.returns-in-Err-read_index-clause-damaged
returns-in-Err-read_index-clause-damaged g c = λ damage told bytes sealed items filter o.
    let there : Some (g.F.TableHandle.bytes c.in-Some.file) ≡ (g.P.Port.table_files c.args.port.now).sealed c.args.row.number = search rules in
    let same : bytes ≡ g.F.TableHandle.bytes c.in-Some.file = one_value bytes (g.F.TableHandle.bytes c.in-Some.file) (sym sealed ∙ sym there) in
    c.in-Err-read_index.ensures.damaged damage told (c.in-Ok-read_footer.ensures.spelled told) items filter (subst (λ (l : List ℕ). OpensAs c.args.row items filter l) same o)

pub returns-clause-opened : goal.returns-clause-opened
returns-clause-opened g c = λ told.
    let items = c.in-Ok-read_index.items.items in
    opens c.args.row items c.in-Ok-read_filter.filter (g.F.TableHandle.bytes c.in-Some.file) (index_bytes items) c.in-Ok-read_footer.footer c.in-Ok-read_footer.ensures.agrees
    (c.in-Ok-read_footer.ensures.long told) (c.in-Ok-read_footer.ensures.spelled told) (sym (c.in-Ok-read_index.ensures.spelled told)) refl (c.in-Ok-read_filter.ensures.filter told) c.in-Ok-read_index.ensures.index

pub invariant_of-result : goal.invariant_of-result
invariant_of-result g c = record {
  number_is = (let number : g.F.TableHandle.number c.in-Some.file ≡ c.args.row.number = search rules in number);
  some = c.in-Ok-read_index.ensures.index.some;
  short = index_short c.in-Ok-read_footer.footer.index c.in-Ok-read_index.items.items c.in-Ok-read_index.ensures.index;
  ascending = index_ascends c.in-Ok-read_footer.footer.index c.in-Ok-read_index.items.items c.in-Ok-read_index.ensures.index;
}

pub returns-in-Err-read_index-clause-by_row : goal.returns-in-Err-read_index-clause-by_row
returns-in-Err-read_index-clause-by_row g c =
    let f = c.in-Ok-read_footer.footer in
    let agrees = c.in-Ok-read_footer.ensures.agrees in
    told_on (λ at. at ≡ f.index) (λ at. at ≤ c.args.row.bytes) c.in-Err-read_index.why
    (λ at is. omega (arith, is, agrees.adjoin, agrees.end))
    c.in-Err-read_index.ensures.by_footer

pub returns-in-Err-read_filter-clause-by_row : goal.returns-in-Err-read_filter-clause-by_row
returns-in-Err-read_filter-clause-by_row g c =
    let f = c.in-Ok-read_footer.footer in
    told_on (λ at. at ≡ f.filter) (λ at. at ≤ c.args.row.bytes) c.in-Err-read_filter.why
    (λ at is. omega (arith, is, c.in-Ok-read_footer.ensures.agrees.end))
    c.in-Err-read_filter.ensures.place

pub returns-clause-fits : goal.returns-clause-fits
returns-clause-fits g c = record {
  footer = c.in-Ok-read_footer.footer;
  agrees = c.in-Ok-read_footer.ensures.agrees;
  index = c.in-Ok-read_index.ensures.index;
  filter_len = c.in-Ok-read_filter.ensures.long;
}
