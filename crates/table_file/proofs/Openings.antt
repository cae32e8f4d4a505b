-- The parts of a table's file.
use Rattle.std.proofs.Common.{◌≡◌, [], ℕ, ◌+◌, ◌-◌, ◌<◌, ◌≤◌, ◌^◌, List, ◌++◌, length, take, drop, sym, ap, ◌∙◌, ◌⊎◌, inl, inr, refl, arith, subst, append_assoc, length-append, take-append-drop, length-drop}
use Rattle.std.proofs.lemmas.List.{take_at, drop_at, drop-drop, take_all, length-take-le}
use Rattle.std.proofs.lemmas.Bool.{cases_lt}
use Rattle.byteorder.specs.Endian.{big_number}
use Rattle.peb_base.specs.declared.table_row.TableRow.{TableRow}
use Rattle.table_file.specs.Form.{footer_bytes, index_bytes}
use Rattle.table_file.specs.Opening.{AreItems, IsIndex, IsFooterOf, OpensAs}
use Rattle.table_file.proofs.IndexWalk.{one_items}
use Rattle.table_file.specs.declared.footer.Footer.{Footer}
use Rattle.table_file.specs.declared.index_item.IndexItem.{IndexItem}
use Rattle.table_file.proofs.Spelled.{length-footer}
use Rattle.table_file.proofs.Footers.{index_read}

-- where the parts of a table stand in its file
pub record Parts (row : TableRow) (items : List IndexItem) (filter bytes : List ℕ) (f : Footer) : Type 0 where
  pub long : length bytes ≡ row.bytes
  pub footer : drop (row.bytes - 48) bytes ≡ footer_bytes f
  pub index : take f.index_len (drop f.index bytes) ≡ index_bytes items
  pub filter_at : take f.filter_len (drop f.filter bytes) ≡ filter

pub parts_of : (row : TableRow) (items : List IndexItem) (filter bytes : List ℕ) → (o : OpensAs row items filter bytes) → Parts row items filter bytes o.footer
parts_of row items filter bytes o =
    let f = o.footer in
    let index = index_bytes items in
    let foot = footer_bytes f in
    let two : bytes ≡ (o.body ++ index) ++ (filter ++ foot) = o.spelled ∙ sym (append_assoc o.body index (filter ++ foot)) in
    let three : bytes ≡ ((o.body ++ index) ++ filter) ++ foot = two ∙ sym (append_assoc (o.body ++ index) filter foot) in
    let at_filter : length (o.body ++ index) ≡ f.filter = omega (arith, length-append o.body index, o.body_len, o.index_len, o.agrees.adjoin) in
    let at_footer : length ((o.body ++ index) ++ filter) ≡ row.bytes - 48 = omega (arith, length-append (o.body ++ index) filter, at_filter, o.filter_len, o.agrees.end) in
    record {
      long = omega (arith, ap length three, length-append ((o.body ++ index) ++ filter) foot, length-footer f, at_footer, o.agrees.end);
      footer = ap (drop (row.bytes - 48)) three ∙ drop_at ((o.body ++ index) ++ filter) foot (row.bytes - 48) at_footer;
      index = ap (λ l. take f.index_len (drop f.index l)) o.spelled ∙ ap (take f.index_len) (drop_at o.body (index ++ (filter ++ foot)) f.index o.body_len) ∙ take_at index (filter ++ foot) f.index_len o.index_len;
      filter_at = ap (λ l. take f.filter_len (drop f.filter l)) two ∙ ap (take f.filter_len) (drop_at (o.body ++ index) (filter ++ foot) f.filter at_filter) ∙ take_at filter foot f.filter_len o.filter_len;
    }

-- footers that agree with a row and have the same bytes are one
pub one_footer : (row : TableRow) (a b : Footer) → row.bytes < 2 ^ 64 → IsFooterOf row a → IsFooterOf row b → footer_bytes a ≡ footer_bytes b → a ≡ b
one_footer row a b small is_a is_b same =
    let read = λ (f : Footer) (is : IsFooterOf row f) (e : footer_bytes a ≡ footer_bytes f). index_read row (footer_bytes a) f (big_number 8 (drop 8 (footer_bytes a))) is small e refl in
    let index : a.index ≡ b.index = sym (read a is_a refl) ∙ read b is_b same in
    let filter_len : a.filter_len ≡ b.filter_len = is_a.filter_len ∙ sym is_b.filter_len in
    let filter : a.filter ≡ b.filter = omega (arith, is_a.end, is_b.end, filter_len) in
    let index_len : a.index_len ≡ b.index_len = omega (arith, is_a.adjoin, is_b.adjoin, index, filter) in
    λ i. record { number = (is_a.number ∙ sym is_b.number) i; index = index i; index_len = index_len i; filter = filter i; filter_len = filter_len i; entries = (is_a.entries ∙ sym is_b.entries) i }

-- the parts that were read make a table
pub opens : (row : TableRow) (items : List IndexItem) (filter bytes text : List ℕ) (f : Footer) → IsFooterOf row f → length bytes ≡ row.bytes → drop (row.bytes - 48) bytes ≡ footer_bytes f
    → text ≡ take f.index_len (drop f.index bytes) → text ≡ index_bytes items → filter ≡ take f.filter_len (drop f.filter bytes) → IsIndex f.index items → OpensAs row items filter bytes
opens row items filter bytes text f agrees long footer read_text is_text read_filter index =
    let i = f.index in
    let l = f.index_len in
    let m = f.filter_len in
    let after_index : drop l (drop i bytes) ≡ drop f.filter bytes = drop-drop l i bytes ∙ ap (λ n. drop n bytes) agrees.adjoin in
    let end : f.filter + m ≡ row.bytes - 48 = omega (arith, agrees.end) in
    let after_filter : drop m (drop f.filter bytes) ≡ footer_bytes f = drop-drop m f.filter bytes ∙ ap (λ n. drop n bytes) end ∙ footer in
    let body_len : length (take i bytes) ≡ i = length-take-le i bytes (omega (arith, long, agrees.end, agrees.adjoin)) in
    let text_len : length text ≡ l = ap length read_text ∙ length-take-le l (drop i bytes) (omega (arith, length-drop i bytes, long, agrees.end, agrees.adjoin)) in
    let filter_len : length filter ≡ m = ap length read_filter ∙ length-take-le m (drop f.filter bytes) (omega (arith, length-drop f.filter bytes, long, agrees.end)) in
    record {
      body = take i bytes;
      footer = f;
      spelled =
          sym (take-append-drop i bytes) ∙ ap (λ r. take i bytes ++ r)
          (sym (take-append-drop l (drop i bytes)) ∙ (λ j. (sym read_text ∙ is_text) j ++ (after_index ∙ sym (take-append-drop m (drop f.filter bytes)) ∙ (λ k. sym read_filter k ++ after_filter k)) j));
      agrees = agrees;
      index = subst (λ n. IsIndex n items) (sym body_len) index;
      body_len = body_len;
      index_len = sym (ap length is_text) ∙ text_len;
      filter_len = filter_len;
    }

-- bytes that end within the first that were asked for
pub whole_tail : (n : ℕ) (xs : List ℕ) → length (take (n + 1) xs) ≡ n → take (n + 1) xs ≡ xs
whole_tail n xs short = by (cases_lt (length xs) (n + 1))
  where
    by : (length xs < n + 1) ⊎ (n + 1 ≤ length xs) → take (n + 1) xs ≡ xs
    by (inl lt) = take_all (n + 1) xs (omega (arith, lt))
    by (inr le) = absurd (omega (arith, short, length-take-le (n + 1) xs le))

pub tail_long : (row : TableRow) (items : List IndexItem) (filter bytes : List ℕ) (o : OpensAs row items filter bytes) → take 49 (drop (row.bytes - 48) bytes) ≡ footer_bytes o.footer
tail_long row items filter bytes o =
    let parts = parts_of row items filter bytes o in
    take_all 49 (drop (row.bytes - 48) bytes) (omega (arith, ap length parts.footer, length-footer o.footer)) ∙ parts.footer

-- bytes are a table of a row with one index and one filter at most
pub one_opening : (row : TableRow) (a b : List IndexItem) (f g bytes : List ℕ) → row.bytes < 2 ^ 64 → OpensAs row a f bytes → OpensAs row b g bytes → (a ≡ b) × (f ≡ g)
one_opening row a b f g bytes small oa ob =
    let pa = parts_of row a f bytes oa in
    let pb = parts_of row b g bytes ob in
    let same = one_footer row oa.footer ob.footer small oa.agrees ob.agrees (sym pa.footer ∙ pb.footer) in
    let text : index_bytes a ≡ index_bytes b = sym pa.index ∙ ap (λ (f : Footer). take f.index_len (drop f.index bytes)) same ∙ pb.index in
    let end : length oa.body ≡ length ob.body = oa.body_len ∙ ap (λ (f : Footer). f.index) same ∙ sym ob.body_len in
    let within : length oa.body < 2 ^ 64 = omega (arith, oa.body_len, oa.agrees.adjoin, oa.agrees.end, small) in (
      one_items 0 [] 0 (length oa.body) a b within oa.index.each (subst (λ n. AreItems 0 [] 0 n b) (sym end) ob.index.each) (ap (drop 4) text),
      sym pa.filter_at ∙ ap (λ (f : Footer). take f.filter_len (drop f.filter bytes)) same ∙ pb.filter_at,
    )
