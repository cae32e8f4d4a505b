-- Bytes appended one after another.
use Rattle.std.proofs.Common.{◌≡◌, ℕ, ◌+◌, List, ◌++◌, length, Option, Some, ap, ◌∙◌, refl, arith, append_assoc, length-append}
use Rattle.peb_base.specs.declared.entry.Entry.{Entry}
use Rattle.table_file.specs.Form.{body_bytes, index_bytes, items_from, key_filter, footer_bytes, blocks_table}
use Rattle.table_file.specs.declared.footer.Footer.{Footer}

pub five : (old n1 n2 n3 n4 n5 a b c d e : List ℕ) → n1 ≡ old ++ a → n2 ≡ n1 ++ b → n3 ≡ n2 ++ c → n4 ≡ n3 ++ d → n5 ≡ n4 ++ e → n5 ≡ old ++ (a ++ (b ++ (c ++ (d ++ e))))
five old n1 n2 n3 n4 n5 a b c d e p1 p2 p3 p4 p5 =
    p5 ∙ ap (λ l. l ++ e) (p4 ∙ ap (λ l. l ++ d) (p3 ∙ ap (λ l. l ++ c) (p2 ∙ ap (λ l. l ++ b) p1))) ∙ simp append_assoc

pub three : (old n1 n2 n3 a b c : List ℕ) → n1 ≡ old ++ a → n2 ≡ n1 ++ b → n3 ≡ n2 ++ c → n3 ≡ old ++ (a ++ (b ++ c))
three old n1 n2 n3 a b c p1 p2 p3 = p3 ∙ ap (λ l. l ++ c) (p2 ∙ ap (λ l. l ++ b) p1) ∙ simp append_assoc

pub length-footer : (f : Footer) → length (footer_bytes f) ≡ 48
unfolding footer_bytes
length-footer f = refl

-- the parts of a table are the table
pub table_spelled : (number : ℕ) (footer : Footer) (written text filter bytes : List ℕ) (blocks : List (List Entry)) (es : List Entry) → bytes ≡ written ++ (text ++ (filter ++ footer_bytes footer))
    → written ≡ body_bytes blocks → text ≡ index_bytes (items_from 0 blocks) → filter ≡ key_filter es
    → footer.number ≡ number → footer.index ≡ length (body_bytes blocks) → footer.index_len ≡ length text → footer.filter ≡ footer.index + footer.index_len → footer.filter_len ≡ length filter → footer.entries ≡ length es
    → bytes ≡ blocks_table number blocks es
unfolding blocks_table
table_spelled number footer written text filter bytes blocks es spelled is_body is_text is_filter n at len filter_at filter_len entries =
    let index_len : footer.index_len ≡ length (index_bytes (items_from 0 blocks)) = len ∙ ap length is_text in
    let after : footer.filter ≡ length (body_bytes blocks) + length (index_bytes (items_from 0 blocks)) = omega (arith, filter_at, at, index_len) in
    let own : ◌≡◌ {A = Footer} footer (record {
      number = number;
      index = length (body_bytes blocks);
      index_len = length (index_bytes (items_from 0 blocks));
      filter = length (body_bytes blocks) + length (index_bytes (items_from 0 blocks));
      filter_len = length (key_filter es);
      entries = length es;
    }) = λ i. record { number = n i; index = at i; index_len = index_len i; filter = after i; filter_len = (filter_len ∙ ap length is_filter) i; entries = entries i } in
    spelled ∙ (λ i. is_body i ++ (is_text i ++ (is_filter i ++ footer_bytes (own i))))

pub length-table : (number : ℕ) (blocks : List (List Entry)) (es : List Entry) → length (blocks_table number blocks es) ≡ length (body_bytes blocks) + length (index_bytes (items_from 0 blocks)) + length (key_filter es) + 48
unfolding blocks_table
length-table number blocks es =
    let body = body_bytes blocks in
    let index = index_bytes (items_from 0 blocks) in
    let filter = key_filter es in
    let footer : Footer = record { number = number; index = length body; index_len = length index; filter = length body + length index; filter_len = length filter; entries = length es } in
    omega (arith, length-append body (index ++ (filter ++ footer_bytes footer)), length-append index (filter ++ footer_bytes footer), length-append filter (footer_bytes footer), length-footer footer)

pub same_number : (o : Option ℕ) (m n : ℕ) → o ≡ Some m → o ≡ Some n → m ≡ n
same_number o m n a b = cc
