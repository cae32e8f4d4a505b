-- What the spelling of a field tells.
use Rattle.std.specs.Prelude.{◌≡◌, ℕ, ◌^◌, ◌<◌, Bool, true, false, List, [], ◌∷◌, ◌++◌, length, drop, flat_map, refl}
use Rattle.std.specs.List.{AllByRecursion}
use Rattle.std.proofs.Common.{sym, ap, ◌∙◌, append_assoc, get_or, arith}
use Rattle.std.proofs.lemmas.List.{append_cancel_left}
use Rattle.byteorder.specs.Endian.{big_bytes, big_number}
use Rattle.byteorder.specs.Numbers.{big_number-reads_back}
use Rattle.peb_base.specs.Keys.{Bytes}
use Rattle.peb_base.specs.declared.table_row.TableRow.{TableRow}
use Rattle.record_log.specs.CountedLaws.{one_counted}
use Rattle.manifest.specs.Fields.{AreApart, IsWord, word_bytes, IsNumber, IsByte, byte_bytes, flag_bytes, IsKey, key_bytes, IsList, list_bytes, IsRow, row_bytes, IsChosen, chosen_bytes, AreBoth, pair_bytes}

-- a number of n bytes
one_number : (n : ℕ) (a b : ℕ) (x y : List ℕ) → a < 256 ^ n → b < 256 ^ n
    → big_bytes n a ++ x ≡ big_bytes n b ++ y → (a ≡ b) × (x ≡ y)
one_number n a b x y fits_a fits_b same =
    let one : a ≡ b = sym (big_number-reads_back n a x fits_a) ∙ ap (big_number n) same
    ∙ big_number-reads_back n b y fits_b in
    (one, append_cancel_left (big_bytes n a) x y (same ∙ ap (λ m. big_bytes n m ++ y) (sym one)))

pub words_apart : AreApart IsWord word_bytes
words_apart = record {
  one = λ a b x y fits_a fits_b same. one_number 8 a b x y (omega arith) (omega arith) same;
}

pub places_apart : AreApart IsNumber word_bytes
places_apart = record {
  one = λ a b x y fits_a fits_b same. one_number 8 a b x y (omega arith) (omega arith) same;
}

pub counts_apart : AreApart (λ n. n < 2 ^ 32) (big_bytes 4)
counts_apart = record {
  one = λ a b x y fits_a fits_b same. one_number 4 a b x y (omega arith) (omega arith) same;
}

pub bytes_apart : AreApart IsByte byte_bytes
bytes_apart = record {
  one = λ a b x y fits_a fits_b same. (ap (λ l. get_or l 0 0) same, ap (drop 1) same);
}

one_flag : (a b : Bool) (x y : List ℕ) → flag_bytes a ++ x ≡ flag_bytes b ++ y
    → (a ≡ b) × (x ≡ y)
one_flag true true x y same = (refl, ap (drop 1) same)
one_flag false false x y same = (refl, ap (drop 1) same)
one_flag true false x y same =
    absurd (let e : ◌≡◌ {A = ℕ} 1 0 = ap (λ l. get_or l 0 0) same in omega (arith, e))
one_flag false true x y same =
    absurd (let e : ◌≡◌ {A = ℕ} 0 1 = ap (λ l. get_or l 0 0) same in omega (arith, e))

pub flags_apart : AreApart (λ b. Unit {0}) flag_bytes
flags_apart = record { one = λ a b x y fits_a fits_b same. one_flag a b x y same }

pub keys_apart : AreApart IsKey key_bytes
keys_apart = record {
  one = λ a b x y fits_a fits_b same.
      one_counted 2 a b x y (omega (arith, fits_a.1)) (omega (arith, fits_b.1)) same;
}

-- as many items, one after another
items_apart : {X : Type 0} (fits : X → Type 0) (spelled : X → List ℕ) → AreApart fits spelled
    → (a b : List X) (x y : List ℕ) → length a ≡ length b → AllByRecursion fits a
    → AllByRecursion fits b → flat_map spelled a ++ x ≡ flat_map spelled b ++ y
    → (a ≡ b) × (x ≡ y)
items_apart fits spelled apart [] [] x y counts fits_a fits_b same = (refl, same)
items_apart fits spelled apart [] (s ∷ b) x y counts fits_a fits_b same =
    absurd (omega (arith, counts))
items_apart fits spelled apart (r ∷ a) [] x y counts fits_a fits_b same =
    absurd (omega (arith, counts))
items_apart fits spelled apart (r ∷ a) (s ∷ b) x y counts fits_a fits_b same =
    let first = apart.one r s (flat_map spelled a ++ x) (flat_map spelled b ++ y) fits_a.0
    fits_b.0
    (sym (append_assoc (spelled r) (flat_map spelled a) x) ∙ same
    ∙ append_assoc (spelled s) (flat_map spelled b) y) in
    let behind = items_apart fits spelled apart a b x y (omega (arith, counts)) fits_a.1
    fits_b.1 first.1 in
    ((λ i. first.0 i ∷ behind.0 i), behind.1)

-- a list's count and its items, apart
pub list_apart : {X : Type 0} (spelled : X → List ℕ) (xs : List X) (rest : List ℕ)
    → list_bytes spelled xs ++ rest
    ≡ big_bytes 4 (length xs) ++ (flat_map spelled xs ++ rest)
list_apart spelled xs rest =
    append_assoc (big_bytes 4 (length xs)) (flat_map spelled xs) rest

pub lists_apart : {X : Type 0} {fits : X → Type 0} {spelled : X → List ℕ}
    → AreApart fits spelled → AreApart (IsList fits) (list_bytes spelled)
lists_apart {X} {fits} {spelled} apart = record {
  one = λ a b x y is_a is_b same.
      let counts = counts_apart.one (length a) (length b) (flat_map spelled a ++ x)
      (flat_map spelled b ++ y) is_a.few is_b.few
      (sym (list_apart spelled a x) ∙ same ∙ list_apart spelled b y) in
      items_apart fits spelled apart a b x y counts.0 is_a.each is_b.each counts.1;
}

pub pairs_apart : {A B : Type 0} {is_a : A → Type 0} {a_bytes : A → List ℕ}
    {is_b : B → Type 0} {b_bytes : B → List ℕ} → AreApart is_a a_bytes → AreApart is_b b_bytes
    → AreApart (AreBoth is_a is_b) (pair_bytes a_bytes b_bytes)
pairs_apart {A} {B} {is_a} {a_bytes} {is_b} {b_bytes} apart_a apart_b = record {
  one = λ p q x y fits_p fits_q same.
      let first = apart_a.one p.0 q.0 (b_bytes p.1 ++ x) (b_bytes q.1 ++ y) fits_p.0 fits_q.0
      (sym (append_assoc (a_bytes p.0) (b_bytes p.1) x) ∙ same
      ∙ append_assoc (a_bytes q.0) (b_bytes q.1) y) in
      let second = apart_b.one p.1 q.1 x y fits_p.1 fits_q.1 first.1 in
      ((λ i. (first.0 i, second.0 i)), second.1);
}

pub chosen_apart : AreApart IsChosen chosen_bytes
chosen_apart = record {
  one = λ a b x y is_a is_b same.
      let both = (pairs_apart keys_apart bytes_apart).one (a.key, a.level) (b.key, b.level) x y
      (is_a.key, is_a.level) (is_b.key, is_b.level) same in
      ((λ i. record { key = (both.0 i).0; level = (both.0 i).1 }), both.1);
}

-- a row's fields, one behind the other
abbrev pub RowFields : Type 0
RowFields = ℕ × (ℕ × (ℕ × (Bytes × (Bytes × (ℕ × (ℕ × (ℕ × (ℕ × ℕ))))))))

abbrev pub fields_of_row : TableRow → RowFields
fields_of_row r = (
  r.number,
  (
    r.level,
    (
      r.tier,
      (
        r.smallest,
        (
          r.largest,
          (
            r.entries,
            (
              r.raw,
              (
                r.first,
                (r.last, r.bytes),
              ),
            ),
          ),
        ),
      ),
    ),
  ),
)

abbrev pub AreRowFields : RowFields → Type 0
AreRowFields =
    AreBoth IsWord (AreBoth IsByte (AreBoth IsByte (AreBoth IsKey (AreBoth IsKey
    (AreBoth IsWord (AreBoth IsWord (AreBoth IsNumber (AreBoth IsNumber IsWord))))))))

pub row_fits : (r : TableRow) → IsRow r → AreRowFields (fields_of_row r)
row_fits r is = (
  is.number,
  (
    is.level,
    (
      is.tier,
      (
        is.smallest,
        (
          is.largest,
          (
            is.entries,
            (
              is.raw,
              (is.first, (is.last, is.bytes)),
            ),
          ),
        ),
      ),
    ),
  ),
)

fields_apart : AreApart AreRowFields (pair_bytes word_bytes (pair_bytes byte_bytes
    (pair_bytes byte_bytes (pair_bytes key_bytes (pair_bytes key_bytes (pair_bytes word_bytes
    (pair_bytes word_bytes (pair_bytes word_bytes (pair_bytes word_bytes word_bytes)))))))))
fields_apart =
    pairs_apart words_apart (pairs_apart bytes_apart (pairs_apart bytes_apart
    (pairs_apart keys_apart (pairs_apart keys_apart (pairs_apart words_apart
    (pairs_apart words_apart (pairs_apart places_apart (pairs_apart places_apart
    words_apart))))))))

pub rows_apart : AreApart IsRow row_bytes
rows_apart = record {
  one = λ a b x y is_a is_b same.
      let all = fields_apart.one (fields_of_row a) (fields_of_row b) x y (row_fits a is_a)
      (row_fits b is_b) same in (
        (λ i. record {
          number = (all.0 i).0;
          level = (all.0 i).1.0;
          tier = (all.0 i).1.1.0;
          smallest = (all.0 i).1.1.1.0;
          largest = (all.0 i).1.1.1.1.0;
          entries = (all.0 i).1.1.1.1.1.0;
          raw = (all.0 i).1.1.1.1.1.1.0;
          first = (all.0 i).1.1.1.1.1.1.1.0;
          last = (all.0 i).1.1.1.1.1.1.1.1.0;
          bytes = (all.0 i).1.1.1.1.1.1.1.1.1;
        }),
        all.1,
      );
}
