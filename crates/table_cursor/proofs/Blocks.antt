-- Where blocks stand in the bytes of a table, and what its index tells of them.
use Rattle.std.proofs.Common.{◌≡◌, ℕ, zero, suc, ◌+◌, ◌<◌, ◌≤◌, ◌∙◌, true, List, [], ◌∷◌, ◌++◌, length, take, drop, max, Some, refl, sym, ap, subst, arith, append_assoc}
use Rattle.std.specs.Prelude.{slice_get}
use Rattle.std.proofs.lemmas.List.{append-nil, take_at, drop_at, drop-drop}
use Rattle.peb_base.specs.Keys.{Bytes}
use Rattle.peb_base.specs.Entries.{comes_before, AscendFrom}
use Rattle.peb_base.specs.Tables.{first_key, last_key, least_number, greatest_number}
use Rattle.peb_base.specs.declared.entry.Entry.{Entry}
use Rattle.block_form.specs.Form.{block_bytes, IsBlock}
use Rattle.table_file.specs.Blocks.{AreBlocks}
use Rattle.table_file.specs.Form.{body_bytes, last_number, item_of, items_from}
use Rattle.table_cursor.specs.Agreeing.{key_before, number_before, first_number}
use Rattle.table_cursor.specs.Places.{block_is, none_joined, among}
use Rattle.table_cursor.specs.Standing.{joined}
use Rattle.table_file.specs.Ascending.{rest_ascends}

-- there is a block at each index below their number
pub some_block : (blocks : List (List Entry)) (index : ℕ) → index < length blocks → (block : List Entry) × (slice_get blocks index ≡ Some block)
some_block [] index lt = absurd (omega (arith, lt))
some_block (b ∷ blocks) zero lt = (b, refl)
some_block (b ∷ blocks) (suc index) lt = some_block blocks index (omega (arith, lt))

-- where a block stands in the bytes of all, and what the index tells of it
pub record InTable (key : Bytes) (number place : ℕ) (blocks : List (List Entry)) (rest : List ℕ) (index : ℕ) (block : List Entry) : Type 0 where
  pub at : ℕ
  pub indexed : slice_get (items_from place blocks) index ≡ Some (item_of (place + at) block)
  pub after : comes_before (key_before key index (items_from place blocks)) (number_before number index (items_from place blocks)) (first_key block) (first_number block) ≡ true
  pub first : index ≡ 0 → first_key block ≡ first_key (joined blocks)
  pub last : suc index ≡ length (items_from place blocks) → last_key block ≡ last_key (joined blocks)
  pub least : least_number (joined blocks) ≤ least_number block
  pub greatest : greatest_number block ≤ greatest_number (joined blocks)
  pub form : IsBlock block (block_bytes block)
  pub bytes : take (length (block_bytes block)) (drop at (body_bytes blocks ++ rest)) ≡ block_bytes block

first-append : (xs ys : List Entry) → 0 < length xs → first_key (xs ++ ys) ≡ first_key xs
first-append [] ys some = absurd (omega (arith, some))
first-append (x ∷ xs) ys some = refl

last-append : (xs ys : List Entry) → 0 < length ys → last_key (xs ++ ys) ≡ last_key ys
last-append [] ys some = refl
last-append (x ∷ []) [] some = absurd (omega (arith, some))
last-append (x ∷ []) (y ∷ ys) some = refl
last-append (x ∷ z ∷ xs) ys some = last-append (z ∷ xs) ys some

least-front : (xs ys : List Entry) → 0 < length xs → least_number (xs ++ ys) ≤ least_number xs
least-front [] ys some = absurd (omega (arith, some))
least-front (x ∷ []) [] some = omega arith
least-front (x ∷ []) (y ∷ ys) some = omega arith
least-front (x ∷ z ∷ xs) ys some = omega (arith, least-front (z ∷ xs) ys (omega arith))

least-behind : (xs ys : List Entry) → 0 < length ys → least_number (xs ++ ys) ≤ least_number ys
least-behind [] ys some = omega arith
least-behind (x ∷ []) [] some = absurd (omega (arith, some))
least-behind (x ∷ []) (y ∷ ys) some = omega arith
least-behind (x ∷ z ∷ xs) ys some = omega (arith, least-behind (z ∷ xs) ys some)

greatest-both : (xs ys : List Entry) → greatest_number (xs ++ ys) ≡ max (greatest_number xs) (greatest_number ys)
greatest-both [] ys = omega arith
greatest-both (x ∷ xs) ys = omega (arith, greatest-both xs ys)

pub length-items : (place : ℕ) (blocks : List (List Entry)) → length (items_from place blocks) ≡ length blocks
length-items place [] = refl
length-items place (b ∷ blocks) = omega (arith, length-items (place + length (block_bytes b)) blocks)

first_after : (key : Bytes) (number : ℕ) (es more : List Entry) → 0 < length es → AscendFrom key number (es ++ more) → comes_before key number (first_key es) (first_number es) ≡ true
first_after key number [] more some each = absurd (omega (arith, some))
first_after key number (e ∷ es) more some each = each.1

pub in_table : (key : Bytes) (number place : ℕ) (blocks : List (List Entry)) (rest : List ℕ) (index : ℕ) (block : List Entry) → AscendFrom key number (joined blocks) → AreBlocks blocks → slice_get blocks index ≡ Some block
    → InTable key number place blocks rest index block
in_table key number place [] rest index block each are there = cc
in_table key number place (b ∷ blocks) rest zero block each are there =
    let same = block_is b block there in
    let none : place + 0 ≡ place = omega arith in
    let long = length-items (place + length (block_bytes b)) blocks in
    subst (λ (x : List Entry). InTable key number place (b ∷ blocks) rest 0 x) same
    (record {
      at = 0;
      indexed = ap (λ n. Some (item_of n b)) (sym none);
      after = first_after key number b (joined blocks) are.0.some each;
      first = λ zero_. sym (first-append b (joined blocks) are.0.some);
      last = λ one. sym (ap (λ l. last_key (b ++ l)) (none_joined blocks (omega (arith, one, long))) ∙ ap last_key (append-nil b));
      least = least-front b (joined blocks) are.0.some;
      greatest = omega (arith, greatest-both b (joined blocks));
      form = are.0;
      bytes = ap (take (length (block_bytes b))) (append_assoc (block_bytes b) (body_bytes blocks) rest) ∙ take_at (block_bytes b) (body_bytes blocks ++ rest) (length (block_bytes b)) refl;
    })
in_table key number place (b ∷ blocks) rest (suc index) block each are there =
    let size = length (block_bytes b) in
    let deep = in_table (last_key b) (last_number b) (place + size) blocks rest index block (rest_ascends key number b (joined blocks) are.0.some each) are.1 there in
    let spot = among blocks index block there in
    let some : 0 < length (joined blocks) = omega (arith, spot.within, deep.form.some) in
    let moved : place + size + deep.at ≡ place + (size + deep.at) = omega arith in
    record {
      at = size + deep.at;
      indexed = deep.indexed ∙ ap (λ n. Some (item_of n block)) moved;
      after = deep.after;
      first = λ zero_. absurd (omega (arith, zero_));
      last = λ one. deep.last (omega (arith, one)) ∙ sym (last-append b (joined blocks) some);
      least = omega (arith, deep.least, least-behind b (joined blocks) some);
      greatest = omega (arith, deep.greatest, greatest-both b (joined blocks));
      form = deep.form;
      bytes =
          ap (λ l. take (length (block_bytes block)) (drop (size + deep.at) l)) (append_assoc (block_bytes b) (body_bytes blocks) rest)
          ∙ ap (take (length (block_bytes block))) (sym (drop-drop deep.at size (block_bytes b ++ (body_bytes blocks ++ rest))))
          ∙ ap (λ l. take (length (block_bytes block)) (drop deep.at l)) (drop_at (block_bytes b) (body_bytes blocks ++ rest) size refl)
          ∙ deep.bytes;
    }
