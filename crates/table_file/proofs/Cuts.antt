-- One entry more in a table that is written.
use Rattle.std.proofs.Common.{◌≡◌, ℕ, ◌+◌, ◌<◌, ◌≤◌, Bool, true, false, IsTrue, List, [], ◌∷◌, ◌++◌, length, map, Option, Some, None, Err, ◌⊎◌, inl, inr, refl, sym, ap, ◌∙◌, subst, arith, append_assoc, length-append}
use Rattle.std.specs.Prelude.{if◌then◌else◌, nat_le}
use Rattle.std.specs.List.{flat_map, fold}
use Rattle.std.proofs.lemmas.Bool.Decides.{nat_tests}
use Rattle.std.proofs.lemmas.List.{append-nil}
use Rattle.std.proofs.lemmas.List.Concat.{flat_map-append}
use Rattle.peb_base.specs.Choice.{mixed}
use Rattle.peb_base.specs.Entries.{comes_before, AscendFrom, AreSorted}
use Rattle.peb_base.specs.Keys.{Bytes}
use Rattle.peb_base.specs.Tables.{last_key}
use Rattle.peb_base.specs.declared.entry.Entry.{Entry}
use Rattle.block_form.specs.Form.{block_bytes, entries_bytes, restarts}
use Rattle.table_file.specs.Form.{Cut, cut_on, cut_of, body_bytes, with_last, last_number, item_of, items_from, index_bytes}
use Rattle.table_file.specs.Indexes.{Indexes}
use Rattle.table_file.specs.Sums.{Sums, EndsWith}
use Rattle.table_file.specs.Writing.{Keeps}
use Rattle.table_file.specs.declared.index.Index.{Index}
use Rattle.table_file.specs.declared.summary.Summary.{Summary}
use Rattle.table_file.specs.declared.put_fault.PutFault.{PutFault}
use Rattle.table_file.specs.declared.put_fault.PutFault.TheVariants.{Fault, Limit, Memory}
use Rattle.peb_base.specs.declared.limit_kind.LimitKind.TheVariants as kinds
use Rattle.table_file.specs.Limits.{index_fault, blocks_fault, push_fault, IsRefused}
use Rattle.table_file.proofs.Indexing.{body-push, items-push, length-index-push}

fold-push : {A X : Type 0} (f : A → X → A) (a : A) (xs : List X) (x : X) → fold f a (xs ++ x ∷ []) ≡ f (fold f a xs) x
fold-push f a [] x = refl
fold-push f a (y ∷ xs) x = fold-push f (f a y) xs x

-- one entry more is one step of the cut
pub cut_of-push : (full : ℕ) (es : List Entry) (e : Entry) → cut_of full (es ++ e ∷ []) ≡ cut_on full (cut_of full es) e
cut_of-push full es e = fold-push (cut_on full) (record { closed = []; begun = [] }) es e

pub cut_closed : (full : ℕ) (es : List Entry) (e : Entry) → full ≤ length (block_bytes ((cut_of full es).begun ++ e ∷ []))
    → cut_of full (es ++ e ∷ []) ≡ record { closed = (cut_of full es).closed ++ ((cut_of full es).begun ++ e ∷ []) ∷ []; begun = [] }
cut_closed full es e long =
    let cut = cut_of full es in
    let yes_ : nat_le full (length (block_bytes (cut.begun ++ e ∷ []))) ≡ true = grind (arith, nat_tests, long) in
    cut_of-push full es e ∙ ap (λ b. if b then record { closed = cut.closed ++ (cut.begun ++ e ∷ []) ∷ []; begun = [] } else record { closed = cut.closed; begun = cut.begun ++ e ∷ [] }) yes_

-- nothing comes before a key
after_none : (key : Bytes) (number : ℕ) → 0 < length key → comes_before [] 0 key number ≡ true
after_none [] number some = absurd (omega (arith, some))
after_none (k ∷ key) number some = refl

-- the last of sorted entries are sorted
pub sorted_rest : (before : Bytes) (above : ℕ) (xs ys : List Entry) → AscendFrom before above (xs ++ ys) → AreSorted ys
sorted_rest before above [] [] each = tt
sorted_rest before above [] (y ∷ ys) each = (each.0, after_none y.key y.number each.0.some, each.2)
sorted_rest before above (x ∷ xs) ys each = sorted_rest x.key x.number xs ys each.2

pub last_key-append : (xs ys : List Entry) → 0 < length ys → last_key (xs ++ ys) ≡ last_key ys
last_key-append [] ys some = refl
last_key-append (x ∷ []) [] some = absurd (omega (arith, some))
last_key-append (x ∷ []) (y ∷ ys) some = refl
last_key-append (x ∷ z ∷ xs) ys some = last_key-append (z ∷ xs) ys some

pub last_number-append : (xs ys : List Entry) → 0 < length ys → last_number (xs ++ ys) ≡ last_number ys
last_number-append [] ys some = refl
last_number-append (x ∷ []) [] some = absurd (omega (arith, some))
last_number-append (x ∷ []) (y ∷ ys) some = refl
last_number-append (x ∷ z ∷ xs) ys some = last_number-append (z ∷ xs) ys some

hashes-push : (es : List Entry) (e : Entry) → map (λ (e : Entry). mixed e.key) (es ++ e ∷ []) ≡ map (λ (e : Entry). mixed e.key) es ++ mixed e.key ∷ []
hashes-push [] e = refl
hashes-push (f ∷ es) e = ap (λ l. mixed f.key ∷ l) (hashes-push es e)

-- an entry more in the begun block
pub keeps_on : (tells : Bool) (begun : Option ℕ) (written : List ℕ) (number : ℕ) (block new_block : List Entry) (index : Index) (hashes new_hashes : List ℕ) (summary new_summary : Summary) (cut : Cut) (es : List Entry) (e : Entry)
    → Keeps tells begun written number block index hashes summary cut es → AreSorted (es ++ e ∷ []) → length es < 1717986918
    → new_block ≡ block ++ e ∷ [] → new_hashes ≡ hashes ++ mixed e.key ∷ [] → Sums new_summary (es ++ e ∷ [])
    → Keeps tells begun written number new_block index new_hashes new_summary (record { closed = cut.closed; begun = cut.begun ++ e ∷ [] }) (es ++ e ∷ [])
keeps_on tells begun written number block new_block index hashes new_hashes summary new_summary cut es e keeps sorted few blocks more sums =
    record {
      sorted = sorted;
      whole = ap (λ l. l ++ e ∷ []) keeps.whole ∙ append_assoc (flat_map (λ block. block) cut.closed) cut.begun (e ∷ []);
      few = omega (arith, few, length-append es (e ∷ []));
      begun_is = keeps.begun_is;
      blocks = keeps.blocks;
      open_is = blocks ∙ ap (λ l. l ++ e ∷ []) keeps.open_is;
      index_is = keeps.index_is;
      hashes_are = more ∙ ap (λ l. l ++ mixed e.key ∷ []) keeps.hashes_are ∙ sym (hashes-push es e);
      sums = sums;
    }

-- the begun block is closed
pub keeps_closed : (tells : Bool) (begun now : Option ℕ) (written more : List ℕ) (number : ℕ) (block new_block : List Entry) (index new_index : Index) (hashes : List ℕ) (summary : Summary) (cut : Cut) (es : List Entry)
    → Keeps tells begun written number block index hashes summary cut es → now ≡ begun → (IsTrue tells → more ≡ written ++ block_bytes block) → new_block ≡ [] → Indexes new_index (cut.closed ++ block ∷ [])
    → Keeps tells now more number new_block new_index hashes summary (record { closed = cut.closed ++ cut.begun ∷ []; begun = [] }) es
keeps_closed tells begun now written more number block new_block index new_index hashes summary cut es keeps same wrote none indexes =
    record {
      sorted = keeps.sorted;
      whole =
          keeps.whole ∙ sym (append-nil (flat_map (λ block. block) cut.closed ++ cut.begun))
          ∙ ap (λ l. l ++ []) (sym (flat_map-append (λ block. block) cut.closed (cut.begun ∷ []) ∙ ap (λ l. flat_map (λ block. block) cut.closed ++ l) (append-nil cut.begun)));
      few = keeps.few;
      begun_is = same ∙ keeps.begun_is;
      blocks = λ told. wrote told ∙ (λ i. keeps.blocks told i ++ block_bytes (keeps.open_is i)) ∙ sym (body-push cut.closed cut.begun);
      open_is = none;
      index_is = subst (λ b. Indexes new_index (cut.closed ++ b ∷ [])) keeps.open_is indexes;
      hashes_are = keeps.hashes_are;
      sums = keeps.sums;
    }

-- what may be pushed behind the begun block
pub sorted_begun : (tells : Bool) (begun : Option ℕ) (written : List ℕ) (number : ℕ) (block : List Entry) (index : Index) (hashes : List ℕ) (summary : Summary) (cut : Cut) (es : List Entry) (e : Entry)
    → Keeps tells begun written number block index hashes summary cut es → AreSorted (es ++ e ∷ []) → AreSorted (block ++ e ∷ [])
sorted_begun tells begun written number block index hashes summary cut es e keeps sorted =
    let before = flat_map (λ (block : List Entry). block) cut.closed in
    let whole : es ++ e ∷ [] ≡ before ++ (block ++ e ∷ []) = ap (λ l. l ++ e ∷ []) keeps.whole ∙ append_assoc before cut.begun (e ∷ []) ∙ ap (λ l. before ++ (l ++ e ∷ [])) (sym keeps.open_is) in
    sorted_rest [] 0 before (block ++ e ∷ []) (subst AreSorted whole sorted)

-- the length of the index with the begun block closed
pub length-closed : (index : Index) (blocks : List (List Entry)) (es : List Entry) (key : Bytes) → Indexes index blocks → key ≡ last_key es → length (index_bytes (items_from 0 (blocks ++ es ∷ []))) ≡ index.bytes + 22 + length key
length-closed index blocks es key indexes is =
    omega (arith, ap (λ l. length (index_bytes l)) (items-push 0 blocks es), length-index-push (items_from 0 blocks) (item_of (0 + length (body_bytes blocks)) es), indexes.bytes, ap (λ l. length (index_bytes l)) indexes.items, ap length is)

-- the limits of a push that closes a block, and of one that doesn't
pub fault_closed : (full : ℕ) (es : List Entry) (e : Entry) (index : Index) (key : Bytes) → length es < 1717986918 → full ≤ length (block_bytes ((cut_of full es).begun ++ e ∷ [])) → Indexes index (cut_of full es).closed
    → key ≡ last_key ((cut_of full es).begun ++ e ∷ []) → push_fault full es e ≡ index_fault (index.bytes + 22 + length key)
fault_closed full es e index key few long indexes is =
    let cut = cut_of full es in
    let some : nat_le 1717986918 (length es) ≡ false = grind (arith, nat_tests, few) in
    ap (λ b. if b then Some (Limit kinds.Entries 1717986918) else blocks_fault (cut_of full (es ++ e ∷ [])).closed) some
    ∙ ap (λ (c : Cut). blocks_fault c.closed) (cut_closed full es e long)
    ∙ ap index_fault (length-closed index cut.closed (cut.begun ++ e ∷ []) key indexes is)

pub length-none : length (block_bytes []) ≡ 5
unfolding block_bytes entries_bytes restarts
length-none = refl

-- the limit of the last block
pub fault_last : (index : Index) (blocks : List (List Entry)) (es : List Entry) (key : Bytes) → Indexes index blocks → 0 < length es → last_key es ≡ key → blocks_fault (with_last blocks es) ≡ index_fault (index.bytes + 22 + length key)
fault_last index blocks [] key indexes some is = absurd (omega (arith, some))
fault_last index blocks (e ∷ es) key indexes some is = ap index_fault (length-closed index blocks (e ∷ es) key indexes (sym is))

-- the begun block ends with the last entry
pub ends_with : (tells : Bool) (begun : Option ℕ) (written : List ℕ) (number : ℕ) (block : List Entry) (index : Index) (hashes : List ℕ) (summary : Summary) (cut : Cut) (es : List Entry)
    → Keeps tells begun written number block index hashes summary cut es → EndsWith summary block
ends_with tells begun written number block index hashes summary cut es keeps =
    let before = flat_map (λ (block : List Entry). block) cut.closed in
    let whole : es ≡ before ++ block = keeps.whole ∙ ap (λ l. before ++ l) (sym keeps.open_is) in
    record {
      key = λ some. sym (keeps.sums.largest ∙ ap last_key whole ∙ last_key-append before block some);
      number = λ some. sym (keeps.sums.latest ∙ ap last_number whole ∙ last_number-append before block some);
    }

-- want of memory and a fault pass no limit
pub no_limit : (r : Option PutFault) (why : PutFault) → (why ≡ Memory) ⊎ (why ≡ Fault) → r ≡ None → IsRefused {T = Unit {0}} r (Err why)
no_limit r why (inl is) none = subst (λ f. IsRefused {T = Unit {0}} r (Err f)) (sym is) tt
no_limit r why (inr is) none = subst (λ f. IsRefused {T = Unit {0}} r (Err f)) (sym is) none
