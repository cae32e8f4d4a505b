-- The newest entry of a key at or below a number is the first one that doesn't come before it, where that has the key.
use Rattle.std.proofs.Common.{◌≡◌, ℕ, suc, ◌<◌, ◌≤◌, ◌∙◌, Bool, true, false, ◌&&◌, not, List, [], ◌∷◌, length, Some, None, refl, sym, ap, subst}
use Rattle.std.specs.Prelude.{slice_get, nat_le, if◌then◌else◌}
use Rattle.std.proofs.lemmas.Option.{slice_get_past}
use Rattle.std.proofs.lemmas.Bool.{and_parts, leb-true, not-true, true≢false}
use Rattle.peb_base.specs.Entries.{AreSorted, first_from}
use Rattle.peb_base.specs.KeyLaws.{same_key, key_self, other_key}
use Rattle.peb_base.specs.Keys.{Bytes, key_eq}
use Rattle.peb_base.specs.SortedParts.{find_is, with_key}
use Rattle.peb_base.specs.declared.entry.Entry.{Entry}
use Rattle.table_file.specs.Blocks.{AreBlocks}
use Rattle.table_file.specs.Form.{items_from}
use Rattle.table_file.specs.Items.{index_for}
use Rattle.table_cursor.specs.Looking.{newest_of}
use Rattle.table_cursor.specs.Places.{among}
use Rattle.table_cursor.specs.Standing.{joined}
use Rattle.table_cursor.proofs.Finding.{found_in_block}
use Rattle.table_cursor.proofs.Moves.{block_form}

wanted : Bytes → ℕ → Entry → Bool
wanted key number e = key_eq e.key key && nat_le e.number number

-- what is found at the first entry that doesn't come before
pub found_there : (key : Bytes) (number : ℕ) (es : List Entry) (e : Entry) → AreSorted es → slice_get es (first_from key number es) ≡ Some e → e.key ≡ key → Some e ≡ newest_of key number es
found_there key number es e sorted there same =
    sym (find_is key number [] 0 es sorted ∙ ap (with_key key) there ∙ ap (λ (b : Bool). if b then Some e else None) (subst (λ k. key_eq e.key k ≡ true) same (key_self e.key)))

pub other_there : (key : Bytes) (number : ℕ) (es : List Entry) (e : Entry) → AreSorted es → slice_get es (first_from key number es) ≡ Some e → (e.key ≡ key → ⊥) → None ≡ newest_of key number es
other_there key number es e sorted there differ =
    sym (find_is key number [] 0 es sorted ∙ ap (with_key key) there ∙ ap (λ (b : Bool). if b then Some e else None) (other_key e.key key differ))

pub none_there : (key : Bytes) (number : ℕ) (es : List Entry) → AreSorted es → length es ≤ first_from key number es → None ≡ newest_of key number es
none_there key number es sorted past = sym (find_is key number [] 0 es sorted ∙ ap (with_key key) (slice_get_past es (first_from key number es) past))

-- what is found is of the key, at or below the number, and one of the entries
pub newest_is : (key : Bytes) (number : ℕ) (es : List Entry) (e : Entry) → newest_of key number es ≡ Some e → (e.key ≡ key) × (e.number ≤ number) × ((place : ℕ) × (slice_get es place ≡ Some e))
unfolding wanted
newest_is key number [] e is = cc
newest_is key number (x ∷ es) e is = by (wanted key number x) refl is (newest_is key number es e)
  where
    entry_is : (a b : Entry) → Some a ≡ Some b → a ≡ b
    entry_is a b same = cc

    by : (b : Bool) → wanted key number x ≡ b → (if b then Some x else newest_of key number es) ≡ Some e → (newest_of key number es ≡ Some e → (e.key ≡ key) × (e.number ≤ number) × ((place : ℕ) × (slice_get es place ≡ Some e)))
        → (e.key ≡ key) × (e.number ≤ number) × ((place : ℕ) × (slice_get (x ∷ es) place ≡ Some e))
    by true test same ih =
        let parts = and_parts (key_eq x.key key) (nat_le x.number number) test in
        subst (λ (z : Entry). (z.key ≡ key) × (z.number ≤ number) × ((place : ℕ) × (slice_get (x ∷ es) place ≡ Some z))) (entry_is x e same)
        (same_key x.key key parts.0, leb-true x.number number parts.1, (0, refl))
    by false test same ih = let deep = ih same in (deep.0, deep.1, (suc deep.2.0, deep.2.1))

-- in a table, the block that the index gives has it
pub in_block : (key : Bytes) (number : ℕ) (blocks : List (List Entry)) (block : List Entry) → AreSorted (joined blocks) → AreBlocks blocks → slice_get blocks (index_for key number (items_from 0 blocks)) ≡ Some block
    → first_from key number block < length block → newest_of key number (joined blocks) ≡ newest_of key number block
in_block key number blocks block sorted are there lt =
    let index = index_for key number (items_from 0 blocks) in
    let spot = among blocks index block there in
    let found = found_in_block [] 0 0 key number blocks block sorted are there in
    let own : AreSorted block = (block_form blocks index block are there).each in
    find_is key number [] 0 (joined blocks) sorted
    ∙ ap (λ n. with_key key (slice_get (joined blocks) n)) found
    ∙ ap (with_key key) (spot.entry (first_from key number block) lt)
    ∙ sym (find_is key number [] 0 block own)

-- what a test of two keys tells
pub keys_differ : (a b : Bytes) → not (key_eq a b) ≡ true → a ≡ b → ⊥
keys_differ a b differ same = true≢false (sym (subst (λ k. key_eq a k ≡ true) same (key_self a)) ∙ not-true (key_eq a b) differ)

pub keys_same : (a b : Bytes) → not (key_eq a b) ≡ false → a ≡ b
keys_same a b same = same_key a b (by (key_eq a b) refl)
  where
    by : (t : Bool) → key_eq a b ≡ t → key_eq a b ≡ true
    by true e = e
    by false e = absurd (true≢false (sym (ap not e) ∙ same))
