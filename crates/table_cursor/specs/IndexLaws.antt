-- What an index tells in front of a block.
use Rattle.std.proofs.Common.{◌≡◌, ℕ, zero, suc, ◌-◌, ◌<◌, ◌∙◌, List, [], ◌∷◌, length, Some, sym, ap, arith}
use Rattle.std.specs.Prelude.{slice_get}
use Rattle.peb_base.specs.Keys.{Bytes}
use Rattle.table_file.specs.declared.index_item.IndexItem.{IndexItem}
use Rattle.table_cursor.specs.Agreeing.{key_before, number_before}

pub item_is : (a b : IndexItem) → Some a ≡ Some b → a ≡ b
item_is a b same = cc

-- behind the first item stand its key and its number
pub before_at : (key : Bytes) (number : ℕ) (items : List IndexItem) (n : ℕ) (item : IndexItem)
    → slice_get items n ≡ Some item → (key_before key (suc n) items ≡ item.key)
    × (number_before number (suc n) items ≡ item.number)
before_at key number [] n item there = cc
before_at key number (x ∷ items) zero item there = let same =
    item_is x item there in
    (ap (λ (x : IndexItem). x.key) same, ap (λ (x : IndexItem). x.number) same)
before_at key number (x ∷ items) (suc n) item there = before_at x.key x.number items n item there

-- the same at an index that isn't 0
pub before_index : (key : Bytes) (number : ℕ) (items : List IndexItem) (n : ℕ) (item : IndexItem)
    → 0 < n → slice_get items (n - 1) ≡ Some item → (key_before key n items ≡ item.key)
    × (number_before number n items ≡ item.number)
before_index key number items zero item some there = absurd (omega (arith, some))
before_index key number items (suc n) item some there =
    let one : suc n - 1 ≡ n = omega arith in
    before_at key number items n item (sym (ap (slice_get items) one) ∙ there)

pub get_inside : {A : Type 0} (xs : List A) (n : ℕ) (x : A) → slice_get xs n ≡ Some x
    → n < length xs
get_inside [] n x there = cc
get_inside (y ∷ xs) zero x there = omega arith
get_inside (y ∷ xs) (suc n) x there = omega (arith, get_inside xs n x there)
