-- One block more in an index.
use Rattle.std.proofs.Common.{◌≡◌, ℕ, ◌+◌, List, [], ◌∷◌, ◌++◌, length, ap, ◌∙◌, arith, length-append}
use Rattle.std.specs.List.{flat_map}
use Rattle.std.proofs.lemmas.List.{append-nil}
use Rattle.std.proofs.lemmas.List.Concat.{flat_map-append}
use Rattle.peb_base.specs.declared.entry.Entry.{Entry}
use Rattle.block_form.specs.Form.{block_bytes}
use Rattle.table_file.specs.Form.{item_of, items_from, item_bytes, index_bytes, body_bytes}
use Rattle.table_file.specs.declared.index_item.IndexItem.{IndexItem}

-- the items of one block more
pub items-push : (place : ℕ) (blocks : List (List Entry)) (es : List Entry) → items_from place (blocks ++ es ∷ []) ≡ items_from place blocks ++ item_of (place + length (body_bytes blocks)) es ∷ []
items-push place [] es = let here : place ≡ place + 0 = omega arith in ap (λ n. item_of n es ∷ []) here
items-push place (fs ∷ blocks) es =
    let there : place + length (block_bytes fs) + length (body_bytes blocks) ≡ place + length (body_bytes (fs ∷ blocks)) = omega (arith, length-append (block_bytes fs) (body_bytes blocks)) in
    ap (λ l. item_of place fs ∷ l) (items-push (place + length (block_bytes fs)) blocks es ∙ ap (λ n. items_from (place + length (block_bytes fs)) blocks ++ item_of n es ∷ []) there)

pub body-push : (blocks : List (List Entry)) (es : List Entry) → body_bytes (blocks ++ es ∷ []) ≡ body_bytes blocks ++ block_bytes es
body-push blocks es = flat_map-append block_bytes blocks (es ∷ []) ∙ ap (λ l. body_bytes blocks ++ l) (append-nil (block_bytes es))

pub length-item : (item : IndexItem) → length (item_bytes item) ≡ 22 + length item.key
unfolding item_bytes
length-item item = omega (arith, length-append {A = ℕ})

-- the length of the index with one item more
pub length-index-push : (items : List IndexItem) (item : IndexItem) → length (index_bytes (items ++ item ∷ [])) ≡ length (index_bytes items) + 22 + length item.key
length-index-push items item =
    omega (arith, length-append (flat_map item_bytes items) (flat_map item_bytes (item ∷ [])), ap length (flat_map-append item_bytes items (item ∷ [])), ap length (append-nil (item_bytes item)), length-item item)
