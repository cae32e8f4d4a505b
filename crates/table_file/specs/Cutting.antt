-- The blocks of a table, told by what each is: the law that entries are cut in no other way.
use Rattle.std.specs.Prelude.{◌≡◌, ℕ, ◌<◌, ◌≤◌, List, [], ◌∷◌, ◌++◌, length}
use Rattle.std.specs.List.{flat_map}
use Rattle.peb_base.specs.declared.entry.Entry.{Entry}
use Rattle.block_form.specs.Form.{block_bytes}
use Rattle.table_file.specs.Form.{blocks_of}

-- the block has an entry, and before its last one it wasn't full at this length
pub record IsUnfilled (full : ℕ) (block : List Entry) : Type 0 where
  pub some : 0 < length block
  pub before : (front : List Entry) (e : Entry) (behind : List Entry) → block ≡ front ++ e ∷ behind
      → length (block_bytes front) < full

-- no block was full before its last entry, and each but the last is full
abbrev pub AreFilled : ℕ → List (List Entry) → Type 0
AreFilled full [] = Unit {0}
AreFilled full (b ∷ []) = IsUnfilled full b
AreFilled full (b ∷ c ∷ blocks) =
    IsUnfilled full b × (full ≤ length (block_bytes b)) × AreFilled full (c ∷ blocks)

-- one after another the blocks have these entries, none was full before its
-- last entry, and each but the last is full
pub record AreCutAt (full : ℕ) (blocks : List (List Entry)) (es : List Entry) : Type 0 where
  pub whole : flat_map (λ block. block) blocks ≡ es
  pub filled : AreFilled full blocks

-- the blocks of a table are cut so
abbrev pub BlocksAreCut : Type 0
BlocksAreCut = (full : ℕ) (es : List Entry) → 5 < full → AreCutAt full (blocks_of full es) es

-- and no others are
abbrev pub OneCut : Type 0
OneCut = (full : ℕ) (blocks : List (List Entry)) (es : List Entry) → 5 < full
    → AreCutAt full blocks es → blocks ≡ blocks_of full es
