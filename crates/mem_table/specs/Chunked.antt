-- Entries in chunks.
use Rattle.std.specs.Prelude.{ℕ, suc, ◌<◌, ◌≤◌, if◌then◌else◌, List, [], ◌∷◌, length, flat_map}
use Rattle.std.specs.List.{AllByRecursion}
use Rattle.peb_base.specs.Keys.{Bytes}
use Rattle.peb_base.specs.Entries.{AreSorted}
use Rattle.peb_base.specs.SortedParts.{all_before}
use Rattle.peb_base.specs.declared.entry.Entry.{Entry}

-- the entries of chunks, one chunk after another
abbrev pub joined : List (List Entry) → List Entry
joined chunks = flat_map (λ chunk. chunk) chunks

-- the index of the first chunk that has an entry at or behind this key and number, or the number of chunks
abbrev pub chunk_from : Bytes → ℕ → List (List Entry) → ℕ
chunk_from key number [] = 0
chunk_from key number (c ∷ cs) =
    if all_before key number c then suc (chunk_from key number cs) else 0

-- each has an entry
abbrev pub HaveEntries : List (List Entry) → Type 0
HaveEntries chunks = AllByRecursion (λ c. 0 < length c) chunks

-- 1 to 128 sorted entries
pub record IsChunk (es : List Entry) : Type 0 where
  pub sorted : AreSorted es
  pub some : 0 < length es
  pub few : length es ≤ 128

-- one chunk or more with some entries each, which are sorted
pub record IsChunked (chunks : List (List Entry)) : Type 0 where
  pub some : 0 < length chunks
  pub sorted : AreSorted (joined chunks)
  pub each : HaveEntries chunks
