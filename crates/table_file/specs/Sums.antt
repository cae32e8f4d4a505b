-- What is kept of the entries that were written, for their row.
use Rattle.std.specs.Prelude.{◌≡◌, ℕ, ◌-◌, ◌^◌, ◌<◌, min, List, [], ◌∷◌, length}
use Rattle.peb_base.specs.Tables.{first_key, last_key, greatest_number, raw_length}
use Rattle.peb_base.specs.declared.entry.Entry.{Entry}
use Rattle.table_file.specs.Form.{last_number}
use Rattle.table_file.specs.declared.summary.Summary.{Summary}

-- the least number of these and of u64's greatest
abbrev pub least_below : List Entry → ℕ
least_below [] = 2 ^ 64 - 1
least_below (e ∷ es) = min e.number (least_below es)

-- the counts, sums and keys are those of these entries
pub record Sums (s : Summary) (es : List Entry) : Type 0 where
  pub entries : s.entries ≡ length es
  pub raw : s.raw ≡ raw_length es
  pub first : s.first ≡ least_below es
  pub last : s.last ≡ greatest_number es
  pub smallest : s.smallest ≡ first_key es
  pub largest : s.largest ≡ last_key es
  pub latest : s.latest ≡ last_number es

-- the block, unless it is empty, ends with the last entry
pub record EndsWith (s : Summary) (block : List Entry) : Type 0 where
  pub key : 0 < length block → last_key block ≡ s.largest
  pub number : 0 < length block → last_number block ≡ s.latest
