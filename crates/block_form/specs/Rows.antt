-- Worked values: the block of one put, and what it reads as.
use Rattle.std.specs.Prelude.{◌≡◌, [], ◌∷◌, refl, length}
use Rattle.peb_base.specs.declared.change.Change.TheVariants.{Put, Delete}
use Rattle.peb_base.specs.declared.entry.Entry.{Entry}
use Rattle.block_form.specs.Parts.{head_bytes, parts_bytes}
use Rattle.block_form.specs.Form.{entry_bytes, entries_bytes, restarts, block_bytes}

abbrev one : Entry
one = record { key = 97 ∷ []; number = 1099511627777; change = Put (49 ∷ []) }

block_of_one : block_bytes (one ∷ [])
    ≡ 0 ∷ 0 ∷ 0 ∷ 0 ∷ 1 ∷ 0 ∷ 0 ∷ 1 ∷ 0 ∷ 0 ∷ 0 ∷ 0 ∷ 1 ∷ 1 ∷ 0 ∷ 0 ∷ 0 ∷ 1 ∷ 97 ∷ 49 ∷ 0 ∷ 0 ∷ 0 ∷ 1 ∷ 0 ∷ 0 ∷ 0 ∷ 1 ∷ []
unfolding block_bytes entries_bytes restarts entry_bytes parts_bytes head_bytes
block_of_one = refl

-- the second key shares one byte
block_of_two : length
    (block_bytes (record { key = 97 ∷ 98 ∷ []; number = 2; change = Put (49 ∷ []) } ∷ record {
      key =
          97 ∷ 99 ∷ [];
      number = 1;
      change = Delete;
    } ∷ [])) ≡ 47
unfolding block_bytes entries_bytes restarts entry_bytes parts_bytes head_bytes
block_of_two = refl
