-- Worked values.
use Rattle.std.specs.Prelude.{◌≡◌, ℕ, [], ◌∷◌, refl, length, take, drop}
use Rattle.peb_base.specs.Choice.{mixed}
use Rattle.peb_base.specs.declared.change.Change.TheVariants.{Put}
use Rattle.peb_base.specs.declared.entry.Entry.{Entry}
use Rattle.block_form.specs.Parts.{head_bytes, parts_bytes}
use Rattle.block_form.specs.Form.{entry_bytes, entries_bytes, restarts, block_bytes}
use Rattle.bloom.specs.Bits.{bytes_of, number_of}
use Rattle.bloom.specs.Filter.{is_probe}
use Rattle.table_file.specs.Form.{table_bytes, blocks_table, item_bytes, footer_bytes}

abbrev put : ℕ → ℕ → Entry
put k n = record { key = k ∷ []; number = n; change = Put (49 ∷ []) }

length_1 : length (table_bytes 256 1099511627777 (put 97 1099511627777 ∷ [])) ≡ 111
unfolding blocks_table item_bytes footer_bytes bytes_of number_of is_probe block_bytes entries_bytes restarts entry_bytes parts_bytes head_bytes mixed
length_1 = refl

length_2 : length (table_bytes 256 1 (put 97 1 ∷ put 98 2 ∷ [])) ≡ 130
unfolding blocks_table item_bytes footer_bytes bytes_of number_of is_probe block_bytes entries_bytes restarts entry_bytes parts_bytes head_bytes mixed
length_2 = refl

length_3 : length (table_bytes 256 1 (put 97 1 ∷ put 98 2 ∷ put 99 3 ∷ [])) ≡ 149
unfolding blocks_table item_bytes footer_bytes bytes_of number_of is_probe block_bytes entries_bytes restarts entry_bytes parts_bytes head_bytes mixed
length_3 = refl

length_129 : length (table_bytes 256 1 (put 97 2 ∷ put 97 1 ∷ [])) ≡ 129
unfolding blocks_table item_bytes footer_bytes bytes_of number_of is_probe block_bytes entries_bytes restarts entry_bytes parts_bytes head_bytes mixed
length_129 = refl

length_167 : length (table_bytes 256 1 (put 97 2 ∷ put 97 1 ∷ put 98 3 ∷ put 99 4 ∷ [])) ≡ 167
unfolding blocks_table item_bytes footer_bytes bytes_of number_of is_probe block_bytes entries_bytes restarts entry_bytes parts_bytes head_bytes mixed
length_167 = refl

-- the index of the table of one put
index_1 : take 27 (drop 28 (table_bytes 256 1099511627777 (put 97 1099511627777 ∷ [])))
    ≡ 0 ∷ 0 ∷ 0 ∷ 1 ∷ 0 ∷ 0 ∷ 0 ∷ 0 ∷ 0 ∷ 0 ∷ 0 ∷ 0 ∷ 0 ∷ 0 ∷ 0 ∷ 28 ∷ 0 ∷ 1 ∷ 97 ∷ 0 ∷ 0 ∷ 1 ∷ 0 ∷ 0 ∷ 0 ∷ 0 ∷ 1 ∷ []
unfolding blocks_table item_bytes footer_bytes bytes_of number_of is_probe block_bytes entries_bytes restarts entry_bytes parts_bytes head_bytes mixed
index_1 = refl

-- its footer
footer_1 : drop 63 (table_bytes 256 1099511627777 (put 97 1099511627777 ∷ []))
    ≡ 0 ∷ 0 ∷ 1 ∷ 0 ∷ 0 ∷ 0 ∷ 0 ∷ 1 ∷ 0 ∷ 0 ∷ 0 ∷ 0 ∷ 0 ∷ 0 ∷ 0 ∷ 28 ∷ 0 ∷ 0 ∷ 0 ∷ 27 ∷ 0 ∷ 0 ∷ 0 ∷ 0 ∷ 0 ∷ 0 ∷ 0 ∷ 55 ∷ 0 ∷ 0 ∷ 0 ∷ 8 ∷ 0 ∷ 0 ∷ 0 ∷ 0 ∷ 0 ∷ 0 ∷ 0 ∷ 1 ∷ 70 ∷ 76 ∷ 83 ∷ 77 ∷ 84 ∷ 65 ∷ 66 ∷ 49 ∷ []
unfolding blocks_table item_bytes footer_bytes bytes_of number_of is_probe block_bytes entries_bytes restarts entry_bytes parts_bytes head_bytes mixed
footer_1 = refl
