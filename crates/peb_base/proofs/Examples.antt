-- The definitions on worked examples.
use Rattle.std.proofs.Common.{◌≡◌, ℕ, true, false, [], ◌∷◌, Some, None, refl}
use Rattle.peb_base.specs.Numbers.{number_of, session_of, count_of}
use Rattle.peb_base.specs.Entries.{in_order, first_from}
use Rattle.peb_base.specs.Batches.{Batches, last_number, are_in_order, is_boundary, batches_to}
use Rattle.peb_base.specs.Map.{map_at, value_at, rows, reversed_rows, Map}
use Rattle.peb_base.specs.Profiles.{Column, column}
use Rattle.peb_base.specs.Choice.{fnv_start, fnv1a, bits, level_of}
use Rattle.peb_base.specs.Tables.{table_length}
use Rattle.peb_base.specs.declared.profile.Profile.TheVariants.{Small}
use Rattle.peb_base.specs.declared.change.Change.{Change}
use Rattle.peb_base.specs.declared.change.Change.TheVariants.{Put, Delete}
use Rattle.peb_base.specs.declared.op.Op.{Op}
use Rattle.peb_base.specs.declared.entry.Entry.{Entry}

abbrev put : ℕ → ℕ → Op
put k v = record { key = k ∷ []; change = Put (v ∷ []) }

abbrev delete : ℕ → Op
delete k = record { key = k ∷ []; change = Delete }

abbrev entry : ℕ → ℕ → Change → Entry
entry k n change = record { key = k ∷ []; number = n; change = change }

-- put a 1, then one batch of put a 2, delete a, put b 3, then put c 4 in the second session
abbrev batches : Batches
batches = (number_of 1 1, put 97 49 ∷ []) ∷ (number_of 1 2, put 97 50 ∷ delete 97 ∷ put 98 51 ∷ []) ∷ (number_of 2 1, put 99 52 ∷ []) ∷ []

number_is : number_of 2 3 ≡ 2199023255555
number_is = refl

session_is : session_of 2199023255555 ≡ 2
session_is = refl

count_is : count_of 2199023255555 ≡ 3
count_is = refl

ordered : are_in_order batches ≡ true
ordered = refl

number_twice : are_in_order ((1, put 97 49 ∷ put 98 50 ∷ []) ∷ (2, put 99 51 ∷ []) ∷ []) ≡ false
number_twice = refl

last_is : last_number batches ≡ number_of 2 1
last_is = refl

boundary : is_boundary (number_of 1 4) batches ≡ true
boundary = refl

within_a_batch : is_boundary (number_of 1 3) batches ≡ false
within_a_batch = refl

first_map : map_at batches (number_of 1 1) ≡ (97 ∷ [], 49 ∷ []) ∷ []
first_map = refl

second_map : map_at batches (number_of 1 4) ≡ (98 ∷ [], 51 ∷ []) ∷ []
second_map = refl

deleted : value_at batches (number_of 1 4) (97 ∷ []) ≡ None
deleted = refl

kept : value_at batches (number_of 2 1) (98 ∷ []) ≡ Some (51 ∷ [])
kept = refl

front : batches_to (number_of 1 3) batches ≡ (number_of 1 1, put 97 49 ∷ []) ∷ []
front = refl

newest_first : in_order (entry 98 1 Delete ∷ entry 97 2 Delete ∷ entry 97 3 Delete ∷ []) ≡ entry 97 3 Delete ∷ entry 97 2 Delete ∷ entry 98 1 Delete ∷ []
newest_first = refl

abbrev abc : Map
abc = (97 ∷ [], 49 ∷ []) ∷ (98 ∷ [], 50 ∷ []) ∷ (99 ∷ [], 51 ∷ []) ∷ []

-- from a up to c, which doesn't count
rows_are : rows abc (97 ∷ []) (99 ∷ []) 10 ≡ (97 ∷ [], 49 ∷ []) ∷ (98 ∷ [], 50 ∷ []) ∷ []
rows_are = refl

-- from b on, two from the greatest key downwards
reversed_are : reversed_rows abc (98 ∷ []) [] 2 ≡ (99 ∷ [], 51 ∷ []) ∷ (98 ∷ [], 50 ∷ []) ∷ []
reversed_are = refl

abbrev small : Column
small = column Small

-- FNV-1a of the one byte a
fnv1a_of_a : fnv1a fnv_start (97 ∷ []) ≡ 0xAF63DC4C8601EC8C
fnv1a_of_a = refl

abbrev put_at : ℕ → ℕ → Entry
put_at k n = entry k n (Put (49 ∷ []))

-- o, g and c are guards of levels 1, 2 and 3, a of none
level_of_o : level_of small (111 ∷ []) ≡ Some 1
unfolding bits lib.Count.count_trailing_zeros
level_of_o = refl

level_of_g : level_of small (103 ∷ []) ≡ Some 2
unfolding bits lib.Count.count_trailing_zeros
level_of_g = refl

level_of_c : level_of small (99 ∷ []) ≡ Some 3
unfolding bits lib.Count.count_trailing_zeros
level_of_c = refl

level_of_a : level_of small (97 ∷ []) ≡ None
unfolding bits lib.Count.count_trailing_zeros
level_of_a = refl

length_of_one : table_length small (put_at 97 1 ∷ []) ≡ 111
unfolding table_length
length_of_one = refl

length_of_two : table_length small (put_at 97 1 ∷ put_at 98 2 ∷ []) ≡ 130
unfolding table_length
length_of_two = refl

length_of_three : table_length small (put_at 97 1 ∷ put_at 98 2 ∷ put_at 99 3 ∷ []) ≡ 149
unfolding table_length
length_of_three = refl

-- two entries of one key
length_of_a_key_twice : table_length small (put_at 97 2 ∷ put_at 97 1 ∷ []) ≡ 129
unfolding table_length
length_of_a_key_twice = refl

length_of_four : table_length small (put_at 97 2 ∷ put_at 97 1 ∷ put_at 98 3 ∷ put_at 99 4 ∷ []) ≡ 167
unfolding table_length
length_of_four = refl

-- a seek at a key goes to its newest entry, or to the first one behind
first_of_b : first_from (98 ∷ []) 3 (put_at 97 2 ∷ put_at 98 4 ∷ put_at 98 3 ∷ put_at 99 1 ∷ []) ≡ 2
first_of_b = refl
