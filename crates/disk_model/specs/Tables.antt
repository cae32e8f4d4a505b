-- What ports, makers and devices tell of tables.
use Rattle.std.specs.Prelude.{◌≡◌, ◌⊎◌, ℕ, ◌+◌, ◌-◌, ◌^◌, ◌≤◌, ◌==◌, min, Bool, ◌||◌, IsTrue, List, [], ◌∷◌, ◌++◌, length, take, Option, None, Some, is_some, if◌then◌else◌}
use Rattle.std.specs.List.{list_any}
use Rattle.std.specs.List.Sorted.{IsStrictlyIncreasing}

-- the number is one of these
abbrev pub is_among : List ℕ → ℕ → Bool
is_among numbers n = list_any (λ m. m == n) numbers

-- a count that stays at 2^64 - 1 once it is there
abbrev pub capped : ℕ → ℕ
capped n = min n (2 ^ 64 - 1)

-- sealed tables by number, with their bytes
abbrev pub Sealed : Type 0
Sealed = ℕ → Option (List ℕ)

-- the sealed tables with one more, in place of any of its number
abbrev pub with_table : ℕ → List ℕ → Sealed → Sealed
with_table number bytes sealed n = if n == number then Some bytes else sealed n

-- the table files that are there: the sealed ones, and those that were begun and not sealed
pub record TableFiles : Type 0 where
  pub sealed : Sealed
  pub is_unsealed : ℕ → Bool

-- a table file of this number is there
abbrev pub is_listed : TableFiles → ℕ → Bool
is_listed files n = is_some (files.sealed n) || files.is_unsealed n

-- the numbers of all table files that are there, ascending
pub record Lists (files : TableFiles) (numbers : List ℕ) : Type 0 where
  pub ascending : IsStrictlyIncreasing numbers
  pub complete : (n : ℕ) → is_among numbers n ≡ is_listed files n

-- the numbers of tables that were retired and that were removed, the earliest first
pub record Gone : Type 0 where
  pub retired : List ℕ
  pub removed : List ℕ

-- nothing was retired or removed
abbrev pub none_gone : Gone
none_gone = record { retired = []; removed = [] }

-- the numbers with one more that was retired
abbrev pub with_retired : ℕ → Gone → Gone
with_retired number gone = record gone { retired = gone.retired ++ number ∷ [] }

-- the numbers with one more that was removed
abbrev pub with_removed : ℕ → Gone → Gone
with_removed number gone = record gone { removed = gone.removed ++ number ∷ [] }

-- the numbers of both, those of the first before those of the second
abbrev pub joined : Gone → Gone → Gone
joined first second =
    record { retired = first.retired ++ second.retired; removed = first.removed ++ second.removed }

-- the table of this number was retired or removed
abbrev pub is_gone : Gone → ℕ → Bool
is_gone gone n = is_among gone.retired n || is_among gone.removed n

-- a table has its bytes, or was retired or removed and isn't there
abbrev pub StaysOrGoes : Gone → ℕ → Option (List ℕ) → Option (List ℕ) → Type 0
StaysOrGoes gone n bytes now = (now ≡ bytes) ⊎ (IsTrue (is_gone gone n) × (now ≡ None))

-- A crash may leave these tables: each that was sealed keeps its bytes, but one that was retired or
-- removed may be there or not.
abbrev pub IsTableImage : Sealed → Gone → Sealed → Type 0
IsTableImage kept gone image = (n : ℕ) → StaysOrGoes gone n (kept n) (image n)

-- a write that failed took some first bytes, or none: those are counted, and stand after the
-- earlier ones
pub record TakesSome (tells : Bool) (bytes : List ℕ) (taken0 taken : ℕ)
    (written0 written : List ℕ) : Type 0 where
  pub count : ℕ
  pub within : count ≤ length bytes
  pub counted : taken ≡ capped (taken0 + count)
  pub stand : IsTrue tells → written ≡ written0 ++ take count bytes

-- what the ports and makers that were handed back did: their reads, the bytes they took, and the
-- numbers they retired and removed
pub record Tally : Type 0 where
  pub reads : ℕ
  pub taken : ℕ
  pub gone : Gone

-- nothing was done
abbrev pub no_tally : Tally
no_tally = record { reads = 0; taken = 0; gone = none_gone }

-- with the reads of one port more
abbrev pub with_port : ℕ → Tally → Tally
with_port reads tally = record tally { reads = capped (tally.reads + reads) }

-- with the bytes and the numbers of one maker more
abbrev pub with_maker : ℕ → Gone → Tally → Tally
with_maker taken gone tally =
    record tally { taken = capped (tally.taken + taken); gone = joined tally.gone gone }
