-- Batches and the numbers of their operations.
use Rattle.std.specs.Prelude.{ℕ, suc, ◌+◌, ◌-◌, max, Bool, true, ◌&&◌, ◌||◌, if◌then◌else◌, List, [], ◌∷◌, ◌++◌, length, nat_lt, nat_le, ◌==◌}
use Rattle.peb_base.specs.Numbers.{session_of}
use Rattle.peb_base.specs.declared.op.Op.{Op}
use Rattle.peb_base.specs.declared.entry.Entry.{Entry}

-- batches, each with the number of its first operation
abbrev pub Batches : Type 0
Batches = List (ℕ × List Op)

-- the entries of one batch: its operations, numbered from first
abbrev pub numbered : ℕ → List Op → List Entry
numbered first [] = []
numbered first (op ∷ ops) =
    record { key = op.key; number = first; change = op.change } ∷ numbered (suc first) ops

-- all operations with their numbers, in their order
abbrev pub entries_of : Batches → List Entry
entries_of [] = []
entries_of (b ∷ bs) = numbered b.0 b.1 ++ entries_of bs

-- the greatest number, or 0
abbrev pub last_number : Batches → ℕ
last_number [] = 0
last_number (b ∷ bs) = max (b.0 + length b.1 - 1) (last_number bs)

-- each first number is above low and above all numbers before it, no batch
-- is empty, and each lies in one session
abbrev pub ordered_above : ℕ → Batches → Bool
ordered_above low [] = true
ordered_above low (b ∷ bs) =
    nat_lt low b.0 && nat_lt 0 (length b.1) && session_of b.0 == session_of (b.0 + length b.1 - 1)
    && ordered_above (b.0 + length b.1 - 1) bs

-- numbers rise through the batches
abbrev pub are_in_order : Batches → Bool
are_in_order bs = ordered_above 0 bs

-- 0 or the last number of a batch
abbrev pub is_boundary : ℕ → Batches → Bool
is_boundary n [] = n == 0
is_boundary n (b ∷ bs) = n == b.0 + length b.1 - 1 || is_boundary n bs

-- the batches whose numbers are all at most n
abbrev pub batches_to : ℕ → Batches → Batches
batches_to n [] = []
batches_to n (b ∷ bs) =
    if nat_le (b.0 + length b.1 - 1) n then b ∷ batches_to n bs else batches_to n bs
