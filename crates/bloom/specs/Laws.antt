-- What the laws of filters say.
use Rattle.std.specs.Prelude.{◌≡◌, ℕ, ◌*◌, ◌<◌, Bool, true, List, [], ◌∷◌, ◌++◌, length, Contains}
use Rattle.peb_base.specs.Keys.{AreBytes}
use Rattle.peb_base.specs.Tables.{filter_length}
use Rattle.bloom.specs.Bits.{bit, bytes_of}
use Rattle.bloom.specs.Filter.{may_hold, with_hash, filter_of}

-- bytes whose bits are set where a test says have exactly these bits
abbrev pub BitsAreRead : Type 0
BitsAreRead = (len : ℕ) (test : ℕ → Bool) (j : ℕ) → j < 8 * len → bit (bytes_of len test) j ≡ test j

-- no other bytes of this length have the same bits
abbrev pub BitsDecide : Type 0
BitsDecide = (a b : List ℕ) → AreBytes a → AreBytes b → length a ≡ length b
    → ((j : ℕ) → j < 8 * length a → bit a j ≡ bit b j) → a ≡ b

-- a hash that is added may be held
abbrev pub AddedIsHeld : Type 0
AddedIsHeld = (bytes : List ℕ) (hash : ℕ) → 0 < length bytes
    → may_hold (with_hash bytes hash) hash ≡ true

-- what may be held may be held after any hash is added
abbrev pub HeldStays : Type 0
HeldStays = (bytes : List ℕ) (hash more : ℕ) → 0 < length bytes → may_hold bytes hash ≡ true
    → may_hold (with_hash bytes more) hash ≡ true

-- adding one more hash gives the filter of one more hash
abbrev pub FilterGrows : Type 0
FilterGrows = (count : ℕ) (hashes : List ℕ) (hash : ℕ)
    → with_hash (filter_of count hashes) hash ≡ filter_of count (hashes ++ hash ∷ [])

-- a filter has the length for its count of entries
abbrev pub FilterIsLong : Type 0
FilterIsLong = (count : ℕ) (hashes : List ℕ) → length (filter_of count hashes) ≡ filter_length count

-- every hash of a filter may be held
abbrev pub AllAreHeld : Type 0
AllAreHeld = (count : ℕ) (hashes : List ℕ) (hash : ℕ) → Contains hashes hash
    → may_hold (filter_of count hashes) hash ≡ true
