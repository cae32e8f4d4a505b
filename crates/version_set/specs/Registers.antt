-- The numbers that clients hold.
use Rattle.std.specs.Prelude.{◌≡◌, Bool, ℕ, ◌*◌, ◌≤◌, ◌<◌, ◌&&◌, ◌||◌, nat_lt, ◌==◌, if◌then◌else◌, ◌⊎◌, List}
use Rattle.std.specs.List.{AllByRecursion}
use Rattle.peb_base.specs.Members.{IsIn}
use Rattle.flsm_model.specs.Legal.{holds_of}

-- clients are numbered up to 16, and each holds at most 64 numbers
pub record IsRegister (held : List (ℕ × ℕ)) : Type 0 where
  pub clients : AllByRecursion (λ h. h.0 ≤ 16) held
  pub few : (client : ℕ) → holds_of client held ≤ 64

-- a register with room for all that clients may hold
pub record HasRoom (held : List (ℕ × ℕ)) (room : ℕ) : Type 0 where
  pub register : IsRegister held
  pub room_for_all : 17 * 64 ≤ room

-- the first pair comes no later than the second, by client, then by number
abbrev pub ComesFirst : ℕ × ℕ → ℕ × ℕ → Type 0
ComesFirst a b = (a.0 < b.0) ⊎ ((a.0 ≡ b.0) × (a.1 ≤ b.1))

-- the pair is held, and none that is comes before it
pub record IsFirstHeld (pair : ℕ × ℕ) (held : List (ℕ × ℕ)) : Type 0 where
  pub among : IsIn pair held
  pub least : (other : ℕ × ℕ) → IsIn other held → ComesFirst pair other

-- the pairs are the same
abbrev pub is_pair : ℕ × ℕ → ℕ × ℕ → Bool
is_pair a b = a.0 == b.0 && a.1 == b.1

-- the one of two pairs that comes first
abbrev pub earlier : ℕ × ℕ → ℕ × ℕ → ℕ × ℕ
earlier a b = if nat_lt b.0 a.0 || (b.0 == a.0 && nat_lt b.1 a.1) then b else a
