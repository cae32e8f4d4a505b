-- Entries whose key and value lie in one list of bytes.
use Rattle.std.specs.Prelude.{◌≡◌, ℕ, ◌≤◌, Bool, false, if◌then◌else◌, List, length, take, drop}
use Rattle.peb_base.specs.declared.change.Change.TheVariants.{Put, Delete}
use Rattle.peb_base.specs.declared.entry.Entry.{Entry}

-- the entry whose key are the first so many of these bytes, and whose value are the others
abbrev pub held_entry : List ℕ → ℕ → ℕ → Bool → Entry
held_entry bytes key_length number is_put = record {
  key = take key_length bytes;
  number = number;
  change = if is_put then Put (drop key_length bytes) else Delete;
}

-- the key lies among the bytes, and a deletion has no others
pub record IsHeld (bytes : List ℕ) (key_length : ℕ) (is_put : Bool) : Type 0 where
  pub within : key_length ≤ length bytes
  pub deletion : is_put ≡ false → length bytes ≡ key_length
