-- Places in sorted entries by a test that holds of the first ones.
use Rattle.std.specs.Prelude.{◌≡◌, ℕ, suc, Bool, true, false, not, if◌then◌else◌, List, [], ◌∷◌, Option, Some}
use Rattle.peb_base.specs.Cursors.{place_in, previous_place}
use Rattle.peb_base.specs.Entries.{comes_before, entry_lt}
use Rattle.peb_base.specs.Keys.{Bytes}
use Rattle.peb_base.specs.declared.entry.Entry.{Entry}

-- of how many first entries the test holds
abbrev pub passed : (Entry → Bool) → List Entry → ℕ
passed cut [] = 0
passed cut (e ∷ es) = if cut e then suc (passed cut es) else 0

-- where a cut leaves a walk on: at the first entry of which the test doesn't hold; where it leaves a
-- walk back: at the last of which it does
abbrev pub beside : Bool → (Entry → Bool) → List Entry → Option ℕ
beside false cut es = place_in es (passed cut es)
beside true cut es = previous_place (Some (passed cut es))

-- a test that holds of an entry holds of all that don't come behind it
abbrev pub Falls : (Entry → Bool) → Type 0
Falls cut = (a b : Entry) → entry_lt b a ≡ false → cut b ≡ true → cut a ≡ true

-- what comes before an entry
abbrev pub before : Entry → Entry → Bool
before e x = entry_lt x e

-- what doesn't come behind an entry
abbrev pub upto : Entry → Entry → Bool
upto e x = not (entry_lt e x)

-- what comes before a key and number
abbrev pub below : Bytes → ℕ → Entry → Bool
below key number x = comes_before x.key x.number key number

-- what a walk in this direction has behind it at an entry; together with the entry itself it is what one in
-- the other direction has in front of it
abbrev pub side_of : Bool → Entry → Entry → Bool
side_of false e = before e
side_of true e = upto e
