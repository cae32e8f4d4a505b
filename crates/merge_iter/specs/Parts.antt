-- Entries that are those of several lists.
use Rattle.std.specs.Prelude.{◌≡◌, ℕ, ◌<◌, List}
use Rattle.peb_base.specs.Entries.{AreSorted}
use Rattle.peb_base.specs.Members.{IsIn}
use Rattle.peb_base.specs.declared.entry.Entry.{Entry}

-- the sorted entries are those of so many lists, no two of which have one in common
pub record AreParts (es : List Entry) (count : ℕ) (part : ℕ → List Entry) : Type 0 where
  pub sorted : AreSorted es
  pub to : (x : Entry) → IsIn x es → (k : ℕ) × (k < count) × IsIn x (part k)
  pub from : (k : ℕ) (x : Entry) → k < count → IsIn x (part k) → IsIn x es
  pub apart : (j k : ℕ) (x : Entry) → j < count → k < count → IsIn x (part j) → IsIn x (part k)
      → j ≡ k
