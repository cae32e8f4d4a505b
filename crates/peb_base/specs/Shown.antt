-- What entries show at a number, as rows.
use Rattle.std.specs.Prelude.{ℕ, not, List, [], ◌∷◌, filter, flat_map, nat_le}
use Rattle.peb_base.specs.Keys.{Bytes, key_eq}
use Rattle.peb_base.specs.Entries.{in_order}
use Rattle.peb_base.specs.Map.{Map}
use Rattle.peb_base.specs.declared.change.Change.{Change}
use Rattle.peb_base.specs.declared.change.Change.TheVariants.{Put, Delete}
use Rattle.peb_base.specs.declared.entry.Entry.{Entry}

-- the first entry of each key
abbrev pub firsts : List Entry → List Entry
firsts [] = []
firsts (e ∷ es) = e ∷ filter (λ f. not (key_eq f.key e.key)) (firsts es)

-- the key's row, unless it is deleted
abbrev pub put_of : Bytes → Change → Map
put_of k (Put v) = (k, v) ∷ []
put_of k Delete = []

-- of each key the newest entry numbered at most n, without deletions
abbrev pub shown : List Entry → ℕ → Map
shown es n = flat_map (λ (e : Entry). put_of e.key e.change)
    (firsts (in_order (filter (λ (e : Entry). nat_le e.number n) es)))
