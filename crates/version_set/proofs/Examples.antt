-- What a version of a shape is and isn't: level 1 with the guard `o`, and a table on each side of it.
use Rattle.std.proofs.Common.{◌≡◌, ℕ, zero, suc, ◌<◌, false, cond, List, [], ◌∷◌, map, get_or, refl, sym, ap, ◌∙◌, arith}
use Rattle.std.specs.Prelude.{◌==◌}
use Rattle.peb_base.specs.Keys.{Bytes}
use Rattle.peb_base.specs.declared.table_row.TableRow.{TableRow}
use Rattle.flsm_model.specs.Ledgers.{rows_at}
use Rattle.version.specs.Levels.{Levels, level_at}
use Rattle.version_set.proofs.Rows.{eqb_other}
use Rattle.version_set.specs.Shapes.{HasTables, IsOfLevel, rows_of_guard}

abbrev key_o : Bytes
key_o = 111 ∷ []

-- a table of level 1 from one key of a byte to another
abbrev table : ℕ → ℕ → ℕ → TableRow
table number smallest largest = record {
  number = number;
  level = 1;
  tier = 0;
  smallest = smallest ∷ [];
  largest = largest ∷ [];
  entries = 2;
  raw = 4;
  first = 1;
  last = 2;
  bytes = 130;
}

abbrev low : TableRow
low = table 1 97 110

abbrev high : TableRow
high = table 2 111 122

-- the version with these tables of the sentinel and of the guard `o`
abbrev version_of : List TableRow → List TableRow → Levels TableRow
version_of sentinel guard = record { top = []; levels = record { keys = key_o ∷ []; tables = sentinel ∷ guard ∷ [] } ∷ [] }

-- it goes with the guard and these live rows
abbrev Goes : Levels TableRow → List TableRow → Type 0
Goes v live = HasTables (λ t. t) v ((key_o ∷ []) ∷ []) live

-- its guards have those rows
rows : (guard : ℕ) → map (λ t. t) (get_or ((low ∷ []) ∷ (high ∷ []) ∷ []) guard []) ≡ rows_of_guard (key_o ∷ []) guard (rows_at 1 (high ∷ low ∷ []))
rows zero = refl
rows (suc zero) = refl
rows (suc (suc n)) =
    let one : (1 == suc (suc n)) ≡ false = eqb_other 1 (suc (suc n)) (λ e. omega (arith, e)) in
    let none : (0 == suc (suc n)) ≡ false = eqb_other 0 (suc (suc n)) (λ e. omega (arith, e)) in
    sym (ap (λ b. cond b (high ∷ cond (0 == suc (suc n)) (low ∷ []) []) (cond (0 == suc (suc n)) (low ∷ []) [])) one
    ∙ ap (λ b. cond b (low ∷ []) []) none)

goes : Goes (version_of (low ∷ []) (high ∷ [])) (high ∷ low ∷ [])
goes = record { count = refl; top = refl; deeper = deep }
  where
    deep : (n : ℕ) → n < 1 → IsOfLevel (λ t. t) (level_at (version_of (low ∷ []) (high ∷ [])) n) (get_or ((key_o ∷ []) ∷ []) n []) (rows_at (suc n) (high ∷ low ∷ []))
    deep zero within = record { keys_are = refl; each = rows }
    deep (suc n) within = absurd (omega (arith, within))

-- a table of the guard isn't to lie in the sentinel
not_in_the_sentinel : Goes (version_of (low ∷ high ∷ []) []) (low ∷ high ∷ []) → ⊥
not_in_the_sentinel h = let e = (h.deeper 0 (omega arith)).each 1 in cc

-- none is left out, stands twice or stands before an older one
not_left_out : Goes (version_of (low ∷ []) []) (low ∷ high ∷ []) → ⊥
not_left_out h = let e = (h.deeper 0 (omega arith)).each 1 in cc

not_twice : Goes (version_of (low ∷ low ∷ []) []) (low ∷ []) → ⊥
not_twice h = let e = (h.deeper 0 (omega arith)).each 0 in cc

not_before_an_older_one : Goes (version_of (table 3 98 99 ∷ low ∷ []) []) (low ∷ table 3 98 99 ∷ []) → ⊥
not_before_an_older_one h =
    let e = (h.deeper 0 (omega arith)).each 0 in
    omega (arith, ap (λ (rows : List TableRow). (get_or rows 0 high).number) e)

-- level 0 has no table of another level
not_at_level_0 : Goes (record (version_of [] []) { top = low ∷ [] }) (low ∷ []) → ⊥
not_at_level_0 h = let e = h.top in cc

-- and there is no further guard or level
no_further_guard : HasTables (λ t. t) (version_of [] []) ([] ∷ []) [] → ⊥
no_further_guard h = let e = (h.deeper 0 (omega arith)).keys_are in cc

no_further_level : HasTables (λ t. t) (version_of [] []) ((key_o ∷ []) ∷ [] ∷ []) [] → ⊥
no_further_level h = omega (arith, h.count)
