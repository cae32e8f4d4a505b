-- Ranges of keys.
use Rattle.std.proofs.Common.{◌≡◌, true, refl}
use Rattle.std.specs.Prelude.{Option, Some, None}
use Rattle.std.proofs.lemmas.Bool.{and_parts, and_from}
use Rattle.peb_base.specs.Keys.{Bytes, key_le}
use Rattle.peb_base.specs.KeyLaws.{le_lt}
use Rattle.flsm_model.specs.Ranges.{is_below, in_range, ranges_meet}

-- a key of both ranges shows that they meet
pub common_key : (lo lo2 key : Bytes) (hi hi2 : Option Bytes) → in_range lo hi key ≡ true → in_range lo2 hi2 key ≡ true → ranges_meet lo hi lo2 hi2 ≡ true
common_key lo lo2 key hi hi2 h g =
    let p = and_parts (key_le lo key) (is_below key hi) h in
    let q = and_parts (key_le lo2 key) (is_below key hi2) g in
    and_from (is_below lo hi2) (is_below lo2 hi) (below lo hi2 p.0 q.1) (below lo2 hi q.0 p.1)
  where
    below : (l : Bytes) (h : Option Bytes) → key_le l key ≡ true → is_below key h ≡ true → is_below l h ≡ true
    below l None a b = refl
    below l (Some x) a b = le_lt l key x a b
