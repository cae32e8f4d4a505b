-- A level whose tables are shared, and one that gave a table up.
use Rattle.std.proofs.Common.{◌≡◌, inl, inr, ℕ, zero, suc, ◌<◌, ◌≤◌, List, [], ◌∷◌, ◌++◌, length, Option, Some, None, refl, sym, ap, ◌∙◌, subst, arith}
use Rattle.std.specs.Prelude.{get_or, set, ◌⊎◌, IfSome, IfNone}
use Rattle.std.proofs.lemmas.Bool.{cases_lt}
use Rattle.std.specs.List.{AllByRecursion, AllZip}
use Rattle.peb_base.specs.Keys.{Bytes}
use Rattle.peb_base.specs.declared.entry.Entry.{Entry}
use Rattle.peb_base.specs.declared.table_row.TableRow.{TableRow}
use Rattle.guard_level.specs.TableLists.{TakesOut, TakesFrom, AreShared}
use Rattle.peb_base.specs.Guards.{LiesIn}
use Rattle.guard_level.specs.Guards.{Guards, IsLevel, Takes, IsCopy}
use Rattle.guard_level.proofs.GuardLemmas.{with_tables}

zip_length : {X : Type 0} (R : X → X → Type 0) (xs ys : List X) → AllZip R xs ys → length ys ≡ length xs
zip_length R [] [] h = refl
zip_length R [] (y ∷ ys) h = absurd h
zip_length R (x ∷ xs) [] h = absurd h
zip_length R (x ∷ xs) (y ∷ ys) h = ap suc (zip_length R xs ys h.1)

zip_at : {X : Type 0} (R : X → X → Type 0) (d : X) → R d d → (xs ys : List X) → AllZip R xs ys → (i : ℕ) → R (get_or xs i d) (get_or ys i d)
zip_at R d both [] [] h i = both
zip_at R d both [] (y ∷ ys) h i = absurd h
zip_at R d both (x ∷ xs) [] h i = absurd h
zip_at R d both (x ∷ xs) (y ∷ ys) h zero = h.0
zip_at R d both (x ∷ xs) (y ∷ ys) h (suc i) = zip_at R d both xs ys h.1 i

module _ {T : Type 0} (row : T → TableRow) (holds : T → List Entry → Type 0) where
  all_shared : (P : TableRow → Type 0) (ts us : List T) → AreShared row holds ts us → AllByRecursion (λ t. P (row t)) ts → AllByRecursion (λ t. P (row t)) us
  all_shared P [] [] h lie = tt
  all_shared P [] (u ∷ us) h lie = absurd h
  all_shared P (t ∷ ts) [] h lie = absurd h
  all_shared P (t ∷ ts) (u ∷ us) h lie = (subst P (sym h.0) lie.0, all_shared P ts us h.2 lie.1)

  -- shared tables lie where the others do
  pub shared_level : (g copy : Guards T) → IsLevel row g → copy.keys ≡ g.keys → AllZip (AreShared row holds) g.tables copy.tables → IsLevel row copy
  shared_level g copy level keys zip = record {
    ascend = rw keys level.ascend;
    each = zip_length (AreShared row holds) g.tables copy.tables zip ∙ level.each ∙ ap (λ ks. suc (length ks)) (sym keys);
    inside = λ guard. rw keys (all_shared (LiesIn g.keys guard) (get_or g.tables guard []) (get_or copy.tables guard [])
        (zip_at (AreShared row holds) [] tt g.tables copy.tables zip guard) (level.inside guard));
  }

  pub is_copy : (g copy : Guards T) → copy.keys ≡ g.keys → AllZip (AreShared row holds) g.tables copy.tables → IsCopy row holds g copy
  is_copy g copy keys zip = record { keys = keys; tables = zip_at (AreShared row holds) [] tt g.tables copy.tables zip }

-- what holds of all holds of those that are left
all_left : {X : Type 0} (P : X → Type 0) (before behind : List X) (x : X) → AllByRecursion P (before ++ x ∷ behind) → AllByRecursion P (before ++ behind)
all_left P [] behind x h = h.1
all_left P (y ∷ ys) behind x h = (h.0, all_left P ys behind x h.1)

pub all_taken : {T : Type 0} (P : T → Type 0) (row : T → TableRow) (number : ℕ) (old : List T) (t : T) (new : List T) → TakesOut row number old t new → AllByRecursion P old → AllByRecursion P new
all_taken P row number old t new out h = rw out.now (all_left P out.before out.behind t (subst (AllByRecursion P) out.was h))

-- ---- a table that is taken from one of the guards

pub from_front : {T : Type 0} (row : T → TableRow) (number : ℕ) (s new : List T) (gs : List (List T)) (t : T) → TakesOut row number s t new → TakesFrom row number (s ∷ gs) t (new ∷ gs)
from_front row number s new gs t out = record { guard = 0; rest = new; out = out; now = refl }

pub from_behind : {T : Type 0} (row : T → TableRow) (number : ℕ) (s : List T) (gs new : List (List T)) (t : T) → TakesFrom row number gs t new → TakesFrom row number (s ∷ gs) t (s ∷ new)
from_behind row number s gs new t from = record { guard = suc from.guard; rest = from.rest; out = from.out; now = ap (λ ts. s ∷ ts) from.now }

empty_past : {T : Type 0} (xs : List (List T)) (i : ℕ) → length xs ≤ i → get_or xs i [] ≡ []
empty_past [] i past = refl
empty_past (x ∷ xs) zero past = absurd (omega (arith, past))
empty_past (x ∷ xs) (suc i) past = empty_past xs i (omega (arith, past))

no_front : {T : Type 0} (before behind : List T) (t : T) → [] ≡ before ++ t ∷ behind → ⊥
no_front [] behind t e = cc
no_front (x ∷ xs) behind t e = cc

none_of_none : {T : Type 0} (row : T → TableRow) (number : ℕ) (old : List T) (t : T) (new : List T) → old ≡ [] → TakesOut row number old t new → ⊥
none_of_none row number old t new empty out = no_front out.before out.behind t (sym empty ∙ out.was)

pub taken_level : {T : Type 0} (row : T → TableRow) (number : ℕ) (g : Guards T) (t : T) (new : List (List T)) → IsLevel row g → TakesFrom row number g.tables t new
    → IsLevel row (record { keys = g.keys; tables = new })
taken_level row number g t new level from = rw from.now (by (cases_lt from.guard (length g.tables)))
  where
    by : (from.guard < length g.tables) ⊎ (length g.tables ≤ from.guard) → IsLevel row (record { keys = g.keys; tables = set g.tables from.guard from.rest })
    by (inl within) = with_tables row g from.guard from.rest level within
        (all_taken (λ u. LiesIn g.keys from.guard (row u)) row number (get_or g.tables from.guard []) t from.rest from.out (level.inside from.guard))
    by (inr past) = absurd (none_of_none row number (get_or g.tables from.guard []) t from.rest (empty_past g.tables from.guard past) from.out)

-- the level after a search that may have found none
pub searched_level : {T : Type 0} (row : T → TableRow) (number : ℕ) (keys : List Bytes) (s : List T) (gs new : List (List T)) (r : Option T)
    → IsLevel row (record { keys = keys; tables = s ∷ gs }) → IfSome r (λ t. TakesFrom row number gs t new) → IfNone r (new ≡ gs)
    → IsLevel row (record { keys = keys; tables = s ∷ new })
searched_level row number keys s gs new (Some t) level found none = taken_level row number (record { keys = keys; tables = s ∷ gs }) t (s ∷ new) level (from_behind row number s gs new t found)
searched_level row number keys s gs new None level found none = rw none level

-- what a search behind the sentinel took
pub searched : {T : Type 0} (row : T → TableRow) (number : ℕ) (old : Guards T) (keys : List Bytes) (s same : List T) (gs new : List (List T)) (r : Option T)
    → record { keys = keys; tables = s ∷ gs } ≡ old → same ≡ s → IfSome r (λ t. TakesFrom row number gs t new)
    → IfSome r (λ t. Takes row number old t (record { keys = keys; tables = same ∷ new }))
searched row number old keys s same gs new None is unchanged found = tt
searched row number old keys s same gs new (Some t) is unchanged found = record {
  keys = ap (λ level. level.keys) is;
  tables = rw unchanged (subst (λ level. TakesFrom row number level.tables t (s ∷ new)) is (from_behind row number s gs new t found));
}
