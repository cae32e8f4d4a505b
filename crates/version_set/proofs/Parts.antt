-- Versions of given guards and tables.
use Rattle.std.proofs.Common.{◌≡◌, ◌≢◌, ℕ, zero, suc, ◌<◌, Bool, true, false, cond, List, [], ◌∷◌, ◌++◌, length, refl, sym, ap, ◌∙◌, subst, inl, inr, ◌⊎◌, arith, append-nil}
use Rattle.std.specs.Prelude.{map, ◌==◌, get_or, set}
use Rattle.std.specs.List.{AllByRecursion, AllZip}
use Rattle.std.proofs.lemmas.Bool.{cases_eq, true≢false}
use Rattle.std.proofs.lemmas.List.{get_or-set_same, get_or-set_other, length-set, map-append, map-set}
use Rattle.std.proofs.lemmas.List.Elements.{filter-append}
use Rattle.peb_base.specs.Guards.{Ascend}
use Rattle.peb_base.specs.Keys.{Bytes, key_lt, key_eq}
use Rattle.peb_base.specs.declared.table_row.TableRow.{TableRow}
use Rattle.flsm_model.specs.Ledgers.{rows_at}
use Rattle.flsm_model.specs.Ranges.{with_key, with_keys}
use Rattle.guard_level.specs.Guards.{Guards, tables_of}
use Rattle.version.specs.Levels.{no_guards}
use Rattle.version_set.specs.Shapes.{HasRows, IsOfLevel, HasTables}
use Rattle.version_set.specs.Changes.{EachTable, IsWhole}
use Rattle.version_set.proofs.Rows.{eqb_same, eqb_other}
use Rattle.version_set.proofs.Stands.{each_of_rows, set_same}

-- ---- a level without tables

pub empty_rows : {T : Type 0} (row : T → TableRow) (g : Guards T) → ((guard : ℕ) → tables_of g guard ≡ []) → HasRows row g []
empty_rows row g empty guard = ap (map row) (empty guard)

-- no key splits a table of it
pub empty_whole : {T : Type 0} (row : T → TableRow) (g : Guards T) (keys : List Bytes) → ((guard : ℕ) → tables_of g guard ≡ []) → AllByRecursion (λ key. EachTable (λ t. IsWhole key (row t)) g) keys
empty_whole row g [] empty = tt
empty_whole row g (k ∷ keys) empty = (each_of_rows row (IsWhole k) g [] (empty_rows row g empty) tt, empty_whole row g keys empty)

-- keys that ascend, put among none
pub ascending_alone : (low : Bytes) (keys : List Bytes) → Ascend low keys → with_keys keys [] ≡ keys
ascending_alone low [] ascend = refl
ascending_alone low (k ∷ []) ascend = refl
ascending_alone low (k ∷ m ∷ keys) ascend = ap (with_key k) (ascending_alone k (m ∷ keys) ascend.1) ∙ front (key_lt k m) ascend.1.0
  where
    front : (b : Bool) → b ≡ true → cond b (k ∷ m ∷ keys) (cond (key_eq k m) (m ∷ keys) (m ∷ with_key k keys)) ≡ k ∷ m ∷ keys
    front true is = refl
    front false is = absurd (true≢false (sym is))

-- ---- one after another

pub zip_push : {X Y : Type 0} (R : X → Y → Type 0) (xs : List X) (ys : List Y) (x : X) (y : Y) → AllZip R xs ys → R x y → AllZip R (xs ++ x ∷ []) (ys ++ y ∷ [])
zip_push R [] [] x y all r = (r, tt)
zip_push R [] (z ∷ ys) x y all r = absurd all
zip_push R (w ∷ xs) [] x y all r = absurd all
zip_push R (w ∷ xs) (z ∷ ys) x y all r = (all.0, zip_push R xs ys x y all.1 r)

pub zip_length : {X Y : Type 0} (R : X → Y → Type 0) (xs : List X) (ys : List Y) → AllZip R xs ys → length xs ≡ length ys
zip_length R [] [] all = refl
zip_length R [] (y ∷ ys) all = absurd all
zip_length R (x ∷ xs) [] all = absurd all
zip_length R (x ∷ xs) (y ∷ ys) all = ap suc (zip_length R xs ys all.1)

zip_at : {X Y : Type 0} (R : X → Y → Type 0) (d : X) (e : Y) (xs : List X) (ys : List Y) (i : ℕ) → AllZip R xs ys → i < length ys → R (get_or xs i d) (get_or ys i e)
zip_at R d e xs [] i all within = absurd (omega (arith, within))
zip_at R d e [] (y ∷ ys) i all within = absurd all
zip_at R d e (x ∷ xs) (y ∷ ys) zero all within = all.0
zip_at R d e (x ∷ xs) (y ∷ ys) (suc i) all within = zip_at R d e xs ys i all.1 (omega (arith, within))

pub all_item : {X : Type 0} (P : X → Type 0) (xs : List X) (i : ℕ) (x : X) → AllByRecursion P xs → i < length xs → x ≡ get_or xs i x → P x
all_item P [] i x all within is = absurd (omega (arith, within))
all_item P (y ∷ xs) zero x all within is = subst P (sym is) all.0
all_item P (y ∷ xs) (suc i) x all within is = all_item P xs i x all.1 (omega (arith, within)) is

pub keys_of_zip : {T : Type 0} (row : T → TableRow) (levels : List (Guards T)) (guards : List (List Bytes)) → AllZip (λ level keys. IsOfLevel row level keys []) levels guards → map (λ level. level.keys) levels ≡ guards
keys_of_zip row [] [] all = refl
keys_of_zip row [] (k ∷ guards) all = absurd all
keys_of_zip row (g ∷ levels) [] all = absurd all
keys_of_zip row (g ∷ levels) (k ∷ guards) all = ap (λ ks. ks ∷ map (λ level. level.keys) levels) all.0.keys_are ∙ ap (λ rest. k ∷ rest) (keys_of_zip row levels guards all.1)

-- a version of such levels
pub empty_stands : {T : Type 0} (row : T → TableRow) (levels : List (Guards T)) (guards : List (List Bytes)) → AllZip (λ level keys. IsOfLevel row level keys []) levels guards
    → HasTables row (record { top = []; levels = levels }) guards []
empty_stands row levels guards all = record {
  count = zip_length (λ level keys. IsOfLevel row level keys []) levels guards all;
  top = refl;
  deeper = λ n within. zip_at (λ level keys. IsOfLevel row level keys []) no_guards [] levels guards n all within;
}

-- ---- one table more

one_more : (level : ℕ) (live : List TableRow) (r : TableRow) → rows_at level (live ++ r ∷ []) ≡ rows_at level live ++ cond (r.level == level) (r ∷ []) []
one_more level live r = filter-append (λ (x : TableRow). x.level == level) live (r ∷ [])

here : (level : ℕ) (live : List TableRow) (r : TableRow) → r.level ≡ level → rows_at level (live ++ r ∷ []) ≡ rows_at level live ++ r ∷ []
here level live r is = one_more level live r ∙ ap (λ b. rows_at level live ++ cond b (r ∷ []) []) (ap (λ n. n == level) is ∙ eqb_same level)

elsewhere : (level : ℕ) (live : List TableRow) (r : TableRow) → r.level ≢ level → rows_at level (live ++ r ∷ []) ≡ rows_at level live
elsewhere level live r apart = one_more level live r ∙ ap (λ b. rows_at level live ++ cond b (r ∷ []) []) (eqb_other r.level level apart) ∙ append-nil (rows_at level live)

pub placed_top : {T : Type 0} (row : T → TableRow) (old new : List T) (levels : List (Guards T)) (t u : T) (guards : List (List Bytes)) (live : List TableRow) → (row t).level ≡ 0 → new ≡ old ++ u ∷ [] → row u ≡ row t
    → HasTables row (record { top = old; levels = levels }) guards live → HasTables row (record { top = new; levels = levels }) guards (live ++ row t ∷ [])
placed_top row old new levels t u guards live is pushed same stands = record {
  count = stands.count;
  top = ap (map row) pushed ∙ map-append row old (u ∷ []) ∙ ap (λ r. map row old ++ r ∷ []) same ∙ ap (λ rs. rs ++ row t ∷ []) stands.top ∙ sym (here 0 live (row t) is);
  deeper = λ n within. subst (IsOfLevel row (get_or levels n no_guards) (get_or guards n [])) (sym (elsewhere (suc n) live (row t) (λ e. omega (arith, e, is)))) (stands.deeper n within);
}

pub placed_level : {T : Type 0} (row : T → TableRow) (top : List T) (old new : List (Guards T)) (at : ℕ) (g : Guards T) (t : T) (guards : List (List Bytes)) (live : List TableRow) → (row t).level ≡ suc at → at < length old → new ≡ set old at g
    → g.keys ≡ (get_or old at no_guards).keys → ((rows : List TableRow) → HasRows row (get_or old at no_guards) rows → HasRows row g (rows ++ row t ∷ []))
    → HasTables row (record { top = top; levels = old }) guards live → HasTables row (record { top = top; levels = new }) guards (live ++ row t ∷ [])
placed_level {T} row top old new at g t guards live is within made keys rows stands = record {
  count = ap length made ∙ length-set old at g ∙ stands.count;
  top = stands.top ∙ sym (elsewhere 0 live (row t) (λ e. omega (arith, e, is)));
  deeper = λ n inside. subst (λ (ls : List (Guards T)). IsOfLevel row (get_or ls n no_guards) (get_or guards n []) (rows_at (suc n) (live ++ row t ∷ []))) (sym made) (by n inside (cases_eq n at));
}
  where
    own : at < length guards → IsOfLevel row g (get_or guards at []) (rows_at (suc at) (live ++ row t ∷ []))
    own inside = record {
      keys_are = keys ∙ (stands.deeper at inside).keys_are;
      each = subst (HasRows row g) (sym (here (suc at) live (row t) is)) (rows (rows_at (suc at) live) (stands.deeper at inside).each);
    }

    by : (n : ℕ) → n < length guards → (n ≡ at) ⊎ (n ≢ at) → IsOfLevel row (get_or (set old at g) n no_guards) (get_or guards n []) (rows_at (suc n) (live ++ row t ∷ []))
    by n inside (inl same) =
        subst (λ (i : ℕ). IsOfLevel row (get_or (set old at g) i no_guards) (get_or guards i []) (rows_at (suc i) (live ++ row t ∷ []))) (sym same)
        (subst (λ (h : Guards T). IsOfLevel row h (get_or guards at []) (rows_at (suc at) (live ++ row t ∷ []))) (sym (get_or-set_same old at g no_guards within)) (own (subst (λ i. i < length guards) same inside)))
    by n inside (inr other) =
        subst (λ (h : Guards T). IsOfLevel row h (get_or guards n []) (rows_at (suc n) (live ++ row t ∷ []))) (sym (get_or-set_other old at n g no_guards other))
        (subst (IsOfLevel row (get_or old n no_guards) (get_or guards n [])) (sym (elsewhere (suc n) live (row t) (λ e. other (omega (arith, e, is))))) (stands.deeper n inside))

-- the keys of a level
pub key_read : {T : Type 0} (ls : List (Guards T)) (i : ℕ) → get_or (map (λ level. level.keys) ls) i [] ≡ (get_or ls i no_guards).keys
key_read [] i = refl
key_read (l ∷ ls) zero = refl
key_read (l ∷ ls) (suc i) = key_read ls i

-- the keys stay
pub keys_stay : {T : Type 0} (old new : List (Guards T)) (at : ℕ) (g : Guards T) → new ≡ set old at g → g.keys ≡ (get_or old at no_guards).keys → map (λ level. level.keys) new ≡ map (λ level. level.keys) old
keys_stay {T} old new at g made same =
    ap (map (λ (level : Guards T). level.keys)) made ∙ map-set (λ (level : Guards T). level.keys) old at g ∙ ap (set (map (λ (level : Guards T). level.keys) old) at) (same ∙ sym (key_read old at))
    ∙ set_same (map (λ (level : Guards T). level.keys) old) at []

-- an element is read alike, whatever stands for one that isn't there
pub read_as : {X : Type 0} (xs : List X) (i : ℕ) (x d : X) → i < length xs → x ≡ get_or xs i x → x ≡ get_or xs i d
read_as [] i x d within is = absurd (omega (arith, within))
read_as (y ∷ xs) zero x d within is = is
read_as (y ∷ xs) (suc i) x d within is = read_as xs i x d (omega (arith, within)) is
