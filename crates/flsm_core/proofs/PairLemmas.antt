-- The entries of the map in memory change as the ordered map does.
use Rattle.std.proofs.Common.{◌≡◌, ℕ, true, false, cond, List, [], ◌∷◌, map, refl, sym, ap, ◌∙◌, subst}
use Rattle.std.specs.Prelude.{Vec}
use Rattle.std.specs.declared.alloc.Global.{Global}
use Rattle.std.specs.declared.cmp.Ordering.{Ordering}
use Rattle.std.specs.declared.cmp.Ordering.TheVariants.{Less, Equal, Greater}
use Rattle.std.specs.Ordering.{nat_cmp, is_lt, is_eq, match_ordering}
use Rattle.std.specs.Cmp.Lexicographic.{slice_cmp}
use Rattle.std.specs.List.{AllByRecursion}
use Rattle.std.specs.List.Sorted.{IsStrictlySortedBy}
use Rattle.std.specs.Map.{lookup as entry_value, remove_entry}
use Rattle.std.specs.BTreeMap.{insert_entry}
use Rattle.std.proofs.lemmas.Map.Text.{is_eq-slice_cmp}
use Rattle.std.proofs.lemmas.Map.Lookups.{exact_bytes}
use Rattle.peb_base.specs.Keys.{key_eq}
use Rattle.peb_base.specs.Map.{Map, set_key, remove_key, lookup}
use Rattle.flsm_core.specs.Pairs.{pairs}

abbrev pub Stored : Type 0
Stored = Vec ℕ Global × List ℕ

abbrev pub by_bytes : Vec ℕ Global → Vec ℕ Global → Ordering
by_bytes a b = slice_cmp nat_cmp a.items b.items

-- one entry more, or another value
pub pairs-insert : (es : List Stored) (k : Vec ℕ Global) (v : List ℕ) → pairs (insert_entry by_bytes es k v) ≡ set_key k.items v (pairs es)
pairs-insert [] k v = refl
pairs-insert (e ∷ es) k v = by (slice_cmp nat_cmp k.items e.0.items) refl (pairs-insert es k v)
  where
    by : (o : Ordering) → slice_cmp nat_cmp k.items e.0.items ≡ o → pairs (insert_entry by_bytes es k v) ≡ set_key k.items v (pairs es)
        → pairs (match_ordering (slice_cmp nat_cmp k.items e.0.items) ((k, v) ∷ e ∷ es) ((e.0, v) ∷ es) (e ∷ insert_entry by_bytes es k v))
        ≡ cond (is_lt (slice_cmp nat_cmp k.items e.0.items)) ((k.items, v) ∷ pairs (e ∷ es)) (cond (key_eq k.items e.0.items) ((k.items, v) ∷ pairs es) ((e.0.items, e.1) ∷ set_key k.items v (pairs es)))
    by Less is rest = rw is refl
    by Equal is rest =
        let same : key_eq k.items e.0.items ≡ true = sym (is_eq-slice_cmp k.items e.0.items) ∙ ap is_eq is in
        rw (is, same) (ap (λ (b : List ℕ). (b, v) ∷ pairs es) (sym (exact_bytes k.items e.0.items is)))
    by Greater is rest =
        let differs : key_eq k.items e.0.items ≡ false = sym (is_eq-slice_cmp k.items e.0.items) ∙ ap is_eq is in
        rw (is, differs) (ap (λ (r : Map). (e.0.items, e.1) ∷ r) rest)

pub lookup-pairs : (es : List Stored) (q : List ℕ) → entry_value (λ k. is_eq (slice_cmp nat_cmp q k.items)) es ≡ lookup q (pairs es)
lookup-pairs [] q = refl
lookup-pairs (e ∷ es) q = rw (is_eq-slice_cmp q e.0.items, lookup-pairs es q) refl

-- no key behind an equal one is equal
pub none_after : (es : List Stored) (q : List ℕ) → AllByRecursion (λ (y : Vec ℕ Global). slice_cmp nat_cmp q y.items ≡ Less) (map (λ e. e.0) es) → remove_key q (pairs es) ≡ pairs es
none_after [] q all = refl
none_after (e ∷ es) q all =
    let differs : key_eq q e.0.items ≡ false = sym (is_eq-slice_cmp q e.0.items) ∙ ap is_eq all.0 in
    rw (differs, none_after es q all.1) refl

-- one entry less
pub pairs-remove : (es : List Stored) (q : List ℕ) → IsStrictlySortedBy by_bytes (map (λ e. e.0) es) → pairs (remove_entry (λ k. is_eq (slice_cmp nat_cmp q k.items)) es) ≡ remove_key q (pairs es)
unfolding IsStrictlySortedBy
pairs-remove [] q ordered = refl
pairs-remove (e ∷ es) q ordered = by (slice_cmp nat_cmp q e.0.items) refl (pairs-remove es q ordered.1)
  where
    by : (o : Ordering) → slice_cmp nat_cmp q e.0.items ≡ o → pairs (remove_entry (λ k. is_eq (slice_cmp nat_cmp q k.items)) es) ≡ remove_key q (pairs es)
        → pairs (remove_entry (λ k. is_eq (slice_cmp nat_cmp q k.items)) (e ∷ es)) ≡ remove_key q (pairs (e ∷ es))
    by Less is rest =
        let differs : key_eq q e.0.items ≡ false = sym (is_eq-slice_cmp q e.0.items) ∙ ap is_eq is in
        rw (is, differs) (ap (λ (r : Map). (e.0.items, e.1) ∷ r) rest)
    by Equal is rest =
        let same : key_eq q e.0.items ≡ true = sym (is_eq-slice_cmp q e.0.items) ∙ ap is_eq is in
        let bytes : e.0.items ≡ q = sym (exact_bytes q e.0.items is) in
        rw (is, same) (sym (none_after es q (subst (λ (b : List ℕ). AllByRecursion (λ (y : Vec ℕ Global). slice_cmp nat_cmp b y.items ≡ Less) (map (λ e. e.0) es)) bytes ordered.0)))
    by Greater is rest =
        let differs : key_eq q e.0.items ≡ false = sym (is_eq-slice_cmp q e.0.items) ∙ ap is_eq is in
        rw (is, differs) (ap (λ (r : Map). (e.0.items, e.1) ∷ r) rest)
