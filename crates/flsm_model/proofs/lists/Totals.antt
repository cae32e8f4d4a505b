-- Sums over lists, and how often an entry stands in lists and tables.
use Rattle.std.proofs.Common.{◌≡◌, ℕ, ◌+◌, ◌<◌, ◌≤◌, ◌≢◌, Bool, true, false, cond, ◌&&◌, ◌||◌, not, List, [], ◌∷◌, ◌++◌, refl, sym, ◌∙◌, arith}
use Rattle.std.specs.Prelude.{nat_lt, ◌==◌, filter, flat_map}
use Rattle.std.specs.List.{list_all}
use Rattle.std.proofs.lemmas.Bool.{and_parts, or_parts, eqb-true, lt-ltb, le-ltb, ne_eqb, ltb-true}
use Rattle.std.proofs.lemmas.Bool.Decides.{nat_tests}
use Rattle.peb_base.specs.Keys.{Bytes, key_lt}
use Rattle.peb_base.specs.Entries.{in_order, put_in, entry_lt}
use Rattle.flsm_model.specs.Compaction.{pieces, some_entries, before_key, from_key}
use Rattle.peb_base.specs.declared.entry.Entry.{Entry}
use Rattle.peb_base.specs.declared.table_row.TableRow.{TableRow}
use Rattle.flsm_model.specs.Trees.{Table, content_of, paired, tables_numbered}
use Rattle.flsm_model.specs.Writes.{total, one_if, copies, copies_in, copies_above, holds, tables_holding}
use Rattle.flsm_model.specs.Shape.{has_number}
use Rattle.flsm_model.specs.Fits.{numbers_ascend}
use Rattle.flsm_model.proofs.lists.Lists.{Each}

pub total-append : {X : Type 0} (f : X → ℕ) (xs ys : List X) → total f (xs ++ ys) ≡ total f xs + total f ys
total-append f [] ys = omega arith
total-append f (x ∷ xs) ys = omega (arith, total-append f xs ys)

-- a test and its opposite part a sum
pub total-parts : {X : Type 0} (f : X → ℕ) (p : X → Bool) (xs : List X) → total f (filter p xs) + total f (filter (λ x. not (p x)) xs) ≡ total f xs
total-parts f p [] = refl
total-parts {X} f p (x ∷ xs) = by (p x) (total-parts f p xs)
  where
    by : (b : Bool) → total f (filter p xs) + total f (filter (λ y. not (p y)) xs) ≡ total f xs
        → total f (cond b (x ∷ filter p xs) (filter p xs)) + total f (cond (not b) (x ∷ filter (λ y. not (p y)) xs) (filter (λ y. not (p y)) xs)) ≡ f x + total f xs
    by true e = omega arith
    by false e = omega arith

pub total-filter : {X : Type 0} (f : X → ℕ) (p : X → Bool) (xs : List X) → total f (filter p xs) ≤ total f xs
total-filter f p xs = omega (arith, total-parts f p xs)

pub total-same : {X : Type 0} (f g : X → ℕ) (xs : List X) → ((x : X) → f x ≡ g x) → total f xs ≡ total g xs
total-same f g [] h = refl
total-same f g (x ∷ xs) h = omega (arith, h x, total-same f g xs h)

pub total-flat_map : {X Y : Type 0} (f : Y → ℕ) (g : X → List Y) (xs : List X) → total f (flat_map g xs) ≡ total (λ x. total f (g x)) xs
total-flat_map f g [] = refl
total-flat_map f g (x ∷ xs) = omega (arith, total-append f (g x) (flat_map g xs), total-flat_map f g xs)

-- entry order moves entries, and no more
pub copies-put_in : (q : ℕ) (e : Entry) (es : List Entry) → copies q (put_in e es) ≡ one_if (e.number == q) + copies q es
copies-put_in q e [] = refl
copies-put_in q e (f ∷ fs) = by (entry_lt e f) (copies-put_in q e fs)
  where
    by : (b : Bool) → copies q (put_in e fs) ≡ one_if (e.number == q) + copies q fs
        → copies q (cond b (e ∷ f ∷ fs) (f ∷ put_in e fs)) ≡ one_if (e.number == q) + (one_if (f.number == q) + copies q fs)
    by true h = refl
    by false h = omega arith

pub copies-in_order : (q : ℕ) (es : List Entry) → copies q (in_order es) ≡ copies q es
copies-in_order q [] = refl
copies-in_order q (e ∷ es) = omega (arith, copies-put_in q e (in_order es), copies-in_order q es)

pub copies-some_entries : (q : ℕ) (es : List Entry) → total (copies q) (some_entries es) ≡ copies q es
copies-some_entries q [] = refl
copies-some_entries q (e ∷ es) = omega arith

-- each entry stands in one piece
pub copies-pieces : (q : ℕ) (es : List Entry) (ks : List Bytes) → total (copies q) (pieces es ks) ≡ copies q es
copies-pieces q es [] = copies-some_entries q es
copies-pieces q es (k ∷ ks) =
    omega (
      arith,
      total-append (copies q) (some_entries (before_key k es)) (pieces (from_key k es) ks),
      copies-some_entries q (before_key k es),
      copies-pieces q (from_key k es) ks,
      total-parts (λ e. one_if (e.number == q)) (λ e. key_lt e.key k) es,
    )

-- the numbers ascend, so none stands twice
later_not : (a b : ℕ) (ns : List ℕ) → a < b → numbers_ascend (b ∷ ns) ≡ true → has_number a (b ∷ ns) ≡ false
later_not a b [] l h = grind (arith, nat_tests)
later_not a b (c ∷ ns) l h =
    let p = and_parts (nat_lt b c) (numbers_ascend (c ∷ ns)) h in
    let bc : b < c = ltb-true b c p.0 in
    let r = later_not a c ns (omega arith) p.1 in
    grind (arith, nat_tests)

pub not_in_rest : (a : ℕ) (ns : List ℕ) → numbers_ascend (a ∷ ns) ≡ true → has_number a ns ≡ false
not_in_rest a [] h = refl
not_in_rest a (b ∷ ns) h =
    let p = and_parts (nat_lt a b) (numbers_ascend (b ∷ ns)) h in later_not a b ns (ltb-true a b p.0) p.1

pub ascend_rest : (a : ℕ) (ns : List ℕ) → numbers_ascend (a ∷ ns) ≡ true → numbers_ascend ns ≡ true
ascend_rest a [] h = refl
ascend_rest a (b ∷ ns) h = (and_parts (nat_lt a b) (numbers_ascend (b ∷ ns)) h).1

-- what each of the inputs holds is in the tables of those numbers
one_more : (q : ℕ) (t : Table) (ts : List Table) (ns : List ℕ) → numbers_ascend ns ≡ true
    → total (λ n. copies q (content_of (t ∷ ts) n)) ns
    ≤ cond (has_number t.row.number ns) (copies q t.entries) 0 + total (λ n. copies q (content_of ts n)) ns
one_more q t ts [] h = omega arith
one_more q t ts (n ∷ ns) h = by (t.row.number == n) refl (one_more q t ts ns (ascend_rest n ns h))
  where
    by : (b : Bool) → (t.row.number == n) ≡ b
        → total (λ n. copies q (content_of (t ∷ ts) n)) ns
        ≤ cond (has_number t.row.number ns) (copies q t.entries) 0 + total (λ n. copies q (content_of ts n)) ns
        → copies q (cond b t.entries (content_of ts n)) + total (λ n. copies q (content_of (t ∷ ts) n)) ns
        ≤ cond (b || has_number t.row.number ns) (copies q t.entries) 0
        + (copies q (content_of ts n) + total (λ n. copies q (content_of ts n)) ns)
    by true e ih =
        let same : t.row.number ≡ n = eqb-true t.row.number n e in
        let none : has_number t.row.number ns ≡ false = rw same (not_in_rest n ns h) in
        let ih2 = rw none at ih in
        omega arith
    by false e ih = omega arith

pub copies-inputs : (q : ℕ) (ts : List Table) (ns : List ℕ) → numbers_ascend ns ≡ true
    → total (λ n. copies q (content_of ts n)) ns ≤ copies_in q (tables_numbered ns ts)
copies-inputs q [] [] h = omega arith
copies-inputs q [] (n ∷ ns) h = omega (arith, copies-inputs q [] ns (ascend_rest n ns h))
copies-inputs q (t ∷ ts) ns h = by (has_number t.row.number ns) (one_more q t ts ns h) (copies-inputs q ts ns h)
  where
    by : (b : Bool)
        → total (λ n. copies q (content_of (t ∷ ts) n)) ns ≤ cond b (copies q t.entries) 0 + total (λ n. copies q (content_of ts n)) ns
        → total (λ n. copies q (content_of ts n)) ns ≤ copies_in q (tables_numbered ns ts)
        → total (λ n. copies q (content_of (t ∷ ts) n)) ns ≤ copies_in q (cond b (t ∷ tables_numbered ns ts) (tables_numbered ns ts))
    by true x y = omega arith
    by false x y = omega arith

-- tables that hold the entry are no more than its copies
pub one_held : (q : ℕ) (es : List Entry) → one_if (holds q es) ≤ copies q es
one_held q [] = omega arith
one_held q (e ∷ es) = by (e.number == q) (one_held q es)
  where
    by : (b : Bool) → one_if (holds q es) ≤ copies q es → one_if (b || holds q es) ≤ one_if b + copies q es
    by true h = omega arith
    by false h = omega arith

pub none_held : (q : ℕ) (es : List Entry) → holds q es ≡ false → copies q es ≡ 0
none_held q [] h = refl
none_held q (e ∷ es) h =
    let p = or_parts (e.number == q) (holds q es) h in
    rw p.0 (omega (arith, none_held q es p.1))

pub held_at : (q level : ℕ) (ts : List Table) → tables_holding q level ts ≤ copies_in q ts
held_at q level [] = omega arith
held_at q level (t ∷ ts) = by (t.row.level == level) (holds q t.entries) (one_held q t.entries) (held_at q level ts)
  where
    by : (a b : Bool) → one_if b ≤ copies q t.entries → tables_holding q level ts ≤ copies_in q ts
        → one_if (a && b) + tables_holding q level ts ≤ copies q t.entries + copies_in q ts
    by true b x y = omega arith
    by false b x y = omega arith

pub copies-paired : (q : ℕ) (rows : List TableRow) (cs : List (List Entry)) → copies_in q (paired rows cs) ≤ total (copies q) cs
copies-paired q [] cs = omega arith
copies-paired q (r ∷ rs) [] = omega arith
copies-paired q (r ∷ rs) (c ∷ cs) = omega (arith, copies-paired q rs cs)

-- the copies above a level are among all copies; at one level, all of them or none
pub above_all : (q level : ℕ) (ts : List Table) → copies_above q level ts ≤ copies_in q ts
above_all q level [] = omega arith
above_all q level (t ∷ ts) = by (nat_lt t.row.level level) (above_all q level ts)
  where
    by : (b : Bool) → copies_above q level ts ≤ copies_in q ts
        → cond b (copies q t.entries) 0 + copies_above q level ts ≤ copies q t.entries + copies_in q ts
    by true h = omega arith
    by false h = omega arith

pub all_above : (q level at : ℕ) (ts : List Table) → Each (λ t. t.row.level ≡ at) ts → at < level → copies_above q level ts ≡ copies_in q ts
all_above q level at [] h l = refl
all_above q level at (t ∷ ts) h l = rw (lt-ltb t.row.level level (rw h.0 l)) (omega (arith, all_above q level at ts h.1 l))

pub none_above : (q level at : ℕ) (ts : List Table) → Each (λ t. t.row.level ≡ at) ts → level ≤ at → copies_above q level ts ≡ 0
none_above q level at [] h l = refl
none_above q level at (t ∷ ts) h l = rw (le-ltb t.row.level level (rw h.0 l)) (omega (arith, none_above q level at ts h.1 l))

pub none_at : (q level at : ℕ) (ts : List Table) → Each (λ t. t.row.level ≡ at) ts → level ≢ at → tables_holding q level ts ≡ 0
none_at q level at [] h l = refl
none_at q level at (t ∷ ts) h l =
    let other : (t.row.level == level) ≡ false = ne_eqb t.row.level level (λ e. l (sym e ∙ h.0)) in
    rw other (omega (arith, none_at q level at ts h.1 l))

pub levels-paired : (at : ℕ) (rows : List TableRow) (cs : List (List Entry)) → list_all (λ r. r.level == at) rows ≡ true
    → Each (λ t. t.row.level ≡ at) (paired rows cs)
levels-paired at [] cs h = tt
levels-paired at (r ∷ rs) [] h = tt
levels-paired at (r ∷ rs) (c ∷ cs) h =
    let p = and_parts (r.level == at) (list_all (λ r. r.level == at) rs) h in
    (eqb-true r.level at p.0, levels-paired at rs cs p.1)
