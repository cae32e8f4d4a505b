-- Laws of the map that batches spell.
use Rattle.std.proofs.Common.{◌≡◌, ℕ, suc, ◌+◌, ◌-◌, ◌<◌, ◌≤◌, Bool, true, false, ◌&&◌, not, cond, List, [], ◌∷◌, ◌++◌, length, Some, None, refl, sym, ◌∙◌, ap, subst, append_assoc, arith}
use Rattle.std.specs.Prelude.{nat_lt, nat_le, ◌==◌}
use Rattle.std.specs.List.{AllByRecursion}
use Rattle.std.proofs.lemmas.List.{append-nil}
use Rattle.std.proofs.lemmas.List.Elements.{filter-append}
use Rattle.std.proofs.lemmas.Bool.{and_from, and_parts, eq-eqb, ltb-true, lt-ltb}
use Rattle.peb_base.specs.Numbers.{session_of}
use Rattle.std.proofs.lemmas.Bool.Decides.{nat_tests}
use Rattle.peb_base.specs.Keys.{Bytes, key_lt, key_eq}
use Rattle.peb_base.specs.KeyLaws.{same_key, key_self}
use Rattle.peb_base.specs.Entries.{entries_between}
use Rattle.peb_base.specs.Batches.{Batches, numbered, entries_of, last_number, ordered_above, are_in_order}
use Rattle.peb_base.specs.Map.{Map, set_key, remove_key, apply_change, apply_entries, map_at, lookup, value_at}
use Rattle.peb_base.specs.declared.change.Change.{Change}
use Rattle.peb_base.specs.declared.change.Change.TheVariants.{Put, Delete}
use Rattle.peb_base.specs.declared.entry.Entry.{Entry}
use Rattle.peb_base.specs.declared.op.Op.{Op}

-- ---- one operation

pub lookup_set : (k v : Bytes) (m : Map) → lookup k (set_key k v m) ≡ Some v
lookup_set k v [] = rw (key_self k) refl
lookup_set k v (p ∷ ps) = by (key_lt k p.0) (key_eq k p.0) refl (lookup_set k v ps)
  where
    by : (a b : Bool) → key_eq k p.0 ≡ b → lookup k (set_key k v ps) ≡ Some v
        → lookup k (cond a ((k, v) ∷ p ∷ ps) (cond b ((k, v) ∷ ps) (p ∷ set_key k v ps))) ≡ Some v
    by true b e ih = rw (key_self k) refl
    by false true e ih = rw (key_self k) refl
    by false false e ih = rw e ih

-- a key that differs from k differs from what equals k
differs : (other k p : Bytes) → key_eq other k ≡ false → key_eq k p ≡ true → key_eq other p ≡ false
differs other k p differ same = subst (λ x. key_eq other x ≡ false) (same_key k p same) differ

pub lookup_set_other : (other k v : Bytes) (m : Map) → key_eq other k ≡ false
    → lookup other (set_key k v m) ≡ lookup other m
lookup_set_other other k v [] differ = rw differ refl
lookup_set_other other k v (p ∷ ps) differ =
    by (key_lt k p.0) (key_eq k p.0) refl (lookup_set_other other k v ps differ)
  where
    by : (a b : Bool) → key_eq k p.0 ≡ b → lookup other (set_key k v ps) ≡ lookup other ps
        → lookup other (cond a ((k, v) ∷ p ∷ ps) (cond b ((k, v) ∷ ps) (p ∷ set_key k v ps)))
        ≡ lookup other (p ∷ ps)
    by true b e ih = rw differ refl
    by false true e ih = rw differ (rw (differs other k p.0 differ e) refl)
    by false false e ih = ap (λ x. cond (key_eq other p.0) (Some p.1) x) ih

pub lookup_remove : (k : Bytes) (m : Map) → lookup k (remove_key k m) ≡ None
lookup_remove k [] = refl
lookup_remove k (p ∷ ps) = by (key_eq k p.0) refl (lookup_remove k ps)
  where
    by : (b : Bool) → key_eq k p.0 ≡ b → lookup k (remove_key k ps) ≡ None
        → lookup k (cond (not b) (p ∷ remove_key k ps) (remove_key k ps)) ≡ None
    by true e ih = ih
    by false e ih = rw e ih

pub lookup_remove_other : (other k : Bytes) (m : Map) → key_eq other k ≡ false
    → lookup other (remove_key k m) ≡ lookup other m
lookup_remove_other other k [] differ = refl
lookup_remove_other other k (p ∷ ps) differ =
    by (key_eq k p.0) refl (lookup_remove_other other k ps differ)
  where
    by : (b : Bool) → key_eq k p.0 ≡ b → lookup other (remove_key k ps) ≡ lookup other ps
        → lookup other (cond (not b) (p ∷ remove_key k ps) (remove_key k ps))
        ≡ lookup other (p ∷ ps)
    by true e ih = rw (differs other k p.0 differ e) ih
    by false e ih = ap (λ x. cond (key_eq other p.0) (Some p.1) x) ih

-- ---- numbers of batches

-- each number is above low
abbrev Above : ℕ → List Entry → Type 0
Above low es = AllByRecursion (λ e. low < e.number) es

-- each number is at most high
abbrev UpTo : ℕ → List Entry → Type 0
UpTo high es = AllByRecursion (λ e. e.number ≤ high) es

above_append : (low : ℕ) (es fs : List Entry) → Above low es → Above low fs → Above low (es ++ fs)
above_append low [] fs h g = g
above_append low (e ∷ es) fs h g = (h.0, above_append low es fs h.1 g)

upto_append : (high : ℕ) (es fs : List Entry) → UpTo high es → UpTo high fs → UpTo high (es ++ fs)
upto_append high [] fs h g = g
upto_append high (e ∷ es) fs h g = (h.0, upto_append high es fs h.1 g)

above_batch : (low first : ℕ) (ops : List Op) → low < first → Above low (numbered first ops)
above_batch low first [] above = tt
above_batch low first (op ∷ ops) above =
    (above, above_batch low (suc first) ops (omega (arith, above)))

upto_batch : (high first : ℕ) (ops : List Op) → first + length ops ≤ suc high
    → UpTo high (numbered first ops)
upto_batch high first [] upto = tt
upto_batch high first (op ∷ ops) upto =
    (omega (arith, upto), upto_batch high (suc first) ops (omega (arith, upto)))

upto_batches : (high : ℕ) (bs : Batches) → last_number bs ≤ high → UpTo high (entries_of bs)
upto_batches high [] upto = tt
upto_batches high (b ∷ bs) upto =
    upto_append high (numbered b.0 b.1) (entries_of bs)
    (upto_batch high b.0 b.1 (omega (arith, upto))) (upto_batches high bs (omega (arith, upto)))

-- the facts of batches in order, one by one
record Ordered (low : ℕ) (b : ℕ × List Op) (bs : Batches) : Type 0 where
  first : low < b.0
  some : 0 < length b.1
  session : (session_of b.0 == session_of (b.0 + length b.1 - 1)) ≡ true
  rest : ordered_above (b.0 + length b.1 - 1) bs ≡ true

ordered_facts : (low : ℕ) (b : ℕ × List Op) (bs : Batches) → ordered_above low (b ∷ bs) ≡ true
    → Ordered low b bs
ordered_facts low b bs h =
    let p = and_parts _ (ordered_above (b.0 + length b.1 - 1) bs) h in
    let q = and_parts _ (session_of b.0 == session_of (b.0 + length b.1 - 1)) p.0 in
    let r = and_parts (nat_lt low b.0) (nat_lt 0 (length b.1)) q.0 in
    record {
      first = ltb-true low b.0 r.0;
      some = ltb-true 0 (length b.1) r.1;
      session = q.1;
      rest =
          p.1;
    }

ordered_from : (low : ℕ) (b : ℕ × List Op) (bs : Batches) → Ordered low b bs
    → ordered_above low (b ∷ bs) ≡ true
ordered_from low b bs o =
    and_from _ (ordered_above (b.0 + length b.1 - 1) bs)
    (and_from _ (session_of b.0 == session_of (b.0 + length b.1 - 1))
    (and_from (nat_lt low b.0) (nat_lt 0 (length b.1)) (lt-ltb low b.0 o.first)
    (lt-ltb 0 (length b.1) o.some)) o.session) o.rest

ordered_lower : (low lower : ℕ) (bs : Batches) → lower ≤ low → ordered_above low bs ≡ true
    → ordered_above lower bs ≡ true
ordered_lower low lower [] le h = refl
ordered_lower low lower (b ∷ bs) le h =
    let o = ordered_facts low b bs h in
    ordered_from lower b bs
    (record {
      first = omega (arith, le, o.first);
      some = o.some;
      session = o.session;
      rest =
          o.rest;
    })

above_batches : (low : ℕ) (bs : Batches) → ordered_above low bs ≡ true → Above low (entries_of bs)
above_batches low [] h = tt
above_batches low (b ∷ bs) h =
    let o = ordered_facts low b bs h in
    above_append low (numbered b.0 b.1) (entries_of bs) (above_batch low b.0 b.1 o.first)
    (above_batches low bs
    (ordered_lower (b.0 + length b.1 - 1) low bs (omega (arith, o.first, o.some)) o.rest))

-- ---- one batch after others

-- the last number is that of the batch
pub last_of_push : (bs : Batches) (first : ℕ) (ops : List Op) → last_number bs < first
    → last_number (bs ++ (first, ops) ∷ []) ≡ first + length ops - 1
last_of_push [] first ops above = omega arith
last_of_push (b ∷ bs) first ops above =
    let ih : last_number (bs ++ (first, ops) ∷ []) ≡ first + length ops - 1 =
    last_of_push bs first ops (omega (arith, above)) in
    omega (arith, ih, above)

-- batches in order, and one more of higher numbers in one session, are in order
pub in_order_push : (bs : Batches) (first : ℕ) (ops : List Op) → are_in_order bs ≡ true
    → last_number bs < first → 0 < length ops
    → session_of first ≡ session_of (first + length ops - 1)
    → are_in_order (bs ++ (first, ops) ∷ []) ≡ true
in_order_push bs first ops ordered above some same = on 0 bs ordered (omega (arith, above)) above
  where
    on : (low : ℕ) (bs : Batches) → ordered_above low bs ≡ true → low < first
        → last_number bs < first → ordered_above low (bs ++ (first, ops) ∷ []) ≡ true
    on low [] h lower above =
        ordered_from low (first, ops) []
        (record { first = lower; some = some; session = eq-eqb _ _ same; rest = refl })
    on low (b ∷ bs) h lower above =
        let o = ordered_facts low b bs h in
        ordered_from low b (bs ++ (first, ops) ∷ []) (record {
          first = o.first;
          some = o.some;
          session = o.session;
          rest = on (b.0 + length b.1 - 1) bs o.rest (omega (arith, above)) (omega (arith, above));
        })

entries_append : (bs more : Batches) → entries_of (bs ++ more) ≡ entries_of bs ++ entries_of more
entries_append [] more = refl
entries_append (b ∷ bs) more = ap (λ es. numbered b.0 b.1 ++ es) (entries_append bs more)
    ∙ sym (append_assoc (numbered b.0 b.1) (entries_of bs) (entries_of more))

apply_append : (es fs : List Entry) (m : Map)
    → apply_entries (es ++ fs) m ≡ apply_entries fs (apply_entries es m)
apply_append [] fs m = refl
apply_append (e ∷ es) fs m = apply_append es fs (apply_change e.key e.change m)

keep_all : (low high : ℕ) (es : List Entry) → Above low es → UpTo high es
    → entries_between low high es ≡ es
keep_all low high [] above upto = refl
keep_all low high (e ∷ es) above upto =
    let inside : (nat_lt low e.number && nat_le e.number high) ≡ true =
    grind (arith, nat_tests, above.0, upto.0) in
    rw inside (ap (λ x. e ∷ x) (keep_all low high es above.1 upto.1))

keep_none : (low high : ℕ) (es : List Entry) → Above high es → entries_between low high es ≡ []
keep_none low high [] above = refl
keep_none low high (e ∷ es) above =
    let outside : (nat_lt low e.number && nat_le e.number high) ≡ false =
    grind (arith, nat_tests, above.0) in
    rw outside (keep_none low high es above.1)

keep_same : (low high higher : ℕ) (es : List Entry) → UpTo high es → high ≤ higher
    → entries_between low higher es ≡ entries_between low high es
keep_same low high higher [] upto le = refl
keep_same low high higher (e ∷ es) upto le =
    let one : nat_le e.number higher ≡ true = grind (arith, nat_tests, upto.0, le) in
    let two : nat_le e.number high ≡ true = grind (arith, nat_tests, upto.0) in
    rw (one, two, keep_same low high higher es upto.1 le) refl

-- batches of higher numbers don't change the map at a number
pub map_before : (bs more : Batches) (n : ℕ) → ordered_above n more ≡ true
    → map_at (bs ++ more) n ≡ map_at bs n
map_before bs more n above =
    let each : entries_between 0 n (entries_of (bs ++ more)) ≡ entries_between 0 n (entries_of bs) =
    ap (entries_between 0 n) (entries_append bs more)
    ∙ filter-append _ (entries_of bs) (entries_of more)
    ∙ ap (λ es. entries_between 0 n (entries_of bs) ++ es)
    (keep_none 0 n (entries_of more) (above_batches n more above))
    ∙ append-nil (entries_between 0 n (entries_of bs)) in
    ap (λ es. apply_entries es []) each

-- the map after one more batch is the map before it with the batch's operations applied
pub map_after : (bs : Batches) (first : ℕ) (ops : List Op) → last_number bs < first
    → map_at (bs ++ (first, ops) ∷ []) (first + length ops - 1)
    ≡ apply_entries (numbered first ops) (map_at bs (last_number bs))
map_after bs first ops above =
    let n : ℕ = first + length ops - 1 in
    let old : entries_between 0 n (entries_of bs)
    ≡ entries_between 0 (last_number bs) (entries_of bs) =
    keep_same 0 (last_number bs) n (entries_of bs) (upto_batches (last_number bs) bs (omega arith))
    (omega (arith, above)) in
    let new : entries_between 0 n (numbered first ops) ≡ numbered first ops =
    keep_all 0 n (numbered first ops) (above_batch 0 first ops (omega (arith, above)))
    (upto_batch n first ops (omega arith)) in
    let whole : entries_between 0 n (entries_of (bs ++ (first, ops) ∷ []))
    ≡ entries_between 0 (last_number bs) (entries_of bs) ++ numbered first ops =
    ap (entries_between 0 n)
    (entries_append bs ((first, ops) ∷ [])
    ∙ ap (λ es. entries_of bs ++ es) (append-nil (numbered first ops)))
    ∙ filter-append _ (entries_of bs) (numbered first ops)
    ∙ ap (λ es. es ++ entries_between 0 n (numbered first ops)) old
    ∙ ap (λ es. entries_between 0 (last_number bs) (entries_of bs) ++ es) new in
    ap (λ es. apply_entries es []) whole
    ∙ apply_append (entries_between 0 (last_number bs) (entries_of bs)) (numbered first ops) []

-- the map after a batch of one operation
pub map_after_one : (bs : Batches) (first : ℕ) (op : Op) → last_number bs < first
    → map_at (bs ++ (first, op ∷ []) ∷ []) first
    ≡ apply_change op.key op.change (map_at bs (last_number bs))
map_after_one bs first op above =
    let same : first + 1 - 1 ≡ first = omega arith in
    subst (λ n. map_at (bs ++ (first, op ∷ []) ∷ []) n
    ≡ apply_change op.key op.change (map_at bs (last_number bs))) same
    (map_after bs first (op ∷ []) above)

-- ---- the value of a key after one more operation

pub value_after_put : (bs : Batches) (first : ℕ) (k v : Bytes) → last_number bs < first
    → value_at (bs ++ (first, record { key = k; change = Put v } ∷ []) ∷ []) first k ≡ Some v
value_after_put bs first k v above =
    ap (lookup k) (map_after_one bs first (record { key = k; change = Put v }) above)
    ∙ lookup_set k v (map_at bs (last_number bs))

pub value_after_delete : (bs : Batches) (first : ℕ) (k : Bytes) → last_number bs < first
    → value_at (bs ++ (first, record { key = k; change = Delete } ∷ []) ∷ []) first k ≡ None
value_after_delete bs first k above =
    ap (lookup k) (map_after_one bs first (record { key = k; change = Delete }) above)
    ∙ lookup_remove k (map_at bs (last_number bs))

pub value_after_other : (bs : Batches) (first : ℕ) (op : Op) (k : Bytes) → last_number bs < first
    → key_eq k op.key ≡ false
    → value_at (bs ++ (first, op ∷ []) ∷ []) first k ≡ value_at bs (last_number bs) k
value_after_other bs first op k above differ =
    ap (lookup k) (map_after_one bs first op above) ∙ by op.change
  where
    by : (change : Change)
        → lookup k (apply_change op.key change (map_at bs (last_number bs)))
        ≡ lookup k (map_at bs (last_number bs))
    by (Put v) = lookup_set_other k op.key v (map_at bs (last_number bs)) differ
    by Delete = lookup_remove_other k op.key (map_at bs (last_number bs)) differ
