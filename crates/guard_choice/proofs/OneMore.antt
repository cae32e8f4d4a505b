-- One more key among ascending ones.
use Rattle.std.proofs.Common.{◌≡◌, ℕ, zero, suc, ◌<◌, ◌≤◌, min, Bool, true, false, ◌&&◌, ◌||◌, List, [], ◌∷◌, length, get_or, set, cond, refl, sym, ap, ◌∙◌, subst, arith, nat_le}
use Rattle.std.proofs.Math.Bool.{or-false, or_assoc, or_comm}
use Rattle.std.proofs.lemmas.Bool.{both_ways}
use Rattle.std.proofs.lemmas.Bool.Decides.{nat_tests}
use Rattle.std.proofs.lemmas.Map.Lookups.{exact_bytes}
use Rattle.std.specs.Cmp.Lexicographic.{slice_cmp, nat_list_cmp_total}
use Rattle.std.specs.List.{insert}
use Rattle.std.specs.Ordering.{nat_cmp, is_lt, ordering_reverse}
use Rattle.std.specs.declared.cmp.Ordering.{Ordering}
use Rattle.std.specs.declared.cmp.Ordering.TheVariants.{Less, Equal, Greater}
use Rattle.peb_base.specs.Keys.{Bytes, key_lt, key_eq}
use Rattle.peb_base.specs.KeyLaws.{same_key, key_self}
use Rattle.flsm_model.specs.declared.chosen.Chosen.{Chosen}
use Rattle.guard_choice.specs.Candidates.{Ascend}
use Rattle.flsm_model.specs.Fits.{is_candidate}
use Rattle.guard_choice.specs.Sorted.{place_in, with_chosen}
use Rattle.guard_choice.proofs.Places.{AreAbove, above-from}

-- ---- where it is put

pub put-same : (c d : Chosen) (cs : List Chosen) → place_in c.key cs < length cs → key_eq (get_or cs (place_in c.key cs) d).key c.key ≡ true
    → set cs (place_in c.key cs) (record { key = (get_or cs (place_in c.key cs) d).key; level = min (get_or cs (place_in c.key cs) d).level c.level }) ≡ with_chosen c cs
put-same c d [] within same = absurd (omega arith)
put-same c d (e ∷ cs) within same = by (key_lt e.key c.key) refl (put-same c d cs) within same
  where
    by : (b : Bool) → key_lt e.key c.key ≡ b
        → (place_in c.key cs < length cs → key_eq (get_or cs (place_in c.key cs) d).key c.key ≡ true
        → set cs (place_in c.key cs) (record { key = (get_or cs (place_in c.key cs) d).key; level = min (get_or cs (place_in c.key cs) d).level c.level }) ≡ with_chosen c cs)
        → cond b (suc (place_in c.key cs)) 0 < suc (length cs) → key_eq (get_or (e ∷ cs) (cond b (suc (place_in c.key cs)) 0) d).key c.key ≡ true
        → set (e ∷ cs) (cond b (suc (place_in c.key cs)) 0)
        (record { key = (get_or (e ∷ cs) (cond b (suc (place_in c.key cs)) 0) d).key; level = min (get_or (e ∷ cs) (cond b (suc (place_in c.key cs)) 0) d).level c.level })
        ≡ cond b (e ∷ with_chosen c cs) (cond (key_eq e.key c.key) (record { key = e.key; level = min e.level c.level } ∷ cs) (c ∷ e ∷ cs))
    by true less ih within same = ap (λ l. e ∷ l) (ih (omega arith) same)
    by false least ih within same = rw same refl

pub put-new : (c d : Chosen) (cs : List Chosen) → (place_in c.key cs < length cs → key_eq (get_or cs (place_in c.key cs) d).key c.key ≡ false) → insert cs (place_in c.key cs) c ≡ with_chosen c cs
put-new c d [] other = refl
put-new c d (e ∷ cs) other = by (key_lt e.key c.key) refl (put-new c d cs) other
  where
    by : (b : Bool) → key_lt e.key c.key ≡ b
        → ((place_in c.key cs < length cs → key_eq (get_or cs (place_in c.key cs) d).key c.key ≡ false) → insert cs (place_in c.key cs) c ≡ with_chosen c cs)
        → (cond b (suc (place_in c.key cs)) 0 < suc (length cs) → key_eq (get_or (e ∷ cs) (cond b (suc (place_in c.key cs)) 0) d).key c.key ≡ false)
        → insert (e ∷ cs) (cond b (suc (place_in c.key cs)) 0) c
        ≡ cond b (e ∷ with_chosen c cs) (cond (key_eq e.key c.key) (record { key = e.key; level = min e.level c.level } ∷ cs) (c ∷ e ∷ cs))
    by true less ih other = ap (λ l. e ∷ l) (ih (λ within. other (omega arith)))
    by false least ih other = rw (other (omega arith)) refl

pub same-item : (cs : List Chosen) (at : ℕ) (x y : Chosen) → at < length cs → x ≡ get_or cs at x → y ≡ get_or cs at y → x ≡ y
same-item [] at x y within here there = absurd (omega arith)
same-item (c ∷ cs) zero x y within here there = here ∙ sym there
same-item (c ∷ cs) (suc at) x y within here there = same-item cs at x y (omega arith) here there

pub put-at : (c d e : Chosen) (cs : List Chosen) (at level : ℕ) → at ≡ place_in c.key cs → at < length cs → d ≡ get_or cs at d → e ≡ get_or cs at e
    → key_eq d.key c.key ≡ true → level ≡ min d.level c.level → set cs at (record { key = e.key; level = level }) ≡ with_chosen c cs
put-at c d e cs at level is within here there same least =
    ap (λ n. set cs at (record { key = e.key; level = n })) least
    ∙ ap (λ x. set cs at (record { key = x.key; level = min d.level c.level })) (same-item cs at e d within there here)
    ∙ subst (λ n. n < length cs → d ≡ get_or cs n d → set cs n (record { key = d.key; level = min d.level c.level }) ≡ with_chosen c cs) (sym is)
    (λ inside holds. ap (λ x. set cs (place_in c.key cs) (record { key = x.key; level = min x.level c.level })) holds ∙ put-same c d cs inside (subst (λ x. key_eq x.key c.key ≡ true) holds same))
    within here

pub put-behind : (c d : Chosen) (cs : List Chosen) (at : ℕ) → at ≡ place_in c.key cs → d ≡ get_or cs at d → key_eq d.key c.key ≡ false → insert cs at c ≡ with_chosen c cs
put-behind c d cs at is here other =
    subst (λ n. d ≡ get_or cs n d → insert cs n c ≡ with_chosen c cs) (sym is) (λ holds. put-new c d cs (λ within. subst (λ x. key_eq x.key c.key ≡ false) holds other)) here

pub put-last : (c : Chosen) (cs : List Chosen) (at : ℕ) → at ≡ place_in c.key cs → length cs ≤ at → insert cs at c ≡ with_chosen c cs
put-last c cs at is past = subst (λ n. length cs ≤ n → insert cs n c ≡ with_chosen c cs) (sym is) (λ beyond. put-new c c cs (λ within. absurd (omega arith))) past

-- ---- what it changes

-- one more is taken from what is still to come
pub handed : (a p b : Bool) → ((a || p) || b) ≡ (a || (b || p))
handed true p b = refl
handed false p b = or_comm p b

least-level : (a b level : ℕ) → nat_le (min a b) level ≡ (nat_le a level || nat_le b level)
least-level a b level = grind (arith, nat_tests)

-- the shallower of two levels
shallower : (a b e rest : Bool) → (((a || b) && e) || rest) ≡ (((a && e) || rest) || (b && e))
shallower true b true rest = refl
shallower true true false rest = sym (or-false _)
shallower true false false rest = sym (or-false _)
shallower false true true true = refl
shallower false true true false = refl
shallower false true false rest = sym (or-false _)
shallower false false e rest = sym (or-false _)

pub one-more : (c : Chosen) (cs : List Chosen) (level : ℕ) (key : Bytes) → is_candidate (with_chosen c cs) level key ≡ (is_candidate cs level key || (nat_le c.level level && key_eq key c.key))
one-more c [] level key = or-false _
one-more c (d ∷ cs) level key = by (key_lt d.key c.key) (key_eq d.key c.key) refl (one-more c cs level key)
  where
    by : (a b : Bool) → key_eq d.key c.key ≡ b → is_candidate (with_chosen c cs) level key ≡ (is_candidate cs level key || (nat_le c.level level && key_eq key c.key))
        → is_candidate (cond a (d ∷ with_chosen c cs) (cond b (record { key = d.key; level = min d.level c.level } ∷ cs) (c ∷ d ∷ cs))) level key
        ≡ (((nat_le d.level level && key_eq key d.key) || is_candidate cs level key) || (nat_le c.level level && key_eq key c.key))
    by true b same ih = ap (λ r. (nat_le d.level level && key_eq key d.key) || r) ih ∙ sym (or_assoc (nat_le d.level level && key_eq key d.key) (is_candidate cs level key) (nat_le c.level level && key_eq key c.key))
    by false true same ih =
        ap (λ t. (t && key_eq key d.key) || is_candidate cs level key) (least-level d.level c.level level)
        ∙ shallower (nat_le d.level level) (nat_le c.level level) (key_eq key d.key) (is_candidate cs level key)
        ∙ ap (λ k. ((nat_le d.level level && key_eq key d.key) || is_candidate cs level key) || (nat_le c.level level && key_eq key k)) (same_key d.key c.key same)
    by false false same ih = or_comm (nat_le c.level level && key_eq key c.key) ((nat_le d.level level && key_eq key d.key) || is_candidate cs level key)

-- ---- the order

above-more : (key : Bytes) (c : Chosen) (cs : List Chosen) → key_lt key c.key ≡ true → AreAbove key cs → AreAbove key (with_chosen c cs)
above-more key c [] less above = (less, tt)
above-more key c (d ∷ cs) less above = by (key_lt d.key c.key) (key_eq d.key c.key) (above-more key c cs less above.1)
  where
    by : (a b : Bool) → AreAbove key (with_chosen c cs) → AreAbove key (cond a (d ∷ with_chosen c cs) (cond b (record { key = d.key; level = min d.level c.level } ∷ cs) (c ∷ d ∷ cs)))
    by true b ih = (above.0, ih)
    by false true ih = (above.0, above.1)
    by false false ih = (less, above)

after : (a b : Bytes) → key_lt a b ≡ false → key_eq a b ≡ false → key_lt b a ≡ true
after a b least other = by (slice_cmp nat_cmp a b) refl
  where
    by : (o : Ordering) → slice_cmp nat_cmp a b ≡ o → key_lt b a ≡ true
    by Less e = absurd (both_ways (key_lt a b) least (ap is_lt e))
    by Equal e = absurd (both_ways (key_eq a b) other (subst (λ k. key_eq a k ≡ true) (exact_bytes a b e) (key_self a)))
    by Greater e = ap is_lt (nat_list_cmp_total.antisymm b a ∙ ap ordering_reverse e)

pub ascend-more : (c : Chosen) (cs : List Chosen) → Ascend cs → Ascend (with_chosen c cs)
ascend-more c [] ascend = (tt, tt)
ascend-more c (d ∷ cs) ascend = by (key_lt d.key c.key) (key_eq d.key c.key) refl refl (ascend-more c cs ascend.1)
  where
    by : (a b : Bool) → key_lt d.key c.key ≡ a → key_eq d.key c.key ≡ b → Ascend (with_chosen c cs)
        → Ascend (cond a (d ∷ with_chosen c cs) (cond b (record { key = d.key; level = min d.level c.level } ∷ cs) (c ∷ d ∷ cs)))
    by true b less other ih = (above-more d.key c cs less ascend.0, ih)
    by false true least same ih = (ascend.0, ascend.1)
    by false false least other ih = let less = after d.key c.key least other in ((less, above-from c.key d.key cs less ascend.0), ascend)
