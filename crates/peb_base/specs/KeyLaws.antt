-- Laws of the order of keys.
use Rattle.std.proofs.Common.{◌≡◌, ◌≢◌, Bool, true, false, not, refl, sym, ◌∙◌, ap}
use Rattle.std.specs.declared.cmp.Ordering.{Ordering}
use Rattle.std.specs.declared.cmp.Ordering.TheVariants.{Less, Equal, Greater}
use Rattle.std.specs.Ordering.{nat_cmp, is_lt, ordering_reverse}
use Rattle.std.specs.Cmp.Lexicographic.{slice_cmp, nat_list_cmp_total, bytes_decides}
use Rattle.std.proofs.lemmas.Bool.{true≢false, false≢true, not-true, false_from_ne_true}
use Rattle.peb_base.specs.Keys.{Bytes, key_lt, key_le, key_eq}

less : (a b : Bytes) → key_lt a b ≡ true → slice_cmp nat_cmp a b ≡ Less
less a b h = by (slice_cmp nat_cmp a b) h
  where
    by : (o : Ordering) → is_lt o ≡ true → o ≡ Less
    by Less h = refl
    by Equal h = absurd (false≢true h)
    by Greater h = absurd (false≢true h)

pub lt_trans : (a b c : Bytes) → key_lt a b ≡ true → key_lt b c ≡ true → key_lt a c ≡ true
lt_trans a b c h g = ap is_lt (nat_list_cmp_total.trans a b c (less a b h) (less b c g))

pub lt_asym : (a b : Bytes) → key_lt a b ≡ true → key_lt b a ≡ false
lt_asym a b h = ap is_lt (nat_list_cmp_total.antisymm b a ∙ ap ordering_reverse (less a b h))

-- where a is below c, every b is above a or below c
pub lt_split : (a b c : Bytes) → key_lt a c ≡ true → key_lt a b ≡ false → key_lt b c ≡ true
lt_split a b c h nb = by (slice_cmp nat_cmp a b) refl
  where
    by : (o : Ordering) → slice_cmp nat_cmp a b ≡ o → key_lt b c ≡ true
    by Less e = absurd (true≢false (sym (ap is_lt e) ∙ nb))
    by Equal e = ap is_lt (sym (nat_list_cmp_total.congr a b c e)) ∙ h
    by Greater e =
        let ba : slice_cmp nat_cmp b a ≡ Less = nat_list_cmp_total.antisymm b a
        ∙ ap ordering_reverse e in
        ap is_lt (nat_list_cmp_total.trans b a c ba (less a c h))

pub le_lt : (a b c : Bytes) → key_le a b ≡ true → key_lt b c ≡ true → key_lt a c ≡ true
le_lt a b c h g = lt_split b a c g (not-true (key_lt b a) h)

pub lt_le : (a b c : Bytes) → key_lt a b ≡ true → key_le b c ≡ true → key_lt a c ≡ true
lt_le a b c h g = by (key_lt a c) refl
  where
    by : (t : Bool) → key_lt a c ≡ t → key_lt a c ≡ true
    by true e = e
    by false e = absurd (true≢false (sym (lt_split a c b h e) ∙ not-true (key_lt c b) g))

pub le_trans : (a b c : Bytes) → key_le a b ≡ true → key_le b c ≡ true → key_le a c ≡ true
le_trans a b c h g = by (key_lt c a) refl
  where
    by : (t : Bool) → key_lt c a ≡ t → not (key_lt c a) ≡ true
    by true e = absurd (true≢false (sym (lt_le c a b e h) ∙ not-true (key_lt c b) g))
    by false e = ap not e

pub lt_le_weak : (a b : Bytes) → key_lt a b ≡ true → key_le a b ≡ true
lt_le_weak a b h = ap not (lt_asym a b h)

pub le_refl : (a : Bytes) → key_le a a ≡ true
le_refl a = by (key_lt a a) refl
  where
    by : (t : Bool) → key_lt a a ≡ t → not (key_lt a a) ≡ true
    by true e = absurd (true≢false (sym e ∙ lt_asym a a e))
    by false e = ap not e

-- the test of equality tells equality
pub same_key : (a b : Bytes) → key_eq a b ≡ true → a ≡ b
same_key a b h = (bytes_decides a b).0 h

pub key_self : (a : Bytes) → key_eq a a ≡ true
key_self a = (bytes_decides a a).1 refl

pub other_key : (a b : Bytes) → a ≢ b → key_eq a b ≡ false
other_key a b differ = false_from_ne_true (key_eq a b) (λ h. differ (same_key a b h))
