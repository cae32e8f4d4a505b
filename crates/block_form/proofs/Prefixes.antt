-- Common prefixes, and entries as parts.
use Rattle.std.proofs.Common.{◌≡◌, ◌≢◌, ℕ, zero, suc, ◌+◌, ◌<◌, ◌≤◌, Bool, true, false, List, [], ◌∷◌, ◌++◌, length, take, drop, get_or, refl, sym, ap, ◌∙◌, subst, arith, append_assoc, take-append-drop, length-drop}
use Rattle.std.specs.Prelude.{if◌then◌else◌, ◌==◌, nat_lt, IsTrue}
use Rattle.std.proofs.lemmas.Bool.Decides.{nat_tests}
use Rattle.std.proofs.lemmas.List.{drop_at, length-take-le}
use Rattle.std.specs.declared.cmp.Ordering.{Ordering}
use Rattle.std.specs.Ordering.{nat_cmp, ordering_then}
use Rattle.std.specs.Cmp.Lexicographic.{slice_cmp}
use Rattle.std.proofs.lemmas.Cmp.{tied_itself, nat_cmp_total}
use Rattle.peb_base.specs.Keys.{Bytes}
use Rattle.peb_base.specs.EntryLaws.{decided, comes_before_by}
use Rattle.peb_base.specs.Entries.{value_of, comes_before, IsEntry}
use Rattle.peb_base.specs.Tables.{common_prefix, shared_length}
use Rattle.peb_base.specs.declared.entry.Entry.{Entry}
use Rattle.block_form.specs.declared.head.Head.{Head}
use Rattle.block_form.specs.Parts.{Parts, parts_bytes, FitsParts, head_bytes, head_of_parts}
use Rattle.block_form.specs.Form.{is_restart, parts_at, entry_bytes}
use Rattle.block_form.specs.Walks.{entry_from, Meets, IsNext}
use Rattle.block_form.proofs.Spelling.{one_parts, length-parts}

pub prefix-left : (xs ys : Bytes) → common_prefix xs ys ≤ length xs
prefix-left [] ys = omega arith
prefix-left (x ∷ xs) [] = omega arith
prefix-left (x ∷ xs) (y ∷ ys) = by (x == y) (prefix-left xs ys)
  where
    by : (b : Bool) → common_prefix xs ys ≤ length xs → (if b then suc (common_prefix xs ys) else 0) ≤ suc (length xs)
    by true ih = omega (arith, ih)
    by false ih = omega arith

pub prefix-right : (xs ys : Bytes) → common_prefix xs ys ≤ length ys
prefix-right [] ys = omega arith
prefix-right (x ∷ xs) [] = omega arith
prefix-right (x ∷ xs) (y ∷ ys) = by (x == y) (prefix-right xs ys)
  where
    by : (b : Bool) → common_prefix xs ys ≤ length ys → (if b then suc (common_prefix xs ys) else 0) ≤ suc (length ys)
    by true ih = omega (arith, ih)
    by false ih = omega arith

eq_from : (x y : ℕ) → (x == y) ≡ true → x ≡ y
eq_from x y e = grind (arith, nat_tests)

eq_self : (x : ℕ) → (x == x) ≡ true
eq_self x = grind (arith, nat_tests)

pub prefix-take : (xs ys : Bytes) → take (common_prefix xs ys) xs ≡ take (common_prefix xs ys) ys
prefix-take [] ys = refl
prefix-take (x ∷ xs) [] = refl
prefix-take (x ∷ xs) (y ∷ ys) = by (x == y) refl (prefix-take xs ys)
  where
    by : (b : Bool) → (x == y) ≡ b → take (common_prefix xs ys) xs ≡ take (common_prefix xs ys) ys
        → take (if b then suc (common_prefix xs ys) else 0) (x ∷ xs) ≡ take (if b then suc (common_prefix xs ys) else 0) (y ∷ ys)
    by true e ih = λ i. eq_from x y e i ∷ ih i
    by false e ih = refl

pub prefix-after : (n : ℕ) (xs ys : Bytes) → n ≤ length xs → common_prefix xs (take n xs ++ ys) ≡ n + common_prefix (drop n xs) ys
prefix-after zero xs ys h = omega arith
prefix-after (suc n) [] ys h = absurd (omega arith)
prefix-after (suc n) (x ∷ xs) ys h = by (x == x) (eq_self x) (prefix-after n xs ys (omega arith))
  where
    by : (b : Bool) → b ≡ true → common_prefix xs (take n xs ++ ys) ≡ n + common_prefix (drop n xs) ys
        → (if b then suc (common_prefix xs (take n xs ++ ys)) else 0) ≡ suc n + common_prefix (drop n xs) ys
    by true e ih = omega (arith, ih)
    by false e ih = absurd (grind arith)

pub cmp-after : (n : ℕ) (xs ys : Bytes) → n ≤ length xs → slice_cmp nat_cmp xs (take n xs ++ ys) ≡ slice_cmp nat_cmp (drop n xs) ys
cmp-after zero xs ys h = refl
cmp-after (suc n) [] ys h = absurd (omega arith)
cmp-after (suc n) (x ∷ xs) ys h =
    ap (λ o. ordering_then o (slice_cmp nat_cmp xs (take n xs ++ ys))) (tied_itself nat_cmp_total x) ∙ cmp-after n xs ys (omega arith)

pub shared-left : (place : ℕ) (before key : Bytes) → shared_length place before key ≤ length before
shared-left place before key = by (is_restart place)
  where
    by : (b : Bool) → (if b then 0 else common_prefix before key) ≤ length before
    by true = omega arith
    by false = prefix-left before key

pub shared-right : (place : ℕ) (before key : Bytes) → shared_length place before key ≤ length key
shared-right place before key = by (is_restart place)
  where
    by : (b : Bool) → (if b then 0 else common_prefix before key) ≤ length key
    by true = omega arith
    by false = prefix-right before key

pub shared-take : (place : ℕ) (before key : Bytes) → take (shared_length place before key) before ≡ take (shared_length place before key) key
shared-take place before key = by (is_restart place)
  where
    by : (b : Bool) → take (if b then 0 else common_prefix before key) before ≡ take (if b then 0 else common_prefix before key) key
    by true = refl
    by false = prefix-take before key

-- the key is what it shares and the rest
pub entry_again : (place : ℕ) (before : Bytes) (e : Entry) → entry_from before (parts_at place before e) ≡ e
entry_again place before e =
    let n = shared_length place before e.key in
    let key : take n before ++ drop n e.key ≡ e.key = ap (λ l. l ++ drop n e.key) (shared-take place before e.key) ∙ take-append-drop n e.key in
    λ i. record { key = key i; number = e.number; change = e.change }

-- parts of which the shared part is the longest are those of their entry
pub parts_once : (place : ℕ) (before : Bytes) (p : Parts) → p.shared ≤ length before → shared_length place before (take p.shared before ++ p.rest) ≡ p.shared
    → parts_at place before (entry_from before p) ≡ p
parts_once place before p kept longest =
    let rest : drop p.shared (take p.shared before ++ p.rest) ≡ p.rest = drop_at (take p.shared before) p.rest p.shared (length-take-le p.shared before kept) in
    (λ i. record { shared = longest i; rest = drop (longest i) (take p.shared before ++ p.rest); number = p.number; change = p.change })
    ∙ (λ i. record { shared = p.shared; rest = rest i; number = p.number; change = p.change })

pub parts_fit : (place : ℕ) (before : Bytes) (e : Entry) → IsEntry e → FitsParts (parts_at place before e)
parts_fit place before e is =
    record {
      shared = omega (arith, shared-right place before e.key, is.key);
      rest = omega (arith, length-drop (shared_length place before e.key) e.key, is.key);
      number = omega (arith, is.number);
      value = omega (arith, is.value);
    }

meets_own : (place : ℕ) (before : Bytes) (above : ℕ) (e : Entry) (p : Parts) → IsEntry e → comes_before before above e.key e.number ≡ true → parts_at place before e ≡ p → Meets place before above p
meets_own place before above e p is after same = subst (λ (q : Parts). Meets place before above q) same own
  where
    again : entry_from before (parts_at place before e) ≡ e
    again = entry_again place before e

    own : Meets place before above (parts_at place before e)
    own =
        record {
          kept = shared-left place before e.key;
          longest = ap (λ (f : Entry). shared_length place before f.key) again;
          entry = subst IsEntry (sym again) is;
          after = ap (λ (f : Entry). comes_before before above f.key f.number) again ∙ after;
        }

-- the parts that stand at the front are those of the entry that stands there
pub one_front : (place : ℕ) (before : Bytes) (bytes behind after : List ℕ) (e : Entry) (p : Parts) → FitsParts p → bytes ≡ parts_bytes p ++ after → IsEntry e → bytes ≡ entry_bytes place before e ++ behind
    → (parts_at place before e ≡ p) × (behind ≡ after)
unfolding entry_bytes
one_front place before bytes behind after e p fits found is spelled =
    one_parts (parts_at place before e) p behind after (parts_fit place before e is) fits (sym spelled ∙ found)

pub must_meet : (place : ℕ) (before : Bytes) (above : ℕ) (bytes behind after : List ℕ) (e : Entry) (p : Parts) → FitsParts p → bytes ≡ parts_bytes p ++ after
    → IsEntry e → comes_before before above e.key e.number ≡ true → bytes ≡ entry_bytes place before e ++ behind → Meets place before above p
must_meet place before above bytes behind after e p fits found is later spelled =
    meets_own place before above e p is later (one_front place before bytes behind after e p fits found is spelled).0

pub next_found : (place : ℕ) (before : Bytes) (above : ℕ) (bytes after : List ℕ) (p : Parts) → Meets place before above p → bytes ≡ parts_bytes p ++ after → IsNext place before above bytes p after
unfolding entry_bytes
next_found place before above bytes after p meets found =
    record { meets = meets; spelled = found ∙ ap (λ (q : Parts). parts_bytes q ++ after) (sym (parts_once place before p meets.kept meets.longest)) }

pub none_front : (place : ℕ) (before : Bytes) (bytes : List ℕ) → ((p : Parts) (behind : List ℕ) → FitsParts p → bytes ≢ parts_bytes p ++ behind)
    → (e : Entry) (behind : List ℕ) → IsEntry e → bytes ≢ entry_bytes place before e ++ behind
unfolding entry_bytes
none_front place before bytes none e behind is = none (parts_at place before e) behind (parts_fit place before e is)

pub false_not : (b : Bool) → b ≡ false → IsTrue b → ⊥
false_not b e h = cc

pub prefix-none : (xs ys : Bytes) → length ys ≡ 0 → common_prefix xs ys ≡ 0
prefix-none [] ys e = refl
prefix-none (x ∷ xs) [] e = refl
prefix-none (x ∷ xs) (y ∷ ys) e = absurd (omega (arith, e))

-- what the keys compare as behind what they share decides the order
pub after_is : (before rest : Bytes) (shared above number : ℕ) (o : Ordering) → shared ≤ length before → o ≡ slice_cmp nat_cmp (drop shared before) rest
    → comes_before before above (take shared before ++ rest) number ≡ decided o (nat_lt number above)
after_is before rest shared above number o kept e =
    comes_before_by before above (take shared before ++ rest) number ∙ ap (λ q. decided q (nat_lt number above)) (cmp-after shared before rest kept ∙ sym e)

pub shared_plain : (place shared : ℕ) (before rest : Bytes) → is_restart place ≡ false → shared ≤ length before
    → shared_length place before (take shared before ++ rest) ≡ shared + common_prefix (drop shared before) rest
shared_plain place shared before rest plain kept =
    ap (λ b. if b then 0 else common_prefix before (take shared before ++ rest)) plain ∙ prefix-after shared before rest kept

pub prefix-more : (n : ℕ) (xs ys : Bytes) → n < length xs → n < length ys → get_or xs n 0 ≡ get_or ys n 0
    → common_prefix (drop n xs) (drop n ys) ≡ suc (common_prefix (drop (suc n) xs) (drop (suc n) ys))
prefix-more n [] ys h k e = absurd (omega arith)
prefix-more n (x ∷ xs) [] h k e = absurd (omega arith)
prefix-more zero (x ∷ xs) (y ∷ ys) h k e =
    let same : (x == y) ≡ true = ap (λ (z : ℕ). x == z) (sym e) ∙ eq_self x in
    ap (λ b. if b then suc (common_prefix xs ys) else 0) same
prefix-more (suc n) (x ∷ xs) (y ∷ ys) h k e = prefix-more n xs ys (omega arith) (omega arith) e

pub prefix-stop : (n : ℕ) (xs ys : Bytes) → n < length xs → n < length ys → get_or xs n 0 ≢ get_or ys n 0 → common_prefix (drop n xs) (drop n ys) ≡ 0
prefix-stop n [] ys h k e = absurd (omega arith)
prefix-stop n (x ∷ xs) [] h k e = absurd (omega arith)
prefix-stop zero (x ∷ xs) (y ∷ ys) h k e =
    let other : (x == y) ≡ false = grind (arith, nat_tests, e) in
    ap (λ b. if b then suc (common_prefix xs ys) else 0) other
prefix-stop (suc n) (x ∷ xs) (y ∷ ys) h k e = prefix-stop n xs ys (omega arith) (omega arith) e

pub prefix-past_right : (n : ℕ) (xs ys : Bytes) → length ys ≤ n → common_prefix xs (drop n ys) ≡ 0
prefix-past_right n xs ys h = prefix-none xs (drop n ys) (omega (arith, length-drop n ys))

-- the parts that stand where an entry stands
pub known_parts : (place : ℕ) (before : Bytes) (bytes behind after : List ℕ) (e : Entry) (p : Parts) → FitsParts p → bytes ≡ parts_bytes p ++ after → IsEntry e → bytes ≡ entry_bytes place before e ++ behind
    → (take p.shared before ++ p.rest ≡ e.key) × (p.number ≡ e.number) × (p.change ≡ e.change) × (after ≡ behind)
known_parts place before bytes behind after e p fits found is spelled =
    let both = one_front place before bytes behind after e p fits found is spelled in
    let mine : entry_from before p ≡ e = sym (ap (entry_from before) both.0) ∙ entry_again place before e in
    (ap (λ (f : Entry). f.key) mine, ap (λ (f : Entry). f.number) mine, ap (λ (f : Entry). f.change) mine, sym both.1)

pub known_kept : (place : ℕ) (before : Bytes) (bytes behind after : List ℕ) (e : Entry) (p : Parts) → FitsParts p → bytes ≡ parts_bytes p ++ after → IsEntry e → bytes ≡ entry_bytes place before e ++ behind
    → (p.shared ≤ length before) × (p.shared + length p.rest ≤ 1024)
known_kept place before bytes behind after e p fits found is spelled =
    subst (λ (q : Parts). (q.shared ≤ length before) × (q.shared + length q.rest ≤ 1024)) (one_front place before bytes behind after e p fits found is spelled).0
    (shared-left place before e.key, omega (arith, length-drop (shared_length place before e.key) e.key, shared-right place before e.key, is.key))

pub entry-spelled : (place : ℕ) (before : Bytes) (e : Entry) (out head rest value : List ℕ) (h : Head) → head ≡ head_bytes h → h ≡ head_of_parts (parts_at place before e) → rest ≡ drop (shared_length place before e.key) e.key → value ≡ value_of e.change
    → ((out ++ head) ++ rest) ++ value ≡ out ++ entry_bytes place before e
unfolding entry_bytes parts_bytes
entry-spelled place before e out head rest value h a b c d =
    (λ i. ((out ++ (a ∙ ap head_bytes b) i) ++ c i) ++ d i)
    ∙ append_assoc (out ++ head_bytes (head_of_parts p)) p.rest (value_of e.change)
    ∙ append_assoc out (head_bytes (head_of_parts p)) (p.rest ++ value_of e.change)
  where
    p : Parts
    p = parts_at place before e

pub length-entry-parts : (place : ℕ) (before : Bytes) (e : Entry)
    → length (entry_bytes place before e) ≡ 17 + (length (drop (shared_length place before e.key) e.key) + length (value_of e.change))
unfolding entry_bytes
length-entry-parts place before e = length-parts (parts_at place before e)

pub entry-small : (place : ℕ) (before : Bytes) (e : Entry) → IsEntry e → length (entry_bytes place before e) ≤ 33809
entry-small place before e is =
    omega (arith, length-entry-parts place before e, length-drop (shared_length place before e.key) e.key, is.key, is.value)
