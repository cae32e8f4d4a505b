-- How keys cut entries that come one after another.
use Rattle.std.proofs.Common.{◌≡◌, ℕ, suc, ◌+◌, ◌<◌, Bool, true, false, not, cond, List, [], ◌∷◌, ◌++◌, map, refl, sym, ap, ◌∙◌, subst, arith, append_assoc}
use Rattle.std.specs.Prelude.{filter, if◌then◌else◌}
use Rattle.std.specs.List.{AllByRecursion}
use Rattle.std.proofs.lemmas.Bool.{false≢true}
use Rattle.std.proofs.lemmas.List.{append-nil, map-append}
use Rattle.std.proofs.lemmas.List.Elements.{filter-append}
use Rattle.peb_base.specs.Keys.{Bytes, key_lt, key_le}
use Rattle.peb_base.specs.KeyLaws.{le_lt}
use Rattle.peb_base.specs.declared.entry.Entry.{Entry}
use Rattle.flsm_model.specs.Compaction.{before_key, from_key, some_entries, pieces}
use Rattle.table_file.specs.Pieces.{Piece, some_piece, pieces_from, range_of, longer}

all_push : {X : Type 0} (P : X → Type 0) (xs : List X) (x : X) → AllByRecursion P xs → P x
    → AllByRecursion P (xs ++ x ∷ [])
all_push P [] x h p = (p, tt)
all_push P (y ∷ xs) x h p = (h.0, all_push P xs x h.1 p)

pub all_to : {X : Type 0} (P Q : X → Type 0) (xs : List X) → ((x : X) → P x → Q x)
    → AllByRecursion P xs → AllByRecursion Q xs
all_to P Q [] f h = tt
all_to P Q (x ∷ xs) f h = (f x h.0, all_to P Q xs f h.1)

all_filter : {X : Type 0} (t : X → Bool) (P Q : X → Type 0) (xs : List X)
    → ((x : X) → t x ≡ true → P x → Q x) → AllByRecursion P xs → AllByRecursion Q (filter t xs)
all_filter t P Q [] f h = tt
all_filter {X} t P Q (x ∷ xs) f h = by (t x) refl (all_filter t P Q xs f h.1)
  where
    by : (b : Bool) → t x ≡ b → AllByRecursion Q (filter t xs)
        → AllByRecursion Q (cond b (x ∷ filter t xs) (filter t xs))
    by true e ih = (f x e h.0, ih)
    by false e ih = ih

all_pass : {X : Type 0} (t : X → Bool) (xs : List X) → AllByRecursion (λ x. t x ≡ true) xs
    → filter t xs ≡ xs
all_pass t [] h = refl
all_pass t (x ∷ xs) h = λ i. cond (h.0 i) (x ∷ all_pass t xs h.1 i) (all_pass t xs h.1 i)

none_pass : {X : Type 0} (t : X → Bool) (xs : List X) → AllByRecursion (λ x. t x ≡ false) xs
    → filter t xs ≡ []
none_pass t [] h = refl
none_pass t (x ∷ xs) h = λ i. cond (h.0 i) (x ∷ none_pass t xs h.1 i) (none_pass t xs h.1 i)

-- one entry more, below the key or not
before_not : (k : Bytes) (es : List Entry) (e : Entry) → key_lt e.key k ≡ false
    → before_key k (es ++ e ∷ []) ≡ before_key k es
before_not k es e h = filter-append (λ f. key_lt f.key k) es (e ∷ [])
    ∙ ap (λ b. before_key k es ++ cond b (e ∷ []) []) h ∙ append-nil (before_key k es)

before_more : (k : Bytes) (es : List Entry) (e : Entry) → key_lt e.key k ≡ true
    → before_key k (es ++ e ∷ []) ≡ before_key k es ++ e ∷ []
before_more k es e h = filter-append (λ f. key_lt f.key k) es (e ∷ [])
    ∙ ap (λ b. before_key k es ++ cond b (e ∷ []) []) h

from_more : (k : Bytes) (es : List Entry) (e : Entry) → key_lt e.key k ≡ false
    → from_key k (es ++ e ∷ []) ≡ from_key k es ++ e ∷ []
from_more k es e h = filter-append (λ f. not (key_lt f.key k)) es (e ∷ [])
    ∙ ap (λ b. from_key k es ++ cond (not b) (e ∷ []) []) h

pub pieces_none : (n : ℕ) (ks : List Bytes) → pieces_from n ks [] ≡ []
pieces_none n [] = refl
pieces_none n (k ∷ ks) = pieces_none (suc n) ks

-- the pieces without their numbers are those of a compaction
some_entries_of : (n : ℕ) (es : List Entry)
    → map (λ (p : Piece). p.entries) (some_piece n es) ≡ some_entries es
some_entries_of n [] = refl
some_entries_of n (e ∷ es) = refl

pub pieces_are : (n : ℕ) (ks : List Bytes) (es : List Entry)
    → map (λ (p : Piece). p.entries) (pieces_from n ks es) ≡ pieces es ks
pieces_are n [] es = some_entries_of n es
pieces_are n (k ∷ ks) es =
    map-append (λ (p : Piece). p.entries) (some_piece n (before_key k es))
    (pieces_from (suc n) ks (from_key k es))
    ∙ (λ i. some_entries_of n (before_key k es) i ++ pieces_are (suc n) ks (from_key k es) i)

-- entries that are all below the first key are one piece
one_piece : (n : ℕ) (k : Bytes) (ks : List Bytes) (es : List Entry)
    → AllByRecursion (λ f. key_lt f.key k ≡ true) es → pieces_from n (k ∷ ks) es ≡ some_piece n es
one_piece n k ks es below =
    (λ i. some_piece n (all_pass (λ f. key_lt f.key k) es below i)
    ++ pieces_from (suc n) ks (none_pass (λ f. not (key_lt f.key k)) es
    (all_to (λ f. key_lt f.key k ≡ true) (λ f. not (key_lt f.key k) ≡ false) es
    (λ f h. ap not h) below) i))
    ∙ ap (λ ps. some_piece n es ++ ps) (pieces_none (suc n) ks) ∙ append-nil (some_piece n es)

-- ---- an entry of a later range

none_at_front : (es : List Entry) (n : Entry → ℕ) → AllByRecursion (λ f. n f < 0) es → es ≡ []
none_at_front [] n h = refl
none_at_front (f ∷ es) n h = absurd (omega (arith, h.0))

-- the entry alone, with this number
abbrev pub alone : ℕ → Entry → List Piece
alone n e = record { number = n; entries = e ∷ [] } ∷ []

only_alone : (n : ℕ) (e : Entry) (keys : List Bytes) → range_of e.key keys ≡ 0
    → pieces_from n keys (e ∷ []) ≡ alone n e
only_alone n e [] h = refl
only_alone n e (k ∷ ks) h = by (key_lt e.key k) refl
  where
    by : (b : Bool) → key_lt e.key k ≡ b → pieces_from n (k ∷ ks) (e ∷ []) ≡ alone n e
    by true low = one_piece n k ks (e ∷ []) (low, tt)
    by false high =
        absurd (omega (arith, sym (ap (λ b. if b then 0 else suc (range_of e.key ks)) high) ∙ h))

-- the entry's key is below none of these, and its range is a later one
abbrev pub IsLater : Entry → List Bytes → Entry → Type 0
IsLater e keys f = (key_le f.key e.key ≡ true) × (range_of f.key keys < range_of e.key keys)

-- an entry of a later range than all others begins a piece
pub next_piece : (n : ℕ) (es : List Entry) (e : Entry) (keys : List Bytes)
    → AllByRecursion (IsLater e keys) es
    → pieces_from n keys (es ++ e ∷ []) ≡ pieces_from n keys es ++ alone (n + range_of e.key keys) e
next_piece n es e [] h =
    let none : es ≡ [] = none_at_front es (λ f. 0)
    (all_to (IsLater e []) (λ f. 0 < 0) es (λ f p. p.1) h) in
    let at : n ≡ n + 0 = omega arith in
    subst (λ xs. pieces_from n [] (xs ++ e ∷ []) ≡ pieces_from n [] xs ++ alone (n + 0) e)
    (sym none) (ap (λ m. alone m e) at)
next_piece n es e (k ∷ ks) h =
    by (key_lt e.key k) refl (λ each. next_piece (suc n) (from_key k es) e ks each)
  where
    is_at : (b : Bool) → key_lt e.key k ≡ b
        → range_of e.key (k ∷ ks) ≡ (if b then 0 else suc (range_of e.key ks))
    is_at b is = ap (λ t. if t then 0 else suc (range_of e.key ks)) is

    nearer : (f : Entry) → not (key_lt f.key k) ≡ true
        → range_of f.key (k ∷ ks) < suc (range_of e.key ks) → range_of f.key ks < range_of e.key ks
    nearer f from lt = at (key_lt f.key k) refl from
      where
        at : (b : Bool) → key_lt f.key k ≡ b → not b ≡ true → range_of f.key ks < range_of e.key ks
        at true below never = absurd (false≢true never)
        at false not_below ok =
            omega (arith, lt, ap (λ b. if b then 0 else suc (range_of f.key ks)) not_below)

    by : (b : Bool) → key_lt e.key k ≡ b
        → (AllByRecursion (IsLater e ks) (from_key k es)
        → pieces_from (suc n) ks (from_key k es ++ e ∷ [])
        ≡ pieces_from (suc n) ks (from_key k es) ++ alone (suc n + range_of e.key ks) e)
        → pieces_from n (k ∷ ks) (es ++ e ∷ [])
        ≡ pieces_from n (k ∷ ks) es ++ alone (n + range_of e.key (k ∷ ks)) e
    by true low ih =
        let none : es ≡ [] = none_at_front es (λ f. range_of f.key (k ∷ ks))
        (all_to (IsLater e (k ∷ ks)) (λ f. range_of f.key (k ∷ ks) < 0) es
        (λ f p. subst (λ m. range_of f.key (k ∷ ks) < m) (is_at true low) p.1) h) in
        let at : n ≡ n + range_of e.key (k ∷ ks) = omega (arith, is_at true low) in
        subst (λ xs. pieces_from n (k ∷ ks) (xs ++ e ∷ [])
        ≡ pieces_from n (k ∷ ks) xs ++ alone (n + range_of e.key (k ∷ ks)) e) (sym none)
        (only_alone n e (k ∷ ks) (is_at true low) ∙ ap (λ m. alone m e) at
        ∙ ap (λ ps. ps ++ alone (n + range_of e.key (k ∷ ks)) e) (sym (pieces_none n (k ∷ ks))))
    by false high ih =
        let rest = ih (all_filter (λ f. not (key_lt f.key k)) (IsLater e (k ∷ ks)) (IsLater e ks) es
        (λ f from p. (
          p.0,
          nearer f from
              (subst (λ m. range_of f.key (k ∷ ks) < m) (is_at false high) p.1),
        )) h) in
        let at : suc n + range_of e.key ks ≡ n + range_of e.key (k ∷ ks) =
        omega (arith, is_at false high) in
        (λ i. some_piece n (before_not k es e high i)
        ++ pieces_from (suc n) ks (from_more k es e high i))
        ∙ ap (λ ps. some_piece n (before_key k es) ++ ps) rest
        ∙ sym (append_assoc (some_piece n (before_key k es))
        (pieces_from (suc n) ks (from_key k es)) (alone (suc n + range_of e.key ks) e))
        ∙ ap (λ m. pieces_from n (k ∷ ks) es ++ alone m e) at

-- ---- an entry of the last range

some_more : (n : ℕ) (es : List Entry) (last e : Entry)
    → some_piece n ((es ++ last ∷ []) ++ e ∷ []) ≡ longer (some_piece n (es ++ last ∷ [])) e
some_more n [] last e = refl
some_more n (f ∷ es) last e = refl

pub record HasPiece (ps : List Piece) : Type 0 where
  pub first : Piece
  pub rest : List Piece
  pub is : ps ≡ first ∷ rest

some_is : (n : ℕ) (es : List Entry) (last : Entry) → HasPiece (some_piece n (es ++ last ∷ []))
some_is n [] last =
    record { first = record { number = n; entries = last ∷ [] }; rest = []; is = refl }
some_is n (f ∷ es) last =
    record {
      first = record { number = n; entries = f ∷ (es ++ last ∷ []) };
      rest = [];
      is = refl;
    }

some_behind : (ps qs : List Piece) → HasPiece qs → HasPiece (ps ++ qs)
some_behind [] qs h = h
some_behind (p ∷ ps) qs h = record { first = p; rest = ps ++ qs; is = refl }

some_front : (ps qs : List Piece) → HasPiece ps → HasPiece (ps ++ qs)
some_front ps qs h =
    record { first = h.first; rest = h.rest ++ qs; is = ap (λ l. l ++ qs) h.is }

pub pieces_some : (n : ℕ) (ks : List Bytes) (es : List Entry) (last : Entry)
    → HasPiece (pieces_from n ks (es ++ last ∷ []))
pieces_some n [] es last = some_is n es last
pieces_some n (k ∷ ks) es last =
    by (key_lt last.key k) refl (pieces_some (suc n) ks (from_key k es) last)
  where
    by : (b : Bool) → key_lt last.key k ≡ b
        → HasPiece (pieces_from (suc n) ks (from_key k es ++ last ∷ []))
        → HasPiece (pieces_from n (k ∷ ks) (es ++ last ∷ []))
    by true low ih =
        subst (λ bs. HasPiece (some_piece n bs
        ++ pieces_from (suc n) ks (from_key k (es ++ last ∷ [])))) (sym (before_more k es last low))
        (some_front (some_piece n (before_key k es ++ last ∷ []))
        (pieces_from (suc n) ks (from_key k (es ++ last ∷ []))) (some_is n (before_key k es) last))
    by false high ih =
        subst (λ fs. HasPiece (some_piece n (before_key k (es ++ last ∷ []))
        ++ pieces_from (suc n) ks fs)) (sym (from_more k es last high))
        (some_behind (some_piece n (before_key k (es ++ last ∷ [])))
        (pieces_from (suc n) ks (from_key k es ++ last ∷ [])) ih)

pub longer_behind : (ps qs : List Piece) (e : Entry) → HasPiece qs
    → longer (ps ++ qs) e ≡ ps ++ longer qs e
longer_behind ps qs e h = subst (λ l. longer (ps ++ l) e ≡ ps ++ longer l e) (sym h.is) (at ps)
  where
    at : (ps : List Piece)
        → longer (ps ++ h.first ∷ h.rest) e ≡ ps ++ longer (h.first ∷ h.rest) e
    at [] = refl
    at (p ∷ []) = refl
    at (p ∷ q ∷ ps) = ap (λ l. p ∷ l) (at (q ∷ ps))

-- an entry of the range of the last one, whose key none is above, goes on that piece
pub same_piece : (n : ℕ) (es : List Entry) (last e : Entry) (keys : List Bytes)
    → AllByRecursion (λ f. key_le f.key last.key ≡ true) (es ++ last ∷ [])
    → range_of e.key keys ≡ range_of last.key keys
    → pieces_from n keys ((es ++ last ∷ []) ++ e ∷ [])
    ≡ longer (pieces_from n keys (es ++ last ∷ [])) e
same_piece n es last e [] h same = some_more n es last e
same_piece n es last e (k ∷ ks) h same =
    by (key_lt last.key k) refl (key_lt e.key k) refl
    (λ each near. same_piece (suc n) (from_key k es) last e ks each near)
  where
    last_is : (b : Bool) → key_lt last.key k ≡ b
        → range_of last.key (k ∷ ks) ≡ (if b then 0 else suc (range_of last.key ks))
    last_is b is = ap (λ t. if t then 0 else suc (range_of last.key ks)) is

    e_is : (b : Bool) → key_lt e.key k ≡ b
        → range_of e.key (k ∷ ks) ≡ (if b then 0 else suc (range_of e.key ks))
    e_is b is = ap (λ t. if t then 0 else suc (range_of e.key ks)) is

    by : (b : Bool) → key_lt last.key k ≡ b → (c : Bool) → key_lt e.key k ≡ c
        → (AllByRecursion (λ f. key_le f.key last.key ≡ true) (from_key k es ++ last ∷ [])
        → range_of e.key ks ≡ range_of last.key ks
        → pieces_from (suc n) ks ((from_key k es ++ last ∷ []) ++ e ∷ [])
        ≡ longer (pieces_from (suc n) ks (from_key k es ++ last ∷ [])) e)
        → pieces_from n (k ∷ ks) ((es ++ last ∷ []) ++ e ∷ [])
        ≡ longer (pieces_from n (k ∷ ks) (es ++ last ∷ [])) e
    by true low true e_low ih =
        let below : AllByRecursion (λ f. key_lt f.key k ≡ true) (es ++ last ∷ []) =
        all_to (λ f. key_le f.key last.key ≡ true) (λ f. key_lt f.key k ≡ true)
        (es ++ last ∷ []) (λ f p. le_lt f.key last.key k p low) h in
        one_piece n k ks ((es ++ last ∷ []) ++ e ∷ [])
        (all_push (λ f. key_lt f.key k ≡ true) (es ++ last ∷ []) e below e_low)
        ∙ some_more n es last e
        ∙ ap (λ ps. longer ps e) (sym (one_piece n k ks (es ++ last ∷ []) below))
    by true low false e_high ih =
        absurd (omega (arith, sym (e_is false e_high) ∙ same ∙ last_is true low))
    by false high true e_low ih =
        absurd (omega (arith, sym (e_is true e_low) ∙ same ∙ last_is false high))
    by false high false e_high ih =
        let near : range_of e.key ks ≡ range_of last.key ks =
        omega (arith, sym (e_is false e_high) ∙ same ∙ last_is false high) in
        let rest = ih
        (subst (AllByRecursion (λ f. key_le f.key last.key ≡ true)) (from_more k es last high)
        (all_filter (λ f. not (key_lt f.key k)) (λ f. key_le f.key last.key ≡ true)
        (λ f. key_le f.key last.key ≡ true) (es ++ last ∷ []) (λ f t p. p) h)) near in
        (λ i. some_piece n (before_not k (es ++ last ∷ []) e e_high i)
        ++ pieces_from (suc n) ks (from_more k (es ++ last ∷ []) e e_high i))
        ∙ ap (λ fs. some_piece n (before_key k (es ++ last ∷ [])) ++ pieces_from (suc n) ks (fs ++ e ∷ []))
        (from_more k es last high)
        ∙ ap (λ ps. some_piece n (before_key k (es ++ last ∷ [])) ++ ps) rest
        ∙ sym (longer_behind (some_piece n (before_key k (es ++ last ∷ [])))
        (pieces_from (suc n) ks (from_key k es ++ last ∷ [])) e (pieces_some (suc n) ks (from_key k es) last))
        ∙ ap (λ fs. longer (some_piece n (before_key k (es ++ last ∷ [])) ++ pieces_from (suc n) ks fs) e)
        (sym (from_more k es last high))
