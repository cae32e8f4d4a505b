-- The first of the entries at which cursors stand, found one after another.
use Rattle.std.proofs.Common.{◌≡◌, ℕ, ◌+◌, ◌<◌, ◌≤◌, ◌⊎◌, ◌↔◌, inl, inr, Bool, true, false, not, List, Option, Some, None, refl, sym, ap, ◌∙◌, subst, arith, length, map}
use Rattle.std.specs.Prelude.{if◌then◌else◌, is_some, nat_lt, IfSome}
use Rattle.std.proofs.lemmas.Bool.{true≢false, false≢true, false_from_ne_true, cases_lt, ltb-true, and_parts}
use Rattle.std.proofs.lemmas.Bool.Decides.{nat_tests}
use Rattle.peb_base.specs.declared.cursor.Cursor.{Ghosts}
use Rattle.peb_base.specs.declared.entry.Entry.{Entry}
use Rattle.merge_iter.specs.CutLaws.{meets_irrefl, meets_asym, meets_split}
use Rattle.merge_iter.specs.Heads.{head_at, current_head, meets_first, takes, is_better, gives_way, IsChosen}
use Rattle.merge_iter.specs.StandLaws.{head_past, head_inside}

-- ---- the order of entries that may not be there

pub first_irrefl : (back : Bool) (a : Option Entry) → meets_first back a a ≡ false
first_irrefl back None = refl
first_irrefl back (Some a) = meets_irrefl back a

pub first_asym : (back : Bool) (a b : Option Entry) → meets_first back a b ≡ true
    → meets_first back b a ≡ false
first_asym back None b h = absurd (false≢true h)
first_asym back (Some a) None h = refl
first_asym back (Some a) (Some b) h = meets_asym back a b h

pub first_split : (back : Bool) (a b c : Option Entry) → meets_first back a c ≡ true
    → meets_first back a b ≡ false → meets_first back b c ≡ true
first_split back None b c h g = absurd (false≢true h)
first_split back (Some a) None c h g = absurd (true≢false g)
first_split back (Some a) (Some b) None h g = refl
first_split back (Some a) (Some b) (Some c) h g = meets_split back a b c h g

-- what isn't met before none is none
pub none_first : (back : Bool) (a : Option Entry) → meets_first back a None ≡ false → a ≡ None
none_first back None h = refl
none_first back (Some a) h = absurd (true≢false h)

-- ---- one after another

-- among so many entries that at this place is the first
pub record Best (back : Bool) (heads : List (Option Entry)) (count best : ℕ) : Type 0 where
  pub low : best ≤ count
  pub lower : 0 < count → best < count
  pub below : (k : ℕ) → k < count → meets_first back (head_at heads k) (head_at heads best) ≡ false
  pub taken : (k : ℕ) → k < count → takes back k best ≡ true
      → meets_first back (head_at heads best) (head_at heads k) ≡ true

pub best_none : (back : Bool) (heads : List (Option Entry)) → Best back heads 0 0
best_none back heads = record {
  low = omega arith;
  lower = λ h. h;
  below = λ k h. absurd (omega (arith, h));
  taken = λ k h t. absurd (omega (arith, h));
}

module _ (back : Bool) (heads : List (Option Entry)) (i best : ℕ) (b : Best back heads i best) where
  -- the next one isn't met after the best
  takes_over : ((k : ℕ) → k < i → meets_first back (head_at heads k) (head_at heads i) ≡ false)
      → ((k : ℕ) → k < i → takes back k i ≡ true
      → meets_first back (head_at heads i) (head_at heads k) ≡ true)
      → takes back i i ≡ false → Best back heads (i + 1) i
  takes_over below taken none = record {
    low = omega arith;
    lower = λ h. omega arith;
    below = λ k h. elim (cases_lt k i) [
      | inl lt ↦ below k lt
      | inr le ↦
          let same : i ≡ k = omega (arith, h, le) in
          subst (λ n. meets_first back (head_at heads n) (head_at heads i) ≡ false) same
          (first_irrefl back (head_at heads i))
    ];
    taken = λ k h t. elim (cases_lt k i) [
      | inl lt ↦ taken k lt t
      | inr le ↦
          let same : k ≡ i = omega (arith, h, le) in
          absurd (true≢false (sym t ∙ ap (λ n. takes back n i) same ∙ none))
    ];
  }

  stays_best : meets_first back (head_at heads i) (head_at heads best) ≡ false
      → (takes back i best ≡ true → meets_first back (head_at heads best) (head_at heads i) ≡ true)
      → Best back heads (i + 1) best
  stays_best low tie = record {
    low = (let l = b.low in omega (arith, l));
    lower = λ h. (let l = b.low in omega (arith, l));
    below = λ k h. elim (cases_lt k i) [
      | inl lt ↦ b.below k lt
      | inr le ↦
          let same : i ≡ k = omega (arith, h, le) in
          subst (λ n. meets_first back (head_at heads n) (head_at heads best) ≡ false) same low
    ];
    taken = λ k h t. elim (cases_lt k i) [
      | inl lt ↦ b.taken k lt t
      | inr le ↦
          let same : k ≡ i = omega (arith, h, le) in
          subst (λ n. meets_first back (head_at heads best) (head_at heads n) ≡ true) (sym same)
          (tie (sym (ap (λ n. takes back n best) same) ∙ t))
    ];
  }

not_below : (n : ℕ) → nat_lt n n ≡ false
not_below n = grind (arith, nat_tests)

more_on : (heads : List (Option Entry)) (i best : ℕ) → Best false heads i best
    → Best false heads (i + 1) (if is_better false heads i best then i else best)
more_on heads i best b = by (meets_first false (head_at heads i) (head_at heads best)) refl
  where
    by : (t : Bool) → meets_first false (head_at heads i) (head_at heads best) ≡ t
        → Best false heads (i + 1) (if t then i else best)
    by true t = takes_over false heads i best b
        (λ k h. false_from_ne_true _ (λ before. true≢false
        (sym (first_split false (head_at heads k) (head_at heads best) (head_at heads i) before (b.below k h))
        ∙ first_asym false (head_at heads i) (head_at heads best) t)))
        (λ k h e. over k h (meets_first false (head_at heads i) (head_at heads k)) refl)
        (not_below i)
      where
        over : (k : ℕ) → k < i → (s : Bool) → meets_first false (head_at heads i) (head_at heads k) ≡ s
            → meets_first false (head_at heads i) (head_at heads k) ≡ true
        over k h true s = s
        over k h false s = absurd (true≢false
            (sym (first_split false (head_at heads i) (head_at heads k) (head_at heads best) t s)
            ∙ b.below k h))
    by false t = stays_best false heads i best b t
        (λ e. let lt = ltb-true i best e in let l = b.low in absurd (omega (arith, lt, l)))

more_back : (heads : List (Option Entry)) (i best : ℕ) → Best true heads i best
    → Best true heads (i + 1) (if is_better true heads i best then i else best)
more_back heads i best b = by (meets_first true (head_at heads best) (head_at heads i)) refl
  where
    by : (t : Bool) → meets_first true (head_at heads best) (head_at heads i) ≡ t
        → Best true heads (i + 1) (if not t then i else best)
    by true t = stays_best true heads i best b
        (first_asym true (head_at heads best) (head_at heads i) t) (λ e. t)
    by false t = takes_over true heads i best b
        (λ k h. false_from_ne_true _ (λ before. true≢false
        (sym (first_split true (head_at heads k) (head_at heads best) (head_at heads i) before (b.below k h))
        ∙ t)))
        (λ k h e. let lt = ltb-true i k e in absurd (omega (arith, lt, h)))
        (not_below i)

-- the better of the best and the next is the best of all of them
pub best_more : (back : Bool) (heads : List (Option Entry)) (i best : ℕ) → Best back heads i best
    → Best back heads (i + 1) (if is_better back heads i best then i else best)
best_more false heads i best b = more_on heads i best b
best_more true heads i best b = more_back heads i best b

-- ---- at the end

module _ {C : Type 0} (g : Ghosts C) (back : Bool) (inputs : List C) (best : ℕ)
    (b : Best back (map g.shows inputs) (length inputs) best) where
  pub chosen_none : head_at (map g.shows inputs) best ≡ None → IsChosen back (map g.shows inputs) None
  chosen_none none = λ k. at k (cases_lt k (length inputs))
    where
      at : (k : ℕ) → (k < length inputs) ⊎ (length inputs ≤ k) → head_at (map g.shows inputs) k ≡ None
      at k (inl lt) = none_first back (head_at (map g.shows inputs) k)
          (subst (λ h. meets_first back (head_at (map g.shows inputs) k) h ≡ false) none (b.below k lt))
      at k (inr le) = head_past g inputs k le

  pub chosen_empty : length inputs ≤ best → IsChosen back (map g.shows inputs) None
  chosen_empty over = λ k. head_past g inputs k (by (cases_lt 0 (length inputs)) k)
    where
      by : (0 < length inputs) ⊎ (length inputs ≤ 0) → (k : ℕ) → length inputs ≤ k
      by (inl some) k = let l = b.lower some in absurd (omega (arith, l, over))
      by (inr none) k = omega (arith, none)

  pub chosen_some : (e : Entry) → head_at (map g.shows inputs) best ≡ Some e
      → IsChosen back (map g.shows inputs) (Some best)
  chosen_some e some = (
    e,
    record {
      at = some;
      none_before = λ k. at k (cases_lt k (length inputs));
      taken = λ k t. tie k t (cases_lt k (length inputs));
    },
  )
    where
      at : (k : ℕ) → (k < length inputs) ⊎ (length inputs ≤ k)
          → meets_first back (head_at (map g.shows inputs) k) (Some e) ≡ false
      at k (inl lt) =
          subst (λ h. meets_first back (head_at (map g.shows inputs) k) h ≡ false) some (b.below k lt)
      at k (inr le) = ap (λ h. meets_first back h (Some e)) (head_past g inputs k le)

      tie : (k : ℕ) → takes back k best ≡ true → (k < length inputs) ⊎ (length inputs ≤ k)
          → meets_first back (Some e) (head_at (map g.shows inputs) k) ≡ true
      tie k t (inl lt) =
          subst (λ h. meets_first back h (head_at (map g.shows inputs) k) ≡ true) some (b.taken k lt t)
      tie k t (inr le) = ap (λ h. meets_first back (Some e) h) (head_past g inputs k le)

-- the current one is one of them, and has an entry
pub current_shows : {C : Type 0} (g : Ghosts C) (inputs : List C) (back : Bool) (i : ℕ)
    → ((k : ℕ) → gives_way back (map g.shows inputs) (Some i) k ≡ true)
    → (e : Entry) × (head_at (map g.shows inputs) i ≡ Some e)
current_shows g inputs back i way =
    there (head_at (map g.shows inputs) i)
    (and_parts (is_some (head_at (map g.shows inputs) i)) _ (way 0)).0
  where
    there : (o : Option Entry) → is_some o ≡ true → (e : Entry) × (o ≡ Some e)
    there None h = absurd (false≢true h)
    there (Some e) h = (e, refl)

pub current_inside : {C : Type 0} (g : Ghosts C) (inputs : List C) (back : Bool) (current : Option ℕ)
    → ((k : ℕ) → gives_way back (map g.shows inputs) current k ≡ true)
    → IfSome current (λ i. i < length inputs)
current_inside g inputs back None way = tt
current_inside g inputs back (Some i) way =
    let shown = current_shows g inputs back i way in
    head_inside g inputs i shown.0 shown.1

-- there is no current cursor exactly where none is shown
pub current_exact : {C : Type 0} (g : Ghosts C) (inputs : List C) (back : Bool) (current : Option ℕ)
    → ((k : ℕ) → gives_way back (map g.shows inputs) current k ≡ true)
    → (current ≡ None) ↔ (current_head (map g.shows inputs) current ≡ None)
current_exact g inputs back None way = (λ is. refl, λ is. refl)
current_exact g inputs back (Some i) way =
    let shown = current_shows g inputs back i way in
    (λ is. cc, λ none. let both : Some shown.0 ≡ None = sym shown.1 ∙ none in cc)
