-- Laws of standing.
use Rattle.std.proofs.Common.{◌≡◌, ℕ, zero, suc, ◌-◌, ◌<◌, ◌≤◌, ◌⊎◌, inl, inr, Bool, true, false, not, List, [], ◌∷◌, Option, Some, None, length, map, refl, sym, ap, ◌∙◌, subst, arith}
use Rattle.std.specs.Prelude.{if◌then◌else◌, nat_lt, get_or, is_some, IfSome}
use Rattle.std.proofs.lemmas.Bool.{true≢false, false≢true, and_parts, cases_lt, ltb-true, lt-ltb, not-true}
use Rattle.std.proofs.lemmas.Bool.Decides.{nat_tests}
use Rattle.std.proofs.lemmas.List.{get_or_past, get_or-map, length-map}
use Rattle.peb_base.specs.Keys.{Bytes}
use Rattle.peb_base.specs.Cursors.{place_in, entry_at, first_place, last_place, previous_place, place_from, StandsAmong}
use Rattle.peb_base.specs.Entries.{AreSorted, AscendFrom, entry_lt, comes_before, first_from}
use Rattle.peb_base.specs.EntryLaws.{entry_split, before_split, entry_asym, entry_irrefl}
use Rattle.peb_base.specs.Members.{IsIn}
use Rattle.peb_base.specs.Sorting.{behind_first}
use Rattle.peb_base.specs.declared.cursor.Cursor.{Ghosts}
use Rattle.peb_base.specs.declared.entry.Entry.{Entry}
use Rattle.merge_iter.specs.CutLaws.{IsEdge, edge_at, no_edge, none_beside, is_at_edge, not_met, apart_in, passed_true, passed_false, passed_low}
use Rattle.merge_iter.specs.Cuts.{passed, beside, Falls, before, upto, below, side_of}
use Rattle.merge_iter.specs.Heads.{head_at, current_head, meets, meets_first, gives_way, IsChosen}
use Rattle.merge_iter.specs.Moves.{target, step_in}
use Rattle.merge_iter.specs.Parts.{AreParts}
use Rattle.merge_iter.specs.Standing.{Merged, StandEach, IsAtCut, IsHere, Stands}

-- ---- cuts that moves lead to

pub falls_before : (e : Entry) → Falls (before e)
falls_before e a b n p = by (entry_lt a e) refl
  where
    by : (t : Bool) → entry_lt a e ≡ t → entry_lt a e ≡ true
    by true t = t
    by false t = absurd (true≢false (sym (entry_split b a e p n) ∙ t))

pub falls_upto : (e : Entry) → Falls (upto e)
falls_upto e a b n p = by (entry_lt e a) refl (entry_lt e b) refl
  where
    by : (t : Bool) → entry_lt e a ≡ t → (s : Bool) → entry_lt e b ≡ s → not (entry_lt e a) ≡ true
    by false t s o = ap not t
    by true t true o = absurd (false≢true (sym (ap not o) ∙ p))
    by true t false o = absurd (true≢false (sym (entry_split e b a t o) ∙ n))

pub falls_side : (back : Bool) (e : Entry) → Falls (side_of back e)
falls_side false e = falls_before e
falls_side true e = falls_upto e

pub falls_below : (key : Bytes) (number : ℕ) → Falls (below key number)
falls_below key number a b n p = by (comes_before a.key a.number key number) refl
  where
    by : (t : Bool) → comes_before a.key a.number key number ≡ t
        → comes_before a.key a.number key number ≡ true
    by true t = t
    by false t =
        absurd (true≢false (sym (before_split b.key b.number a.key a.number key number p n) ∙ t))

pub falls_none : Falls (λ x. false)
falls_none a b n p = p

pub falls_all : Falls (λ x. true)
falls_all a b n p = refl

pub first_cut : (es : List Entry) → first_place es ≡ beside false (λ x. false) es
first_cut [] = refl
first_cut (e ∷ es) = refl

all_pass : (es : List Entry) → passed (λ x. true) es ≡ length es
all_pass [] = refl
all_pass (e ∷ es) = ap suc (all_pass es)

pub last_there : (es : List Entry) (n : ℕ) → n ≤ length es → length es ≤ n
    → last_place es ≡ previous_place (Some n)
last_there [] zero h g = refl
last_there [] (suc n) h g = absurd (omega (arith, h))
last_there (e ∷ es) zero h g = absurd (omega (arith, g))
last_there (e ∷ es) (suc n) h g =
    let same : length (e ∷ es) - 1 ≡ n = omega (arith, h, g) in
    let lt : n < length (e ∷ es) = omega (arith, g) in
    ap (place_in (e ∷ es)) same
    ∙ ap (λ b. if b then Some n else None) (lt-ltb n (length (e ∷ es)) lt)

pub last_cut : (es : List Entry) → last_place es ≡ beside true (λ x. true) es
last_cut es =
    let same = all_pass es in
    last_there es (passed (λ x. true) es) (omega (arith, same)) (omega (arith, same))

pub seek_cut : (key : Bytes) (number : ℕ) (es : List Entry) → place_from key number es
    ≡ beside false (below key number) es
seek_cut key number es = ap (place_in es) (same es)
  where
    same : (es : List Entry) → first_from key number es ≡ passed (below key number) es
    same [] = refl
    same (e ∷ es) = ap (λ n. if below key number e then suc n else 0) (same es)

-- tests that agree on all leave a walk at one place
agree : (P Q : Entry → Bool) (es : List Entry) → ((x : Entry) → IsIn x es → P x ≡ Q x)
    → passed P es ≡ passed Q es
agree P Q [] h = refl
agree P Q (y ∷ es) h =
    λ i. if h y (inl refl) i then suc (agree P Q es (λ x m. h x (inr m)) i) else 0

pub beside_agree : (back : Bool) (P Q : Entry → Bool) (es : List Entry)
    → ((x : Entry) → IsIn x es → P x ≡ Q x) → beside back P es ≡ beside back Q es
beside_agree false P Q es h = ap (place_in es) (agree P Q es h)
beside_agree true P Q es h = ap (λ n. previous_place (Some n)) (agree P Q es h)

-- where a walk turns, a step leads over the cut
pub turn_over : (back : Bool) (cut : Entry → Bool) (es : List Entry)
    → target (step_in back) es (beside (not back) cut es) ≡ beside back cut es
turn_over false cut es = by (passed cut es)
  where
    by : (n : ℕ) → target (step_in false) es (previous_place (Some n)) ≡ place_in es n
    by zero = refl
    by (suc n) = refl
turn_over true cut es = by (nat_lt (passed cut es) (length es)) refl
  where
    n : ℕ
    n = passed cut es

    by : (b : Bool) → nat_lt n (length es) ≡ b
        → target (step_in true) es (place_in es n) ≡ previous_place (Some n)
    by true t = ap (λ c. target (step_in true) es (if c then Some n else None)) t
    by false t =
        let ge : length es ≤ n = grind (arith, nat_tests, t) in
        ap (λ c. target (step_in true) es (if c then Some n else None)) t
        ∙ last_there es n (passed_low cut es) ge

-- an entry and what comes before it are one more
one_more : (key : Bytes) (number : ℕ) (es : List Entry) (e : Entry) → AscendFrom key number es
    → IsIn e es → passed (upto e) es ≡ suc (passed (before e) es)
one_more key number [] e h i = absurd i
one_more key number (y ∷ es) e h i = elim i [
  | inl s ↦
      let irrefl = entry_irrefl e in
      passed_true (upto e) y es (ap not (subst (λ (z : Entry). entry_lt e z ≡ false) s irrefl))
      ∙ ap suc (stops_there es (subst (λ (z : Entry). AscendFrom z.key z.number es) (sym s) h.2))
      ∙ ap suc (sym (passed_false (before e) y es
      (subst (λ (z : Entry). entry_lt z e ≡ false) s irrefl)))
  | inr m ↦
      let ahead : entry_lt y e ≡ true = behind_first y e es h.2 m in
      passed_true (upto e) y es (ap not (entry_asym y e ahead))
      ∙ ap suc (one_more y.key y.number es e h.2 m)
      ∙ ap suc (sym (passed_true (before e) y es ahead))
]
  where
    stops_there : (xs : List Entry) → AscendFrom e.key e.number xs → passed (upto e) xs ≡ 0
    stops_there [] g = refl
    stops_there (x ∷ xs) g = passed_false (upto e) x xs (ap not g.1)

before_inside : (es : List Entry) (e : Entry) → AreSorted es → IsIn e es
    → passed (before e) es < length es
before_inside es e sorted i =
    let more = one_more [] 0 es e sorted i in
    let low = passed_low (upto e) es in
    omega (arith, more, low)

-- from an entry a step leads over it
pub step_over : (back : Bool) (es : List Entry) (e : Entry) → AreSorted es → IsIn e es
    → target (step_in back) es (beside back (side_of back e) es)
    ≡ beside back (side_of (not back) e) es
step_over false es e sorted i =
    ap (λ b. target (step_in false) es (if b then Some (passed (before e) es) else None))
    (lt-ltb (passed (before e) es) (length es) (before_inside es e sorted i))
    ∙ ap (place_in es) (sym (one_more [] 0 es e sorted i))
step_over true es e sorted i =
    ap (λ n. target (step_in true) es (previous_place (Some n))) (one_more [] 0 es e sorted i)

same_side : (e x : Entry) → (x ≡ e) ⊎ ((entry_lt x e ≡ true) ⊎ (entry_lt e x ≡ true))
    → (x ≡ e → ⊥) → upto e x ≡ before e x
same_side e x (inl s) other = absurd (other s)
same_side e x (inr (inl t)) other = ap not (entry_asym x e t) ∙ sym t
same_side e x (inr (inr t)) other = ap not t ∙ sym (entry_asym e x t)

-- where the entry isn't one of them, both sides of it leave a walk at one place
pub not_over : (back : Bool) (all es : List Entry) (e : Entry) → AreSorted all → IsIn e all
    → ((x : Entry) → IsIn x es → IsIn x all) → (IsIn e es → ⊥)
    → beside back (side_of back e) es ≡ beside back (side_of (not back) e) es
not_over back all es e sorted there inside other =
    beside_agree back (side_of back e) (side_of (not back) e) es (λ x i. by back x i)
  where
    same : (x : Entry) → IsIn x es → upto e x ≡ before e x
    same x i = same_side e x (apart_in [] 0 all x e sorted (inside x i) there)
        (λ s. other (subst (λ (z : Entry). IsIn z es) s i))

    by : (back : Bool) (x : Entry) → IsIn x es → side_of back e x ≡ side_of (not back) e x
    by false x i = sym (same x i)
    by true x i = same x i

-- at its first entry a cut is the side of that
pub cut_is_side : (back : Bool) (cut : Entry → Bool) (es : List Entry) (e : Entry) → Falls cut
    → AreSorted es → IsEdge back cut es e → (x : Entry) → IsIn x es → cut x ≡ side_of back e x
cut_is_side back cut es e falls sorted edge x i =
    by back edge.side (edge.first x i) (cut x) refl (apart_in [] 0 es x e sorted i edge.among)
  where
    by : (back : Bool) → cut e ≡ back → (cut x ≡ back → meets back x e ≡ false) → (c : Bool)
        → cut x ≡ c → (x ≡ e) ⊎ ((entry_lt x e ≡ true) ⊎ (entry_lt e x ≡ true))
        → cut x ≡ side_of back e x
    by false side first true c (inl s) =
        absurd (true≢false (sym c ∙ ap cut s ∙ side))
    by false side first true c (inr (inl t)) = c ∙ sym t
    by false side first true c (inr (inr t)) =
        absurd (true≢false (sym (falls e x (entry_asym e x t) c) ∙ side))
    by false side first false c h = c ∙ sym (first c)
    by true side first true c h = c ∙ sym (ap not (first c))
    by true side first false c (inl s) = absurd (true≢false (sym side ∙ ap cut (sym s) ∙ c))
    by true side first false c (inr (inl t)) =
        absurd (true≢false (sym (falls x e (entry_asym x e t) side) ∙ c))
    by true side first false c (inr (inr t)) = c ∙ sym (ap not t)

-- ---- inputs

-- where one stands, it shows the entry there
abbrev pub Among : {C : Type 0} → Ghosts C → Type 0
Among {C} g = (c : C) (es : List Entry) (place : Option ℕ) → g.stands c es place
    → StandsAmong es place (g.shows c)

pub some_of : {C : Type 0} (inputs : List C) (k : ℕ) → k < length inputs → C
some_of [] k lt = absurd (omega (arith, lt))
some_of (c ∷ inputs) k lt = c

pub head_past : {C : Type 0} (g : Ghosts C) (inputs : List C) (k : ℕ) → length inputs ≤ k
    → head_at (map g.shows inputs) k ≡ None
head_past g inputs k ge =
    get_or_past (map g.shows inputs) k None (omega (arith, ge, length-map inputs g.shows))

-- what has an entry is one of them
pub head_inside : {C : Type 0} (g : Ghosts C) (inputs : List C) (k : ℕ) (e : Entry)
    → head_at (map g.shows inputs) k ≡ Some e → k < length inputs
head_inside g inputs k e there = by (cases_lt k (length inputs))
  where
    by : (k < length inputs) ⊎ (length inputs ≤ k) → k < length inputs
    by (inl lt) = lt
    by (inr ge) = cc (sym (head_past g inputs k ge) ∙ there)

pub head_is : {C : Type 0} (g : Ghosts C) (inputs : List C) (k : ℕ) (d : C) → k < length inputs
    → head_at (map g.shows inputs) k ≡ g.shows (get_or inputs k d)
head_is g inputs k d lt = get_or-map g.shows inputs k d None lt

pub heads_stand : {C : Type 0} (g : Ghosts C) → Among g → (inputs : List C) (part : ℕ → List Entry)
    (at : ℕ → Option ℕ) → StandEach g.stands inputs part at → (k : ℕ) → k < length inputs
    → StandsAmong (part k) (at k) (head_at (map g.shows inputs) k)
heads_stand g among inputs part at each k lt =
    let d = some_of inputs k lt in
    subst (StandsAmong (part k) (at k)) (sym (head_is g inputs k d lt))
    (among (get_or inputs k d) (part k) (at k) (each k d lt))

-- ---- arrivals

module _ {C : Type 0} (g : Ghosts C) (among : Among g) (back : Bool) (inputs : List C)
    (part : ℕ → List Entry) (es : List Entry) (parts : AreParts es (length inputs) part)
    (cut : Entry → Bool) (falls : Falls cut)
    (at : ℕ → Option ℕ) (places : (k : ℕ) → k < length inputs → at k ≡ beside back cut (part k))
    (each : StandEach g.stands inputs part at) where
  part_head : (k : ℕ) → k < length inputs
      → head_at (map g.shows inputs) k ≡ entry_at (part k) (beside back cut (part k))
  part_head k lt =
      (heads_stand g among inputs part at each k lt).shows ∙ ap (entry_at (part k)) (places k lt)

  sorted_part : (k : ℕ) → k < length inputs → AreSorted (part k)
  sorted_part k lt = (heads_stand g among inputs part at each k lt).sorted

  -- the first of the heads is the first of all on its side
  pub edge_of_first : (i : ℕ) (e : Entry) → head_at (map g.shows inputs) i ≡ Some e
      → ((k : ℕ) → meets_first back (head_at (map g.shows inputs) k) (Some e) ≡ false)
      → IsEdge back cut es e
  edge_of_first i e here none =
      record {
        among = parts.from i e lt found.among;
        side = found.side;
        first =
            λ x m s. first x m s;
      }
    where
      lt : i < length inputs
      lt = head_inside g inputs i e here

      found : IsEdge back cut (part i) e
      found = edge_at cut falls back (part i) e (sorted_part i lt) (sym (part_head i lt) ∙ here)

      first : (x : Entry) → IsIn x es → cut x ≡ back → meets back x e ≡ false
      first x m s = by (parts.to x m)
        where
          by : (k : ℕ) × (k < length inputs) × IsIn x (part k) → meets back x e ≡ false
          by p = at_head (head_at (map g.shows inputs) p.0) refl
            where
              at_head : (o : Option Entry) → head_at (map g.shows inputs) p.0 ≡ o
                  → meets back x e ≡ false
              at_head None is =
                  absurd (no_edge cut falls back (part p.0) (sorted_part p.0 p.1)
                  (sym (part_head p.0 p.1) ∙ is) x p.2 s)
              at_head (Some h) is =
                  let first_there =
                  edge_at cut falls back (part p.0) h (sorted_part p.0 p.1)
                  (sym (part_head p.0 p.1) ∙ is) in
                  not_met back x h e (first_there.first x p.2 s)
                  (ap (λ o. meets_first back o (Some e)) (sym is) ∙ none p.0)

  -- where none has an entry, all lie on the other side
  pub none_at_heads : ((k : ℕ) → head_at (map g.shows inputs) k ≡ None) → beside back cut es ≡ None
  none_at_heads none = none_beside cut falls back es (by (entry_at es (beside back cut es)) refl)
    where
      by : (o : Option Entry) → entry_at es (beside back cut es) ≡ o
          → entry_at es (beside back cut es) ≡ None
      by None is = is
      by (Some e) is =
          let found = edge_at cut falls back es e parts.sorted is in
          let p = parts.to e found.among in
          absurd (no_edge cut falls back (part p.0) (sorted_part p.0 p.1)
          (sym (part_head p.0 p.1) ∙ none p.0) e p.2 found.side)

-- inputs at one cut, and the first of them as current: the merge stands at that cut
pub arrives : {C : Type 0} (g : Ghosts C) (among : Among g) (m : Merged C) (back : Bool)
    (part : ℕ → List Entry) (es : List Entry) → AreParts es (length m.inputs) part
    → (cut : Entry → Bool) → Falls cut → (at : ℕ → Option ℕ)
    → ((k : ℕ) → k < length m.inputs → at k ≡ beside back cut (part k))
    → StandEach g.stands m.inputs part at → m.is_back ≡ back
    → IsChosen back (map g.shows m.inputs) m.current → Stands g.stands m es (beside back cut es)
arrives g among m back part es parts cut falls at places each is chosen = record {
  part = part;
  parts = parts;
  at = at;
  each = each;
  here = by m.current chosen;
}
  where
    by : (o : Option ℕ) → IsChosen back (map g.shows m.inputs) o
        → IsHere m part at es (beside back cut es) o
    by None none = none_at_heads g among back m.inputs part es parts cut falls at places each none
    by (Some i) first = record {
      cut = cut;
      falls = falls;
      each = λ k lt. subst (λ b. at k ≡ beside b cut (part k)) (sym is) (places k lt);
      whole = ap (λ b. beside b cut es) (sym is);
    }

-- ---- where it stands

head_there : (o : Option Entry) → is_some o ≡ true → (e : Entry) × (o ≡ Some e)
head_there None h = absurd (false≢true h)
head_there (Some e) h = (e, refl)

-- the current entry is the first of all on its side
pub current_edge : {C : Type 0} (g : Ghosts C) → Among g → (m : Merged C) (es : List Entry)
    (place : Option ℕ) (i : ℕ)
    → ((k : ℕ) → gives_way m.is_back (map g.shows m.inputs) (Some i) k ≡ true)
    → (s : Stands g.stands m es place)
    → (here : IsAtCut m.is_back (length m.inputs) s.part s.at es place)
    → (e : Entry) × (head_at (map g.shows m.inputs) i ≡ Some e) × IsEdge m.is_back here.cut es e
current_edge g among m es place i way s here =
    let head = head_there (head_at (map g.shows m.inputs) i)
    (and_parts (is_some (head_at (map g.shows m.inputs) i)) _ (way 0)).0 in (
      head.0,
      head.1,
      edge_of_first g among m.is_back m.inputs s.part es s.parts here.cut here.falls s.at here.each
          s.each i head.0 head.1
          (λ k. subst (λ o. meets_first m.is_back (head_at (map g.shows m.inputs) k) o
          ≡ false) head.1
          (not-true _ (and_parts (is_some (head_at (map g.shows m.inputs) i)) _ (way k)).1)),
    )

in_range : (cut : Entry → Bool) (back : Bool) (es : List Entry)
    → IfSome (beside back cut es) (λ n. n < length es)
in_range cut false es = by (nat_lt (passed cut es) (length es)) refl
  where
    by : (b : Bool) → nat_lt (passed cut es) (length es) ≡ b
        → IfSome (if b then Some (passed cut es) else None) (λ n. n < length es)
    by true t = ltb-true (passed cut es) (length es) t
    by false t = tt
in_range cut true es = by (passed cut es) (passed_low cut es)
  where
    by : (n : ℕ) → n ≤ length es → IfSome (previous_place (Some n)) (λ n. n < length es)
    by zero h = tt
    by (suc n) h = omega (arith, h)

-- where a merge stands among entries, they are sorted, and it shows the one at its place
pub stands_at : {C : Type 0} (g : Ghosts C) → Among g → (m : Merged C) (es : List Entry)
    (place : Option ℕ) → ((k : ℕ) → gives_way m.is_back (map g.shows m.inputs) m.current k ≡ true)
    → Stands g.stands m es place
    → StandsAmong es place (current_head (map g.shows m.inputs) m.current)
stands_at g among m es place way s = by m.current way s.here
  where
    by : (o : Option ℕ) → ((k : ℕ) → gives_way m.is_back (map g.shows m.inputs) o k ≡ true)
        → IsHere m s.part s.at es place o
        → StandsAmong es place (current_head (map g.shows m.inputs) o)
    by None way here = record {
      sorted = s.parts.sorted;
      inside = subst (λ p. IfSome p (λ n. n < length es)) (sym here) tt;
      shows = sym (ap (entry_at es) here);
    }
    by (Some i) way here =
        let found = current_edge g among m es place i way s here in
        record {
          sorted = s.parts.sorted;
          inside = subst (λ p. IfSome p (λ n. n < length es)) (sym here.whole)
              (in_range here.cut m.is_back es);
          shows = found.1 ∙ sym (ap (entry_at es) here.whole
              ∙ is_at_edge here.cut here.falls m.is_back es found.0 s.parts.sorted found.2);
        }
