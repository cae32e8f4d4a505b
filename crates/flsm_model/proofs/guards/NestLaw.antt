-- How guards lie, for every legal record.
use Rattle.std.proofs.Common.{◌≡◌, ℕ, zero, suc, ◌<◌, ◌≤◌, Bool, true, false, ◌||◌, not, List, [], ◌∷◌, inl, inr, refl, sym, ◌∙◌, ap, subst, arith}
use Rattle.std.specs.Prelude.{◌==◌, get_or, replicate, if◌then◌else◌, ⊤}
use Rattle.std.specs.List.{list_all}
use Rattle.std.proofs.lemmas.Bool.{and_parts, and_from, true≢false, eqb-true}
use Rattle.peb_base.specs.Keys.{Bytes, key_lt, key_eq}
use Rattle.peb_base.specs.KeyLaws.{same_key, key_self}
use Rattle.peb_base.specs.Profiles.{column, Column}
use Rattle.peb_base.specs.declared.table_row.TableRow.{TableRow}
use Rattle.flsm_model.specs.declared.edit.Edit.{Edit}
use Rattle.flsm_model.specs.declared.edit.Edit.TheVariants.{Open, Flush, Move, Cut, Merge}
use Rattle.flsm_model.specs.Ranges.{keys_ascend, has_key, with_key, with_keys}
use Rattle.flsm_model.specs.Shape.{Record, Shape, empty_shape, guards_at, shape_after, shape_from, shape_of, has_number, rows_without}
use Rattle.flsm_model.specs.Fits.{fits, fit_from, is_guard}
use Rattle.peb_base.specs.Members.{IsIn}
use Rattle.flsm_model.specs.Sound.{RecordsNested}
use Rattle.flsm_model.proofs.contents.Base.{kept_empty}
use Rattle.flsm_model.proofs.guards.Facts.{move_facts, flush_facts, cut_facts, merge_facts}
use Rattle.flsm_model.proofs.guards.GuardKeys.{GuardsTurn, Same, More, guards_turn, guard_stays, withs_has}
use Rattle.flsm_model.proofs.guards.InGuards.{InGuards, in_guards_step}
use Rattle.flsm_model.proofs.lists.Lists.{in_filter, in_append, any_in, all_in}
use Rattle.flsm_model.proofs.guards.NewRows.{le_ne_lt}

-- ---- keys that ascend strictly

-- keys that ascend strictly, all above this one
abbrev pub RiseFrom : Bytes → List Bytes → Type 0
RiseFrom low [] = ⊤
RiseFrom low (k ∷ ks) = (key_lt low k ≡ true) × RiseFrom k ks

-- keys that ascend strictly
abbrev pub Rise : List Bytes → Type 0
Rise [] = ⊤
Rise (k ∷ ks) = RiseFrom k ks

rise_from_ascend : (k : Bytes) (ks : List Bytes) → RiseFrom k ks → keys_ascend (k ∷ ks) ≡ true
rise_from_ascend k [] h = refl
rise_from_ascend k (q ∷ ks) h = and_from _ _ h.0 (rise_from_ascend q ks h.1)

pub rise_ascend : (ks : List Bytes) → Rise ks → keys_ascend ks ≡ true
rise_ascend [] h = refl
rise_ascend (k ∷ ks) h = rise_from_ascend k ks h

pub differ_back : (a b : Bytes) → key_eq a b ≡ false → key_eq b a ≡ false
differ_back a b h = by (key_eq b a) refl
  where
    by : (c : Bool) → key_eq b a ≡ c → key_eq b a ≡ false
    by true is = absurd (true≢false (sym (subst (λ x. key_eq x b ≡ true) (same_key b a is) (key_self b)) ∙ h))
    by false is = is

rise_with : (low k : Bytes) (gs : List Bytes) → key_lt low k ≡ true → RiseFrom low gs → RiseFrom low (with_key k gs)
rise_with low k [] over h = (over, tt)
rise_with low k (g ∷ gs) over h = by (key_lt k g) (key_eq k g) refl refl (λ past. rise_with g k gs past h.1)
  where
    by : (a b : Bool) → key_lt k g ≡ a → key_eq k g ≡ b → (key_lt g k ≡ true → RiseFrom g (with_key k gs)) → RiseFrom low (if a then k ∷ g ∷ gs else if b then g ∷ gs else g ∷ with_key k gs)
    by true b x y rest = (over, (x, h.1))
    by false true x y rest = h
    by false false x y rest = (h.0, rest (le_ne_lt g k (ap not x) (differ_back k g y)))

rise_one : (k : Bytes) (gs : List Bytes) → Rise gs → Rise (with_key k gs)
rise_one k [] h = tt
rise_one k (g ∷ gs) h = by (key_lt k g) (key_eq k g) refl refl (λ past. rise_with g k gs past h)
  where
    by : (a b : Bool) → key_lt k g ≡ a → key_eq k g ≡ b → (key_lt g k ≡ true → RiseFrom g (with_key k gs)) → Rise (if a then k ∷ g ∷ gs else if b then g ∷ gs else g ∷ with_key k gs)
    by true b x y rest = (x, h)
    by false true x y rest = h
    by false false x y rest = rest (le_ne_lt g k (ap not x) (differ_back k g y))

pub rise_more : (ks gs : List Bytes) → Rise gs → Rise (with_keys ks gs)
rise_more [] gs h = h
rise_more (k ∷ ks) gs h = rise_one k (with_keys ks gs) (rise_more ks gs h)

-- ---- one edit more

rise_step : (o : Column) (s : Shape) (e : Edit) (l : ℕ) → InGuards o s → fits o s e ≡ true → Rise (guards_at s l) → Rise (guards_at (shape_after s e) l)
rise_step o s e l h f rise = by (guards_turn o s e l h f)
  where
    by : GuardsTurn s e l → Rise (guards_at (shape_after s e) l)
    by (Same q) = subst Rise (sym q) rise
    by (More keys inputs outputs is q) = subst Rise (sym q) (rise_more keys (guards_at s l) rise)

same_key_any : (k : Bytes) (ks : List Bytes) → has_key k ks ≡ true → IsIn k ks
same_key_any k ks h = let x = any_in (key_eq k) ks h in subst (λ y. IsIn y ks) (sym (same_key k x.0 x.2)) x.1

nested_step : (o : Column) (s : Shape) (e : Edit) → InGuards o s → fits o s e ≡ true
    → ((l : ℕ) (k : Bytes) → 1 ≤ l → l < o.last_level → is_guard s l k ≡ true → is_guard s (suc l) k ≡ true)
    → (l : ℕ) (k : Bytes) → 1 ≤ l → l < o.last_level → is_guard (shape_after s e) l k ≡ true → is_guard (shape_after s e) (suc l) k ≡ true
nested_step o s e h f nested l k from below guard = by (guards_turn o s e l h f)
  where
    older : is_guard s l k ≡ true → is_guard (shape_after s e) (suc l) k ≡ true
    older old = guard_stays o s e (suc l) k h f (nested l k from below old)

    not_last : (b c : Bool) → b ≡ false → (b || c) ≡ true → c ≡ true
    not_last true c x y = absurd (true≢false x)
    not_last false c x y = y

    apart : (l == o.last_level) ≡ false
    apart = last (l == o.last_level) refl
      where
        last : (b : Bool) → (l == o.last_level) ≡ b → (l == o.last_level) ≡ false
        last true is = absurd (omega (arith, below, eqb-true l o.last_level is))
        last false is = is

    by : GuardsTurn s e l → is_guard (shape_after s e) (suc l) k ≡ true
    by (Same q) = older (subst (λ (gs : List Bytes). has_key k gs ≡ true) q guard)
    by (More keys inputs outputs is q) = elim (withs_has k keys (guards_at s l) (subst (λ (gs : List Bytes). has_key k gs ≡ true) q guard)) [
      | inl new ↦
          let facts = cut_facts o s l keys inputs outputs (subst (λ (x : Edit). fits o s x ≡ true) is f) in
          let one = all_in _ k keys facts.candidates (same_key_any k keys new) in
          guard_stays o s e (suc l) k h f (not_last (l == o.last_level) (is_guard s (suc l) k) apart (and_parts _ _ one).1)
      | inr old ↦ older old
    ]

at_level : (n : ℕ) (rows : List TableRow) (r : TableRow) → list_all (λ (x : TableRow). x.level == n) rows ≡ true → IsIn r rows → r.level ≡ n
at_level n rows r h among = eqb-true r.level n (all_in (λ (x : TableRow). x.level == n) r rows h among)

deep_step : (o : Column) (s : Shape) (e : Edit) → fits o s e ≡ true → ((r : TableRow) → IsIn r s.live → r.level ≤ o.last_level) → (r : TableRow) → IsIn r (shape_after s e).live → r.level ≤ o.last_level
deep_step o s (Open session log) f h r among = h r among
deep_step o s (Flush row from to log chosen) f h r among = elim (in_append r (rows_without [] s.live) (row ∷ []) among) [
  | inl old ↦ h r (in_filter (λ (x : TableRow). not (has_number x.number [])) r s.live old).0
  | inr new ↦ elim new [ inl same ↦ omega (arith, ap (λ (x : TableRow). x.level) same, (flush_facts o s row from to log chosen f).at) | inr none ↦ absurd none ]
]
deep_step o s (Move level floor inputs outputs) f h r among = elim (in_append r (rows_without inputs s.live) outputs among) [
  | inl old ↦ h r (in_filter (λ (x : TableRow). not (has_number x.number inputs)) r s.live old).0
  | inr new ↦ let k = move_facts o s level floor inputs outputs f in omega (arith, at_level (suc level) outputs r k.below new, k.above)
]
deep_step o s (Cut level keys inputs outputs) f h r among = elim (in_append r (rows_without inputs s.live) outputs among) [
  | inl old ↦ h r (in_filter (λ (x : TableRow). not (has_number x.number inputs)) r s.live old).0
  | inr new ↦ let k = cut_facts o s level keys inputs outputs f in omega (arith, at_level level outputs r k.at new, k.upto)
]
deep_step o s (Merge floor whole inputs outputs) f h r among = elim (in_append r (rows_without inputs s.live) outputs among) [
  | inl old ↦ h r (in_filter (λ (x : TableRow). not (has_number x.number inputs)) r s.live old).0
  | inr new ↦ let k = merge_facts o s floor whole inputs outputs f in omega (arith, at_level o.last_level outputs r k.below new)
]

record Nests (o : Column) (s : Shape) : Type 0 where
  pub rise : (level : ℕ) → Rise (guards_at s level)
  pub nested : (level : ℕ) (key : Bytes) → 1 ≤ level → level < o.last_level → is_guard s level key ≡ true → is_guard s (suc level) key ≡ true
  pub deep : (r : TableRow) → IsIn r s.live → r.level ≤ o.last_level

nest_from : (o : Column) (s : Shape) (r : Record) → fit_from o s r ≡ true → InGuards o s → Nests o s → Nests o (shape_from s r)
nest_from o s [] f g h = h
nest_from o s (e ∷ es) f g h =
    let p = and_parts (fits o s e) _ f in
    nest_from o (shape_after s e) es p.1 (in_guards_step o s e g p.0) (record {
      rise = λ l. rise_step o s e l g p.0 (h.rise l);
      nested = nested_step o s e g p.0 h.nested;
      deep = deep_step o s e p.0 h.deep;
    })

no_rise : (n l : ℕ) → Rise (get_or (replicate n []) l [])
no_rise zero l = tt
no_rise (suc n) zero = tt
no_rise (suc n) (suc l) = no_rise n l

no_guard : (n l : ℕ) (k : Bytes) → has_key k (get_or (replicate n []) l []) ≡ false
no_guard zero l k = refl
no_guard (suc n) zero k = refl
no_guard (suc n) (suc l) k = no_guard n l k

empty_rise : (o : Column) (l : ℕ) → Rise (guards_at (empty_shape o) l)
empty_rise o zero = tt
empty_rise o (suc l) = no_rise o.last_level l

empty_none : (o : Column) (l : ℕ) (k : Bytes) → is_guard (empty_shape o) l k ≡ false
empty_none o zero k = refl
empty_none o (suc l) k = no_guard o.last_level l k

pub records_nested : RecordsNested
records_nested p r legal =
    let o = column p in
    let n = nest_from o (empty_shape o) r legal (kept_empty o).guards (record {
      rise = empty_rise o;
      nested = λ l k from below guard. absurd (true≢false (sym guard ∙ empty_none o l k));
      deep = λ x i. absurd i;
    }) in
    record { rise = λ level. rise_ascend (guards_at (shape_of o r) level) (n.rise level); nested = n.nested; deep = n.deep }
