-- Each live table below level 0 lies in one guard's range of its level, for every legal record.
use Rattle.std.proofs.Common.{◌≡◌, ℕ, zero, suc, ◌-◌, ◌<◌, ◌≤◌, ◌≢◌, Bool, true, false, ◌||◌, not, List, [], ◌∷◌, length, ◌⊎◌, inl, inr, refl, sym, ◌∙◌, ap, subst, arith}
use Rattle.std.specs.Prelude.{◌==◌, Option, Some, None, set, get_or}
use Rattle.std.specs.List.{list_any, list_all}
use Rattle.std.proofs.lemmas.Bool.{and_parts, and_from, cases_eq, true≢false, not-true, eqb-true, eq-eqb}
use Rattle.std.proofs.lemmas.List.{get_or-set_other, get_or-set_same}
use Rattle.std.proofs.Math.ListN.{length-set}
use Rattle.peb_base.specs.Keys.{Bytes, key_lt, key_le}
use Rattle.flsm_model.specs.Ranges.{is_below, in_range, range_of, with_keys, first_of}
use Rattle.flsm_model.specs.Compaction.{straddles}
use Rattle.peb_base.specs.KeyLaws.{le_lt, le_trans, lt_le_weak}
use Rattle.peb_base.specs.declared.table_row.TableRow.{TableRow}
use Rattle.peb_base.specs.Profiles.{Column}
use Rattle.flsm_model.specs.declared.edit.Edit.{Edit}
use Rattle.flsm_model.specs.declared.edit.Edit.TheVariants.{Open, Flush, Move, Cut, Merge}
use Rattle.flsm_model.specs.Shape.{Shape, shape_after, exchange_of, guards_at, rows_without, rows_numbered, has_number, outputs_of}
use Rattle.flsm_model.specs.Fits.{fits, lies_in, first_smallest, input_range, lie_apart, is_new, rows_are_new, is_straddled}
use Rattle.flsm_model.proofs.guards.Facts.{CutFits, move_facts, flush_facts, cut_facts, merge_facts}
use Rattle.flsm_model.proofs.guards.Guards.{AscendFrom, same_range, ranges_kept, ascend_keys}
use Rattle.flsm_model.proofs.lists.Lists.{Each, each-filter, each-append, each_pass, each_both, each_weaker}

-- the row lies in a guard's range of its level
abbrev pub InGuard : Shape → TableRow → Type 0
InGuard s r = 0 < r.level → lies_in (range_of (guards_at s r.level) r.smallest) r ≡ true

pub record InGuards (o : Column) (s : Shape) : Type 0 where
  pub count : length s.guards ≡ o.last_level
  pub ascend : (level : ℕ) → AscendFrom [] (guards_at s level)
  pub rows : Each (λ r. key_le r.smallest r.largest ≡ true) s.live
  pub inside : Each (InGuard s) s.live

pub new_rows : (session : ℕ) (used : List ℕ) (rs : List TableRow) → rows_are_new session used rs ≡ true → Each (λ r. key_le r.smallest r.largest ≡ true) rs
new_rows session used rs h =
    each_weaker (λ r. is_new session used r ≡ true) (λ r. key_le r.smallest r.largest ≡ true) rs ordered (each_pass (is_new session used) rs (and_parts _ _ h).0)
  where
    ordered : (r : TableRow) → is_new session used r ≡ true → key_le r.smallest r.largest ≡ true
    ordered r n = (and_parts _ _ (and_parts _ _ (and_parts _ _ (and_parts _ _ (and_parts _ _ n).0).0).0).0).0

apart_rows : (guards : List Bytes) (rs : List TableRow) → lie_apart guards rs ≡ true → Each (λ r. lies_in (range_of guards r.smallest) r ≡ true) rs
apart_rows guards rs h = each_pass (λ r. lies_in (range_of guards r.smallest) r) rs (and_parts _ _ h).0

-- the smallest key of a row in a range is in the range
pub start_in : (range : Bytes × Option Bytes) (r : TableRow) → key_le r.smallest r.largest ≡ true → lies_in range r ≡ true → in_range range.0 range.1 r.smallest ≡ true
start_in range r o h = and_from _ _ (and_parts _ _ h).0 (below range.1 (and_parts _ _ h).1)
  where
    below : (hi : Option Bytes) → is_below r.largest hi ≡ true → is_below r.smallest hi ≡ true
    below None x = refl
    below (Some k) x = le_lt r.smallest r.largest k o x

-- a row that lies in the range of some key's guard lies in its own
own_range : (guards : List Bytes) (k : Bytes) (r : TableRow) → AscendFrom [] guards → key_le r.smallest r.largest ≡ true
    → lies_in (range_of guards k) r ≡ true → lies_in (range_of guards r.smallest) r ≡ true
own_range guards k r a o h =
    subst (λ range. lies_in range r ≡ true) (sym (same_range [] guards k r.smallest a (start_in (range_of guards k) r o h))) h

-- a row outside the range of a cut is straddled by none of its keys
not_straddled : (guards keys : List Bytes) (first : Bytes) (r : TableRow) → AscendFrom [] guards
    → lies_in (range_of guards r.smallest) r ≡ true → Each (λ k. in_range (range_of guards first).0 (range_of guards first).1 k ≡ true) keys
    → lies_in (range_of guards first) r ≡ false → list_any (straddles r) keys ≡ false
not_straddled guards [] first r a own ks out = refl
not_straddled guards (k ∷ ks) first r a own h out = by (straddles r k) refl (not_straddled guards ks first r a own h.1 out)
  where
    below : (hi : Option Bytes) → key_le k r.largest ≡ true → is_below r.largest hi ≡ true → is_below k hi ≡ true
    below None x y = refl
    below (Some z) x y = le_lt k r.largest z x y

    by : (b : Bool) → straddles r k ≡ b → list_any (straddles r) ks ≡ false → (b || list_any (straddles r) ks) ≡ false
    by false e ih = ih
    by true e ih =
        let s = and_parts (key_lt r.smallest k) (key_le k r.largest) e in
        let own_parts = and_parts (key_le (range_of guards r.smallest).0 r.smallest) (is_below r.largest (range_of guards r.smallest).1) own in
        let in_own : in_range (range_of guards r.smallest).0 (range_of guards r.smallest).1 k ≡ true =
        and_from _ _ (le_trans (range_of guards r.smallest).0 r.smallest k own_parts.0 (lt_le_weak r.smallest k s.0)) (below (range_of guards r.smallest).1 s.1 own_parts.1) in
        let one : range_of guards k ≡ range_of guards r.smallest = same_range [] guards r.smallest k a in_own in
        let two : range_of guards k ≡ range_of guards first = same_range [] guards first k a h.0 in
        absurd (true≢false (sym (subst (λ range. lies_in range r ≡ true) (sym one ∙ two) own) ∙ out))

-- ---- each edit keeps it

-- the guards of the levels after a cut
pub guards_after : (s : Shape) (level l : ℕ) (keys : List Bytes) (inputs : List ℕ) (outputs : List TableRow) → level - 1 < length s.guards → 1 ≤ level → 1 ≤ l
    → ((l ≡ level) × (guards_at (shape_after s (Cut level keys inputs outputs)) l ≡ with_keys keys (guards_at s level)))
    ⊎ ((l ≢ level) × (guards_at (shape_after s (Cut level keys inputs outputs)) l ≡ guards_at s l))
guards_after s level zero keys inputs outputs within a b = absurd (omega arith)
guards_after s level (suc l) keys inputs outputs within a b = elim (cases_eq (suc l) level) [
  | inl e ↦ let at : l ≡ level - 1 = omega arith in inl (e, ap (λ k. get_or (set s.guards (level - 1) gs) k []) at ∙ get_or-set_same s.guards (level - 1) gs [] within)
  | inr ne ↦ inr (ne, get_or-set_other s.guards (level - 1) l gs [] (λ e. ne (omega arith)))
]
  where
    gs : List Bytes
    gs = with_keys keys (guards_at s level)

-- where the guards don't change: what stays and what is added lie in guards
kept_guards : (o : Column) (s : Shape) (e : Edit) → InGuards o s → rows_are_new s.session s.used (outputs_of e) ≡ true
    → Each (λ r. lies_in (range_of (guards_at s r.level) r.smallest) r ≡ true) (outputs_of e) → InGuards o (exchange_of s e)
kept_guards o s e h new outs =
    record {
      count = h.count;
      ascend = h.ascend;
      rows = each-append (λ r. key_le r.smallest r.largest ≡ true) _ (outputs_of e) (each-filter _ _ s.live h.rows) (new_rows s.session s.used (outputs_of e) new);
      inside = each-append (InGuard s) _ (outputs_of e) (each-filter (InGuard s) _ s.live h.inside)
          (each_both (λ r. lies_in (range_of (guards_at s r.level) r.smallest) r ≡ true) (λ r. lies_in (range_of (guards_at s r.level) r.smallest) r ≡ true) (InGuard s) (outputs_of e) (λ r x y l. x) outs outs);
    }

-- rows at a level, in its guards
at_level : (s : Shape) (level : ℕ) (rs : List TableRow) → list_all (λ r. r.level == level) rs ≡ true
    → Each (λ r. lies_in (range_of (guards_at s level) r.smallest) r ≡ true) rs → Each (λ r. lies_in (range_of (guards_at s r.level) r.smallest) r ≡ true) rs
at_level s level rs h g =
    each_both (λ r. (r.level == level) ≡ true) (λ r. lies_in (range_of (guards_at s level) r.smallest) r ≡ true) (λ r. lies_in (range_of (guards_at s r.level) r.smallest) r ≡ true) rs
    (λ r x y. subst (λ l. lies_in (range_of (guards_at s l) r.smallest) r ≡ true) (sym (eqb-true r.level level x)) y) (each_pass (λ r. r.level == level) rs h) g

pub in_guards_step : (o : Column) (s : Shape) (e : Edit) → InGuards o s → fits o s e ≡ true → InGuards o (shape_after s e)
in_guards_step o s (Open session log) h f = record { count = h.count; ascend = h.ascend; rows = h.rows; inside = h.inside }
in_guards_step o s (Flush row from to log chosen) h f =
    let k = flush_facts o s row from to log chosen f in
    record {
      count = h.count;
      ascend = h.ascend;
      rows = each-append (λ r. key_le r.smallest r.largest ≡ true) (rows_without [] s.live) (row ∷ []) (each-filter _ (λ x. not (has_number x.number [])) s.live h.rows) (new_rows s.session s.used (row ∷ []) k.fresh);
      inside = each-append (InGuard s) (rows_without [] s.live) (row ∷ []) (each-filter (InGuard s) (λ x. not (has_number x.number [])) s.live h.inside) ((λ l. absurd (omega (arith, k.at))), tt);
    }
in_guards_step o s (Move level floor inputs outputs) h f =
    let k = move_facts o s level floor inputs outputs f in
    kept_guards o s (Move level floor inputs outputs) h k.fresh (at_level s (suc level) outputs k.below (apart_rows (guards_at s (suc level)) outputs k.apart))
in_guards_step o s (Merge floor whole inputs outputs) h f =
    let k = merge_facts o s floor whole inputs outputs f in
    let gs : List Bytes = guards_at s o.last_level in
    kept_guards o s (Merge floor whole inputs outputs) h k.fresh (at_level s o.last_level outputs k.below
    (each_both (λ r. key_le r.smallest r.largest ≡ true) (λ r. lies_in (input_range s o.last_level inputs) r ≡ true) (λ r. lies_in (range_of gs r.smallest) r ≡ true) outputs
    (λ r p q. own_range gs (first_smallest (rows_numbered inputs s.live)) r (h.ascend o.last_level) p q) (new_rows s.session s.used outputs k.fresh)
    (each_pass (lies_in (input_range s o.last_level inputs)) outputs k.inside)))
in_guards_step o s (Cut level keys inputs outputs) h f = cut_step (cut_facts o s level keys inputs outputs f)
  where
    gs : List Bytes
    gs = guards_at s level

    new : List Bytes
    new = with_keys keys gs

    range : Bytes × Option Bytes
    range = range_of gs (first_of keys)

    kept : (k : CutFits o s level keys inputs outputs) (r : TableRow)
        → (InGuard s r × (key_le r.smallest r.largest ≡ true)) → not (is_straddled level range keys r) ≡ true → InGuard (shape_after s (Cut level keys inputs outputs)) r
    kept k r h2 out l = elim (guards_after s level r.level keys inputs outputs (omega (arith, h.count, k.from, k.upto)) k.from l) [
      | inl e ↦
          let own : lies_in (range_of gs r.smallest) r ≡ true = subst (λ x. lies_in (range_of (guards_at s x) r.smallest) r ≡ true) e.0 (h2.0 l) in
          let free : list_any (straddles r) keys ≡ false = by (lies_in range r) refl own (not-true _ out) e.0 in
          subst (λ x. lies_in (range_of x r.smallest) r ≡ true) (sym e.1) (ranges_kept gs keys r own free h2.1)
      | inr e ↦ subst (λ x. lies_in (range_of x r.smallest) r ≡ true) (sym e.1) (h2.0 l)
    ]
      where
        by : (b : Bool) → lies_in range r ≡ b → lies_in (range_of gs r.smallest) r ≡ true → is_straddled level range keys r ≡ false → r.level ≡ level → list_any (straddles r) keys ≡ false
        by true x own y e = grind (arith, x, y, eq-eqb r.level level e)
        by false x own y e = not_straddled gs keys (first_of keys) r (h.ascend level) own (each_pass (in_range range.0 range.1) keys k.reached) x

    placed : (k : CutFits o s level keys inputs outputs) (r : TableRow)
        → (r.level == level) ≡ true → lies_in (range_of new r.smallest) r ≡ true → InGuard (shape_after s (Cut level keys inputs outputs)) r
    placed k r at h2 l = elim (guards_after s level r.level keys inputs outputs (omega (arith, h.count, k.from, k.upto)) k.from l) [
      | inl e ↦ subst (λ x. lies_in (range_of x r.smallest) r ≡ true) (sym e.1) h2
      | inr e ↦ absurd (e.0 (eqb-true r.level level at))
    ]

    above : (k : CutFits o s level keys inputs outputs) (l : ℕ) → AscendFrom [] (guards_at (shape_after s (Cut level keys inputs outputs)) (suc l))
    above k l = elim (guards_after s level (suc l) keys inputs outputs (omega (arith, h.count, k.from, k.upto)) k.from (omega arith)) [
      | inl e ↦ subst (AscendFrom []) (sym e.1) (ascend_keys gs keys (h.ascend level))
      | inr e ↦ subst (AscendFrom []) (sym e.1) (h.ascend (suc l))
    ]

    levels : (k : CutFits o s level keys inputs outputs) (l : ℕ) → AscendFrom [] (guards_at (shape_after s (Cut level keys inputs outputs)) l)
    levels k zero = tt
    levels k (suc l) = above k l

    cut_step : CutFits o s level keys inputs outputs → InGuards o (shape_after s (Cut level keys inputs outputs))
    cut_step k =
        record {
          count = length-set s.guards (level - 1) new ∙ h.count;
          ascend = levels k;
          rows = each-append (λ r. key_le r.smallest r.largest ≡ true) _ outputs (each-filter _ _ s.live h.rows) (new_rows s.session s.used outputs k.fresh);
          inside = each-append (InGuard (shape_after s (Cut level keys inputs outputs))) (rows_without inputs s.live) outputs
              (each_both (λ r. InGuard s r × (key_le r.smallest r.largest ≡ true)) (λ r. not (is_straddled level range keys r) ≡ true) _ (rows_without inputs s.live) (kept k)
              (each-filter _ _ s.live (each_both (InGuard s) (λ r. key_le r.smallest r.largest ≡ true) _ s.live (λ r x y. (x, y)) h.inside h.rows))
              (each_pass _ (rows_without inputs s.live) k.others))
              (each_both (λ r. (r.level == level) ≡ true) (λ r. lies_in (range_of new r.smallest) r ≡ true) _ outputs (placed k)
              (each_pass (λ r. r.level == level) outputs k.at) (each_pass (λ r. lies_in (range_of new r.smallest) r) outputs k.placed));
        }
