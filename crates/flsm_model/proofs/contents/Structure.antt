-- The edits of a history are a legal record over its batches, whatever was dropped.
use Rattle.std.proofs.Common.{◌≡◌, ℕ, ◌+◌, ◌-◌, ◌<◌, ◌≤◌, Bool, true, false, cond, ◌&&◌, List, [], ◌∷◌, ◌++◌, length, inl, inr, refl, sym, ◌∙◌, ap, subst, arith}
use Rattle.std.specs.Prelude.{nat_lt, nat_le, filter}
use Rattle.std.specs.List.{AllZip}
use Rattle.std.proofs.lemmas.Bool.{and_parts, and_from, leb-true, false_from_ne_true}
use Rattle.std.proofs.lemmas.List.Elements.{filter-append}
use Rattle.peb_base.specs.Batches.{Batches, entries_of, numbered, ordered_above, is_boundary, batches_to}
use Rattle.peb_base.specs.Entries.{entries_between, in_order}
use Rattle.flsm_model.specs.Trees.{Describes, Tree, contents, tree_after, paired, tables_without, tree_from}
use Rattle.peb_base.specs.declared.op.Op.{Op}
use Rattle.peb_base.specs.declared.entry.Entry.{Entry}
use Rattle.peb_base.specs.Profiles.{Column}
use Rattle.flsm_model.specs.declared.edit.Edit.{Edit}
use Rattle.flsm_model.specs.declared.edit.Edit.TheVariants.{Open, Flush, Move, Cut, Merge}
use Rattle.flsm_model.specs.Shape.{Record, Shape, shape_after, shape_from, outputs_of, inputs_of}
use Rattle.flsm_model.specs.Fits.{fits, fit_from}
use Rattle.flsm_model.specs.Choices.{Chooses}
use Rattle.flsm_model.specs.TrueRecord.{DescribedFrom}
use Rattle.flsm_model.proofs.guards.Facts.{flush_facts}
use Rattle.flsm_model.proofs.lists.Members.{IsIn}
use Rattle.flsm_model.proofs.contents.Shown.{in_numbered, above_low, kept_batches}
use Rattle.flsm_model.proofs.contents.Places.{ordered_some}
use Rattle.flsm_model.proofs.lists.Lists.{in_append, in_left}

-- the same entries up to a number
abbrev pub Agree : Batches → Batches → ℕ → Type 0
Agree bs cs k = (a b : ℕ) → b ≤ k → entries_between a b (entries_of bs) ≡ entries_between a b (entries_of cs)

to_grows : (o : Column) (s : Shape) (e : Edit) → fits o s e ≡ true → s.to ≤ (shape_after s e).to
to_grows o s (Open session log) f = omega arith
to_grows o s (Flush row from to log chosen) f = let k = flush_facts o s row from to log chosen f in omega (arith, k.follows, k.rises)
to_grows o s (Move level floor inputs outputs) f = omega arith
to_grows o s (Cut level keys inputs outputs) f = omega arith
to_grows o s (Merge floor whole inputs outputs) f = omega arith

pub to_grows_from : (o : Column) (s : Shape) (r : Record) → fit_from o s r ≡ true → s.to ≤ (shape_from s r).to
to_grows_from o s [] f = omega arith
to_grows_from o s (e ∷ es) f =
    let p = and_parts (fits o s e) _ f in omega (arith, to_grows o s e p.0, to_grows_from o (shape_after s e) es p.1)

contents_same : (o : Column) (bs cs : Batches) (k : ℕ) (t : Tree) (e : Edit) → Agree bs cs k → (shape_after t.shape e).to ≤ k → contents o bs t e ≡ contents o cs t e
contents_same o bs cs k t (Open session log) a l = refl
contents_same o bs cs k t (Flush row from to log chosen) a l = ap (λ xs. in_order xs ∷ []) (a from to l)
contents_same o bs cs k t (Move level floor inputs outputs) a l = refl
contents_same o bs cs k t (Cut level keys inputs outputs) a l = refl
contents_same o bs cs k t (Merge floor whole inputs outputs) a l = refl

chooses_same : (o : Column) (bs cs : Batches) (k : ℕ) (t : Tree) (e : Edit) → Agree bs cs k → (shape_after t.shape e).to ≤ k → Chooses o bs t e → Chooses o cs t e
chooses_same o bs cs k t (Open session log) a l h = h
chooses_same o bs cs k t (Flush row from to log chosen) a l h = rw (← a from to l) h
chooses_same o bs cs k t (Move level floor inputs outputs) a l h = h
chooses_same o bs cs k t (Cut level keys inputs outputs) a l h = h
chooses_same o bs cs k t (Merge floor whole inputs outputs) a l h = h

pub installed_same : (o : Column) (bs cs : Batches) (k : ℕ) (t : Tree) (e : Edit) → Agree bs cs k → (shape_after t.shape e).to ≤ k → tree_after o bs t e ≡ tree_after o cs t e
installed_same o bs cs k t e a l =
    ap (λ c. record { shape = shape_after t.shape e; tables = tables_without (inputs_of e) t.tables ++ paired (outputs_of e) c }) (contents_same o bs cs k t e a l)

pub tree_same : (o : Column) (bs cs : Batches) (k : ℕ) (t : Tree) (r : Record) → Agree bs cs k → fit_from o t.shape r ≡ true → (shape_from t.shape r).to ≤ k → tree_from o bs t r ≡ tree_from o cs t r
tree_same o bs cs k t [] a f l = refl
tree_same o bs cs k t (e ∷ es) a f l =
    let p = and_parts (fits o t.shape e) _ f in
    let le : (shape_after t.shape e).to ≤ k = omega (arith, to_grows_from o (shape_after t.shape e) es p.1) in
    tree_same o bs cs k (tree_after o bs t e) es a p.1 l ∙ ap (λ u. tree_from o cs u es) (installed_same o bs cs k t e a le)

pub described_same : (o : Column) (bs cs : Batches) (k : ℕ) (t : Tree) (r : Record) → Agree bs cs k → fit_from o t.shape r ≡ true → (shape_from t.shape r).to ≤ k → DescribedFrom o bs t r → DescribedFrom o cs t r
described_same o bs cs k t [] a f l d = tt
described_same o bs cs k t (e ∷ es) a f l d =
    let p = and_parts (fits o t.shape e) _ f in
    let le : (shape_after t.shape e).to ≤ k = omega (arith, to_grows_from o (shape_after t.shape e) es p.1) in (
      subst (λ c. AllZip (Describes o) (outputs_of e) c) (contents_same o bs cs k t e a le) d.0,
      chooses_same o bs cs k t e a le d.1,
      subst (λ u. DescribedFrom o cs u es) (installed_same o bs cs k t e a le) (described_same o bs cs k (tree_after o bs t e) es a p.1 l d.2),
    )

-- one edit more
pub fit_push : (o : Column) (s : Shape) (r : Record) (e : Edit) → fit_from o s r ≡ true → fits o (shape_from s r) e ≡ true → fit_from o s (r ++ e ∷ []) ≡ true
fit_push o s [] e f g = and_from _ _ g refl
fit_push o s (x ∷ r) e f g = let p = and_parts (fits o s x) _ f in and_from _ _ p.0 (fit_push o (shape_after s x) r e p.1 g)

pub tree_push : (o : Column) (bs : Batches) (t : Tree) (r : Record) (e : Edit) → tree_from o bs t (r ++ e ∷ []) ≡ tree_after o bs (tree_from o bs t r) e
tree_push o bs t [] e = refl
tree_push o bs t (x ∷ r) e = tree_push o bs (tree_after o bs t x) r e

pub described_push : (o : Column) (bs : Batches) (t : Tree) (r : Record) (e : Edit) → DescribedFrom o bs t r → AllZip (Describes o) (outputs_of e) (contents o bs (tree_from o bs t r) e)
    → Chooses o bs (tree_from o bs t r) e → DescribedFrom o bs t (r ++ e ∷ [])
described_push o bs t [] e d a c = (a, c, tt)
described_push o bs t (x ∷ r) e d a c = (d.0, d.1, described_push o bs (tree_after o bs t x) r e d.2 a c)

-- ---- batches that come and go agree up to what is flushed

pub filter_none : (p : Entry → Bool) (es : List Entry) → ((x : Entry) → IsIn x es → p x ≡ false) → filter p es ≡ []
filter_none p [] h = refl
filter_none p (e ∷ es) h = rw (h e (inl refl)) (filter_none p es (λ x i. h x (inr i)))

pub agree_push : (bs : Batches) (first : ℕ) (ops : List Op) (k : ℕ) → k < first → Agree bs (bs ++ (first, ops) ∷ []) k
agree_push [] first ops k l a b le = sym (filter_none _ (numbered first ops ++ []) (λ x i. false_from_ne_true _ (λ e. omega (arith, leb-true x.number b (and_parts _ _ e).1, low x i))))
  where
    low : (x : Entry) → IsIn x (numbered first ops ++ []) → first ≤ x.number
    low x i = elim (in_append x (numbered first ops) [] i) [ inl c ↦ (in_numbered x first ops c).0 | inr d ↦ absurd d ]
agree_push (x ∷ bs) first ops k l a b le =
    let p : Entry → Bool = λ e. nat_lt a e.number && nat_le e.number b in
    filter-append p (numbered x.0 x.1) (entries_of bs) ∙ ap (λ ys. filter p (numbered x.0 x.1) ++ ys) (agree_push bs first ops k l a b le)
    ∙ sym (filter-append p (numbered x.0 x.1) (entries_of (bs ++ (first, ops) ∷ [])))

pub dropped_high : (low n : ℕ) (y : ℕ × List Op) (bs : Batches) (x : Entry) → ordered_above low (y ∷ bs) ≡ true → is_boundary n (y ∷ bs) ≡ true → nat_le (y.0 + length y.1 - 1) n ≡ false
    → IsIn x (numbered y.0 y.1) → x.number ≤ n → ⊥
dropped_high low n y bs x h b drop i l =
    let p3 = and_parts _ _ h in
    let k : IsIn x (entries_of (batches_to n (y ∷ bs))) = kept_batches low n (y ∷ bs) x h b (in_left x (numbered y.0 y.1) (entries_of bs) i) l in
    let k2 : IsIn x (entries_of (batches_to n bs)) = subst (λ c. IsIn x (entries_of (cond c (y ∷ batches_to n bs) (batches_to n bs)))) drop k in
    omega (arith, above_low (y.0 + length y.1 - 1) (batches_to n bs) x (ordered_some (y.0 + length y.1 - 1) n bs p3.1) k2, (in_numbered x y.0 y.1 i).1)
