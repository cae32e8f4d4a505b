-- The record of a history is true of its batches at every moment, so that what a stop leaves is a base.
use Rattle.std.proofs.Common.{◌≡◌, ℕ, suc, ◌+◌, ◌-◌, ◌*◌, ◌^◌, ◌<◌, ◌≤◌, max, Bool, true, false, cond, ◌&&◌, List, [], ◌∷◌, ◌++◌, length, ◌⊎◌, inl, inr, refl, sym, ◌∙◌, ap, subst, arith}
use Rattle.std.specs.Prelude.{nat_lt, nat_le, ◌==◌, filter, Option, Some, None, option_map, ⊤}
use Rattle.std.specs.List.{AllZip}
use Rattle.std.proofs.lemmas.Bool.{and_parts, and_from, or_left, or_right, or_cases, cases_lt, eqb-true, eq-eqb, ltb-true, lt-ltb, leb-true, le-leb, true≢false, false_from_ne_true}
use Rattle.std.proofs.lemmas.List.Elements.{filter-append}
use Rattle.peb_base.specs.Batches.{Batches, entries_of, numbered, ordered_above, is_boundary, batches_to, last_number}
use Rattle.peb_base.specs.Entries.{entries_between}
use Rattle.peb_base.specs.Numbers.{session_of}
use Rattle.peb_base.specs.Profiles.{column, Column}
use Rattle.flsm_model.specs.Trees.{Describes, Tree, contents, tree_after, tree_of, empty_tree}
use Rattle.peb_base.specs.declared.op.Op.{Op}
use Rattle.peb_base.specs.declared.entry.Entry.{Entry}
use Rattle.flsm_model.specs.declared.edit.Edit.{Edit}
use Rattle.flsm_model.specs.declared.edit.Edit.TheVariants.{Open, Flush, Move, Cut, Merge}
use Rattle.flsm_model.specs.declared.job_kind.JobKind.{JobKind}
use Rattle.flsm_model.specs.declared.job_kind.JobKind.TheVariants.{Flush as FlushJob, Move as MoveJob, Cut as CutJob, Merge as MergeJob}
use Rattle.flsm_model.specs.declared.job.Job.{Job}
use Rattle.flsm_model.specs.Shape.{Record, Shape, shape_after, shape_from, shape_of, empty_shape, outputs_of}
use Rattle.flsm_model.specs.Fits.{fits, fit_from, is_legal_record}
use Rattle.flsm_model.specs.Choices.{Chooses}
use Rattle.flsm_model.specs.TrueRecord.{DescribedFrom, IsTrueRecord, Falls, Live, Flushed, SamePuts}
use Rattle.flsm_model.specs.Events.{Event, Opened, Commit, Synced, Look, Hold, Release, Freeze, Begin, Done, Short, JournalFault, Stop, Session, Standing, base}
use Rattle.flsm_model.specs.Outcomes.{IsEditOf, IsOutcome}
use Rattle.flsm_model.specs.Legal.{Allowed, IsLegal, last_running, Always}
use Rattle.flsm_model.specs.Steps.{step, run}
use Rattle.flsm_model.specs.Stops.{RecordIsTrue, OpensNext, StopLeavesBase}
use Rattle.flsm_model.specs.Bounds.{WrittenOnce}
use Rattle.flsm_model.proofs.contents.Places.{Placed, Within, placed_step, placed_base, shape_same, ordered_some, record_bound}
use Rattle.flsm_model.proofs.contents.Shown.{above_low}
use Rattle.flsm_model.proofs.histories.Histories.{Holds, holds_step, job_in, within}
use Rattle.flsm_model.proofs.contents.Base.{sound_base, deep}
use Rattle.flsm_model.proofs.contents.MapLaw.{Shows, SessionShows, shows_step, still_frozen, to_after, last_same, end_of_batch}
use Rattle.flsm_model.proofs.contents.MapBase.{shows_base}
use Rattle.flsm_model.proofs.contents.Structure.{Agree, tree_same, described_same, fit_push, tree_push, described_push, filter_none, agree_push, dropped_high}

-- ---- batches that are dropped

agree_above : (low a b : ℕ) (bs : Batches) → ordered_above low bs ≡ true → b ≤ low → entries_between a b (entries_of bs) ≡ []
agree_above low a b bs h le = filter_none _ (entries_of bs) (λ x i. false_from_ne_true _ (λ e. omega (arith, leb-true x.number b (and_parts _ _ e).1, above_low low bs x h i)))

pub agree_drop : (low n : ℕ) (bs : Batches) → ordered_above low bs ≡ true → is_boundary n bs ≡ true → Agree bs (batches_to n bs) n
agree_drop low n [] h bd a b le = refl
agree_drop low n (y ∷ bs) h bd a b le =
    let p3 : ordered_above (y.0 + length y.1 - 1) bs ≡ true = (and_parts _ _ h).1 in
    by (nat_le (y.0 + length y.1 - 1) n) refl p3 (tails p3 (λ r. agree_drop (y.0 + length y.1 - 1) n bs p3 r a b le))
  where
    p : Entry → Bool
    p e = nat_lt a e.number && nat_le e.number b

    tails : ordered_above (y.0 + length y.1 - 1) bs ≡ true → (is_boundary n bs ≡ true → entries_between a b (entries_of bs) ≡ entries_between a b (entries_of (batches_to n bs)))
        → entries_between a b (entries_of bs) ≡ entries_between a b (entries_of (batches_to n bs))
    tails o ih = elim (or_cases (n == y.0 + length y.1 - 1) (is_boundary n bs) bd) [
      | inl s ↦
          let at : n ≡ y.0 + length y.1 - 1 = eqb-true n (y.0 + length y.1 - 1) s in
          agree_above (y.0 + length y.1 - 1) a b bs o (omega (arith, at, le)) ∙ sym (agree_above (y.0 + length y.1 - 1) a b (batches_to n bs) (ordered_some (y.0 + length y.1 - 1) n bs o) (omega (arith, at, le)))
      | inr r ↦ ih r
    ]

    by : (c : Bool) → nat_le (y.0 + length y.1 - 1) n ≡ c → ordered_above (y.0 + length y.1 - 1) bs ≡ true → entries_between a b (entries_of bs) ≡ entries_between a b (entries_of (batches_to n bs))
        → entries_between a b (numbered y.0 y.1 ++ entries_of bs) ≡ entries_between a b (entries_of (cond c (y ∷ batches_to n bs) (batches_to n bs)))
    by true e o rest =
        filter-append p (numbered y.0 y.1) (entries_of bs) ∙ ap (λ ys. filter p (numbered y.0 y.1) ++ ys) rest ∙ sym (filter-append p (numbered y.0 y.1) (entries_of (batches_to n bs)))
    by false e o rest =
        let none : filter p (numbered y.0 y.1) ≡ [] =
        filter_none p (numbered y.0 y.1) (λ x i. false_from_ne_true _ (λ t. dropped_high low n y bs x h bd e i (omega (arith, leb-true x.number b (and_parts _ _ t).1, le)))) in
        filter-append p (numbered y.0 y.1) (entries_of bs) ∙ ap (λ xs. xs ++ filter p (entries_of bs)) none ∙ rest

-- ---- ends of batches

pub boundary_push : (k : ℕ) (bs : Batches) (first : ℕ) (ops : List Op) → is_boundary k bs ≡ true → is_boundary k (bs ++ (first, ops) ∷ []) ≡ true
boundary_push k [] first ops h = or_right (k == first + length ops - 1) (k == 0) h
boundary_push k (y ∷ bs) first ops h = elim (or_cases (k == y.0 + length y.1 - 1) (is_boundary k bs) h) [
  | inl s ↦ or_left _ _ s
  | inr r ↦ or_right _ _ (boundary_push k bs first ops r)
]

pub boundary_drop : (k n : ℕ) (bs : Batches) → is_boundary k bs ≡ true → k ≤ n → is_boundary k (batches_to n bs) ≡ true
boundary_drop k n [] h le = h
boundary_drop k n (y ∷ bs) h le = by (nat_le (y.0 + length y.1 - 1) n) refl (or_cases (k == y.0 + length y.1 - 1) (is_boundary k bs) h) (λ r. boundary_drop k n bs r le)
  where
    by : (c : Bool) → nat_le (y.0 + length y.1 - 1) n ≡ c → ((k == y.0 + length y.1 - 1) ≡ true) ⊎ (is_boundary k bs ≡ true) → (is_boundary k bs ≡ true → is_boundary k (batches_to n bs) ≡ true)
        → is_boundary k (cond c (y ∷ batches_to n bs) (batches_to n bs)) ≡ true
    by true e s ih = elim s [ inl a ↦ or_left _ _ a | inr b ↦ or_right _ _ (ih b) ]
    by false e s ih = elim s [
      | inl a ↦ absurd (true≢false (sym (le-leb (y.0 + length y.1 - 1) n (omega (arith, eqb-true k (y.0 + length y.1 - 1) a, le))) ∙ e))
      | inr b ↦ ih b
    ]

pub boundary_of_last : (bs : Batches) → is_boundary (last_number bs) bs ≡ true
boundary_of_last [] = refl
boundary_of_last (y ∷ bs) = elim (cases_lt (y.0 + length y.1 - 1) (last_number bs)) [
  | inl less ↦ or_right _ _ (subst (λ k. is_boundary k bs ≡ true) (the_last (omega arith)) (boundary_of_last bs))
  | inr ge ↦ or_left _ _ (eq-eqb _ _ (the_first (omega arith)))
]
  where
    the_last : y.0 + length y.1 - 1 ≤ last_number bs → last_number bs ≡ max (y.0 + length y.1 - 1) (last_number bs)
    the_last l = omega arith

    the_first : last_number bs ≤ y.0 + length y.1 - 1 → max (y.0 + length y.1 - 1) (last_number bs) ≡ y.0 + length y.1 - 1
    the_first l = omega arith

-- ---- the record, the batches and the tree

pub record Books (o : Column) (bs : Batches) (r : Record) (t : Tree) : Type 0 where
  pub tree : t ≡ tree_of o bs r
  pub legal : is_legal_record o r ≡ true
  pub described : DescribedFrom o bs (empty_tree o) r

pub shape_told : (o : Column) (bs : Batches) (r : Record) (t : Tree) → Books o bs r t → t.shape ≡ shape_of o r
shape_told o bs r t h = ap (λ (x : Tree). x.shape) h.tree ∙ shape_same o bs (empty_tree o) r

pub books_edit : (o : Column) (bs : Batches) (r : Record) (t : Tree) (e : Edit) → Books o bs r t → fits o t.shape e ≡ true
    → AllZip (Describes o) (outputs_of e) (contents o bs t e) → Chooses o bs t e → Books o bs (r ++ e ∷ []) (tree_after o bs t e)
books_edit o bs r t e h f d c =
    record {
      tree = ap (λ u. tree_after o bs u e) h.tree ∙ sym (tree_push o bs (empty_tree o) r e);
      legal = fit_push o (empty_shape o) r e h.legal (subst (λ s. fits o s e ≡ true) (shape_told o bs r t h) f);
      described = described_push o bs (empty_tree o) r e h.described (subst (λ u. AllZip (Describes o) (outputs_of e) (contents o bs u e)) h.tree d) (subst (λ u. Chooses o bs u e) h.tree c);
    }

pub books_batches : (o : Column) (bs cs : Batches) (r : Record) (t : Tree) (k : ℕ) → Books o bs r t → Agree bs cs k → t.shape.to ≤ k → Books o cs r t
books_batches o bs cs r t k h a le =
    let le2 : (shape_from (empty_shape o) r).to ≤ k = subst (λ s. s.to ≤ k) (shape_told o bs r t h) le in
    record {
      tree = h.tree ∙ tree_same o bs cs k (empty_tree o) r a h.legal le2;
      legal = h.legal;
      described = described_same o bs cs k (empty_tree o) r a h.legal le2 h.described;
    }

-- ---- a whole history

abbrev pub FrozenAt : Batches → Option Session → Type 0
FrozenAt bs None = ⊤
FrozenAt bs (Some n) = (k : ℕ) → n.frozen ≡ Some k → is_boundary k bs ≡ true

pub record Told (o : Column) (w : Standing) : Type 0 where
  pub books : Books o w.batches w.edits w.tree
  pub boundary : is_boundary w.tree.shape.to w.batches ≡ true
  pub frozen : FrozenAt w.batches w.session

frozen_map : (bs cs : Batches) (s : Option Session) (f : Session → Session) → ((n : Session) → s ≡ Some n → ((k : ℕ) → n.frozen ≡ Some k → is_boundary k bs ≡ true) → (k : ℕ) → (f n).frozen ≡ Some k → is_boundary k cs ≡ true)
    → FrozenAt bs s → FrozenAt cs (option_map f s)
frozen_map bs cs None f g h = tt
frozen_map bs cs (Some n) f g h = g n refl h

same_told : (o : Column) (w : Standing) (f : Session → Session) → ((n : Session) → (f n).frozen ≡ n.frozen) → Told o w → Told o (record w { session = option_map f w.session })
same_told o w f g h = record { books = h.books; boundary = h.boundary; frozen = frozen_map w.batches w.batches w.session f (λ n e b k q. b k (sym (g n) ∙ q)) h.frozen }

-- the last flush after an outcome is at a batch's end
boundary_after : (o : Column) (w : Standing) (n : Session) (j : Job) (e : Edit) → IsEditOf j.kind n j e → is_boundary w.tree.shape.to w.batches ≡ true
    → ((k : ℕ) → n.frozen ≡ Some k → is_boundary k w.batches ≡ true) → is_boundary (tree_after o w.batches w.tree e).shape.to w.batches ≡ true
boundary_after o w n j e same b fz = by j.kind e same
  where
    by : (a : JobKind) (e : Edit) → IsEditOf a n j e → is_boundary (tree_after o w.batches w.tree e).shape.to w.batches ≡ true
    by FlushJob (Flush row from to log chosen) q = fz to q.0
    by FlushJob (Open session log) q = absurd q
    by FlushJob (Move level fl inputs outputs) q = absurd q
    by FlushJob (Cut level keys inputs outputs) q = absurd q
    by FlushJob (Merge fl whole inputs outputs) q = absurd q
    by MoveJob (Move level fl inputs outputs) q = b
    by MoveJob (Open session log) q = absurd q
    by MoveJob (Flush row from to log chosen) q = absurd q
    by MoveJob (Cut level keys inputs outputs) q = absurd q
    by MoveJob (Merge fl whole inputs outputs) q = absurd q
    by CutJob (Cut level keys inputs outputs) q = b
    by CutJob (Open session log) q = absurd q
    by CutJob (Flush row from to log chosen) q = absurd q
    by CutJob (Move level fl inputs outputs) q = absurd q
    by CutJob (Merge fl whole inputs outputs) q = absurd q
    by MergeJob (Merge fl whole inputs outputs) q = b
    by MergeJob (Open session log) q = absurd q
    by MergeJob (Flush row from to log chosen) q = absurd q
    by MergeJob (Move level fl inputs outputs) q = absurd q
    by MergeJob (Cut level keys inputs outputs) q = absurd q

pub told_step : (o : Column) (w : Standing) (e : Event) → Holds o w → Placed o w → Shows o w → Told o w → Allowed o w w.session e → Told o (step o w e)
told_step o w (Opened session log) hold pl sh h a = by w.session a
  where
    by : (s : Option Session) → Allowed o w s (Opened session log) → Told o (step o w (Opened session log))
    by (Some n) x = absurd x
    by None x =
        record {
          books = books_edit o w.batches w.edits w.tree (Open session log) h.books x.0 tt tt;
          boundary = h.boundary;
          frozen = λ k q. absurd (none_some k q);
        }
      where
        none_some : (k : ℕ) → None ≡ Some k → ⊥
        none_some k q = cc
told_step o w (Commit actor first ops) hold pl sh h a = by w.session refl a pl.within
  where
    bs2 : Batches
    bs2 = w.batches ++ (first, ops) ∷ []

    by : (s : Option Session) → w.session ≡ s → Allowed o w s (Commit actor first ops) → Within (last_number w.batches) w.tree.shape.session s → Told o (step o w (Commit actor first ops))
    by None eq x y = absurd x
    by (Some n) eq x y =
        let above : w.tree.shape.to < first = omega (arith, sh.to_last, x.3, y.0) in
        record {
          books = books_batches o w.batches bs2 w.edits w.tree w.tree.shape.to h.books (agree_push w.batches first ops w.tree.shape.to above) (omega arith);
          boundary = boundary_push w.tree.shape.to w.batches first ops h.boundary;
          frozen = frozen_map w.batches bs2 w.session _ (λ m q b k z. boundary_push k w.batches first ops (b k z)) h.frozen;
        }
told_step o w (Synced actor k) hold pl sh h a = same_told o w _ (λ n. refl) h
told_step o w (Look actor k) hold pl sh h a = h
told_step o w (Hold actor k) hold pl sh h a = same_told o w _ (λ n. refl) h
told_step o w (Release actor k) hold pl sh h a = same_told o w _ (λ n. refl) h
told_step o w (Freeze m) hold pl sh h a =
    record {
      books = h.books;
      boundary = h.boundary;
      frozen = frozen_map w.batches w.batches w.session _ (λ n e b k q.
          subst (λ z. is_boundary z w.batches ≡ true) (sym (last_same w sh.to_last) ∙ sym (within o w (Freeze m) n e a).3 ∙ some_same m k q) (boundary_of_last w.batches)) h.frozen;
    }
  where
    some_same : (k q : ℕ) → Some k ≡ Some q → k ≡ q
    some_same k q r = cc
told_step o w (Begin actor job) hold pl sh h a = same_told o w _ (λ n. refl) h
told_step o w (Done actor e) hold pl sh h a = by w.session refl a h.frozen
  where
    by : (s : Option Session) → w.session ≡ s → Allowed o w s (Done actor e) → FrozenAt w.batches s → Told o (step o w (Done actor e))
    by None eq x y = absurd x
    by (Some n) eq x y =
        let out = job_in n.running actor (λ k. IsOutcome o w n k e) x.1 in
        record {
          books = books_edit o w.batches w.edits w.tree e h.books out.2.formed.fit (out.2.holds hold.tells) (out.2.chooses hold.tells);
          boundary = boundary_after o w n out.0 e out.2.formed.same h.boundary y;
          frozen = frozen_map w.batches w.batches w.session _ (λ m q b k z. b k (still_frozen e m.frozen k z)) h.frozen;
        }
told_step o w (Short actor cause bytes) hold pl sh h a =
    let h2 = same_told o w (λ s. record s { running = s.running }) (λ n. refl) h in
    record { books = h.books; boundary = h.boundary; frozen = frozen_map w.batches w.batches w.session _ (λ n e b k q. b k q) h.frozen }
told_step o w JournalFault hold pl sh h a = same_told o w _ (λ n. refl) h
told_step o w (Stop m None) hold pl sh h a = by w.session a sh.session
  where
    by : (s : Option Session) → Allowed o w s (Stop m None) → SessionShows w.tree.shape.to (last_number w.batches) s → Told o (step o w (Stop m None))
    by None x y = absurd x
    by (Some n) x y =
        let low : w.tree.shape.to ≤ m = omega (arith, y.stable, x.1) in
        record {
          books = books_batches o w.batches (batches_to m w.batches) w.edits w.tree m h.books (agree_drop 0 m w.batches pl.ordered (end_of_batch w m hold.tells x.0)) low;
          boundary = boundary_drop w.tree.shape.to m w.batches h.boundary low;
          frozen = tt;
        }
told_step o w (Stop m (Some e)) hold pl sh h a = by w.session refl a sh.session h.frozen
  where
    by : (s : Option Session) → w.session ≡ s → Allowed o w s (Stop m (Some e)) → SessionShows w.tree.shape.to (last_number w.batches) s → FrozenAt w.batches s → Told o (step o w (Stop m (Some e)))
    by None eq x y z = absurd x
    by (Some n) eq x y z =
        let out = job_in (last_running n) x.2.0 (λ q. IsOutcome o w n q e) x.2.1 in
        let low : (tree_after o w.batches w.tree e).shape.to ≤ m = omega (arith, to_after o w n out.0 e out.2.formed.same y, x.1) in
        record {
          books = books_batches o w.batches (batches_to m w.batches) (w.edits ++ e ∷ []) (tree_after o w.batches w.tree e) m
              (books_edit o w.batches w.edits w.tree e h.books out.2.formed.fit (out.2.holds hold.tells) (out.2.chooses hold.tells)) (agree_drop 0 m w.batches pl.ordered (end_of_batch w m hold.tells x.0)) low;
          boundary = boundary_drop (tree_after o w.batches w.tree e).shape.to m w.batches (boundary_after o w n out.0 e out.2.formed.same h.boundary z) low;
          frozen = tt;
        }

pub told_base : (o : Column) (bs : Batches) (r : Record) → IsTrueRecord o r bs → Told o (base true o bs r)
told_base o bs r h =
    record {
      books = record { tree = refl; legal = h.legal; described = h.described };
      boundary = subst (λ s. is_boundary s.to bs ≡ true) (sym (shape_same o bs (empty_tree o) r)) h.boundary;
      frozen = tt;
    }

-- all that is kept over a legal history
pub record All (o : Column) (w : Standing) : Type 0 where
  pub holds : Holds o w
  pub placed : Placed o w
  pub shows : Shows o w
  pub told : Told o w

pub all_base : (o : Column) (bs : Batches) (r : Record) → IsTrueRecord o r bs → All o (base true o bs r)
all_base o bs r h = record { holds = sound_base o r bs h; placed = placed_base o bs r h; shows = shows_base o bs r h; told = told_base o bs r h }

pub all_step : (o : Column) (w : Standing) (e : Event) → 0 < o.last_level → All o w → Allowed o w w.session e → All o (step o w e)
all_step o w e d h a =
    record {
      holds = holds_step o w e d h.holds a;
      placed = placed_step o w e h.placed a;
      shows = shows_step o w e h.holds h.placed h.shows a;
      told = told_step o w e h.holds h.placed h.shows h.told a;
    }

pub all_run : (o : Column) (w : Standing) (es : List Event) → 0 < o.last_level → All o w → IsLegal o w es → All o (run o w es)
all_run o w [] d h l = h
all_run o w (e ∷ es) d h l = all_run o (step o w e) es d (all_step o w e d h l.0) l.1

-- ---- the laws

session_within : (last session : ℕ) (s : Option Session) → Within last session s → session_of last ≤ session
session_within last session None h = omega (arith, h)
session_within last session (Some n) h = omega (arith, h.0, h.1)

pub all_true : (o : Column) (w : Standing) → All o w → RecordIsTrue o w
all_true o w h =
    let b = h.told.books in
    let shape : w.tree.shape ≡ shape_of o w.edits = shape_told o w.batches w.edits w.tree b in
    record {
      holds = record {
        legal = b.legal;
        ordered = h.placed.ordered;
        sessions = subst (λ s. session_of (last_number w.batches) ≤ s.session) shape (session_within (last_number w.batches) w.tree.shape.session w.session h.placed.within);
        boundary = subst (λ s. is_boundary s.to w.batches ≡ true) shape h.told.boundary;
        described = b.described;
        falls = subst (λ t. Falls t.tables) b.tree h.holds.sound.falls;
        map = subst (λ t. SamePuts (Live t) (Flushed w.batches t.shape.to) t.shape.to) b.tree (h.shows.shown w.tree.shape.to (inl (omega arith)));
      };
      tree = b.tree;
    }

pub record_is_true : Always RecordIsTrue
record_is_true p bs r h base_true legal =
    all_true (column p) _ (all_run (column p) (base true (column p) bs r) h (deep p) (all_base (column p) bs r base_true) legal)

-- logs stay between the last flush's and the session's
pub record Logs (s : Shape) : Type 0 where
  pub least : 1 ≤ s.log
  pub room : s.log ≤ s.session * 2 ^ 41 + 1

logs_step : (o : Column) (s : Shape) (e : Edit) → fits o s e ≡ true → Logs s → Logs (shape_after s e)
logs_step o s (Open session log) f h =
    let p3 = and_parts _ _ f in
    let p2 = and_parts _ _ p3.0 in
    let p1 = and_parts _ _ p2.0 in
    let more : s.session < session = ltb-true s.session session p1.0 in
    record { least = h.least; room = omega (arith, more, h.room) }
logs_step o s (Flush row from to log chosen) f h =
    let p11 = and_parts _ _ f in
    let p10 = and_parts _ _ p11.0 in
    let p9 = and_parts _ _ p10.0 in
    let p8 = and_parts _ _ p9.0 in
    let p7 = and_parts _ _ p8.0 in
    let p6 = and_parts _ _ p7.0 in
    let p5 = and_parts _ _ p6.0 in
    let p4 = and_parts _ _ p5.0 in
    let one : 1 < log = ltb-true 1 log p4.1 in
    let room : log ≤ s.session * 2 ^ 41 = leb-true log (s.session * 2 ^ 41) p6.1 in
    record { least = omega (arith, one); room = omega (arith, room) }
logs_step o s (Move level floor inputs outputs) f h = record { least = h.least; room = h.room }
logs_step o s (Cut level keys inputs outputs) f h = record { least = h.least; room = h.room }
logs_step o s (Merge floor whole inputs outputs) f h = record { least = h.least; room = h.room }

logs_from : (o : Column) (s : Shape) (r : Record) → fit_from o s r ≡ true → Logs s → Logs (shape_from s r)
logs_from o s [] f h = h
logs_from o s (e ∷ es) f h = let p = and_parts (fits o s e) _ f in logs_from o (shape_after s e) es p.1 (logs_step o s e p.0 h)

pub logs_of : (o : Column) (w : Standing) → All o w → Logs w.tree.shape
logs_of o w h = subst Logs (sym (shape_told o w.batches w.edits w.tree h.told.books)) (logs_from o (empty_shape o) w.edits h.told.books.legal (record { least = omega arith; room = omega arith }))

pub opens_next : (o : Column) (w : Standing) → All o w → OpensNext o w
opens_next o w h =
    let l = logs_of o w h in
    record {
      least = l.least;
      room = l.room;
      opens = λ log a b c. (
        and_from _ _ (and_from _ _ (and_from _ _ (lt-ltb w.tree.shape.session (suc w.tree.shape.session) (omega arith)) (le-leb w.tree.shape.log log a)) (le-leb 1 log (omega (arith, l.least))))
            (le-leb log ((suc w.tree.shape.session - 1) * 2 ^ 41 + 1) (omega (arith, b))),
        refl,
        omega (arith, c),
      );
    }

pub stop_leaves_base : Always StopLeavesBase
stop_leaves_base p bs r h base_true legal none =
    let a = all_run (column p) (base true (column p) bs r) h (deep p) (all_base (column p) bs r base_true) legal in
    (all_true (column p) _ a, opens_next (column p) _ a)

pub written_once : Always WrittenOnce
written_once p bs r h base_true legal q level l =
    let t = record_is_true p bs r h base_true legal in
    omega (arith, record_bound p _ _ q level t.holds l)
