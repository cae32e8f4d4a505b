-- A job in flight is not disturbed by the end of another one.
use Rattle.std.proofs.Common.{◌≡◌, ℕ, suc, ◌≤◌, ◌≢◌, Bool, true, false, ◌&&◌, ◌||◌, not, List, [], ◌∷◌, ◌++◌, inl, inr, refl, sym, ◌∙◌, ap, subst, arith}
use Rattle.std.specs.Prelude.{◌==◌, nat_le, filter}
use Rattle.std.specs.List.{list_any, list_all}
use Rattle.std.proofs.lemmas.Bool.{and_parts, and_from, or_left, or_right, or_cases, cases_Bool, eqb-true, eq-eqb, true≢false, false≢true, not-true}
use Rattle.std.proofs.lemmas.List.Elements.{filter-append}
use Rattle.std.specs.Cmp.Lexicographic.{bytes_decides}
use Rattle.peb_base.specs.Keys.{Bytes, key_le, key_eq}
use Rattle.flsm_model.specs.Ranges.{in_range, ranges_meet, has_key, range_of}
use Rattle.flsm_model.specs.Compaction.{straddles}
use Rattle.flsm_model.proofs.guards.RangeFacts.{common_key}
use Rattle.peb_base.specs.declared.table_row.TableRow.{TableRow}
use Rattle.peb_base.specs.Profiles.{Column}
use Rattle.flsm_model.specs.declared.chosen.Chosen.{Chosen}
use Rattle.flsm_model.specs.declared.edit.Edit.{Edit}
use Rattle.flsm_model.specs.declared.edit.Edit.TheVariants.{Open, Flush, Move, Cut, Merge}
use Rattle.flsm_model.specs.declared.job_kind.JobKind.{JobKind}
use Rattle.flsm_model.specs.declared.job_kind.JobKind.TheVariants.{Flush as FlushJob, Move as MoveJob, Cut as CutJob, Merge as MergeJob}
use Rattle.flsm_model.specs.declared.job.Job.{Job}
use Rattle.flsm_model.specs.declared.mode.Mode.TheVariants.{Take, Append, Cut as CutClaim}
use Rattle.flsm_model.specs.Shape.{Shape, shape_after, has_number, guards_at, rows_numbered, rows_without, inputs_of, outputs_of}
use Rattle.flsm_model.specs.Fits.{fits, lies_in, is_chosen, is_candidate, is_guard, is_live, is_straddled, is_of_session}
use Rattle.flsm_model.specs.Events.{Session, Standing}
use Rattle.flsm_model.specs.Claims.{claim, claims_at, claims_conflict, jobs_conflict}
use Rattle.flsm_model.specs.Jobs.{IsRange, guards_in, job_range}
use Rattle.flsm_model.specs.Outcomes.{IsEditOf}
use Rattle.peb_base.specs.Members.{IsIn}
use Rattle.flsm_model.specs.Undisturbed.{NumbersFree, KeepsFlush, KeepsCut, KeepsMerge, KeepsKind, Undisturbed}
use Rattle.flsm_model.proofs.guards.Facts.{move_facts, flush_facts, cut_facts, merge_facts}
use Rattle.flsm_model.proofs.lists.Members.{has_in}
use Rattle.flsm_model.proofs.guards.InGuards.{InGuards, start_in, new_rows}
use Rattle.flsm_model.proofs.contents.Beside.{conflict_at, at_kinds, new_is_fresh}
use Rattle.flsm_model.proofs.histories.Histories.{fresh_rows}
use Rattle.flsm_model.proofs.contents.Places.{same_session, not_open}
use Rattle.flsm_model.proofs.guards.GuardKeys.{GuardsTurn, Same, More, guards_turn, guard_stays, ranges_same, filter_withs, withs_has}
use Rattle.flsm_model.proofs.contents.Begin.{Known, input_known}
use Rattle.flsm_model.proofs.histories.Sessions.{used_after, has_parts, block_of}
use Rattle.flsm_model.proofs.histories.Jobs.{Ends}
use Rattle.flsm_model.proofs.lists.Lists.{in_filter, in_append, all_in, in_any, any_in, in_left, in_kept, each_in, all_of, filter_no, filter_under}
use Rattle.std.proofs.lemmas.List.{append-nil}
use Rattle.flsm_model.proofs.histories.Starts.{cut_key, straddled_parts, not_empty}

-- ---- claims

own_conflict : (j k : Job) → jobs_conflict j k ≡ false → j.kind ≢ FlushJob → k.kind ≢ FlushJob → (j.level == k.level) ≡ true → ranges_meet j.lo j.hi k.lo k.hi ≡ true → ⊥
own_conflict j k h nj nk e m = by j.kind k.kind refl refl
  where
    no : (a b : JobKind) → j.kind ≡ a → k.kind ≡ b → conflict_at a b j k ≡ true → ⊥
    no a b p q c = true≢false (sym c ∙ at_kinds a b j k p q h)

    by : (a b : JobKind) → j.kind ≡ a → k.kind ≡ b → ⊥
    by FlushJob b p q = nj p
    by MoveJob FlushJob p q = nk q
    by MoveJob MoveJob p q = no MoveJob MoveJob p q (rw (e, m) refl)
    by MoveJob CutJob p q = no MoveJob CutJob p q (rw (e, m) refl)
    by MoveJob MergeJob p q = no MoveJob MergeJob p q (rw (e, m) refl)
    by CutJob FlushJob p q = nk q
    by CutJob MoveJob p q = no CutJob MoveJob p q (rw (e, m) refl)
    by CutJob CutJob p q = no CutJob CutJob p q (rw (e, m) refl)
    by CutJob MergeJob p q = no CutJob MergeJob p q (rw (e, m) refl)
    by MergeJob FlushJob p q = nk q
    by MergeJob MoveJob p q = no MergeJob MoveJob p q (rw (e, m) refl)
    by MergeJob CutJob p q = no MergeJob CutJob p q (rw (e, m) refl)
    by MergeJob MergeJob p q = no MergeJob MergeJob p q (rw (e, m) refl)

move_cut : (j k : Job) → (suc j.level == k.level) ≡ true → ranges_meet j.lo j.hi k.lo k.hi ≡ true → conflict_at MoveJob CutJob j k ≡ true
move_cut j k e m =
    or_right (list_any (claims_conflict (claim j j.level Take)) (claims_at CutJob k)) (list_any (claims_conflict (claim j (suc j.level) Append)) (claims_at CutJob k) || false) (rw (e, m) refl)

cut_move : (j k : Job) → (j.level == suc k.level) ≡ true → ranges_meet j.lo j.hi k.lo k.hi ≡ true → conflict_at CutJob MoveJob j k ≡ true
cut_move j k e m =
    or_left (list_any (claims_conflict (claim j j.level CutClaim)) (claims_at MoveJob k)) (list_any (claims_conflict (claim j j.level CutClaim)) (claims_at MoveJob k) || false)
    (or_right (claims_conflict (claim j j.level CutClaim) (claim k k.level Take)) (claims_conflict (claim j j.level CutClaim) (claim k (suc k.level) Append) || false) (rw (e, m) refl))

-- ---- what ends

live_after : (s : Shape) (e : Edit) → ((a b : ℕ) → e ≢ Open a b) → (shape_after s e).live ≡ rows_without (inputs_of e) s.live ++ outputs_of e
live_after s (Open a b) h = absurd (h a b refl)
live_after s (Flush row from to log chosen) h = refl
live_after s (Move level floor inputs outputs) h = refl
live_after s (Cut level keys inputs outputs) h = refl
live_after s (Merge floor whole inputs outputs) h = refl

pub chosen_left : (cs ds : List Chosen) (k : Bytes) → is_chosen cs k ≡ true → is_chosen (cs ++ ds) k ≡ true
chosen_left [] ds k h = absurd (false≢true h)
chosen_left (c ∷ cs) ds k h = elim (or_cases (key_eq k c.key) (is_chosen cs k) h) [ inl s ↦ or_left _ _ s | inr r ↦ or_right (key_eq k c.key) _ (chosen_left cs ds k r) ]

candidate_left : (cs ds : List Chosen) (level : ℕ) (k : Bytes) → is_candidate cs level k ≡ true → is_candidate (cs ++ ds) level k ≡ true
candidate_left [] ds level k h = absurd (false≢true h)
candidate_left (c ∷ cs) ds level k h = elim (or_cases (nat_le c.level level && key_eq k c.key) (is_candidate cs level k) h) [
  | inl s ↦ or_left _ _ s
  | inr r ↦ or_right (nat_le c.level level && key_eq k c.key) _ (candidate_left cs ds level k r)
]

candidate_after : (s : Shape) (e : Edit) (level : ℕ) (k : Bytes) → is_candidate s.chosen level k ≡ true → is_candidate (shape_after s e).chosen level k ≡ true
candidate_after s (Open a b) level k h = h
candidate_after s (Flush row from to log chosen) level k h = candidate_left s.chosen chosen level k h
candidate_after s (Move at floor inputs outputs) level k h = h
candidate_after s (Cut at keys inputs outputs) level k h = h
candidate_after s (Merge floor whole inputs outputs) level k h = h

-- what an edit of a job is
pub data EditIs (j : Job) (e : Edit) : Type 0 where
  IsFlushOf : j.kind ≡ FlushJob → (row : TableRow) (from to log : ℕ) (chosen : List Chosen) → e ≡ Flush row from to log chosen → EditIs j e
  IsMoveOf : j.kind ≡ MoveJob → (floor : ℕ) (outputs : List TableRow) → e ≡ Move j.level floor j.inputs outputs → EditIs j e
  IsCutOf : j.kind ≡ CutJob → (outputs : List TableRow) → e ≡ Cut j.level j.keys j.inputs outputs → EditIs j e
  IsMergeOf : j.kind ≡ MergeJob → (floor : ℕ) (whole : Bool) (outputs : List TableRow) → e ≡ Merge floor whole j.inputs outputs → EditIs j e

pub edit_is : (n : Session) (j : Job) (e : Edit) → IsEditOf j.kind n j e → EditIs j e
edit_is n j e same = by j.kind refl e same
  where
    by : (a : JobKind) → j.kind ≡ a → (e : Edit) → IsEditOf a n j e → EditIs j e
    by FlushJob k (Flush row from to log chosen) q = IsFlushOf k row from to log chosen refl
    by FlushJob k (Open session log) q = absurd q
    by FlushJob k (Move level fl inputs outputs) q = absurd q
    by FlushJob k (Cut level keys inputs outputs) q = absurd q
    by FlushJob k (Merge fl whole inputs outputs) q = absurd q
    by MoveJob k (Move level fl inputs outputs) q = IsMoveOf k fl outputs (λ i. Move (q.0 i) fl (q.2 i) outputs)
    by MoveJob k (Open session log) q = absurd q
    by MoveJob k (Flush row from to log chosen) q = absurd q
    by MoveJob k (Cut level keys inputs outputs) q = absurd q
    by MoveJob k (Merge fl whole inputs outputs) q = absurd q
    by CutJob k (Cut level keys inputs outputs) q = IsCutOf k outputs (λ i. Cut (q.0 i) (q.1 i) (q.2 i) outputs)
    by CutJob k (Open session log) q = absurd q
    by CutJob k (Flush row from to log chosen) q = absurd q
    by CutJob k (Move level fl inputs outputs) q = absurd q
    by CutJob k (Merge fl whole inputs outputs) q = absurd q
    by MergeJob k (Merge fl whole inputs outputs) q = IsMergeOf k fl whole outputs (λ i. Merge fl whole (q.2 i) outputs)
    by MergeJob k (Open session log) q = absurd q
    by MergeJob k (Flush row from to log chosen) q = absurd q
    by MergeJob k (Move level fl inputs outputs) q = absurd q
    by MergeJob k (Cut level keys inputs outputs) q = absurd q

module _ (o : Column) (w : Standing) (n : Session) (j k : Job) (e : Edit) (guards : InGuards o w.tree.shape) (fresh : Known w.tree.shape) (en : Ends o w n j k e) (uj : Undisturbed o w.tree.shape j) (uk : Undisturbed o w.tree.shape k) where
  pub gone : inputs_of e ≡ j.inputs
  gone = by (edit_is n j e en.outcome.formed.same)
    where
      by : EditIs j e → inputs_of e ≡ j.inputs
      by (IsFlushOf q row from to log chosen s) =
          let f : KeepsFlush j = subst (λ a. KeepsKind a o w.tree.shape j) q uj.kind in
          ap inputs_of s ∙ sym f.inputs
      by (IsMoveOf q floor outputs s) = ap inputs_of s
      by (IsCutOf q outputs s) = ap inputs_of s
      by (IsMergeOf q floor whole outputs s) = ap inputs_of s

  lives : (shape_after w.tree.shape e).live ≡ rows_without j.inputs w.tree.shape.live ++ outputs_of e
  lives = live_after w.tree.shape e (not_open o w n j e en.outcome) ∙ ap (λ ns. rows_without ns w.tree.shape.live ++ outputs_of e) gone

  -- a row in the range of a job has its smallest key in it
  start : (i : Job) (r : TableRow) → IsIn r w.tree.shape.live → lies_in (job_range i) r ≡ true → in_range i.lo i.hi r.smallest ≡ true
  start i r m h = start_in (job_range i) r (each_in (λ (x : TableRow). key_le x.smallest x.largest ≡ true) r w.tree.shape.live guards.rows m) h

  -- no row is an input of both
  pub inputs_apart : (r : TableRow) → IsIn r w.tree.shape.live → has_number r.number k.inputs ≡ true → has_number r.number j.inputs ≡ false
  inputs_apart r m hk = elim (cases_Bool (has_number r.number j.inputs)) [
    | inl hj ↦
        let pj = and_parts _ _ (all_in (λ (x : TableRow). x.level == j.level && lies_in (job_range j) x) r (rows_numbered j.inputs w.tree.shape.live) uj.placed (in_kept (λ (x : TableRow). has_number x.number j.inputs) r w.tree.shape.live m hj)) in
        let pk = and_parts _ _ (all_in (λ (x : TableRow). x.level == k.level && lies_in (job_range k) x) r (rows_numbered k.inputs w.tree.shape.live) uk.placed (in_kept (λ (x : TableRow). has_number x.number k.inputs) r w.tree.shape.live m hk)) in
        let level : (j.level == k.level) ≡ true = eq-eqb j.level k.level (sym (eqb-true r.level j.level pj.0) ∙ eqb-true r.level k.level pk.0) in
        absurd (own_conflict j k en.apart (not_empty o w.tree.shape j r.number uj hj) (not_empty o w.tree.shape k r.number uk hk) level
        (common_key j.lo k.lo r.smallest j.hi k.hi (start j r m pj.1) (start k r m pk.1)))
    | inr absent ↦ absent
  ]

  new_apart : (r : TableRow) → IsIn r (outputs_of e) → has_number r.number k.inputs ≡ false
  new_apart r i = elim (cases_Bool (has_number r.number k.inputs)) [
    | inl there ↦
        let p = new_is_fresh w.tree.shape.session w.tree.shape.used (outputs_of e) r (fresh_rows o w.tree.shape e en.outcome.formed.fit) i in
        absurd (true≢false (sym (and_from _ _ p.0 (ap not p.1)) ∙ input_known w.tree.shape k.inputs fresh uk.live r.number there))
    | inr absent ↦ absent
  ]

  rows_stay : rows_numbered k.inputs (shape_after w.tree.shape e).live ≡ rows_numbered k.inputs w.tree.shape.live
  rows_stay =
      let p : TableRow → Bool = λ r. has_number r.number k.inputs in
      ap (filter p) lives ∙ filter-append p (rows_without j.inputs w.tree.shape.live) (outputs_of e)
      ∙ ap (λ xs. filter p (rows_without j.inputs w.tree.shape.live) ++ xs) (filter_no p (outputs_of e) new_apart)
      ∙ append-nil (filter p (rows_without j.inputs w.tree.shape.live))
      ∙ filter_under p (λ r. not (has_number r.number j.inputs)) w.tree.shape.live (λ r i h. ap not (inputs_apart r i h))

  live_stays : list_all (is_live (shape_after w.tree.shape e)) k.inputs ≡ true
  live_stays =
      all_of (is_live (shape_after w.tree.shape e)) k.inputs (λ m i.
      let r = any_in (λ (x : TableRow). x.number == m) w.tree.shape.live (all_in (is_live w.tree.shape) m k.inputs uk.live i) in
      let hk : has_number r.0.number k.inputs ≡ true = subst (λ z. has_number z k.inputs ≡ true) (sym (eqb-true r.0.number m r.2)) (has_in m k.inputs i) in
      subst (λ rs. list_any (λ (x : TableRow). x.number == m) rs ≡ true) (sym lives)
      (in_any (λ (x : TableRow). x.number == m) r.0 (rows_without j.inputs w.tree.shape.live ++ outputs_of e)
      (in_left r.0 (rows_without j.inputs w.tree.shape.live) (outputs_of e) (in_kept (λ (x : TableRow). not (has_number x.number j.inputs)) r.0 w.tree.shape.live r.1 (ap not (inputs_apart r.0 r.1 hk)))) r.2))

  -- the keys of a Cut at a level where it would conflict lie outside
  keys_outside : (l : ℕ) (keys : List Bytes) (inputs : List ℕ) (outputs : List TableRow) → e ≡ Cut l keys inputs outputs
      → (j.kind ≡ CutJob → (j.level == l) ≡ true → ranges_meet j.lo j.hi k.lo k.hi ≡ true → ⊥) → list_all (λ a. not (in_range k.lo k.hi a)) keys ≡ true
  keys_outside l keys inputs outputs s never = by (edit_is n j e en.outcome.formed.same)
    where
      goal : j.kind ≡ CutJob → keys ≡ j.keys → l ≡ j.level → list_all (λ a. not (in_range k.lo k.hi a)) keys ≡ true
      goal q ks ls =
          let f : KeepsCut o w.tree.shape j = subst (λ a. KeepsKind a o w.tree.shape j) q uj.kind in
          subst (λ z. list_all (λ a. not (in_range k.lo k.hi a)) z ≡ true) (sym ks)
          (all_of (λ a. not (in_range k.lo k.hi a)) j.keys (λ a i.
          let c = cut_key o w.tree.shape j a f i in
          elim (cases_Bool (in_range k.lo k.hi a)) [
            | inl there ↦ absurd (never q (eq-eqb j.level l (sym ls)) (common_key j.lo k.lo a j.hi k.hi c.inside there))
            | inr absent ↦ ap not absent
          ]))

      cut_parts : (l2 : ℕ) (k2 : List Bytes) (i2 : List ℕ) (o2 : List TableRow) → Cut l keys inputs outputs ≡ Cut l2 k2 i2 o2 → (keys ≡ k2) × (l ≡ l2)
      cut_parts l2 k2 i2 o2 z = (cc, cc)

      not_flush : (row : TableRow) (from to log : ℕ) (chosen : List Chosen) → Cut l keys inputs outputs ≡ Flush row from to log chosen → ⊥
      not_flush row from to log chosen z = cc

      not_move : (l2 fl : ℕ) (i2 : List ℕ) (o2 : List TableRow) → Cut l keys inputs outputs ≡ Move l2 fl i2 o2 → ⊥
      not_move l2 fl i2 o2 z = cc

      not_merge : (fl : ℕ) (wh : Bool) (i2 : List ℕ) (o2 : List TableRow) → Cut l keys inputs outputs ≡ Merge fl wh i2 o2 → ⊥
      not_merge fl wh i2 o2 z = cc

      by : EditIs j e → list_all (λ a. not (in_range k.lo k.hi a)) keys ≡ true
      by (IsCutOf q outs z) = let p = cut_parts j.level j.keys j.inputs outs (sym s ∙ z) in goal q p.0 p.1
      by (IsFlushOf q row from to log chosen z) = absurd (not_flush row from to log chosen (sym s ∙ z))
      by (IsMoveOf q floor outs z) = absurd (not_move j.level floor j.inputs outs (sym s ∙ z))
      by (IsMergeOf q floor whole outs z) = absurd (not_merge floor whole j.inputs outs (sym s ∙ z))

  -- a Cut's level is 1 or deeper
  cut_deep : (l : ℕ) (keys : List Bytes) (inputs : List ℕ) (outputs : List TableRow) → e ≡ Cut l keys inputs outputs → 1 ≤ l
  cut_deep l keys inputs outputs s = (cut_facts o w.tree.shape l keys inputs outputs (subst (λ z. fits o w.tree.shape z ≡ true) s en.outcome.formed.fit)).from

  never_own : (l : ℕ) → l ≡ k.level → 1 ≤ l → j.kind ≡ CutJob → (j.level == l) ≡ true → ranges_meet j.lo j.hi k.lo k.hi ≡ true → ⊥
  never_own l s d q e2 m = own_conflict j k en.apart (λ z. kinds (sym q ∙ z)) flush (eq-eqb j.level k.level (eqb-true j.level l e2 ∙ s)) m
    where
      kinds : CutJob ≡ FlushJob → ⊥
      kinds z = cc

      flush : k.kind ≡ FlushJob → ⊥
      flush z =
          let f : KeepsFlush k = subst (λ a. KeepsKind a o w.tree.shape k) z uk.kind in
          omega (arith, s, d, f.level)

  own_outside : (keys : List Bytes) (inputs : List ℕ) (outputs : List TableRow) → e ≡ Cut k.level keys inputs outputs → list_all (λ a. not (in_range k.lo k.hi a)) keys ≡ true
  own_outside keys inputs outputs s = keys_outside k.level keys inputs outputs s (never_own k.level refl (cut_deep k.level keys inputs outputs s))

  range_stays : IsRange (shape_after w.tree.shape e) k.level k
  range_stays = by (guards_turn o w.tree.shape e k.level guards en.outcome.formed.fit)
    where
      by : GuardsTurn w.tree.shape e k.level → range_of (guards_at (shape_after w.tree.shape e) k.level) k.lo ≡ (k.lo, k.hi)
      by (Same q) = ap (λ gs. range_of gs k.lo) q ∙ uk.range
      by (More keys inputs outputs s q) =
          ap (λ gs. range_of gs k.lo) q
          ∙ ranges_same (guards_at w.tree.shape k.level) keys k.lo
          (subst (λ r. list_all (λ a. not (in_range r.0 r.1 a)) keys ≡ true) (sym uk.range) (own_outside keys inputs outputs s))
          ∙ uk.range

  next_stays : k.kind ≡ MoveJob → guards_in (shape_after w.tree.shape e) (suc k.level) (job_range k) ≡ guards_in w.tree.shape (suc k.level) (job_range k)
  next_stays q2 = by (guards_turn o w.tree.shape e (suc k.level) guards en.outcome.formed.fit)
    where
      by : GuardsTurn w.tree.shape e (suc k.level) → filter (in_range k.lo k.hi) (guards_at (shape_after w.tree.shape e) (suc k.level)) ≡ filter (in_range k.lo k.hi) (guards_at w.tree.shape (suc k.level))
      by (Same q) = ap (filter (in_range k.lo k.hi)) q
      by (More keys inputs outputs s q) =
          ap (filter (in_range k.lo k.hi)) q
          ∙ filter_withs (in_range k.lo k.hi) keys (guards_at w.tree.shape (suc k.level))
          (keys_outside (suc k.level) keys inputs outputs s (λ c e2 m. true≢false (sym (cut_move j k e2 m) ∙ at_kinds CutJob MoveJob j k c q2 en.apart)))

  session_stays : (shape_after w.tree.shape e).session ≡ w.tree.shape.session
  session_stays = same_session w.tree.shape e (not_open o w n j e en.outcome)

  numbers_stay : NumbersFree (shape_after w.tree.shape e) k
  numbers_stay =
      record {
        own = λ m a b. subst (λ s. is_of_session s m ≡ true) (sym session_stays) (uk.numbers.own m a b);
        unused = λ m a b. elim (cases_Bool (has_number m (shape_after w.tree.shape e).used)) [
          | inl there ↦ elim (has_parts m w.tree.shape.used _ (subst (λ ns. has_number m ns ≡ true) (used_after w.tree.shape e (not_open o w n j e en.outcome)) there)) [
            | inl old ↦ absurd (true≢false (sym old ∙ uk.numbers.unused m a b))
            | inr new ↦ let c = block_of j (outputs_of e) m en.outcome.formed.numbers new in absurd (elim en.numbers [ inl x ↦ omega (arith, x, a, b, c.0, c.1) | inr x ↦ omega (arith, x, a, b, c.0, c.1) ])
          ]
          | inr absent ↦ absent
        ];
      }

  -- an output at the level of a Cut in flight lies outside its range
  output_outside : k.kind ≡ CutJob → (r : TableRow) → IsIn r (outputs_of e) → is_straddled k.level (job_range k) k.keys r ≡ true → ⊥
  output_outside q2 r i st = by (edit_is n j e en.outcome.formed.same)
    where
      f : KeepsCut o w.tree.shape k
      f = subst (λ a. KeepsKind a o w.tree.shape k) q2 uk.kind

      level : r.level ≡ k.level
      level = (straddled_parts k.level (job_range k) k.keys r st).0

      kinds : CutJob ≡ FlushJob → ⊥
      kinds z = cc

      kinds2 : MergeJob ≡ FlushJob → ⊥
      kinds2 z = cc

      order : (e2 : Edit) → fits o w.tree.shape e2 ≡ true → IsIn r (outputs_of e2) → key_le r.smallest r.largest ≡ true
      order e2 ft m = each_in (λ (x : TableRow). key_le x.smallest x.largest ≡ true) r (outputs_of e2) (new_rows w.tree.shape.session w.tree.shape.used (outputs_of e2) (fresh_rows o w.tree.shape e2 ft)) m

      meet : ranges_meet j.lo j.hi k.lo k.hi ≡ true
      meet =
          let mine : in_range j.lo j.hi r.smallest ≡ true = start_in (job_range j) r (order e en.outcome.formed.fit i) (all_in (lies_in (job_range j)) r (outputs_of e) en.outcome.formed.inside i) in
          let other : in_range k.lo k.hi r.smallest ≡ true = start_in (job_range k) r (order e en.outcome.formed.fit i) (straddled_parts k.level (job_range k) k.keys r st).1 in
          common_key j.lo k.lo r.smallest j.hi k.hi mine other

      by : EditIs j e → ⊥
      by (IsFlushOf q row from to log chosen s) =
          let m : IsIn r (row ∷ []) = subst (λ z. IsIn r (outputs_of z)) s i in
          let g = flush_facts o w.tree.shape row from to log chosen (subst (λ z. fits o w.tree.shape z ≡ true) s en.outcome.formed.fit) in
          let at : r.level ≡ 0 = elim m [ inl a ↦ ap (λ (z : TableRow). z.level) a ∙ g.at | inr b ↦ absurd b ] in
          omega (arith, at, level, f.from)
      by (IsMoveOf q floor outputs s) =
          let g = move_facts o w.tree.shape j.level floor j.inputs outputs (subst (λ z. fits o w.tree.shape z ≡ true) s en.outcome.formed.fit) in
          let at : r.level ≡ suc j.level = eqb-true r.level (suc j.level) (all_in (λ (x : TableRow). x.level == suc j.level) r outputs g.below (subst (λ z. IsIn r (outputs_of z)) s i)) in
          true≢false (sym (move_cut j k (eq-eqb (suc j.level) k.level (sym at ∙ level)) meet) ∙ at_kinds MoveJob CutJob j k q q2 en.apart)
      by (IsCutOf q outputs s) =
          let g = cut_facts o w.tree.shape j.level j.keys j.inputs outputs (subst (λ z. fits o w.tree.shape z ≡ true) s en.outcome.formed.fit) in
          let at : r.level ≡ j.level = eqb-true r.level j.level (all_in (λ (x : TableRow). x.level == j.level) r outputs g.at (subst (λ z. IsIn r (outputs_of z)) s i)) in
          own_conflict j k en.apart (λ z. kinds (sym q ∙ z)) (λ z. kinds (sym q2 ∙ z)) (eq-eqb j.level k.level (sym at ∙ level)) meet
      by (IsMergeOf q floor whole outputs s) =
          let g = merge_facts o w.tree.shape floor whole j.inputs outputs (subst (λ z. fits o w.tree.shape z ≡ true) s en.outcome.formed.fit) in
          let at : r.level ≡ o.last_level = eqb-true r.level o.last_level (all_in (λ (x : TableRow). x.level == o.last_level) r outputs g.below (subst (λ z. IsIn r (outputs_of z)) s i)) in
          let h : KeepsMerge o j = subst (λ a. KeepsKind a o w.tree.shape j) q uj.kind in
          own_conflict j k en.apart (λ z. kinds2 (sym q ∙ z)) (λ z. kinds (sym q2 ∙ z)) (eq-eqb j.level k.level (h.level ∙ sym at ∙ level)) meet

  cut_stays : k.kind ≡ CutJob → KeepsCut o w.tree.shape k → KeepsCut o (shape_after w.tree.shape e) k
  cut_stays q2 f =
      record {
        from = f.from;
        upto = f.upto;
        ascend = f.ascend;
        some = f.some;
        keys = all_of _ k.keys (λ a i.
            let p = cut_key o w.tree.shape k a f i in
            and_from _ _ (and_from _ _ (and_from _ _ (candidate_after w.tree.shape e k.level a p.candidate) p.inside) (no_guard a p.inside p.fresh (guards_turn o w.tree.shape e k.level guards en.outcome.formed.fit)))
            (elim (or_cases _ _ p.next) [ inl x ↦ or_left _ _ x | inr y ↦ or_right (k.level == o.last_level) _ (guard_stays o w.tree.shape e (suc k.level) a guards en.outcome.formed.fit y) ]));
        straddled = subst (λ rs. list_all (λ r. list_any (straddles r) k.keys) rs ≡ true) (sym rows_stay) f.straddled;
        others = all_of _ (rows_without k.inputs (shape_after w.tree.shape e).live) (λ r i.
            let p = in_filter (λ (x : TableRow). not (has_number x.number k.inputs)) r (shape_after w.tree.shape e).live i in
            elim (in_append r (rows_without j.inputs w.tree.shape.live) (outputs_of e) (subst (IsIn r) lives p.0)) [
              | inl old ↦ all_in (λ (x : TableRow). not (is_straddled k.level (job_range k) k.keys x)) r (rows_without k.inputs w.tree.shape.live) f.others
                  (in_kept (λ (x : TableRow). not (has_number x.number k.inputs)) r w.tree.shape.live (in_filter _ r w.tree.shape.live old).0 p.1)
              | inr new ↦ elim (cases_Bool (is_straddled k.level (job_range k) k.keys r)) [ inl there ↦ absurd (output_outside q2 r new there) | inr absent ↦ ap not absent ]
            ]);
      }
    where
      has_all : (a : Bytes) (ks : List Bytes) → has_key a ks ≡ true → list_all (λ x. not (in_range k.lo k.hi x)) ks ≡ true → in_range k.lo k.hi a ≡ false
      has_all a [] h g = absurd (false≢true h)
      has_all a (q ∷ ks) h g =
          let p = and_parts _ _ g in
          elim (or_cases (key_eq a q) (has_key a ks) h) [ inl s ↦ subst (λ z. in_range k.lo k.hi z ≡ false) (sym ((bytes_decides a q).0 s)) (not-true _ p.0) | inr r ↦ has_all a ks r p.1 ]

      no_guard : (a : Bytes) → in_range k.lo k.hi a ≡ true → is_guard w.tree.shape k.level a ≡ false → GuardsTurn w.tree.shape e k.level → not (is_guard (shape_after w.tree.shape e) k.level a) ≡ true
      no_guard a inside none (Same q) = ap not (ap (has_key a) q ∙ none)
      no_guard a inside none (More keys inputs outputs s q) = elim (cases_Bool (is_guard (shape_after w.tree.shape e) k.level a)) [
        | inr absent ↦ ap not absent
        | inl there ↦ elim (withs_has a keys (guards_at w.tree.shape k.level) (subst (λ gs. has_key a gs ≡ true) q there)) [
          | inl new ↦ absurd (true≢false (sym inside ∙ has_all a keys new (own_outside keys inputs outputs s)))
          | inr old ↦ absurd (true≢false (sym old ∙ none))
        ]
      ]

  pub undisturbed_stays : Undisturbed o (shape_after w.tree.shape e) k
  undisturbed_stays =
      record {
        range = range_stays;
        ascend = uk.ascend;
        live = live_stays;
        placed = subst (λ rs. list_all (λ r. r.level == k.level && lies_in (job_range k) r) rs ≡ true) (sym rows_stay) uk.placed;
        numbers = numbers_stay;
        kind = by k.kind refl uk.kind;
      }
    where
      by : (a : JobKind) → k.kind ≡ a → KeepsKind a o w.tree.shape k → KeepsKind a o (shape_after w.tree.shape e) k
      by FlushJob q f = f
      by MoveJob q f = record { above = f.above; some = f.some; keys = f.keys ∙ sym (next_stays q) }
      by CutJob q f = cut_stays q f
      by MergeJob q f = f
