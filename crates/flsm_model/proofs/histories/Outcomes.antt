-- Whatever other jobs did, what a job in flight makes fits the record.
use Rattle.std.proofs.Common.{◌≡◌, refl, ℕ, suc, ◌+◌, ◌*◌, ◌^◌, ◌<◌, ◌≤◌, Bool, true, false, ◌&&◌, ◌||◌, not, List, [], ◌∷◌, length, sym, ◌∙◌, ap, subst, arith}
use Rattle.std.specs.Prelude.{nat_lt, nat_le, ◌==◌, flat_map, Option, Some, None, ⊤}
use Rattle.std.specs.List.{list_any, list_all, AllZip}
use Rattle.std.proofs.lemmas.Bool.{and_parts, and_from, eqb-true, eq-eqb, ltb-true, lt-ltb, leb-true, le-leb}
use Rattle.peb_base.specs.Keys.{Bytes, key_le}
use Rattle.flsm_model.specs.Ranges.{is_below, in_range, range_of, first_of, with_keys}
use Rattle.peb_base.specs.Batches.{entries_of}
use Rattle.peb_base.specs.Entries.{entries_between, in_order}
use Rattle.peb_base.specs.Profiles.{column, Column}
use Rattle.flsm_model.specs.Compaction.{kept, pieces, some_entries, straddles}
use Rattle.flsm_model.specs.Trees.{Describes, content_of, merged, contents}
use Rattle.peb_base.specs.declared.entry.Entry.{Entry}
use Rattle.peb_base.specs.declared.table_row.TableRow.{TableRow}
use Rattle.flsm_model.specs.declared.chosen.Chosen.{Chosen}
use Rattle.flsm_model.specs.declared.edit.Edit.{Edit}
use Rattle.flsm_model.specs.declared.edit.Edit.TheVariants.{Open, Flush, Move, Cut, Merge}
use Rattle.flsm_model.specs.declared.job_kind.JobKind.TheVariants.{Flush as FlushJob, Move as MoveJob, Cut as CutJob, Merge as MergeJob}
use Rattle.flsm_model.specs.declared.job.Job.{Job}
use Rattle.peb_base.specs.Tables.{is_row}
use Rattle.flsm_model.specs.Fits.{fits, lies_in, lie_apart, range_of_row, rows_ascend, are_inputs, input_range, is_some_list, is_straddled, is_candidate, is_guard, is_new, is_of_session, rows_are_new, are_choices}
use Rattle.flsm_model.specs.Shape.{Shape, has_number, guards_at, rows_numbered, rows_without, outputs_of}
use Rattle.flsm_model.specs.Events.{Event, Opened, Commit, Synced, Look, Hold, Release, Freeze, Begin, Done, Short, JournalFault, Stop, Session, Standing, base, last_of}
use Rattle.flsm_model.specs.Jobs.{numbers_needed, job_range, guards_in}
use Rattle.flsm_model.specs.Outcomes.{into_at, IsEditOf, IsOutcome}
use Rattle.flsm_model.specs.Steps.{step, run}
use Rattle.peb_base.specs.Members.{IsIn}
use Rattle.flsm_model.specs.Legal.{IsLegal, AlwaysFormed}
use Rattle.flsm_model.specs.Undisturbed.{KeepsFlush, KeepsMove, KeepsCut, KeepsMerge, KeepsKind, Undisturbed}
use Rattle.flsm_model.specs.Made.{suits, RowsSuit, IsMade, OutcomesFit}
use Rattle.flsm_model.proofs.lists.Members.{in_sorted, in_pieces, in_some_entries, from_content, from_merged}
use Rattle.flsm_model.proofs.guards.Guards.{AscendFrom, same_range, least, ranges_kept}
use Rattle.flsm_model.proofs.guards.InGuards.{start_in}
use Rattle.flsm_model.proofs.contents.Falls.{InFlight}
use Rattle.flsm_model.proofs.contents.Sorts.{Sorted, sorted_contents, sorted_in_order}
use Rattle.flsm_model.proofs.histories.Histories.{JobsHold, JobsIn}
use Rattle.flsm_model.proofs.contents.Places.{Within}
use Rattle.flsm_model.proofs.histories.Truth.{All}
use Rattle.flsm_model.proofs.guards.Suits.{ascend_from, ascend_filter, row_clear, row_lies, all_clear, apart_more, apart_rise}
use Rattle.flsm_model.proofs.histories.Sessions.{NumbersHold, InNumbers, IsFrozen, marks_of}
use Rattle.flsm_model.proofs.histories.Jobs.{EachJob, FaultJobs, InEach}
use Rattle.flsm_model.proofs.histories.Undisturb.{EditIs, IsFlushOf, IsMoveOf, IsCutOf, IsMergeOf, edit_is}
use Rattle.flsm_model.proofs.guards.NewRows.{RowOf, row_of, rows_new, lies_between, first_range, some_rows, apart_lie, zip_of, pieces_apart, apart_ascends, pieces_clear, choices_fit, some_number, greatest_at_most}
use Rattle.flsm_model.proofs.histories.Whole.{Formed, Calm, formed_always, stands_always}
use Rattle.flsm_model.proofs.lists.Lists.{in_filter, in_flat, all_in, each_in, split_all, all_of, each_before-filter}
use Rattle.flsm_model.proofs.histories.Starts.{cut_key, first_in}

-- what is told is never changed
told_step : (o : Column) (w : Standing) (e : Event) → (step o w e).told ≡ w.told
told_step o w (Opened session log) = refl
told_step o w (Commit actor first ops) = refl
told_step o w (Synced actor m) = refl
told_step o w (Look actor m) = refl
told_step o w (Hold actor m) = refl
told_step o w (Release actor m) = refl
told_step o w (Freeze m) = refl
told_step o w (Begin actor job) = refl
told_step o w (Done actor e) = refl
told_step o w (Short actor cause bytes) = refl
told_step o w JournalFault = refl
told_step o w (Stop m None) = refl
told_step o w (Stop m (Some e)) = refl

pub run_told : (o : Column) (w : Standing) (es : List Event) → (run o w es).told ≡ w.told
run_told o w [] = refl
run_told o w (e ∷ es) = run_told o (step o w e) es ∙ told_step o w e

-- a Flush's range is of all keys
all_keys : (j : Job) (row : TableRow) → KeepsFlush j → list_all (lies_in (job_range j)) (row ∷ []) ≡ true
all_keys j row f = and_from _ _ (and_from _ _ (subst (λ k. key_le k row.smallest ≡ true) (sym f.whole.0) (least row.smallest)) (subst (is_below_all) (sym f.whole.1) refl)) refl
  where
    is_below_all : Option Bytes → Type 0
    is_below_all hi = is_below row.largest hi ≡ true

-- ---- what makes an edit of the job fit

-- how the rows of an edit of the job lie: a Flush's by what is frozen, a Move's and a Cut's by guards, a Merge's alone
abbrev pub LieBy : Column → Shape → Job → Edit → Type 0
LieBy o s j (Flush row from to log chosen) = (from < row.first) × (row.last ≤ to) × (are_choices o s chosen ≡ true)
LieBy o s j (Move level floor inputs outputs) = (rows_ascend outputs ≡ true) × (lie_apart (guards_at s (suc j.level)) outputs ≡ true)
LieBy o s j (Cut level keys inputs outputs) = (r : TableRow) → IsIn r outputs → lies_in (range_of (with_keys j.keys (guards_at s j.level)) r.smallest) r ≡ true
LieBy o s j (Merge floor whole inputs outputs) = length outputs ≤ 1
LieBy o s j (Open session log) = ⊤

-- the rows are new, lie in the job's range, and lie there as its kind asks
pub record RowsFit (o : Column) (s : Shape) (j : Job) (e : Edit) : Type 0 where
  pub new : rows_are_new s.session s.used (outputs_of e) ≡ true
  pub inside : list_all (lies_in (job_range j)) (outputs_of e) ≡ true
  pub lie : LieBy o s j e

module _ (o : Column) (w : Standing) (n : Session) (j : Job) (fm : Formed o w) (eq : w.session ≡ Some n) (uj : Undisturbed o w.tree.shape j) where
  levels_are : (l : ℕ) (e : Edit) → IsMade o w n j e → into_at j.kind j ≡ l → list_all (λ r. r.level == l) (outputs_of e) ≡ true
  levels_are l e m s =
      subst (λ z. list_all (λ (r : TableRow). r.level == z) (outputs_of e) ≡ true) s
      (split_all (λ (r : TableRow). r.level == into_at j.kind j) (λ (r : TableRow). r.tier == 0) (outputs_of e) m.levels).0

  at_level : list_all (λ r. r.level == j.level) (rows_numbered j.inputs w.tree.shape.live) ≡ true
  at_level = (split_all (λ (r : TableRow). r.level == j.level) (λ (r : TableRow). lies_in (job_range j) r) (rows_numbered j.inputs w.tree.shape.live) uj.placed).0

  in_range_of : list_all (λ r. lies_in (job_range j) r) (rows_numbered j.inputs w.tree.shape.live) ≡ true
  in_range_of = (split_all (λ (r : TableRow). r.level == j.level) (λ (r : TableRow). lies_in (job_range j) r) (rows_numbered j.inputs w.tree.shape.live) uj.placed).1

  input_row : (r : TableRow) → IsIn r (rows_numbered j.inputs w.tree.shape.live) → (key_le r.smallest r.largest ≡ true) × (lies_in (j.lo, j.hi) r ≡ true)
  input_row r i = (
    each_in (λ (x : TableRow). key_le x.smallest x.largest ≡ true) r w.tree.shape.live fm.shape.guards.rows (in_filter (λ (x : TableRow). has_number x.number j.inputs) r w.tree.shape.live i).0,
    all_in (λ (x : TableRow). lies_in (job_range j) x) r (rows_numbered j.inputs w.tree.shape.live) in_range_of i,
  )

  pub ascends : (l : ℕ) → AscendFrom [] (guards_at w.tree.shape l)
  ascends l = fm.shape.guards.ascend l

  range_is : is_some_list j.inputs ≡ true → input_range w.tree.shape j.level j.inputs ≡ (j.lo, j.hi)
  range_is some =
      first_range (guards_at w.tree.shape j.level) j.lo j.hi (rows_numbered j.inputs w.tree.shape.live) (ascends j.level) uj.range (some_rows w.tree.shape j.inputs some uj.live) input_row

  inputs_fit : is_some_list j.inputs ≡ true → are_inputs w.tree.shape j.level j.inputs ≡ true
  inputs_fit some =
      and_from _ _ (and_from _ _ (and_from _ _ (and_from _ _ uj.ascend some) uj.live) at_level)
      (subst (λ range. list_all (lies_in range) (rows_numbered j.inputs w.tree.shape.live) ≡ true) (sym (range_is some)) in_range_of)

  move_fits : (floor : ℕ) (outputs : List TableRow) → j.kind ≡ MoveJob → KeepsMove o w.tree.shape j → IsMade o w n j (Move j.level floor j.inputs outputs) → RowsFit o w.tree.shape j (Move j.level floor j.inputs outputs)
      → fits o w.tree.shape (Move j.level floor j.inputs outputs) ≡ true
  move_fits floor outputs k f m x =
      and_from _ _ (and_from _ _ (and_from _ _ (and_from _ _ (and_from _ _
      (lt-ltb j.level o.last_level f.above)
      (inputs_fit f.some))
      (levels_are (suc j.level) (Move j.level floor j.inputs outputs) m (ap (λ a. into_at a j) k)))
      x.lie.0)
      x.lie.1)
      x.new

  merge_fits : (floor : ℕ) (whole : Bool) (outputs : List TableRow) → j.kind ≡ MergeJob → KeepsMerge o j → IsMade o w n j (Merge floor whole j.inputs outputs) → RowsFit o w.tree.shape j (Merge floor whole j.inputs outputs)
      → fits o w.tree.shape (Merge floor whole j.inputs outputs) ≡ true
  merge_fits floor whole outputs k f m x =
      and_from _ _ (and_from _ _ (and_from _ _ (and_from _ _
      (subst (λ l. are_inputs w.tree.shape l j.inputs ≡ true) f.level (inputs_fit f.some))
      (le-leb (length outputs) 1 x.lie))
      (levels_are o.last_level (Merge floor whole j.inputs outputs) m (ap (λ a. into_at a j) k ∙ f.level)))
      (subst (λ l. list_all (lies_in (input_range w.tree.shape l j.inputs)) outputs ≡ true) f.level
      (subst (λ range. list_all (lies_in range) outputs ≡ true) (sym (range_is f.some)) x.inside)))
      x.new

  cut_fits : (outputs : List TableRow) → j.kind ≡ CutJob → KeepsCut o w.tree.shape j → IsMade o w n j (Cut j.level j.keys j.inputs outputs) → RowsFit o w.tree.shape j (Cut j.level j.keys j.inputs outputs)
      → fits o w.tree.shape (Cut j.level j.keys j.inputs outputs) ≡ true
  cut_fits outputs k f m x =
      let e : Edit = Cut j.level j.keys j.inputs outputs in
      let gs : List Bytes = guards_at w.tree.shape j.level in
      let inside : list_all (in_range j.lo j.hi) j.keys ≡ true = all_of (in_range j.lo j.hi) j.keys (λ a i. (cut_key o w.tree.shape j a f i).inside) in
      let same : range_of gs (first_of j.keys) ≡ (j.lo, j.hi) =
      same_range [] gs j.lo (first_of j.keys) (ascends j.level) (subst (λ r. in_range r.0 r.1 (first_of j.keys) ≡ true) (sym uj.range) (first_in (in_range j.lo j.hi) j.keys f.some inside)) ∙ uj.range in
      let str : list_all (is_straddled j.level (j.lo, j.hi) j.keys) (rows_numbered j.inputs w.tree.shape.live) ≡ true =
      all_of (is_straddled j.level (j.lo, j.hi) j.keys) (rows_numbered j.inputs w.tree.shape.live) (λ r i.
      and_from _ _ (and_from _ _ (all_in (λ (x : TableRow). x.level == j.level) r (rows_numbered j.inputs w.tree.shape.live) at_level i) (input_row r i).1)
      (all_in (λ (x : TableRow). list_any (straddles x) j.keys) r (rows_numbered j.inputs w.tree.shape.live) f.straddled i)) in
      let outs : list_all (λ (r : TableRow). r.level == j.level && lies_in (j.lo, j.hi) r && lies_in (range_of (with_keys j.keys gs) r.smallest) r) outputs ≡ true =
      all_of _ outputs (λ r i.
      and_from _ _ (and_from _ _ (all_in (λ (x : TableRow). x.level == j.level) r outputs (levels_are j.level e m (ap (λ a. into_at a j) k)) i) (all_in (lies_in (job_range j)) r outputs x.inside i))
      (x.lie r i)) in
      and_from _ _ (and_from _ _ (and_from _ _ (and_from _ _ (and_from _ _ (and_from _ _ (and_from _ _ (and_from _ _ (and_from _ _ (and_from _ _
      (le-leb 1 j.level f.from)
      (le-leb j.level o.last_level f.upto))
      f.ascend)
      f.some)
      (subst (λ r. list_all (λ x. is_candidate w.tree.shape.chosen j.level x && in_range r.0 r.1 x && not (is_guard w.tree.shape j.level x) && (j.level == o.last_level || is_guard w.tree.shape (suc j.level) x)) j.keys ≡ true) (sym same) f.keys))
      uj.ascend)
      uj.live)
      (subst (λ r. list_all (is_straddled j.level r j.keys) (rows_numbered j.inputs w.tree.shape.live) ≡ true) (sym same) str))
      (subst (λ r. list_all (λ x. not (is_straddled j.level r j.keys x)) (rows_without j.inputs w.tree.shape.live) ≡ true) (sym same) f.others))
      (subst (λ z. list_all (λ (r : TableRow). r.level == j.level && lies_in z r && lies_in (range_of (with_keys j.keys gs) r.smallest) r) outputs ≡ true) (sym same) outs))
      x.new

  flush_fits : (row : TableRow) (from to log : ℕ) (chosen : List Chosen) → j.kind ≡ FlushJob → IsMade o w n j (Flush row from to log chosen) → RowsFit o w.tree.shape j (Flush row from to log chosen)
      → fits o w.tree.shape (Flush row from to log chosen) ≡ true
  flush_fits row from to log chosen k m r =
      by (subst (λ a. IsEditOf a n j (Flush row from to log chosen)) k m.same)
      (subst (NumbersHold w.tree.shape (last_of w)) eq fm.numbers)
      (subst (Within (last_of w) w.tree.shape.session) eq fm.spans)
    where
      e : Edit
      e = Flush row from to log chosen

      level : (row.level == 0) ≡ true
      level = (and_parts (row.level == 0) true (levels_are 0 e m (ap (λ a. into_at a j) k))).0

      by : (n.frozen ≡ Some to) × (log ≡ n.log + n.freezes) → InNumbers w.tree.shape (last_of w) n
          → (last_of w ≤ w.tree.shape.session * 2 ^ 40 + n.committed) × (n.committed < 2 ^ 40) → fits o w.tree.shape (Flush row from to log chosen) ≡ true
      by q x z =
          let fz : IsFrozen w.tree.shape (marks_of n) to = x.marks.frozen to q.0 in
          let starts : from ≡ w.tree.shape.to = m.starts in
          and_from _ _ (and_from _ _ (and_from _ _ (and_from _ _ (and_from _ _ (and_from _ _ (and_from _ _ (and_from _ _ (and_from _ _ (and_from _ _
          (eq-eqb from w.tree.shape.to starts)
          (lt-ltb from to (omega (arith, starts, fz.above))))
          (lt-ltb w.tree.shape.log log (omega (arith, q.1, fz.log))))
          (lt-ltb 1 log (omega (arith, q.1, fz.some, x.marks.log_least))))
          (lt-ltb to ((w.tree.shape.session + 1) * 2 ^ 40) (omega (arith, fz.at, x.marks.mem_last, z.0, z.1))))
          (le-leb log (w.tree.shape.session * 2 ^ 41) (omega (arith, q.1, x.marks.few, x.marks.log_room, x.positive, z.1))))
          level)
          (lt-ltb from row.first r.lie.0))
          (le-leb row.last to r.lie.1))
          r.lie.2)
          r.new

  pub outcome_fits : (e : Edit) → IsMade o w n j e → RowsFit o w.tree.shape j e → fits o w.tree.shape e ≡ true
  outcome_fits e m x = by (edit_is n j e m.same)
    where
      by : EditIs j e → fits o w.tree.shape e ≡ true
      by (IsFlushOf q row from to log chosen s) = subst (λ z. fits o w.tree.shape z ≡ true) (sym s) (flush_fits row from to log chosen q (subst (IsMade o w n j) s m) (subst (RowsFit o w.tree.shape j) s x))
      by (IsMoveOf q floor outputs s) =
          subst (λ z. fits o w.tree.shape z ≡ true) (sym s) (move_fits floor outputs q (subst (λ a. KeepsKind a o w.tree.shape j) q uj.kind) (subst (IsMade o w n j) s m) (subst (RowsFit o w.tree.shape j) s x))
      by (IsCutOf q outputs s) =
          subst (λ z. fits o w.tree.shape z ≡ true) (sym s) (cut_fits outputs q (subst (λ a. KeepsKind a o w.tree.shape j) q uj.kind) (subst (IsMade o w n j) s m) (subst (RowsFit o w.tree.shape j) s x))
      by (IsMergeOf q floor whole outputs s) =
          subst (λ z. fits o w.tree.shape z ≡ true) (sym s) (merge_fits floor whole outputs q (subst (λ a. KeepsKind a o w.tree.shape j) q uj.kind) (subst (IsMade o w n j) s m) (subst (RowsFit o w.tree.shape j) s x))

  -- numbers of the job's block are new ones
  number_free : (e : Edit) → IsMade o w n j e → (r : TableRow) → IsIn r (outputs_of e) → (r.tier ≡ 0) × (is_of_session w.tree.shape.session r.number ≡ true) × (has_number r.number w.tree.shape.used ≡ false)
  number_free e m r i =
      let tiers : list_all (λ (r : TableRow). r.tier == 0) (outputs_of e) ≡ true = (split_all (λ (r : TableRow). r.level == into_at j.kind j) (λ (r : TableRow). r.tier == 0) (outputs_of e) m.levels).1 in
      let low = split_all (λ (r : TableRow). nat_le j.numbers r.number) (λ (r : TableRow). nat_lt r.number (j.numbers + numbers_needed j)) (outputs_of e) m.numbers in
      let a : j.numbers ≤ r.number = leb-true j.numbers r.number (all_in (λ (r : TableRow). nat_le j.numbers r.number) r (outputs_of e) low.0 i) in
      let b : r.number < j.numbers + numbers_needed j = ltb-true r.number (j.numbers + numbers_needed j) (all_in (λ (r : TableRow). nat_lt r.number (j.numbers + numbers_needed j)) r (outputs_of e) low.1 i) in
      (eqb-true r.tier 0 (all_in (λ (r : TableRow). r.tier == 0) r (outputs_of e) tiers i), uj.numbers.own r.number a b, uj.numbers.unused r.number a b)

  -- a row of the range that no key of a Cut splits lies in a guard once the keys are guards
  cut_lies : KeepsCut o w.tree.shape j → (r : TableRow) → key_le r.smallest r.largest ≡ true → lies_in (job_range j) r ≡ true → list_any (straddles r) j.keys ≡ false
      → lies_in (range_of (with_keys j.keys (guards_at w.tree.shape j.level)) r.smallest) r ≡ true
  cut_lies f r order lies clear =
      let gs : List Bytes = guards_at w.tree.shape j.level in
      let mine : range_of gs r.smallest ≡ (j.lo, j.hi) =
      same_range [] gs j.lo r.smallest (ascends j.level) (subst (λ z. in_range z.0 z.1 r.smallest ≡ true) (sym uj.range) (start_in (j.lo, j.hi) r order lies)) ∙ uj.range in
      ranges_kept gs j.keys r (subst (λ z. lies_in z r ≡ true) (sym mine) lies) clear order

  -- ---- where contents are known

  module _ (tells : w.told ≡ true) (all : All o w) (run : InFlight o w.tree j) where
    row_of_made : (e : Edit) → IsMade o w n j e → (r : TableRow) → IsIn r (outputs_of e) → (c : List Entry) × IsIn c (contents o w.batches w.tree e) × RowOf r c
    row_of_made e m r i =
        let z = zip_of o r (outputs_of e) (contents o w.batches w.tree e) (m.holds tells) i in
        (z.0, z.1, row_of o r z.0 z.2 (sorted_contents o w.batches w.tree e z.0 all.holds.sound.sorted z.1))

    fresh : (e : Edit) → IsMade o w n j e → rows_are_new w.tree.shape.session w.tree.shape.used (outputs_of e) ≡ true
    fresh e m =
        rows_new o w.tree.shape.session w.tree.shape.used (outputs_of e) (contents o w.batches w.tree e) (m.holds tells)
        (λ c i. sorted_contents o w.batches w.tree e c all.holds.sound.sorted i) (number_free e m) m.differ

    -- where the entries of each content are of the job's range, so are the rows
    rows_inside : (e : Edit) → IsMade o w n j e → ((x : Entry) (c : List Entry) → IsIn c (contents o w.batches w.tree e) → IsIn x c → in_range j.lo j.hi x.key ≡ true) → list_all (lies_in (job_range j)) (outputs_of e) ≡ true
    rows_inside e m h = all_of (lies_in (job_range j)) (outputs_of e) (λ r i. let c = row_of_made e m r i in lies_between (j.lo, j.hi) r c.0 c.2 (λ x p. h x c.0 c.1 p))

    told_move : (floor : ℕ) (outputs : List TableRow) → IsMade o w n j (Move j.level floor j.inputs outputs) → RowsFit o w.tree.shape j (Move j.level floor j.inputs outputs)
    told_move floor outputs m =
        let e : Edit = Move j.level floor j.inputs outputs in
        let es : List Entry = kept (merged w.tree.tables j.inputs) floor false in
        let so : Sorted es = each_before-filter _ _ (merged w.tree.tables j.inputs) (sorted_in_order (flat_map (content_of w.tree.tables) j.inputs)) in
        let ap2 = pieces_apart o [] (guards_at w.tree.shape (suc j.level)) es outputs (ascends (suc j.level)) so (λ x i. least x.key) (m.holds tells) in
        let order : (r : TableRow) → IsIn r outputs → key_le r.smallest r.largest ≡ true = λ r i. (row_of_made e m r i).2.order in
        record {
          new = fresh e m;
          inside = rows_inside e m (λ x c i p. let u = from_merged w.tree j.inputs floor false x (in_pieces x c es (guards_at w.tree.shape (suc j.level)) i p) in run.inside u.0 x u.1 u.2 u.3);
          lie = (apart_ascends [] (guards_at w.tree.shape (suc j.level)) outputs order ap2, apart_lie (guards_at w.tree.shape (suc j.level)) outputs ap2);
        }

    told_merge : (floor : ℕ) (whole : Bool) (outputs : List TableRow) → IsMade o w n j (Merge floor whole j.inputs outputs) → RowsFit o w.tree.shape j (Merge floor whole j.inputs outputs)
    told_merge floor whole outputs m =
        let e : Edit = Merge floor whole j.inputs outputs in
        let es : List Entry = kept (merged w.tree.tables j.inputs) floor whole in
        record {
          new = fresh e m;
          inside = rows_inside e m (λ x c i p. let u = from_merged w.tree j.inputs floor whole x (in_some_entries x c es i p) in run.inside u.0 x u.1 u.2 u.3);
          lie = few outputs es (m.holds tells);
        }
      where
        few : (rs : List TableRow) (es : List Entry) → AllZip (Describes o) rs (some_entries es) → length rs ≤ 1
        few [] es d = omega arith
        few (r ∷ []) es d = omega arith
        few (r ∷ q ∷ rs) [] d = absurd d
        few (r ∷ q ∷ rs) (x ∷ xs) d = absurd d.1

    told_cut : (outputs : List TableRow) → KeepsCut o w.tree.shape j → IsMade o w n j (Cut j.level j.keys j.inputs outputs) → RowsFit o w.tree.shape j (Cut j.level j.keys j.inputs outputs)
    told_cut outputs f m =
        let e : Edit = Cut j.level j.keys j.inputs outputs in
        let inside : list_all (lies_in (job_range j)) outputs ≡ true =
        rows_inside e m (λ x c i p.
        let src = in_flat (λ x. pieces (content_of w.tree.tables x) j.keys) c j.inputs i in
        let u = from_content w.tree j.inputs src.0 x src.1 (in_pieces x c (content_of w.tree.tables src.0) j.keys src.2 p) in run.inside u.0 x u.1 u.2 u.3) in
        record {
          new = fresh e m;
          inside = inside;
          lie = λ r i.
              let c = row_of_made e m r i in
              let src = in_flat (λ x. pieces (content_of w.tree.tables x) j.keys) c.0 j.inputs c.1 in
              cut_lies f r c.2.order (all_in (lies_in (job_range j)) r outputs inside i) (pieces_clear j.keys (content_of w.tree.tables src.0) c.0 r f.ascend c.2 src.2);
        }

    told_flush : (row : TableRow) (from to log : ℕ) (chosen : List Chosen) → KeepsFlush j → IsMade o w n j (Flush row from to log chosen) → RowsFit o w.tree.shape j (Flush row from to log chosen)
    told_flush row from to log chosen f m = record { new = fresh e m; inside = every; lie = (low, high, choices) }
      where
        e : Edit
        e = Flush row from to log chosen

        es : List Entry
        es = in_order (entries_between from to (entries_of w.batches))

        number : (x : Entry) → IsIn x es → (from < x.number) × (x.number ≤ to)
        number x i =
            let p = (in_filter (λ (y : Entry). nat_lt from y.number && nat_le y.number to) x (entries_of w.batches) (in_sorted x (entries_between from to (entries_of w.batches)) i)).1 in
            let q = and_parts (nat_lt from x.number) (nat_le x.number to) p in
            (ltb-true from x.number q.0, leb-true x.number to q.1)

        low : from < row.first
        low = let l = some_number es (m.holds tells).0.tells.some in omega (arith, (m.holds tells).0.tells.first, l.2, (number l.0 l.1).0)

        high : row.last ≤ to
        high = omega (arith, (m.holds tells).0.tells.last, greatest_at_most es to (λ x i. (number x i).1))

        choices : are_choices o w.tree.shape chosen ≡ true
        choices = subst (λ cs. are_choices o w.tree.shape cs ≡ true) (sym (m.chooses tells)) (choices_fit o w.tree.shape es (sorted_in_order (entries_between from to (entries_of w.batches))))

        every : list_all (lies_in (job_range j)) (row ∷ []) ≡ true
        every = all_keys j row f

    pub told_rows : (e : Edit) → IsMade o w n j e → RowsFit o w.tree.shape j e
    told_rows e m = by (edit_is n j e m.same)
      where
        by : EditIs j e → RowsFit o w.tree.shape j e
        by (IsFlushOf q row from to log chosen s) = subst (RowsFit o w.tree.shape j) (sym s) (told_flush row from to log chosen (subst (λ a. KeepsKind a o w.tree.shape j) q uj.kind) (subst (IsMade o w n j) s m))
        by (IsMoveOf q floor outputs s) = subst (RowsFit o w.tree.shape j) (sym s) (told_move floor outputs (subst (IsMade o w n j) s m))
        by (IsCutOf q outputs s) = subst (RowsFit o w.tree.shape j) (sym s) (told_cut outputs (subst (λ a. KeepsKind a o w.tree.shape j) q uj.kind) (subst (IsMade o w n j) s m))
        by (IsMergeOf q floor whole outputs s) = subst (RowsFit o w.tree.shape j) (sym s) (told_merge floor whole outputs (subst (IsMade o w n j) s m))

  -- ---- where they aren't

  untold_new : (e : Edit) → IsMade o w n j e → RowsSuit o w.tree.shape j e → rows_are_new w.tree.shape.session w.tree.shape.used (outputs_of e) ≡ true
  untold_new e m r =
      and_from _ _ (all_of (is_new w.tree.shape.session w.tree.shape.used) (outputs_of e) (λ x i.
      let y = number_free e m x i in and_from _ _ (and_from _ _ (all_in (is_row 0) x (outputs_of e) r.form i) y.1) (ap not y.2))) m.differ

  order_of : (e : Edit) → RowsSuit o w.tree.shape j e → (r : TableRow) → IsIn r (outputs_of e) → key_le r.smallest r.largest ≡ true
  order_of e m r i = (and_parts _ _ (and_parts _ _ (and_parts _ _ (all_in (is_row 0) r (outputs_of e) m.form i)).0).0).0

  pub untold_rows : (e : Edit) → IsMade o w n j e → RowsSuit o w.tree.shape j e → RowsFit o w.tree.shape j e
  untold_rows e m r = record { new = untold_new e m r; inside = r.inside; lie = by (edit_is n j e m.same) }
    where
      by : EditIs j e → LieBy o w.tree.shape j e
      by (IsFlushOf q row from to log chosen s) =
          let x : suits FlushJob o w.tree.shape j (Flush row from to log chosen) ≡ true = subst (λ a. suits a o w.tree.shape j (Flush row from to log chosen) ≡ true) q (subst (λ z. suits j.kind o w.tree.shape j z ≡ true) s r.pieces) in
          let y = and_parts _ _ x in
          let z = and_parts _ _ y.0 in
          subst (LieBy o w.tree.shape j) (sym s) (ltb-true from row.first z.0, leb-true row.last to z.1, y.1)
      by (IsMoveOf q floor outputs s) =
          let f : KeepsMove o w.tree.shape j = subst (λ a. KeepsKind a o w.tree.shape j) q uj.kind in
          let gs : List Bytes = guards_at w.tree.shape (suc j.level) in
          let own : List Bytes = guards_in w.tree.shape (suc j.level) (job_range j) in
          let x : lie_apart j.keys outputs ≡ true = subst (λ a. suits a o w.tree.shape j (Move j.level floor j.inputs outputs) ≡ true) q (subst (λ z. suits j.kind o w.tree.shape j z ≡ true) s r.pieces) in
          let y = and_parts (list_all (λ z. lies_in (range_of_row own z) z) outputs) _ (subst (λ ks. lie_apart ks outputs ≡ true) f.keys x) in
          let inside : list_all (lies_in (job_range j)) outputs ≡ true = subst (λ z. list_all (lies_in (job_range j)) (outputs_of z) ≡ true) s r.inside in
          let lie : list_all (λ z. lies_in (range_of_row gs z) z) outputs ≡ true = all_of _ outputs (λ z i.
          row_lies z gs (all_clear j.lo j.hi z gs (all_in (lies_in (job_range j)) z outputs inside i)
          (row_clear z own (ascend_filter (in_range j.lo j.hi) [] gs (ascends (suc j.level))) (all_in (λ v. lies_in (range_of_row own v) v) z outputs y.0 i)))) in
          subst (LieBy o w.tree.shape j) (sym s)
          (apart_rise own outputs y.1, and_from _ _ lie (apart_more own gs outputs (ascends (suc j.level)) (λ k i. (in_filter (in_range j.lo j.hi) k gs i).0) y.1))
      by (IsCutOf q outputs s) =
          let f : KeepsCut o w.tree.shape j = subst (λ a. KeepsKind a o w.tree.shape j) q uj.kind in
          let x : list_all (λ v. lies_in (range_of_row j.keys v) v) outputs ≡ true = subst (λ a. suits a o w.tree.shape j (Cut j.level j.keys j.inputs outputs) ≡ true) q (subst (λ z. suits j.kind o w.tree.shape j z ≡ true) s r.pieces) in
          subst (LieBy o w.tree.shape j) (sym s) (λ v i.
          let i2 : IsIn v (outputs_of e) = subst (λ z. IsIn v (outputs_of z)) (sym s) i in
          cut_lies f v (order_of e r v i2) (all_in (lies_in (job_range j)) v (outputs_of e) r.inside i2)
          (row_clear v j.keys (ascend_from j.keys f.ascend) (all_in (λ u. lies_in (range_of_row j.keys u) u) v outputs x i)))
      by (IsMergeOf q floor whole outputs s) =
          let x : nat_le (length outputs) 1 ≡ true = subst (λ a. suits a o w.tree.shape j (Merge floor whole j.inputs outputs) ≡ true) q (subst (λ z. suits j.kind o w.tree.shape j z ≡ true) s r.pieces) in
          subst (LieBy o w.tree.shape j) (sym s) (leb-true (length outputs) 1 x)

-- ---- the law

pub outcomes_fit : AlwaysFormed OutcomesFit
outcomes_fit p told bs r h b legal n eq x i e m = by told refl
  where
    o : Column
    o = column p

    w : Standing
    w = run o (base told o bs r) h

    fm : Formed o w
    fm = formed_always p told bs r h b legal

    each : EachJob (Calm o) w.tree n.running × FaultJobs (Calm o) w.tree n.faulted
    each = subst (InEach (Calm o) w.tree) eq fm.each

    same : w.told ≡ told
    same = run_told o (base told o bs r) h

    done : RowsFit o w.tree.shape x.1 e → IsOutcome o w n x.1 e
    done rows = record {
      formed = record { same = m.same; fit = outcome_fits o w n x.1 fm eq (each.0 x i) e m rows; inside = rows.inside; numbers = m.numbers };
      holds = m.holds;
      chooses = m.chooses;
    }

    by : (t : Bool) → told ≡ t → IsOutcome o w n x.1 e
    by true is =
        let all : All o w = subst (λ t. All o (run o (base t o bs r) h)) (sym is) (stands_always p bs r h (b.holds is) (subst (λ t. IsLegal o (base t o bs r) h) is legal)).all in
        let jobs : JobsIn o w.tree n = subst (JobsHold o w.tree) eq all.holds.jobs in
        done (told_rows o w n x.1 fm eq (each.0 x i) (same ∙ is) all (jobs.now.each x i) e m)
    by false is = done (untold_rows o w n x.1 fm eq (each.0 x i) e m (m.rows (same ∙ is)))
