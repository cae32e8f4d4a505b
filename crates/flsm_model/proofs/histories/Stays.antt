-- The outcome of a job in flight stays what it was when the job began.
use Rattle.std.proofs.Common.{◌≡◌, ℕ, suc, ◌+◌, ◌*◌, ◌^◌, ◌<◌, ◌≤◌, Bool, true, false, cond, ◌&&◌, not, List, [], ◌∷◌, ◌++◌, length, inl, inr, refl, sym, ◌∙◌, ap, subst, arith}
use Rattle.std.specs.Prelude.{◌==◌, filter, flat_map, Option, Some, None, IsSome, option_map, ⊤}
use Rattle.std.proofs.lemmas.Bool.{and_parts, and_from, cases_Bool, eqb-true, true≢false, false≢true, not-true}
use Rattle.peb_base.specs.Keys.{Bytes, key_lt, key_le}
use Rattle.flsm_model.specs.Ranges.{is_below, in_range}
use Rattle.peb_base.specs.Batches.{Batches, last_number}
use Rattle.peb_base.specs.Entries.{in_order}
use Rattle.peb_base.specs.Profiles.{column, Column}
use Rattle.flsm_model.specs.Compaction.{pieces, some_entries, before_key, from_key, kept}
use Rattle.peb_base.specs.KeyLaws.{lt_le, lt_le_weak, le_trans}
use Rattle.peb_base.specs.declared.entry.Entry.{Entry}
use Rattle.peb_base.specs.declared.table_row.TableRow.{TableRow}
use Rattle.flsm_model.specs.declared.edit.Edit.{Edit}
use Rattle.flsm_model.specs.declared.job_kind.JobKind.{JobKind}
use Rattle.flsm_model.specs.declared.job_kind.JobKind.TheVariants.{Flush as FlushJob, Move as MoveJob, Cut as CutJob, Merge as MergeJob}
use Rattle.flsm_model.specs.declared.job.Job.{Job}
use Rattle.flsm_model.specs.Shape.{shape_after, has_number, guards_at, inputs_of}
use Rattle.flsm_model.specs.Fits.{is_live}
use Rattle.flsm_model.specs.Trees.{Table, content_of, merged, tree_after, written_by, tables_without}
use Rattle.flsm_model.specs.Events.{Event, Opened, Commit, Synced, Look, Hold, Release, Freeze, Begin, Done, Short, JournalFault, Stop, Session, Standing, last_of, Running, base}
use Rattle.flsm_model.specs.Steps.{frozen_left, without_job, step, run}
use Rattle.flsm_model.specs.Claims.{jobs_conflict}
use Rattle.flsm_model.specs.Outcomes.{frozen_entries, outcome, outcome_at}
use Rattle.flsm_model.specs.Jobs.{IsLawful, IsFlush, IsOfKind}
use Rattle.flsm_model.specs.Legal.{Allowed, AllowedIn, IsLegal, Always}
use Rattle.peb_base.specs.Members.{IsIn}
use Rattle.flsm_model.specs.Undisturbed.{KeepsFlush, KeepsKind, Undisturbed}
use Rattle.flsm_model.specs.Made.{made_by, made_of, parts_at, parts_of, OutcomeStands, OutcomesStay}
use Rattle.flsm_model.proofs.lists.Members.{from_merged, has_in}
use Rattle.flsm_model.proofs.guards.Guards.{AscendFrom}
use Rattle.flsm_model.proofs.contents.Falls.{InFlight}
use Rattle.flsm_model.proofs.contents.Beside.{conflict_at, at_kinds, no_input}
use Rattle.flsm_model.proofs.contents.Covers.{number_in}
use Rattle.flsm_model.proofs.histories.Histories.{JobsHold, JobsIn, fresh_rows, within}
use Rattle.flsm_model.proofs.contents.Places.{Within}
use Rattle.flsm_model.proofs.contents.MapLaw.{SessionShows, InSession}
use Rattle.flsm_model.proofs.contents.Structure.{Agree, agree_push}
use Rattle.flsm_model.proofs.contents.Base.{deep}
use Rattle.flsm_model.proofs.histories.Truth.{All}
use Rattle.flsm_model.proofs.histories.Sessions.{NumbersHold}
use Rattle.flsm_model.proofs.histories.Jobs.{EachJob, FaultJobs, FaultApart, InEach, JobsApart, Ends, ends_beside}
use Rattle.flsm_model.proofs.contents.Orders.{AllApart}
use Rattle.flsm_model.proofs.histories.Undisturb.{gone, inputs_apart, EditIs, IsFlushOf, IsMoveOf, IsCutOf, IsMergeOf, edit_is}
use Rattle.flsm_model.proofs.histories.Whole.{Stands, Calm, stands_base, stands_step, stands_always}
use Rattle.flsm_model.proofs.lists.Lists.{in_filter, all_in, any_in, filter_all, filter_no}
use Rattle.std.proofs.lemmas.List.{append-nil}
use Rattle.std.proofs.lemmas.List.Folds.{flat_map-map}

-- ---- cutting by all guards is cutting by those of the range

above_all : (g : Bytes) (gs : List Bytes) (x : Bytes) → AscendFrom g gs → IsIn x gs → key_le g x ≡ true
above_all g [] x a i = absurd i
above_all g (q ∷ gs) x a i = elim i [ inl s ↦ subst (λ z. key_le g z ≡ true) (sym s) a.0 | inr r ↦ le_trans g q x a.0 (above_all q gs x a.1 r) ]

pieces_none : (gs : List Bytes) → pieces [] gs ≡ []
pieces_none [] = refl
pieces_none (g ∷ gs) = pieces_none gs

pub pieces_within : (lo : Bytes) (hi : Option Bytes) (low : Bytes) (gs : List Bytes) (es : List Entry) → AscendFrom low gs → ((x : Entry) → IsIn x es → in_range lo hi x.key ≡ true)
    → pieces es gs ≡ pieces es (filter (in_range lo hi) gs)
pieces_within lo hi low [] es a h = refl
pieces_within lo hi low (g ∷ gs) es a h =
    by (in_range lo hi g) refl
    (pieces_within lo hi g gs (from_key g es) a.1 (λ x i. h x (in_filter (λ (e : Entry). not (key_lt e.key g)) x es i).0))
    (pieces_within lo hi g gs es a.1 h)
  where
    below_none : (hi : Option Bytes) → is_below g hi ≡ false → (x : Bytes) → is_below x hi ≡ true → (key_lt x g ≡ true) × ((y : Bytes) → key_le g y ≡ true → is_below y hi ≡ false)
    below_none None e x b = absurd (true≢false e)
    below_none (Some z) e x b = (lt_le x z g b (ap not e), λ y l. not-true _ (le_trans z g y (ap not e) l))

    none_in : (hi : Option Bytes) → is_below g hi ≡ false → (y : Bytes) → key_le g y ≡ true → is_below y hi ≡ false
    none_in None e y l = absurd (true≢false e)
    none_in (Some z) e y l = not-true _ (le_trans z g y (ap not e) l)

    and_no : (p q : Bool) → q ≡ false → (p && q) ≡ false
    and_no true q e = e
    and_no false q e = refl

    by : (b : Bool) → in_range lo hi g ≡ b → pieces (from_key g es) gs ≡ pieces (from_key g es) (filter (in_range lo hi) gs) → pieces es gs ≡ pieces es (filter (in_range lo hi) gs)
        → some_entries (before_key g es) ++ pieces (from_key g es) gs ≡ pieces es (cond b (g ∷ filter (in_range lo hi) gs) (filter (in_range lo hi) gs))
    by true e ih1 ih2 = ap (λ ps. some_entries (before_key g es) ++ ps) ih1
    by false e ih1 ih2 = elim (cases_Bool (key_le lo g)) [
      | inl le ↦
          let out : is_below g hi ≡ false = elim (cases_Bool (is_below g hi)) [ inl y ↦ absurd (true≢false (sym (and_from (key_le lo g) (is_below g hi) le y) ∙ e)) | inr z ↦ z ] in
          let all : before_key g es ≡ es = filter_all (λ (x : Entry). key_lt x.key g) es (λ x i. (below_none hi out x.key (and_parts (key_le lo x.key) (is_below x.key hi) (h x i)).1).0) in
          let nil : from_key g es ≡ [] = filter_no (λ (x : Entry). not (key_lt x.key g)) es (λ x i. ap not ((below_none hi out x.key (and_parts (key_le lo x.key) (is_below x.key hi) (h x i)).1).0)) in
          let none : filter (in_range lo hi) gs ≡ [] = filter_no (in_range lo hi) gs (λ x i. and_no (key_le lo x) (is_below x hi) (none_in hi out x (above_all g gs x a.1 i))) in
          (λ i. some_entries (all i) ++ pieces (nil i) gs) ∙ ap (λ ps. some_entries es ++ ps) (pieces_none gs) ∙ append-nil (some_entries es) ∙ ap (pieces es) (sym none)
      | inr gt ↦
          let less : key_lt g lo ≡ true = not-false2 gt in
          let nil : before_key g es ≡ [] = filter_no (λ (x : Entry). key_lt x.key g) es (λ x i. not-true _ (le_trans2 x.key less (and_parts (key_le lo x.key) (is_below x.key hi) (h x i)).0)) in
          let all : from_key g es ≡ es = filter_all (λ (x : Entry). not (key_lt x.key g)) es (λ x i. le_trans2 x.key less (and_parts (key_le lo x.key) (is_below x.key hi) (h x i)).0) in
          (λ i. some_entries (nil i) ++ pieces (all i) gs) ∙ ih2
    ]
      where
        not-false2 : key_le lo g ≡ false → key_lt g lo ≡ true
        not-false2 x = by2 (key_lt g lo) x
          where
            by2 : (b : Bool) → not b ≡ false → b ≡ true
            by2 true y = refl
            by2 false y = absurd (true≢false y)

        le_trans2 : (x : Bytes) → key_lt g lo ≡ true → key_le lo x ≡ true → key_le g x ≡ true
        le_trans2 x l m = lt_le_weak g x (lt_le g lo x l m)

-- ---- the contents of inputs

content_none : (ts : List Table) (m : ℕ) → ((t : Table) → IsIn t ts → t.row.number ≡ m → ⊥) → content_of ts m ≡ []
content_none [] m h = refl
content_none (t ∷ ts) m h = by (t.row.number == m) refl (content_none ts m (λ u i. h u (inr i)))
  where
    by : (b : Bool) → (t.row.number == m) ≡ b → content_of ts m ≡ [] → cond b t.entries (content_of ts m) ≡ []
    by true e r = absurd (h t (inl refl) (eqb-true t.row.number m e))
    by false e r = r

content_left : (xs ys : List Table) (m : ℕ) → ((t : Table) → IsIn t ys → t.row.number ≡ m → ⊥) → content_of (xs ++ ys) m ≡ content_of xs m
content_left [] ys m h = content_none ys m h
content_left (x ∷ xs) ys m h = ap (λ z. cond (x.row.number == m) x.entries z) (content_left xs ys m h)

content_without : (ns : List ℕ) (ts : List Table) (m : ℕ) → has_number m ns ≡ false → content_of (tables_without ns ts) m ≡ content_of ts m
content_without ns [] m h = refl
content_without ns (t ∷ ts) m h = by (has_number t.row.number ns) refl (content_without ns ts m h)
  where
    by : (b : Bool) → has_number t.row.number ns ≡ b → content_of (tables_without ns ts) m ≡ content_of ts m
        → content_of (cond (not b) (t ∷ tables_without ns ts) (tables_without ns ts)) m ≡ cond (t.row.number == m) t.entries (content_of ts m)
    by true e r = elim (cases_Bool (t.row.number == m)) [
      | inl s ↦ absurd (true≢false (sym e ∙ ap (λ z. has_number z ns) (eqb-true t.row.number m s) ∙ h))
      | inr n ↦ r ∙ rw n refl
    ]
    by false e r = ap (λ z. cond (t.row.number == m) t.entries z) r

-- another job's end leaves the inputs' entries
pub inputs_stay : (o : Column) (w : Standing) (n : Session) (j k : Job) (e : Edit) → All o w → w.session ≡ Some n → Ends o w n j k e → Undisturbed o w.tree.shape j → Undisturbed o w.tree.shape k
    → (m : ℕ) → has_number m k.inputs ≡ true → content_of (tree_after o w.batches w.tree e).tables m ≡ content_of w.tree.tables m
inputs_stay o w n j k e al eq en uj uk m hk =
    let jobs : JobsIn o w.tree n = subst (JobsHold o w.tree) eq al.holds.jobs in
    let r = any_in (λ (x : TableRow). x.number == m) w.tree.shape.live (all_in (is_live w.tree.shape) m k.inputs uk.live (number_in m k.inputs hk)) in
    let same : r.0.number ≡ m = eqb-true r.0.number m r.2 in
    let free : has_number m j.inputs ≡ false = subst (λ z. has_number z j.inputs ≡ false) same (inputs_apart o w n j k e al.holds.sound.guards al.holds.sound.known en uj uk r.0 r.1 (subst (λ z. has_number z k.inputs ≡ true) (sym same) hk)) in
    let free2 : has_number m (inputs_of e) ≡ false = subst (λ ns. has_number m ns ≡ false) (sym (gone o w n j k e al.holds.sound.guards al.holds.sound.known en uj uk)) free in
    content_left (tables_without (inputs_of e) w.tree.tables) (written_by o w.batches w.tree e) m
    (λ t i s. true≢false (sym (subst (λ z. has_number z k.inputs ≡ true) (sym s) hk) ∙ no_input o w.batches w.tree e k t (fresh_rows o w.tree.shape e en.outcome.formed.fit) (jobs.now.each (en.other.0, k) en.other.1) i))
    ∙ content_without (inputs_of e) w.tree.tables m free2

-- ---- what a job makes

flat_same : {X Y : Type 0} (f g : X → List Y) (xs : List X) → ((x : X) → IsIn x xs → f x ≡ g x) → flat_map f xs ≡ flat_map g xs
flat_same f g [] h = refl
flat_same f g (x ∷ xs) h = λ i. h x (inl refl) i ++ flat_same f g xs (λ y m. h y (inr m)) i

-- what a job of the kind makes, by the numbers of its inputs
abbrev made_at : JobKind → Standing → Session → Job → List (List Entry)
made_at FlushJob w n j = frozen_entries w.batches w.tree.shape.to n.frozen
made_at MoveJob w n j = pieces (kept (merged w.tree.tables j.inputs) j.floor false) j.keys
made_at CutJob w n j = flat_map (λ m. pieces (content_of w.tree.tables m) j.keys) j.inputs
made_at MergeJob w n j = some_entries (kept (merged w.tree.tables j.inputs) j.floor j.whole)

-- it is what the job makes of its parts
of_parts : (a : JobKind) (w : Standing) (n : Session) (j : Job) → made_at a w n j ≡ made_by a j (parts_at a w n j)
of_parts FlushJob w n j = refl
of_parts MoveJob w n j =
    ap (λ es. pieces (kept (in_order es) j.floor false) j.keys) (sym (flat_map-map (λ es. es) (content_of w.tree.tables) j.inputs))
of_parts CutJob w n j = sym (flat_map-map (λ es. pieces es j.keys) (content_of w.tree.tables) j.inputs)
of_parts MergeJob w n j =
    ap (λ es. some_entries (kept (in_order es) j.floor j.whole)) (sym (flat_map-map (λ es. es) (content_of w.tree.tables) j.inputs))

made_same : (w v : Standing) (n m : Session) (j : Job) (a : JobKind) → ((k : ℕ) → has_number k j.inputs ≡ true → content_of v.tree.tables k ≡ content_of w.tree.tables k)
    → (a ≡ FlushJob → frozen_entries v.batches v.tree.shape.to m.frozen ≡ frozen_entries w.batches w.tree.shape.to n.frozen) → made_at a v m j ≡ made_at a w n j
made_same w v n m j FlushJob h f = f refl
made_same w v n m j MoveJob h f =
    ap (λ es. pieces (kept (in_order es) j.floor false) j.keys) (flat_same (content_of v.tree.tables) (content_of w.tree.tables) j.inputs (λ k i. h k (has_in k j.inputs i)))
made_same w v n m j CutJob h f =
    flat_same (λ k. pieces (content_of v.tree.tables k) j.keys) (λ k. pieces (content_of w.tree.tables k) j.keys) j.inputs (λ k i. ap (λ es. pieces es j.keys) (h k (has_in k j.inputs i)))
made_same w v n m j MergeJob h f =
    ap (λ es. some_entries (kept (in_order es) j.floor j.whole)) (flat_same (content_of v.tree.tables) (content_of w.tree.tables) j.inputs (λ k i. h k (has_in k j.inputs i)))

own_made : (o : Column) (w : Standing) (n : Session) (j : Job) → All o w → Undisturbed o w.tree.shape j → InFlight o w.tree j → outcome o w n j ≡ made_at j.kind w n j
own_made o w n j al u run = by j.kind u.kind
  where
    by : (a : JobKind) → KeepsKind a o w.tree.shape j → outcome_at a o w n j ≡ made_at a w n j
    by FlushJob f = refl
    by MoveJob f =
        let es : List Entry = kept (merged w.tree.tables j.inputs) j.floor false in
        pieces_within j.lo j.hi [] (guards_at w.tree.shape (suc j.level)) es (al.holds.sound.guards.ascend (suc j.level))
        (λ x i. let v = from_merged w.tree j.inputs j.floor false x i in run.inside v.0 x v.1 v.2 v.3)
        ∙ ap (pieces es) (sym f.keys)
    by CutJob f = refl
    by MergeJob f = refl

-- ---- a Flush in flight has something frozen

abbrev pub FlushFrozen : Session → Type 0
FlushFrozen n = (r : Running) → IsIn r n.running → r.1.kind ≡ FlushJob → IsSome n.frozen

flush_flush : (j k : Job) → jobs_conflict j k ≡ false → j.kind ≡ FlushJob → k.kind ≡ FlushJob → KeepsFlush j → KeepsFlush k → ⊥
flush_flush j k h p q fj fk = true≢false (sym meet ∙ at_kinds FlushJob FlushJob j k p q h)
  where
    meet : conflict_at FlushJob FlushJob j k ≡ true
    meet = rw (fj.whole.0, fj.whole.1, fk.whole.1) refl

abbrev pub FrozenHold : Option Session → Type 0
FrozenHold None = ⊤
FrozenHold (Some n) = FlushFrozen n

frozen_map2 : (s : Option Session) (f : Session → Session) → ((n : Session) → s ≡ Some n → FlushFrozen n → FlushFrozen (f n)) → FrozenHold s → FrozenHold (option_map f s)
frozen_map2 None f g h = tt
frozen_map2 (Some n) f g h = g n refl h

-- the jobs of a session, and what each is
jobs_of : (o : Column) (w : Standing) (n : Session) → Stands o w → w.session ≡ Some n → JobsIn o w.tree n
jobs_of o w n st eq = subst (JobsHold o w.tree) eq st.all.holds.jobs

calm_of : (o : Column) (w : Standing) (n : Session) → Stands o w → w.session ≡ Some n → EachJob (Calm o) w.tree n.running
calm_of o w n st eq =
    let each : EachJob (Calm o) w.tree n.running × FaultJobs (Calm o) w.tree n.faulted = subst (InEach (Calm o) w.tree) eq st.formed.each in
    each.0

-- an outcome of a job beside another one
beside_of : (o : Column) (w : Standing) (n : Session) (actor : ℕ) (e : Edit) (r : Running) → Stands o w → w.session ≡ Some n → AllowedIn o w n (Done actor e) → IsIn r (without_job n.running actor)
    → (j : Job) × Ends o w n j r.1 e × IsIn (actor, j) n.running × IsIn r n.running
beside_of o w n actor e r st eq a i =
    let jobs : AllApart n.running × FaultApart n.faulted = subst JobsApart eq st.formed.apart in
    ends_beside o w n actor e r jobs.0 (subst (NumbersHold w.tree.shape (last_of w)) eq st.formed.numbers) a i

-- where a Flush stays in flight, no other Flush has ended: what is frozen, and the last flush, stay
no_flush : (o : Column) (w : Standing) (n : Session) (j k : Job) (e : Edit) → Ends o w n j k e → Undisturbed o w.tree.shape j → Undisturbed o w.tree.shape k → k.kind ≡ FlushJob
    → ((f : Option ℕ) → frozen_left e f ≡ f) × ((shape_after w.tree.shape e).to ≡ w.tree.shape.to)
no_flush o w n j k e en uj uk kf = by (edit_is n j e en.outcome.formed.same)
  where
    by : EditIs j e → ((f : Option ℕ) → frozen_left e f ≡ f) × ((shape_after w.tree.shape e).to ≡ w.tree.shape.to)
    by (IsFlushOf q row from to log chosen s) =
        absurd (flush_flush j k en.apart q kf (subst (λ a. KeepsKind a o w.tree.shape j) q uj.kind) (subst (λ a. KeepsKind a o w.tree.shape k) kf uk.kind))
    by (IsMoveOf q floor outputs s) = ((λ f. ap (λ z. frozen_left z f) s), ap (λ z. (shape_after w.tree.shape z).to) s)
    by (IsCutOf q outputs s) = ((λ f. ap (λ z. frozen_left z f) s), ap (λ z. (shape_after w.tree.shape z).to) s)
    by (IsMergeOf q floor whole outputs s) = ((λ f. ap (λ z. frozen_left z f) s), ap (λ z. (shape_after w.tree.shape z).to) s)

frozen_step : (o : Column) (w : Standing) (e : Event) → Stands o w → FrozenHold w.session → Allowed o w w.session e → FrozenHold (step o w e).session
frozen_step o w (Opened session log) st h a = λ r i. absurd i
frozen_step o w (Commit actor first ops) st h a = frozen_map2 w.session _ (λ n e x. x) h
frozen_step o w (Synced actor m) st h a = frozen_map2 w.session _ (λ n e x. x) h
frozen_step o w (Look actor m) st h a = h
frozen_step o w (Hold actor m) st h a = frozen_map2 w.session _ (λ n e x. x) h
frozen_step o w (Release actor m) st h a = frozen_map2 w.session _ (λ n e x. x) h
frozen_step o w (Freeze m) st h a = frozen_map2 w.session _ (λ n e x r i k. refl) h
frozen_step o w (Begin actor job) st h a =
    frozen_map2 w.session _ (λ n e x r i k.
    elim i [
      | inl s ↦
          let l : IsLawful o w n job = (within o w (Begin actor job) n e a).2 in
          let f : IsFlush n job = subst (λ z. IsOfKind z o w.tree.shape n job) (ap (λ (z : Running). z.1.kind) (sym s) ∙ k) l.kind in
          f.frozen
      | inr m ↦ x r m k
    ]) h
frozen_step o w (Done actor e) st h a =
    frozen_map2 w.session _ (λ n eq x r i k.
    let b = beside_of o w n actor e r st eq (within o w (Done actor e) n eq a) i in
    let c = calm_of o w n st eq in
    let same = (no_flush o w n b.0 r.1 e b.1 (c (actor, b.0) b.2) (c r b.3) k).0 in
    subst IsSome (sym (same n.frozen)) (x r b.3 k)) h
frozen_step o w (Short actor cause bytes) st h a = frozen_map2 w.session _ (λ n e x r i k. x r (in_filter (λ (z : Running). not (z.0 == actor)) r n.running i).0 k) h
frozen_step o w JournalFault st h a = frozen_map2 w.session _ (λ n e x. x) h
frozen_step o w (Stop m e) st h a = tt

-- ---- one step

mapped : (s : Option Session) (f : Session → Session) (n m : Session) → s ≡ Some n → option_map f s ≡ Some m → f n ≡ m
mapped s f n m e q = inj (f n) m (subst (λ z. option_map f z ≡ Some m) e q)
  where
    inj : (x y : Session) → Some x ≡ Some y → x ≡ y
    inj x y z = cc

same_session2 : (n m : Session) (s : Option Session) → s ≡ Some n → s ≡ Some m → n ≡ m
same_session2 n m s e q = inj n m (sym e ∙ q)
  where
    inj : (x y : Session) → Some x ≡ Some y → x ≡ y
    inj x y z = cc

never_some : (m : Session) → None ≡ Some m → ⊥
never_some m q = cc

input_content : (o : Column) (w : Standing) (n : Session) (r : Running) → Stands o w → w.session ≡ Some n
    → (e : Event) (m : Session) → AllowedIn o w n e → (step o w e).session ≡ Some m → IsIn r m.running
    → (k : ℕ) → has_number k r.1.inputs ≡ true → content_of (step o w e).tree.tables k ≡ content_of w.tree.tables k
input_content o w n r st eq (Opened session log) m a q i k h = absurd a
input_content o w n r st eq (Commit actor first ops) m a q i k h = refl
input_content o w n r st eq (Synced actor x) m a q i k h = refl
input_content o w n r st eq (Look actor x) m a q i k h = refl
input_content o w n r st eq (Hold actor x) m a q i k h = refl
input_content o w n r st eq (Release actor x) m a q i k h = refl
input_content o w n r st eq (Freeze x) m a q i k h = refl
input_content o w n r st eq (Begin actor job) m a q i k h = refl
input_content o w n r st eq (Done actor e) m a q i k h =
    let mm = mapped w.session (λ s. record s { running = without_job s.running actor; frozen = frozen_left e s.frozen; edits_made = s.edits_made ++ e ∷ [] }) n m eq q in
    let b = beside_of o w n actor e r st eq a (subst (λ (s : Session). IsIn r s.running) (sym mm) i) in
    let c = calm_of o w n st eq in
    inputs_stay o w n b.0 r.1 e st.all eq b.1 (c (actor, b.0) b.2) (c r b.3) k h
input_content o w n r st eq (Short actor cause bytes) m a q i k h = refl
input_content o w n r st eq JournalFault m a q i k h = refl
input_content o w n r st eq (Stop x e) m a q i k h = absurd (never_some m q)

frozen_entries_same : (bs cs : Batches) (to last : ℕ) (f : Option ℕ) → IsSome f → ((k : ℕ) → f ≡ Some k → k ≤ last) → Agree bs cs last → frozen_entries cs to f ≡ frozen_entries bs to f
frozen_entries_same bs cs to last None s h g = refl
frozen_entries_same bs cs to last (Some k) s h g = ap (λ es. in_order es ∷ []) (sym (g to k (h k refl)))

frozen_content : (o : Column) (w : Standing) (n : Session) (r : Running) → Stands o w → FlushFrozen n → w.session ≡ Some n → IsIn r n.running
    → (e : Event) (m : Session) → AllowedIn o w n e → (step o w e).session ≡ Some m → IsIn r m.running → r.1.kind ≡ FlushJob
    → frozen_entries (step o w e).batches (step o w e).tree.shape.to m.frozen ≡ frozen_entries w.batches w.tree.shape.to n.frozen
frozen_content o w n r st ff eq j (Opened session log) m a q i k = absurd a
frozen_content o w n r st ff eq j (Commit actor first ops) m a q i k =
    let bs2 : Batches = w.batches ++ (first, ops) ∷ [] in
    let mm = mapped w.session (λ s. record s { committed = s.committed + length ops }) n m eq q in
    let y : InSession w.tree.shape.to (last_number w.batches) n = subst (SessionShows w.tree.shape.to (last_number w.batches)) eq st.all.shows.session in
    let z : (last_number w.batches ≤ w.tree.shape.session * 2 ^ 40 + n.committed) × (n.committed < 2 ^ 40) = subst (Within (last_number w.batches) w.tree.shape.session) eq st.all.placed.within in
    ap (λ (s : Session). frozen_entries bs2 w.tree.shape.to s.frozen) (sym mm)
    ∙ frozen_entries_same w.batches bs2 w.tree.shape.to (last_number w.batches) n.frozen (ff r j k) (λ d u. omega (arith, y.frozen d u, y.stable_last))
    (agree_push w.batches first ops (last_number w.batches) (omega (arith, z.0, a.3)))
frozen_content o w n r st ff eq j (Synced actor x) m a q i k = ap (λ (s : Session). frozen_entries w.batches w.tree.shape.to s.frozen) (sym (mapped w.session _ n m eq q))
frozen_content o w n r st ff eq j (Look actor x) m a q i k = ap (λ (s : Session). frozen_entries w.batches w.tree.shape.to s.frozen) (sym (same_session2 n m w.session eq q))
frozen_content o w n r st ff eq j (Hold actor x) m a q i k = ap (λ (s : Session). frozen_entries w.batches w.tree.shape.to s.frozen) (sym (mapped w.session _ n m eq q))
frozen_content o w n r st ff eq j (Release actor x) m a q i k = ap (λ (s : Session). frozen_entries w.batches w.tree.shape.to s.frozen) (sym (mapped w.session _ n m eq q))
frozen_content o w n r st ff eq j (Freeze x) m a q i k = absurd (none_is (subst IsSome a.1 (ff r j k)))
  where
    none_is : IsSome {T = ℕ} None → ⊥
    none_is z = absurd (false≢true z)
frozen_content o w n r st ff eq j (Begin actor job) m a q i k = ap (λ (s : Session). frozen_entries w.batches w.tree.shape.to s.frozen) (sym (mapped w.session _ n m eq q))
frozen_content o w n r st ff eq j (Done actor e) m a q i k =
    let mm = mapped w.session (λ s. record s { running = without_job s.running actor; frozen = frozen_left e s.frozen; edits_made = s.edits_made ++ e ∷ [] }) n m eq q in
    let b = beside_of o w n actor e r st eq a (subst (λ (s : Session). IsIn r s.running) (sym mm) i) in
    let c = calm_of o w n st eq in
    let same = no_flush o w n b.0 r.1 e b.1 (c (actor, b.0) b.2) (c r b.3) k in
    ap (λ (s : Session). frozen_entries w.batches (shape_after w.tree.shape e).to s.frozen) (sym mm) ∙ (λ d. frozen_entries w.batches (same.1 d) (same.0 n.frozen d))
frozen_content o w n r st ff eq j (Short actor cause bytes) m a q i k = ap (λ (s : Session). frozen_entries w.batches w.tree.shape.to s.frozen) (sym (mapped w.session _ n m eq q))
frozen_content o w n r st ff eq j JournalFault m a q i k = ap (λ (s : Session). frozen_entries w.batches w.tree.shape.to s.frozen) (sym (mapped w.session _ n m eq q))
frozen_content o w n r st ff eq j (Stop x e) m a q i k = absurd (never_some m q)

pub outcome_stands : (o : Column) (w : Standing) (n : Session) (r : Running) → 0 < o.last_level → Stands o w → FrozenHold w.session → w.session ≡ Some n → IsIn r n.running → OutcomeStands o w n r
outcome_stands o w n r d st fh eq i = record { own = made ∙ of_parts r.1.kind w n r.1; inputs = input_content o w n r st eq; stays = go }
  where
    ff : FlushFrozen n
    ff = subst FrozenHold eq fh

    made : outcome o w n r.1 ≡ made_at r.1.kind w n r.1
    made = own_made o w n r.1 st.all (calm_of o w n st eq r i) ((jobs_of o w n st eq).now.each r i)

    go : (e : Event) (m : Session) → AllowedIn o w n e → (step o w e).session ≡ Some m → IsIn r m.running → outcome o (step o w e) m r.1 ≡ outcome o w n r.1
    go e m a q k =
        let v : Standing = step o w e in
        let sv : Stands o v = stands_step o w e d st (subst (λ s. Allowed o w s e) (sym eq) a) in
        own_made o v m r.1 sv.all (calm_of o v m sv q r k) ((jobs_of o v m sv q).now.each r k)
        ∙ made_same w v n m r.1 r.1.kind (input_content o w n r st eq e m a q k) (λ f. frozen_content o w n r st ff eq i e m a q k f)
        ∙ sym made

-- ---- the law

frozen_run : (o : Column) (w : Standing) (es : List Event) → 0 < o.last_level → Stands o w → FrozenHold w.session → IsLegal o w es → FrozenHold (run o w es).session
frozen_run o w [] d st h l = h
frozen_run o w (e ∷ es) d st h l = frozen_run o (step o w e) es d (stands_step o w e d st l.0) (frozen_step o w e st h l.0) l.1

pub outcomes_stay : Always OutcomesStay
outcomes_stay p bs r h base_true legal n eq x i =
    let o = column p in
    outcome_stands o _ n x (deep p) (stands_always p bs r h base_true legal)
    (frozen_run o (base true o bs r) h (deep p) (stands_base o bs r base_true) tt legal) eq i
