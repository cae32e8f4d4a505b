-- Numbers within a session: of tables, of logs and of what is frozen.
use Rattle.std.proofs.Common.{◌≡◌, ℕ, max, length, ◌+◌, ◌-◌, ◌*◌, ◌^◌, ◌<◌, ◌≤◌, ◌≢◌, Bool, true, false, cond, ◌&&◌, ◌||◌, List, [], ◌∷◌, ◌++◌, map, ◌⊎◌, inl, inr, refl, sym, ◌∙◌, ap, subst, arith}
use Rattle.std.specs.Prelude.{nat_lt, nat_le, ◌==◌, filter, Option, Some, None, option_map, ⊤}
use Rattle.std.specs.List.{list_all}
use Rattle.std.proofs.lemmas.Bool.{and_parts, or_cases, eqb-true, ltb-true, leb-true, false≢true}
use Rattle.peb_base.specs.Batches.{last_number}
use Rattle.peb_base.specs.declared.table_row.TableRow.{TableRow}
use Rattle.peb_base.specs.Profiles.{Column}
use Rattle.flsm_model.specs.declared.edit.Edit.{Edit}
use Rattle.flsm_model.specs.declared.edit.Edit.TheVariants.{Open, Flush, Move, Cut, Merge}
use Rattle.flsm_model.specs.declared.job_kind.JobKind.{JobKind}
use Rattle.flsm_model.specs.declared.job_kind.JobKind.TheVariants.{Flush as FlushJob, Move as MoveJob, Cut as CutJob, Merge as MergeJob}
use Rattle.flsm_model.specs.declared.job.Job.{Job}
use Rattle.flsm_model.specs.Shape.{Shape, shape_after, has_number, outputs_of}
use Rattle.flsm_model.specs.Events.{Event, Opened, Commit, Synced, Look, Hold, Release, Freeze, Begin, Done, Short, JournalFault, Stop, Session, Standing, Running, last_of}
use Rattle.flsm_model.specs.Steps.{frozen_left, without_job, step}
use Rattle.flsm_model.specs.Jobs.{numbers_needed, IsLawful}
use Rattle.flsm_model.specs.Outcomes.{IsEditOf, IsOutcome}
use Rattle.flsm_model.specs.Legal.{Allowed, last_running}
use Rattle.peb_base.specs.Members.{IsIn}
use Rattle.flsm_model.proofs.contents.Places.{Within, within_map, same_session, not_open, last_push, last_some}
use Rattle.flsm_model.proofs.histories.Histories.{job_in, within}
use Rattle.flsm_model.proofs.contents.MapLaw.{last_grows}

-- ---- blocks of table numbers: each begins where the one before it ends

abbrev pub Blocks : ℕ → List Running → Type 0
Blocks top [] = ⊤
Blocks top (r ∷ rs) = (r.1.numbers + numbers_needed r.1 ≤ top) × Blocks r.1.numbers rs

blocks_up : (a b : ℕ) (rs : List Running) → a ≤ b → Blocks a rs → Blocks b rs
blocks_up a b [] l h = tt
blocks_up a b (r ∷ rs) l h = (omega (arith, h.0), h.1)

pub blocks_filter : (p : Running → Bool) (top : ℕ) (rs : List Running) → Blocks top rs → Blocks top (filter p rs)
blocks_filter p top [] h = tt
blocks_filter p top (r ∷ rs) h = by (p r) (blocks_filter p r.1.numbers rs h.1)
  where
    by : (b : Bool) → Blocks r.1.numbers (filter p rs) → Blocks top (cond b (r ∷ filter p rs) (filter p rs))
    by true x = (h.0, x)
    by false x = blocks_up r.1.numbers top (filter p rs) (omega (arith, h.0)) x

pub blocks_below : (top : ℕ) (rs : List Running) (r : Running) → Blocks top rs → IsIn r rs → r.1.numbers + numbers_needed r.1 ≤ top
blocks_below top [] r h i = absurd i
blocks_below top (q ∷ rs) r h i = elim i [
  | inl s ↦ subst (λ (z : Running). z.1.numbers + numbers_needed z.1 ≤ top) (sym s) h.0
  | inr m ↦ omega (arith, h.0, blocks_below q.1.numbers rs r h.1 m)
]

-- one's numbers end before the other's begin
abbrev pub NumbersApart : Job → Job → Type 0
NumbersApart j k = (j.numbers + numbers_needed j ≤ k.numbers) ⊎ (k.numbers + numbers_needed k ≤ j.numbers)

pub blocks_apart : (top : ℕ) (rs : List Running) (r s : Running) → Blocks top rs → IsIn r rs → IsIn s rs → r.0 ≢ s.0 → NumbersApart r.1 s.1
blocks_apart top [] r s h i k ne = absurd i
blocks_apart top (q ∷ rs) r s h i k ne = elim i [
  | inl a ↦ elim k [
    | inl b ↦ absurd (ne (ap (λ (x : Running). x.0) (a ∙ sym b)))
    | inr b ↦ inr (subst (λ (x : Running). s.1.numbers + numbers_needed s.1 ≤ x.1.numbers) (sym a) (blocks_below q.1.numbers rs s h.1 b))
  ]
  | inr a ↦ elim k [
    | inl b ↦ inl (subst (λ (x : Running). r.1.numbers + numbers_needed r.1 ≤ x.1.numbers) (sym b) (blocks_below q.1.numbers rs r h.1 a))
    | inr b ↦ blocks_apart q.1.numbers rs r s h.1 a b ne
  ]
]

abbrev pub FaultBlocks : ℕ → Option (List Running) → Type 0
FaultBlocks top None = ⊤
FaultBlocks top (Some rs) = Blocks top rs

-- ---- what an outcome changes of the numbers

pub data Turn (s : Shape) (n : Session) (e : Edit) : Type 0 where
  Stays : ((shape_after s e).to ≡ s.to) → ((shape_after s e).log ≡ s.log) → ((f : Option ℕ) → frozen_left e f ≡ f) → Turn s n e
  Flushes : (k : ℕ) → n.frozen ≡ Some k → ((shape_after s e).to ≡ k) → ((shape_after s e).log ≡ n.log + n.freezes) → ((f : Option ℕ) → frozen_left e f ≡ None) → Turn s n e

pub turn : (s : Shape) (n : Session) (j : Job) (e : Edit) → IsEditOf j.kind n j e → Turn s n e
turn s n j e same = by j.kind e same
  where
    by : (a : JobKind) (e : Edit) → IsEditOf a n j e → Turn s n e
    by FlushJob (Flush row from to log chosen) q = Flushes to q.0 refl q.1 (λ f. refl)
    by FlushJob (Open session log) q = absurd q
    by FlushJob (Move level fl inputs outputs) q = absurd q
    by FlushJob (Cut level keys inputs outputs) q = absurd q
    by FlushJob (Merge fl whole inputs outputs) q = absurd q
    by MoveJob (Move level fl inputs outputs) q = Stays refl refl (λ f. refl)
    by MoveJob (Open session log) q = absurd q
    by MoveJob (Flush row from to log chosen) q = absurd q
    by MoveJob (Cut level keys inputs outputs) q = absurd q
    by MoveJob (Merge fl whole inputs outputs) q = absurd q
    by CutJob (Cut level keys inputs outputs) q = Stays refl refl (λ f. refl)
    by CutJob (Open session log) q = absurd q
    by CutJob (Flush row from to log chosen) q = absurd q
    by CutJob (Move level fl inputs outputs) q = absurd q
    by CutJob (Merge fl whole inputs outputs) q = absurd q
    by MergeJob (Merge fl whole inputs outputs) q = Stays refl refl (λ f. refl)
    by MergeJob (Open session log) q = absurd q
    by MergeJob (Flush row from to log chosen) q = absurd q
    by MergeJob (Move level fl inputs outputs) q = absurd q
    by MergeJob (Cut level keys inputs outputs) q = absurd q

pub used_after : (s : Shape) (e : Edit) → ((a b : ℕ) → e ≢ Open a b) → (shape_after s e).used ≡ s.used ++ map (λ (r : TableRow). r.number) (outputs_of e)
used_after s (Open a b) h = absurd (h a b refl)
used_after s (Flush row from to log chosen) h = refl
used_after s (Move level floor inputs outputs) h = refl
used_after s (Cut level keys inputs outputs) h = refl
used_after s (Merge floor whole inputs outputs) h = refl

pub has_parts : (n : ℕ) (ns ms : List ℕ) → has_number n (ns ++ ms) ≡ true → (has_number n ns ≡ true) ⊎ (has_number n ms ≡ true)
has_parts n [] ms h = inr h
has_parts n (a ∷ ns) ms h = elim (or_cases (n == a) (has_number n (ns ++ ms)) h) [
  | inl s ↦ inl (yes (n == a) s)
  | inr r ↦ elim (has_parts n ns ms r) [ inl x ↦ inl (more (n == a) x) | inr y ↦ inr y ]
]
  where
    yes : (b : Bool) → b ≡ true → (b || has_number n ns) ≡ true
    yes true e = refl
    yes false e = absurd (false≢true e)

    more : (b : Bool) → has_number n ns ≡ true → (b || has_number n ns) ≡ true
    more true e = refl
    more false e = e

pub row_number : (n : ℕ) (rs : List TableRow) → has_number n (map (λ (r : TableRow). r.number) rs) ≡ true → (r : TableRow) × IsIn r rs × (n ≡ r.number)
row_number n [] h = absurd (false≢true h)
row_number n (r ∷ rs) h = elim (or_cases (n == r.number) (has_number n (map (λ (r : TableRow). r.number) rs)) h) [
  | inl s ↦ (r, inl refl, eqb-true n r.number s)
  | inr m ↦ let x = row_number n rs m in (x.0, inr x.1, x.2)
]

pub each_row : (p : TableRow → Bool) (r : TableRow) (rs : List TableRow) → list_all p rs ≡ true → IsIn r rs → p r ≡ true
each_row p r [] h i = absurd i
each_row p r (q ∷ rs) h i =
    let a = and_parts (p q) (list_all p rs) h in
    elim i [ inl s ↦ ap p s ∙ a.0 | inr m ↦ each_row p r rs a.1 m ]

-- the numbers that an outcome takes are of its job's block
pub block_of : (j : Job) (rows : List TableRow) (m : ℕ) → list_all (λ r. nat_le j.numbers r.number && nat_lt r.number (j.numbers + numbers_needed j)) rows ≡ true
    → has_number m (map (λ (r : TableRow). r.number) rows) ≡ true → (j.numbers ≤ m) × (m < j.numbers + numbers_needed j)
block_of j rows m h i =
    let x = row_number m rows i in
    let p = and_parts _ _ (each_row (λ r. nat_le j.numbers r.number && nat_lt r.number (j.numbers + numbers_needed j)) x.0 rows h x.1) in
    (omega (arith, x.2, leb-true j.numbers x.0.number p.0), omega (arith, x.2, ltb-true x.0.number (j.numbers + numbers_needed j) p.1))

-- ---- a whole session

-- the first number that no job of the session has reserved
abbrev pub top_of : ℕ → Session → ℕ
top_of session n = session * 2 ^ 40 + 1 + n.reserved

-- the marks of a session: its first log, how many operations and freezes, where the memtable begins, what is stable and what is frozen
pub record Marks : Type 0 where
  pub log : ℕ
  pub committed : ℕ
  pub freezes : ℕ
  pub mem_from : ℕ
  pub stable : ℕ
  pub frozen : Option ℕ

abbrev pub marks_of : Session → Marks
marks_of n = record { log = n.log; committed = n.committed; freezes = n.freezes; mem_from = n.mem_from; stable = n.stable; frozen = n.frozen }

-- what is frozen is above the last flush, and its log is above the last flush's
pub record IsFrozen (s : Shape) (n : Marks) (k : ℕ) : Type 0 where
  pub at : k ≡ n.mem_from
  pub above : s.to < k
  pub log : s.log < n.log + n.freezes
  pub some : 1 ≤ n.freezes
  pub kept : k ≤ n.stable

-- the marks are in order
pub record InMarks (s : Shape) (last : ℕ) (n : Marks) : Type 0 where
  pub log_least : 1 ≤ n.log
  pub log_room : n.log ≤ (s.session - 1) * 2 ^ 41 + 1
  pub logs : s.log ≤ n.log + n.freezes
  pub mem : s.to ≤ n.mem_from
  pub mem_last : n.mem_from ≤ last
  pub stable : s.to ≤ n.stable
  pub stable_last : n.stable ≤ last
  pub few : n.freezes ≤ n.committed + 1
  pub fewer : n.mem_from < last → n.freezes ≤ n.committed
  pub frozen : (k : ℕ) → n.frozen ≡ Some k → IsFrozen s n k

-- the table numbers of a session: those in use lie below the next one, and each job has a block of its own
pub record InNumbers (s : Shape) (last : ℕ) (n : Session) : Type 0 where
  pub positive : 1 ≤ s.session
  pub used : (m : ℕ) → has_number m s.used ≡ true → m < top_of s.session n
  pub room : n.reserved < 2 ^ 40
  pub blocks : Blocks (top_of s.session n) n.running
  pub faults : FaultBlocks (top_of s.session n) n.faulted
  pub marks : InMarks s last (marks_of n)

abbrev pub NumbersHold : Shape → ℕ → Option Session → Type 0
NumbersHold s last None = ⊤
NumbersHold s last (Some n) = InNumbers s last n

numbers_map : (s : Shape) (last : ℕ) (s2 : Shape) (last2 : ℕ) (x : Option Session) (f : Session → Session) → ((n : Session) → x ≡ Some n → InNumbers s last n → InNumbers s2 last2 (f n))
    → NumbersHold s last x → NumbersHold s2 last2 (option_map f x)
numbers_map s last s2 last2 None f g h = tt
numbers_map s last s2 last2 (Some n) f g h = g n refl h

faults_up : (a b : ℕ) (f : Option (List Running)) → a ≤ b → FaultBlocks a f → FaultBlocks b f
faults_up a b None l h = tt
faults_up a b (Some rs) l h = blocks_up a b rs l h

abbrev pub Numbers : Standing → Type 0
Numbers w = NumbersHold w.tree.shape (last_of w) w.session

-- a turn of which the numbers see nothing
same_numbers : (w : Standing) (f : Session → Session)
    → ((n : Session) → InNumbers w.tree.shape (last_of w) n → InNumbers w.tree.shape (last_of w) (f n))
    → Numbers w → NumbersHold w.tree.shape (last_of w) (option_map f w.session)
same_numbers w f g h = numbers_map _ _ _ _ w.session f (λ n e x. g n x) h

pub numbers_step : (o : Column) (w : Standing) (e : Event) → Numbers w → Allowed o w w.session e → Numbers (step o w e)
numbers_step o w (Opened session log) h a = by w.session a
  where
    by : (s : Option Session) → Allowed o w s (Opened session log) → Numbers (step o w (Opened session log))
    by (Some n) x = absurd x
    by None x =
        let p3 = and_parts _ _ x.0 in
        let p2 = and_parts _ _ p3.0 in
        let p1 = and_parts _ _ p2.0 in
        record {
          positive = omega (arith, x.1);
          used = λ m i. absurd (false≢true i);
          room = omega arith;
          blocks = tt;
          faults = tt;
          marks = record {
            log_least = leb-true 1 log p2.1;
            log_room = leb-true log ((session - 1) * 2 ^ 41 + 1) p3.1;
            logs = omega (arith, leb-true w.tree.shape.log log p1.1);
            mem = omega arith;
            mem_last = omega arith;
            stable = omega arith;
            stable_last = omega arith;
            few = omega arith;
            fewer = λ l. omega arith;
            frozen = λ k q. absurd (none_some k q);
          };
        }
      where
        none_some : (k : ℕ) → None ≡ Some k → ⊥
        none_some k q = cc
numbers_step o w (Commit actor first ops) h a =
    let grows : last_of w ≤ last_of (step o w (Commit actor first ops)) = omega (arith, last_grows w.batches ((first, ops) ∷ [])) in
    numbers_map w.tree.shape (last_of w) w.tree.shape (last_of (step o w (Commit actor first ops))) w.session _ (λ n e x.
    let y = within o w (Commit actor first ops) n e a in
    let m = x.marks in
    record {
      positive = x.positive;
      used = x.used;
      room = x.room;
      blocks = x.blocks;
      faults = x.faults;
      marks = record {
        log_least = m.log_least;
        log_room = m.log_room;
        logs = m.logs;
        mem = m.mem;
        mem_last = omega (arith, m.mem_last, grows);
        stable = m.stable;
        stable_last = omega (arith, m.stable_last, grows);
        few = omega (arith, m.few);
        fewer = λ l. omega (arith, m.few, y.1);
        frozen = λ k q. let z = m.frozen k q in record { at = z.at; above = z.above; log = z.log; some = z.some; kept = z.kept };
      };
    }) h
numbers_step o w (Synced actor k) h a =
    numbers_map _ _ _ _ w.session _ (λ n e x.
    let y = within o w (Synced actor k) n e a in
    let m = x.marks in
    record {
      positive = x.positive;
      used = x.used;
      room = x.room;
      blocks = x.blocks;
      faults = x.faults;
      marks = record {
        log_least = m.log_least;
        log_room = m.log_room;
        logs = m.logs;
        mem = m.mem;
        mem_last = m.mem_last;
        stable = omega (arith, m.stable);
        stable_last = omega (arith, m.stable_last, y.1);
        few = m.few;
        fewer = m.fewer;
        frozen = λ k q. let z = m.frozen k q in record { at = z.at; above = z.above; log = z.log; some = z.some; kept = omega (arith, z.kept) };
      };
    }) h
numbers_step o w (Look actor m) h a = h
numbers_step o w (Hold actor m) h a = same_numbers w _ (λ n x. record { positive = x.positive; used = x.used; room = x.room; blocks = x.blocks; faults = x.faults; marks = x.marks }) h
numbers_step o w (Release actor m) h a = same_numbers w _ (λ n x. record { positive = x.positive; used = x.used; room = x.room; blocks = x.blocks; faults = x.faults; marks = x.marks }) h
numbers_step o w (Freeze m) h a =
    numbers_map _ _ _ _ w.session _ (λ n e x.
    let y = within o w (Freeze m) n e a in
    let z = x.marks in
    record {
      positive = x.positive;
      used = x.used;
      room = x.room;
      blocks = x.blocks;
      faults = x.faults;
      marks = record {
        log_least = z.log_least;
        log_room = z.log_room;
        logs = omega (arith, z.logs);
        mem = omega (arith, z.mem, y.2, y.3);
        mem_last = omega (arith, y.3);
        stable = omega (arith, z.stable);
        stable_last = omega (arith, z.stable_last, y.3);
        few = omega (arith, z.fewer y.2);
        fewer = λ l. absurd (omega (arith, y.3));
        frozen = λ k q. record { at = sym (some_same m k q); above = omega (arith, some_same m k q, z.mem, y.2, y.3); log = omega (arith, z.logs); some = omega arith; kept = omega (arith, some_same m k q) };
      };
    }) h
  where
    some_same : (k q : ℕ) → Some k ≡ Some q → k ≡ q
    some_same k q r = cc
numbers_step o w (Begin actor job) h a =
    numbers_map _ _ _ _ w.session _ (λ n e x.
    let y = within o w (Begin actor job) n e a in
    let l : IsLawful o w n job = y.2 in
    record {
      positive = x.positive;
      used = λ m i. omega (arith, x.used m i);
      room = l.room;
      blocks = (omega (arith, l.numbers), blocks_up (top_of w.tree.shape.session n) job.numbers n.running (omega (arith, l.numbers)) x.blocks);
      faults = faults_up _ _ n.faulted (omega arith) x.faults;
      marks = x.marks;
    }) h
numbers_step o w (Done actor e) h a =
    numbers_map w.tree.shape (last_of w) (shape_after w.tree.shape e) (last_of (step o w (Done actor e))) w.session _ (λ n q x.
    let y = within o w (Done actor e) n q a in
    let out = job_in n.running actor (λ k. IsOutcome o w n k e) y.1 in
    let session : (shape_after w.tree.shape e).session ≡ w.tree.shape.session = same_session w.tree.shape e (not_open o w n out.0 e out.2) in
    let used : (m : ℕ) → has_number m (shape_after w.tree.shape e).used ≡ true → m < top_of w.tree.shape.session n =
    λ m i. elim (has_parts m w.tree.shape.used _ (subst (λ ns. has_number m ns ≡ true) (used_after w.tree.shape e (not_open o w n out.0 e out.2)) i)) [
      | inl b ↦ x.used m b
      | inr b ↦ omega (arith, (block_of out.0 (outputs_of e) m out.2.formed.numbers b).1, blocks_below _ n.running (actor, out.0) x.blocks out.1)
    ] in
    record {
      positive = rw session x.positive;
      used = rw session used;
      room = x.room;
      blocks = rw session (blocks_filter _ _ n.running x.blocks);
      faults = rw session x.faults;
      marks = done n x.marks session (turn w.tree.shape n out.0 e out.2.formed.same);
    }) h
  where
    done : (n : Session) → InMarks w.tree.shape (last_of w) (marks_of n) → (shape_after w.tree.shape e).session ≡ w.tree.shape.session → Turn w.tree.shape n e
        → InMarks (shape_after w.tree.shape e) (last_of (step o w (Done actor e))) (marks_of (record n { running = without_job n.running actor; frozen = frozen_left e n.frozen; edits_made = n.edits_made ++ e ∷ [] }))
    done n x session (Stays to log same) =
        record {
          log_least = x.log_least;
          log_room = rw session x.log_room;
          logs = omega (arith, log, x.logs);
          mem = omega (arith, to, x.mem);
          mem_last = omega (arith, to, x.mem_last);
          stable = omega (arith, to, x.stable);
          stable_last = omega (arith, to, x.stable_last);
          few = x.few;
          fewer = λ l. x.fewer (omega (arith, to, l));
          frozen = λ k q. let z = x.frozen k (sym (same n.frozen) ∙ q) in record { at = z.at; above = omega (arith, to, z.above); log = omega (arith, log, z.log); some = z.some; kept = z.kept };
        }
    done n x session (Flushes k fz to log same) =
        let z = x.frozen k fz in
        record {
          log_least = x.log_least;
          log_room = rw session x.log_room;
          logs = omega (arith, log);
          mem = omega (arith, to, z.at);
          mem_last = omega (arith, to, z.at, x.mem_last);
          stable = omega (arith, to, z.kept);
          stable_last = omega (arith, to, z.at, z.above, x.mem_last, x.stable_last);
          few = x.few;
          fewer = λ l. x.fewer (omega (arith, to, z.at, z.above, x.mem_last, l));
          frozen = λ m q. absurd (none_some m (sym (same n.frozen) ∙ q));
        }
      where
        none_some : (k : ℕ) → None ≡ Some k → ⊥
        none_some k q = cc
numbers_step o w (Short actor cause bytes) h a =
    same_numbers w _ (λ n x. record { positive = x.positive; used = x.used; room = x.room; blocks = blocks_filter _ _ n.running x.blocks; faults = x.faults; marks = x.marks }) h
numbers_step o w JournalFault h a = same_numbers w _ (λ n x. record { positive = x.positive; used = x.used; room = x.room; blocks = x.blocks; faults = x.blocks; marks = x.marks }) h
numbers_step o w (Stop m e) h a = tt

-- ---- numbers of entries

-- what an outcome makes of the last number
last_stays : (w : Standing) (n : Session) (e : Edit) → InMarks w.tree.shape (last_of w) (marks_of n) → Turn w.tree.shape n e → max (last_number w.batches) (shape_after w.tree.shape e).to ≡ last_of w
last_stays w n e x (Stays to log same) = omega (arith, to)
last_stays w n e x (Flushes k fz to log same) = let z = x.frozen k fz in omega (arith, to, z.at, z.above, x.mem_last)

-- the last number lies within the session
abbrev pub Spans : Standing → Type 0
Spans w = Within (last_of w) w.tree.shape.session w.session

-- numbers stay within the sessions that were opened
pub spans_step : (o : Column) (w : Standing) (e : Event) → Numbers w → Spans w → Allowed o w w.session e → Spans (step o w e)
spans_step o w (Opened session log) nu h a = by w.session a h
  where
    by : (s : Option Session) → Allowed o w s (Opened session log) → Within (last_of w) w.tree.shape.session s → Spans (step o w (Opened session log))
    by None x y = (omega (arith, x.1, y), omega arith)
    by (Some n) x y = absurd x
spans_step o w (Commit actor first ops) nu h a = by w.session refl a h
  where
    by : (s : Option Session) → w.session ≡ s → Allowed o w s (Commit actor first ops) → Within (last_of w) w.tree.shape.session s → Spans (step o w (Commit actor first ops))
    by None eq x y = absurd x
    by (Some n) eq x y =
        let last : last_number (w.batches ++ (first, ops) ∷ []) ≤ w.tree.shape.session * 2 ^ 40 + (n.committed + length ops) =
        last_push w.batches first ops _ (omega (arith, y.0)) (omega (arith, x.3)) in
        rw eq (omega (arith, last, y.0), x.4)
spans_step o w (Synced actor m) nu h a = within_map _ _ w.session _ (λ n. refl) h
spans_step o w (Look actor m) nu h a = h
spans_step o w (Hold actor m) nu h a = within_map _ _ w.session _ (λ n. refl) h
spans_step o w (Release actor m) nu h a = within_map _ _ w.session _ (λ n. refl) h
spans_step o w (Freeze m) nu h a = within_map _ _ w.session _ (λ n. refl) h
spans_step o w (Begin actor job) nu h a = within_map _ _ w.session _ (λ n. refl) h
spans_step o w (Done actor e) nu h a = by w.session refl a h nu
  where
    by : (s : Option Session) → w.session ≡ s → Allowed o w s (Done actor e) → Within (last_of w) w.tree.shape.session s → NumbersHold w.tree.shape (last_of w) s → Spans (step o w (Done actor e))
    by None eq x y z = absurd x
    by (Some n) eq x y z =
        let out = job_in n.running actor (λ k. IsOutcome o w n k e) x.1 in
        let same = same_session w.tree.shape e (not_open o w n out.0 e out.2) in
        let last = last_stays w n e z.marks (turn w.tree.shape n out.0 e out.2.formed.same) in
        rw (eq, same) (omega (arith, last, y.0), y.1)
spans_step o w (Short actor cause bytes) nu h a = within_map _ _ w.session _ (λ n. refl) h
spans_step o w JournalFault nu h a = within_map _ _ w.session _ (λ n. refl) h
spans_step o w (Stop m None) nu h a = by w.session a h
  where
    by : (s : Option Session) → Allowed o w s (Stop m None) → Within (last_of w) w.tree.shape.session s → Spans (step o w (Stop m None))
    by None x y = absurd x
    by (Some n) x y = omega (arith, last_some m w.batches, y.0, y.1)
spans_step o w (Stop m (Some e)) nu h a = by w.session a h nu
  where
    by : (s : Option Session) → Allowed o w s (Stop m (Some e)) → Within (last_of w) w.tree.shape.session s → NumbersHold w.tree.shape (last_of w) s → Spans (step o w (Stop m (Some e)))
    by None x y z = absurd x
    by (Some n) x y z =
        let out = job_in (last_running n) x.2.0 (λ k. IsOutcome o w n k e) x.2.1 in
        let same = same_session w.tree.shape e (not_open o w n out.0 e out.2) in
        let last = last_stays w n e z.marks (turn w.tree.shape n out.0 e out.2.formed.same) in
        rw same (omega (arith, last_some m w.batches, last, y.0, y.1))
