-- A job that begins is undisturbed.
use Rattle.std.proofs.Common.{◌≡◌, ℕ, suc, ◌≢◌, Bool, true, false, ◌&&◌, ◌||◌, not, List, [], ◌∷◌, inl, inr, refl, sym, ◌∙◌, subst, arith}
use Rattle.std.specs.Prelude.{◌==◌, Option, Some}
use Rattle.std.specs.List.{list_any, list_all}
use Rattle.std.proofs.lemmas.Bool.{and_parts, and_from, or_cases, cases_Bool, eqb-true, eq-eqb, lt-ltb, true≢false, false≢true, not-true}
use Rattle.peb_base.specs.Keys.{Bytes}
use Rattle.flsm_model.specs.Ranges.{in_range, range_of, first_of}
use Rattle.peb_base.specs.Numbers.{session_of, count_of}
use Rattle.flsm_model.specs.Compaction.{straddles}
use Rattle.peb_base.specs.declared.table_row.TableRow.{TableRow}
use Rattle.peb_base.specs.Profiles.{Column}
use Rattle.flsm_model.specs.declared.job_kind.JobKind.{JobKind}
use Rattle.flsm_model.specs.declared.job_kind.JobKind.TheVariants.{Flush as FlushJob, Move as MoveJob, Cut as CutJob, Merge as MergeJob}
use Rattle.flsm_model.specs.declared.job.Job.{Job}
use Rattle.flsm_model.specs.Shape.{Shape, has_number, guards_at, rows_numbered, rows_without}
use Rattle.flsm_model.specs.Fits.{lies_in, is_some_list, is_candidate, is_guard, is_straddled}
use Rattle.flsm_model.specs.Events.{Session, Standing, last_of}
use Rattle.flsm_model.specs.Jobs.{IsOfKind, are_tables, job_range, IsLawful}
use Rattle.peb_base.specs.Members.{IsIn}
use Rattle.flsm_model.specs.Undisturbed.{NumbersFree, KeepsFlush, KeepsCut, KeepsKind, Undisturbed}
use Rattle.flsm_model.proofs.guards.Facts.{move_facts, cut_facts, merge_facts}
use Rattle.flsm_model.proofs.guards.Guards.{same_range}
use Rattle.flsm_model.proofs.guards.InGuards.{InGuards}
use Rattle.flsm_model.proofs.histories.Sessions.{Numbers, NumbersHold, InNumbers}
use Rattle.flsm_model.proofs.lists.Lists.{in_filter, all_in, all_of}

-- a key of a Cut in flight
pub record CutKey (o : Column) (s : Shape) (j : Job) (a : Bytes) : Type 0 where
  pub candidate : is_candidate s.chosen j.level a ≡ true
  pub inside : in_range j.lo j.hi a ≡ true
  pub fresh : is_guard s j.level a ≡ false
  pub next : (j.level == o.last_level || is_guard s (suc j.level) a) ≡ true

pub cut_key : (o : Column) (s : Shape) (j : Job) (a : Bytes) → KeepsCut o s j → IsIn a j.keys → CutKey o s j a
cut_key o s j a f i =
    let p3 = and_parts _ _ (all_in (λ x. is_candidate s.chosen j.level x && in_range j.lo j.hi x && not (is_guard s j.level x) && (j.level == o.last_level || is_guard s (suc j.level) x)) a j.keys f.keys i) in
    let p2 = and_parts _ _ p3.0 in
    let p1 = and_parts _ _ p2.0 in
    record { candidate = p1.0; inside = p1.1; fresh = not-true _ p2.1; next = p3.1 }

pub straddled_parts : (level : ℕ) (range : Bytes × Option Bytes) (keys : List Bytes) (r : TableRow) → is_straddled level range keys r ≡ true
    → (r.level ≡ level) × (lies_in range r ≡ true) × (list_any (straddles r) keys ≡ true)
straddled_parts level range keys r h =
    let p2 = and_parts _ _ h in
    let p1 = and_parts _ _ p2.0 in
    (eqb-true r.level level p1.0, p1.1, p2.1)

pub not_empty : (o : Column) (s : Shape) (j : Job) (m : ℕ) → Undisturbed o s j → has_number m j.inputs ≡ true → j.kind ≢ FlushJob
not_empty o s j m u h e =
    let k : KeepsFlush j = subst (λ a. KeepsKind a o s j) e u.kind in
    false≢true (subst (λ ns. has_number m ns ≡ true) k.inputs h)

pub none_numbered : (rs : List TableRow) → rows_numbered [] rs ≡ []
none_numbered [] = refl
none_numbered (r ∷ rs) = none_numbered rs

pub placed_from : (s : Shape) (level : ℕ) (range : Bytes × Option Bytes) (ns : List ℕ) → list_all (λ r. r.level == level) (rows_numbered ns s.live) ≡ true → are_tables s range ns ≡ true
    → list_all (λ r. r.level == level && lies_in range r) (rows_numbered ns s.live) ≡ true
placed_from s level range ns at inside =
    all_of _ (rows_numbered ns s.live) (λ r i.
    let p = in_filter (λ (x : TableRow). has_number x.number ns) r s.live i in
    and_from _ _ (all_in (λ (x : TableRow). x.level == level) r (rows_numbered ns s.live) at i)
    (elim (or_cases _ _ (all_in (λ (x : TableRow). not (has_number x.number ns) || lies_in range x) r s.live inside p.0)) [
      | inl f ↦ absurd (true≢false (sym p.1 ∙ not-true _ f))
      | inr y ↦ y
    ]))

pub first_in : (p : Bytes → Bool) (ks : List Bytes) → is_some_list ks ≡ true → list_all p ks ≡ true → p (first_of ks) ≡ true
first_in p [] a h = absurd (false≢true a)
first_in p (k ∷ ks) a h = (and_parts _ _ h).0

pub begin_numbers : (o : Column) (w : Standing) (n : Session) (j : Job) → Numbers w → w.session ≡ Some n → IsLawful o w n j → NumbersFree w.tree.shape j
begin_numbers o w n j nu eq l = by (subst (NumbersHold w.tree.shape (last_of w)) eq nu)
  where
    by : InNumbers w.tree.shape (last_of w) n → NumbersFree w.tree.shape j
    by x = record {
      own = λ m a b. and_from _ _ (eq-eqb (session_of m) w.tree.shape.session (omega (arith, a, b, l.numbers, l.room))) (lt-ltb 0 (count_of m) (omega (arith, a, b, l.numbers, l.room)));
      unused = λ m a b. elim (cases_Bool (has_number m w.tree.shape.used)) [ inl there ↦ absurd (omega (arith, x.used m there, a, l.numbers)) | inr absent ↦ absent ];
    }

pub undisturbed_starts : (o : Column) (w : Standing) (n : Session) (j : Job) → InGuards o w.tree.shape → Numbers w → w.session ≡ Some n → IsLawful o w n j → Undisturbed o w.tree.shape j
undisturbed_starts o w n j guards nu eq l = by j.kind refl l.kind
  where
    s : Shape
    s = w.tree.shape

    free : NumbersFree w.tree.shape j
    free = begin_numbers o w n j nu eq l

    by : (a : JobKind) → j.kind ≡ a → IsOfKind a o w.tree.shape n j → Undisturbed o w.tree.shape j
    by FlushJob e k =
        record {
          range = rw (k.level, k.range.0, k.range.1) refl;
          ascend = rw k.nothing.0 refl;
          live = rw k.nothing.0 refl;
          placed = subst (λ ns. list_all (λ r. r.level == j.level && lies_in (job_range j) r) (rows_numbered ns w.tree.shape.live) ≡ true) (sym k.nothing.0) (rw (none_numbered w.tree.shape.live) refl);
          numbers = free;
          kind = subst (λ a. KeepsKind a o w.tree.shape j) (sym e) (record { level = k.level; inputs = k.nothing.0; whole = k.range });
        }
    by MoveJob e k =
        let f = move_facts o w.tree.shape j.level j.floor j.inputs [] k.fit in
        record {
          range = k.range;
          ascend = f.ascend;
          live = f.live;
          placed = placed_from w.tree.shape j.level (job_range j) j.inputs f.at k.inside;
          numbers = free;
          kind = subst (λ a. KeepsKind a o w.tree.shape j) (sym e) (record { above = f.above; some = f.some; keys = k.keys });
        }
    by CutJob e k =
        let f = cut_facts o w.tree.shape j.level j.keys j.inputs [] k.fit in
        let first : in_range j.lo j.hi (first_of j.keys) ≡ true = first_in (in_range j.lo j.hi) j.keys f.some k.keys in
        let same : range_of (guards_at w.tree.shape j.level) (first_of j.keys) ≡ (j.lo, j.hi) =
        same_range [] (guards_at w.tree.shape j.level) j.lo (first_of j.keys) (guards.ascend j.level) (subst (λ r. in_range r.0 r.1 (first_of j.keys) ≡ true) (sym k.range) first) ∙ k.range in
        let str : list_all (is_straddled j.level (j.lo, j.hi) j.keys) (rows_numbered j.inputs w.tree.shape.live) ≡ true =
        subst (λ r. list_all (is_straddled j.level r j.keys) (rows_numbered j.inputs w.tree.shape.live) ≡ true) same f.straddled in
        let at : list_all (λ r. r.level == j.level) (rows_numbered j.inputs w.tree.shape.live) ≡ true =
        all_of _ (rows_numbered j.inputs w.tree.shape.live) (λ r i. (and_parts _ _ (and_parts _ _ (all_in (is_straddled j.level (j.lo, j.hi) j.keys) r _ str i)).0).0) in
        record {
          range = k.range;
          ascend = f.ascend;
          live = f.live;
          placed = placed_from w.tree.shape j.level (job_range j) j.inputs at k.inside;
          numbers = free;
          kind = subst (λ a. KeepsKind a o w.tree.shape j) (sym e) (record {
            from = f.from;
            upto = f.upto;
            ascend = f.keys_ascend;
            some = f.some;
            keys = subst (λ r. list_all (λ x. is_candidate w.tree.shape.chosen j.level x && in_range r.0 r.1 x && not (is_guard w.tree.shape j.level x) && (j.level == o.last_level || is_guard w.tree.shape (suc j.level) x)) j.keys ≡ true) same f.candidates;
            straddled = all_of _ (rows_numbered j.inputs w.tree.shape.live) (λ r i. (and_parts _ _ (all_in (is_straddled j.level (j.lo, j.hi) j.keys) r _ str i)).1);
            others = subst (λ r. list_all (λ x. not (is_straddled j.level r j.keys x)) (rows_without j.inputs w.tree.shape.live) ≡ true) same f.others;
          });
        }
    by MergeJob e k =
        let f = merge_facts o w.tree.shape j.floor j.whole j.inputs [] k.fit in
        record {
          range = k.range;
          ascend = f.ascend;
          live = f.live;
          placed = placed_from w.tree.shape j.level (job_range j) j.inputs (subst (λ l. list_all (λ r. r.level == l) (rows_numbered j.inputs w.tree.shape.live) ≡ true) (sym k.level) f.at) k.inside;
          numbers = free;
          kind = subst (λ a. KeepsKind a o w.tree.shape j) (sym e) (record { level = k.level; some = f.some });
        }
