-- The laws of the jobs in flight, over any device.
use Rattle.std.proofs.Common.{◌≡◌, ◌≤◌, ◌<◌, Bool, true, List, [], ◌∷◌, ◌++◌, refl, sym, ◌∙◌, ap, subst, arith}
use Rattle.std.specs.Prelude.{Option, Some, None}
use Rattle.std.proofs.lemmas.Bool.{and_parts}
use Rattle.peb_base.specs.Batches.{Batches, last_number}
use Rattle.peb_base.specs.Numbers.{session_of}
use Rattle.peb_base.specs.Profiles.{column, Column}
use Rattle.peb_base.specs.declared.profile.Profile.{Profile}
use Rattle.flsm_model.specs.declared.edit.Edit.{Edit}
use Rattle.flsm_model.specs.declared.edit.Edit.TheVariants.{Open}
use Rattle.flsm_model.specs.declared.job.Job.{Job}
use Rattle.flsm_model.specs.Shape.{Record, Shape, empty_shape, shape_after, shape_from, shape_of}
use Rattle.flsm_model.specs.Fits.{fits, fit_from, is_legal_record}
use Rattle.flsm_model.specs.Trees.{Tree, empty_tree}
use Rattle.flsm_model.specs.Events.{Event, Opened, Commit, Synced, Look, Hold, Release, Freeze, Begin, Done, Short, JournalFault, Stop, Session, Standing, base, last_of}
use Rattle.flsm_model.specs.Outcomes.{IsOutcome}
use Rattle.flsm_model.specs.Legal.{Allowed, IsLegal, IsBase, last_running, AlwaysFormed}
use Rattle.flsm_model.specs.Placing.{PlaceInGuards}
use Rattle.flsm_model.specs.Steps.{step, run}
use Rattle.flsm_model.specs.Stops.{RecordIsLegal}
use Rattle.flsm_model.specs.Fronts.{EmptyIsTrue, FrontsAreLegal, HistoriesJoin, MarksInOrder}
use Rattle.flsm_model.specs.TrueRecord.{IsTrueRecord}
use Rattle.flsm_model.specs.Undisturbed.{Undisturbed, JobsStand, JobsUndisturbed}
use Rattle.flsm_model.proofs.histories.Histories.{apart_pair, job_in, known_step}
use Rattle.flsm_model.proofs.contents.Begin.{Known}
use Rattle.flsm_model.proofs.guards.InGuards.{InGuards, InGuard, in_guards_step}
use Rattle.flsm_model.proofs.contents.Base.{deep, kept_empty}
use Rattle.flsm_model.proofs.lists.Lists.{each_in}
use Rattle.flsm_model.proofs.contents.Places.{shape_same}
use Rattle.flsm_model.proofs.contents.Structure.{fit_push}
use Rattle.flsm_model.proofs.histories.Truth.{All, all_base, all_step}
use Rattle.flsm_model.proofs.histories.Sessions.{Numbers, NumbersHold, InNumbers, Spans, numbers_step, spans_step}
use Rattle.flsm_model.proofs.guards.BoundLaw.{bound_from, empty_bounded}
use Rattle.flsm_model.proofs.histories.Jobs.{EachJob, FaultJobs, InEach, JobsApart, FaultApart, apart_step, each_step}
use Rattle.flsm_model.proofs.contents.Orders.{AllApart}
use Rattle.flsm_model.proofs.histories.Undisturb.{undisturbed_stays}
use Rattle.flsm_model.proofs.histories.Starts.{undisturbed_starts}

abbrev pub Calm : Column → Tree → Job → Type 0
Calm o t j = Undisturbed o t.shape j

-- ---- the record and its shape

-- what the shape of a legal record is
pub record ShapeStands (o : Column) (r : Record) (s : Shape) : Type 0 where
  pub legal : is_legal_record o r ≡ true
  pub shape : s ≡ shape_of o r
  pub guards : InGuards o s
  pub known : Known s

pub shape_push : (s : Shape) (r : Record) (e : Edit) → shape_from s (r ++ e ∷ []) ≡ shape_after (shape_from s r) e
shape_push s [] e = refl
shape_push s (x ∷ r) e = shape_push (shape_after s x) r e

-- one edit more
pub shape_edit : (o : Column) (r : Record) (s : Shape) (e : Edit) → ShapeStands o r s → fits o s e ≡ true → ShapeStands o (r ++ e ∷ []) (shape_after s e)
shape_edit o r s e h f =
    record {
      legal = fit_push o (empty_shape o) r e h.legal (subst (λ z. fits o z e ≡ true) h.shape f);
      shape = ap (λ z. shape_after z e) h.shape ∙ sym (shape_push (empty_shape o) r e);
      guards = in_guards_step o s e h.guards f;
      known = known_step o s e f h.known;
    }

known_from : (o : Column) (s : Shape) (r : Record) → fit_from o s r ≡ true → Known s → Known (shape_from s r)
known_from o s [] f h = h
known_from o s (e ∷ es) f h = let p = and_parts (fits o s e) _ f in known_from o (shape_after s e) es p.1 (known_step o s e p.0 h)

pub guards_from : (o : Column) (s : Shape) (r : Record) → fit_from o s r ≡ true → InGuards o s → InGuards o (shape_from s r)
guards_from o s [] f h = h
guards_from o s (e ∷ es) f h = let p = and_parts (fits o s e) _ f in guards_from o (shape_after s e) es p.1 (in_guards_step o s e h p.0)

pub shape_base : (o : Column) (r : Record) → is_legal_record o r ≡ true → ShapeStands o r (shape_of o r)
shape_base o r h =
    record {
      legal = h;
      shape = refl;
      guards = guards_from o (empty_shape o) r h (kept_empty o).guards;
      known = known_from o (empty_shape o) r h (kept_empty o).known;
    }

pub shape_step : (o : Column) (w : Standing) (e : Event) → ShapeStands o w.edits w.tree.shape → Allowed o w w.session e → ShapeStands o (step o w e).edits (step o w e).tree.shape
shape_step o w (Opened session log) h a = by w.session a
  where
    by : (s : Option Session) → Allowed o w s (Opened session log) → ShapeStands o (step o w (Opened session log)).edits (step o w (Opened session log)).tree.shape
    by None x = shape_edit o w.edits w.tree.shape (Open session log) h x.0
    by (Some n) x = absurd x
shape_step o w (Commit actor first ops) h a = h
shape_step o w (Synced actor m) h a = h
shape_step o w (Look actor m) h a = h
shape_step o w (Hold actor m) h a = h
shape_step o w (Release actor m) h a = h
shape_step o w (Freeze m) h a = h
shape_step o w (Begin actor job) h a = h
shape_step o w (Done actor e) h a = by w.session a
  where
    by : (s : Option Session) → Allowed o w s (Done actor e) → ShapeStands o (step o w (Done actor e)).edits (step o w (Done actor e)).tree.shape
    by None x = absurd x
    by (Some n) x = shape_edit o w.edits w.tree.shape e h (job_in n.running actor (λ k. IsOutcome o w n k e) x.1).2.formed.fit
shape_step o w (Short actor cause bytes) h a = h
shape_step o w JournalFault h a = h
shape_step o w (Stop m None) h a = h
shape_step o w (Stop m (Some e)) h a = by w.session a
  where
    by : (s : Option Session) → Allowed o w s (Stop m (Some e)) → ShapeStands o (step o w (Stop m (Some e))).edits (step o w (Stop m (Some e))).tree.shape
    by None x = absurd x
    by (Some n) x = shape_edit o w.edits w.tree.shape e h (job_in (last_running n) x.2.0 (λ k. IsOutcome o w n k e) x.2.1).2.formed.fit

-- ---- what is kept over any device

pub record Formed (o : Column) (w : Standing) : Type 0 where
  pub shape : ShapeStands o w.edits w.tree.shape
  pub numbers : Numbers w
  pub spans : Spans w
  pub apart : JobsApart w.session
  pub each : InEach (Calm o) w.tree w.session

-- what is kept beside the jobs themselves
record Frame (o : Column) (w : Standing) : Type 0 where
  pub shape : ShapeStands o w.edits w.tree.shape
  pub numbers : Numbers w
  pub apart : JobsApart w.session

pub formed_step : (o : Column) (w : Standing) (e : Event) → Formed o w → Allowed o w w.session e → Formed o (step o w e)
formed_step o w e h a =
    record {
      shape = shape_step o w e h.shape a;
      numbers = numbers_step o w e h.numbers a;
      spans = spans_step o w e h.numbers h.spans a;
      apart = apart_step o w e h.apart a;
      each = each_step o (Frame o) (Calm o) (λ v f. (f.apart, f.numbers)) (λ v n j f eq l. undisturbed_starts o v n j f.shape.guards f.numbers eq l)
          (λ v n j k x f eq en uj uk. undisturbed_stays o v n j k x f.shape.guards f.shape.known en uj uk) w e (record { shape = h.shape; numbers = h.numbers; apart = h.apart }) h.each a;
    }

pub formed_run : (o : Column) (w : Standing) (es : List Event) → Formed o w → IsLegal o w es → Formed o (run o w es)
formed_run o w [] h l = h
formed_run o w (e ∷ es) h l = formed_run o (step o w e) es (formed_step o w e h l.0) l.1

pub formed_base : (told : Bool) (o : Column) (bs : Batches) (r : Record) → is_legal_record o r ≡ true → session_of (last_number bs) ≤ (shape_of o r).session → Formed o (base told o bs r)
formed_base told o bs r h l =
    record {
      shape = subst (ShapeStands o r) (sym (shape_same o bs (empty_tree o) r)) (shape_base o r h);
      numbers = tt;
      spans = rw (shape_same o bs (empty_tree o) r) (omega (arith, l, (bound_from o (empty_shape o) r h (empty_bounded o)).flushed));
      apart = tt;
      each = tt;
    }

pub formed_always : (p : Profile) (told : Bool) (bs : Batches) (r : Record) (h : List Event) → IsBase told (column p) bs r → IsLegal (column p) (base told (column p) bs r) h
    → Formed (column p) (run (column p) (base told (column p) bs r) h)
formed_always p told bs r h b legal = formed_run (column p) (base told (column p) bs r) h (formed_base told (column p) bs r b.legal b.sessions) legal

-- ---- with contents

pub record Stands (o : Column) (w : Standing) : Type 0 where
  pub all : All o w
  pub formed : Formed o w

pub stands_step : (o : Column) (w : Standing) (e : Event) → 0 < o.last_level → Stands o w → Allowed o w w.session e → Stands o (step o w e)
stands_step o w e d h a = record { all = all_step o w e d h.all a; formed = formed_step o w e h.formed a }

pub stands_run : (o : Column) (w : Standing) (es : List Event) → 0 < o.last_level → Stands o w → IsLegal o w es → Stands o (run o w es)
stands_run o w [] d h l = h
stands_run o w (e ∷ es) d h l = stands_run o (step o w e) es d (stands_step o w e d h l.0) l.1

pub stands_base : (o : Column) (bs : Batches) (r : Record) → IsTrueRecord o r bs → Stands o (base true o bs r)
stands_base o bs r h = record { all = all_base o bs r h; formed = formed_base true o bs r h.legal h.sessions }

pub stands_always : (p : Profile) (bs : Batches) (r : Record) (h : List Event) → IsTrueRecord (column p) r bs → IsLegal (column p) (base true (column p) bs r) h
    → Stands (column p) (run (column p) (base true (column p) bs r) h)
stands_always p bs r h base_true legal = stands_run (column p) (base true (column p) bs r) h (deep p) (stands_base (column p) bs r base_true) legal

-- ---- the laws

pub place_in_guards : AlwaysFormed PlaceInGuards
place_in_guards p told bs r h b legal x i l =
    let s = (formed_always p told bs r h b legal).shape.guards in
    each_in (InGuard (run (column p) (base told (column p) bs r) h).tree.shape) x _ s.inside i l

pub record_is_legal : AlwaysFormed RecordIsLegal
record_is_legal p told bs r h b legal = let s = (formed_always p told bs r h b legal).shape in record { legal = s.legal; shape = s.shape }

pub jobs_stand : (o : Column) (w : Standing) (n : Session) → Formed o w → w.session ≡ Some n → JobsStand o w n
jobs_stand o w n h eq =
    let jobs : AllApart n.running × FaultApart n.faulted = subst JobsApart eq h.apart in
    let each : EachJob (Calm o) w.tree n.running × FaultJobs (Calm o) w.tree n.faulted = subst (InEach (Calm o) w.tree) eq h.each in
    record { apart = λ r t i k ne. apart_pair n.running r t jobs.0 i k ne; each = each.0 }

pub jobs_undisturbed : AlwaysFormed JobsUndisturbed
jobs_undisturbed p told bs r h b legal n eq = jobs_stand (column p) _ n (formed_always p told bs r h b legal) eq

pub marks_in_order : AlwaysFormed MarksInOrder
marks_in_order p told bs r h b legal n eq =
    let w = run (column p) (base told (column p) bs r) h in
    let x : InNumbers w.tree.shape (last_of w) n = subst (NumbersHold w.tree.shape (last_of w)) eq (formed_always p told bs r h b legal).numbers in
    record { flushed = x.marks.stable; stable = x.marks.stable_last; frozen = λ k q. let z = x.marks.frozen k q in (z.above, z.kept) }

pub histories_join : HistoriesJoin
histories_join o w [] later h l = l
histories_join o w (e ∷ es) later h l = (h.0, histories_join o (step o w e) es later h.1 l)

pub fronts_are_legal : FrontsAreLegal
fronts_are_legal o w [] rest h = tt
fronts_are_legal o w (e ∷ front) rest h = (h.0, fronts_are_legal o (step o w e) front rest h.1)

pub empty_is_true : EmptyIsTrue
empty_is_true p =
    record {
      legal = refl;
      ordered = refl;
      sessions = omega arith;
      boundary = refl;
      described = tt;
      falls = record { falls = λ t u i. absurd i };
      map = λ x h. ((λ n. absurd n.here.among), (λ n. absurd n.here.entry));
    }
