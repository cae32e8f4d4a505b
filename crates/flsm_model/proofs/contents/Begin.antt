-- What holds of a job when it begins.
use Rattle.std.proofs.Common.{◌≡◌, ℕ, zero, suc, ◌<◌, ◌≤◌, Bool, true, false, ◌&&◌, ◌||◌, not, List, [], ◌∷◌, inl, inr, refl, sym, ◌∙◌, ap, subst, arith}
use Rattle.std.specs.Prelude.{◌==◌, Option, Some, None}
use Rattle.std.specs.List.{list_all}
use Rattle.std.proofs.lemmas.Bool.{and_parts, and_from, or_cases, cases_order, eqb-true, eq-eqb, true≢false, false≢true, not-true}
use Rattle.peb_base.specs.Keys.{Bytes, key_le}
use Rattle.flsm_model.specs.Ranges.{is_below, in_range, range_of, first_of}
use Rattle.peb_base.specs.Numbers.{session_of}
use Rattle.peb_base.specs.KeyLaws.{le_lt, le_trans}
use Rattle.peb_base.specs.declared.entry.Entry.{Entry}
use Rattle.peb_base.specs.declared.table_row.TableRow.{TableRow}
use Rattle.peb_base.specs.Profiles.{Column}
use Rattle.flsm_model.specs.declared.job_kind.JobKind.{JobKind}
use Rattle.flsm_model.specs.declared.job_kind.JobKind.TheVariants.{Flush as FlushJob, Move as MoveJob, Cut as CutJob, Merge as MergeJob}
use Rattle.flsm_model.specs.declared.job.Job.{Job}
use Rattle.flsm_model.specs.Shape.{Shape, has_number, guards_at}
use Rattle.flsm_model.specs.Fits.{lies_in, is_live, is_straddled}
use Rattle.flsm_model.specs.Trees.{Table, Tree, rows_of, tables_numbered}
use Rattle.flsm_model.specs.Events.{Session}
use Rattle.flsm_model.specs.Jobs.{IsMove, IsOfKind, IsRange, are_all_tables, are_tables, job_range}
use Rattle.flsm_model.proofs.guards.Facts.{move_facts, cut_facts, merge_facts}
use Rattle.flsm_model.proofs.contents.Bound.{inputs_at, inputs_pass}
use Rattle.flsm_model.proofs.guards.Guards.{same_range, least}
use Rattle.flsm_model.proofs.guards.InGuards.{InGuards, InGuard}
use Rattle.flsm_model.proofs.lists.Members.{IsIn}
use Rattle.flsm_model.proofs.contents.Falls.{Newer, Falls, InFlight, is_fresh, is_full, levels_in_cut}
use Rattle.flsm_model.proofs.lists.Lists.{Each, all_in, any_in, in_kept, each_in}

-- the keys of each table lie between its smallest and its largest
pub record Spans (ts : List Table) : Type 0 where
  pub spans : (u : Table) (y : Entry) → IsIn u ts → IsIn y u.entries → (key_le u.row.smallest y.key ≡ true) × (key_le y.key u.row.largest ≡ true)

-- no live row has a number that a new row may take
pub record Known (s : Shape) : Type 0 where
  pub known : (r : TableRow) → IsIn r s.live → is_fresh s r.number ≡ false
  pub older : (r : TableRow) → IsIn r s.live → session_of r.number ≤ s.session

pub row_in : (u : Table) (ts : List Table) → IsIn u ts → IsIn u.row (rows_of ts)
row_in u [] h = absurd h
row_in u (t ∷ ts) h = elim h [ inl s ↦ inl (ap (λ (x : Table). x.row) s) | inr r ↦ inr (row_in u ts r) ]

all_has : (p : ℕ → Bool) (n : ℕ) (ns : List ℕ) → list_all p ns ≡ true → has_number n ns ≡ true → p n ≡ true
all_has p n [] h i = absurd (false≢true i)
all_has p n (m ∷ ms) h i =
    let a = and_parts (p m) (list_all p ms) h in
    elim (or_cases (n == m) (has_number n ms) i) [ inl s ↦ ap p (eqb-true n m s) ∙ a.0 | inr r ↦ all_has p n ms a.1 r ]

-- the numbers of live inputs aren't free
pub input_known : (s : Shape) (ns : List ℕ) → Known s → list_all (is_live s) ns ≡ true → (n : ℕ) → has_number n ns ≡ true → is_fresh s n ≡ false
input_known s ns kn l n h =
    let r = any_in (λ (x : TableRow). x.number == n) s.live (all_has (is_live s) n ns l h) in
    subst (λ m. is_fresh s m ≡ false) (eqb-true r.0.number n r.2) (kn.known r.0 r.1)

-- a key between the ends of a row in a range is in the range
pub key_inside : (range : Bytes × Option Bytes) (r : TableRow) (k : Bytes) → lies_in range r ≡ true → key_le r.smallest k ≡ true → key_le k r.largest ≡ true
    → in_range range.0 range.1 k ≡ true
key_inside range r k h a b =
    let p = and_parts (key_le range.0 r.smallest) (is_below r.largest range.1) h in
    and_from _ _ (le_trans range.0 r.smallest k p.0 a) (below range.1 p.1)
  where
    below : (hi : Option Bytes) → is_below r.largest hi ≡ true → is_below k hi ≡ true
    below None x = refl
    below (Some z) x = le_lt k r.largest z b x

module _ (o : Column) (t : Tree) (j : Job) (rows : rows_of t.tables ≡ t.shape.live) (sp : Spans t.tables) (kn : Known t.shape) where
  live_row : (u : Table) → IsIn u t.tables → IsIn u.row t.shape.live
  live_row u i = subst (IsIn u.row) rows (row_in u t.tables i)

  known_inputs : list_all (is_live t.shape) j.inputs ≡ true → (n : ℕ) → has_number n j.inputs ≡ true → is_fresh t.shape n ≡ false
  known_inputs l n h = input_known t.shape j.inputs kn l n h

  pub row_inside : are_tables t.shape (job_range j) j.inputs ≡ true → (u : Table) → IsIn u t.tables → has_number u.row.number j.inputs ≡ true → lies_in (job_range j) u.row ≡ true
  row_inside a u i h =
      elim (or_cases _ _ (all_in (λ r. not (has_number r.number j.inputs) || lies_in (job_range j) r) u.row t.shape.live a (live_row u i))) [
        | inl f ↦ absurd (true≢false (sym h ∙ not-true _ f))
        | inr x ↦ x
      ]

  pub keys_inside : are_tables t.shape (job_range j) j.inputs ≡ true → (u : Table) (y : Entry) → IsIn u t.tables → has_number u.row.number j.inputs ≡ true → IsIn y u.entries
      → in_range j.lo j.hi y.key ≡ true
  keys_inside a u y i h p = let s = sp.spans u y i p in key_inside (job_range j) u.row y.key (row_inside a u i h) s.0 s.1

  -- what stands at the job's level and isn't an input has no key of the job's range
  other_range : InGuards o t.shape → 0 < j.level → IsRange t.shape j.level j → are_all_tables t.shape j.level (job_range j) j.inputs ≡ true
      → (w : Table) (x : Entry) → IsIn w t.tables → has_number w.row.number j.inputs ≡ false → w.row.level ≡ j.level → IsIn x w.entries
      → in_range j.lo j.hi x.key ≡ true → ⊥
  other_range g pos range all w x i nin same p inside =
      let gs : List Bytes = guards_at t.shape j.level in
      let own : lies_in (range_of gs w.row.smallest) w.row ≡ true =
      subst (λ l. lies_in (range_of (guards_at t.shape l) w.row.smallest) w.row ≡ true) same (each_in (InGuard t.shape) w.row t.shape.live g.inside (live_row w i) (omega arith)) in
      let s = sp.spans w x i p in
      let one : range_of gs x.key ≡ range_of gs w.row.smallest = same_range [] gs w.row.smallest x.key (g.ascend j.level) (key_inside (range_of gs w.row.smallest) w.row x.key own s.0 s.1) in
      let two : range_of gs x.key ≡ range_of gs j.lo = same_range [] gs j.lo x.key (g.ascend j.level) (subst (λ r. in_range r.0 r.1 x.key ≡ true) (sym range) inside) in
      let lies : lies_in (job_range j) w.row ≡ true = subst (λ r. lies_in r w.row ≡ true) (sym one ∙ two ∙ range) own in
      elim (or_cases _ _ (all_in (λ r. not (r.level == j.level && lies_in (job_range j) r) || has_number r.number j.inputs) w.row t.shape.live all (live_row w i))) [
        | inl f ↦ true≢false (sym (and_from _ _ (eq-eqb w.row.level j.level same) lies) ∙ not-true _ f)
        | inr h ↦ true≢false (sym h ∙ nin)
      ]

  all_newer : Falls t.tables → ((u : Table) → IsIn u t.tables → has_number u.row.number j.inputs ≡ true → u.row.level ≡ j.level)
      → ((w : Table) (x : Entry) → IsIn w t.tables → has_number w.row.number j.inputs ≡ false → w.row.level ≡ j.level → IsIn x w.entries → in_range j.lo j.hi x.key ≡ true → ⊥)
      → are_tables t.shape (job_range j) j.inputs ≡ true
      → (w u : Table) → IsIn w t.tables → IsIn u t.tables → has_number u.row.number j.inputs ≡ true → has_number w.row.number j.inputs ≡ false
      → w.row.level ≤ j.level → Newer w u
  all_newer f at other a w u i m h nin l x y p q same = elim (cases_order w.row.level j.level) [
    | inl e ↦ absurd (other w x i nin e p (subst (λ k. in_range j.lo j.hi k ≡ true) (sym same) (keys_inside a u y m h q)))
    | inr (inl less) ↦ f.falls w u i m (omega (arith, at u m h)) x y p q same
    | inr (inr more) ↦ absurd (omega arith)
  ]

  pub begins : (n : Session) → InGuards o t.shape → Falls t.tables → 0 < o.last_level → IsOfKind j.kind o t.shape n j → InFlight o t j
  begins n g f deep kind = by j.kind refl kind
    where
      by : (a : JobKind) → j.kind ≡ a → IsOfKind a o t.shape n j → InFlight o t j
      by FlushJob e k =
          let nothing : (m : ℕ) → has_number m j.inputs ≡ true → ⊥ = λ m h. false≢true (subst (λ ns. has_number m ns ≡ true) k.nothing.0 h) in
          record {
            shallow = λ z. absurd (kinds (sym e ∙ z));
            deepest = λ z. absurd (kinds2 (sym e ∙ z));
            known = λ m h. absurd (nothing m h);
            at = λ u i h. absurd (nothing u.row.number h);
            inside = λ u y i h p. absurd (nothing u.row.number h);
            newer = λ full w u i m h. absurd (nothing u.row.number h);
          }
        where
          kinds : FlushJob ≡ MoveJob → ⊥
          kinds z = cc

          kinds2 : FlushJob ≡ MergeJob → ⊥
          kinds2 z = cc
      by MoveJob e k =
          let m = move_facts o t.shape j.level j.floor j.inputs [] k.fit in
          let at : (u : Table) → IsIn u t.tables → has_number u.row.number j.inputs ≡ true → u.row.level ≡ j.level =
          λ u i h. each_in (λ (v : Table). v.row.level ≡ j.level) u (tables_numbered j.inputs t.tables) (inputs_at j.level j.inputs t.tables t.shape.live rows m.at)
          (in_kept (λ (v : Table). has_number v.row.number j.inputs) u t.tables i h) in
          record {
            shallow = λ z. m.above;
            deepest = λ z. absurd (kinds (sym e ∙ z));
            known = known_inputs m.live;
            at = at;
            inside = keys_inside k.inside;
            newer = λ full. all_newer f at (other k j.level refl k.range) k.inside;
          }
        where
          kinds : MoveJob ≡ MergeJob → ⊥
          kinds z = cc

          other : (k : IsMove o t.shape n j) (l : ℕ) → j.level ≡ l → IsRange t.shape l j
              → (w : Table) (x : Entry) → IsIn w t.tables → has_number w.row.number j.inputs ≡ false → w.row.level ≡ j.level → IsIn x w.entries
              → in_range j.lo j.hi x.key ≡ true → ⊥
          other k zero z r w x i nin same p inside =
              let lies : lies_in (job_range j) w.row ≡ true =
              subst (λ q. lies_in q w.row ≡ true) r (and_from _ _ (least w.row.smallest) refl) in
              elim (or_cases _ _ (all_in (λ q. not (q.level == j.level && lies_in (job_range j) q) || has_number q.number j.inputs) w.row t.shape.live k.all (live_row w i))) [
                | inl f ↦ true≢false (sym (and_from _ _ (eq-eqb w.row.level j.level same) lies) ∙ not-true _ f)
                | inr h ↦ true≢false (sym h ∙ nin)
              ]
          other k (suc l) z r w x i nin same p inside = other_range g (omega arith) (subst (λ d. IsRange t.shape d j) (sym z) r) k.all w x i nin same p inside
      by CutJob e k =
          let m = cut_facts o t.shape j.level j.keys j.inputs [] k.fit in
          let range = range_of (guards_at t.shape j.level) (first_of j.keys) in
          let ins : Each (λ u. u.row.level ≡ j.level) (tables_numbered j.inputs t.tables) =
          levels_in_cut j.level range j.keys (tables_numbered j.inputs t.tables) (inputs_pass (is_straddled j.level range j.keys) j.inputs t.tables t.shape.live rows m.straddled) in
          record {
            shallow = λ z. absurd (kinds (sym e ∙ z));
            deepest = λ z. absurd (kinds2 (sym e ∙ z));
            known = known_inputs m.live;
            at = λ u i h. each_in (λ (v : Table). v.row.level ≡ j.level) u (tables_numbered j.inputs t.tables) ins (in_kept (λ (v : Table). has_number v.row.number j.inputs) u t.tables i h);
            inside = keys_inside k.inside;
            newer = λ full. absurd (false≢true (subst (λ a. is_full a j.whole ≡ true) e full));
          }
        where
          kinds : CutJob ≡ MoveJob → ⊥
          kinds z = cc

          kinds2 : CutJob ≡ MergeJob → ⊥
          kinds2 z = cc
      by MergeJob e k =
          let m = merge_facts o t.shape j.floor j.whole j.inputs [] k.fit in
          let at : (u : Table) → IsIn u t.tables → has_number u.row.number j.inputs ≡ true → u.row.level ≡ j.level =
          λ u i h. each_in (λ (v : Table). v.row.level ≡ o.last_level) u (tables_numbered j.inputs t.tables) (inputs_at o.last_level j.inputs t.tables t.shape.live rows m.at)
          (in_kept (λ (v : Table). has_number v.row.number j.inputs) u t.tables i h) ∙ sym k.level in
          record {
            shallow = λ z. absurd (kinds (sym e ∙ z));
            deepest = λ z. k.level;
            known = known_inputs m.live;
            at = at;
            inside = keys_inside k.inside;
            newer = λ full. all_newer f at
                (other_range g (omega (arith, k.level)) k.range (sym k.whole ∙ subst (λ a. is_full a j.whole ≡ true) e full)) k.inside;
          }
        where
          kinds : MergeJob ≡ MoveJob → ⊥
          kinds z = cc
