-- A key's numbers fall from each level to every deeper one, while jobs run beside each other.
use Rattle.std.proofs.Common.{◌≡◌, ℕ, suc, ◌<◌, ◌≤◌, Bool, true, false, ◌&&◌, not, List, [], ◌∷◌, ◌⊎◌, inl, inr, refl, sym, ◌∙◌, ap, subst, arith}
use Rattle.std.specs.Prelude.{◌==◌, Option, ⊤}
use Rattle.std.proofs.lemmas.Bool.{and_parts, eqb-true, not-true}
use Rattle.peb_base.specs.Keys.{Bytes}
use Rattle.flsm_model.specs.Ranges.{in_range, range_of, first_of}
use Rattle.peb_base.specs.Batches.{Batches}
use Rattle.peb_base.specs.Numbers.{session_of}
use Rattle.peb_base.specs.declared.entry.Entry.{Entry}
use Rattle.peb_base.specs.declared.table_row.TableRow.{TableRow}
use Rattle.peb_base.specs.Profiles.{Column}
use Rattle.flsm_model.specs.declared.edit.Edit.{Edit}
use Rattle.flsm_model.specs.declared.edit.Edit.TheVariants.{Open, Flush, Move, Cut, Merge}
use Rattle.flsm_model.specs.declared.job_kind.JobKind.{JobKind}
use Rattle.flsm_model.specs.declared.job_kind.JobKind.TheVariants.{Flush as FlushJob, Move as MoveJob, Cut as CutJob, Merge as MergeJob}
use Rattle.flsm_model.specs.declared.job.Job.{Job}
use Rattle.flsm_model.specs.Shape.{Shape, has_number, inputs_of, guards_at}
use Rattle.flsm_model.specs.Fits.{fits, is_straddled}
use Rattle.flsm_model.specs.Trees.{Table, Tree, rows_of, contents, tree_after, written_by, tables_without, tables_numbered}
use Rattle.flsm_model.proofs.lists.Totals.{levels-paired}
use Rattle.flsm_model.proofs.guards.Facts.{move_facts, flush_facts, cut_facts, merge_facts, FlushFits}
use Rattle.flsm_model.proofs.contents.Bound.{inputs_at, inputs_pass}
pub use Rattle.flsm_model.specs.TrueRecord.{Newer, Falls}
use Rattle.flsm_model.proofs.lists.Members.{IsIn, in_paired, from_move, from_merge, from_cut, from_flush, FromInput}
use Rattle.flsm_model.proofs.lists.Lists.{in_filter, in_append, Each, in_kept, each_in, each_weaker}

-- all entries are flushed
pub record AllFlushed (ts : List Table) (to : ℕ) : Type 0 where
  pub flushed : (t : Table) (x : Entry) → IsIn t ts → IsIn x t.entries → x.number ≤ to

-- a number of the session that no row has yet
abbrev pub is_fresh : Shape → ℕ → Bool
is_fresh s n = session_of n == s.session && not (has_number n s.used)

-- a job that takes all tables of its range at its level
abbrev pub is_full : JobKind → Bool → Bool
is_full MoveJob whole = true
is_full MergeJob whole = whole
is_full FlushJob whole = false
is_full CutJob whole = false

-- what holds of a job in flight from its beginning to its end
pub record InFlight (o : Column) (t : Tree) (j : Job) : Type 0 where
  pub shallow : j.kind ≡ MoveJob → j.level < o.last_level
  pub deepest : j.kind ≡ MergeJob → j.level ≡ o.last_level
  -- its inputs are rows of the record
  pub known : (n : ℕ) → has_number n j.inputs ≡ true → is_fresh t.shape n ≡ false
  -- those that are live stand at its level, and hold keys of its range alone
  pub at : (u : Table) → IsIn u t.tables → has_number u.row.number j.inputs ≡ true → u.row.level ≡ j.level
  pub inside : (u : Table) (y : Entry) → IsIn u t.tables → has_number u.row.number j.inputs ≡ true → IsIn y u.entries → in_range j.lo j.hi y.key ≡ true
  -- what else is live at its level or above is newer
  pub newer : is_full j.kind j.whole ≡ true → (w u : Table) → IsIn w t.tables → IsIn u t.tables → has_number u.row.number j.inputs ≡ true
      → has_number w.row.number j.inputs ≡ false → w.row.level ≤ j.level → Newer w u

-- ---- members of the tables after an edit

-- a table after the edit stood before and was no input, or was written by it
pub after : (o : Column) (bs : Batches) (t : Tree) (e : Edit) (w : Table) → IsIn w (tree_after o bs t e).tables
    → (IsIn w t.tables × (has_number w.row.number (inputs_of e) ≡ false)) ⊎ IsIn w (written_by o bs t e)
after o bs t e w h = elim (in_append w (tables_without (inputs_of e) t.tables) (written_by o bs t e) h) [
  | inl a ↦ let p = in_filter (λ (x : Table). not (has_number x.row.number (inputs_of e))) w t.tables a in inl (p.0, not-true _ p.1)
  | inr b ↦ inr b
]

-- an edit that writes at one level what stood at one level not above it
moves_down : (o : Column) (bs : Batches) (t : Tree) (e : Edit) (from to : ℕ) → Falls t.tables → from ≤ to
    → Each (λ u. u.row.level ≡ from) (tables_numbered (inputs_of e) t.tables)
    → Each (λ w. w.row.level ≡ to) (written_by o bs t e)
    → ((w : Table) (x : Entry) → IsIn w (written_by o bs t e) → IsIn x w.entries → FromInput t (inputs_of e) x)
    → ((w u : Table) → IsIn w t.tables → IsIn u t.tables → has_number u.row.number (inputs_of e) ≡ true
    → has_number w.row.number (inputs_of e) ≡ false → w.row.level < to → Newer w u)
    → Falls (tree_after o bs t e).tables
moves_down o bs t e from to f le ins outs source newer = record { falls = go }
  where
    level_in : (u : Table) → IsIn u t.tables → has_number u.row.number (inputs_of e) ≡ true → u.row.level ≡ from
    level_in u i h = each_in (λ (v : Table). v.row.level ≡ from) u (tables_numbered (inputs_of e) t.tables) ins (in_kept (λ (v : Table). has_number v.row.number (inputs_of e)) u t.tables i h)

    level_out : (w : Table) → IsIn w (written_by o bs t e) → w.row.level ≡ to
    level_out w i = each_in (λ (v : Table). v.row.level ≡ to) w (written_by o bs t e) outs i

    go : (a b : Table) → IsIn a (tree_after o bs t e).tables → IsIn b (tree_after o bs t e).tables → a.row.level < b.row.level → Newer a b
    go a b i k l x y p q same = elim (after o bs t e a i) [
      | inl old ↦ elim (after o bs t e b k) [
        | inl old2 ↦ f.falls a b old.0 old2.0 l x y p q same
        | inr new2 ↦
            let u = source b y new2 q in
            newer a u.0 old.0 u.1 u.2 old.1 (omega (arith, level_out b new2)) x y p u.3 same
      ]
      | inr new ↦ elim (after o bs t e b k) [
        | inl old2 ↦
            let u = source a x new p in
            f.falls u.0 b u.1 old2.0 (omega (arith, level_in u.0 u.1 u.2, level_out a new)) x y u.3 q same
        | inr new2 ↦ absurd (omega (arith, level_out a new, level_out b new2))
      ]
    ]

-- ---- the order after each edit

pub levels_in_cut : (level : ℕ) (range : Bytes × Option Bytes) (keys : List Bytes) (ts : List Table)
    → Each (λ u. is_straddled level range keys u.row ≡ true) ts → Each (λ u. u.row.level ≡ level) ts
levels_in_cut level range keys ts h =
    each_weaker (λ u. is_straddled level range keys u.row ≡ true) (λ u. u.row.level ≡ level) ts (λ u x. eqb-true u.row.level level (and_parts _ _ (and_parts _ _ x).0).0) h

-- the edit is one of this job, of whose kind a Move takes the job's level and inputs
abbrev pub IsFor : Job → Edit → Type 0
IsFor j (Move level floor inputs outputs) = (j.kind ≡ MoveJob) × (level ≡ j.level) × (inputs ≡ j.inputs)
IsFor j (Cut level keys inputs outputs) = (j.kind ≡ CutJob) × (level ≡ j.level) × (inputs ≡ j.inputs)
IsFor j (Merge floor whole inputs outputs) = (j.kind ≡ MergeJob) × (inputs ≡ j.inputs)
IsFor j e = ⊤

pub falls_step : (o : Column) (bs : Batches) (t : Tree) (j : Job) (e : Edit) → fits o t.shape e ≡ true → rows_of t.tables ≡ t.shape.live
    → Falls t.tables → AllFlushed t.tables t.shape.to → InFlight o t j → IsFor j e → Falls (tree_after o bs t e).tables
falls_step o bs t j (Open session log) fit rows f fl run for =
    record { falls = λ a b i k. f.falls a b (old a i) (old b k) }
  where
    old : (a : Table) → IsIn a (tree_after o bs t (Open session log)).tables → IsIn a t.tables
    old a i = elim (after o bs t (Open session log) a i) [ inl h ↦ h.0 | inr h ↦ absurd h ]
falls_step o bs t j (Flush row from to log chosen) fit rows f fl run for = record { falls = go }
  where
    e : Edit
    e = Flush row from to log chosen

    k : FlushFits t.shape row from to
    k = flush_facts o t.shape row from to log chosen fit

    zero_level : (w : Table) → IsIn w (written_by o bs t e) → w.row.level ≡ 0
    zero_level w i =
        let r : IsIn w.row (row ∷ []) = (in_paired w (row ∷ []) (contents o bs t e) i).0 in
        elim r [ inl s ↦ ap (λ (x : TableRow). x.level) s ∙ k.at | inr x ↦ absurd x ]

    go : (a b : Table) → IsIn a (tree_after o bs t e).tables → IsIn b (tree_after o bs t e).tables → a.row.level < b.row.level → Newer a b
    go a b i m l x y p q same = elim (after o bs t e b m) [
      | inr new ↦ absurd (omega (arith, zero_level b new))
      | inl old2 ↦ elim (after o bs t e a i) [
        | inl old ↦ f.falls a b old.0 old2.0 l x y p q same
        | inr new ↦ omega (arith, (from_flush o bs t row from to log chosen a x new p).0, k.follows, fl.flushed b y old2.0 q)
      ]
    ]
falls_step o bs t j (Move level floor inputs outputs) fit rows f fl run for =
    let k = move_facts o t.shape level floor inputs outputs fit in
    let e : Edit = Move level floor inputs outputs in
    moves_down o bs t e level (suc level) f (omega arith) (inputs_at level inputs t.tables t.shape.live rows k.at) (levels-paired (suc level) outputs (contents o bs t e) k.below)
    (from_move o bs t level floor inputs outputs)
    (λ w u i m h g l.
    run.newer (rw for.0 refl) w u i m (subst (λ ns. has_number u.row.number ns ≡ true) for.2 h) (subst (λ ns. has_number w.row.number ns ≡ false) for.2 g) (omega (arith, for.1)))
falls_step o bs t j (Cut level keys inputs outputs) fit rows f fl run for =
    let k = cut_facts o t.shape level keys inputs outputs fit in
    let e : Edit = Cut level keys inputs outputs in
    let range = range_of (guards_at t.shape level) (first_of keys) in
    let ins : Each (λ u. u.row.level ≡ level) (tables_numbered inputs t.tables) =
    levels_in_cut level range keys (tables_numbered inputs t.tables) (inputs_pass (is_straddled level range keys) inputs t.tables t.shape.live rows k.straddled) in
    moves_down o bs t e level level f (omega arith) ins (levels-paired level outputs (contents o bs t e) k.at)
    (from_cut o bs t level keys inputs outputs)
    (λ w u i m h g l. f.falls w u i m (subst (λ n. w.row.level < n) (sym (each_in (λ (v : Table). v.row.level ≡ level) u (tables_numbered inputs t.tables) ins (in_kept (λ (v : Table). has_number v.row.number inputs) u t.tables m h))) l))
falls_step o bs t j (Merge floor whole inputs outputs) fit rows f fl run for =
    let k = merge_facts o t.shape floor whole inputs outputs fit in
    let e : Edit = Merge floor whole inputs outputs in
    let ins : Each (λ u. u.row.level ≡ o.last_level) (tables_numbered inputs t.tables) = inputs_at o.last_level inputs t.tables t.shape.live rows k.at in
    moves_down o bs t e o.last_level o.last_level f (omega arith) ins (levels-paired o.last_level outputs (contents o bs t e) k.below)
    (from_merge o bs t floor whole inputs outputs)
    (λ w u i m h g l. f.falls w u i m (subst (λ n. w.row.level < n) (sym (each_in (λ (v : Table). v.row.level ≡ o.last_level) u (tables_numbered inputs t.tables) ins (in_kept (λ (v : Table). has_number v.row.number inputs) u t.tables m h))) l))

-- what is flushed stays below the last flush
pub flushed_step : (o : Column) (bs : Batches) (t : Tree) (e : Edit) → fits o t.shape e ≡ true → AllFlushed t.tables t.shape.to
    → AllFlushed (tree_after o bs t e).tables (tree_after o bs t e).shape.to
flushed_step o bs t (Open session log) fit fl = record { flushed = λ w x i p. elim (after o bs t (Open session log) w i) [ inl h ↦ fl.flushed w x h.0 p | inr h ↦ absurd h ] }
flushed_step o bs t (Flush row from to log chosen) fit fl =
    let k = flush_facts o t.shape row from to log chosen fit in
    record {
      flushed = λ w x i p. elim (after o bs t (Flush row from to log chosen) w i) [
        | inl h ↦ omega (arith, fl.flushed w x h.0 p, k.follows, k.rises)
        | inr h ↦ (from_flush o bs t row from to log chosen w x h p).1
      ];
    }
flushed_step o bs t (Move level floor inputs outputs) fit fl =
    record {
      flushed = λ w x i p. elim (after o bs t (Move level floor inputs outputs) w i) [
        | inl h ↦ fl.flushed w x h.0 p
        | inr h ↦ let u = from_move o bs t level floor inputs outputs w x h p in fl.flushed u.0 x u.1 u.3
      ];
    }
flushed_step o bs t (Cut level keys inputs outputs) fit fl =
    record {
      flushed = λ w x i p. elim (after o bs t (Cut level keys inputs outputs) w i) [
        | inl h ↦ fl.flushed w x h.0 p
        | inr h ↦ let u = from_cut o bs t level keys inputs outputs w x h p in fl.flushed u.0 x u.1 u.3
      ];
    }
flushed_step o bs t (Merge floor whole inputs outputs) fit fl =
    record {
      flushed = λ w x i p. elim (after o bs t (Merge floor whole inputs outputs) w i) [
        | inl h ↦ fl.flushed w x h.0 p
        | inr h ↦ let u = from_merge o bs t floor whole inputs outputs w x h p in fl.flushed u.0 x u.1 u.3
      ];
    }
