-- The changes that each kind of edit makes, and what stands after them.
use Rattle.std.proofs.Common.{◌≡◌, ◌≢◌, ℕ, zero, suc, ◌-◌, ◌≤◌, Bool, true, not, inl, inr, ◌&&◌, List, [], ◌∷◌, ◌++◌, length, refl, sym, ap, ◌∙◌, subst, arith, append-nil}
use Rattle.std.specs.Prelude.{map, ◌==◌, get_or, set}
use Rattle.std.specs.List.{AllByRecursion, list_all, list_any}
use Rattle.std.proofs.lemmas.Bool.{and_parts, and_from, eq-eqb}
use Rattle.std.proofs.lemmas.List.{length-set}
use Rattle.peb_base.specs.Guards.{Ascend}
use Rattle.peb_base.specs.Keys.{Bytes, key_le}
use Rattle.peb_base.specs.Members.{IsIn}
use Rattle.peb_base.specs.declared.table_row.TableRow.{TableRow}
use Rattle.flsm_model.specs.declared.chosen.Chosen.{Chosen}
use Rattle.flsm_model.specs.declared.edit.Edit.{Edit}
use Rattle.flsm_model.specs.declared.edit.Edit.TheVariants.{Open, Flush, Move, Cut, Merge}
use Rattle.flsm_model.specs.Compaction.{straddles}
use Rattle.flsm_model.specs.Fits.{is_straddled, is_cut_output, lies_in, input_range, first_smallest, range_of_row}
use Rattle.flsm_model.specs.Ledgers.{rows_at}
use Rattle.flsm_model.specs.Ranges.{range_of, with_keys}
use Rattle.flsm_model.specs.Shape.{Shape, guards_at, has_number, rows_numbered, rows_without, inputs_of, shape_after}
use Rattle.version.specs.Levels.{Levels}
use Rattle.version_set.specs.Shapes.{HasTables}
use Rattle.version_set.specs.Changes.{Change, Changes, CanStage, IsStagedFor, AreInputs, IsMade, AreTablesOf, Differ, AreAt, LiesInOne, guards_after, live_after}
use Rattle.version_set.proofs.Rows.{at_of, differ_filter, without_none}
use Rattle.version_set.proofs.Stands.{set_same}
use Rattle.version_set.proofs.Fitting.{flush_fits, move_fits, merge_fits, cut_fits, MoveFits, MergeFits, CutFits, cut_range, inputs_at, no_inputs, none_own, all_lie, whole_rows, one_range, begins_in}

-- changes with the same parts are one
pub change_is : (c : Change) (level : ℕ) (keys : List Bytes) (inputs : List ℕ) (outputs : List TableRow) → c.level ≡ level → c.keys ≡ keys → c.inputs ≡ inputs → c.outputs ≡ outputs
    → c ≡ record { level = level; keys = keys; inputs = inputs; outputs = outputs }
change_is c level keys inputs outputs a b d e = λ i. record { level = a i; keys = b i; inputs = d i; outputs = e i }

-- what a change made stands for the shape after the edit
finish : {T : Type 0} (row : T → TableRow) (next : Levels T) (gone : List T) (guards : List (List Bytes)) (live : List TableRow) (c : Change) (s : Shape) (e : Edit) → HasTables row next (guards_after guards c) (live_after live c)
    → AreTablesOf row (inputs_of e) s.live gone → guards_after guards c ≡ (shape_after s e).guards → live_after live c ≡ (shape_after s e).live → IsStagedFor row next gone s e
finish row next gone guards live c s e stands tables guards_are live_is = record {
  stands = subst (λ gs. HasTables row next gs (shape_after s e).live) guards_are (subst (HasTables row next (guards_after guards c)) live_is stands);
  inputs_are = tables;
}

all_from : {X : Type 0} (p : X → Bool) (xs : List X) → ((x : X) → IsIn x xs → p x ≡ true) → list_all p xs ≡ true
all_from p [] each = refl
all_from p (x ∷ xs) each = and_from (p x) (list_all p xs) (each x (inl refl)) (all_from p xs (λ y among. each y (inr among)))

-- ---- an opening

pub open_done : {T : Type 0} (row : T → TableRow) (v next : Levels T) (gone tables : List T) (s : Shape) (session log : ℕ) → CanStage row v s (Open session log) tables → next ≡ v → gone ≡ [] → IsStagedFor row next gone s (Open session log)
open_done {T} row v next gone tables s session log can same none = record {
  stands = subst (λ (w : Levels T). HasTables row w s.guards s.live) (sym same) can.stands;
  inputs_are = subst (AreTablesOf row [] s.live) (sym none) (record { numbered = refl; among = tt });
}

-- ---- a flush

pub flush_changes : {T : Type 0} (row : T → TableRow) (v : Levels T) (tables : List T) (s : Shape) (r : TableRow) (from to log : ℕ) (chosen : List Chosen) → CanStage row v s (Flush r from to log chosen) tables
    → Changes row v s.guards s.live (record { level = 0; keys = []; inputs = []; outputs = map row tables })
flush_changes row v tables s r from to log chosen can = record {
  stands = can.stands;
  within = omega arith;
  top = λ e. refl;
  inputs_are = no_inputs 0 s.live can.sound.numbers.differ;
  own = none_own 0 s.live;
  outputs_are = subst (AreAt 0) (sym can.outputs_are) (and_from (r.level == 0) true (eq-eqb r.level 0 (flush_fits can.column s r from to log chosen can.fit).at) refl);
  deeper = λ some. absurd (some refl);
}

pub flush_done : {T : Type 0} (row : T → TableRow) (v next : Levels T) (gone tables : List T) (s : Shape) (r : TableRow) (from to log : ℕ) (chosen : List Chosen) → CanStage row v s (Flush r from to log chosen) tables
    → IsMade row (next, gone) s.guards s.live (record { level = 0; keys = []; inputs = []; outputs = map row tables }) → IsStagedFor row next gone s (Flush r from to log chosen)
flush_done row v next gone tables s r from to log chosen can made =
    finish row next gone s.guards s.live (record { level = 0; keys = []; inputs = []; outputs = map row tables }) s (Flush r from to log chosen) made.stands made.inputs_are (set_same s.guards (0 - 1) [])
    (ap (λ rs. rows_without [] s.live ++ rs) can.outputs_are)

-- ---- a Move

-- its inputs go from the level
abbrev pub taking : ℕ → List ℕ → Change
taking level inputs = record { level = level; keys = []; inputs = inputs; outputs = [] }

-- its outputs come to the next one
abbrev pub adding : ℕ → List TableRow → Change
adding level outputs = record { level = level; keys = []; inputs = []; outputs = outputs }

pub move_takes : {T : Type 0} (row : T → TableRow) (v : Levels T) (tables : List T) (s : Shape) (level floor : ℕ) (inputs : List ℕ) (outputs : List TableRow) → CanStage row v s (Move level floor inputs outputs) tables
    → Changes row v s.guards s.live (taking level inputs)
move_takes row v tables s level floor inputs outputs can =
    let fit = move_fits can.column s level floor inputs outputs can.fit in
    let are = inputs_at can.column s level inputs can.sound fit.ascend fit.live fit.at in
    record {
      stands = can.stands;
      within = omega (arith, fit.above, can.sound.count);
      top = λ e. refl;
      inputs_are = are;
      own = fit.at;
      outputs_are = refl;
      deeper = λ some ascend. record { inputs_are = are; whole = tt; lie = tt };
    }

pub move_adds : {T : Type 0} (row : T → TableRow) (v next : Levels T) (tables : List T) (s : Shape) (level below floor : ℕ) (inputs : List ℕ) (outputs : List TableRow) → below ≡ suc level → CanStage row v s (Move level floor inputs outputs) tables
    → HasTables row next (guards_after s.guards (taking level inputs)) (live_after s.live (taking level inputs))
    → Changes row next (guards_after s.guards (taking level inputs)) (live_after s.live (taking level inputs)) (adding below (map row tables))
move_adds row v next tables s level below floor inputs outputs is can stands = record {
  stands = stands;
  within = omega (arith, is, fit.above, can.sound.count, length-set s.guards (level - 1) (get_or s.guards (level - 1) []));
  top = λ e. refl;
  inputs_are = none;
  own = none_own below left;
  outputs_are = subst (λ l. AreAt l (map row tables)) (sym is) (subst (AreAt (suc level)) (sym can.outputs_are) fit.below);
  deeper = λ some ascend. record { inputs_are = none; whole = tt; lie = lie };
}
  where
    fit : MoveFits can.column s level inputs outputs
    fit = move_fits can.column s level floor inputs outputs can.fit

    left : List TableRow
    left = live_after s.live (taking level inputs)

    differ : Differ left
    differ = subst Differ (sym (append-nil (rows_without inputs s.live))) (differ_filter (λ r. not (has_number r.number inputs)) s.live can.sound.numbers.differ)

    none : AreInputs [] (rows_at below left)
    none = no_inputs below left differ

    guards_are : get_or (guards_after s.guards (taking level inputs)) (below - 1) [] ≡ guards_at s (suc level)
    guards_are = ap (λ gs. get_or gs (below - 1) []) (set_same s.guards (level - 1) []) ∙ ap (λ n. get_or s.guards n []) (omega (arith, is))

    lie : AllByRecursion (LiesInOne (get_or (guards_after s.guards (taking level inputs)) (below - 1) [])) (map row tables)
    lie = subst (λ gs. AllByRecursion (LiesInOne gs) (map row tables)) (sym guards_are) (subst (AllByRecursion (LiesInOne (guards_at s (suc level)))) (sym can.outputs_are)
        (all_lie s.session s.used (guards_at s (suc level)) outputs fit.fresh (λ r among ordered. at_of (λ (x : TableRow). lies_in (range_of_row (guards_at s (suc level)) x) x) outputs r fit.apart among)))

pub move_done : {T : Type 0} (row : T → TableRow) (v next : Levels T) (gone none tables : List T) (s : Shape) (level below floor : ℕ) (inputs : List ℕ) (outputs : List TableRow) → CanStage row v s (Move level floor inputs outputs) tables
    → AreTablesOf row inputs s.live gone
    → IsMade row (next, none) (guards_after s.guards (taking level inputs)) (live_after s.live (taking level inputs)) (adding below (map row tables)) → IsStagedFor row next gone s (Move level floor inputs outputs)
move_done row v next gone none tables s level below floor inputs outputs can taken made =
    finish row next gone (guards_after s.guards (taking level inputs)) (live_after s.live (taking level inputs)) (adding below (map row tables)) s (Move level floor inputs outputs) made.stands taken
    (set_same (guards_after s.guards (taking level inputs)) (below - 1) [] ∙ set_same s.guards (level - 1) [])
    (ap (λ rs. rs ++ map row tables) (without_none (rows_without inputs s.live ++ []) ∙ append-nil (rows_without inputs s.live)) ∙ ap (λ rs. rows_without inputs s.live ++ rs) can.outputs_are)

-- ---- a Cut

guards_of_level : (s : Shape) (level : ℕ) → 1 ≤ level → get_or s.guards (level - 1) [] ≡ guards_at s level
guards_of_level s zero from = absurd (omega (arith, from))
guards_of_level s (suc n) from = ap (λ m. get_or s.guards m []) (omega arith)

pub cut_changes : {T : Type 0} (row : T → TableRow) (v : Levels T) (tables : List T) (s : Shape) (level : ℕ) (keys : List Bytes) (inputs : List ℕ) (outputs : List TableRow) → CanStage row v s (Cut level keys inputs outputs) tables
    → Changes row v s.guards s.live (record { level = level; keys = keys; inputs = inputs; outputs = map row tables })
cut_changes row v tables s level keys inputs outputs can = record {
  stands = can.stands;
  within = omega (arith, fit.upto, can.sound.count);
  top = λ e. absurd (omega (arith, e, fit.from));
  inputs_are = are;
  own = own;
  outputs_are = subst (AreAt level) (sym can.outputs_are) (all_from (λ (r : TableRow). r.level == level) outputs (λ r among. (two r among).0));
  deeper = λ some ascend. record {
    inputs_are = are;
    whole = whole_rows can.column s level keys inputs outputs can.sound (subst (Ascend []) gs ascend) fit;
    lie = subst (λ ks. AllByRecursion (LiesInOne (with_keys keys ks)) (map row tables)) (sym gs) (subst (AllByRecursion (LiesInOne (with_keys keys (guards_at s level)))) (sym can.outputs_are)
        (all_lie s.session s.used (with_keys keys (guards_at s level)) outputs fit.fresh (λ r among ordered. (placed r among))));
  };
}
  where
    fit : CutFits can.column s level keys inputs outputs
    fit = cut_fits can.column s level keys inputs outputs can.fit

    gs : get_or s.guards (level - 1) [] ≡ guards_at s level
    gs = guards_of_level s level fit.from

    own : AreAt level (rows_numbered inputs s.live)
    own = all_from (λ (r : TableRow). r.level == level) (rows_numbered inputs s.live) (λ r among.
        let one = at_of (is_straddled level (cut_range s level keys) keys) (rows_numbered inputs s.live) r fit.straddled among in
        (and_parts (r.level == level) (lies_in (cut_range s level keys) r) (and_parts (r.level == level && lies_in (cut_range s level keys) r) (list_any (straddles r) keys) one).0).0)

    are : AreInputs inputs (rows_at level s.live)
    are = inputs_at can.column s level inputs can.sound fit.ascend fit.live own

    one_placed : (r : TableRow) → IsIn r outputs → is_cut_output level (cut_range s level keys) (with_keys keys (guards_at s level)) r ≡ true
    one_placed r among = at_of (is_cut_output level (cut_range s level keys) (with_keys keys (guards_at s level))) outputs r fit.placed among

    two : (r : TableRow) → IsIn r outputs → ((r.level == level) ≡ true) × (lies_in (cut_range s level keys) r ≡ true)
    two r among =
        and_parts (r.level == level) (lies_in (cut_range s level keys) r)
        (and_parts (r.level == level && lies_in (cut_range s level keys) r) (lies_in (range_of_row (with_keys keys (guards_at s level)) r) r) (one_placed r among)).0

    placed : (r : TableRow) → IsIn r outputs → lies_in (range_of (with_keys keys (guards_at s level)) r.smallest) r ≡ true
    placed r among = (and_parts (r.level == level && lies_in (cut_range s level keys) r) (lies_in (range_of_row (with_keys keys (guards_at s level)) r) r) (one_placed r among)).1

pub cut_done : {T : Type 0} (row : T → TableRow) (v next : Levels T) (gone tables : List T) (s : Shape) (level : ℕ) (keys : List Bytes) (inputs : List ℕ) (outputs : List TableRow) → CanStage row v s (Cut level keys inputs outputs) tables
    → IsMade row (next, gone) s.guards s.live (record { level = level; keys = keys; inputs = inputs; outputs = map row tables }) → IsStagedFor row next gone s (Cut level keys inputs outputs)
cut_done row v next gone tables s level keys inputs outputs can made =
    finish row next gone s.guards s.live (record { level = level; keys = keys; inputs = inputs; outputs = map row tables }) s (Cut level keys inputs outputs) made.stands made.inputs_are
    (ap (λ ks. set s.guards (level - 1) (with_keys keys ks)) (guards_of_level s level (cut_fits can.column s level keys inputs outputs can.fit).from))
    (ap (λ rs. rows_without inputs s.live ++ rs) can.outputs_are)

-- ---- a Merge

pub merge_changes : {T : Type 0} (row : T → TableRow) (v : Levels T) (tables : List T) (s : Shape) (last floor : ℕ) (whole : Bool) (inputs : List ℕ) (outputs : List TableRow) → last ≡ length v.levels
    → CanStage row v s (Merge floor whole inputs outputs) tables → Changes row v s.guards s.live (record { level = last; keys = []; inputs = inputs; outputs = map row tables })
merge_changes {T} row v tables s last floor whole inputs outputs is can =
    subst (λ l. Changes row v s.guards s.live (record { level = l; keys = []; inputs = inputs; outputs = map row tables })) (sym level) (record {
      stands = can.stands;
      within = omega (arith, can.sound.count);
      top = λ e. refl;
      inputs_are = are;
      own = fit.at;
      outputs_are = subst (AreAt can.column.last_level) (sym can.outputs_are) fit.below;
      deeper = λ some ascend. record { inputs_are = are; whole = tt; lie = lie some ascend };
    })
  where
    level : last ≡ can.column.last_level
    level = is ∙ can.stands.count ∙ can.sound.count

    fit : MergeFits can.column s inputs outputs
    fit = merge_fits can.column s floor whole inputs outputs can.fit

    are : AreInputs inputs (rows_at can.column.last_level s.live)
    are = inputs_at can.column s can.column.last_level inputs can.sound fit.ascend fit.live fit.at

    one : Ascend [] (guards_at s can.column.last_level) → (r : TableRow) → IsIn r outputs → key_le r.smallest r.largest ≡ true → lies_in (range_of (guards_at s can.column.last_level) r.smallest) r ≡ true
    one ascend r among ordered =
        let gs = guards_at s can.column.last_level in
        let range = input_range s can.column.last_level inputs in
        let lies = at_of (lies_in range) outputs r fit.inside among in
        let same = one_range gs (first_smallest (rows_numbered inputs s.live)) r.smallest ascend (begins_in range r ordered lies) in
        subst (λ x. lies_in x r ≡ true) (sym same) lies

    lie : can.column.last_level ≢ 0 → Ascend [] (get_or s.guards (can.column.last_level - 1) []) → AllByRecursion (LiesInOne (get_or s.guards (can.column.last_level - 1) [])) (map row tables)
    lie some ascend =
        let gs = guards_of_level s can.column.last_level (omega (arith, some)) in
        subst (λ ks. AllByRecursion (LiesInOne ks) (map row tables)) (sym gs) (subst (AllByRecursion (LiesInOne (guards_at s can.column.last_level))) (sym can.outputs_are)
        (all_lie s.session s.used (guards_at s can.column.last_level) outputs fit.fresh (one (subst (Ascend []) gs ascend))))

pub merge_done : {T : Type 0} (row : T → TableRow) (v next : Levels T) (gone tables : List T) (s : Shape) (last floor : ℕ) (whole : Bool) (inputs : List ℕ) (outputs : List TableRow) → CanStage row v s (Merge floor whole inputs outputs) tables
    → IsMade row (next, gone) s.guards s.live (record { level = last; keys = []; inputs = inputs; outputs = map row tables }) → IsStagedFor row next gone s (Merge floor whole inputs outputs)
merge_done row v next gone tables s last floor whole inputs outputs can made =
    finish row next gone s.guards s.live (record { level = last; keys = []; inputs = inputs; outputs = map row tables }) s (Merge floor whole inputs outputs) made.stands made.inputs_are (set_same s.guards (last - 1) [])
    (ap (λ rs. rows_without inputs s.live ++ rs) can.outputs_are)

-- ---- an edit of a kind

module _ {T : Type 0} (row : T → TableRow) (v : Levels T) (tables : List T) (s : Shape) (e : Edit) (can : CanStage row v s e tables) where
  pub flush_may : {r : TableRow} {from to log : ℕ} {chosen : List Chosen} → e ≡ Flush r from to log chosen → (d : Change) → d.level ≡ 0 → d.keys ≡ [] → d.inputs ≡ [] → d.outputs ≡ map row tables
      → Changes row v s.guards s.live d
  flush_may {r} {from} {to} {log} {chosen} is d a b x y =
      subst (Changes row v s.guards s.live) (sym (change_is d 0 [] [] (map row tables) a b x y)) (flush_changes row v tables s r from to log chosen (subst (λ f. CanStage row v s f tables) is can))

  pub flush_made : {r : TableRow} {from to log : ℕ} {chosen : List Chosen} → e ≡ Flush r from to log chosen → (d : Change) → d.level ≡ 0 → d.keys ≡ [] → d.inputs ≡ [] → d.outputs ≡ map row tables
      → (next : Levels T) (gone : List T) → IsMade row (next, gone) s.guards s.live d → IsStagedFor row next gone s e
  flush_made {r} {from} {to} {log} {chosen} is d a b x y next gone made =
      subst (IsStagedFor row next gone s) (sym is) (flush_done row v next gone tables s r from to log chosen (subst (λ f. CanStage row v s f tables) is can)
      (subst (IsMade row (next, gone) s.guards s.live) (change_is d 0 [] [] (map row tables) a b x y) made))

  pub cut_may : {level : ℕ} {keys : List Bytes} {inputs : List ℕ} {outputs : List TableRow} → e ≡ Cut level keys inputs outputs → (d : Change) → d.level ≡ level → d.keys ≡ keys → d.inputs ≡ inputs
      → d.outputs ≡ map row tables → Changes row v s.guards s.live d
  cut_may {level} {keys} {inputs} {outputs} is d a b x y =
      subst (Changes row v s.guards s.live) (sym (change_is d level keys inputs (map row tables) a b x y)) (cut_changes row v tables s level keys inputs outputs (subst (λ f. CanStage row v s f tables) is can))

  pub cut_made : {level : ℕ} {keys : List Bytes} {inputs : List ℕ} {outputs : List TableRow} → e ≡ Cut level keys inputs outputs → (d : Change) → d.level ≡ level → d.keys ≡ keys → d.inputs ≡ inputs
      → d.outputs ≡ map row tables → (next : Levels T) (gone : List T) → IsMade row (next, gone) s.guards s.live d → IsStagedFor row next gone s e
  cut_made {level} {keys} {inputs} {outputs} is d a b x y next gone made =
      subst (IsStagedFor row next gone s) (sym is) (cut_done row v next gone tables s level keys inputs outputs (subst (λ f. CanStage row v s f tables) is can)
      (subst (IsMade row (next, gone) s.guards s.live) (change_is d level keys inputs (map row tables) a b x y) made))

  pub merge_may : {floor : ℕ} {whole : Bool} {inputs : List ℕ} {outputs : List TableRow} → e ≡ Merge floor whole inputs outputs → (d : Change) → d.level ≡ length v.levels → d.keys ≡ [] → d.inputs ≡ inputs
      → d.outputs ≡ map row tables → Changes row v s.guards s.live d
  merge_may {floor} {whole} {inputs} {outputs} is d a b x y =
      subst (Changes row v s.guards s.live) (sym (change_is d (length v.levels) [] inputs (map row tables) a b x y))
      (merge_changes row v tables s (length v.levels) floor whole inputs outputs refl (subst (λ f. CanStage row v s f tables) is can))

  pub merge_made : {floor : ℕ} {whole : Bool} {inputs : List ℕ} {outputs : List TableRow} → e ≡ Merge floor whole inputs outputs → (d : Change) → d.level ≡ length v.levels → d.keys ≡ [] → d.inputs ≡ inputs
      → d.outputs ≡ map row tables → (next : Levels T) (gone : List T) → IsMade row (next, gone) s.guards s.live d → IsStagedFor row next gone s e
  merge_made {floor} {whole} {inputs} {outputs} is d a b x y next gone made =
      subst (IsStagedFor row next gone s) (sym is) (merge_done row v next gone tables s (length v.levels) floor whole inputs outputs (subst (λ f. CanStage row v s f tables) is can)
      (subst (IsMade row (next, gone) s.guards s.live) (change_is d (length v.levels) [] inputs (map row tables) a b x y) made))

  -- the outputs of a Move are the rows of the tables
  pub move_is : {level floor : ℕ} {inputs : List ℕ} {outputs : List TableRow} → e ≡ Move level floor inputs outputs → e ≡ Move level floor inputs (map row tables)
  move_is {level} {floor} {inputs} {outputs} is =
      let own : CanStage row v s (Move level floor inputs outputs) tables = subst (λ f. CanStage row v s f tables) is can in
      is ∙ ap (Move level floor inputs) (sym own.outputs_are)
