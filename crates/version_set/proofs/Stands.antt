-- Versions in which one level is changed.
use Rattle.std.proofs.Common.{◌≡◌, ◌≢◌, ℕ, zero, suc, ◌-◌, ◌<◌, Bool, true, false, cond, List, [], ◌∷◌, ◌++◌, length, refl, sym, ap, ◌∙◌, subst, inl, inr, ◌⊎◌, arith, append-nil}
use Rattle.std.specs.Prelude.{map, filter, ◌==◌, get_or, set}
use Rattle.std.specs.List.{AllByRecursion}
use Rattle.std.proofs.lemmas.Bool.{cases_eq}
use Rattle.std.proofs.lemmas.List.{get_or-set_same, get_or-set_other, length-set}
use Rattle.peb_base.specs.Guards.{Ascend, guard_of}
use Rattle.peb_base.specs.Keys.{Bytes}
use Rattle.peb_base.specs.Members.{IsIn}
use Rattle.peb_base.specs.declared.entry.Entry.{Entry}
use Rattle.peb_base.specs.declared.table_row.TableRow.{TableRow}
use Rattle.flsm_model.specs.Shape.{rows_without}
use Rattle.flsm_model.specs.Ledgers.{rows_at}
use Rattle.flsm_model.specs.Ranges.{with_keys}
use Rattle.guard_level.specs.Guards.{Guards, tables_of, IsCopy}
use Rattle.guard_level.specs.TableLists.{AreShared}
use Rattle.version.specs.Levels.{Levels, level_at, no_guards}
use Rattle.version_set.specs.Shapes.{rows_of_guard, HasRows, IsOfLevel, HasTables}
use Rattle.version_set.specs.Changes.{EachTable, Change, Changes, IsTaken, IsMade, AreInputs, IsChanged, IsWhole, LiesInOne, AreTablesOf, guards_after, live_after}
use Rattle.version_set.proofs.Rows.{rows_after, rows_here, rows_elsewhere, without_elsewhere, in_filtered}

-- ---- what holds of each

pub all_weaker : {X : Type 0} (P Q : X → Type 0) (xs : List X) → ((x : X) → P x → Q x) → AllByRecursion P xs → AllByRecursion Q xs
all_weaker P Q [] on all = tt
all_weaker P Q (x ∷ xs) on all = (on x all.0, all_weaker P Q xs on all.1)

pub all_filtered : {X : Type 0} (P : X → Type 0) (p : X → Bool) (xs : List X) → AllByRecursion P xs → AllByRecursion P (filter p xs)
all_filtered P p [] all = tt
all_filtered {X} P p (x ∷ xs) all = by (p x) (all_filtered P p xs all.1)
  where
    by : (b : Bool) → AllByRecursion P (filter p xs) → AllByRecursion P (cond b (x ∷ filter p xs) (filter p xs))
    by true rest = (all.0, rest)
    by false rest = rest

pub all_of_map : {X Y : Type 0} (P : Y → Type 0) (f : X → Y) (xs : List X) → AllByRecursion P (map f xs) → AllByRecursion (λ x. P (f x)) xs
all_of_map P f [] all = tt
all_of_map P f (x ∷ xs) all = (all.0, all_of_map P f xs all.1)

pub all_in : {X : Type 0} (P : X → Type 0) (xs : List X) → ((x : X) → IsIn x xs → P x) → AllByRecursion P xs
all_in P [] each = tt
all_in P (x ∷ xs) each = (each x (inl refl), all_in P xs (λ y among. each y (inr among)))

-- what holds of the rows of a level holds of its tables
pub each_of_rows : {T : Type 0} (row : T → TableRow) (P : TableRow → Type 0) (g : Guards T) (rows : List TableRow) → HasRows row g rows → AllByRecursion P rows → EachTable (λ t. P (row t)) g
each_of_rows row P g rows each all guard =
    all_of_map P row (tables_of g guard) (subst (AllByRecursion P) (sym (each guard)) (all_filtered P (λ r. guard_of r.smallest g.keys == guard) rows all))

-- no key splits a table
pub uncut : {T : Type 0} (row : T → TableRow) (keys : List Bytes) (g : Guards T) (rows : List TableRow) → HasRows row g rows → AllByRecursion (λ key. AllByRecursion (IsWhole key) rows) keys
    → AllByRecursion (λ key. EachTable (λ t. IsWhole key (row t)) g) keys
uncut {T} row keys g rows each all =
    all_weaker (λ key. AllByRecursion (IsWhole key) rows) (λ key. EachTable (λ (t : T). IsWhole key (row t)) g) keys (λ key whole. each_of_rows row (IsWhole key) g rows each whole) all

-- ---- copies

pub shared_rows : {T : Type 0} (row : T → TableRow) (holds : T → List Entry → Type 0) (ts us : List T) → AreShared row holds ts us → map row us ≡ map row ts
shared_rows row holds [] [] h = refl
shared_rows row holds [] (u ∷ us) h = absurd h
shared_rows row holds (t ∷ ts) [] h = absurd h
shared_rows row holds (t ∷ ts) (u ∷ us) h = ap (λ rs. row u ∷ rs) (shared_rows row holds ts us h.2) ∙ ap (λ r. r ∷ map row ts) h.0

pub copied : {T : Type 0} (row : T → TableRow) (holds : T → List Entry → Type 0) (g copy : Guards T) (rows : List TableRow) → IsCopy row holds g copy → HasRows row g rows → HasRows row copy rows
copied row holds g copy rows same each guard =
    shared_rows row holds (tables_of g guard) (tables_of copy guard) (same.tables guard) ∙ each guard ∙ ap (λ ks. rows_of_guard ks guard rows) (sym same.keys)

-- ---- one level in place of another

pub set_same : {X : Type 0} (xs : List X) (i : ℕ) (d : X) → set xs i (get_or xs i d) ≡ xs
set_same [] i d = refl
set_same (x ∷ xs) zero d = refl
set_same (x ∷ xs) (suc i) d = ap (λ ys. x ∷ ys) (set_same xs i d)

module _ {T : Type 0} (row : T → TableRow) (v : Levels T) (guards : List (List Bytes)) (live : List TableRow) (c : Change) (may : Changes row v guards live c) where
  here : rows_at c.level (live_after live c) ≡ rows_without c.inputs (rows_at c.level live) ++ c.outputs
  here = rows_after c.level c.inputs live c.outputs ∙ ap (λ rs. rows_without c.inputs (rows_at c.level live) ++ rs) (rows_here c.level c.outputs may.outputs_are)

  elsewhere : (other : ℕ) → c.level ≢ other → rows_at other (live_after live c) ≡ rows_at other live
  elsewhere other apart =
      rows_after other c.inputs live c.outputs ∙ ap (λ rs. rows_without c.inputs (rows_at other live) ++ rs) (rows_elsewhere c.level other c.outputs may.outputs_are apart)
      ∙ append-nil (rows_without c.inputs (rows_at other live)) ∙ without_elsewhere c.level other c.inputs live may.own apart

  pub changed_top : (top : List T) → c.level ≡ 0 → map row top ≡ rows_without c.inputs (rows_at 0 live) ++ c.outputs → HasTables row (record v { top = top }) (guards_after guards c) (live_after live c)
  changed_top top is rows = record {
    count = may.stands.count ∙ ap length (sym same);
    top = rows ∙ sym (subst (λ (l : ℕ). rows_at l (live_after live c) ≡ rows_without c.inputs (rows_at l live) ++ c.outputs) is here);
    deeper = λ n within.
        let inside : n < length guards = subst (λ (gs : List (List Bytes)). n < length gs) same within in
        subst (λ (gs : List (List Bytes)). IsOfLevel row (level_at v n) (get_or gs n []) (rows_at (suc n) (live_after live c))) (sym same)
        (subst (λ (rs : List TableRow). IsOfLevel row (level_at v n) (get_or guards n []) rs) (sym (elsewhere (suc n) (λ e. omega (arith, e, is)))) (may.stands.deeper n inside));
  }
    where
      same : guards_after guards c ≡ guards
      same = ap (λ ks. set guards (c.level - 1) (with_keys ks (get_or guards (c.level - 1) []))) (may.top is) ∙ set_same guards (c.level - 1) []

  pub changed_level : (g : Guards T) → c.level ≢ 0 → IsChanged row (level_at v (c.level - 1)) g (rows_at c.level live) c
      → HasTables row (record v { levels = set v.levels (c.level - 1) g }) (guards_after guards c) (live_after live c)
  changed_level g some is = record {
    count = length-set v.levels at g ∙ may.stands.count ∙ sym (length-set guards at keys);
    top = may.stands.top ∙ sym (elsewhere 0 some);
    deeper = λ n within. by n (subst (λ (l : ℕ). n < l) (length-set guards at keys) within) (cases_eq n at);
  }
    where
      at : ℕ
      at = c.level - 1

      level_is : c.level ≡ suc at
      level_is = omega (arith, some)

      keys : List Bytes
      keys = with_keys c.keys (get_or guards at [])

      inside : at < length guards
      inside = omega (arith, may.within, level_is)

      in_levels : at < length v.levels
      in_levels = omega (arith, inside, may.stands.count)

      own : IsOfLevel row g keys (rows_at (suc at) (live_after live c))
      own = record {
        keys_are = is.keys_are ∙ ap (with_keys c.keys) (may.stands.deeper at inside).keys_are;
        each = subst (HasRows row g) (sym (subst (λ (l : ℕ). rows_at l (live_after live c) ≡ rows_without c.inputs (rows_at c.level live) ++ c.outputs) level_is here)) is.each;
      }

      by : (n : ℕ) → n < length guards → (n ≡ at) ⊎ (n ≢ at) → IsOfLevel row (get_or (set v.levels at g) n no_guards) (get_or (set guards at keys) n []) (rows_at (suc n) (live_after live c))
      by n within (inl same) =
          subst (λ (i : ℕ). IsOfLevel row (get_or (set v.levels at g) i no_guards) (get_or (set guards at keys) i []) (rows_at (suc i) (live_after live c))) (sym same)
          (subst (λ (ks : List Bytes). IsOfLevel row (get_or (set v.levels at g) at no_guards) ks (rows_at (suc at) (live_after live c))) (sym (get_or-set_same guards at keys [] inside))
          (subst (λ (h : Guards T). IsOfLevel row h keys (rows_at (suc at) (live_after live c))) (sym (get_or-set_same v.levels at g no_guards in_levels)) own))
      by n within (inr other) =
          subst (λ (rs : List TableRow). IsOfLevel row (get_or (set v.levels at g) n no_guards) (get_or (set guards at keys) n []) rs) (sym (elsewhere (suc n) (λ e. other (omega (arith, e, level_is)))))
          (subst (λ (ks : List Bytes). IsOfLevel row (get_or (set v.levels at g) n no_guards) ks (rows_at (suc n) live)) (sym (get_or-set_other guards at n keys [] other))
          (subst (λ (h : Guards T). IsOfLevel row h (get_or guards n []) (rows_at (suc n) live)) (sym (get_or-set_other v.levels at n g no_guards other)) (may.stands.deeper n within)))

-- tables of rows of a level are tables of live rows
pub taken_live : {T : Type 0} (row : T → TableRow) (ns : List ℕ) (level : ℕ) (live : List TableRow) (ts : List T) → AreTablesOf row ns (rows_at level live) ts → AreTablesOf row ns live ts
taken_live {T} row ns level live ts are = record {
  numbered = are.numbered;
  among = all_weaker (λ (t : T). IsIn (row t) (rows_at level live)) (λ (t : T). IsIn (row t) live) ts (λ t h. (in_filtered (λ (r : TableRow). r.level == level) (row t) live h).0) are.among;
}

-- ---- the steps of a change

-- the level is copied, its inputs are taken, its keys are cut, its outputs are appended
pub record Steps {T : Type 0} (row : T → TableRow) (holds : T → List Entry → Type 0) (old copy taken cut done : Guards T) (gone : List T) (c : Change) : Type 0 where
  pub copied_is : IsCopy row holds old copy
  pub taken_keys : taken.keys ≡ copy.keys
  pub taken_rows : (rows : List TableRow) → HasRows row copy rows → AreInputs c.inputs rows → IsTaken row (HasRows row taken) gone c.inputs rows
  pub cut_keys : cut.keys ≡ with_keys c.keys taken.keys
  pub cut_rows : (rows : List TableRow) → HasRows row taken rows → HasRows row cut rows
  pub done_keys : done.keys ≡ cut.keys
  pub done_rows : (rows : List TableRow) → HasRows row cut rows → HasRows row done (rows ++ c.outputs)

-- the rows of the level that changes
pub level_rows : {T : Type 0} (row : T → TableRow) (v : Levels T) (guards : List (List Bytes)) (live : List TableRow) (c : Change) → Changes row v guards live c → c.level ≢ 0
    → IsOfLevel row (level_at v (c.level - 1)) (get_or guards (c.level - 1) []) (rows_at c.level live)
level_rows row v guards live c may some =
    subst (λ l. IsOfLevel row (level_at v (c.level - 1)) (get_or guards (c.level - 1) []) (rows_at l live)) (omega (arith, some))
    (may.stands.deeper (c.level - 1) (omega (arith, some, may.within)))

-- after the inputs are taken no key splits a table
pub can_cut : {T : Type 0} (row : T → TableRow) (holds : T → List Entry → Type 0) (v : Levels T) (guards : List (List Bytes)) (live : List TableRow) (c : Change) (old copy taken : Guards T) (gone : List T)
    → Changes row v guards live c → c.level ≢ 0 → old ≡ level_at v (c.level - 1) → Ascend [] old.keys → IsCopy row holds old copy
    → ((rows : List TableRow) → HasRows row copy rows → AreInputs c.inputs rows → IsTaken row (HasRows row taken) gone c.inputs rows)
    → AllByRecursion (λ key. EachTable (λ t. IsWhole key (row t)) taken) c.keys
can_cut {T} row holds v guards live c old copy taken gone may some old_is ascend same takes =
    let is = subst (λ (l : Guards T). IsOfLevel row l (get_or guards (c.level - 1) []) (rows_at c.level live)) (sym old_is) (level_rows row v guards live c may some) in
    let can = may.deeper some (subst (Ascend []) is.keys_are ascend) in
    let took = takes (rows_at c.level live) (copied row holds old copy (rows_at c.level live) same is.each) may.inputs_are in
    uncut row c.keys taken (rows_without c.inputs (rows_at c.level live)) took.has can.whole

-- after the keys are cut each output lies in one guard
pub can_append : {T : Type 0} (row : T → TableRow) (holds : T → List Entry → Type 0) (v : Levels T) (guards : List (List Bytes)) (live : List TableRow) (c : Change) (old copy taken cut : Guards T) (tables : List T)
    → Changes row v guards live c → c.level ≢ 0 → old ≡ level_at v (c.level - 1) → Ascend [] old.keys → IsCopy row holds old copy
    → taken.keys ≡ copy.keys → cut.keys ≡ with_keys c.keys taken.keys → c.outputs ≡ map row tables → AllByRecursion (λ t. LiesInOne cut.keys (row t)) tables
can_append {T} row holds v guards live c old copy taken cut tables may some old_is ascend same taken_keys cut_keys outputs =
    let is = subst (λ (l : Guards T). IsOfLevel row l (get_or guards (c.level - 1) []) (rows_at c.level live)) (sym old_is) (level_rows row v guards live c may some) in
    let can = may.deeper some (subst (Ascend []) is.keys_are ascend) in
    let keys : cut.keys ≡ with_keys c.keys (get_or guards (c.level - 1) []) = cut_keys ∙ ap (with_keys c.keys) (taken_keys ∙ same.keys ∙ is.keys_are) in
    all_of_map (LiesInOne cut.keys) row tables (subst (AllByRecursion (LiesInOne cut.keys)) outputs (subst (λ ks. AllByRecursion (LiesInOne ks) c.outputs) (sym keys) can.lie))

-- the version with that level
pub made_level : {T : Type 0} (row : T → TableRow) (holds : T → List Entry → Type 0) (v next : Levels T) (guards : List (List Bytes)) (live : List TableRow) (c : Change) (old copy taken cut done : Guards T) (gone : List T)
    → Changes row v guards live c → c.level ≢ 0 → old ≡ level_at v (c.level - 1) → Steps row holds old copy taken cut done gone c → next ≡ record v { levels = set v.levels (c.level - 1) done }
    → IsMade row (next, gone) guards live c
made_level {T} row holds v next guards live c old copy taken cut done gone may some old_is steps is = record {
  stands = subst (λ (w : Levels T). HasTables row w (guards_after guards c) (live_after live c)) (sym is) (changed_level row v guards live c may done some
      (subst (λ (l : Guards T). IsChanged row l done (rows_at c.level live) c) old_is changed));
  inputs_are = taken_live row c.inputs c.level live gone took.tables_are;
}
  where
    level : IsOfLevel row old (get_or guards (c.level - 1) []) (rows_at c.level live)
    level = subst (λ (l : Guards T). IsOfLevel row l (get_or guards (c.level - 1) []) (rows_at c.level live)) (sym old_is) (level_rows row v guards live c may some)

    took : IsTaken row (HasRows row taken) gone c.inputs (rows_at c.level live)
    took = steps.taken_rows (rows_at c.level live) (copied row holds old copy (rows_at c.level live) steps.copied_is level.each) may.inputs_are

    changed : IsChanged row old done (rows_at c.level live) c
    changed = record {
      keys_are = steps.done_keys ∙ steps.cut_keys ∙ ap (with_keys c.keys) (steps.taken_keys ∙ steps.copied_is.keys);
      each = steps.done_rows (rows_without c.inputs (rows_at c.level live)) (steps.cut_rows (rows_without c.inputs (rows_at c.level live)) took.has);
    }

-- the version with other tables of level 0
pub made_top : {T : Type 0} (row : T → TableRow) (v next : Levels T) (guards : List (List Bytes)) (live : List TableRow) (c : Change) (shared taken done : List T) (gone : List T)
    → Changes row v guards live c → c.level ≡ 0 → map row shared ≡ map row v.top
    → ((rows : List TableRow) → map row shared ≡ rows → AreInputs c.inputs rows → IsTaken row (λ rs. map row taken ≡ rs) gone c.inputs rows)
    → map row done ≡ map row taken ++ c.outputs → next ≡ record v { top = done } → IsMade row (next, gone) guards live c
made_top {T} row v next guards live c shared taken done gone may is same takes appended made = record {
  stands = subst (λ (w : Levels T). HasTables row w (guards_after guards c) (live_after live c)) (sym made)
      (changed_top row v guards live c may done is (appended ∙ ap (λ rs. rs ++ c.outputs) took.has));
  inputs_are = taken_live row c.inputs 0 live gone took.tables_are;
}
  where
    took : IsTaken row (λ rs. map row taken ≡ rs) gone c.inputs (rows_at 0 live)
    took = takes (rows_at 0 live) (same ∙ may.stands.top) (subst (λ l. AreInputs c.inputs (rows_at l live)) is may.inputs_are)
