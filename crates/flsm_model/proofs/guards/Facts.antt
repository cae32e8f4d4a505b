-- What it tells that an edit fits.
use Rattle.std.proofs.Common.{◌≡◌, ℕ, suc, ◌<◌, ◌≤◌, Bool, true, ◌&&◌, ◌||◌, not, List, [], ◌∷◌}
use Rattle.std.specs.Prelude.{◌==◌}
use Rattle.std.specs.List.{list_all}
use Rattle.std.proofs.lemmas.Bool.{and_parts, eqb-true, ltb-true, leb-true}
use Rattle.peb_base.specs.Keys.{Bytes}
use Rattle.flsm_model.specs.Ranges.{keys_ascend, in_range, range_of, first_of, with_keys}
use Rattle.peb_base.specs.declared.table_row.TableRow.{TableRow}
use Rattle.peb_base.specs.Profiles.{Column}
use Rattle.flsm_model.specs.declared.chosen.Chosen.{Chosen}
use Rattle.flsm_model.specs.declared.edit.Edit.TheVariants.{Flush, Move, Cut, Merge}
use Rattle.flsm_model.specs.Shape.{Shape, guards_at, rows_numbered, rows_without}
use Rattle.flsm_model.specs.Fits.{fits, input_range, lie_apart, rows_are_new, numbers_ascend, is_some_list, is_live, is_straddled, lies_in, is_candidate, is_guard}
use Rattle.flsm_model.proofs.lists.Lists.{list_all-weaker}

pub record MoveFits (o : Column) (s : Shape) (level : ℕ) (inputs : List ℕ) (outputs : List TableRow) : Type 0 where
  pub above : level < o.last_level
  pub some : is_some_list inputs ≡ true
  pub ascend : numbers_ascend inputs ≡ true
  pub live : list_all (is_live s) inputs ≡ true
  pub at : list_all (λ r. r.level == level) (rows_numbered inputs s.live) ≡ true
  pub below : list_all (λ r. r.level == suc level) outputs ≡ true
  pub apart : lie_apart (guards_at s (suc level)) outputs ≡ true
  pub fresh : rows_are_new s.session s.used outputs ≡ true

pub move_facts : (o : Column) (s : Shape) (level floor : ℕ) (inputs : List ℕ) (outputs : List TableRow)
    → fits o s (Move level floor inputs outputs) ≡ true → MoveFits o s level inputs outputs
move_facts o s level floor inputs outputs h =
    let p6 = and_parts _ _ h in
    let p5 = and_parts _ _ p6.0 in
    let p4 = and_parts _ _ p5.0 in
    let p3 = and_parts _ _ p4.0 in
    let p2 = and_parts _ _ p3.0 in
    let i5 = and_parts _ _ p2.1 in
    let i4 = and_parts _ _ i5.0 in
    let i3 = and_parts _ _ i4.0 in
    let i2 = and_parts _ _ i3.0 in
    record {
      above = ltb-true level o.last_level p2.0;
      some = i2.1;
      ascend = i2.0;
      live = i3.1;
      at = i4.1;
      below = p3.1;
      apart = p5.1;
      fresh = p6.1;
    }

pub record FlushFits (s : Shape) (row : TableRow) (from to : ℕ) : Type 0 where
  pub follows : from ≡ s.to
  pub rises : from < to
  pub at : row.level ≡ 0
  pub above : from < row.first
  pub upto : row.last ≤ to
  pub fresh : rows_are_new s.session s.used (row ∷ []) ≡ true

pub flush_facts : (o : Column) (s : Shape) (row : TableRow) (from to log : ℕ) (chosen : List Chosen)
    → fits o s (Flush row from to log chosen) ≡ true → FlushFits s row from to
flush_facts o s row from to log chosen h =
    let p11 = and_parts _ _ h in
    let p10 = and_parts _ _ p11.0 in
    let p9 = and_parts _ _ p10.0 in
    let p8 = and_parts _ _ p9.0 in
    let p7 = and_parts _ _ p8.0 in
    let p6 = and_parts _ _ p7.0 in
    let p5 = and_parts _ _ p6.0 in
    let p4 = and_parts _ _ p5.0 in
    let p3 = and_parts _ _ p4.0 in
    let p2 = and_parts _ _ p3.0 in
    record {
      follows = eqb-true from s.to p2.0;
      rises = ltb-true from to p2.1;
      at = eqb-true row.level 0 p7.1;
      above = ltb-true from row.first p8.1;
      upto = leb-true row.last to p9.1;
      fresh = p11.1;
    }

pub record CutFits (o : Column) (s : Shape) (level : ℕ) (keys : List Bytes) (inputs : List ℕ) (outputs : List TableRow) : Type 0 where
  pub ascend : numbers_ascend inputs ≡ true
  pub live : list_all (is_live s) inputs ≡ true
  pub straddled : list_all (is_straddled level (range_of (guards_at s level) (first_of keys)) keys) (rows_numbered inputs s.live) ≡ true
  pub others : list_all (λ r. not (is_straddled level (range_of (guards_at s level) (first_of keys)) keys r)) (rows_without inputs s.live) ≡ true
  pub at : list_all (λ r. r.level == level) outputs ≡ true
  pub fresh : rows_are_new s.session s.used outputs ≡ true
  pub from : 1 ≤ level
  pub upto : level ≤ o.last_level
  pub reached : list_all (in_range (range_of (guards_at s level) (first_of keys)).0 (range_of (guards_at s level) (first_of keys)).1) keys ≡ true
  pub keys_ascend : keys_ascend keys ≡ true
  pub some : is_some_list keys ≡ true
  pub candidates : list_all (λ k. is_candidate s.chosen level k && in_range (range_of (guards_at s level) (first_of keys)).0 (range_of (guards_at s level) (first_of keys)).1 k && not (is_guard s level k)
      && (level == o.last_level || is_guard s (suc level) k)) keys ≡ true
  pub placed : list_all (λ r. lies_in (range_of (with_keys keys (guards_at s level)) r.smallest) r) outputs ≡ true

pub cut_facts : (o : Column) (s : Shape) (level : ℕ) (keys : List Bytes) (inputs : List ℕ) (outputs : List TableRow)
    → fits o s (Cut level keys inputs outputs) ≡ true → CutFits o s level keys inputs outputs
cut_facts o s level keys inputs outputs h =
    let p10 = and_parts _ _ h in
    let p9 = and_parts _ _ p10.0 in
    let p8 = and_parts _ _ p9.0 in
    let p7 = and_parts _ _ p8.0 in
    let p6 = and_parts _ _ p7.0 in
    let p5 = and_parts _ _ p6.0 in
    let p4 = and_parts _ _ p5.0 in
    let p3 = and_parts _ _ p4.0 in
    let p2 = and_parts _ _ p3.0 in
    let p1 = and_parts _ _ p2.0 in
    let range = range_of (guards_at s level) (first_of keys) in
    record {
      keys_ascend = p2.1;
      some = p3.1;
      candidates = p4.1;
      ascend = p5.1;
      live = p6.1;
      straddled = p7.1;
      others = p8.1;
      from = leb-true 1 level p1.0;
      upto = leb-true level o.last_level p1.1;
      reached = list_all-weaker _ (in_range range.0 range.1) keys (λ k x. (and_parts _ _ (and_parts _ _ (and_parts _ _ x).0).0).1) p4.1;
      placed = list_all-weaker _ (λ r. lies_in (range_of (with_keys keys (guards_at s level)) r.smallest) r) outputs (λ r x. (and_parts _ _ x).1) p9.1;
      at = list_all-weaker _ (λ r. r.level == level) outputs (λ r x. (and_parts _ _ (and_parts _ _ x).0).0) p9.1;
      fresh = p10.1;
    }

pub record MergeFits (o : Column) (s : Shape) (inputs : List ℕ) (outputs : List TableRow) : Type 0 where
  pub some : is_some_list inputs ≡ true
  pub ascend : numbers_ascend inputs ≡ true
  pub live : list_all (is_live s) inputs ≡ true
  pub at : list_all (λ r. r.level == o.last_level) (rows_numbered inputs s.live) ≡ true
  pub inside : list_all (lies_in (input_range s o.last_level inputs)) outputs ≡ true
  pub below : list_all (λ r. r.level == o.last_level) outputs ≡ true
  pub fresh : rows_are_new s.session s.used outputs ≡ true

pub merge_facts : (o : Column) (s : Shape) (floor : ℕ) (whole : Bool) (inputs : List ℕ) (outputs : List TableRow)
    → fits o s (Merge floor whole inputs outputs) ≡ true → MergeFits o s inputs outputs
merge_facts o s floor whole inputs outputs h =
    let p5 = and_parts _ _ h in
    let p4 = and_parts _ _ p5.0 in
    let p3 = and_parts _ _ p4.0 in
    let p2 = and_parts _ _ p3.0 in
    let i5 = and_parts _ _ p2.0 in
    let i4 = and_parts _ _ i5.0 in
    let i3 = and_parts _ _ i4.0 in
    let i2 = and_parts _ _ i3.0 in
    record { some = i2.1; ascend = i2.0; live = i3.1; at = i4.1; inside = p4.1; below = p3.1; fresh = p5.1 }
