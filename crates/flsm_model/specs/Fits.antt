-- When an edit fits the edits before it.
use Rattle.std.specs.Prelude.{◌≡◌, ℕ, suc, ◌+◌, ◌-◌, ◌*◌, ◌^◌, Bool, true, false, ◌&&◌, ◌||◌, not, if◌then◌else◌, List, [], ◌∷◌, ◌++◌, length, nat_lt, nat_le, ◌==◌, Option, Some, None, map}
use Rattle.std.specs.List.{list_any, list_all}
use Rattle.peb_base.specs.Keys.{Bytes, key_lt, key_le, key_eq}
use Rattle.peb_base.specs.Numbers.{session_of, count_of}
use Rattle.peb_base.specs.Choice.{level_of}
use Rattle.peb_base.specs.Tables.{is_row}
use Rattle.flsm_model.specs.Compaction.{straddles}
use Rattle.peb_base.specs.declared.table_row.TableRow.{TableRow}
use Rattle.peb_base.specs.Profiles.{Column}
use Rattle.flsm_model.specs.declared.chosen.Chosen.{Chosen}
use Rattle.flsm_model.specs.declared.edit.Edit.{Edit}
use Rattle.flsm_model.specs.declared.edit.Edit.TheVariants.{Open, Flush, Move, Cut, Merge}
use Rattle.flsm_model.specs.Ranges.{is_below, in_range, has_key, neighbours, keys_ascend, first_of, with_keys, range_of}
use Rattle.flsm_model.specs.Shape.{Record, Shape, empty_shape, guards_at, has_number, is_numbered, rows_numbered, rows_without, shape_after, shape_of}

-- ---- guards and candidates

-- an earlier flush chose the key
abbrev pub is_chosen : List Chosen → Bytes → Bool
is_chosen cs key = list_any (λ c. key_eq key c.key) cs

-- the key is a candidate for a guard of the level: it was chosen with this level or with a
-- shallower one
abbrev pub is_candidate : List Chosen → ℕ → Bytes → Bool
is_candidate cs level key = list_any (λ c. nat_le c.level level && key_eq key c.key) cs

-- the key is a guard of the level
abbrev pub is_guard : Shape → ℕ → Bytes → Bool
is_guard s level key = has_key key (guards_at s level)

-- ---- rows in ranges

-- all keys of the row's table lie in the range
abbrev pub lies_in : Bytes × Option Bytes → TableRow → Bool
lies_in range row = key_le range.0 row.smallest && is_below row.largest range.1

-- the range of the guard in which the row begins
abbrev pub range_of_row : List Bytes → TableRow → Bytes × Option Bytes
range_of_row guards row = range_of guards row.smallest

-- the smallest key of the first row, or the empty string
abbrev pub first_smallest : List TableRow → Bytes
first_smallest [] = []
first_smallest (r ∷ rs) = r.smallest

-- the row begins past the guard in which the other one begins
abbrev pub begins_past : List Bytes → TableRow → TableRow → Bool
begins_past guards other row = not (is_below row.smallest (range_of_row guards other).1)

-- each row lies in one guard, and begins past the guard of the row before it
abbrev pub lie_apart : List Bytes → List TableRow → Bool
lie_apart guards rows =
    list_all (λ r. lies_in (range_of_row guards r) r) rows
    && list_all (λ p. begins_past guards p.0 p.1) (neighbours rows)

-- the row is a table of the range that one of the keys splits
abbrev pub is_straddled : ℕ → Bytes × Option Bytes → List Bytes → TableRow → Bool
is_straddled level range keys row =
    row.level == level && lies_in range row && list_any (straddles row) keys

-- ---- numbers and rows of an edit

-- the list isn't empty
abbrev pub is_some_list : {X : Type 0} → List X → Bool
is_some_list [] = false
is_some_list (x ∷ xs) = true

-- the numbers ascend, and none stands twice
abbrev pub numbers_ascend : List ℕ → Bool
numbers_ascend ns = list_all (λ p. nat_lt p.0 p.1) (neighbours ns)

-- a live table has the number
abbrev pub is_live : Shape → ℕ → Bool
is_live s n = is_numbered s.live n

-- the range of the guard in which the first input begins
abbrev pub input_range : Shape → ℕ → List ℕ → Bytes × Option Bytes
input_range s level inputs =
    range_of (guards_at s level) (first_smallest (rows_numbered inputs s.live))

-- inputs of a compaction: ascending, at least one, live, at the level, in one guard
abbrev pub are_inputs : Shape → ℕ → List ℕ → Bool
are_inputs s level inputs =
    numbers_ascend inputs && is_some_list inputs && list_all (is_live s) inputs
    && list_all (λ r. r.level == level) (rows_numbered inputs s.live)
    && list_all (lies_in (input_range s level inputs)) (rows_numbered inputs s.live)

-- the session gives the number; it begins with count 1
abbrev pub is_of_session : ℕ → ℕ → Bool
is_of_session session n = session_of n == session && nat_lt 0 (count_of n)

-- no number stands twice
abbrev pub numbers_differ : List ℕ → Bool
numbers_differ [] = true
numbers_differ (n ∷ ns) = not (has_number n ns) && numbers_differ ns

-- the row is in its form, and has a number of the session that isn't used
abbrev pub is_new : ℕ → List ℕ → TableRow → Bool
is_new session used r =
    is_row 0 r && is_of_session session r.number && not (has_number r.number used)

-- each row is new, and their numbers differ
abbrev pub rows_are_new : ℕ → List ℕ → List TableRow → Bool
rows_are_new session used rows =
    list_all (is_new session used) rows && numbers_differ (map (λ r. r.number) rows)

-- the rows ascend by their smallest keys
abbrev pub rows_ascend : List TableRow → Bool
rows_ascend rows = list_all (λ p. key_lt p.0.smallest p.1.smallest) (neighbours rows)

-- ---- keys of an edit

-- the level is this one
abbrev pub is_level : Option ℕ → ℕ → Bool
is_level None level = false
is_level (Some l) level = l == level

-- the key wasn't chosen before, and has its level
abbrev pub is_choice : Column → Shape → Chosen → Bool
is_choice o s c = not (is_chosen s.chosen c.key) && is_level (level_of o c.key) c.level

-- keys of a flush: ascending, not chosen before, each with its level
abbrev pub are_choices : Column → Shape → List Chosen → Bool
are_choices o s chosen =
    list_all (λ p. key_lt p.0.key p.1.key) (neighbours chosen)
    && list_all (is_choice o s) chosen

-- the key may be cut at the level: a candidate in the range that is no guard there yet, and is one
-- of the next level
abbrev pub may_be_cut : Column → Shape → ℕ → Bytes × Option Bytes → Bytes → Bool
may_be_cut o s level range key =
    is_candidate s.chosen level key && in_range range.0 range.1 key && not (is_guard s level key)
    && (level == o.last_level || is_guard s (suc level) key)

-- the row of a piece of a cut: at the level, in the range that is cut, and in one of the guards
-- after the cut
abbrev pub is_cut_output : ℕ → Bytes × Option Bytes → List Bytes → TableRow → Bool
is_cut_output level range guards row =
    row.level == level && lies_in range row && lies_in (range_of_row guards row) row

-- ---- edits

-- the edit fits the shape
abbrev pub fits : Column → Shape → Edit → Bool
fits o s (Open session log) =
    nat_lt s.session session && nat_le s.log log && nat_le 1 log
    && nat_le log ((session - 1) * 2 ^ 41 + 1)
fits o s (Flush row from to log chosen) =
    from == s.to && nat_lt from to && nat_lt s.log log && nat_lt 1 log
    && nat_lt to ((s.session + 1) * 2 ^ 40)
    && nat_le log (s.session * 2 ^ 41) && row.level == 0 && nat_lt from row.first
    && nat_le row.last to
    && are_choices o s chosen && rows_are_new s.session s.used (row ∷ [])
fits o s (Move level floor inputs outputs) =
    nat_lt level o.last_level && are_inputs s level inputs
    && list_all (λ r. r.level == suc level) outputs && rows_ascend outputs
    && lie_apart (guards_at s (suc level)) outputs
    && rows_are_new s.session s.used outputs
fits o s (Cut level keys inputs outputs) =
    let range = range_of (guards_at s level) (first_of keys) in
    nat_le 1 level && nat_le level o.last_level && keys_ascend keys && is_some_list keys
    && list_all (may_be_cut o s level range) keys
    && numbers_ascend inputs && list_all (is_live s) inputs
    && list_all (is_straddled level range keys) (rows_numbered inputs s.live)
    && list_all (λ r. not (is_straddled level range keys r)) (rows_without inputs s.live)
    && list_all (is_cut_output level range (with_keys keys (guards_at s level))) outputs
    && rows_are_new s.session s.used outputs
fits o s (Merge floor whole inputs outputs) =
    are_inputs s o.last_level inputs && nat_le (length outputs) 1
    && list_all (λ r. r.level == o.last_level) outputs
    && list_all (lies_in (input_range s o.last_level inputs)) outputs
    && rows_are_new s.session s.used outputs

-- each of the edits fits those before it
abbrev pub fit_from : Column → Shape → Record → Bool
fit_from o s [] = true
fit_from o s (e ∷ es) = fits o s e && fit_from o (shape_after s e) es

-- each edit of the record fits those before it
abbrev pub is_legal_record : Column → Record → Bool
is_legal_record o r = fit_from o (empty_shape o) r

-- the shape is that of this record, which is legal
pub record IsShapeOf (o : Column) (s : Shape) (r : Record) : Type 0 where
  pub legal : is_legal_record o r ≡ true
  pub shape : s ≡ shape_of o r

-- of the record that the old shape is of: the edit was taken in exactly where the record with it is
-- legal, and the new shape is of what then stands
abbrev pub GoesOn : Column → Shape → Shape → Edit → Bool → Type 0
GoesOn o old new e taken =
    (r : Record) → IsShapeOf o old r
    → (taken ≡ is_legal_record o (r ++ e ∷ [])) × IsShapeOf o new (if taken then r ++ e ∷ [] else r)
