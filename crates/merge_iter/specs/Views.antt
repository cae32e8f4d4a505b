-- What contracts see of a merge.
use Rattle.std.specs.Prelude.{ℕ, suc, ◌<◌, true, false, not, List, Option, get_or, length, map}
use Rattle.peb_base.specs.declared.cursor.Cursor.{Ghosts}
use Rattle.peb_base.specs.declared.entry.Entry.{Entry}
use Rattle.merge_iter.specs.Heads.{current_head}
use Rattle.merge_iter.specs.Moves.{Each}
use Rattle.merge_iter.specs.Standing.{Merged, Stands}
use Rattle.merge_iter.specs.Totals.{total, left, steps_left}
use Rattle.merge_iter.specs.Walking.{WentOver}
use Rattle.merge_iter.specs.declared.merge.Merge.{Merge}

-- the inputs, the place of the current one, the direction, and the last refusal
abbrev pub merged_of : {C : Type 0} {g : Ghosts C} → Merge C g → Merged C
merged_of m = record {
  inputs = m.inputs.items;
  current = m.current;
  is_back = m.is_back;
  refused = m.refused;
}

module _ {C : Type 0} (g : Ghosts C) where
  -- the entries at which the inputs stand
  abbrev pub heads_of : List C → List (Option Entry)
  heads_of inputs = map g.shows inputs

  -- the entry at which it stands
  abbrev pub shown_by : Merged C → Option Entry
  shown_by m = current_head (heads_of m.inputs) m.current

  -- it stands at this place among the entries of all its inputs
  abbrev pub StandsIn : Merged C → List Entry → Option ℕ → Type 0
  StandsIn m es place = Stands g.stands m es place

  -- it can have gone over these entries since its first one
  abbrev pub WalksIn : Merged C → List Entry → Type 0
  WalksIn m es = WentOver g m es

  -- how many steps on there are at most; at a turn an input at no place goes through all of its own
  abbrev pub ahead_of : Merged C → ℕ
  ahead_of m = steps_left m.current (total (left g false m.is_back) m.inputs)

  -- how many steps back
  abbrev pub back_of : Merged C → ℕ
  back_of m = steps_left m.current (total (left g true (not m.is_back)) m.inputs)

  -- how many steps from end to end
  abbrev pub size_of : Merged C → ℕ
  size_of m = suc (total g.size m.inputs)

  -- how often the devices have failed, in all
  abbrev pub faults_of : Merged C → ℕ
  faults_of m = total g.faults m.inputs

  -- it has the same inputs, in the same order, each of which keeps what it keeps
  abbrev pub Keeps : Merged C → Merged C → Type 0
  Keeps a b = Each g.keeps a.inputs b.inputs

  -- damage stands there in the table of one of its inputs
  abbrev pub DamageIn : Merged C → ℕ → ℕ → Type 0
  DamageIn m number at =
      (k : ℕ) × (k < length m.inputs) × ((d : C) → g.damaged (get_or m.inputs k d) number at)
