-- What contracts see of a cursor as a number sees it.
use Rattle.std.specs.Prelude.{◌≡◌, ℕ, false, List, [], Option}
use Rattle.peb_base.specs.declared.cursor.Cursor.{Ghosts}
use Rattle.peb_base.specs.declared.entry.Entry.{Entry}
use Rattle.merge_iter.specs.Seeing.{Sees, put_at_most, visible, key_past, is_hidden}
use Rattle.merge_iter.specs.declared.visible.Visible.{Visible}

-- the cursor
abbrev pub inner_of : {C : Type 0} → Visible C → C
inner_of v = v.inner

-- the number that sees its entries
abbrev pub number_of_view : {C : Type 0} → Visible C → ℕ
number_of_view v = v.number

-- the entry at which it stands
abbrev pub seen_by : {C : Type 0} → Ghosts C → Visible C → Option Entry
seen_by g v = put_at_most v.number (g.shows v.inner)

-- it stands at this place among the visible ones of these sorted entries
abbrev pub SeesIn : {C : Type 0} → Ghosts C → Visible C → List Entry → Option ℕ → Type 0
SeesIn g v es place = Sees g v.number v.inner es place

-- over any device: its cursor can have gone over entries since its first one, of which the number sees these
pub record HasPassed {C : Type 0} (g : Ghosts C) (v : Visible C) (given : List Entry) : Type 0 where
  pub over : List Entry
  pub walks : g.walks v.inner over
  pub sees : visible v.number over ≡ given
  pub key : v.key ≡ key_past v.number [] over

-- and it stands at one more that the number sees, or at the end
pub record HasShown {C : Type 0} (g : Ghosts C) (v : Visible C) (given : List Entry) : Type 0 where
  pub passed : HasPassed g v given
  pub stops : is_hidden v.number v.key (g.shows v.inner) ≡ false
