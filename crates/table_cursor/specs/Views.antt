-- What contracts see of a cursor over a table.
use Rattle.std.specs.Prelude.{◌≡◌, ◌↔◌, ℕ, List, [], Option, None, Result, Ok, Err, OnErr, length, slice_get}
use Rattle.std.proofs.Common.{◌∙◌, sym, subst}
use Rattle.std.specs.Arc.{arc_value}
use Rattle.disk_model.specs.declared.port.Port.{Ghosts}
use Rattle.disk_model.specs.declared.table_handle.TableHandle as handles
use Rattle.peb_base.specs.Cursors.{CountsFaults, IfDamage, refusal}
use Rattle.peb_base.specs.declared.entry.Entry.{Entry}
use Rattle.peb_base.specs.declared.read_fault.ReadFault.{ReadFault}
use Rattle.peb_base.specs.declared.read_fault.ReadFault.TheVariants.{Fault, Damaged}
use Rattle.disk_model.specs.Ports.{ReadsAtMost}
use Rattle.table_file.specs.Tables.{TableParts}
use Rattle.table_cursor.specs.Agreeing.{IsDamageAt, IsDamageOf, IsOfBlock}
use Rattle.table_cursor.specs.Page.{Reading}
use Rattle.table_cursor.specs.Spots.{spot}
use Rattle.table_cursor.specs.Standing.{StandsAt}
use Rattle.table_cursor.specs.Walking.{WalkedOver, most_steps, steps_ahead, steps_back}
use Rattle.table_cursor.specs.declared.table_cursor.TableCursor.{TableCursor}

module _ {P F : Type 0} {p : Ghosts P F} {f : handles.Ghosts F} where
  -- the table
  abbrev pub table_of : TableCursor P F p f → TableParts F
  table_of c = arc_value c.table

  -- the port that it reads through
  abbrev pub port_of : TableCursor P F p f → P
  port_of c = c.port

  -- the block that is read, and the place in it
  abbrev pub page_of : TableCursor P F p f → Reading
  page_of c = c.page

  -- the index of that block
  abbrev pub index_of : TableCursor P F p f → ℕ
  index_of c = c.index

  -- what the last move refused with
  abbrev pub refused_of : TableCursor P F p f → Option ReadFault
  refused_of c = c.refused

  -- how many blocks the table has
  abbrev pub blocks_in : TableCursor P F p f → ℕ
  blocks_in c = length (table_of c).items

  -- the table holds these entries, which its device tells, and it stands at this place among them, or at none
  abbrev pub StandsIn : TableCursor P F p f → List Entry → Option ℕ → Type 0
  StandsIn c es place = StandsAt f (table_of c) (page_of c) (index_of c) es place

  -- the entry at which it stands
  abbrev pub shown_by : TableCursor P F p f → Option Entry
  shown_by c = slice_get (page_of c).entries (page_of c).place

  -- the index of the block and the place in it at which it stands, or none
  abbrev pub spot_of : TableCursor P F p f → Option (ℕ × ℕ)
  spot_of c = spot (index_of c) (page_of c)

  -- it can have gone over these entries since its first one
  abbrev pub WalksIn : TableCursor P F p f → List Entry → Type 0
  WalksIn c es = WalkedOver f (table_of c) (index_of c) (page_of c) es

  -- how many steps on there are at most, and how many back
  abbrev pub ahead_of : TableCursor P F p f → ℕ
  ahead_of c = steps_ahead (blocks_in c) (index_of c) (page_of c)

  abbrev pub back_of : TableCursor P F p f → ℕ
  back_of c = steps_back (index_of c) (page_of c)

  abbrev pub size_of : TableCursor P F p f → ℕ
  size_of c = most_steps (blocks_in c)

  -- damage stands there in its table
  abbrev pub DamageIn : TableCursor P F p f → ℕ → ℕ → Type 0
  DamageIn c number at = IsDamageOf f (table_of c) number at

  -- damage stands there, at the block of this index
  abbrev pub DamageAt : TableCursor P F p f → ℕ → ℕ → ℕ → Type 0
  DamageAt c index number at = IsDamageAt f (table_of c) index number at

  -- the entry is one of a block of its table
  abbrev pub IsOfTable : TableCursor P F p f → Entry → Type 0
  IsOfTable c e = IsOfBlock f (table_of c) e

-- a move with one read at most keeps the table, and shows nothing where it is refused; a steady port
-- never fails it
pub record Turns {P F : Type 0} {p : Ghosts P F} {f : handles.Ghosts F}
    (old new : TableCursor P F p f)
    (result : Result (Unit {0}) ReadFault) : Type 0 where
  pub table : new.table ≡ old.table
  pub nothing : OnErr result ((page_of new).entries ≡ [])
  pub port : ReadsAtMost p 1 (port_of old) (port_of new) (result ≡ Err Fault)
  pub sure : p.steady (port_of old) → result ≡ Err Fault → ⊥

-- what no move changes: the handle of the table is the same, the port has its
-- tables still, and is steady where it was
pub record Keeps {P F : Type 0} {p : Ghosts P F} {f : handles.Ghosts F}
    (a b : TableCursor P F p f) : Type 0 where
  pub table : b.table ≡ a.table
  pub files : p.table_files (port_of b) ≡ p.table_files (port_of a)
  pub steady : p.steady (port_of a) → p.steady (port_of b)

module _ {P F : Type 0} {p : Ghosts P F} {f : handles.Ghosts F} where
  pub keeps_self : (c : TableCursor P F p f) → Keeps c c
  keeps_self c = record {
    table = λ i. c.table;
    files = λ i. p.table_files (port_of c);
    steady =
        λ s. s;
  }

  pub keeps_on : (a b c : TableCursor P F p f) → Keeps a b → Keeps b c → Keeps a c
  keeps_on a b c x y =
      record {
        table = y.table ∙ x.table;
        files = y.files ∙ x.files;
        steady =
            λ s. y.steady (x.steady s);
      }

  -- damage of one block is damage of the table
  pub damage_in : {T : Type 0} (c : TableCursor P F p f) (index : ℕ) (r : Result T ReadFault)
      → IfDamage r (DamageAt c index) → IfDamage r (DamageIn c)
  damage_in c index (Ok x) damage = tt
  damage_in c index (Err Fault) damage = tt
  damage_in c index (Err (Damaged number at)) damage = record { index = index; is = damage }

  pub keeps_damage : (a b : TableCursor P F p f) (number at : ℕ) → Keeps a b
      → DamageIn a number at ↔ DamageIn b number at
  keeps_damage a b number at x = (
    subst (λ t. IsDamageOf f (arc_value t) number at) (sym x.table),
    subst (λ t. IsDamageOf f (arc_value t) number at) x.table,
  )

-- what every move leaves: a refusal shows nothing, is kept, has its cause, and tells damage only of
-- the block at this index, to which the move goes; one read is made at most, and what it keeps stays
pub record Moves {P F : Type 0} {p : Ghosts P F} {f : handles.Ghosts F}
    (old new : TableCursor P F p f)
    (index : ℕ) (result : Result (Unit {0}) ReadFault) : Type 0 where
  pub nothing : OnErr result (shown_by new ≡ None)
  pub refused : refused_of new ≡ refusal result
  pub counts : CountsFaults (p.faults (port_of old)) (p.faults (port_of new)) result
  pub damage : IfDamage result (DamageAt new index)
  pub sure : p.steady (port_of old) → result ≡ Err Fault → ⊥
  pub port : ReadsAtMost p 1 (port_of old) (port_of new) (result ≡ Err Fault)
  pub keeps : Keeps old new
