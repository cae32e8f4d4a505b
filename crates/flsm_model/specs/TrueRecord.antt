-- When a record is true of batches: then it is a base from which histories go on.
use Rattle.std.specs.Prelude.{◌≡◌, ℕ, ◌<◌, ◌≤◌, true, List, [], ◌∷◌, ⊤, ◌↔◌}
use Rattle.std.specs.List.{AllZip}
use Rattle.peb_base.specs.Numbers.{session_of}
use Rattle.peb_base.specs.Members.{IsIn}
use Rattle.peb_base.specs.Batches.{Batches, are_in_order, last_number, is_boundary, entries_of}
use Rattle.flsm_model.specs.Compaction.{is_put}
use Rattle.flsm_model.specs.Trees.{Describes, Table, Tree, empty_tree, contents, tree_after, tree_of}
use Rattle.peb_base.specs.declared.entry.Entry.{Entry}
use Rattle.peb_base.specs.Profiles.{Column}
use Rattle.flsm_model.specs.Shape.{Record, shape_of, outputs_of}
use Rattle.flsm_model.specs.Fits.{is_legal_record}
use Rattle.flsm_model.specs.Choices.{Chooses}

-- ---- levels

-- where both hold an entry of a key, the first table's is the newer one
abbrev pub Newer : Table → Table → Type 0
Newer t u =
    (x y : Entry) → IsIn x t.entries → IsIn y u.entries → x.key ≡ y.key → y.number < x.number

-- a key's numbers fall from each level to every deeper one
pub record Falls (ts : List Table) : Type 0 where
  pub falls : (t u : Table) → IsIn t ts → IsIn u ts → t.row.level < u.row.level → Newer t u

-- ---- the newest entries

-- the newest entry of its key at or below a number, among those of which P holds
pub record IsNewest (P : Entry → Type 0) (x : Entry) (m : ℕ) : Type 0 where
  pub here : P x
  pub below : x.number ≤ m
  pub newest : (f : Entry) → P f → f.key ≡ x.key → f.number ≤ m → f.number ≤ x.number

-- at a number P and Q show the same: the newest entries of their keys that are puts
abbrev pub SamePuts : (Entry → Type 0) → (Entry → Type 0) → ℕ → Type 0
SamePuts P Q m = (x : Entry) → is_put x.change ≡ true → IsNewest P x m ↔ IsNewest Q x m

-- the entry is in a live table
pub record Live (t : Tree) (x : Entry) : Type 0 where
  pub table : Table
  pub among : IsIn table t.tables
  pub inside : IsIn x table.entries

-- the entry is one of the batches up to a number
pub record Flushed (bs : Batches) (to : ℕ) (x : Entry) : Type 0 where
  pub entry : IsIn x (entries_of bs)
  pub upto : x.number ≤ to

-- ---- records

-- the outputs of each edit are as many as their contents and described by them, and each flush
-- chooses its keys
abbrev pub DescribedFrom : Column → Batches → Tree → Record → Type 0
DescribedFrom o bs t [] = ⊤
DescribedFrom o bs t (e ∷ es) =
    AllZip (Describes o) (outputs_of e) (contents o bs t e) × Chooses o bs t e
    × DescribedFrom o bs (tree_after o bs t e) es

-- the record is true of the batches
pub record IsTrueRecord (o : Column) (r : Record) (bs : Batches) : Type 0 where
  pub legal : is_legal_record o r ≡ true
  pub ordered : are_in_order bs ≡ true
  pub sessions : session_of (last_number bs) ≤ (shape_of o r).session
  pub boundary : is_boundary (shape_of o r).to bs ≡ true
  pub described : DescribedFrom o bs (empty_tree o) r
  pub falls : Falls (tree_of o bs r).tables
  pub map : SamePuts (Live (tree_of o bs r)) (Flushed bs (tree_of o bs r).shape.to)
      (tree_of o bs r).shape.to
