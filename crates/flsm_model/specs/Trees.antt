-- The tables of a record with their entries: what each edit writes, over the batches.
use Rattle.std.specs.Prelude.{◌≡◌, ℕ, suc, false, not, if◌then◌else◌, List, [], ◌∷◌, ◌++◌, filter, flat_map, ◌==◌}
use Rattle.peb_base.specs.Batches.{Batches, entries_of}
use Rattle.peb_base.specs.Entries.{entries_between, in_order}
use Rattle.peb_base.specs.Tables.{IsRowOf, table_length}
use Rattle.flsm_model.specs.Compaction.{kept, pieces, some_entries}
use Rattle.peb_base.specs.declared.entry.Entry.{Entry}
use Rattle.peb_base.specs.declared.table_row.TableRow.{TableRow}
use Rattle.peb_base.specs.Profiles.{Column}
use Rattle.flsm_model.specs.declared.edit.Edit.{Edit}
use Rattle.flsm_model.specs.declared.edit.Edit.TheVariants.{Open, Flush, Move, Cut, Merge}
use Rattle.flsm_model.specs.Shape.{Record, Shape, empty_shape, guards_at, has_number, inputs_of, outputs_of, shape_after}

-- a sorted table: its row and its entries
pub record Table : Type 0 where
  pub row : TableRow
  pub entries : List Entry

-- the tree of a record: its shape, and its live tables
pub record Tree : Type 0 where
  pub shape : Shape
  pub tables : List Table

-- the rows of tables
abbrev pub rows_of : List Table → List TableRow
rows_of [] = []
rows_of (t ∷ ts) = t.row ∷ rows_of ts

-- before the first edit
abbrev pub empty_tree : Column → Tree
empty_tree o = record { shape = empty_shape o; tables = [] }

-- the entries of the table of this number
abbrev pub content_of : List Table → ℕ → List Entry
content_of [] n = []
content_of (t ∷ ts) n = if t.row.number == n then t.entries else content_of ts n

-- all entries of the inputs, in order
abbrev pub merged : List Table → List ℕ → List Entry
merged tables inputs = in_order (flat_map (content_of tables) inputs)

-- what the outputs of an edit hold, in their order
abbrev pub contents : Column → Batches → Tree → Edit → List (List Entry)
contents o bs t (Open session log) = []
contents o bs t (Flush row from to log chosen) =
    in_order (entries_between from to (entries_of bs)) ∷ []
contents o bs t (Move level floor inputs outputs) =
    pieces (kept (merged t.tables inputs) floor false) (guards_at t.shape (suc level))
contents o bs t (Cut level keys inputs outputs) =
    flat_map (λ n. pieces (content_of t.tables n) keys) inputs
contents o bs t (Merge floor whole inputs outputs) =
    some_entries (kept (merged t.tables inputs) floor whole)

-- rows with their contents
abbrev pub paired : List TableRow → List (List Entry) → List Table
paired [] cs = []
paired (r ∷ rs) [] = []
paired (r ∷ rs) (c ∷ cs) = record { row = r; entries = c } ∷ paired rs cs

-- the row tells of these entries, and of the length of their table
pub record Describes (o : Column) (row : TableRow) (es : List Entry) : Type 0 where
  pub tells : IsRowOf row es
  pub bytes : row.bytes ≡ table_length o es

-- the tables that an edit adds
abbrev pub written_by : Column → Batches → Tree → Edit → List Table
written_by o bs t e = paired (outputs_of e) (contents o bs t e)

-- the tables of these numbers
abbrev pub tables_numbered : List ℕ → List Table → List Table
tables_numbered ns ts = filter (λ t. has_number t.row.number ns) ts

-- the other tables
abbrev pub tables_without : List ℕ → List Table → List Table
tables_without ns ts = filter (λ t. not (has_number t.row.number ns)) ts

-- the tree after an edit
abbrev pub tree_after : Column → Batches → Tree → Edit → Tree
tree_after o bs t e =
    record {
      shape = shape_after t.shape e;
      tables = tables_without (inputs_of e) t.tables ++ written_by o bs t e;
    }

-- the tree after further edits
abbrev pub tree_from : Column → Batches → Tree → Record → Tree
tree_from o bs t [] = t
tree_from o bs t (e ∷ es) = tree_from o bs (tree_after o bs t e) es

-- the tree of a record over batches
abbrev pub tree_of : Column → Batches → Record → Tree
tree_of o bs r = tree_from o bs (empty_tree o) r
