-- How often an entry is written into a level, and how often a new guard falls into a table that
-- holds it. Its number names an entry.
use Rattle.std.specs.Prelude.{ℕ, ◌+◌, Bool, true, false, ◌&&◌, if◌then◌else◌, List, [], ◌∷◌, nat_lt, ◌==◌}
use Rattle.std.specs.List.{list_any}
use Rattle.peb_base.specs.Batches.{Batches}
use Rattle.flsm_model.specs.Compaction.{straddles}
use Rattle.peb_base.specs.declared.entry.Entry.{Entry}
use Rattle.peb_base.specs.Profiles.{Column}
use Rattle.flsm_model.specs.declared.edit.Edit.{Edit}
use Rattle.flsm_model.specs.declared.edit.Edit.TheVariants.{Cut}
use Rattle.flsm_model.specs.Shape.{Record}
use Rattle.flsm_model.specs.Trees.{Table, Tree, written_by, tables_numbered, tree_after}

-- the entry numbered q is among these
abbrev pub holds : ℕ → List Entry → Bool
holds q es = list_any (λ e. e.number == q) es

-- 1 where the test holds, else 0
abbrev pub one_if : Bool → ℕ
one_if true = 1
one_if false = 0

-- the sum over a list
abbrev pub total : {X : Type 0} → (X → ℕ) → List X → ℕ
total f [] = 0
total f (x ∷ xs) = f x + total f xs

-- how often the entry stands in a list
abbrev pub copies : ℕ → List Entry → ℕ
copies q es = total (λ e. one_if (e.number == q)) es

-- how often the entry stands in tables
abbrev pub copies_in : ℕ → List Table → ℕ
copies_in q ts = total (λ t. copies q t.entries) ts

-- how often the entry stands in tables above the level
abbrev pub copies_above : ℕ → ℕ → List Table → ℕ
copies_above q level ts = total (λ t. if nat_lt t.row.level level then copies q t.entries else 0) ts

-- how many of the tables at the level hold the entry
abbrev pub tables_holding : ℕ → ℕ → List Table → ℕ
tables_holding q level ts = total (λ t. one_if (t.row.level == level && holds q t.entries)) ts

-- how many tables with the entry an edit writes at the level
abbrev pub writes : Column → Batches → Tree → ℕ → ℕ → Edit → ℕ
writes o bs t q level e = tables_holding q level (written_by o bs t e)

-- how many of the new guards of an edit fall into inputs at the level that hold the entry
abbrev pub cuts_of : Tree → ℕ → ℕ → Edit → ℕ
cuts_of t q level (Cut l keys inputs outputs) =
    if l == level
    then total (λ x. if holds q x.entries then total (λ k. one_if (straddles x.row k)) keys else 0)
    (tables_numbered inputs t.tables)
    else 0
cuts_of t q level e = 0

-- the writes of all edits
abbrev pub writes_from : Column → Batches → Tree → ℕ → ℕ → Record → ℕ
writes_from o bs t q level [] = 0
writes_from o bs t q level (e ∷ es) =
    writes o bs t q level e + writes_from o bs (tree_after o bs t e) q level es

-- the cuts of all edits
abbrev pub cuts_from : Column → Batches → Tree → ℕ → ℕ → Record → ℕ
cuts_from o bs t q level [] = 0
cuts_from o bs t q level (e ∷ es) =
    cuts_of t q level e + cuts_from o bs (tree_after o bs t e) q level es
