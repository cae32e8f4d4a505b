-- Which keys a flush chooses as candidates for guards.
use Rattle.std.specs.Prelude.{◌≡◌, ℕ, ◌&&◌, not, if◌then◌else◌, List, [], ◌∷◌, ◌++◌, filter, ⊤, Option, Some, None}
use Rattle.peb_base.specs.Keys.{Bytes}
use Rattle.peb_base.specs.Batches.{Batches, entries_of}
use Rattle.peb_base.specs.Entries.{entries_between, in_order}
use Rattle.peb_base.specs.Choice.{level_of}
use Rattle.flsm_model.specs.Compaction.{is_put}
use Rattle.peb_base.specs.declared.entry.Entry.{Entry}
use Rattle.peb_base.specs.Profiles.{Column}
use Rattle.flsm_model.specs.declared.chosen.Chosen.{Chosen}
use Rattle.flsm_model.specs.declared.edit.Edit.{Edit}
use Rattle.flsm_model.specs.declared.edit.Edit.TheVariants.{Flush}
use Rattle.flsm_model.specs.Ranges.{has_key}
use Rattle.flsm_model.specs.Shape.{Shape}
use Rattle.flsm_model.specs.Fits.{is_chosen}
use Rattle.flsm_model.specs.Trees.{Tree}

-- the keys of puts, each once, in their order
abbrev pub put_keys : List Entry → List Bytes
put_keys [] = []
put_keys (e ∷ es) =
    if is_put e.change && not (has_key e.key (put_keys es))
    then e.key ∷ put_keys es
    else put_keys es

-- the key with its level, if it has one
abbrev pub chosen_at : Bytes → Option ℕ → List Chosen
chosen_at k None = []
chosen_at k (Some level) = record { key = k; level = level } ∷ []

-- the keys among these that have a level, with it
abbrev pub choices : Column → List Bytes → List Chosen
choices o [] = []
choices o (k ∷ ks) = chosen_at k (level_of o k) ++ choices o ks

-- of the entries that are flushed: the keys of puts that have a level and were not chosen before
abbrev pub chosen_by : Column → Shape → List Entry → List Chosen
chosen_by o s es = choices o (filter (λ k. not (is_chosen s.chosen k)) (put_keys es))

-- a flush chooses exactly these
abbrev pub Chooses : Column → Batches → Tree → Edit → Type 0
Chooses o bs t (Flush row from to log chosen) =
    chosen ≡ chosen_by o t.shape (in_order (entries_between from to (entries_of bs)))
Chooses o bs t e = ⊤
