-- When the store is settled: nothing waits to be flushed or compacted, and memtables were frozen in
-- time.
use Rattle.std.specs.Prelude.{◌≡◌, ℕ, ◌≤◌, Bool, true, false, ◌&&◌, ◌||◌, not, List, [], ◌∷◌, nat_le, ◌==◌, Option, Some, None, is_none}
use Rattle.peb_base.specs.Profiles.{Column}
use Rattle.peb_base.specs.Batches.{entries_of}
use Rattle.peb_base.specs.Entries.{size_of, entries_between}
use Rattle.flsm_model.specs.Events.{Event, Commit, Freeze, Session, Standing, last_of}
use Rattle.flsm_model.specs.Steps.{step, run}
use Rattle.flsm_model.specs.Picking.{over_at, picked}

-- nothing is frozen
abbrev pub none_frozen : Option Session → Bool
none_frozen None = true
none_frozen (Some n) = is_none n.frozen

-- the memtable has reached its limit, and nothing is frozen
abbrev pub is_full : Column → Standing → Option Session → Bool
is_full o w None = false
is_full o w (Some n) =
    is_none n.frozen
    && nat_le o.mem_limit (size_of (entries_between n.mem_from (last_of w) (entries_of w.batches)))

-- a Freeze comes, and before it no Commit of the actor
abbrev pub freezes_before : ℕ → List Event → Bool
freezes_before actor [] = false
freezes_before actor (Freeze n ∷ es) = true
freezes_before actor (Commit other first ops ∷ es) = not (other == actor) && freezes_before actor es
freezes_before actor (e ∷ es) = freezes_before actor es

-- each Commit that fills the memtable is followed by a Freeze before its actor's next Commit
abbrev pub freezes_in_time : Column → Standing → List Event → Bool
freezes_in_time o w [] = true
freezes_in_time o w (Commit actor first ops ∷ es) =
    let after = step o w (Commit actor first ops) in
    (not (is_full o after after.session) || freezes_before actor es) && freezes_in_time o after es
freezes_in_time o w (e ∷ es) = freezes_in_time o (step o w e) es

-- after the history nothing is frozen, level 0 and each guard have room, and memtables were frozen
-- in time
pub record Settled (o : Column) (w : Standing) (h : List Event) : Type 0 where
  pub frozen : none_frozen (run o w h).session ≡ true
  pub room : (level : ℕ) → level ≤ o.last_level → over_at o (run o w h).tree.shape level ≡ []
  pub in_time : freezes_in_time o w h ≡ true

-- ---- runs without workers

-- no job is picked
abbrev pub is_idle : Column → Standing → Option Session → Bool
is_idle o w None = true
is_idle o w (Some n) = is_none (picked o w n)

-- before the actor's next Commit, if there is one, no job is picked at some point
abbrev pub idles_before : Column → Standing → ℕ → List Event → Bool
idles_before o w actor [] = true
idles_before o w actor (Commit other first ops ∷ es) =
    is_idle o w w.session
    || (not (other == actor) && idles_before o (step o w (Commit other first ops)) actor es)
idles_before o w actor (e ∷ es) = is_idle o w w.session || idles_before o (step o w e) actor es

-- between two Commits of one actor there is a point at which no job is picked
abbrev pub idles_between : Column → Standing → List Event → Bool
idles_between o w [] = true
idles_between o w (Commit actor first ops ∷ es) =
    let after = step o w (Commit actor first ops) in idles_before o after actor es
    && idles_between o after es
idles_between o w (e ∷ es) = idles_between o (step o w e) es
