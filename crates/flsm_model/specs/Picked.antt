-- What the job that is picked is good for: it may begin, and where none is left the store is
-- settled but for what is being written.
use Rattle.std.specs.Prelude.{◌≡◌, ℕ, ◌+◌, ◌^◌, ◌<◌, ◌≤◌, Bool, true, ◌&&◌, List, [], Some, None}
use Rattle.peb_base.specs.Keys.{Bytes}
use Rattle.peb_base.specs.Profiles.{Column}
use Rattle.flsm_model.specs.declared.job.Job.{Job}
use Rattle.flsm_model.specs.Events.{Session, Standing}
use Rattle.flsm_model.specs.Jobs.{numbers_needed, IsLawful}
use Rattle.flsm_model.specs.Picking.{over_at, chosen_keys, picked}
use Rattle.flsm_model.specs.Ranges.{has_key, keys_ascend}
use Rattle.flsm_model.specs.Shape.{Shape}
use Rattle.flsm_model.specs.Fits.{is_chosen}

-- a job that is picked may begin, if the session has table numbers left for it
abbrev pub PickedIsLawful : Column → Standing → Type 0
PickedIsLawful o w =
    (n : Session) → w.session ≡ Some n → (j : Job) → picked o w n ≡ Some j
    → n.reserved + numbers_needed j < 2 ^ 40
    → IsLawful o w n j

-- nothing is frozen, and level 0 and each guard have room
pub record HasRoom (o : Column) (w : Standing) (n : Session) : Type 0 where
  pub frozen : n.frozen ≡ None
  pub room : (level : ℕ) → level ≤ o.last_level → over_at o w.tree.shape level ≡ []

-- where no job is in flight and none is picked, there is room
abbrev pub IdleHasRoom : Column → Standing → Type 0
IdleHasRoom o w =
    (n : Session) → w.session ≡ Some n → n.running ≡ [] → picked o w n ≡ None → HasRoom o w n

-- the chosen keys for which a test holds: ascending, and no others
pub record ChosenInOrder (test : Bytes → Bool) (s : Shape) : Type 0 where
  pub ascend : keys_ascend (chosen_keys test s) ≡ true
  pub keys : (key : Bytes) → has_key key (chosen_keys test s) ≡ (is_chosen s.chosen key && test key)

-- so it is of each test and shape
abbrev pub ChosenAscend : Type 0
ChosenAscend = (test : Bytes → Bool) (s : Shape) → ChosenInOrder test s

-- ascending lists of the same keys are the same list
abbrev pub AscendingAreEqual : Type 0
AscendingAreEqual =
    (ks ls : List Bytes) → keys_ascend ks ≡ true → keys_ascend ls ≡ true
    → ((key : Bytes) → has_key key ks ≡ has_key key ls)
    → ks ≡ ls
