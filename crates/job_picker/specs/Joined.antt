-- The first wanted job that is free is the one that the model picks.
use Rattle.std.specs.Prelude.{◌≡◌, false, find, None, option_map}
use Rattle.peb_base.specs.Profiles.{Column}
use Rattle.flsm_model.specs.Claims.{is_free}
use Rattle.flsm_model.specs.Events.{Session, Standing}
use Rattle.flsm_model.specs.Fits.{is_some_list}
use Rattle.flsm_model.specs.Picking.{beginning, picked, wanted}

-- what is picked is the first wanted job that is free, with its table numbers and its floor
abbrev pub PickedIsFirst : Type 0
PickedIsFirst =
    (o : Column) (w : Standing) (n : Session)
    → picked o w n
    ≡ option_map (beginning w n) (find (λ j. is_free j n.running) (wanted o w.tree.shape n.frozen))

-- where none is wanted none is picked
abbrev pub NoneIsPicked : Type 0
NoneIsPicked =
    (o : Column) (w : Standing) (n : Session)
    → is_some_list (wanted o w.tree.shape n.frozen) ≡ false → picked o w n ≡ None
