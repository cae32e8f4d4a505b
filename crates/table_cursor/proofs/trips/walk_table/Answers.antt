use Rattle.std.proofs.Common.{◌∙◌, None, sym, subst}
use Rattle.std.specs.Prelude.{IfErr}
use Rattle.table_file.specs.Tables.{Holds}
use Rattle.table_cursor.specs.Agreeing.{IsDamageOf}
use Rattle.table_cursor.specs.Trips.{TellsOf}
use Rattle.table_cursor.proofs.trips.walk_table.Goals as goal

pub returns-clause-told : goal.returns-clause-told
returns-clause-told g c = λ es told holds.
    c.walk-seen.ensures.told es None
    (c.open-cursor.ensures.stands es told (subst (λ t. Holds g.P.File.TableHandle t es) (sym c.in-Ok.ensures.ok) holds))

pub returns-clause-undamaged : goal.returns-clause-undamaged
returns-clause-undamaged g c = λ es told holds.
    c.walk-seen.ensures.undamaged es None
    (c.open-cursor.ensures.stands es told (subst (λ t. Holds g.P.File.TableHandle t es) (sym c.in-Ok.ensures.ok) holds))

pub returns-clause-damage : goal.returns-clause-damage
returns-clause-damage g c =
    subst (λ t. IfErr c.walk-seen.result (TellsOf (IsDamageOf g.P.File.TableHandle t)))
    (c.open-cursor.ensures.table ∙ c.in-Ok.ensures.ok) c.walk-seen.ensures.damage
