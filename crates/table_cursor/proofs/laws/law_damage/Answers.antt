use Rattle.table_cursor.specs.Views.{table_of}
use Rattle.table_cursor.proofs.Damage.{damage_or_read}
use Rattle.table_cursor.proofs.laws.law_damage.Goals as goal

pub returns : goal.returns
returns g c = λ index number at block told damage read.
    damage_or_read g.P.File.TableHandle (table_of c.args.cursor.now) index number at block told
    damage read
