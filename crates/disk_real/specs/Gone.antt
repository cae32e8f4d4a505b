-- What the makers over files took away.
use Rattle.disk_model.specs.Tables.{Gone, none_gone, joined}
use Rattle.disk_real.specs.declared.taken_away.TakenAway.{TakenAway}
use Rattle.disk_real.specs.declared.makers.Makers.{Makers}
use Rattle.disk_real.specs.declared.makers.Makers.TheVariants.{Nothing, Maker'}

-- the numbers that one maker took away
abbrev pub gone_of : TakenAway → Gone
gone_of away = record { retired = away.retired.items; removed = away.removed.items }

-- the numbers that those took away which were handed back
abbrev pub gone_by : Makers → Gone
gone_by Nothing = none_gone
gone_by (Maker' away place earlier) = joined (gone_by earlier) (gone_of away)
