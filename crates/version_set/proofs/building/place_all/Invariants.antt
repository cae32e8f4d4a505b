use Rattle.std.proofs.Common.{◌≡◌, ◌++◌, List, map, take}
use Rattle.peb_base.specs.Keys.{Bytes}
use Rattle.peb_base.specs.declared.table_row.TableRow.{TableRow}
use Rattle.std.specs.List.{AllByRecursion}
use Rattle.version_set.specs.Contents.{EachLive, ContentsStay}
use Rattle.version_set.specs.Shapes.{HasTables}
use Rattle.version_set.proofs.building.place_all.Given as goal

abbrev pub invariant-loop-table : goal.invariant-loop-table
invariant-loop-table g l = record {
  keys_are : map (λ level. level.keys) l.levels.items ≡ map (λ level. level.keys) l.initial.levels.items;
  stands : (guards : List (List Bytes)) (live : List TableRow) → HasTables g.T.HasRow.the_row (record { top = l.initial.top.items; levels = l.initial.levels.items }) guards live
      → HasTables g.T.HasRow.the_row (record { top = l.top.items; levels = l.levels.items }) guards (live ++ map g.T.HasRow.the_row (take l.table-index l.tables));
  contents : ContentsStay g.T.HasRow.the_row g.T.HasRow.holds (λ P. EachLive P (record { top = l.initial.top.items; levels = l.initial.levels.items }) × AllByRecursion P l.tables)
      (λ P. EachLive P (record { top = l.top.items; levels = l.levels.items }));
}
