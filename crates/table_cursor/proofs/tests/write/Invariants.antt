use Rattle.std.proofs.Common.{◌≡◌, ◌<◌, ◌++◌, ◌∷◌, [], true, List, length}
use Rattle.peb_base.specs.Entries.{IsEntry, AreSorted, comes_before}
use Rattle.peb_base.specs.declared.entry.Entry.{Entry}
use Rattle.table_file.specs.Writing.{HasPushed}
use Rattle.table_cursor.proofs.tests.write.Given as goal

abbrev pub invariant-loop-key : goal.invariant-loop-key
invariant-loop-key g l =
    (es : List Entry) × HasPushed g.M.File.TableHandle.tells (g.M.Maker.begun l.maker) (g.M.Maker.written l.maker) l.writer es × (0 < l.key-index → 0 < length es)
    × ((e : Entry) → IsEntry e → comes_before l.before l.above e.key e.number ≡ true → AreSorted (es ++ e ∷ []))
