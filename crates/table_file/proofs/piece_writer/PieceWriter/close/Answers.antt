use Rattle.std.proofs.Common.{◌≡◌, ◌<◌, ◌∷◌, ◌++◌, ◌∙◌, [], List, map, ap, sym, subst, length}
use Rattle.std.specs.Arc.{arc_value}
use Rattle.std.proofs.lemmas.List.{map-append}
use Rattle.disk_model.specs.Tables.{Sealed, with_table}
use Rattle.table_file.specs.PieceWriting.{PieceParts, full_length, AreTablesOf, IsTableOfPiece, sealed_with, making, Writes}
use Rattle.table_file.specs.Pieces.{Piece}
use Rattle.table_file.specs.Tables.{TableParts}
use Rattle.table_file.proofs.PieceSteps.{zip_push, sealed_push}
use Rattle.table_file.proofs.piece_writer.PieceWriter.close.Goals as goal

pub returns-clause-tables : goal.returns-clause-tables
returns-clause-tables g c =
    let inside = c.self.inside in
    let old = map arc_value inside.tables.items in
    let now = map arc_value c.push.new.self.items in
    let more : now ≡ old ++ c.in-Ok.table ∷ [] =
    ap (map arc_value) c.in_ok-push.ensures.items
    ∙ map-append arc_value inside.tables.items (c.in_ok-table.table ∷ [])
    ∙ (λ i. old ++ c.in_ok-table.ensures.ok i ∷ []) in
    subst (λ (w : PieceParts g.row.F.Denot). (p : Piece) → (ps : List Piece)
    → Writes (making g.F.TableHandle.tells (g.M.Maker.begun c.args.maker.now) (g.M.Maker.written c.args.maker.now)) w p
    → 0 < length p.entries → AreTablesOf g.F.TableHandle (full_length w) w.level w.tables ps
    → AreTablesOf g.F.TableHandle (full_length w) w.level now (ps ++ p ∷ [])) c.self.view_is
    (λ p ps writes some tables.
    let full = inside.writer.builder.full in
    subst (λ (ts : List (TableParts g.row.F.Denot)). AreTablesOf g.F.TableHandle full inside.level ts (ps ++ p ∷ [])) (sym more)
    (zip_push (IsTableOfPiece g.F.TableHandle full inside.level) old ps c.in-Ok.table p tables
    (record {
      table = c.in-Ok.ensures.table p.entries writes.pushed some;
      row = record {
        number_is = c.in-Ok.ensures.row.number_is ∙ writes.number;
        level_is = c.in-Ok.ensures.row.level_is ∙ writes.level;
        tier_is = c.in-Ok.ensures.row.tier_is;
      };
    })))

pub returns-clause-sealed : goal.returns-clause-sealed
returns-clause-sealed g c = λ told.
    let inside = c.self.inside in
    let old = map arc_value inside.tables.items in
    let now = map arc_value c.push.new.self.items in
    let table = c.in-Ok.table in
    let more : now ≡ old ++ table ∷ [] =
    ap (map arc_value) c.in_ok-push.ensures.items
    ∙ map-append arc_value inside.tables.items (c.in_ok-table.table ∷ [])
    ∙ (λ i. old ++ c.in_ok-table.ensures.ok i ∷ []) in
    subst (λ (w : PieceParts g.row.F.Denot). (base : Sealed)
    → g.M.Maker.sealed c.args.maker.now ≡ sealed_with g.F.TableHandle w.tables base
    → g.M.Maker.sealed c.finish.new.maker ≡ sealed_with g.F.TableHandle now base) c.self.view_is
    (λ base was. c.in-Ok.ensures.sealed told
    ∙ (λ i. with_table (sym c.in-Ok.ensures.row.number_is i) (g.F.TableHandle.bytes table.file) (was i))
    ∙ sym (sealed_push g.F.TableHandle old table base)
    ∙ ap (λ ts. sealed_with g.F.TableHandle ts base) (sym more))
