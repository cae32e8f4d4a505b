-- One table after another is cut.
use Rattle.std.proofs.Common.{◌≡◌, ◌+◌, ◌-◌, ◌++◌, ◌∷◌, [], List, length, map, take, drop, sym, subst, arith}
use Rattle.std.proofs.lemmas.List.{append-nil}
use Rattle.std.specs.Prelude.{suc, IfErr}
use Rattle.std.specs.Arc.{arc_value}
use Rattle.std.specs.List.{AllZip}
use Rattle.table_file.specs.Pieces.{Piece, pieces_from, whole_length}
use Rattle.table_file.specs.PieceWriting.{full_length}
use Rattle.table_file.specs.Taking.{TakesAtMost}
use Rattle.guard_commit.specs.Cutting.{cut_from}
use Rattle.guard_commit.specs.Reading.{IsHeld, WasRead}
use Rattle.guard_commit.specs.Stopping.{IsStoppedBy, IsUndamaged}
use Rattle.guard_commit.specs.Writing.{told_by, work, HasWritten, only}
use Rattle.guard_commit.proofs.Chains.{map_first, map_none, ok_to, err_to, if_err_to, held_first, bound_first, bound_rest, cut_on, stopped_first, stopped_rest}
use Rattle.guard_commit.proofs.writing.+cut_tables.Goals as goal

pub returns-in-Err-clause-bound : goal.returns-in-Err-clause-bound
returns-in-Err-clause-bound g m c =
    λ from ps contents has held.
    let f = g.P.File.TableHandle in
    let keys = c.args.keys.now in
    let n = c.args.number in
    let full = full_length c.args.pieces.now in
    let t = arc_value c.table-item.result in
    let ts = c.args.tables.now in
    let rest = map arc_value (take (length ts - 1) (drop 1 ts)) in
    let first = map_first ts c.table-item.result arc_value c.in-len1-up.len_at_least c.table-item.is in
    held_first f t rest contents
    (λ cs. TakesAtMost (whole_length full ps + whole_length full (cut_from n keys cs)) from.taken
    (g.M.Maker.taken c.cut_one.new.maker))
    (λ h cs is hs. bound_first full n keys ps h cs from.taken _
    (subst (λ k. TakesAtMost (whole_length full ps + whole_length full (pieces_from k keys h)) from.taken
    (g.M.Maker.taken c.cut_one.new.maker)) c.requires.number (c.in-Err.ensures.bound from ps h has is)))
    (subst (λ l. AllZip (IsHeld f) l contents) first held)

pub returns-in-Err-clause-stopped : goal.returns-in-Err-clause-stopped
returns-in-Err-clause-stopped g m c =
    let f = g.P.File.TableHandle in
    let keys = c.args.keys.now in
    let n = c.args.number in
    let full = full_length c.args.pieces.now in
    let t = arc_value c.table-item.result in
    let ts = c.args.tables.now in
    let rest = map arc_value (take (length ts - 1) (drop 1 ts)) in
    let first = map_first ts c.table-item.result arc_value c.in-len1-up.len_at_least c.table-item.is in
    subst (λ l. IsStoppedBy f full keys l c.in-Err.cause) (sym first)
    (stopped_first f full keys t rest c.in-Err.cause c.in-Err.ensures.stopped)

pub returns-in-Err-clause-sound : goal.returns-in-Err-clause-sound
returns-in-Err-clause-sound g m c =
    λ contents held.
    let f = g.P.File.TableHandle in
    let keys = c.args.keys.now in
    let n = c.args.number in
    let full = full_length c.args.pieces.now in
    let t = arc_value c.table-item.result in
    let ts = c.args.tables.now in
    let rest = map arc_value (take (length ts - 1) (drop 1 ts)) in
    let first = map_first ts c.table-item.result arc_value c.in-len1-up.len_at_least c.table-item.is in
    held_first f t rest contents (λ cs. IsUndamaged c.in-Err.cause)
    (λ h cs is hs. c.in-Err.ensures.sound h is)
    (subst (λ l. AllZip (IsHeld f) l contents) first held)

pub returns-in-empty-clause-read : goal.returns-in-empty-clause-read
returns-in-empty-clause-read g m c =
    let f = g.P.File.TableHandle in
    let none = map_none c.args.tables.now arc_value c.in-empty.len_below in
    let a = work (told_by g.M.Maker f.tells c.args.maker.now) c.args.pieces.now c.args.keys.now in (
      [],
      subst (λ l. AllZip (WasRead f) l []) (sym none) tt,
      λ from ps has. subst (λ (qs : List Piece). HasWritten f from a (only qs)) (sym (append-nil ps)) has,
    )

pub returns-in-Ok-clause-read : goal.returns-in-Ok-clause-read
returns-in-Ok-clause-read g m c =
    let f = g.P.File.TableHandle in
    let keys = c.args.keys.now in
    let n = c.args.number in
    let full = full_length c.args.pieces.now in
    let t = arc_value c.table-item.result in
    let ts = c.args.tables.now in
    let rest = map arc_value (take (length ts - 1) (drop 1 ts)) in
    let first = map_first ts c.table-item.result arc_value c.in-len1-up.len_at_least c.table-item.is in
    let r = c.in-Ok.ensures.read in
    let es = r.0 in
    let next = c.args.number + length keys + 1 in
    let follows : next ≡ n + suc (length keys) = omega arith in
    let mid = work (told_by g.M.Maker f.tells c.cut_one.new.maker) c.cut_one.new.pieces keys in
    let own = pieces_from n keys es in
    let end = work (told_by g.M.Maker f.tells c.cut_tables.new.maker) c.cut_tables.new.pieces keys in
    ok_to c.cut_tables.result (λ later. (
      es ∷ later.0,
      subst (λ l. AllZip (WasRead f) l (es ∷ later.0)) (sym first) (r.1, later.1),
      λ from ps has.
          subst (λ (qs : List Piece). HasWritten f from end (only qs)) (cut_on next n keys ps es later.0 follows)
          (later.2 from (ps ++ own) (subst (λ k. HasWritten f from mid (only (ps ++ pieces_from k keys es))) c.requires.number (r.2 from ps has))),
    )) c.cut_tables.ensures.read

pub returns-in-Ok-clause-bound : goal.returns-in-Ok-clause-bound
returns-in-Ok-clause-bound g m c =
    let f = g.P.File.TableHandle in
    let keys = c.args.keys.now in
    let n = c.args.number in
    let full = full_length c.args.pieces.now in
    let t = arc_value c.table-item.result in
    let ts = c.args.tables.now in
    let rest = map arc_value (take (length ts - 1) (drop 1 ts)) in
    let first = map_first ts c.table-item.result arc_value c.in-len1-up.len_at_least c.table-item.is in
    let r = c.in-Ok.ensures.read in
    let es = r.0 in
    let next = c.args.number + length keys + 1 in
    let follows : next ≡ n + suc (length keys) = omega arith in
    let mid = work (told_by g.M.Maker f.tells c.cut_one.new.maker) c.cut_one.new.pieces keys in
    let own = pieces_from n keys es in
    err_to c.cut_tables.result (λ later from ps contents has held.
    held_first f t rest contents
    (λ cs. TakesAtMost (whole_length full ps + whole_length full (cut_from n keys cs)) from.taken
    (g.M.Maker.taken c.cut_tables.new.maker))
    (λ h cs is hs. bound_rest full next n keys ps es h cs from.taken _ follows (r.1.told h is)
    (subst (λ k. TakesAtMost (whole_length k (ps ++ own) + whole_length k (cut_from next keys cs)) from.taken
    (g.M.Maker.taken c.cut_tables.new.maker)) c.cut_one.ensures.full
    (later from (ps ++ own) cs (subst (λ k. HasWritten f from mid (only (ps ++ pieces_from k keys es))) c.requires.number (r.2 from ps has)) hs)))
    (subst (λ l. AllZip (IsHeld f) l contents) first held)) c.cut_tables.ensures.bound

pub returns-in-Ok-clause-stopped : goal.returns-in-Ok-clause-stopped
returns-in-Ok-clause-stopped g m c =
    let f = g.P.File.TableHandle in
    let keys = c.args.keys.now in
    let n = c.args.number in
    let full = full_length c.args.pieces.now in
    let t = arc_value c.table-item.result in
    let ts = c.args.tables.now in
    let rest = map arc_value (take (length ts - 1) (drop 1 ts)) in
    let first = map_first ts c.table-item.result arc_value c.in-len1-up.len_at_least c.table-item.is in
    subst (λ l. IfErr c.cut_tables.result (IsStoppedBy f full keys l)) (sym first)
    (if_err_to c.cut_tables.result (IsStoppedBy f full keys rest) (IsStoppedBy f full keys (t ∷ rest))
    (stopped_rest f full keys t rest)
    (subst (λ k. IfErr c.cut_tables.result (IsStoppedBy f k keys rest)) c.cut_one.ensures.full
    c.cut_tables.ensures.stopped))
