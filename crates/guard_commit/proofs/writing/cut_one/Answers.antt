-- The pieces of a table are closed behind its last entry.
use Rattle.std.proofs.Common.{◌+◌, ◌++◌, ◌∙◌, List, refl, sym, subst, arith}
use Rattle.std.specs.Arc.{arc_value}
use Rattle.peb_base.specs.declared.entry.Entry.{Entry}
use Rattle.table_file.specs.Pieces.{pieces_from, whole_length}
use Rattle.table_file.specs.PieceWriting.{full_length}
use Rattle.table_file.specs.Taking.{TakesAtMost}
use Rattle.guard_commit.specs.Stopping.{IsStoppedIn, IsUndamaged}
use Rattle.guard_commit.specs.Writing.{told_by, work, HasWritten, only, behind}
use Rattle.guard_commit.proofs.Elsewhere.{open_number, outside_as}
use Rattle.guard_commit.proofs.Pushing.{begun_on, begin_stops, bound_same}
use Rattle.guard_commit.proofs.Readings.{reaches_end}
use Rattle.guard_commit.proofs.Stops.{begin_limited, put_undamaged}
use Rattle.guard_commit.proofs.writing.cut_one.Goals as goal

pub begin-requires : goal.begin-requires
begin-requires g c =
    let f = g.P.File.TableHandle in
    let keys = c.args.keys.now in
    let r = c.in-Ok.ensures.read in
    let a = work (told_by g.M.Maker f.tells c.cut_table.new.maker) c.cut_table.new.pieces keys in
    let ps = c.requires.cut.1 in
    (keys, behind ps r.0, (r.2 c.requires.cut.0 ps c.requires.cut.2).cut)

pub returns-in-Ok-begin-clause-read : goal.returns-in-Ok-begin-clause-read
returns-in-Ok-begin-clause-read g c =
    let f = g.P.File.TableHandle in
    let keys = c.args.keys.now in
    let r = c.in-Ok.ensures.read in
    let a = work (told_by g.M.Maker f.tells c.cut_table.new.maker) c.cut_table.new.pieces keys in
    let b = work (told_by g.M.Maker f.tells c.begin.new.maker) c.begin.new.self keys in (
      r.0,
      r.1,
      λ from ps has.
          let now = r.2 from ps has in
          subst (λ n. HasWritten f from b (only (ps ++ pieces_from n keys r.0))) c.cut_table.ensures.numbers
          (begun_on f from c.law_pieces.ensures.whole a b ps r.0 refl c.begin.ensures.full now
          (c.in-Ok-begin.ensures.cut keys (behind ps r.0) now.cut)
          (c.in-Ok-begin.ensures.taken keys (behind ps r.0) now.cut)
          (λ tells base same. c.in-Ok-begin.ensures.sealed tells base same)),
    )

pub returns-in-Err-begin-clause-bound : goal.returns-in-Err-begin-clause-bound
returns-in-Err-begin-clause-bound g c =
    λ from ps held has is.
    let f = g.P.File.TableHandle in
    let keys = c.args.keys.now in
    let r = c.in-Ok.ensures.read in
    let a = work (told_by g.M.Maker f.tells c.cut_table.new.maker) c.cut_table.new.pieces keys in
    let now = r.2 from ps has in
    bound_same (full_length c.args.pieces.now) (full_length c.cut_table.new.pieces) c.args.pieces.now.numbers
    c.cut_table.new.pieces.numbers keys ps held from.taken _ c.cut_table.ensures.full c.cut_table.ensures.numbers
    (subst (λ (es : List Entry). TakesAtMost (whole_length (full_length c.cut_table.new.pieces) ps
    + whole_length (full_length c.cut_table.new.pieces) (pieces_from c.cut_table.new.pieces.numbers keys es))
    from.taken (g.M.Maker.taken c.begin.new.maker)) (r.1.told held is)
    (begin_stops f from c.law_pieces.ensures.whole a ps r.0 _ now
    (c.in-Err-begin.ensures.taken keys (behind ps r.0) now.cut)))

pub returns-in-Err-begin-clause-stopped : goal.returns-in-Err-begin-clause-stopped
returns-in-Err-begin-clause-stopped g c =
    let f = g.P.File.TableHandle in
    let keys = c.args.keys.now in
    let r = c.in-Ok.ensures.read in
    let a = work (told_by g.M.Maker f.tells c.cut_table.new.maker) c.cut_table.new.pieces keys in
    let ps = c.requires.cut.1 in
    let now = r.2 c.requires.cut.0 ps c.requires.cut.2 in
    let t = arc_value c.args.table.now in
    let reach = reaches_end f t r.0 r.1.were r.1.row.some in
    subst (λ why. IsStoppedIn f (full_length c.args.pieces.now) keys t why) (sym c.put_cause.ensures)
    (begin_limited f (full_length c.args.pieces.now) keys t c.cut_table.new.pieces ps r.0 reach.0 c.in-Err-begin.fault
    c.cut_table.ensures.full reach.1
    (c.in-Err-begin.ensures.limit keys (behind ps r.0) now.cut))

pub returns-in-Err-begin-clause-sound : goal.returns-in-Err-begin-clause-sound
returns-in-Err-begin-clause-sound g c =
    λ held is.
    subst IsUndamaged (sym c.put_cause.ensures) (put_undamaged c.in-Err-begin.fault)

pub returns-in-Err-begin-clause-grows : goal.returns-in-Err-begin-clause-grows
returns-in-Err-begin-clause-grows g c =
    let f = g.P.File.TableHandle in
    let keys = c.args.keys.now in
    let r = c.in-Ok.ensures.read in
    let a = work (told_by g.M.Maker f.tells c.cut_table.new.maker) c.cut_table.new.pieces keys in
    let now = r.2 c.requires.cut.0 c.requires.cut.1 c.requires.cut.2 in
    let took = c.in-Err-begin.ensures.taken keys (behind c.requires.cut.1 r.0) now.cut in
    let fits = g.met.M.Maker.taken_fits c.cut_table.new.maker in
    omega (arith, c.cut_table.ensures.grows, took.counted, fits)

pub returns-in-Ok-begin-clause-grows : goal.returns-in-Ok-begin-clause-grows
returns-in-Ok-begin-clause-grows g c =
    let f = g.P.File.TableHandle in
    let keys = c.args.keys.now in
    let r = c.in-Ok.ensures.read in
    let a = work (told_by g.M.Maker f.tells c.cut_table.new.maker) c.cut_table.new.pieces keys in
    let now = r.2 c.requires.cut.0 c.requires.cut.1 c.requires.cut.2 in
    let took = c.in-Ok-begin.ensures.taken keys (behind c.requires.cut.1 r.0) now.cut in
    let fits = g.met.M.Maker.taken_fits c.cut_table.new.maker in
    omega (arith, c.cut_table.ensures.grows, took, fits)

pub returns-in-Err-begin-clause-elsewhere : goal.returns-in-Err-begin-clause-elsewhere
returns-in-Err-begin-clause-elsewhere g c =
    λ tells n outside.
    let f = g.P.File.TableHandle in
    let keys = c.args.keys.now in
    let r = c.in-Ok.ensures.read in
    let a = work (told_by g.M.Maker f.tells c.cut_table.new.maker) c.cut_table.new.pieces keys in
    let now = r.2 c.requires.cut.0 c.requires.cut.1 c.requires.cut.2 in
    c.begin.ensures.elsewhere tells n (open_number f c.requires.cut.0 a c.requires.cut.1 r.0 now r.1.row.some n
    (outside_as c.args.pieces.now.numbers a.writer.numbers _ n c.cut_table.ensures.numbers outside))
    ∙ c.cut_table.ensures.elsewhere tells n outside

pub returns-in-Ok-begin-clause-elsewhere : goal.returns-in-Ok-begin-clause-elsewhere
returns-in-Ok-begin-clause-elsewhere g c =
    λ tells n outside.
    let f = g.P.File.TableHandle in
    let keys = c.args.keys.now in
    let r = c.in-Ok.ensures.read in
    let a = work (told_by g.M.Maker f.tells c.cut_table.new.maker) c.cut_table.new.pieces keys in
    let now = r.2 c.requires.cut.0 c.requires.cut.1 c.requires.cut.2 in
    c.begin.ensures.elsewhere tells n (open_number f c.requires.cut.0 a c.requires.cut.1 r.0 now r.1.row.some n
    (outside_as c.args.pieces.now.numbers a.writer.numbers _ n c.cut_table.ensures.numbers outside))
    ∙ c.cut_table.ensures.elsewhere tells n outside
