-- From the first entry on.
use Rattle.std.proofs.Common.{◌∙◌, None, sym, ap, subst}
use Rattle.std.specs.Arc.{arc_value}
use Rattle.peb_base.specs.Cursors.{first_place}
use Rattle.table_file.specs.Pieces.{pieces_from, whole_length}
use Rattle.table_file.specs.PieceWriting.{full_length}
use Rattle.table_cursor.specs.Views.{StandsIn}
use Rattle.guard_commit.specs.Reading.{IsHeld}
use Rattle.guard_commit.specs.Stopping.{IsUndamaged}
use Rattle.guard_commit.specs.Writing.{told_by, work}
use Rattle.guard_commit.proofs.Pushing.{stays_before}
use Rattle.guard_commit.proofs.Readings.{passed_first}
use Rattle.guard_commit.proofs.Stops.{leads_undamaged}
use Rattle.guard_commit.proofs.writing.push_table.Goals as goal

pub push_all-requires-clause-passed : goal.push_all-requires-clause-passed
push_all-requires-clause-passed g c =
    let same = ap arc_value c.in-Ok.ensures.moves.keeps.table ∙ sym c.requires.table in
    passed_first c.first.new.self c.in-Ok.ensures.walks
    (λ held is. c.in-Ok.ensures.goes held None
    (c.requires.stands held (subst (λ t. IsHeld g.P.File.TableHandle t held) same is)))

pub returns-in-Err-clause-bound : goal.returns-in-Err-clause-bound
returns-in-Err-clause-bound g c = λ from ps held has is.
    let w = c.args.pieces.now in
    stays_before g.P.File.TableHandle from
    (work (told_by g.M.Maker g.P.File.TableHandle.tells c.args.maker.now) w c.args.keys.now) ps
    (whole_length (full_length w) (pieces_from w.numbers c.args.keys.now held)) has

pub returns-in-Err-clause-sound : goal.returns-in-Err-clause-sound
returns-in-Err-clause-sound g c = λ held is.
    subst IsUndamaged (sym c.read_cause.ensures)
    (leads_undamaged (StandsIn c.first.new.self held) (first_place held) c.in-Err.fault
    (c.in-Err.ensures.goes held None (c.requires.stands held is)))
