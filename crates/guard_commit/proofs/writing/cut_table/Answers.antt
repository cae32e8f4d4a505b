-- A table is read through a fork that is joined, and a buffer that is given back.
use Rattle.std.proofs.Common.{◌≡◌, ◌∙◌, List, arith, rules, subst}
use Rattle.std.specs.Arc.{arc_value}
use Rattle.std.specs.Prelude.{IfErr}
use Rattle.peb_base.specs.declared.entry.Entry.{Entry}
use Rattle.table_file.specs.Pieces.{pieces_from, whole_length}
use Rattle.table_file.specs.PieceWriting.{full_length}
use Rattle.table_file.specs.Tables.{Holds}
use Rattle.guard_commit.specs.Reading.{IsHeld}
use Rattle.guard_commit.specs.Stopping.{IsUndamaged}
use Rattle.guard_commit.specs.Writing.{told_by, work}
use Rattle.guard_commit.proofs.Pushing.{stays_before}
use Rattle.guard_commit.proofs.writing.cut_table.Goals as goal

pub returns-in_default-clause-bound : goal.returns-in_default-clause-bound
returns-in_default-clause-bound g c = λ from ps held has is.
    let w = c.args.pieces.now in
    stays_before g.P.File.TableHandle from
    (work (told_by g.M.Maker g.P.File.TableHandle.tells c.args.maker.now) w c.args.keys.now) ps
    (whole_length (full_length w) (pieces_from w.numbers c.args.keys.now held)) has

pub returns-in_default-buffer_of-clause-bound : goal.returns-in_default-buffer_of-clause-bound
returns-in_default-buffer_of-clause-bound g c = λ from ps held has is.
    let w = c.args.pieces.now in
    stays_before g.P.File.TableHandle from
    (work (told_by g.M.Maker g.P.File.TableHandle.tells c.args.maker.now) w c.args.keys.now) ps
    (whole_length (full_length w) (pieces_from w.numbers c.args.keys.now held)) has

pub returns-in-Err-clause-bound : goal.returns-in-Err-clause-bound
returns-in-Err-clause-bound g c = λ from ps held has is.
    let w = c.args.pieces.now in
    stays_before g.P.File.TableHandle from
    (work (told_by g.M.Maker g.P.File.TableHandle.tells c.args.maker.now) w c.args.keys.now) ps
    (whole_length (full_length w) (pieces_from w.numbers c.args.keys.now held)) has

pub push_table-pushed-requires-clause-stands : goal.push_table-pushed-requires-clause-stands
push_table-pushed-requires-clause-stands g c = λ held is.
    let same : c.deref.result.now ≡ arc_value c.in-Ok.shared = search rules in
    c.open-cursor.ensures.stands held is.0 (subst (λ t. Holds g.P.File.TableHandle t held) same is.1)

pub returns-clause-sound : goal.returns-clause-sound
returns-clause-sound g c =
    subst (λ t. IfErr c.push_table-pushed.result (λ cause. (held : List Entry)
    → IsHeld g.P.File.TableHandle t held → IsUndamaged cause)) c.deref.ensures c.push_table-pushed.ensures.sound

pub returns-clause-port : goal.returns-clause-port
returns-clause-port g c =
    let fits = g.met.P.Port.reads_fit c.args.port.now in
    record {
      files = c.join.ensures.files ∙ c.fork.ensures.files;
      reads = omega (arith, c.join.ensures.reads, c.fork.ensures.reads, fits);
      steady = λ s. c.join.ensures.steady (c.fork.ensures.steady s);
      later = omega (arith, c.join.ensures.faults, c.fork.ensures.faults);
    }
