-- A new writer has begun its input, and nothing was taken.
use Rattle.std.proofs.Common.{[], List, sym, ap, subst, arith}
use Rattle.table_file.specs.Pieces.{Piece}
use Rattle.table_file.specs.PieceWriting.{making, nothing, HasCut, sealed_with}
use Rattle.guard_commit.specs.Writing.{only}
use Rattle.guard_commit.proofs.Lengths.{taken_only, left_none, all_only}
use Rattle.guard_commit.proofs.cut.writer_for.Goals as goal

pub begin-requires : goal.begin-requires
begin-requires g c =
    let f = g.M.File.TableHandle in
    let m = making f.tells (g.M.Maker.begun c.args.maker.now) (g.M.Maker.written c.args.maker.now) in
    (c.args.job.now.keys, nothing, c.in-Ok.ensures.cut m c.args.job.now.keys)

pub returns-in-Ok-begin-clause-written : goal.returns-in-Ok-begin-clause-written
returns-in-Ok-begin-clause-written g c =
    let f = g.M.File.TableHandle in
    let keys = c.args.job.now.keys in
    let m = making f.tells (g.M.Maker.begun c.args.maker.now) (g.M.Maker.written c.args.maker.now) in
    let new = making f.tells (g.M.Maker.begun c.begin.new.maker) (g.M.Maker.written c.begin.new.maker) in
    let none = c.in-Ok.ensures.cut m keys in
    let w = c.begin.new.self in
    record {
      cut = subst (λ (ps : List Piece). HasCut f new w keys (only ps)) (all_only c.in-Ok.pieces.numbers keys [])
          (c.in-Ok-begin.ensures.cut keys nothing none);
      taken = omega (
        arith,
        c.in-Ok-begin.ensures.taken keys nothing none,
        left_none c.in-Ok.pieces keys [],
        taken_only w keys [],
      );
      sealed = λ tells. c.in-Ok-begin.ensures.sealed tells (g.M.Maker.sealed c.args.maker.now)
          (ap (λ ts. sealed_with f ts (g.M.Maker.sealed c.args.maker.now)) (sym c.in-Ok.ensures.none));
    }

pub returns-in-Ok-begin-clause-taken : goal.returns-in-Ok-begin-clause-taken
returns-in-Ok-begin-clause-taken g c =
    let f = g.M.File.TableHandle in
    let keys = c.args.job.now.keys in
    let m = making f.tells (g.M.Maker.begun c.args.maker.now) (g.M.Maker.written c.args.maker.now) in
    let fits = g.met.M.Maker.taken_fits c.args.maker.now in
    omega (
      arith,
      c.in-Ok-begin.ensures.taken keys nothing (c.in-Ok.ensures.cut m keys),
      left_none c.in-Ok.pieces keys [],
      fits,
    )
