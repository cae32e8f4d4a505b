-- A writer is begun, the tables are cut, and the writer is finished.
use Rattle.std.proofs.Common.{suc, ◌+◌, ◌*◌, ◌∙◌, inr, [], List, length, map, sym, ap, subst, arith}
use Rattle.std.proofs.lemmas.List.{length-map}
use Rattle.std.specs.Arc.{arc_value}
use Rattle.peb_base.specs.Keys.{Bytes}
use Rattle.table_file.specs.Pieces.{whole_length}
use Rattle.table_file.specs.PieceWriting.{full_length, all_pieces, AreTablesOf}
use Rattle.table_file.specs.TakingLaws.{takes_less}
use Rattle.guard_commit.specs.Cutting.{cut_from}
use Rattle.guard_commit.specs.Writing.{told_by, work, HasWritten, only, IsOutside}
use Rattle.guard_commit.proofs.Elsewhere.{sealed_outside}
use Rattle.guard_commit.proofs.Lengths.{taken_only, left_none, all_only}
use Rattle.guard_commit.proofs.Made.{bytes_made}
use Rattle.guard_commit.proofs.Rows.{numbered_cut}
use Rattle.guard_commit.proofs.Suiting.{outside_all}
use Rattle.guard_commit.proofs.cut.cut_all.Goals as goal

pub returns-in-Err-clause-elsewhere : goal.returns-in-Err-clause-elsewhere
returns-in-Err-clause-elsewhere g c =
    λ tells n outside i. c.in-Err.ensures.sealed i n

pub returns-in-Err-cut_tables-clause-bound : goal.returns-in-Err-cut_tables-clause-bound
returns-in-Err-cut_tables-clause-bound g c =
    λ contents held.
    let f = g.P.File.TableHandle in
    let old = c.args.maker.now in
    let from = told_by g.M.Maker f.tells old in
    let n = c.args.job.now.numbers in
    let keys = c.items-keys.result.now in
    let kq = c.items-keys.ensures in
    let has = subst (λ (k : List Bytes). HasWritten f from
    (work (told_by g.M.Maker f.tells c.writer_for.new.maker) c.in-Ok.pieces k) (only [])) (sym kq)
    c.in-Ok.ensures.written in
    let same = c.in-Ok.ensures.full in
    takes_less _ _ _ _
    (omega (
      arith,
      ap (λ b. whole_length b (cut_from n keys contents)) same,
      ap (λ (k : List Bytes). whole_length c.args.options.now.block_bytes (cut_from n k contents)) kq,
    ))
    (c.in-Err-cut_tables.ensures.bound from [] contents has held)

pub returns-in-Err-cut_tables-clause-elsewhere : goal.returns-in-Err-cut_tables-clause-elsewhere
returns-in-Err-cut_tables-clause-elsewhere g c =
    λ tells m outside.
    let f = g.P.File.TableHandle in
    let old = c.args.maker.now in
    let from = told_by g.M.Maker f.tells old in
    let n = c.args.job.now.numbers in
    let keys = c.items-keys.result.now in
    let kq = c.items-keys.ensures in
    let has = subst (λ (k : List Bytes). HasWritten f from
    (work (told_by g.M.Maker f.tells c.writer_for.new.maker) c.in-Ok.pieces k) (only [])) (sym kq)
    c.in-Ok.ensures.written in
    let w = c.in-Ok.pieces in
    let none = (c.in-Ok.ensures.written.cut.closed c.in-Ok.ensures.shut).tables in
    c.in-Err-cut_tables.ensures.elsewhere tells m
    (subst (λ (k : List Bytes). IsOutside n (length c.args.tables.now * (length k + 1)) m) (sym kq) outside)
    ∙ ap (λ s. s m) (c.in-Ok.ensures.written.sealed tells)
    ∙ sealed_outside f (full_length w) w.level 0 0 w.tables [] (g.M.Maker.sealed old) none (omega arith) m
    (inr (omega arith))

pub finish-requires : goal.finish-requires
finish-requires g c =
    let f = g.P.File.TableHandle in
    let old = c.args.maker.now in
    let from = told_by g.M.Maker f.tells old in
    let n = c.args.job.now.numbers in
    let keys = c.items-keys.result.now in
    let kq = c.items-keys.ensures in
    let has = subst (λ (k : List Bytes). HasWritten f from
    (work (told_by g.M.Maker f.tells c.writer_for.new.maker) c.in-Ok.pieces k) (only [])) (sym kq)
    c.in-Ok.ensures.written in
    let r = c.in-Ok-cut_tables.ensures.read in
    let ps = cut_from n keys r.0 in
    let end = r.2 from [] has in
    let w = c.cut_tables.new.pieces in
    (keys, only ps, end.cut)

pub returns-in-Ok-finish-clause-made : goal.returns-in-Ok-finish-clause-made
returns-in-Ok-finish-clause-made g c =
    let f = g.P.File.TableHandle in
    let old = c.args.maker.now in
    let from = told_by g.M.Maker f.tells old in
    let n = c.args.job.now.numbers in
    let keys = c.items-keys.result.now in
    let kq = c.items-keys.ensures in
    let has = subst (λ (k : List Bytes). HasWritten f from
    (work (told_by g.M.Maker f.tells c.writer_for.new.maker) c.in-Ok.pieces k) (only [])) (sym kq)
    c.in-Ok.ensures.written in
    let r = c.in-Ok-cut_tables.ensures.read in
    let ps = cut_from n keys r.0 in
    let end = r.2 from [] has in
    let w = c.cut_tables.new.pieces in
    let made = c.in-Ok-finish.ensures.tables keys (only ps) end.cut in
    let tables = map arc_value c.in-Ok-finish.made.items in
    let bytes = bytes_made f (full_length w) w.level tables (all_pieces w.numbers keys (only ps)) made in
    let whole = ap (whole_length (full_length w)) (all_only w.numbers keys ps) in
    let took = c.in-Ok-finish.ensures.taken keys (only ps) end.cut in
    let fits = g.met.M.Maker.taken_fits old in
    let block = c.args.options.now.block_bytes in
    let pieces = subst (λ p. AreTablesOf f block c.args.job.now.level tables p)
    (all_only w.numbers keys ps ∙ ap (λ (k : List Bytes). cut_from n k r.0) kq)
    (subst (λ l. AreTablesOf f block l tables (all_pieces w.numbers keys (only ps)))
    (c.cut_tables.ensures.level ∙ c.in-Ok.ensures.level)
    (subst (λ b. AreTablesOf f b w.level tables (all_pieces w.numbers keys (only ps)))
    (c.cut_tables.ensures.full ∙ c.in-Ok.ensures.full) made)) in
    record { parts = r.0; read = r.1; pieces = pieces }

pub returns-in-Ok-finish-clause-taken : goal.returns-in-Ok-finish-clause-taken
returns-in-Ok-finish-clause-taken g c =
    let f = g.P.File.TableHandle in
    let old = c.args.maker.now in
    let from = told_by g.M.Maker f.tells old in
    let n = c.args.job.now.numbers in
    let keys = c.items-keys.result.now in
    let kq = c.items-keys.ensures in
    let has = subst (λ (k : List Bytes). HasWritten f from
    (work (told_by g.M.Maker f.tells c.writer_for.new.maker) c.in-Ok.pieces k) (only [])) (sym kq)
    c.in-Ok.ensures.written in
    let r = c.in-Ok-cut_tables.ensures.read in
    let ps = cut_from n keys r.0 in
    let end = r.2 from [] has in
    let w = c.cut_tables.new.pieces in
    let made = c.in-Ok-finish.ensures.tables keys (only ps) end.cut in
    let tables = map arc_value c.in-Ok-finish.made.items in
    let bytes = bytes_made f (full_length w) w.level tables (all_pieces w.numbers keys (only ps)) made in
    let whole = ap (whole_length (full_length w)) (all_only w.numbers keys ps) in
    let took = c.in-Ok-finish.ensures.taken keys (only ps) end.cut in
    let fits = g.met.M.Maker.taken_fits old in
    omega (arith, took, end.taken, left_none w keys ps, taken_only w keys ps, bytes, whole)

pub returns-in-Ok-finish-clause-sealed : goal.returns-in-Ok-finish-clause-sealed
returns-in-Ok-finish-clause-sealed g c =
    λ tells.
    let f = g.P.File.TableHandle in
    let old = c.args.maker.now in
    let from = told_by g.M.Maker f.tells old in
    let n = c.args.job.now.numbers in
    let keys = c.items-keys.result.now in
    let kq = c.items-keys.ensures in
    let has = subst (λ (k : List Bytes). HasWritten f from
    (work (told_by g.M.Maker f.tells c.writer_for.new.maker) c.in-Ok.pieces k) (only [])) (sym kq)
    c.in-Ok.ensures.written in
    let r = c.in-Ok-cut_tables.ensures.read in
    let ps = cut_from n keys r.0 in
    let end = r.2 from [] has in
    let w = c.cut_tables.new.pieces in
    c.in-Ok-finish.ensures.sealed tells (g.M.Maker.sealed old) (end.sealed tells)

pub returns-in-Ok-finish-clause-grows : goal.returns-in-Ok-finish-clause-grows
returns-in-Ok-finish-clause-grows g c =
    let f = g.P.File.TableHandle in
    let old = c.args.maker.now in
    let from = told_by g.M.Maker f.tells old in
    let n = c.args.job.now.numbers in
    let keys = c.items-keys.result.now in
    let kq = c.items-keys.ensures in
    let has = subst (λ (k : List Bytes). HasWritten f from
    (work (told_by g.M.Maker f.tells c.writer_for.new.maker) c.in-Ok.pieces k) (only [])) (sym kq)
    c.in-Ok.ensures.written in
    let r = c.in-Ok-cut_tables.ensures.read in
    let ps = cut_from n keys r.0 in
    let end = r.2 from [] has in
    let w = c.cut_tables.new.pieces in
    let made = c.in-Ok-finish.ensures.tables keys (only ps) end.cut in
    let tables = map arc_value c.in-Ok-finish.made.items in
    let bytes = bytes_made f (full_length w) w.level tables (all_pieces w.numbers keys (only ps)) made in
    let whole = ap (whole_length (full_length w)) (all_only w.numbers keys ps) in
    let took = c.in-Ok-finish.ensures.taken keys (only ps) end.cut in
    let fits = g.met.M.Maker.taken_fits old in
    omega (arith, took, end.taken, left_none w keys ps, fits)

pub returns-in-Ok-finish-clause-elsewhere : goal.returns-in-Ok-finish-clause-elsewhere
returns-in-Ok-finish-clause-elsewhere g c =
    λ tells m outside.
    let f = g.P.File.TableHandle in
    let old = c.args.maker.now in
    let from = told_by g.M.Maker f.tells old in
    let n = c.args.job.now.numbers in
    let keys = c.items-keys.result.now in
    let kq = c.items-keys.ensures in
    let has = subst (λ (k : List Bytes). HasWritten f from
    (work (told_by g.M.Maker f.tells c.writer_for.new.maker) c.in-Ok.pieces k) (only [])) (sym kq)
    c.in-Ok.ensures.written in
    let r = c.in-Ok-cut_tables.ensures.read in
    let ps = cut_from n keys r.0 in
    let end = r.2 from [] has in
    let w = c.cut_tables.new.pieces in
    let made = c.in-Ok-finish.ensures.tables keys (only ps) end.cut in
    let tables = map arc_value c.in-Ok-finish.made.items in
    let bytes = bytes_made f (full_length w) w.level tables (all_pieces w.numbers keys (only ps)) made in
    let whole = ap (whole_length (full_length w)) (all_only w.numbers keys ps) in
    let took = c.in-Ok-finish.ensures.taken keys (only ps) end.cut in
    let fits = g.met.M.Maker.taken_fits old in
    let block = c.args.options.now.block_bytes in
    let pieces = subst (λ p. AreTablesOf f block c.args.job.now.level tables p)
    (all_only w.numbers keys ps ∙ ap (λ (k : List Bytes). cut_from n k r.0) kq)
    (subst (λ l. AreTablesOf f block l tables (all_pieces w.numbers keys (only ps)))
    (c.cut_tables.ensures.level ∙ c.in-Ok.ensures.level)
    (subst (λ b. AreTablesOf f b w.level tables (all_pieces w.numbers keys (only ps)))
    (c.cut_tables.ensures.full ∙ c.in-Ok.ensures.full) made)) in
    let ts = map arc_value c.args.tables.now in
    let away = outside_all f n c.args.job.now.keys ts r.0 (length c.args.tables.now) m r.1
    (length-map c.args.tables.now arc_value) outside in
    ap (λ s. s m) (c.in-Ok-finish.ensures.sealed tells (g.M.Maker.sealed old) (end.sealed tells))
    ∙ sealed_outside f block c.args.job.now.level n
    (n + length r.0 * suc (length c.args.job.now.keys)) tables (cut_from n c.args.job.now.keys r.0)
    (g.M.Maker.sealed old) pieces (numbered_cut n c.args.job.now.keys r.0) m away
