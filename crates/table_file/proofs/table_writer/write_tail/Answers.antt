use Rattle.std.proofs.Common.{◌≡◌, ◌+◌, ◌++◌, ◌∙◌, ap, length, arith}
use Rattle.table_file.specs.TakingLaws.{takes_on, takes_both, takes_less, takes_some, takes_all, takes_failed}
use Rattle.table_file.proofs.Spelled.{three, length-footer}
use Rattle.table_file.proofs.table_writer.write_tail.Goals as goal

pub returns-clause-bytes : goal.returns-clause-bytes
returns-clause-bytes g c = λ told.
    c.in_ok-file.ensures.bytes told
    ∙ three _ _ _ _ _ _ _ (c.in_ok-write.ensures.written told) (c.in_ok-write-2.ensures.written told)
    (c.in_ok-write-3.ensures.written told ∙ ap (λ l. g.M.Maker.written c.write-2.new.self ++ l) c.footer_array.ensures)

pub returns-in_err-write-2-clause-taken : goal.returns-in_err-write-2-clause-taken
returns-in_err-write-2-clause-taken g c =
    let one = length c.args.index.now in
    let two = length c.args.filter.now in
    takes_failed c.from_residual-in_err-write-2.result _ c.from_residual-in_err-write-2.ensures.1 _ _ _
    (takes_less (one + two) (one + (two + 48)) _ _ (omega arith)
    (takes_on one two _ _ _ c.in_ok-write.ensures.counted
    (takes_some _ _ _ _ _ _ c.in_err-write-2.ensures.in_part)))

pub returns-in_err-write-3-clause-taken : goal.returns-in_err-write-3-clause-taken
returns-in_err-write-3-clause-taken g c =
    let one = length c.args.index.now in
    let two = length c.args.filter.now in
    let three = length c.footer_array.result in
    let is : three ≡ 48 = ap length c.footer_array.ensures ∙ length-footer c.args.footer in
    takes_failed c.from_residual-in_err-write-3.result _ c.from_residual-in_err-write-3.ensures.1 _ _ _
    (takes_less (one + two + three) (one + (two + 48)) _ _ (omega (arith, is))
    (takes_on (one + two) three _ _ _
    (takes_both one two _ _ _ c.in_ok-write.ensures.counted c.in_ok-write-2.ensures.counted)
    (takes_some _ _ _ _ _ _ c.in_err-write-3.ensures.in_part)))

pub returns-in_err-file-clause-taken : goal.returns-in_err-file-clause-taken
returns-in_err-file-clause-taken g c =
    let one = length c.args.index.now in
    let two = length c.args.filter.now in
    let three = length c.footer_array.result in
    let is : three ≡ 48 = ap length c.footer_array.ensures ∙ length-footer c.args.footer in
    takes_failed c.from_residual-in_err-file.result _ c.from_residual-in_err-file.ensures.1 _ _ _
    (takes_all (one + two + three) (one + (two + 48)) _ _ (omega (arith, is))
    (c.in_err-file.ensures.taken
    ∙ takes_both (one + two) three _ _ _
    (takes_both one two _ _ _ c.in_ok-write.ensures.counted c.in_ok-write-2.ensures.counted)
    c.in_ok-write-3.ensures.counted))
