use Rattle.std.proofs.Common.{◌≡◌, ◌<◌, ◌∷◌, ◌++◌, [], ◌∙◌, List, length, take, sym, ap, subst, arith}
use Rattle.std.proofs.lemmas.List.{take_all}
use Rattle.peb_base.specs.Entries.{AreSorted}
use Rattle.peb_base.specs.declared.entry.Entry.{Entry}
use Rattle.table_file.specs.Form.{blocks_of}
use Rattle.table_file.specs.Limits.{push_fault, IsRefused}
use Rattle.table_file.specs.Tables.{IsTableOf}
use Rattle.table_file.specs.Writing.{block_length, HasPushed}
use Rattle.table_cursor.specs.Trips.{LimitsPut}
use Rattle.table_cursor.proofs.Tripping.{at_each, limits_push, limits_end}
use Rattle.table_cursor.proofs.trips.write.Goals as goal

pub push-requires : goal.push-requires
push-requires g c =
    let es = c.args.entries.now in
    let n = c.each.entry-index in
    let at = at_each es n c.entry-item.result c.each-test.true c.entry-item.is in
    (take n es, c.each.invariant.pushed, subst (λ (e : Entry). AreSorted (take n es ++ e ∷ [])) (sym c.lent.ensures) (at.sorted c.requires.sorted))

pub returns-in-Err-push-clause-limit : goal.returns-in-Err-push-clause-limit
returns-in-Err-push-clause-limit g c =
    let es = c.args.entries.now in
    let n = c.each.entry-index in
    let at = at_each es n c.entry-item.result c.each-test.true c.entry-item.is in
    let sorted = subst (λ (e : Entry). AreSorted (take n es ++ e ∷ [])) (sym c.lent.ensures) (at.sorted c.requires.sorted) in
    let refused = subst (λ (e : Entry). IsRefused (push_fault (block_length c.each.writer) (take n es) e) c.push.result) c.lent.ensures
    (c.push.ensures.limit (take n es) c.each.invariant.pushed sorted) in
    subst (λ full. LimitsPut full es c.in-Err-push.why) c.each.invariant.block
    (limits_push (block_length c.each.writer) es n c.entry-item.result c.in-Err-push.why at
    (subst (IsRefused (push_fault (block_length c.each.writer) (take n es) c.entry-item.result)) c.in-Err-push.is refused))

pub each-preserved : goal.each-preserved
each-preserved g c =
    let es = c.args.entries.now in
    let n = c.each.entry-index in
    let at = at_each es n c.entry-item.result c.each-test.true c.entry-item.is in
    let so_far = c.each.invariant in
    let sorted = subst (λ (e : Entry). AreSorted (take n es ++ e ∷ [])) (sym c.lent.ensures) (at.sorted c.requires.sorted) in
    let pushed = c.in-Ok-push.ensures.pushed (take n es) so_far.pushed sorted in
    record {
      pushed = subst (λ (l : List Entry). HasPushed g.M.File.TableHandle.tells (g.M.Maker.begun c.push.new.maker) (g.M.Maker.written c.push.new.maker) c.push.new.self l)
          (ap (λ (e : Entry). take n es ++ e ∷ []) c.lent.ensures ∙ sym at.on) pushed;
      number = c.push.ensures.number ∙ so_far.number;
      level = c.push.ensures.level ∙ so_far.level;
      block = c.push.ensures.block ∙ so_far.block;
      sealed = c.push.ensures.sealed ∙ so_far.sealed;
      gone = c.push.ensures.gone ∙ so_far.gone;
      later = omega (arith, so_far.later, c.push.ensures.later);
    }

pub returns-in-Ok-finish-clause-table : goal.returns-in-Ok-finish-clause-table
returns-in-Ok-finish-clause-table g c =
    let es = c.args.entries.now in
    let all : take c.each.entry-index es ≡ es = take_all c.each.entry-index es (omega (arith, c.each-test.false)) in
    let some : 0 < length (take c.each.entry-index es) = omega (arith, c.requires.some, ap length all) in
    let made = c.in-Ok-finish.ensures.table (take c.each.entry-index es) c.each.invariant.pushed some in
    subst (λ (l : List Entry). IsTableOf g.M.File.TableHandle c.in-Ok-finish.table (blocks_of (block_length c.args.writer.now) l) l) all
    (subst (λ full. IsTableOf g.M.File.TableHandle c.in-Ok-finish.table (blocks_of full (take c.each.entry-index es)) (take c.each.entry-index es)) c.each.invariant.block made)

pub returns-in-Err-finish-clause-limit : goal.returns-in-Err-finish-clause-limit
returns-in-Err-finish-clause-limit g c =
    let es = c.args.entries.now in
    let all : take c.each.entry-index es ≡ es = take_all c.each.entry-index es (omega (arith, c.each-test.false)) in
    let some : 0 < length (take c.each.entry-index es) = omega (arith, c.requires.some, ap length all) in
    let limit = c.finish.ensures.limit (take c.each.entry-index es) c.each.invariant.pushed some in
    subst (λ (l : List Entry). LimitsPut (block_length c.args.writer.now) l c.in-Err-finish.why) all
    (subst (λ full. LimitsPut full (take c.each.entry-index es) c.in-Err-finish.why) c.each.invariant.block
    (limits_end c.finish.result (block_length c.each.writer) (take c.each.entry-index es) c.in-Err-finish.why c.in-Err-finish.is limit))
