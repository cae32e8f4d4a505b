use Rattle.std.proofs.Common.{◌≡◌, ◌<◌, ◌≤◌, ℕ, suc, length, ap, ◌∙◌, sym, arith}
use Rattle.std.proofs.lemmas.Bool.{lt-ltb, le-ltb}
use Rattle.std.specs.Prelude.{filter}
use Rattle.peb_base.specs.Profiles.{column, Column}
use Rattle.flsm_model.specs.Fits.{is_some_list}
use Rattle.flsm_model.specs.Picking.{room_at}
use Rattle.job_picker.specs.Seen.{keys_at, tables_at}
use Rattle.job_picker.proofs.Walks.{is_over, all_left, left_from, over_here, over_more, over_some, none_left, next_is}
use Rattle.job_picker.proofs.picking.is_over.Goals as goal

pub loop-guard-init : goal.loop-guard-init
loop-guard-init g c = λ s is.
    let o : Column = column c.args.options.now.profile in
    ap (filter (is_over o s c.args.level)) (all_left g.T.HasRow.the_row o c.args.version.now s c.args.level is c.requires)

pub loop-guard-preserved : goal.loop-guard-preserved
loop-guard-preserved g c = λ s is.
    let o : Column = column c.args.options.now.profile in
    let v = c.args.version.now in
    let level : ℕ = c.args.level in
    let guard : ℕ = c.loop-guard.guard in
    let room : c.room_of-room.result ≡ room_at o level = c.room_of-room.ensures in
    let tables : length c.tables_of.result.now ≡ length (tables_at v level guard) = ap length c.tables_of.ensures in
    let within : guard ≤ length (keys_at v level) = omega (arith, c.loop-guard-test.true, c.count_of-guard-end.ensures.count) in
    let few : length (tables_at v level guard) ≤ room_at o level = omega (arith, room, tables, c.if-tables_of-room.false) in
    let here = over_here g.T.HasRow.the_row o v s level guard is c.requires c.count_of-guard-end.ensures.ascend within ∙ le-ltb (room_at o level) (length (tables_at v level guard)) few in
    c.loop-guard.invariant s is ∙ over_more o v s level guard within here ∙ ap (λ n. filter (is_over o s level) (left_from v level n)) (sym (next_is guard))

pub returns-then-tables_of-room : goal.returns-then-tables_of-room
returns-then-tables_of-room g c = λ s is.
    let o : Column = column c.args.options.now.profile in
    let v = c.args.version.now in
    let level : ℕ = c.args.level in
    let guard : ℕ = c.loop-guard.guard in
    let room : c.room_of-room.result ≡ room_at o level = c.room_of-room.ensures in
    let tables : length c.tables_of.result.now ≡ length (tables_at v level guard) = ap length c.tables_of.ensures in
    let within : guard ≤ length (keys_at v level) = omega (arith, c.loop-guard-test.true, c.count_of-guard-end.ensures.count) in
    let many : room_at o level < length (tables_at v level guard) = omega (arith, room, tables, c.if-tables_of-room.true) in
    let here = over_here g.T.HasRow.the_row o v s level guard is c.requires c.count_of-guard-end.ensures.ascend within ∙ lt-ltb (room_at o level) (length (tables_at v level guard)) many in
    sym (ap is_some_list (c.loop-guard.invariant s is) ∙ over_some o v s level guard within here)

pub returns : goal.returns
returns g c = λ s is.
    let o : Column = column c.args.options.now.profile in
    let v = c.args.version.now in
    let level : ℕ = c.args.level in
    let at : c.loop-guard.guard ≡ suc (length (keys_at v level)) = omega (arith, c.loop-guard-test.false, c.loop-guard.auto.guard-end, c.count_of-guard-end.ensures.count) in
    sym (ap is_some_list (c.loop-guard.invariant s is ∙ ap (filter (is_over o s level)) (none_left v level c.loop-guard.guard at)))
