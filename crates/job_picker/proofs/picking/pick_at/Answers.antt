use Rattle.std.proofs.Common.{◌≡◌, ◌<◌, ◌≤◌, ℕ, suc, length, ap, ◌∙◌, sym, arith}
use Rattle.std.proofs.lemmas.Bool.{lt-ltb, le-ltb}
use Rattle.std.specs.Prelude.{find, Option}
use Rattle.peb_base.specs.Keys.{Bytes}
use Rattle.peb_base.specs.Profiles.{column, Column}
use Rattle.flsm_model.specs.Claims.{is_free}
use Rattle.flsm_model.specs.GuardRanges.{range_at}
use Rattle.flsm_model.specs.Picking.{room_at}
use Rattle.job_picker.specs.Seen.{keys_at, tables_at, jobs_in}
use Rattle.job_picker.proofs.Walks.{all_left, left_from, over_here, none_over, one_over, guard_behind, guard_found, none_left, next_is}
use Rattle.job_picker.proofs.picking.pick_at.Goals as goal

pub loop-guard-init : goal.loop-guard-init
loop-guard-init g c = λ s rs is candidates are.
    let o : Column = column c.args.options.now.profile in
    let v = c.args.version.now in
    let level : ℕ = c.args.level in
    let le : level ≤ length v.levels = omega (arith, c.requires.levels, c.requires.level) in
    ap (λ ranges. find (λ j. is_free j rs) (jobs_in o s level ranges)) (all_left g.T.HasRow.the_row o v s level is le)

pub loop-guard-preserved-then-tables_of-room : goal.loop-guard-preserved-then-tables_of-room
loop-guard-preserved-then-tables_of-room g c = λ s rs is candidates are.
    let o : Column = column c.args.options.now.profile in
    let v = c.args.version.now in
    let level : ℕ = c.args.level in
    let guard : ℕ = c.loop-guard.guard in
    let at : Bytes × Option Bytes = range_at (keys_at v level) guard in
    let le : level ≤ length v.levels = omega (arith, c.requires.levels, c.requires.level) in
    let within : guard ≤ length (keys_at v level) = omega (arith, c.loop-guard-test.true, c.count_of-guard-end.ensures.count) in
    let room : c.room_of-room.result ≡ room_at o level = c.room_of-room.ensures in
    let tables : length c.tables_of.result.now ≡ length (tables_at v level guard) = ap length c.tables_of.ensures in
    let few : length (tables_at v level guard) ≤ room_at o level = omega (arith, room, tables, c.if-tables_of-room.true) in
    let here = over_here g.T.HasRow.the_row o v s level guard is le c.count_of-guard-end.ensures.ascend within ∙ le-ltb (room_at o level) (length (tables_at v level guard)) few in
    c.loop-guard.invariant s rs is candidates are
    ∙ guard_behind o v s (λ j. is_free j rs) level guard within (none_over o s level at (λ j. is_free j rs) here)
    ∙ ap (λ n. find (λ j. is_free j rs) (jobs_in o s level (left_from v level n))) (sym (next_is guard))

pub loop-guard-preserved : goal.loop-guard-preserved
loop-guard-preserved g c = λ s rs is candidates are.
    let o : Column = column c.args.options.now.profile in
    let v = c.args.version.now in
    let level : ℕ = c.args.level in
    let guard : ℕ = c.loop-guard.guard in
    let at : Bytes × Option Bytes = range_at (keys_at v level) guard in
    let le : level ≤ length v.levels = omega (arith, c.requires.levels, c.requires.level) in
    let within : guard ≤ length (keys_at v level) = omega (arith, c.loop-guard-test.true, c.count_of-guard-end.ensures.count) in
    let room : c.room_of-room.result ≡ room_at o level = c.room_of-room.ensures in
    let tables : length c.tables_of.result.now ≡ length (tables_at v level guard) = ap length c.tables_of.ensures in
    let many : room_at o level < length (tables_at v level guard) = omega (arith, room, tables, c.if-tables_of-room.false) in
    let here = over_here g.T.HasRow.the_row o v s level guard is le c.count_of-guard-end.ensures.ascend within ∙ lt-ltb (room_at o level) (length (tables_at v level guard)) many in
    c.loop-guard.invariant s rs is candidates are
    ∙ guard_behind o v s (λ j. is_free j rs) level guard within
    (sym c.in_default.is ∙ c.in_ok-found.ensures s rs is candidates are ∙ one_over o s level at (λ j. is_free j rs) here)
    ∙ ap (λ n. find (λ j. is_free j rs) (jobs_in o s level (left_from v level n))) (sym (next_is guard))

pub returns-in-Some : goal.returns-in-Some
returns-in-Some g c = λ s rs is candidates are.
    let o : Column = column c.args.options.now.profile in
    let v = c.args.version.now in
    let level : ℕ = c.args.level in
    let guard : ℕ = c.loop-guard.guard in
    let at : Bytes × Option Bytes = range_at (keys_at v level) guard in
    let le : level ≤ length v.levels = omega (arith, c.requires.levels, c.requires.level) in
    let within : guard ≤ length (keys_at v level) = omega (arith, c.loop-guard-test.true, c.count_of-guard-end.ensures.count) in
    let room : c.room_of-room.result ≡ room_at o level = c.room_of-room.ensures in
    let tables : length c.tables_of.result.now ≡ length (tables_at v level guard) = ap length c.tables_of.ensures in
    let many : room_at o level < length (tables_at v level guard) = omega (arith, room, tables, c.if-tables_of-room.false) in
    let here = over_here g.T.HasRow.the_row o v s level guard is le c.count_of-guard-end.ensures.ascend within ∙ lt-ltb (room_at o level) (length (tables_at v level guard)) many in
    sym (c.loop-guard.invariant s rs is candidates are
    ∙ guard_found o v s (λ j. is_free j rs) level guard c.in-Some.job within
    (sym c.in-Some.is ∙ c.in_ok-found.ensures s rs is candidates are ∙ one_over o s level at (λ j. is_free j rs) here))

pub returns : goal.returns
returns g c = λ s rs is candidates are.
    let o : Column = column c.args.options.now.profile in
    let v = c.args.version.now in
    let level : ℕ = c.args.level in
    let at : c.loop-guard.guard ≡ suc (length (keys_at v level)) = omega (arith, c.loop-guard-test.false, c.loop-guard.auto.guard-end, c.count_of-guard-end.ensures.count) in
    sym (c.loop-guard.invariant s rs is candidates are ∙ ap (λ ranges. find (λ j. is_free j rs) (jobs_in o s level ranges)) (none_left v level c.loop-guard.guard at))
