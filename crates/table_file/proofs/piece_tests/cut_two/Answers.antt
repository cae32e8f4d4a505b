-- Entries that are pushed in order, each behind what was cut before.
use Rattle.std.proofs.Common.{◌∷◌, [], ℕ, refl, arith}
use Rattle.peb_base.specs.Entries.{AreSorted, IsEntry}
use Rattle.peb_base.specs.declared.change.Change.TheVariants.{Put}
use Rattle.peb_base.specs.declared.entry.Entry.{Entry}
use Rattle.table_file.specs.PieceWriting.{nothing}
use Rattle.table_file.proofs.piece_tests.cut_two.Goals as goal

-- a put of `1` under a key of one byte, numbered 1.1
abbrev put : ℕ → Entry
put key = record { key = key ∷ []; number = 1099511627777; change = Put (49 ∷ []) }

is_put : (key : ℕ) → IsEntry (put key)
is_put key = record {
  some = omega arith;
  key = omega arith;
  number = omega arith;
  value = omega arith;
}

a_sorted : AreSorted (put 97 ∷ [])
a_sorted = (is_put 97, refl, tt)

b_sorted : AreSorted (put 98 ∷ [])
b_sorted = (is_put 98, refl, tt)

ap_sorted : AreSorted (put 97 ∷ put 112 ∷ [])
ap_sorted = (is_put 97, refl, (is_put 112, refl, tt))

bq_sorted : AreSorted (put 98 ∷ put 113 ∷ [])
bq_sorted = (is_put 98, refl, (is_put 113, refl, tt))

pub begin-requires : goal.begin-requires
begin-requires g c = (c.args.keys.now, nothing, c.in-Ok.ensures.cut _ c.args.keys.now)

pub push-requires-clause-cut : goal.push-requires-clause-cut
push-requires-clause-cut g c = (_, c.in_ok-begin.ensures.cut c.args.keys.now nothing (c.in-Ok.ensures.cut _ c.args.keys.now), a_sorted)

pub push-requires-2-clause-cut : goal.push-requires-2-clause-cut
push-requires-2-clause-cut g c =
    let begun = c.in_ok-begin.ensures.cut c.args.keys.now nothing
    (c.in-Ok.ensures.cut _ c.args.keys.now) in
    (_, c.in_ok-push.ensures.cut _ begun a_sorted, ap_sorted)

pub begin-requires-2 : goal.begin-requires-2
begin-requires-2 g c =
    let begun = c.in_ok-begin.ensures.cut c.args.keys.now nothing
    (c.in-Ok.ensures.cut _ c.args.keys.now) in
    let a = c.in_ok-push.ensures.cut _ begun a_sorted in
    (c.args.keys.now, _, c.in_ok-push-2.ensures.cut _ a ap_sorted)

pub push-requires-3-clause-cut : goal.push-requires-3-clause-cut
push-requires-3-clause-cut g c =
    let begun = c.in_ok-begin.ensures.cut c.args.keys.now nothing
    (c.in-Ok.ensures.cut _ c.args.keys.now) in
    let a = c.in_ok-push.ensures.cut _ begun a_sorted in
    let p = c.in_ok-push-2.ensures.cut _ a ap_sorted in
    (_, c.in_ok-begin-2.ensures.cut c.args.keys.now _ p, b_sorted)

pub push-requires-4-clause-cut : goal.push-requires-4-clause-cut
push-requires-4-clause-cut g c =
    let begun = c.in_ok-begin.ensures.cut c.args.keys.now nothing
    (c.in-Ok.ensures.cut _ c.args.keys.now) in
    let a = c.in_ok-push.ensures.cut _ begun a_sorted in
    let p = c.in_ok-push-2.ensures.cut _ a ap_sorted in
    let next = c.in_ok-begin-2.ensures.cut c.args.keys.now _ p in
    (_, c.in_ok-push-3.ensures.cut _ next b_sorted, bq_sorted)

pub finish-requires : goal.finish-requires
finish-requires g c =
    let begun = c.in_ok-begin.ensures.cut c.args.keys.now nothing
    (c.in-Ok.ensures.cut _ c.args.keys.now) in
    let a = c.in_ok-push.ensures.cut _ begun a_sorted in
    let p = c.in_ok-push-2.ensures.cut _ a ap_sorted in
    let next = c.in_ok-begin-2.ensures.cut c.args.keys.now _ p in
    let b = c.in_ok-push-3.ensures.cut _ next b_sorted in
    (c.args.keys.now, _, c.in_ok-push-4.ensures.cut _ b bq_sorted)
