use Rattle.std.proofs.Common.{◌≡◌, ◌≤◌, ◌∷◌, length, false, suc, sym, ap, ◌∙◌, subst, rules}
use Rattle.std.specs.Prelude.{set}
use Rattle.std.specs.List.{insert}
use Rattle.guard_level.specs.TableLists.{below, above}
use Rattle.peb_base.specs.Guards.{guard_of, is_guard}
use Rattle.guard_level.specs.Guards.{Guards, tables_of, IsUncut}
use Rattle.guard_level.proofs.GuardLemmas.{some_key}
use Rattle.guard_level.proofs.Splits.{inserted, splits}
use Rattle.guard_level.proofs.level.Level.cut.Goals as goal

pub invariant_of-self-2 : goal.invariant_of-self-2
invariant_of-self-2 g c =
    let row = g.T.HasRow.the_row in
    let key = c.args.key in
    let old : Guards _ = record { keys = c.self.inside.keys; tables = c.self.inside.sentinel ∷ c.self.inside.guards.items } in
    let at = guard_of key old.keys in
    let is : c.find_guard-guard.result ≡ at = search rules in
    let new : is_guard key old.keys ≡ false = search rules in
    let uncut = subst (λ level. IsUncut row key (tables_of level (guard_of key level.keys))) (sym c.self.view_is) c.requires in
    let keys : c.insert.new.self ≡ insert old.keys at key = c.in_ok-insert.ensures.ok ∙ ap (λ i. insert old.keys i key) is in
    let within : c.find_guard-guard.result ≤ length old.keys = search rules in
    let read : c.bytes-3.result.now ≡ key = c.bytes-3.ensures.value ∙ inserted old.keys c.items-3.result.now c.find_guard-guard.result key c.index-items-guard.result
    (c.items-3.ensures ∙ c.in_ok-insert.ensures.ok) within c.index-items-guard.is in
    let low = below row key (tables_of old at) in
    let high = above row key (tables_of old at) in
    let kept : c.split_guard-given.new.sentinel ∷ c.split_guard-given.new.guards.items ≡ set old.tables at low = search rules in
    let given : c.split_guard-given.result ≡ high = search rules in
    let tables : c.split_guard-given.new.sentinel ∷ c.insert-2.new.self.items ≡ insert (set old.tables at low) (suc at) high =
    ap (λ gs. c.split_guard-given.new.sentinel ∷ gs) (c.in_ok-insert-2.ensures.items ∙ ap (λ i. insert c.split_guard-given.new.guards.items i c.split_guard-given.result) is)
    ∙ ap (λ ts. insert ts (suc at) c.split_guard-given.result) kept ∙ ap (λ ts. insert (set old.tables at low) (suc at) ts) given in
    rw (keys, tables) (splits row key old c.self.invariant (some_key key c.bytes.ensures.some) new uncut)
