use Rattle.std.proofs.Common.{◌≡◌, ◌≤◌, ◌<◌, ◌∷◌, length, sym, subst, arith, vec_len}
use Rattle.std.specs.Prelude.{vec_capacity}
use Rattle.flsm_model.specs.Legal.{holds_of}
use Rattle.version_set.proofs.HeldLemmas.{register_length, register_more}
use Rattle.version_set.proofs.held.Held.hold.Goals as goal

pub unreachable-requires : goal.unreachable-requires
unreachable-requires c =
    let pairs = c.self.inside.pairs in
    let few : holds_of c.args.client pairs.items < 64 = subst (λ held. holds_of c.args.client held < 64) (sym c.self.view_is) c.requires.few in
    let more = register_length ((c.args.client, c.args.number) ∷ pairs.items) (register_more c.args.client c.args.number pairs.items c.self.invariant.register c.requires.client few) in
    let full : vec_capacity pairs ≤ vec_len pairs = c.in_default.ensures.full in
    let all : vec_len pairs ≡ length pairs.items = pairs.ok.0 in
    omega (arith, more, full, all, c.self.invariant.room_for_all)
