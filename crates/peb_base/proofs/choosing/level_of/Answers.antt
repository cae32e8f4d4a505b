use Rattle.std.proofs.Common.{◌≡◌, ◌<◌, ◌-◌, ◌*◌, false, sym, ap, ◌∙◌, refl, arith}
use Rattle.std.proofs.lemmas.Bool.Decides.{nat_tests}
use Rattle.std.specs.Prelude.{nat_le}
use Rattle.peb_base.specs.Profiles.{column}
use Rattle.peb_base.specs.Choice.{need, bits}
use Rattle.peb_base.proofs.Levels.{passed}
use Rattle.peb_base.proofs.choosing.level_of.Goals as goal

pub loop-level-preserved : goal.loop-level-preserved
loop-level-preserved c =
    let options = c.args.options.now in
    let o = column options.profile in
    let level = c.loop-level.level in
    let asked : options.top_bits - options.decrement * (level - 1) ≡ need o level = rw (options.top_bits_of, options.decrement_of) refl in
    let have : c.bits-have.result ≡ bits o.hash c.args.key.now = c.bits-have.ensures.bits ∙ ap (λ h. bits h c.args.key.now) options.hash_of in
    let below : bits o.hash c.args.key.now < need o level = rw (← have, ← asked) c.if-options-level.false in
    let not_met : nat_le (need o level) (bits o.hash c.args.key.now) ≡ false = grind (arith, nat_tests, below) in
    sym (passed o c.args.key.now level options.last_level c.loop-level-test.true not_met) ∙ c.loop-level.invariant
