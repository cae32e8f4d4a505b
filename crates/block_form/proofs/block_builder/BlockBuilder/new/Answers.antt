use Rattle.std.proofs.Common.{◌≡◌, ◌≤◌, ◌∷◌, [], arith, refl, rules}
use Rattle.peb_base.specs.Profiles.{column}
use Rattle.peb_base.specs.declared.profile.Profile.{Profile}
use Rattle.peb_base.specs.declared.profile.Profile.TheVariants.{Normal, Small}
use Rattle.block_form.specs.Building.{put_in}
use Rattle.block_form.specs.Walks.{entries_from}
use Rattle.block_form.proofs.Pushes.{built_none, built_own}
use Rattle.block_form.proofs.block_builder.BlockBuilder.new.Goals as goal

small : (p : Profile) → (column p).block_bytes ≤ 4096
small Normal = omega arith
small Small = omega arith

pub invariant_of-result : goal.invariant_of-result
invariant_of-result c =
    let full : c.args.options.now.block_bytes ≤ 4096 = omega (arith, c.args.options.now.block_bytes_of, small c.args.options.now.profile) in
    let text : put_in c.put.new.self ≡ 0 ∷ [] = search rules in
    built_own c.args.options.now.block_bytes (put_in c.put.new.self) c.new-2.result 0 c.new-3.result [] (built_none c.args.options.now.block_bytes (put_in c.put.new.self) c.new-2.result c.new-3.result full text c.new-2.ensures c.new-3.ensures)

pub returns : goal.returns
unfolding entries_from
returns c = refl
