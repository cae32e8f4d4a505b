use Rattle.std.proofs.Common.{◌≡◌, ◌∙◌, Some, sym, ap}
use Rattle.peb_base.specs.EntryRefs.{change_of}
use Rattle.peb_base.specs.declared.entry.Entry.{Entry}
use Rattle.block_form.proofs.Spots.{ends_there, spot_small}
use Rattle.block_form.proofs.spot.entry_at.Goals as goal

pub change_at-requires : goal.change_at-requires
change_at-requires c =
    let spot = c.requires.2 in
    (spot.entry.change, ends_there c.requires.0 c.args.place c.args.key.now c.args.spot c.args.entries.now c.requires.1 spot)

pub invariant_of-result : goal.invariant_of-result
invariant_of-result c =
    record { small = spot_small c.args.place c.requires.0 c.args.key.now c.args.spot c.requires.1.each c.requires.2 }

pub returns : goal.returns
returns c = λ es all spot.
    let change = c.change_at.ensures spot.entry.change (ends_there es c.args.place c.args.key.now c.args.spot c.args.entries.now all spot) in
    let e : ◌≡◌ {A = Entry} spot.entry (record { key = c.args.key.now; number = c.args.spot.number; change = change_of c.change_at.result }) =
    λ i. record { key = sym spot.key_is i; number = sym spot.number i; change = sym change i } in
    spot.there ∙ ap Some e
