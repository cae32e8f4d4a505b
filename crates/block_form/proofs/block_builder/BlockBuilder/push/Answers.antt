use Rattle.std.proofs.Common.{◌≡◌, ◌<◌, ◌+◌, ◌∙◌, ◌∷◌, ◌++◌, [], length, drop, ap, sym, subst, arith}
use Rattle.peb_base.specs.EntryRefs.{entry_of}
use Rattle.block_form.specs.Building.{Building, IsBuilding, put_in}
use Rattle.block_form.specs.Form.{block_bytes, entry_bytes}
use Rattle.peb_base.specs.Entries.{AreSorted}
use Rattle.block_form.specs.Walks.{entries_from}
use Rattle.block_form.proofs.Prefixes.{entry-small}
use Rattle.block_form.proofs.Pushes.{built_push, built_own, built_entries, length-built, built_few, last_is}
use Rattle.block_form.proofs.block_builder.BlockBuilder.push.Goals as goal

pub put_place-requires : goal.put_place-requires
put_place-requires c =
    let b = c.self.inside in
    let open_ : length (block_bytes (entries_from b.count [] (drop 1 (put_in b.room)))) < b.full =
    subst (λ (b : Building). length (block_bytes b.entries) < b.full) (sym c.self.view_is) c.requires.room in
    omega (arith, open_, c.self.invariant.small, length-built b.full (put_in b.room) b.places b.count b.key _ c.self.invariant)

pub put_entry-requires-clause-room : goal.put_entry-requires-clause-room
put_entry-requires-clause-room c =
    let b = c.self.inside in
    let open_ : length (block_bytes (entries_from b.count [] (drop 1 (put_in b.room)))) < b.full =
    subst (λ (b : Building). length (block_bytes b.entries) < b.full) (sym c.self.view_is) c.requires.room in
    omega (arith, open_, c.self.invariant.small, length-built b.full (put_in b.room) b.places b.count b.key _ c.self.invariant, entry-small b.count c.bytes.result.now (entry_of c.args.entry) (last_is [] 0 c.args.self.now.entries (entry_of c.args.entry) c.requires.sorted))

pub overflow_add-self : goal.overflow_add-self
overflow_add-self c =
    let b = c.self.inside in
    omega (arith, built_few b.full (put_in b.room) b.places b.count b.key _ c.self.invariant)

-- what is kept after the push
pushed : (c : goal.After-self-1)
    → IsBuilding c.self.inside.full (put_in c.put_entry.new.out) c.put_place.new.places (c.self.inside.count + 1) c.put.new.self
    (entries_from c.self.inside.count [] (drop 1 (put_in c.self.inside.room)) ++ entry_of c.args.entry ∷ [])
pushed c =
    let b = c.self.inside in
    let es = entries_from b.count [] (drop 1 (put_in b.room)) in
    let sorted : AreSorted (es ++ entry_of c.args.entry ∷ []) = subst (λ (b : Building). AreSorted (b.entries ++ entry_of c.args.entry ∷ [])) (sym c.self.view_is) c.requires.sorted in
    let open_ : length (block_bytes es) < b.full = subst (λ (b : Building). length (block_bytes b.entries) < b.full) (sym c.self.view_is) c.requires.room in
    let spelled : put_in c.put_entry.new.out ≡ put_in b.room ++ entry_bytes b.count b.key (entry_of c.args.entry) =
    c.put_entry.ensures ∙ ap (λ k. put_in b.room ++ entry_bytes b.count k (entry_of c.args.entry)) c.bytes.ensures.value in
    built_push b.full (put_in b.room) b.places b.key (put_in c.put_entry.new.out) c.put_place.new.places c.put.new.self b.count c.len-at.result (entry_of c.args.entry) es
    c.self.invariant sorted open_ c.len-at.ensures.len c.put_place.ensures spelled c.put.ensures

pub invariant_of-self : goal.invariant_of-self
invariant_of-self c =
    built_own c.self.inside.full (put_in c.put_entry.new.out) c.put_place.new.places (c.self.inside.count + 1) c.put.new.self _ (pushed c)

pub returns : goal.returns
returns c =
    let read = built_entries c.self.inside.full (put_in c.put_entry.new.out) c.put_place.new.places (c.self.inside.count + 1) c.put.new.self _ (pushed c) in
    (λ i. record { full = c.self.inside.full; entries = read i }) ∙ ap (λ (b : Building). record b { entries = b.entries ++ entry_of c.args.entry ∷ [] }) c.self.view_is

pub put_entry-requires-clause-entry : goal.put_entry-requires-clause-entry
put_entry-requires-clause-entry c = last_is [] 0 c.args.self.now.entries (entry_of c.args.entry) c.requires.sorted

pub put-requires-clause-fits : goal.put-requires-clause-fits
put-requires-clause-fits c = omega (arith, (last_is [] 0 c.args.self.now.entries (entry_of c.args.entry) c.requires.sorted).key)
