use Rattle.std.proofs.Common.{◌≡◌, ◌∙◌, ◌+◌, ℕ, refl, List, length, map, ap, sym, subst, arith, Global}
use Rattle.std.specs.List.{insert}
use Rattle.std.specs.Arc.{arc_value}
use Rattle.std.specs.declared.sync.Arc.{Arc}
use Rattle.std.proofs.lemmas.List.{length-map}
use Rattle.peb_base.specs.Entries.{AreSorted, first_from, put_in}
use Rattle.peb_base.specs.Sorting.{IsApart, put_sorted}
use Rattle.peb_base.specs.SortedParts.{first_from-bound, put_at}
use Rattle.peb_base.specs.declared.entry.Entry.{Entry}
use Rattle.mem_table.proofs.ChunkLemmas.{map_insert}
use Rattle.mem_table.proofs.chunk.Chunk.put.Goals as goal

pub insert-requires : goal.insert-requires
insert-requires c =
    let items = c.self.inside.entries.items in
    omega (
      arith,
      first_from-bound c.key.result.now c.number.result c.args.self.now,
      c.place-at.ensures,
      ap length c.self.view_is,
      length-map items arc_value,
    )

-- what stands in the chunk afterwards
inserted : (e : Entry) (old : List Entry) (at : ℕ) (items new : List (Arc Entry Global))
    (handle : Arc Entry Global)
    → arc_value handle ≡ e → map arc_value items ≡ old → IsApart e old
    → at ≡ first_from e.key e.number old
    → new ≡ insert items at handle → map arc_value new ≡ put_in e old
inserted e old at items new handle holds is apart place grown =
    ap (map arc_value) grown ∙ map_insert arc_value items at handle
    ∙ ap (λ x. insert (map arc_value items) at x) holds
    ∙ ap (λ l. insert l at e) is ∙ ap (λ n. insert old n e) place
    ∙ sym (put_at e old apart)

pub invariant_of-self-2 : goal.invariant_of-self-2
invariant_of-self-2 c =
    let e : Entry = arc_value c.args.entry in
    let old : List Entry = c.args.self.now in
    let place : c.place-at.result ≡ first_from e.key e.number old = cc in
    let new : map arc_value c.insert.new.self.items ≡ put_in e old =
    inserted e old c.place-at.result c.self.inside.entries.items c.insert.new.self.items
    c.args.entry refl c.self.view_is c.requires.apart place c.in_ok-insert.ensures.items in
    let was : AreSorted old = subst AreSorted c.self.view_is c.self.invariant.sorted in
    let len : length (map arc_value c.insert.new.self.items) ≡ length old + 1 =
    omega (
      arith,
      length-map c.insert.new.self.items arc_value,
      c.in_ok-insert.ensures.len,
      length-map c.self.inside.entries.items arc_value,
      ap length c.self.view_is,
    ) in
    record {
      sorted = subst AreSorted (sym new) (put_sorted e old c.requires.entry was c.requires.apart);
      some = omega (arith, len);
      few = omega (arith, len, c.requires.room);
    }

pub returns-clause-ok : goal.returns-clause-ok
returns-clause-ok c =
    let e : Entry = arc_value c.args.entry in
    let old : List Entry = c.args.self.now in
    let place : c.place-at.result ≡ first_from e.key e.number old = cc in
    inserted e old c.place-at.result c.self.inside.entries.items c.insert.new.self.items
    c.args.entry refl c.self.view_is c.requires.apart place c.in_ok-insert.ensures.items
