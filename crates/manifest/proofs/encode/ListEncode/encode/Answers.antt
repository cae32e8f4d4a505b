use Rattle.std.proofs.Common.{◌≡◌, ◌+◌, ◌∷◌, ◌++◌, take, drop, sym, ap, ◌∙◌, append_assoc, length}
use Rattle.byteorder.specs.Endian.{big_bytes}
use Rattle.std.specs.Prelude.{flat_map}
use Rattle.std.proofs.lemmas.List.{drop_more}
use Rattle.manifest.proofs.encode.ListEncode.encode.Goals as goal

pub loop-item-init : goal.loop-item-init
loop-item-init g c =
    let items = c.items-items.result.now in
    ap (λ l. l ++ flat_map g.X.Encode.spelling items) (c.in_ok-extend_from_slice.ensures.items ∙ ap (λ l. c.args.bytes.now.items ++ take 4 (drop 4 l)) c.to_be_bytes-count.ensures)
    ∙ append_assoc c.args.bytes.now.items (big_bytes 4 (length items)) (flat_map g.X.Encode.spelling items)

pub loop-item-preserved : goal.loop-item-preserved
loop-item-preserved g c =
    let items = c.items-items.result.now in
    let x = c.item-item.result in
    let i = c.loop-item.item-index in
    let old = c.loop-item.bytes.items in
    let split : drop i items ≡ x ∷ drop (i + 1) items = drop_more items i x c.loop-item-test.true ∙ ap (λ y. y ∷ drop (i + 1) items) (sym c.item-item.is) in
    ap (λ l. l ++ flat_map g.X.Encode.spelling (drop (i + 1) items)) c.in_ok-encode.ensures
    ∙ append_assoc old (g.X.Encode.spelling x) (flat_map g.X.Encode.spelling (drop (i + 1) items))
    ∙ ap (λ l. old ++ flat_map g.X.Encode.spelling l) (sym split)
    ∙ c.loop-item.invariant
