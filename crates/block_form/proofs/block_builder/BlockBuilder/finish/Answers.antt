use Rattle.std.proofs.Common.{◌≡◌, ◌<◌, ◌∙◌, ◌∷◌, ◌++◌, [], List, ℕ, length, take, drop, ap, sym, subst, arith, refl, ◌/◌, length-append}
use Rattle.byteorder.specs.Endian.{big_bytes}
use Rattle.peb_base.specs.declared.entry.Entry.{Entry}
use Rattle.block_form.specs.Building.{Building, put_in}
use Rattle.block_form.specs.Form.{IsBlock}
use Rattle.block_form.specs.Walks.{entries_from}
use Rattle.block_form.proofs.Pushes.{built_none, built_own, built_block}
use Rattle.block_form.proofs.block_builder.BlockBuilder.finish.Goals as goal

pub put-requires : goal.put-requires
put-requires c = omega (arith, c.self.invariant.room, ap length c.bytes-2.ensures.bytes)

pub put-requires-2 : goal.put-requires-2
put-requires-2 c =
    omega (arith, c.self.invariant.room, ap length c.bytes-2.ensures.bytes, ap length c.put.ensures, length-append (put_in c.self.inside.room) c.bytes-2.result.now)

pub invariant_of-self : goal.invariant_of-self
invariant_of-self c =
    let b = c.self.inside in
    let text : put_in c.cut.new.self ≡ 0 ∷ [] =
    c.cut.ensures.kept ∙ ap (take 1) (c.put-2.ensures ∙ ap (λ l. l ++ c.to_be_bytes.result) (c.put.ensures ∙ ap (λ l. l ++ c.bytes-2.result.now) c.self.invariant.text)) in
    built_own b.full (put_in c.cut.new.self) c.clear.new.self 0 c.put-3.new.self [] (built_none b.full (put_in c.cut.new.self) c.clear.new.self c.put-3.new.self c.self.invariant.small text c.clear.ensures c.put-3.ensures)

pub returns : goal.returns
unfolding entries_from
returns c =
    let b = c.self.inside in
    let es = entries_from b.count [] (drop 1 (put_in b.room)) in
    let full : b.full ≡ c.args.self.now.full = ap (λ (b : Building). b.full) c.self.view_is in
    let old : es ≡ c.args.self.now.entries = ap (λ (b : Building). b.entries) c.self.view_is in
    let same : c.cut.new.self.bytes.items ≡ c.put-2.new.self.bytes.items = c.cut.ensures.bytes in
    let spelled : c.first.result.now ≡ (put_in b.room ++ b.places) ++ big_bytes 4 (length b.places / 4) =
    c.first.ensures ∙ (λ i. take (c.len-len.ensures.field i) (same i)) ∙ c.put-2.ensures ∙ (λ i. (c.put.ensures i) ++ c.to_be_bytes.result)
    ∙ (λ i. (put_in b.room ++ c.bytes-2.ensures.bytes i) ++ (c.to_be_bytes.ensures ∙ ap (λ (l : List ℕ). big_bytes 4 (length l / 4)) c.bytes.ensures.bytes) i) in (
      (refl, (λ _. tt), λ i. record { full = full i; entries = [] }),
      record {
        next = tt;
        block = subst (λ (xs : List Entry). IsBlock xs c.first.result.now) old (built_block b.full (put_in b.room) b.places b.count b.key es (length b.places / 4) c.first.result.now c.self.invariant (subst (λ (xs : List Entry). 0 < length xs) (sym old) c.requires) refl spelled);
      },
    )
