use Rattle.std.proofs.Common.{◌≡◌, ◌-◌, ◌*◌, ◌/◌, ◌∙◌, List, length, drop, take, subst, ap, arith, length-drop}
use Rattle.std.proofs.lemmas.List.{take_rest}
use Rattle.byteorder.specs.Endian.{big_number}
use Rattle.peb_base.specs.declared.entry.Entry.{Entry}
use Rattle.block_form.specs.Form.{block_restarts, places_bytes}
use Rattle.block_form.specs.Walks.{HoldsEntries}
use Rattle.block_form.proofs.Restarts.{reads}
use Rattle.block_form.proofs.block.Block.offset_of_restart.Goals as goal

pub slice_bounds-read_u32-count : goal.slice_bounds-read_u32-count
slice_bounds-read_u32-count c =
    let b = c.self.inside in
    let es = c.args.self.now in
    let holds = subst (λ (es : List Entry). HoldsEntries b.entries.now b.count es) c.self.view_is c.self.invariant in
    let placed = b.placed ∙ ap (λ (l : List Entry). places_bytes (block_restarts l)) c.self.view_is in
    let r = reads c.args.place b.count es b.entries.now b.places.now c.requires.restart c.requires.place holds b.small placed in
    let rest = take_rest b.places.now (c.args.place / 16 * 4) in
    omega (arith, r.long)

pub slice_bounds-read_u32-start : goal.slice_bounds-read_u32-start
slice_bounds-read_u32-start c =
    let b = c.self.inside in
    let es = c.args.self.now in
    let holds = subst (λ (es : List Entry). HoldsEntries b.entries.now b.count es) c.self.view_is c.self.invariant in
    let placed = b.placed ∙ ap (λ (l : List Entry). places_bytes (block_restarts l)) c.self.view_is in
    let r = reads c.args.place b.count es b.entries.now b.places.now c.requires.restart c.requires.place holds b.small placed in
    let rest = take_rest b.places.now (c.args.place / 16 * 4) in
    omega (arith, r.long)

pub read_u32-requires : goal.read_u32-requires
read_u32-requires c =
    let b = c.self.inside in
    let es = c.args.self.now in
    let holds = subst (λ (es : List Entry). HoldsEntries b.entries.now b.count es) c.self.view_is c.self.invariant in
    let placed = b.placed ∙ ap (λ (l : List Entry). places_bytes (block_restarts l)) c.self.view_is in
    let r = reads c.args.place b.count es b.entries.now b.places.now c.requires.restart c.requires.place holds b.small placed in
    let rest = take_rest b.places.now (c.args.place / 16 * 4) in
    omega (arith, r.long, ap length rest, length-drop (c.args.place / 16 * 4) b.places.now)

pub overflow_sub-result : goal.overflow_sub-result
overflow_sub-result c =
    let b = c.self.inside in
    let es = c.args.self.now in
    let holds = subst (λ (es : List Entry). HoldsEntries b.entries.now b.count es) c.self.view_is c.self.invariant in
    let placed = b.placed ∙ ap (λ (l : List Entry). places_bytes (block_restarts l)) c.self.view_is in
    let r = reads c.args.place b.count es b.entries.now b.places.now c.requires.restart c.requires.place holds b.small placed in
    let rest = take_rest b.places.now (c.args.place / 16 * 4) in
    let value : c.read_u32.result ≡ big_number 4 (take (length b.places.now - c.args.place / 16 * 4) (drop (c.args.place / 16 * 4) b.places.now)) = c.read_u32.ensures in
    omega (arith, value, ap (big_number 4) rest, r.read)

pub returns : goal.returns
returns c =
    let b = c.self.inside in
    let es = c.args.self.now in
    let holds = subst (λ (es : List Entry). HoldsEntries b.entries.now b.count es) c.self.view_is c.self.invariant in
    let placed = b.placed ∙ ap (λ (l : List Entry). places_bytes (block_restarts l)) c.self.view_is in
    let r = reads c.args.place b.count es b.entries.now b.places.now c.requires.restart c.requires.place holds b.small placed in
    let rest = take_rest b.places.now (c.args.place / 16 * 4) in
    let value : c.read_u32.result ≡ big_number 4 (take (length b.places.now - c.args.place / 16 * 4) (drop (c.args.place / 16 * 4) b.places.now)) = c.read_u32.ensures in
    omega (arith, value, ap (big_number 4) rest, r.read)
