use Rattle.std.proofs.Common.{◌≡◌, ◌+◌, ◌-◌, ◌∙◌, List, ℕ, length, drop, take, [], ◌++◌, subst, sym, ap, arith, length-drop, length-append}
use Rattle.std.proofs.lemmas.List.{take_rest}
use Rattle.peb_base.specs.declared.entry.Entry.{Entry}
use Rattle.block_form.specs.Building.{key_after}
use Rattle.block_form.specs.Form.{entry_bytes}
use Rattle.block_form.specs.Spots.{value_length}
use Rattle.block_form.specs.Walks.{HoldsEntries, BeginsWithEntry}
use Rattle.block_form.proofs.Scans.{begins}
use Rattle.block_form.proofs.Spots.{inside, front_at, before_at, spot_read}
use Rattle.block_form.proofs.block.Block.step.Goals as goal

pub slice_bounds-rest-count : goal.slice_bounds-rest-count
slice_bounds-rest-count c =
    let b = c.self.inside in
    let holds = subst (λ (es : List Entry). HoldsEntries b.entries.now b.count es) c.self.view_is c.self.invariant in
    omega (arith, inside (c.args.place + 1) b.count b.entries.now c.args.self.now holds, c.requires.spot.behind)

pub slice_bounds-rest-start : goal.slice_bounds-rest-start
slice_bounds-rest-start c =
    let b = c.self.inside in
    let holds = subst (λ (es : List Entry). HoldsEntries b.entries.now b.count es) c.self.view_is c.self.invariant in
    omega (arith, inside (c.args.place + 1) b.count b.entries.now c.args.self.now holds, c.requires.spot.behind)

pub step-found-requires : goal.step-found-requires
step-found-requires c =
    let b = c.self.inside in
    let es = c.args.self.now in
    let from = c.args.spot.behind in
    let rest = take (length b.entries.now - from) (drop from b.entries.now) in
    let holds = subst (λ (es : List Entry). HoldsEntries b.entries.now b.count es) c.self.view_is c.self.invariant in
    let f = front_at (c.args.place + 1) from b.count b.entries.now rest es holds c.requires.place c.requires.spot.behind (take_rest b.entries.now from) in
    let key : c.args.key.now ≡ key_after [] (take (c.args.place + 1) es) = c.requires.spot.key_is ∙ sym (before_at c.args.place es c.requires.spot.entry c.requires.spot.there) in
    subst (λ (k : List ℕ). BeginsWithEntry k rest) (sym key) (begins (c.args.place + 1) (key_after [] (take (c.args.place + 1) es)) rest es f)

pub overflow_sub-behind : goal.overflow_sub-behind
overflow_sub-behind c =
    let b = c.self.inside in
    let es = c.args.self.now in
    let from = c.args.spot.behind in
    let rest = take (length b.entries.now - from) (drop from b.entries.now) in
    let holds = subst (λ (es : List Entry). HoldsEntries b.entries.now b.count es) c.self.view_is c.self.invariant in
    let f = front_at (c.args.place + 1) from b.count b.entries.now rest es holds c.requires.place c.requires.spot.behind (take_rest b.entries.now from) in
    let key : c.args.key.now ≡ key_after [] (take (c.args.place + 1) es) = c.requires.spot.key_is ∙ sym (before_at c.args.place es c.requires.spot.entry c.requires.spot.there) in
    let spelled = f.spelled ∙ ap (λ (k : List ℕ). entry_bytes (c.args.place + 1) k f.here.entry ++ f.more) (sym key) in
    let found = c.step-found.ensures (c.args.place + 1) f.here.entry f.more f.is spelled in
    omega (
      arith,
      ap length spelled,
      ap length (take_rest b.entries.now from),
      length-drop from b.entries.now,
      ap length found.3,
      length-append (entry_bytes (c.args.place + 1) c.args.key.now f.here.entry) f.more,
    )

pub returns : goal.returns
returns c =
    let b = c.self.inside in
    let es = c.args.self.now in
    let from = c.args.spot.behind in
    let rest = take (length b.entries.now - from) (drop from b.entries.now) in
    let holds = subst (λ (es : List Entry). HoldsEntries b.entries.now b.count es) c.self.view_is c.self.invariant in
    let f = front_at (c.args.place + 1) from b.count b.entries.now rest es holds c.requires.place c.requires.spot.behind (take_rest b.entries.now from) in
    let key : c.args.key.now ≡ key_after [] (take (c.args.place + 1) es) = c.requires.spot.key_is ∙ sym (before_at c.args.place es c.requires.spot.entry c.requires.spot.there) in
    let spelled = f.spelled ∙ ap (λ (k : List ℕ). entry_bytes (c.args.place + 1) k f.here.entry ++ f.more) (sym key) in
    let found = c.step-found.ensures (c.args.place + 1) f.here.entry f.more f.is spelled in
    let spot = c.new.ensures in
    spot_read (c.args.place + 1) b.count b.entries.now rest c.step-found.result.behind.now es _ c.new.result holds f found.0
    (ap (λ s. s.number) spot ∙ found.1)
    (ap (λ s. s.value) spot ∙ ap value_length found.2)
    found.3
    (ap (λ s. s.behind) spot)
