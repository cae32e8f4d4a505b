use Rattle.std.proofs.Common.{◌≡◌, ◌-◌, ◌∙◌, List, length, drop, take, [], true, subst, ap, arith, length-drop, length-append}
use Rattle.std.proofs.lemmas.Bool.Decides.{nat_tests}
use Rattle.std.proofs.lemmas.List.{take_rest}
use Rattle.peb_base.specs.declared.entry.Entry.{Entry}
use Rattle.block_form.specs.Building.{key_after}
use Rattle.block_form.specs.Form.{is_restart, entry_bytes}
use Rattle.block_form.specs.Spots.{value_length}
use Rattle.block_form.specs.Walks.{HoldsEntries}
use Rattle.block_form.proofs.Scans.{begins}
use Rattle.block_form.proofs.Spots.{inside, front_at, spot_read}
use Rattle.block_form.proofs.block.Block.restart.Goals as goal

pub slice_bounds-rest-count : goal.slice_bounds-rest-count
slice_bounds-rest-count c =
    let b = c.self.inside in
    let es = c.args.self.now in
    let holds = subst (λ (es : List Entry). HoldsEntries b.entries.now b.count es) c.self.view_is c.self.invariant in
    omega (arith, inside c.args.place b.count b.entries.now es holds, c.requires.at)

pub slice_bounds-rest-start : goal.slice_bounds-rest-start
slice_bounds-rest-start c =
    let b = c.self.inside in
    let es = c.args.self.now in
    let holds = subst (λ (es : List Entry). HoldsEntries b.entries.now b.count es) c.self.view_is c.self.invariant in
    omega (arith, inside c.args.place b.count b.entries.now es holds, c.requires.at)

pub restart_at-requires : goal.restart_at-requires
restart_at-requires c =
    let b = c.self.inside in
    let es = c.args.self.now in
    let rest = take (length b.entries.now - c.args.at) (drop c.args.at b.entries.now) in
    let holds = subst (λ (es : List Entry). HoldsEntries b.entries.now b.count es) c.self.view_is c.self.invariant in
    let f = front_at c.args.place c.args.at b.count b.entries.now rest es holds c.requires.place c.requires.at (take_rest b.entries.now c.args.at) in
    (key_after [] (take c.args.place es), begins c.args.place (key_after [] (take c.args.place es)) rest es f)

pub overflow_sub-behind : goal.overflow_sub-behind
overflow_sub-behind c =
    let b = c.self.inside in
    let es = c.args.self.now in
    let before = key_after [] (take c.args.place es) in
    let rest = take (length b.entries.now - c.args.at) (drop c.args.at b.entries.now) in
    let holds = subst (λ (es : List Entry). HoldsEntries b.entries.now b.count es) c.self.view_is c.self.invariant in
    let f = front_at c.args.place c.args.at b.count b.entries.now rest es holds c.requires.place c.requires.at (take_rest b.entries.now c.args.at) in
    let restart : is_restart c.args.place ≡ true = grind (arith, nat_tests, c.requires.restart) in
    let found = c.restart_at.ensures c.args.place before f.here.entry f.more restart f.is f.spelled in
    omega (
      arith,
      ap length f.spelled,
      ap length (take_rest b.entries.now c.args.at),
      length-drop c.args.at b.entries.now,
      ap length found.3,
      length-append (entry_bytes c.args.place before f.here.entry) f.more,
    )

pub returns-clause-spot : goal.returns-clause-spot
returns-clause-spot c =
    let b = c.self.inside in
    let es = c.args.self.now in
    let rest = take (length b.entries.now - c.args.at) (drop c.args.at b.entries.now) in
    let holds = subst (λ (es : List Entry). HoldsEntries b.entries.now b.count es) c.self.view_is c.self.invariant in
    let f = front_at c.args.place c.args.at b.count b.entries.now rest es holds c.requires.place c.requires.at (take_rest b.entries.now c.args.at) in
    let restart : is_restart c.args.place ≡ true = grind (arith, nat_tests, c.requires.restart) in
    let found = c.restart_at.ensures c.args.place (key_after [] (take c.args.place es)) f.here.entry f.more restart f.is f.spelled in
    let spot = c.new.ensures in
    spot_read c.args.place b.count b.entries.now rest c.restart_at.result.1.behind.now es _ c.new.result holds f found.0
    (ap (λ s. s.number) spot ∙ found.1)
    (ap (λ s. s.value) spot ∙ ap value_length found.2)
    found.3
    (ap (λ s. s.behind) spot)

pub returns-clause-short : goal.returns-clause-short
returns-clause-short c =
    let b = c.self.inside in
    let es = c.args.self.now in
    let rest = take (length b.entries.now - c.args.at) (drop c.args.at b.entries.now) in
    let holds = subst (λ (es : List Entry). HoldsEntries b.entries.now b.count es) c.self.view_is c.self.invariant in
    let f = front_at c.args.place c.args.at b.count b.entries.now rest es holds c.requires.place c.requires.at (take_rest b.entries.now c.args.at) in
    let restart : is_restart c.args.place ≡ true = grind (arith, nat_tests, c.requires.restart) in
    let found = c.restart_at.ensures c.args.place (key_after [] (take c.args.place es)) f.here.entry f.more restart f.is f.spelled in
    omega (arith, f.is.key, ap length found.0)
