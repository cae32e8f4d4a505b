use Rattle.std.proofs.Common.{◌≡◌, ◌∙◌, ◌+◌, ◌<◌, ◌-◌, ◌^◌, List, ap, sym, subst, arith, length}
use Rattle.std.specs.Prelude.{All, min}
use Rattle.std.specs.Arc.{arc_value}
use Rattle.peb_base.specs.Entries.{size_of}
use Rattle.peb_base.specs.Inserting.{bytes_of, entry_under}
use Rattle.peb_base.specs.declared.entry.Entry.{Entry}
use Rattle.mem_table.specs.Chunked.{joined}
use Rattle.mem_table.proofs.InsertLemmas.{next_apart, next_in_order, none_yet, size_next}
use Rattle.mem_table.proofs.mem_table.MemTable.insert_all.Goals as goal

pub loop-at-init : goal.loop-at-init
loop-at-init c =
    let same : joined c.in_ok-entries.entries ≡ joined c.self.inside.entries =
    ap joined c.in_ok-entries.ensures.same in
    record {
      now = same ∙ none_yet (joined c.self.inside.entries) c.in_ok-entries.ensures.sorted;
      sized = c.self.invariant ∙ ap (λ l. min (size_of l) (2 ^ 64 - 1)) (sym same);
    }

pub put-requires-clause-apart : goal.put-requires-clause-apart
put-requires-clause-apart c =
    let e : Entry = arc_value c.in_ok-entry.entry in
    let old : List Entry = joined c.self.inside.entries in
    let newer : All (λ f. f.number < c.args.first) old =
    subst (λ l. All (λ f. f.number < c.args.first) l) (sym c.self.view_is) c.requires.newer in
    let is : e ≡ entry_under (c.args.first + c.loop-at.at) c.index-ops-at.result =
    c.in_ok-entry.ensures.entry ∙ ap (λ n. entry_under n c.index-ops-at.result)
    (c.of_packed-number.ensures ∙ ap (λ n. n + c.loop-at.at) c.packed.ensures.number) in
    next_apart old (joined c.loop-at.entries) c.args.first c.args.ops.now c.loop-at.at e newer c.loop-at.invariant.now
    (ap (λ (x : Entry). x.number) is)

pub loop-at-preserved : goal.loop-at-preserved
loop-at-preserved c =
    let e : Entry = arc_value c.in_ok-entry.entry in
    let old : List Entry = joined c.self.inside.entries in
    let newer : All (λ f. f.number < c.args.first) old =
    subst (λ l. All (λ f. f.number < c.args.first) l) (sym c.self.view_is) c.requires.newer in
    let is : e ≡ entry_under (c.args.first + c.loop-at.at) c.index-ops-at.result =
    c.in_ok-entry.ensures.entry ∙ ap (λ n. entry_under n c.index-ops-at.result)
    (c.of_packed-number.ensures ∙ ap (λ n. n + c.loop-at.at) c.packed.ensures.number) in
    let within : c.loop-at.at < length c.args.ops.now = omega arith in
    record {
      now = next_in_order old (joined c.loop-at.entries)
          (joined c.put.new.self) c.args.first c.args.ops.now c.loop-at.at
          c.index-ops-at.result e newer c.loop-at.invariant.now within c.index-ops-at.is is c.in_ok-put.ensures.ok;
      sized = size_next (2 ^ 64 - 1) (joined c.loop-at.entries)
          (joined c.put.new.self) e c.loop-at.size c.size.result
          c.saturating_add-size.result c.loop-at.invariant.sized
          (c.size.ensures ∙ ap bytes_of c.deref.ensures)
          c.saturating_add-size.ensures c.in_ok-put.ensures.ok;
    }
