use Rattle.std.proofs.Common.{◌≡◌, ◌∙◌, ◌<◌, ◌-◌, ◌^◌, ℕ, List, [], ◌∷◌, ◌++◌, ap, sym, subst}
use Rattle.std.specs.Prelude.{All}
use Rattle.std.specs.Arc.{arc_value}
use Rattle.peb_base.specs.Entries.{in_order}
use Rattle.peb_base.specs.Inserting.{bytes_of}
use Rattle.peb_base.specs.declared.entry.Entry.{Entry}
use Rattle.mem_table.specs.Chunked.{joined}
use Rattle.mem_table.proofs.InsertLemmas.{one_apart, one_in_order, size_next}
use Rattle.mem_table.proofs.mem_table.MemTable.insert_one.Goals as goal

-- the older entries are older than this one
newer : (old held : List Entry) (n : ℕ) (e : Entry) → All (λ f. f.number < n) old → held ≡ old
    → e.number ≡ n
    → All (λ f. f.number < e.number) held
newer old held n e all are is =
    subst (λ l. All (λ f. f.number < e.number) l) (sym are)
    (subst (λ m. All (λ f. f.number < m) old) (sym is) all)

pub put-requires-clause-apart : goal.put-requires-clause-apart
put-requires-clause-apart c =
    let e : Entry = arc_value c.in_ok-entry.entry in
    let held : List Entry = joined c.self.inside.entries in
    one_apart held e (newer c.args.self.now held c.args.number e c.requires c.self.view_is
    (ap (λ (x : Entry). x.number) c.in_ok-entry.ensures.entry))

pub invariant_of-self-2 : goal.invariant_of-self-2
invariant_of-self-2 c =
    size_next (2 ^ 64 - 1) (joined c.self.inside.entries) (joined c.put.new.self)
    (arc_value c.in_ok-entry.entry)
    c.self.inside.size c.size-bytes.result c.saturating_add-self-inside.result c.self.invariant
    (c.size-bytes.ensures
    ∙ ap bytes_of c.deref.ensures) c.saturating_add-self-inside.ensures c.in_ok-put.ensures.ok

pub returns-clause-ok : goal.returns-clause-ok
returns-clause-ok c =
    let e : Entry = arc_value c.in_ok-entry.entry in
    let held : List Entry = joined c.self.inside.entries in
    one_in_order held (joined c.put.new.self) e
    (newer c.args.self.now held c.args.number e c.requires c.self.view_is
    (ap (λ (x : Entry). x.number) c.in_ok-entry.ensures.entry))
    c.in_ok-put.ensures.sorted c.in_ok-put.ensures.ok
    ∙ ap (λ (x : Entry). in_order (held ++ x ∷ [])) c.in_ok-entry.ensures.entry
    ∙ ap (λ l. in_order
    (l ++ record {
      key = c.args.op.now.key;
      number = c.args.number;
      change =
          c.args.op.now.change;
    } ∷ [])) c.self.view_is
