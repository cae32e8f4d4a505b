use Rattle.std.proofs.Common.{◌∙◌, map, List, set, ap, sym, subst}
use Rattle.std.specs.Prelude.{Result, Ok, Err, OnErr}
use Rattle.std.specs.Arc.{arc_value}
use Rattle.peb_base.specs.Entries.{put_in}
use Rattle.peb_base.specs.Sorting.{IsApart}
use Rattle.peb_base.specs.declared.entry.Entry.{Entry}
use Rattle.mem_table.specs.Chunked.{joined, IsChunked}
use Rattle.mem_table.proofs.ChunkLemmas.{chunk_apart}
use Rattle.mem_table.proofs.PutLemmas.{puts_at, apart_read, kept, put_one, put_one_chunked, put_two, put_two_chunked}
use Rattle.mem_table.proofs.chunks.Chunks.put.Goals as goal

pub put_in_chunk-requires-clause-apart : goal.put_in_chunk-requires-clause-apart
put_in_chunk-requires-clause-apart c =
    let p = puts_at arc_value c.self.inside.list.items c.args.self.now c.index_for-index.result
    (arc_value c.args.entry) c.deref.result.now
    c.self.view_is c.self.invariant c.index_for-index.ensures.within c.requires.entry c.requires.apart c.deref.ensures c.index_for-index.ensures.there in
    apart_read p c.index_mut.result.now c.index_mut.ensures.value

pub invariant_of-self : goal.invariant_of-self
invariant_of-self c =
    let p = puts_at arc_value c.self.inside.list.items c.args.self.now c.index_for-index.result
    (arc_value c.args.entry) c.deref.result.now
    c.self.view_is c.self.invariant c.index_for-index.ensures.within c.requires.entry c.requires.apart c.deref.ensures c.index_for-index.ensures.there in
    subst IsChunked (sym
    (kept p c.index_mut.result.now c.put_in_chunk.new.chunk c.index_mut.ensures.value c.in_err-put_in_chunk.ensures.err)) p.chunked

on_err : {T E P : Type 0} (r : Result T E) → P → OnErr r P
on_err (Ok x) fact = tt
on_err (Err e) fact = fact

pub returns-in_err-put_in_chunk-clause-err : goal.returns-in_err-put_in_chunk-clause-err
returns-in_err-put_in_chunk-clause-err c =
    let p = puts_at arc_value c.self.inside.list.items c.args.self.now c.index_for-index.result
    (arc_value c.args.entry) c.deref.result.now
    c.self.view_is c.self.invariant c.index_for-index.ensures.within c.requires.entry c.requires.apart c.deref.ensures c.index_for-index.ensures.there in
    on_err c.from_residual.result
    (ap joined (kept p c.index_mut.result.now c.put_in_chunk.new.chunk c.index_mut.ensures.value c.in_err-put_in_chunk.ensures.err))

pub invariant_of-self-then-len-lt-MOST : goal.invariant_of-self-then-len-lt-MOST
invariant_of-self-then-len-lt-MOST c =
    let p = puts_at arc_value c.self.inside.list.items c.args.self.now c.index_for-index.result
    (arc_value c.args.entry) c.deref.result.now
    c.self.view_is c.self.invariant c.index_for-index.ensures.within c.requires.entry c.requires.apart c.deref.ensures c.index_for-index.ensures.there in
    put_one_chunked p c.index_mut.result.now c.put_in_chunk.new.chunk c.index_mut.ensures.value c.in_ok-put_in_chunk.ensures.ok

pub returns-then-len-lt-MOST-clause-ok : goal.returns-then-len-lt-MOST-clause-ok
returns-then-len-lt-MOST-clause-ok c =
    let p = puts_at arc_value c.self.inside.list.items c.args.self.now c.index_for-index.result
    (arc_value c.args.entry) c.deref.result.now
    c.self.view_is c.self.invariant c.index_for-index.ensures.within c.requires.entry c.requires.apart c.deref.ensures c.index_for-index.ensures.there in
    put_one p c.index_mut.result.now c.put_in_chunk.new.chunk c.index_mut.ensures.value c.in_ok-put_in_chunk.ensures.ok

pub halves-requires-clause-apart : goal.halves-requires-clause-apart
halves-requires-clause-apart c =
    let e : Entry = arc_value c.args.entry in
    let cs : List (List Entry) = c.args.self.now in
    subst (IsApart e) (sym c.chunk-2.ensures)
    (chunk_apart e cs c.index_for-index.result c.index_for-index.ensures.within c.requires.apart)

pub invariant_of-self-2 : goal.invariant_of-self-2
invariant_of-self-2 c =
    let p = puts_at arc_value c.self.inside.list.items c.args.self.now c.index_for-index.result
    (arc_value c.args.entry) c.deref.result.now
    c.self.view_is c.self.invariant c.index_for-index.ensures.within c.requires.entry c.requires.apart c.deref.ensures c.index_for-index.ensures.there in
    let both = c.in_ok-low.ensures.joined
    ∙ ap (put_in (arc_value c.args.entry)) c.chunk-2.ensures in
    subst (λ l. IsChunked (map arc_value (set l c.index_for-index.result c.in_ok-low.low)))
    (sym c.in_ok-insert.ensures.items)
    (put_two_chunked p c.in_ok-low.low c.in_ok-low.high both c.in_ok-low.ensures.low c.in_ok-low.ensures.high)

pub returns-clause-ok : goal.returns-clause-ok
returns-clause-ok c =
    let p = puts_at arc_value c.self.inside.list.items c.args.self.now c.index_for-index.result
    (arc_value c.args.entry) c.deref.result.now
    c.self.view_is c.self.invariant c.index_for-index.ensures.within c.requires.entry c.requires.apart c.deref.ensures c.index_for-index.ensures.there in
    let both = c.in_ok-low.ensures.joined
    ∙ ap (put_in (arc_value c.args.entry)) c.chunk-2.ensures in
    ap (λ l. joined (map arc_value
    (set l c.index_for-index.result c.in_ok-low.low))) c.in_ok-insert.ensures.items
    ∙ put_two p c.in_ok-low.low c.in_ok-low.high both
