use Rattle.std.proofs.Common.{◌≡◌, ◌∙◌, ◌-◌, List, length, ap, arith}
use Rattle.std.specs.Prelude.{min}
use Rattle.peb_base.specs.declared.entry.Entry.{Entry}
use Rattle.mem_table.specs.Chunked.{chunk_from}
use Rattle.mem_table.proofs.ChunkLemmas.{put_in_chunk_at}
use Rattle.mem_table.proofs.chunks.Chunks.index_for.Goals as goal

pub returns-clause-there : goal.returns-clause-there
returns-clause-there c =
    let e : Entry = c.args.entry.now in
    let cs : List (List Entry) = c.args.self.now in
    let from : c.index_from-index.result ≡ chunk_from e.key e.number cs =
    c.index_from-index.ensures ∙ ap (λ k. chunk_from k c.number.result cs) c.key.ensures
    ∙ ap (λ n. chunk_from e.key n cs) c.number.ensures in
    let is : c.min.result ≡ min (chunk_from e.key e.number cs) (length cs - 1) =
    c.min.ensures ∙ ap (λ n. min n (c.count.result - 1)) from
    ∙ ap (λ n. min (chunk_from e.key e.number cs) (n - 1)) c.count.ensures.count in
    put_in_chunk_at e cs c.min.result
    (omega (arith, c.count.ensures.some, c.count.ensures.count)) c.requires is
