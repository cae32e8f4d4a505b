use Rattle.std.proofs.Common.{◌∙◌, cond, Some, None, ap}
use Rattle.peb_base.specs.Keys.{key_eq}
use Rattle.mem_table.specs.Chunked.{joined}
use Rattle.mem_table.specs.Spots.{place_of}
use Rattle.mem_table.proofs.ChunkLemmas.{found_nowhere, found_there}
use Rattle.mem_table.proofs.chunks.Chunks.find.Goals as goal

pub returns-in_default : goal.returns-in_default
returns-in_default c =
    found_nowhere c.args.key.now c.args.number
    (joined c.args.self.now) c.in_default.ensures.sorted c.in_default.ensures.place

pub returns-then-eq : goal.returns-then-eq
returns-then-eq c =
    ap (λ b. cond b (Some c.entry-entry.result.now) None)
    (c.if-eq.ensures ∙ ap (λ k. key_eq k c.args.key.now) c.key.ensures)
    ∙ found_there c.args.key.now c.args.number (joined c.args.self.now)
    (place_of c.args.self.now c.in-Some.spot)
    c.entry-entry.result.now c.in-Some.ensures.sorted c.in-Some.ensures.place c.entry-entry.ensures

pub returns-else-eq : goal.returns-else-eq
returns-else-eq c =
    ap (λ b. cond b (Some c.entry-entry.result.now) None)
    (c.if-eq.ensures ∙ ap (λ k. key_eq k c.args.key.now) c.key.ensures)
    ∙ found_there c.args.key.now c.args.number (joined c.args.self.now)
    (place_of c.args.self.now c.in-Some.spot)
    c.entry-entry.result.now c.in-Some.ensures.sorted c.in-Some.ensures.place c.entry-entry.ensures
