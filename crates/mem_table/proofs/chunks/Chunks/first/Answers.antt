use Rattle.std.proofs.Common.{◌<◌, List, length, subst, sym}
use Rattle.peb_base.specs.declared.entry.Entry.{Entry}
use Rattle.mem_table.specs.Chunked.{joined, HaveEntries}
use Rattle.mem_table.specs.SpotLaws.{chunk_some, place_there, spot_inside}
use Rattle.mem_table.proofs.chunks.Chunks.first.Goals as goal

pub returns-clause-place : goal.returns-clause-place
returns-clause-place c =
    let cs : List (List Entry) = c.args.self.now in
    let some : 0 < length cs = subst (λ l. 0 < length l) c.self.view_is c.self.invariant.some in
    let each : HaveEntries cs = subst HaveEntries c.self.view_is c.self.invariant.each in
    sym (place_there (joined cs) 0
    (spot_inside cs (record { chunk = 0; at = 0 })
    (record { chunk = some; at = chunk_some cs 0 each some })))
