use Rattle.std.proofs.Common.{◌<◌, List, length, ap, sym, ◌∙◌, subst, arith}
use Rattle.std.specs.Arc.{arc_value}
use Rattle.std.proofs.lemmas.Bool.{eqb-true}
use Rattle.std.proofs.lemmas.List.{length-map}
use Rattle.peb_base.specs.declared.entry.Entry.{Entry}
use Rattle.mem_table.specs.Chunked.{joined, HaveEntries}
use Rattle.mem_table.specs.SpotLaws.{chunk_some, spot_inside}
use Rattle.mem_table.proofs.chunks.Chunks.is_empty.Goals as goal

pub returns-clause-empty : goal.returns-clause-empty
returns-clause-empty c =
    let cs : List (List Entry) = c.args.self.now in
    let some : 0 < length cs = subst (λ l. 0 < length l) c.self.view_is c.self.invariant.some in
    let each : HaveEntries cs = subst HaveEntries c.self.view_is c.self.invariant.each in
    let entries : 0 < length (joined cs) =
    spot_inside cs (record { chunk = 0; at = 0 })
    (record { chunk = some; at = chunk_some cs 0 each some }) in (
      (λ h. absurd (omega (
        arith,
        eqb-true _ _ (sym c.is_empty.ensures ∙ h),
        c.self.invariant.some,
        length-map c.self.inside.list.items arc_value,
      ))),
      (λ h. absurd (omega (arith, entries, ap length h))),
    )
