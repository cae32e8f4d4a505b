use Rattle.std.proofs.Common.{◌∙◌, List, [], sym, subst}
use Rattle.std.proofs.lemmas.List.{append-nil}
use Rattle.peb_base.specs.declared.entry.Entry.{Entry}
use Rattle.peb_base.specs.Keys.{Bytes}
use Rattle.block_form.specs.Form.{entries_bytes}
use Rattle.block_form.specs.Spots.{BeginsWithAll, IsSpot}
use Rattle.block_form.specs.Walks.{HoldsEntries}
use Rattle.block_form.proofs.block.Block.entry_at.Goals as goal

pub entry_at-requires : goal.entry_at-requires
entry_at-requires c =
    let es = c.args.self.now in
    let holds = subst (λ (es : List Entry). HoldsEntries c.self.inside.entries.now c.self.inside.count es) c.self.view_is c.self.invariant in
    let all : BeginsWithAll es c.self.inside.entries.now = record { each = holds.each; more = []; spelled = holds.spelled ∙ sym (append-nil (entries_bytes 0 [] es)) } in
    (es, all, subst (λ (k : Bytes). IsSpot es c.args.place k c.go-spot.result) (sym c.bytes.ensures.value) c.go-spot.ensures)

pub returns : goal.returns
returns c =
    let es = c.args.self.now in
    let holds = subst (λ (es : List Entry). HoldsEntries c.self.inside.entries.now c.self.inside.count es) c.self.view_is c.self.invariant in
    let all : BeginsWithAll es c.self.inside.entries.now = record { each = holds.each; more = []; spelled = holds.spelled ∙ sym (append-nil (entries_bytes 0 [] es)) } in
    c.entry_at.ensures es all (subst (λ (k : Bytes). IsSpot es c.args.place k c.go-spot.result) (sym c.bytes.ensures.value) c.go-spot.ensures)
