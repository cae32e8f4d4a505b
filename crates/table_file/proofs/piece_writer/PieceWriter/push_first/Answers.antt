use Rattle.std.proofs.Common.{[], Option, subst}
use Rattle.peb_base.specs.EntryRefs.{entry_of}
use Rattle.table_file.specs.Limits.{IsRefused}
use Rattle.table_file.specs.declared.put_fault.PutFault.{PutFault}
use Rattle.table_file.proofs.PieceSteps.{first_fault}
use Rattle.table_file.proofs.piece_writer.PieceWriter.push_first.Goals as goal

pub returns-clause-limit : goal.returns-clause-limit
returns-clause-limit g c =
    subst (λ (r : Option PutFault). IsRefused {T = Unit {0}} r c.push.result)
    (first_fault _ (entry_of c.args.entry) c.requires.entry.0)
    (c.push.ensures.limit [] c.in-Ok.ensures.begun c.requires.entry)
