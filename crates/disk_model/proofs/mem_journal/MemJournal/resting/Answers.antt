use Rattle.std.proofs.Common.{◌≡◌, reverse, List, ap, ◌∙◌, sym, subst}
use Rattle.disk_model.specs.declared.journal_file.JournalFile.{JournalFile}
use Rattle.disk_model.specs.declared.call.Call.{Call}
use Rattle.disk_model.specs.Files.{image_of}
use Rattle.disk_model.specs.Past.{read_after, AreCalls}
use Rattle.disk_model.proofs.mem_journal.MemJournal.resting.Goals as goal

pub invariant_of-result : goal.invariant_of-result
invariant_of-result c =
    let first = image_of c.args.first.items in
    let none = sym c.new-2.ensures.items in
    let copied = c.in_ok-files.ensures ∙ ap image_of c.deref.ensures.value in
    record {
      agrees = subst (λ (l : List Call). (file : JournalFile) → image_of c.in_ok-files.files.items file ≡ read_after first (reverse l) file) none (λ file. ap (λ i. i file) copied);
      calls = subst (λ (l : List Call). AreCalls first (reverse l)) none tt;
    }
