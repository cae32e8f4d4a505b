-- The files of the journal among the files of a store.
use Rattle.disk_model.specs.declared.journal_file.JournalFile.{JournalFile}
use Rattle.disk_model.specs.declared.journal_file.JournalFile.TheVariants.{ManifestA, ManifestB, Log}
use Rattle.peb_base.specs.declared.file_name.FileName.{FileName}
use Rattle.peb_base.specs.declared.file_name.FileName.TheVariants as named

-- the name of a file of the journal
abbrev pub file_name_of : JournalFile → FileName
file_name_of ManifestA = named.ManifestA
file_name_of ManifestB = named.ManifestB
file_name_of (Log number) = named.Log number
