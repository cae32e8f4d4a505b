use Rattle.std.proofs.Common.{ap}
use Rattle.disk_model.specs.declared.journal_file.JournalFile.TheVariants.{ManifestA}
use Rattle.manifest.specs.Manifests.{manifest_header, edit_groups}
use Rattle.manifest.proofs.Whole.{same_edits, undamaged, one_damage}
use Rattle.manifest.proofs.laws.one_manifest.Goals as goal

pub returns-clause-one_list : goal.returns-clause-one_list
returns-clause-one_list c = λ found a b first second one other.
    let same = c.one_reading.ensures.one_log ManifestA found (manifest_header a) (manifest_header b) (edit_groups first) (edit_groups second) one.log other.log in
    (ap (λ h. h.profile) same.0, same_edits first second one.each other.each same.1)

pub returns-clause-undamaged : goal.returns-clause-undamaged
returns-clause-undamaged c = undamaged

pub returns-clause-one_damage : goal.returns-clause-one_damage
returns-clause-one_damage c = one_damage
