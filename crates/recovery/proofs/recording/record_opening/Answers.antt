use Rattle.std.proofs.Common.{◌+◌}
use Rattle.disk_model.specs.Moments.{follows_on}
use Rattle.disk_model.specs.declared.journal_file.JournalFile.TheVariants.{ManifestA}
use Rattle.flsm_model.specs.declared.edit.Edit.TheVariants.{Open}
use Rattle.manifest.specs.Manifests.{IsBeforeOrAfterEdit}
use Rattle.recovery.specs.Record.{Records}
use Rattle.recovery.proofs.Records.{appended_records}
use Rattle.recovery.proofs.recording.record_opening.Goals as goal

pub append-requires-clause-ready : goal.append-requires-clause-ready
append-requires-clause-ready g c = λ told.
    let ready = c.requires.ready told in
    (c.args.profile, ready.0, c.in-Ok.ensures.ready ready.0 told ready.1)

pub returns-in-Ok-append-clause-recorded : goal.returns-in-Ok-append-clause-recorded
returns-in-Ok-append-clause-recorded g c = λ edits told ready.
    c.in-Ok-append.ensures.appended c.args.profile edits (c.in-Ok.ensures.ready edits told ready)

pub returns-in-Ok-append-clause-any_moment : goal.returns-in-Ok-append-clause-any_moment
returns-in-Ok-append-clause-any_moment g c = λ edits told ready.
    let d = g.J.Journal in
    let old = c.args.journal.now in
    let mid = c.have_manifest.new.journal in
    let new = c.append.new.journal in
    let edit = Open (c.args.recorded.shape.session + 1) c.args.log in
    follows_on ManifestA (Records c.args.profile edits edit) (Records c.args.profile edits edit) (λ before after. IsBeforeOrAfterEdit c.args.profile edits edit after) (d.moment old) (d.moment mid)
    (d.may_leave old) (d.may_leave mid) (d.left_since old) (d.left_since mid) (d.left_since new) (d.moment new) c.have_manifest.ensures.time c.append.ensures.time
    (λ image left. g.met.J.Journal.counts_now mid _ image c.have_manifest.ensures.time.later left)
    (c.have_manifest.ensures.any_moment edits edit told ready) (c.append.ensures.any_moment c.args.profile edits (c.in-Ok.ensures.ready edits told ready))
    (λ before after step. step) (λ before between after first then. appended_records c.args.profile edits edit before after then)

pub returns-clause-any_moment : goal.returns-clause-any_moment
returns-clause-any_moment g c = λ edits told ready.
    let d = g.J.Journal in
    let old = c.args.journal.now in
    let mid = c.have_manifest.new.journal in
    let new = c.append.new.journal in
    let edit = Open (c.args.recorded.shape.session + 1) c.args.log in
    follows_on ManifestA (Records c.args.profile edits edit) (Records c.args.profile edits edit) (λ before after. IsBeforeOrAfterEdit c.args.profile edits edit after) (d.moment old) (d.moment mid)
    (d.may_leave old) (d.may_leave mid) (d.left_since old) (d.left_since mid) (d.left_since new) (d.moment new) c.have_manifest.ensures.time c.append.ensures.time
    (λ image left. g.met.J.Journal.counts_now mid _ image c.have_manifest.ensures.time.later left)
    (c.have_manifest.ensures.any_moment edits edit told ready) (c.append.ensures.any_moment c.args.profile edits (c.in-Ok.ensures.ready edits told ready))
    (λ before after step. step) (λ before between after first then. appended_records c.args.profile edits edit before after then)
