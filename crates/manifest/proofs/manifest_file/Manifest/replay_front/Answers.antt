use Rattle.std.proofs.Common.{sym, ap, subst}
use Rattle.std.specs.List.{AllByRecursion}
use Rattle.disk_model.specs.declared.journal_file.JournalFile.TheVariants.{ManifestA}
use Rattle.record_log.specs.Records.{views}
use Rattle.manifest.specs.Edits.{IsEdit}
use Rattle.manifest.specs.Manifests.{edits_of}
use Rattle.manifest.proofs.Files.{manifest_found, manifest_broken, manifest_ready}
use Rattle.manifest.proofs.manifest_file.Manifest.replay_front.Goals as goal

pub returns-clause-found : goal.returns-clause-found
returns-clause-found g c =
    let front = c.in-Ok-Some.front in
    let read = c.in-Ok.ensures in
    let its = rw c.in-Ok-Some.field-0-is at c.in-Ok-Some.ensures in
    rw c.of.ensures (manifest_found c.manifest_of.result front.log c.in-Ok.read.broken front.header (views front.records.items) (views c.deref.result.now) (edits_of c.in-Ok.read.edits.items) (g.J.Journal.seen c.args.journal.now ManifestA) g.J.Journal.tells
    c.manifest_of.ensures.whole read.each (ap views c.deref.ensures.value) its.found read.found)

pub returns-clause-broken : goal.returns-clause-broken
returns-clause-broken g c =
    let front = c.in-Ok-Some.front in
    let read = c.in-Ok.ensures in
    let its = rw c.in-Ok-Some.field-0-is at c.in-Ok-Some.ensures in
    rw c.of.ensures (manifest_broken c.manifest_of.result front.log c.in-Ok.read.broken front.header (views front.records.items) (views c.deref.result.now) (edits_of c.in-Ok.read.edits.items) (g.J.Journal.seen c.args.journal.now ManifestA) g.J.Journal.tells
    c.manifest_of.ensures.broken read.each (ap views c.deref.ensures.value) its.found its.broken read.found read.broken)

pub returns-clause-ready : goal.returns-clause-ready
returns-clause-ready g c =
    let front = c.in-Ok-Some.front in
    let read = c.in-Ok.ensures in
    let its = rw c.in-Ok-Some.field-0-is at c.in-Ok-Some.ensures in
    let j = g.J.Journal in
    rw c.of.ensures (manifest_ready j.tells j.seen j.may_leave c.args.journal.now c.read_front.new.journal c.manifest_of.result front.log c.in-Ok.read.broken front.header (views front.records.items) (views c.deref.result.now) (edits_of c.in-Ok.read.edits.items)
    c.manifest_of.ensures.whole read.each (ap views c.deref.ensures.value) its.found read.found its.ready its.file its.empty)
