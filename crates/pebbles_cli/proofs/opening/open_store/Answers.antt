use Rattle.std.proofs.Common.{false, inl, inr, sym, ◌∙◌, subst}
use Rattle.peb_base.specs.declared.profile.Profile.TheVariants.{Small}
use Rattle.disk_model.specs.Images.{Image}
use Rattle.disk_model.specs.declared.journal_file.JournalFile.TheVariants.{ManifestA}
use Rattle.disk_model.specs.Told.{told_by}
use Rattle.flsm_core.specs.Place.{Start}
use Rattle.store_layout.specs.Recorded.{ReadsBy}
use Rattle.flsm_core.specs.State.{state_journal, state_file}
use Rattle.recovery.specs.NextLog.{next_log_on}
use Rattle.recovery.specs.Opened.{OpenedOn}
use Rattle.peb_base.specs.Faults.{Rose}
use Rattle.pebbles_cli.specs.Causes.{JournalRose}
use Rattle.pebbles_cli.specs.Outside.{devices_told}
use Rattle.flsm_core.specs.Touched.{touched_self}
use Rattle.pebbles_cli.proofs.Handing.{same_then, tells_itself, watched_same, touches_between, touched_between, opens_same, starts_same, starts_in_same, in_between, in_same, leaves_between, leaves_same, memory_only, store_weaker, rose_same}
use Rattle.pebbles_cli.proofs.opening.open_store.Goals as goal

pub returns-in-Ok-open-clause-stands : goal.returns-in-Ok-open-clause-stands
returns-in-Ok-open-clause-stands g c = λ told honest base edits on.
    let old = g.D.Devices.journal_told c.args.devices.now in
    let mid = told_by g.D.J.Journal c.in-Ok-journal.journal in
    let same = same_then c.set.ensures.told c.in-Ok-journal.ensures.journal in
    subst (λ (s : Start). OpenedOn g.D.J.Journal c.in-Ok-open.state s) (starts_same old mid Small honest base edits same)
    (c.in-Ok-open.ensures.stands told honest base edits (opens_same old mid honest Small base edits same on))

pub returns-in-Ok-open-clause-somewhere : goal.returns-in-Ok-open-clause-somewhere
returns-in-Ok-open-clause-somewhere g c =
    let old = g.D.Devices.journal_told c.args.devices.now in
    let mid = told_by g.D.J.Journal c.in-Ok-journal.journal in
    let same = same_then c.set.ensures.told c.in-Ok-journal.ensures.journal in
    let some = c.in-Ok-open.ensures.somewhere in (
      some.0,
      some.1,
      λ told. let read = some.2 told in (read.0, subst (λ (i : Image). ReadsBy Small some.1 i read.0 some.0) same.bytes read.1),
      subst (λ (s : Start). OpenedOn g.D.J.Journal c.in-Ok-open.state s) (starts_same old mid Small false some.0 some.1 same) some.3,
    )

pub returns-in-Ok-open-clause-next_log : goal.returns-in-Ok-open-clause-next_log
returns-in-Ok-open-clause-next_log g c =
    let state = c.in-Ok-open.state in
    let new = told_by g.D.J.Journal (state_journal state) in
    next_log_on g.D.J.Journal.tells Small (state_file state) (g.D.Devices.journal_told c.args.devices.now) (told_by g.D.J.Journal c.in-Ok-journal.journal) new new
    (same_then c.set.ensures.told c.in-Ok-journal.ensures.journal) c.in-Ok-open.ensures.next_log (touched_self g.D.J.Journal.tells (state_file state) new)

pub returns-in_default-clause-next_log_err : goal.returns-in_default-clause-next_log_err
returns-in_default-clause-next_log_err g c =
    let old = c.args.devices.now in
    inl (watched_same (g.D.Devices.journal_told old) (g.D.Devices.journal_told c.set.new.self) (g.met.D.Devices.counts_now old) (g.met.D.Devices.only_now old) c.set.ensures.told)

pub returns-in_default-journal-clause-next_log_err : goal.returns-in_default-journal-clause-next_log_err
returns-in_default-journal-clause-next_log_err g c =
    let old = c.args.devices.now in
    inl (watched_same (g.D.Devices.journal_told old) (g.D.Devices.journal_told c.journal.new.self) (g.met.D.Devices.counts_now old) (g.met.D.Devices.only_now old) (same_then c.set.ensures.told c.in_default-journal.ensures.told))

pub returns-in-Err-clause-next_log_err : goal.returns-in-Err-clause-next_log_err
returns-in-Err-clause-next_log_err g c =
    let old = g.D.Devices.journal_told c.args.devices.now in
    let mid = told_by g.D.J.Journal c.in-Ok-journal.journal in
    touches_between g.D.J.Journal.tells old mid (told_by g.D.J.Journal c.in-Err.refused.1) (g.D.Devices.journal_told c.back.new.self)
    (same_then c.set.ensures.told c.in-Ok-journal.ensures.journal) c.in-Err.ensures.next_log_err c.back.ensures.told

pub returns-in-Err-clause-cause : goal.returns-in-Err-clause-cause
returns-in-Err-clause-cause g c =
    let d = g.D.J.Journal in
    let old = devices_told d g.D.Devices c.args.devices.now in
    let new = devices_told d g.D.Devices c.back.new.self in
    let mid = told_by d c.in-Ok-journal.journal in
    let late = told_by d c.in-Err.refused.1 in
    let same = same_then c.set.ensures.told c.in-Ok-journal.ensures.journal in
    record {
      fault = c.in-Err.refused.0;
      tells = c.opening_cause.ensures;
      when = store_weaker c.in-Err.refused.0 (Rose mid.faults late.faults) (JournalRose old new) d.tells mid.seen old.journal.seen Small (sym same.bytes)
          (λ rose. inr (rose_same mid.faults old.journal.faults late.faults new.journal.faults same.count c.back.ensures.told.count rose)) c.in-Err.ensures.cause;
    }

pub returns-in-Err-clause-memory : goal.returns-in-Err-clause-memory
returns-in-Err-clause-memory g c = λ short.
    let old = g.D.Devices.journal_told c.args.devices.now in
    let mid = told_by g.D.J.Journal c.in-Ok-journal.journal in
    touched_between g.D.J.Journal.tells ManifestA old mid (told_by g.D.J.Journal c.in-Err.refused.1) (g.D.Devices.journal_told c.back.new.self)
    (same_then c.set.ensures.told c.in-Ok-journal.ensures.journal) (c.in-Err.ensures.memory (memory_only c.in-Err.refused.0 (sym c.opening_cause.ensures ∙ short))) c.back.ensures.told

pub returns-in-Ok-open-clause-within : goal.returns-in-Ok-open-clause-within
returns-in-Ok-open-clause-within g c = λ told range asked on.
    let old = g.D.Devices.journal_told c.args.devices.now in
    let mid = told_by g.D.J.Journal c.in-Ok-journal.journal in
    let same = same_then c.set.ensures.told c.in-Ok-journal.ensures.journal in
    let new = told_by g.D.J.Journal (state_journal c.in-Ok-open.state) in
    let within = c.in-Ok-open.ensures.within told range asked (λ image left. on image ((same.images image).0 left)) in
    record {
      start = within.start;
      starts = starts_in_same range old mid within.start same within.starts;
      opened = within.opened;
      since = in_between range old mid new new same (tells_itself new) within.since;
    }

pub returns-in_default-clause-ever : goal.returns-in_default-clause-ever
returns-in_default-clause-ever g c = λ told base edits on.
    leaves_same (g.D.Devices.journal_told c.args.devices.now) (g.D.Devices.journal_told c.set.new.self) base edits (g.met.D.Devices.only_now c.args.devices.now) c.set.ensures.told on

pub returns-in_default-journal-clause-ever : goal.returns-in_default-journal-clause-ever
returns-in_default-journal-clause-ever g c = λ told base edits on.
    leaves_same (g.D.Devices.journal_told c.args.devices.now) (g.D.Devices.journal_told c.journal.new.self) base edits (g.met.D.Devices.only_now c.args.devices.now)
    (same_then c.set.ensures.told c.in_default-journal.ensures.told) on

pub returns-in-Err-clause-ever : goal.returns-in-Err-clause-ever
returns-in-Err-clause-ever g c = λ told base edits on.
    let old = g.D.Devices.journal_told c.args.devices.now in
    let mid = told_by g.D.J.Journal c.in-Ok-journal.journal in
    let same = same_then c.set.ensures.told c.in-Ok-journal.ensures.journal in
    leaves_between old mid (told_by g.D.J.Journal c.in-Err.refused.1) (g.D.Devices.journal_told c.back.new.self) base edits same c.back.ensures.told
    (c.in-Err.ensures.images told base edits (λ image left. on image ((same.images image).0 left)))

pub returns-in_default-clause-ever_within : goal.returns-in_default-clause-ever_within
returns-in_default-clause-ever_within g c = λ told range asked on.
    in_same range (g.D.Devices.journal_told c.args.devices.now) (g.D.Devices.journal_told c.set.new.self) (g.met.D.Devices.only_now c.args.devices.now) c.set.ensures.told on

pub returns-in_default-journal-clause-ever_within : goal.returns-in_default-journal-clause-ever_within
returns-in_default-journal-clause-ever_within g c = λ told range asked on.
    in_same range (g.D.Devices.journal_told c.args.devices.now) (g.D.Devices.journal_told c.journal.new.self) (g.met.D.Devices.only_now c.args.devices.now)
    (same_then c.set.ensures.told c.in_default-journal.ensures.told) on

pub returns-in-Err-clause-ever_within : goal.returns-in-Err-clause-ever_within
returns-in-Err-clause-ever_within g c = λ told range asked on.
    let old = g.D.Devices.journal_told c.args.devices.now in
    let mid = told_by g.D.J.Journal c.in-Ok-journal.journal in
    let same = same_then c.set.ensures.told c.in-Ok-journal.ensures.journal in
    in_between range old mid (told_by g.D.J.Journal c.in-Err.refused.1) (g.D.Devices.journal_told c.back.new.self) same c.back.ensures.told
    (c.in-Err.ensures.images_within told range asked (λ image left. on image ((same.images image).0 left)))
