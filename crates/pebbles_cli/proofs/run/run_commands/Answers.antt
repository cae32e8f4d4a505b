use Rattle.std.proofs.Common.{false, inl, inr, refl, sym, ap, ◌∙◌, subst}
use Rattle.peb_base.specs.declared.profile.Profile.TheVariants.{Small}
use Rattle.disk_model.specs.declared.journal_file.JournalFile.{JournalFile}
use Rattle.recovery.specs.NextLog.{HasTouchedNext}
use Rattle.flsm_core.specs.Place.{Start, opened, start_at}
use Rattle.flsm_core.specs.State.{state_session, state_journal, state_file}
use Rattle.disk_model.specs.Told.{told_by}
use Rattle.pebbles_cli.specs.declared.served.Served.{Served}
use Rattle.pebbles_cli.specs.Outside.{outside, devices_told}
use Rattle.pebbles_cli.specs.Tells.{sync_cause}
use Rattle.pebbles_cli.specs.Causes.{end_of}
use Rattle.pebbles_cli.proofs.Handing.{nothing_opened, tables_then, tells_itself, in_same}
use Rattle.pebbles_cli.proofs.Running.{ran_of, touched_all, touched_rest, plays_in, ran_after, opening_after}
use Rattle.pebbles_cli.proofs.run.run_commands.Goals as goal

pub returns-in_default-clause-ran : goal.returns-in_default-clause-ran
returns-in_default-clause-ran g c = λ told text short says honest base edits on.
    inl (nothing_opened _ (outside g.D.J.Journal g.D.Devices g.K.Sinks c.args.devices.now c.args.sinks.now) _ (g.met.D.Devices.counts_now c.args.devices.now) (g.met.D.Devices.only_now c.args.devices.now) (inl tt))

pub returns-in_default-clause-somehow : goal.returns-in_default-clause-somehow
returns-in_default-clause-somehow g c = λ text short says.
    inl (nothing_opened _ (outside g.D.J.Journal g.D.Devices g.K.Sinks c.args.devices.now c.args.sinks.now) _ (g.met.D.Devices.counts_now c.args.devices.now) (g.met.D.Devices.only_now c.args.devices.now) (inl tt))

pub returns-in_default-new-clause-ran : goal.returns-in_default-new-clause-ran
returns-in_default-new-clause-ran g c = λ told text short says honest base edits on.
    inl (nothing_opened _ (outside g.D.J.Journal g.D.Devices g.K.Sinks c.args.devices.now c.args.sinks.now) _ (g.met.D.Devices.counts_now c.args.devices.now) (g.met.D.Devices.only_now c.args.devices.now) (inl tt))

pub returns-in_default-new-clause-somehow : goal.returns-in_default-new-clause-somehow
returns-in_default-new-clause-somehow g c = λ text short says.
    inl (nothing_opened _ (outside g.D.J.Journal g.D.Devices g.K.Sinks c.args.devices.now c.args.sinks.now) _ (g.met.D.Devices.counts_now c.args.devices.now) (g.met.D.Devices.only_now c.args.devices.now) (inl tt))

pub returns-in-Err-clause-ran : goal.returns-in-Err-clause-ran
returns-in-Err-clause-ran g c = λ told text short says honest base edits on. inl (record {
  why = inr ((short, (c.args.commands.items, says)), c.in-Err.ensures.cause);
  directory = c.in-Err.ensures.refused;
  sinks = refl;
  untouched = c.in-Err.ensures.untouched;
  memory = c.in-Err.ensures.memory;
  touched = c.in-Err.ensures.next_log_err;
  ever = c.in-Err.ensures.ever;
  now = λ t base edits on. let ever = c.in-Err.ensures.ever t base edits on in (ever.0, λ image left. ever.1 image (g.met.D.Devices.counts_now c.open_store.new.devices _ image c.in-Err.ensures.later left));
  tables = c.open_store.ensures.tables;
})

pub returns-in-Err-clause-somehow : goal.returns-in-Err-clause-somehow
returns-in-Err-clause-somehow g c = λ text short says. inl (record {
  why = inr ((short, (c.args.commands.items, says)), c.in-Err.ensures.cause);
  directory = c.in-Err.ensures.refused;
  sinks = refl;
  untouched = c.in-Err.ensures.untouched;
  memory = c.in-Err.ensures.memory;
  touched = c.in-Err.ensures.next_log_err;
  ever = c.in-Err.ensures.ever;
  now = λ t base edits on. let ever = c.in-Err.ensures.ever t base edits on in (ever.0, λ image left. ever.1 image (g.met.D.Devices.counts_now c.open_store.new.devices _ image c.in-Err.ensures.later left));
  tables = c.open_store.ensures.tables;
})

pub returns-in-Err-clause-after_opening : goal.returns-in-Err-clause-after_opening
returns-in-Err-clause-after_opening g c = λ before.
    opening_after (devices_told g.D.J.Journal g.D.Devices c.args.devices.now) (devices_told g.D.J.Journal g.D.Devices c.open_store.new.devices) c.in-Err.cause c.in-Err.ensures.cause before

pub returns-clause-ran : goal.returns-clause-ran
returns-clause-ran g c = λ told text short says honest base edits holds.
    let old = outside g.D.J.Journal g.D.Devices g.K.Sinks c.args.devices.now c.args.sinks.now in
    let mid = outside g.D.J.Journal g.D.Devices g.K.Sinks c.open_store.new.devices c.serve_client-served.new.sinks in
    let new = outside g.D.J.Journal g.D.Devices g.K.Sinks c.close_run.new.devices c.close_run.new.sinks in
    let start : Start = start_at old.devices.journal Small honest base edits in
    let on = c.in-Ok-open_store.ensures.stands told honest base edits holds in
    let served = c.serve_client-served.ensures.served (opened start on.log) on.stands in
    let closed = c.close_run.ensures.closed served.0.place served.1.0 in
    inr (ran_of start on.log _ old mid new c.close_run.result (state_session c.in-Ok-open_store.state) c.args.commands.items c.as_str.result.now served.0 closed.0 short says on.next on.above
    c.in-Ok-open_store.ensures.possible (c.close_run.ensures.directories ∙ c.in-Ok-open_store.ensures.opened) (c.as_str.ensures.value ∙ c.in-Ok.ensures) served.1.2 closed.1.0
    c.serve_client-served.ensures.report c.serve_client-served.ensures.never_falls
    (closed.1.1 ∙ ap (λ (s : Served). end_of s.fault s.sink_failed (sync_cause closed.0.answer) closed.0.report) (sym served.1.1))
    (subst (λ (f : JournalFile). HasTouchedNext g.D.J.Journal.tells Small f old.devices.journal new.devices.journal) on.file
    (touched_all g.D.J.Journal.tells (state_file c.in-Ok-open_store.state) (state_file c.serve_client-served.new.store) old.devices.journal
    (told_by g.D.J.Journal (state_journal c.in-Ok-open_store.state)) (told_by g.D.J.Journal (state_journal c.serve_client-served.new.store)) new.devices.journal
    c.in-Ok-open_store.ensures.next_log c.serve_client-served.ensures.touched c.close_run.ensures.touched))
    (tables_then c.open_store.ensures.tables c.close_run.ensures.tables))

pub returns-clause-somehow : goal.returns-clause-somehow
returns-clause-somehow g c = λ text short says.
    let old = outside g.D.J.Journal g.D.Devices g.K.Sinks c.args.devices.now c.args.sinks.now in
    let mid = outside g.D.J.Journal g.D.Devices g.K.Sinks c.open_store.new.devices c.serve_client-served.new.sinks in
    let new = outside g.D.J.Journal g.D.Devices g.K.Sinks c.close_run.new.devices c.close_run.new.sinks in
    let some = c.in-Ok-open_store.ensures.somewhere in
    let start : Start = start_at old.devices.journal Small false some.0 some.1 in
    let on = some.3 in
    let served = c.serve_client-served.ensures.served (opened start on.log) on.stands in
    let closed = c.close_run.ensures.closed served.0.place served.1.0 in
    inr (
      some.0,
      (
        some.1,
        (
          some.2,
          ran_of start on.log _ old mid new c.close_run.result (state_session c.in-Ok-open_store.state) c.args.commands.items c.as_str.result.now served.0 closed.0 short says on.next on.above
              c.in-Ok-open_store.ensures.possible (c.close_run.ensures.directories ∙ c.in-Ok-open_store.ensures.opened) (c.as_str.ensures.value ∙ c.in-Ok.ensures) served.1.2 closed.1.0
              c.serve_client-served.ensures.report c.serve_client-served.ensures.never_falls
              (closed.1.1 ∙ ap (λ (s : Served). end_of s.fault s.sink_failed (sync_cause closed.0.answer) closed.0.report) (sym served.1.1))
              (subst (λ (f : JournalFile). HasTouchedNext g.D.J.Journal.tells Small f old.devices.journal new.devices.journal) on.file
              (touched_all g.D.J.Journal.tells (state_file c.in-Ok-open_store.state) (state_file c.serve_client-served.new.store) old.devices.journal
              (told_by g.D.J.Journal (state_journal c.in-Ok-open_store.state)) (told_by g.D.J.Journal (state_journal c.serve_client-served.new.store)) new.devices.journal
              c.in-Ok-open_store.ensures.next_log c.serve_client-served.ensures.touched c.close_run.ensures.touched))
              (tables_then c.open_store.ensures.tables c.close_run.ensures.tables),
        ),
      ),
    )

pub returns-clause-after_opening : goal.returns-clause-after_opening
returns-clause-after_opening g c = λ before.
    let old = outside g.D.J.Journal g.D.Devices g.K.Sinks c.args.devices.now c.args.sinks.now in
    let mid = outside g.D.J.Journal g.D.Devices g.K.Sinks c.open_store.new.devices c.serve_client-served.new.sinks in
    let new = outside g.D.J.Journal g.D.Devices g.K.Sinks c.close_run.new.devices c.close_run.new.sinks in
    let some = c.in-Ok-open_store.ensures.somewhere in
    let start : Start = start_at old.devices.journal Small false some.0 some.1 in
    let on = some.3 in
    let served = c.serve_client-served.ensures.served (opened start on.log) on.stands in
    let closed = c.close_run.ensures.closed served.0.place served.1.0 in
    ran_after _ old mid new served.0 closed.0 c.close_run.result served.1.2 closed.1.0
    (closed.1.1 ∙ ap (λ (s : Served). end_of s.fault s.sink_failed (sync_cause closed.0.answer) closed.0.report) (sym served.1.1)) before

pub returns-in_default-clause-within : goal.returns-in_default-clause-within
returns-in_default-clause-within g c = λ told text short says range asked on.
    let journal = g.D.Devices.journal_told c.args.devices.now in inl (
      nothing_opened _ (outside g.D.J.Journal g.D.Devices g.K.Sinks c.args.devices.now c.args.sinks.now) _ (g.met.D.Devices.counts_now c.args.devices.now) (g.met.D.Devices.only_now c.args.devices.now) (inl tt),
      in_same range journal journal (g.met.D.Devices.only_now c.args.devices.now) (tells_itself journal) on,
    )

pub returns-in_default-new-clause-within : goal.returns-in_default-new-clause-within
returns-in_default-new-clause-within g c = λ told text short says range asked on.
    let journal = g.D.Devices.journal_told c.args.devices.now in inl (
      nothing_opened _ (outside g.D.J.Journal g.D.Devices g.K.Sinks c.args.devices.now c.args.sinks.now) _ (g.met.D.Devices.counts_now c.args.devices.now) (g.met.D.Devices.only_now c.args.devices.now) (inl tt),
      in_same range journal journal (g.met.D.Devices.only_now c.args.devices.now) (tells_itself journal) on,
    )

pub returns-in-Err-clause-within : goal.returns-in-Err-clause-within
returns-in-Err-clause-within g c = λ told text short says range asked on. inl (
  record {
    why = inr ((short, (c.args.commands.items, says)), c.in-Err.ensures.cause);
    directory = c.in-Err.ensures.refused;
    sinks = refl;
    untouched = c.in-Err.ensures.untouched;
    memory = c.in-Err.ensures.memory;
    touched = c.in-Err.ensures.next_log_err;
    ever = c.in-Err.ensures.ever;
    now = λ t base edits on. let ever = c.in-Err.ensures.ever t base edits on in (ever.0, λ image left. ever.1 image (g.met.D.Devices.counts_now c.open_store.new.devices _ image c.in-Err.ensures.later left));
    tables = c.open_store.ensures.tables;
  },
  c.in-Err.ensures.ever_within told range asked on,
)

pub returns-clause-within : goal.returns-clause-within
returns-clause-within g c = λ told text short says range asked all.
    let old = outside g.D.J.Journal g.D.Devices g.K.Sinks c.args.devices.now c.args.sinks.now in
    let mid = outside g.D.J.Journal g.D.Devices g.K.Sinks c.open_store.new.devices c.serve_client-served.new.sinks in
    let new = outside g.D.J.Journal g.D.Devices g.K.Sinks c.close_run.new.devices c.close_run.new.sinks in
    let state = c.in-Ok-open_store.ensures.within told range asked all in
    let start : Start = state.start in
    let on = state.opened in
    let served = c.serve_client-served.ensures.served (opened start on.log) on.stands in
    let closed = c.close_run.ensures.closed served.0.place served.1.0 in
    let opening = told_by g.D.J.Journal (state_journal c.in-Ok-open_store.state) in
    plays_in range _ old new c.close_run.result start g.D.J.Journal.tells (state_file c.in-Ok-open_store.state) opening
    (ran_of start on.log _ old mid new c.close_run.result (state_session c.in-Ok-open_store.state) c.args.commands.items c.as_str.result.now served.0 closed.0 short says on.next on.above
    c.in-Ok-open_store.ensures.possible (c.close_run.ensures.directories ∙ c.in-Ok-open_store.ensures.opened) (c.as_str.ensures.value ∙ c.in-Ok.ensures) served.1.2 closed.1.0
    c.serve_client-served.ensures.report c.serve_client-served.ensures.never_falls
    (closed.1.1 ∙ ap (λ (s : Served). end_of s.fault s.sink_failed (sync_cause closed.0.answer) closed.0.report) (sym served.1.1))
    (subst (λ (f : JournalFile). HasTouchedNext g.D.J.Journal.tells Small f old.devices.journal new.devices.journal) on.file
    (touched_all g.D.J.Journal.tells (state_file c.in-Ok-open_store.state) (state_file c.serve_client-served.new.store) old.devices.journal
    (told_by g.D.J.Journal (state_journal c.in-Ok-open_store.state)) (told_by g.D.J.Journal (state_journal c.serve_client-served.new.store)) new.devices.journal
    c.in-Ok-open_store.ensures.next_log c.serve_client-served.ensures.touched c.close_run.ensures.touched))
    (tables_then c.open_store.ensures.tables c.close_run.ensures.tables))
    state.starts on.stands.began state.since
    (touched_rest g.D.J.Journal.tells (state_file c.in-Ok-open_store.state) (state_file c.serve_client-served.new.store) opening
    (told_by g.D.J.Journal (state_journal c.serve_client-served.new.store)) new.devices.journal c.serve_client-served.ensures.touched c.close_run.ensures.touched)
    told
