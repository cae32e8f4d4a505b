use Rattle.std.proofs.Common.{ℕ, Option, refl, sym, ap, ◌∙◌, subst}
use Rattle.peb_base.specs.Faults.{Rose}
use Rattle.script.specs.declared.cause.Cause.{Cause}
use Rattle.flsm_core.specs.Place.{Place, after_sync}
use Rattle.disk_model.specs.Told.{told_by}
use Rattle.flsm_core.specs.State.{state_journal, state_file}
use Rattle.flsm_core.specs.Touched.{touched_on, touched_same}
use Rattle.pebbles_cli.specs.Causes.{end_of}
use Rattle.pebbles_cli.specs.Top.{Reports}
use Rattle.pebbles_cli.proofs.run.close_run.Goals as goal

pub returns-clause-closed : goal.returns-clause-closed
returns-clause-closed g c = λ p at.
    let settled = c.settle-closing.ensures.stands p at in
    let q : Place = after_sync p settled.0 in
    let report = c.write_report-report.result in (
      record { answer = settled.0; place = q; report = report },
      (
        record {
          closes = settled.1;
          leads = refl;
          halted = λ stopped. subst (λ (n : ℕ). Rose q.start.faults n) (sym c.close_store.ensures.told.count) (settled.3.halted stopped);
          reports = subst (λ (n : ℕ). Reports n report (g.K.Sinks.reported c.args.sinks.now) (g.K.Sinks.reported c.write_report-report.new.sinks)) (c.last-last.ensures q settled.3) c.write_report-report.ensures.reports;
          report_cause = c.write_report-report.ensures.cause;
          replies_stay = record {
            names = c.write_report-report.ensures.clients.names;
            replies = c.write_report-report.ensures.clients.took 1;
            reply_faults = c.write_report-report.ensures.clients.faults 1;
            never_falls = c.write_report-report.ensures.never_falls;
          };
          left = λ told. c.close_store.ensures.left told q settled.3;
        },
        c.end_of.ensures ∙ ap (λ (o : Option Cause). end_of c.args.served.fault c.args.served.sink_failed o report) settled.2,
      ),
    )

pub returns-clause-touched : goal.returns-clause-touched
returns-clause-touched g c =
    let d = g.D.J.Journal in
    let a = told_by d (state_journal c.args.opened) in
    let b = told_by d (state_journal c.settle-closing.new.store) in
    let told = g.D.Devices.journal_told c.close_store.new.devices in
    let log = c.settle-closing.ensures.touched in
    touched_on d.tells (state_file c.args.opened) a b told log.touched (touched_same d.tells (state_file c.args.opened) b told c.close_store.ensures.told)
