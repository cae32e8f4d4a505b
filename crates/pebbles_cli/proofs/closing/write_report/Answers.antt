use Rattle.std.proofs.Common.{◌≡◌, true, false, sym, ◌∙◌}
use Rattle.std.specs.Result.{is_err}
use Rattle.pebbles_cli.specs.Top.{run_report}
use Rattle.pebbles_cli.proofs.Running.{is_report, report_cut, report_whole}
use Rattle.pebbles_cli.proofs.Serving.{took_none}
use Rattle.pebbles_cli.proofs.closing.write_report.Goals as goal

pub returns-in_default-clause-reports : goal.returns-in_default-clause-reports
returns-in_default-clause-reports g c = (0, took_none (g.K.Sinks.reported c.args.sinks.now))

pub returns-then-is_err-clause-reports : goal.returns-then-is_err-clause-reports
returns-then-is_err-clause-reports g c =
    let failed : is_err c.report.result ≡ true = sym c.is_err.ensures.value ∙ c.if-is_err.true in
    report_cut (g.K.Sinks.reported c.args.sinks.now) (g.K.Sinks.reported c.report.new.self) c.deref.result.now (run_report c.args.last) c.report.result (is_report c.deref.result.now c.args.last (c.deref.ensures.value ∙ c.in-Ok.ensures)) failed
    c.report.ensures.taken

pub returns-clause-reports : goal.returns-clause-reports
returns-clause-reports g c =
    let fine : is_err c.report.result ≡ false = sym c.is_err.ensures.value ∙ c.if-is_err.false in
    report_whole (g.K.Sinks.reported c.args.sinks.now) (g.K.Sinks.reported c.report.new.self) c.deref.result.now (run_report c.args.last) c.report.result (is_report c.deref.result.now c.args.last (c.deref.ensures.value ∙ c.in-Ok.ensures)) fine
    c.report.ensures.taken
