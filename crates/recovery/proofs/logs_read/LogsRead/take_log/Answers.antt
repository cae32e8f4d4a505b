use Rattle.std.proofs.Common.{rules, ◌≡◌, ◌≤◌, refl, sym, ◌∙◌, subst, arith}
use Rattle.record_log.specs.Records.{bodies_of}
use Rattle.store_layout.specs.Recorded.{IsWithin}
use Rattle.recovery.proofs.Founds.{spells_as}
use Rattle.recovery.proofs.Readings.{has_more}
use Rattle.recovery.proofs.logs_read.LogsRead.take_log.Goals as goal

pub returns-in-Ok-clause-ok : goal.returns-in-Ok-clause-ok
returns-in-Ok-clause-ok c = λ bounds logs batches log asked is header records.
    let profile : c.args.header.now.profile ≡ c.args.profile = search rules in
    let own : c.args.header.now.session ≤ c.args.self.session = search rules in
    let more = c.in-Ok.ensures.ok batches is.replay in
    let within : IsWithin bounds c.args.header.now = (profile ∙ sym asked, omega (arith, own, is.session)) in (
      more.0,
      has_more bounds c.args.self _ logs batches more.0 log is
          (subst (IsWithin bounds) (sym header) within)
          (spells_as log c.args.header.now (bodies_of c.args.records.now) more.0 header records more.1)
          more.2
          refl
          refl,
    )
