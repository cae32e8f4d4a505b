use Rattle.std.proofs.Common.{inl}
use Rattle.pebbles_cli.specs.Outside.{outside}
use Rattle.pebbles_cli.proofs.Handing.{nothing_opened, tells_itself, in_same}
use Rattle.pebbles_cli.proofs.top.play.Goals as goal

pub returns-in-Err-clause-ran : goal.returns-in-Err-clause-ran
returns-in-Err-clause-ran g c = λ told honest base edits on.
    inl (nothing_opened _ (outside g.D.J.Journal g.D.Devices g.K.Sinks c.args.devices.now c.args.sinks.now) _ (g.met.D.Devices.counts_now c.args.devices.now) (g.met.D.Devices.only_now c.args.devices.now)
    (inl c.in-Err.ensures.refused))

pub returns-in-Err-clause-somehow : goal.returns-in-Err-clause-somehow
returns-in-Err-clause-somehow g c =
    inl (nothing_opened _ (outside g.D.J.Journal g.D.Devices g.K.Sinks c.args.devices.now c.args.sinks.now) _ (g.met.D.Devices.counts_now c.args.devices.now) (g.met.D.Devices.only_now c.args.devices.now)
    (inl c.in-Err.ensures.refused))

pub returns-clause-ran : goal.returns-clause-ran
returns-clause-ran g c = λ told honest base edits on. c.run_commands.ensures.ran told _ c.in-Ok.ensures.short c.in-Ok.ensures.says honest base edits on

pub returns-clause-somehow : goal.returns-clause-somehow
returns-clause-somehow g c = c.run_commands.ensures.somehow _ c.in-Ok.ensures.short c.in-Ok.ensures.says

pub returns-in-Err-clause-within : goal.returns-in-Err-clause-within
returns-in-Err-clause-within g c = λ told range asked on.
    let journal = g.D.Devices.journal_told c.args.devices.now in inl (
      nothing_opened _ (outside g.D.J.Journal g.D.Devices g.K.Sinks c.args.devices.now c.args.sinks.now) _ (g.met.D.Devices.counts_now c.args.devices.now) (g.met.D.Devices.only_now c.args.devices.now)
          (inl c.in-Err.ensures.refused),
      in_same range journal journal (g.met.D.Devices.only_now c.args.devices.now) (tells_itself journal) on,
    )

pub returns-clause-within : goal.returns-clause-within
returns-clause-within g c = λ told range asked on. c.run_commands.ensures.within told _ c.in-Ok.ensures.short c.in-Ok.ensures.says range asked on
