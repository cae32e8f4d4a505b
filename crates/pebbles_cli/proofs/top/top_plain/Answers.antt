use Rattle.std.proofs.Common.{◌≡◌, Some, map, sym, ◌∙◌}
use Rattle.std.specs.Prelude.{string_bytes}
use Rattle.pebbles_cli.specs.Words.{run_words}
use Rattle.pebbles_cli.specs.Outside.{outside}
use Rattle.pebbles_cli.proofs.Playing.{play_not_usage}
use Rattle.pebbles_cli.proofs.Running.{somehow_cause}
use Rattle.pebbles_cli.proofs.top.top_plain.Goals as goal

pub returns-clause-ran : goal.returns-clause-ran
returns-clause-ran g c =
    let named : run_words (map string_bytes c.args.words.now) ≡ Some (c.in-Some.names.dir.now, c.in-Some.names.file.now) = sym c.in-Some.ensures in
    rw (named, c.new-2.ensures.cause, c.new-2.ensures.devices) c.play-cause.ensures.ran

pub returns-clause-somehow : goal.returns-clause-somehow
returns-clause-somehow g c =
    let named : run_words (map string_bytes c.args.words.now) ≡ Some (c.in-Some.names.dir.now, c.in-Some.names.file.now) = sym c.in-Some.ensures in
    rw (named, c.new-2.ensures.cause, c.new-2.ensures.devices) c.play-cause.ensures.somehow

pub returns-clause-cause : goal.returns-clause-cause
returns-clause-cause g c =
    let named : run_words (map string_bytes c.args.words.now) ≡ Some (c.in-Some.names.dir.now, c.in-Some.names.file.now) = sym c.in-Some.ensures in
    rw (named, c.new-2.ensures.cause, c.new-2.ensures.devices)
    (somehow_cause _ (outside g.D.J.Journal g.D.Devices g.K.Sinks c.args.devices c.args.sinks.now) (outside g.D.J.Journal g.D.Devices g.K.Sinks c.play-cause.new.devices c.play-cause.new.sinks) c.play-cause.result c.play-cause.ensures.somehow)

pub returns-clause-usage : goal.returns-clause-usage
returns-clause-usage g c =
    let named : run_words (map string_bytes c.args.words.now) ≡ Some (c.in-Some.names.dir.now, c.in-Some.names.file.now) = sym c.in-Some.ensures in
    let old = outside g.D.J.Journal g.D.Devices g.K.Sinks c.args.devices c.args.sinks.now in
    let new = outside g.D.J.Journal g.D.Devices g.K.Sinks c.play-cause.new.devices c.play-cause.new.sinks in (
      λ usage. absurd (play_not_usage (g.S.Scripts.text c.args.scripts.now c.in-Some.names.file.now) old new c.play-cause.result
          (somehow_cause _ old new c.play-cause.result c.play-cause.ensures.somehow) (sym c.new-2.ensures.cause ∙ usage)),
      λ none. absurd cc,
    )

pub returns-clause-unread : goal.returns-clause-unread
returns-clause-unread g c = λ usage.
    let old = outside g.D.J.Journal g.D.Devices g.K.Sinks c.args.devices c.args.sinks.now in
    let new = outside g.D.J.Journal g.D.Devices g.K.Sinks c.play-cause.new.devices c.play-cause.new.sinks in
    absurd (play_not_usage (g.S.Scripts.text c.args.scripts.now c.in-Some.names.file.now) old new c.play-cause.result
    (somehow_cause _ old new c.play-cause.result c.play-cause.ensures.somehow) (sym c.new-2.ensures.cause ∙ usage))

pub returns-clause-within : goal.returns-clause-within
returns-clause-within g c =
    let named : run_words (map string_bytes c.args.words.now) ≡ Some (c.in-Some.names.dir.now, c.in-Some.names.file.now) = sym c.in-Some.ensures in
    rw (named, c.new-2.ensures.cause, c.new-2.ensures.devices) c.play-cause.ensures.within
