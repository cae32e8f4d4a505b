use Rattle.std.proofs.Common.{◌≡◌, false, refl, sym, ◌∙◌}
use Rattle.std.specs.Prelude.{ℕ, map, List, Option}
use Rattle.disk_model.specs.Told.{told_by}
use Rattle.record_log.specs.State.{log_file}
use Rattle.record_log.specs.Ready.{IsBeforeOrAfter}
use Rattle.store_layout.specs.Logs.{record_of}
use Rattle.flsm_core.proofs.At.{at_synced, at_halted, during_close}
use Rattle.flsm_core.specs.Touched.{touched_step, leaves_but}
use Rattle.flsm_core.proofs.state.StateStore.sync.Goals as goal

pub returns-in-Ok-clause-stands : goal.returns-in-Ok-clause-stands
returns-in-Ok-clause-stands g c = λ p is.
    let fine : p.stopped ≡ false = sym is.stopped ∙ c.if-self.false in
    let d = g.J.Journal in
    at_synced d c.args.self.now _ p refl refl refl refl fine c.in-Ok.ensures.tail c.close_group.ensures.time c.close_group.ensures.cause.later
    (λ told. record {
      images = c.close_group.ensures.any_moment;
      counts = λ image left. g.met.J.Journal.counts_now c.close_group.new.journal _ image c.close_group.ensures.time.later left;
      ready = c.in-Ok.ensures.closed;
      file = c.close_group.ensures.file;
      tail = c.in-Ok.ensures.tail;
    })
    is

pub returns-in-Err-clause-stands : goal.returns-in-Err-clause-stands
returns-in-Err-clause-stands g c = λ p is.
    let fine : p.stopped ≡ false = sym is.stopped ∙ c.if-self.false in
    let d = g.J.Journal in
    at_halted d c.args.self.now _ p refl refl refl c.close_group.ensures.time
    (λ told image left. g.met.J.Journal.counts_now c.close_group.new.journal _ image c.close_group.ensures.time.later left)
    (λ told honest. during_close d c.args.self.now c.close_group.new.journal p fine is told honest c.close_group.ensures.any_moment)
    (rw c.in-Err.is at c.close_group.ensures.cause.failed) c.close_group.ensures.cause.later
    is

pub close_group-requires : goal.close_group-requires
close_group-requires g c = λ told.
    let is = c.requires.1 in
    let rests = is.rests told (sym is.stopped ∙ c.if-self.false) in
    (rests.current.header, rests.current.groups, rests.ready)

pub returns-in-Ok-clause-touched : goal.returns-in-Ok-clause-touched
returns-in-Ok-clause-touched g c =
    let d = g.J.Journal in
    let is = c.requires.1 in
    record {
      log = c.close_group.ensures.file;
      touched = touched_step d.tells (log_file c.args.self.now.log) (told_by d c.args.self.now.journal) (told_by d c.close_group.new.journal)
          (g.met.J.Journal.counts_now c.args.self.now.journal) c.close_group.ensures.time c.close_group.ensures.elsewhere
          (λ told. let fine : c.requires.0.stopped ≡ false = sym is.stopped ∙ c.if-self.false in
          let rests = is.rests told fine in
          leaves_but (log_file c.args.self.now.log)
          (λ (old : Option (List ℕ)) (new : Option (List ℕ)). IsBeforeOrAfter (log_file c.args.self.now.log) rests.current.header rests.current.groups (map record_of c.requires.0.waiting) new)
          (d.may_leave c.args.self.now.journal) (d.left_since c.close_group.new.journal (d.moment c.args.self.now.journal))
          (c.close_group.ensures.any_moment rests.current.header rests.current.groups (map record_of c.requires.0.waiting) rests.ready (is.waits fine).tail));
    }

pub returns-in-Err-clause-touched : goal.returns-in-Err-clause-touched
returns-in-Err-clause-touched g c =
    let d = g.J.Journal in
    let is = c.requires.1 in
    record {
      log = c.close_group.ensures.file;
      touched = touched_step d.tells (log_file c.args.self.now.log) (told_by d c.args.self.now.journal) (told_by d c.close_group.new.journal)
          (g.met.J.Journal.counts_now c.args.self.now.journal) c.close_group.ensures.time c.close_group.ensures.elsewhere
          (λ told. let fine : c.requires.0.stopped ≡ false = sym is.stopped ∙ c.if-self.false in
          let rests = is.rests told fine in
          leaves_but (log_file c.args.self.now.log)
          (λ (old : Option (List ℕ)) (new : Option (List ℕ)). IsBeforeOrAfter (log_file c.args.self.now.log) rests.current.header rests.current.groups (map record_of c.requires.0.waiting) new)
          (d.may_leave c.args.self.now.journal) (d.left_since c.close_group.new.journal (d.moment c.args.self.now.journal))
          (c.close_group.ensures.any_moment rests.current.header rests.current.groups (map record_of c.requires.0.waiting) rests.ready (is.waits fine).tail));
    }
