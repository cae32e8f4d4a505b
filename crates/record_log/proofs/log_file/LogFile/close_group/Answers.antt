use Rattle.std.proofs.Common.{◌≡◌, ◌<◌, [], ◌∷◌, ◌++◌, length, inl, ap, ◌∙◌, arith, rules}
use Rattle.disk_model.specs.Moments.{follows_on, follows_as}
use Rattle.record_log.specs.Crash.{BeginsWith, HasGate}
use Rattle.record_log.specs.Ready.{IsBeforeOrAfter}
use Rattle.record_log.specs.State.{log_tail}
use Rattle.record_log.proofs.Closing.{front_of, length-front, length-begins, begins_ready, begins_log, gate_log, open_log, staged_form, staged_behind, gate_of_begins, length_closed, group_of_tail}
use Rattle.record_log.proofs.log_file.LogFile.close_group.Goals as goal

pub put_behind-requires : goal.put_behind-requires
put_behind-requires g c = λ told.
    let r = c.requires told in
    let ready = r.2 in (
      front_of r.0 r.1 ++ ready.form.gate ∷ [],
      length-begins r.0 r.1 ready.form.gate c.args.self.now.place ready.place,
      begins_ready g.J.Journal.tells g.J.Journal.seen g.J.Journal.may_leave c.args.journal.now c.args.self.now r.0 r.1 ready,
    )

pub returns-in_err-put_behind-clause-any_moment : goal.returns-in_err-put_behind-clause-any_moment
returns-in_err-put_behind-clause-any_moment g c = λ header groups bodies ready is.
    let file = c.args.self.now.file in
    let gate = ready.form.gate in
    let front = front_of header groups in
    let long = length-begins header groups gate c.args.self.now.place ready.place in
    let begins = begins_ready g.J.Journal.tells g.J.Journal.seen g.J.Journal.may_leave c.args.journal.now c.args.self.now header groups ready in
    follows_as file (λ old new. BeginsWith (front ++ gate ∷ []) new) (λ old new. IsBeforeOrAfter file header groups bodies new) _ _
    (λ old new so. inl (begins_log file header groups ready.form gate new ready.form.closed so))
    (c.put_behind.ensures.any_moment (front ++ gate ∷ []) long begins.left)

pub open_gate-requires : goal.open_gate-requires
open_gate-requires g c = λ told.
    let r = c.requires told in
    let ready = r.2 in
    let front = front_of r.0 r.1 in
    let gate = ready.form.gate in
    let long = length-begins r.0 r.1 gate c.args.self.now.place ready.place in
    let begins = begins_ready g.J.Journal.tells g.J.Journal.seen g.J.Journal.may_leave c.args.journal.now c.args.self.now r.0 r.1 ready in
    let has = gate_of_begins front gate _ _ (c.in_ok-put_behind.ensures.written (front ++ gate ∷ []) told long begins.read) in
    (front, has.0, omega (arith, length-front r.0 r.1, ready.place), has.1)

pub returns-in_err-open_gate-clause-any_moment : goal.returns-in_err-open_gate-clause-any_moment
returns-in_err-open_gate-clause-any_moment g c = λ header groups bodies ready is.
    let file = c.args.self.now.file in
    let gate = ready.form.gate in
    let front = front_of header groups in
    let long = length-begins header groups gate c.args.self.now.place ready.place in
    let begins = begins_ready g.J.Journal.tells g.J.Journal.seen g.J.Journal.may_leave c.args.journal.now c.args.self.now header groups ready in
    let some : 0 < length (log_tail c.args.self.now) = search rules in
    let is_group = group_of_tail bodies (log_tail c.args.self.now) is some c.group.ensures.small in
    let staged = staged_form front gate bodies (log_tail c.args.self.now) c.group.result.now (g.J.Journal.seen c.put_behind.new.journal file) is c.group.ensures.group
    (c.in_ok-put_behind.ensures.written (front ++ gate ∷ []) ready.told long begins.read) in
    let behind = staged_behind bodies staged.0 in
    let place : length front ≡ c.args.self.now.place = omega (arith, length-front header groups, ready.place) in
    follows_on file (λ old new. IsBeforeOrAfter file header groups bodies new) (λ old new. BeginsWith (front ++ gate ∷ []) new) (λ old new. HasGate front behind new)
    _ _ _ _ _ _ _ _ c.put_behind.ensures.time c.open_gate.ensures.time
    (λ image now. g.met.J.Journal.counts_now c.put_behind.new.journal _ image c.put_behind.ensures.time.later now)
    (c.put_behind.ensures.any_moment (front ++ gate ∷ []) long begins.left)
    (c.open_gate.ensures.any_moment front behind place (λ image left. (gate, c.in_ok-put_behind.ensures.kept image left ∙ staged.1)))
    (λ old new so. inl (begins_log file header groups ready.form gate new ready.form.closed so))
    (λ old between new so then. gate_log file header groups ready.form bodies staged.0 new is_group then)

pub returns-clause-any_moment : goal.returns-clause-any_moment
returns-clause-any_moment g c = λ header groups bodies ready is.
    let file = c.args.self.now.file in
    let gate = ready.form.gate in
    let front = front_of header groups in
    let long = length-begins header groups gate c.args.self.now.place ready.place in
    let begins = begins_ready g.J.Journal.tells g.J.Journal.seen g.J.Journal.may_leave c.args.journal.now c.args.self.now header groups ready in
    let some : 0 < length (log_tail c.args.self.now) = search rules in
    let is_group = group_of_tail bodies (log_tail c.args.self.now) is some c.group.ensures.small in
    let staged = staged_form front gate bodies (log_tail c.args.self.now) c.group.result.now (g.J.Journal.seen c.put_behind.new.journal file) is c.group.ensures.group
    (c.in_ok-put_behind.ensures.written (front ++ gate ∷ []) ready.told long begins.read) in
    let behind = staged_behind bodies staged.0 in
    let place : length front ≡ c.args.self.now.place = omega (arith, length-front header groups, ready.place) in
    follows_on file (λ old new. IsBeforeOrAfter file header groups bodies new) (λ old new. BeginsWith (front ++ gate ∷ []) new) (λ old new. HasGate front behind new)
    _ _ _ _ _ _ _ _ c.put_behind.ensures.time c.open_gate.ensures.time
    (λ image now. g.met.J.Journal.counts_now c.put_behind.new.journal _ image c.put_behind.ensures.time.later now)
    (c.put_behind.ensures.any_moment (front ++ gate ∷ []) long begins.left)
    (c.open_gate.ensures.any_moment front behind place (λ image left. (gate, c.in_ok-put_behind.ensures.kept image left ∙ staged.1)))
    (λ old new so. inl (begins_log file header groups ready.form gate new ready.form.closed so))
    (λ old between new so then. gate_log file header groups ready.form bodies staged.0 new is_group then)

pub returns-clause-closed : goal.returns-clause-closed
returns-clause-closed g c = λ header groups bodies ready is.
    let file = c.args.self.now.file in
    let gate = ready.form.gate in
    let front = front_of header groups in
    let long = length-begins header groups gate c.args.self.now.place ready.place in
    let begins = begins_ready g.J.Journal.tells g.J.Journal.seen g.J.Journal.may_leave c.args.journal.now c.args.self.now header groups ready in
    let some : 0 < length (log_tail c.args.self.now) = search rules in
    let is_group = group_of_tail bodies (log_tail c.args.self.now) is some c.group.ensures.small in
    let staged = staged_form front gate bodies (log_tail c.args.self.now) c.group.result.now (g.J.Journal.seen c.put_behind.new.journal file) is c.group.ensures.group
    (c.in_ok-put_behind.ensures.written (front ++ gate ∷ []) ready.told long begins.read) in
    let behind = staged_behind bodies staged.0 in
    let place : length front ≡ c.args.self.now.place = omega (arith, length-front header groups, ready.place) in
    let opened = c.in_ok-open_gate.ensures.opened front behind ready.told place (gate, staged.1) in
    record {
      told = ready.told;
      form = open_log file header groups ready.form bodies staged.0 _ is_group opened;
      place = length_closed groups bodies c.args.self.now.place c.len-len.result is_group.0 ready.place (omega (arith, c.len-len.ensures, ap length is));
      kept = c.in_ok-open_gate.ensures.kept;
    }
