use Rattle.std.proofs.Common.{[], ◌∷◌, inr, refl, ◌∙◌}
use Rattle.disk_model.specs.Images.{Image}
use Rattle.disk_model.specs.Moments.{elapses_on, follows_on, follows_as}
use Rattle.record_log.specs.Crash.{BeginsWith, HasGate, BeginsAnew, Creates}
use Rattle.record_log.proofs.Creating.{anew_creates, begun_unfinished, begun_gate, behind_gate, closed_begun, gate_made, made_log}
use Rattle.record_log.proofs.log_file.LogFile.create.Goals as goal

pub put_behind-requires : goal.put_behind-requires
put_behind-requires g c = λ told.
    let begun = c.in_ok-begin_file.ensures.begun told in
    let left0 = λ (image : Image) (left : g.J.Journal.may_leave c.begin_file.new.journal image). closed_begun _ _ begun (c.in_ok-begin_file.ensures.kept image left) in
    (0 ∷ [], refl, record { read = begun; left = left0 })

pub returns-in_err-put_behind-clause-any_moment : goal.returns-in_err-put_behind-clause-any_moment
returns-in_err-put_behind-clause-any_moment g c = λ told.
    let file = c.args.file in
    let header = c.args.header in
    let begun = c.in_ok-begin_file.ensures.begun told in
    let left0 = λ (image : Image) (left : g.J.Journal.may_leave c.begin_file.new.journal image). closed_begun _ _ begun (c.in_ok-begin_file.ensures.kept image left) in
    let two = follows_on file BeginsAnew BeginsAnew (λ old new. BeginsWith (0 ∷ []) new) _ _ _ _ _ _ _ _ c.begin_file.ensures.time c.put_behind.ensures.time
    (λ image now. g.met.J.Journal.counts_now c.begin_file.new.journal _ image c.begin_file.ensures.time.later now)
    c.begin_file.ensures.any_moment (c.put_behind.ensures.any_moment (0 ∷ []) refl left0)
    (λ old new so. so) (λ old between new so then. inr (begun_unfinished new then)) in
    follows_as file BeginsAnew (Creates file header) _ _ (anew_creates file header) two

pub open_gate-requires : goal.open_gate-requires
open_gate-requires g c = λ told.
    let file = c.args.file in
    let header = c.args.header in
    let begun = c.in_ok-begin_file.ensures.begun told in
    let left0 = λ (image : Image) (left : g.J.Journal.may_leave c.begin_file.new.journal image). closed_begun _ _ begun (c.in_ok-begin_file.ensures.kept image left) in
    let staged = begun_gate header _ _ c.new_file.ensures (c.in_ok-put_behind.ensures.written (0 ∷ []) told refl begun) in
    let rest = behind_gate header staged.0 in
    ([], rest, refl, (0, staged.1))

pub returns-in_err-open_gate-clause-any_moment : goal.returns-in_err-open_gate-clause-any_moment
returns-in_err-open_gate-clause-any_moment g c = λ told.
    let file = c.args.file in
    let header = c.args.header in
    let begun = c.in_ok-begin_file.ensures.begun told in
    let left0 = λ (image : Image) (left : g.J.Journal.may_leave c.begin_file.new.journal image). closed_begun _ _ begun (c.in_ok-begin_file.ensures.kept image left) in
    let two = follows_on file BeginsAnew BeginsAnew (λ old new. BeginsWith (0 ∷ []) new) _ _ _ _ _ _ _ _ c.begin_file.ensures.time c.put_behind.ensures.time
    (λ image now. g.met.J.Journal.counts_now c.begin_file.new.journal _ image c.begin_file.ensures.time.later now)
    c.begin_file.ensures.any_moment (c.put_behind.ensures.any_moment (0 ∷ []) refl left0)
    (λ old new so. so) (λ old between new so then. inr (begun_unfinished new then)) in
    let staged = begun_gate header _ _ c.new_file.ensures (c.in_ok-put_behind.ensures.written (0 ∷ []) told refl begun) in
    let rest = behind_gate header staged.0 in
    let time = elapses_on c.begin_file.ensures.time c.put_behind.ensures.time in
    follows_on file (Creates file header) BeginsAnew (λ old new. HasGate [] rest new) _ _ _ _ _ _ _ _ time c.open_gate.ensures.time
    (λ image now. g.met.J.Journal.counts_now c.put_behind.new.journal _ image time.later now)
    two (c.open_gate.ensures.any_moment [] rest refl (λ image left. (0, c.in_ok-put_behind.ensures.kept image left ∙ staged.1)))
    (anew_creates file header) (λ old between new so then. inr (gate_made file header staged.0 new c.requires then))

pub returns-clause-any_moment : goal.returns-clause-any_moment
returns-clause-any_moment g c = λ told.
    let file = c.args.file in
    let header = c.args.header in
    let begun = c.in_ok-begin_file.ensures.begun told in
    let left0 = λ (image : Image) (left : g.J.Journal.may_leave c.begin_file.new.journal image). closed_begun _ _ begun (c.in_ok-begin_file.ensures.kept image left) in
    let two = follows_on file BeginsAnew BeginsAnew (λ old new. BeginsWith (0 ∷ []) new) _ _ _ _ _ _ _ _ c.begin_file.ensures.time c.put_behind.ensures.time
    (λ image now. g.met.J.Journal.counts_now c.begin_file.new.journal _ image c.begin_file.ensures.time.later now)
    c.begin_file.ensures.any_moment (c.put_behind.ensures.any_moment (0 ∷ []) refl left0)
    (λ old new so. so) (λ old between new so then. inr (begun_unfinished new then)) in
    let staged = begun_gate header _ _ c.new_file.ensures (c.in_ok-put_behind.ensures.written (0 ∷ []) told refl begun) in
    let rest = behind_gate header staged.0 in
    let time = elapses_on c.begin_file.ensures.time c.put_behind.ensures.time in
    follows_on file (Creates file header) BeginsAnew (λ old new. HasGate [] rest new) _ _ _ _ _ _ _ _ time c.open_gate.ensures.time
    (λ image now. g.met.J.Journal.counts_now c.put_behind.new.journal _ image time.later now)
    two (c.open_gate.ensures.any_moment [] rest refl (λ image left. (0, c.in_ok-put_behind.ensures.kept image left ∙ staged.1)))
    (anew_creates file header) (λ old between new so then. inr (gate_made file header staged.0 new c.requires then))

pub returns-clause-ready : goal.returns-clause-ready
returns-clause-ready g c = λ told.
    let file = c.args.file in
    let header = c.args.header in
    let begun = c.in_ok-begin_file.ensures.begun told in
    let left0 = λ (image : Image) (left : g.J.Journal.may_leave c.begin_file.new.journal image). closed_begun _ _ begun (c.in_ok-begin_file.ensures.kept image left) in
    let staged = begun_gate header _ _ c.new_file.ensures (c.in_ok-put_behind.ensures.written (0 ∷ []) told refl begun) in
    let rest = behind_gate header staged.0 in
    let opened = c.in_ok-open_gate.ensures.opened [] rest told refl (0, staged.1) in
    record {
      told = told;
      form = made_log file header staged.0 _ c.requires opened;
      place = refl;
      kept = c.in_ok-open_gate.ensures.kept;
    }
