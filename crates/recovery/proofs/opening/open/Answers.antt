use Rattle.std.proofs.Common.{◌≡◌, ◌+◌, ◌*◌, ◌^◌, ◌<◌, ◌≤◌, ◌∷◌, ◌++◌, [], true, false, IsTrue, arith, refl, sym, ap, ◌∙◌, subst, inr}
use Rattle.peb_base.specs.Batches.{Batches, last_number}
use Rattle.disk_model.specs.declared.journal_file.JournalFile.{JournalFile}
use Rattle.disk_model.specs.declared.journal_file.JournalFile.TheVariants.{Log, ManifestA}
use Rattle.disk_model.specs.Images.{Image}
use Rattle.disk_model.specs.Told.{told_by}
use Rattle.flsm_model.specs.Shape.{Record, Shape}
use Rattle.manifest.specs.Manifests.{IsManifest}
use Rattle.store_layout.specs.LogLaws.{holds_end, holds_made}
use Rattle.store_layout.specs.Recorded.{first_log, next_opening, StandsFor, StandsBeside}
use Rattle.flsm_core.specs.Place.{start_at}
use Rattle.flsm_core.specs.Touched.{touched_on}
use Rattle.flsm_core.specs.State.{state_session, state_file, state_journal}
use Rattle.recovery.specs.Opened.{OpensBy}
use Rattle.recovery.specs.Range.{Range, AreIn}
use Rattle.recovery.specs.Session.{journal_of, HasTouchedBoth, touched_file, touched_on_both}
use Rattle.recovery.specs.declared.open_fault.OpenFault.TheVariants as opens
use Rattle.recovery.proofs.Begins.{is_next}
use Rattle.recovery.proofs.Opened.{Facts, Opens, read_first, first_same, read_so, read_unsure, opened_on, since_older, leaves_opening, stands_with, range_read, range_first, range_has_read, all_in}
use Rattle.recovery.proofs.Openings.{if_ok, if_both, if_err}
use Rattle.recovery.proofs.Sessions.{ok_journal, err_journal}
use Rattle.recovery.proofs.Touching.{touched_watched}
use Rattle.recovery.proofs.opening.open.Goals as goal

memory_no_journal : opens.Memory ≡ opens.Journal → ⊥
memory_no_journal e = cc

pub returns-in-Ok-clause-stands : goal.returns-in-Ok-clause-stands
returns-in-Ok-clause-stands g c =
    let d = g.J.Journal in
    let old = c.args.journal in
    let mid = c.look.new.journal in
    let new = journal_of c.begin_session.result in
    let looked = c.in-Ok.looked in
    let stored = c.in-Ok.ensures.found.0 in
    let looks = c.in-Ok.ensures.found.1 in
    let f : Facts = record { fin = c.one_reading.ensures.finished; one = c.one_reading.ensures.one_log; batch = c.one_batch.ensures; manifest = c.one_manifest.ensures.one_list } in
    let o : IsTrue d.tells → Opens d old mid new c.args.profile looked stored = λ told. record {
      told = told;
      watched = c.look.ensures.watched;
      looks = looks;
      counts = λ image left. g.met.J.Journal.counts_now mid _ image c.look.ensures.watched.time.later left;
      read = g.met.J.Journal.read_is_left old told;
      time = c.begin_session.ensures.time;
      follows = c.begin_session.ensures.any_moment told stored looks;
    } in
    if_both c.begin_session.result _ _ _ (λ state at files told honest base edits on.
    let r = read_so f d old mid new c.args.profile looked stored (o told) c.look.ensures.never_falls honest base edits on in
    let start = start_at (told_by d old) c.args.profile honest base edits in
    opened_on d mid c.args.profile looked start stored.logs state refl r.looks files.0 files.1 (at start stored.logs refl r.looks r.has))
    c.begin_session.ensures.stands
    (if_both c.begin_session.result _ _ (λ state. (state_session state ≡ looked.recorded.shape.session + 1) × (state_file state ≡ Log looked.read.next)) (λ state session file. (session, file)) c.begin_session.ensures.session c.begin_session.ensures.file)

pub returns-in-Ok-clause-somewhere : goal.returns-in-Ok-clause-somewhere
returns-in-Ok-clause-somewhere g c =
    let d = g.J.Journal in
    let old = c.args.journal in
    let mid = c.look.new.journal in
    let new = journal_of c.begin_session.result in
    let looked = c.in-Ok.looked in
    let stored = c.in-Ok.ensures.found.0 in
    let looks = c.in-Ok.ensures.found.1 in
    let f : Facts = record { fin = c.one_reading.ensures.finished; one = c.one_reading.ensures.one_log; batch = c.one_batch.ensures; manifest = c.one_manifest.ensures.one_list } in
    let o : IsTrue d.tells → Opens d old mid new c.args.profile looked stored = λ told. record {
      told = told;
      watched = c.look.ensures.watched;
      looks = looks;
      counts = λ image left. g.met.J.Journal.counts_now mid _ image c.look.ensures.watched.time.later left;
      read = g.met.J.Journal.read_is_left old told;
      time = c.begin_session.ensures.time;
      follows = c.begin_session.ensures.any_moment told stored looks;
    } in
    if_both c.begin_session.result _ _ _ (λ state at files.
    let start = start_at (told_by d old) c.args.profile false stored.batches stored.edits in (
      stored.batches,
      stored.edits,
      λ told. (stored.logs, read_first f d old mid new c.args.profile looked stored (o told)),
      opened_on d mid c.args.profile looked start stored.logs state refl looks files.0 files.1
          (at start stored.logs refl looks (read_unsure d mid start stored.logs c.look.ensures.watched.time.later c.look.ensures.never_falls refl)),
    ))
    c.begin_session.ensures.stands
    (if_both c.begin_session.result _ _ (λ state. (state_session state ≡ looked.recorded.shape.session + 1) × (state_file state ≡ Log looked.read.next)) (λ state session file. (session, file)) c.begin_session.ensures.session c.begin_session.ensures.file)

pub returns-in-Ok-clause-within : goal.returns-in-Ok-clause-within
returns-in-Ok-clause-within g c =
    let d = g.J.Journal in
    let old = c.args.journal in
    let mid = c.look.new.journal in
    let new = journal_of c.begin_session.result in
    let looked = c.in-Ok.looked in
    let stored = c.in-Ok.ensures.found.0 in
    let looks = c.in-Ok.ensures.found.1 in
    let f : Facts = record { fin = c.one_reading.ensures.finished; one = c.one_reading.ensures.one_log; batch = c.one_batch.ensures; manifest = c.one_manifest.ensures.one_list } in
    let o : IsTrue d.tells → Opens d old mid new c.args.profile looked stored = λ told. record {
      told = told;
      watched = c.look.ensures.watched;
      looks = looks;
      counts = λ image left. g.met.J.Journal.counts_now mid _ image c.look.ensures.watched.time.later left;
      read = g.met.J.Journal.read_is_left old told;
      time = c.begin_session.ensures.time;
      follows = c.begin_session.ensures.any_moment told stored looks;
    } in
    if_both c.begin_session.result _ _ _ (λ state at more told range asked all.
    let inside = range_read f d old mid new c.args.profile looked stored (o told) range asked all in
    let start = start_at (told_by d mid) range.profile true stored.batches stored.edits in
    record {
      start = start;
      starts = record {
        profile = refl;
        sure = refl;
        enough = inside.enough;
        within = inside.within;
        recorded = inside.recorded;
        logs = stored.logs;
        reads = range_first f d old mid new c.args.profile looked stored (o told) range asked all;
        began = c.look.ensures.watched.time.later;
        counted = c.look.ensures.never_falls;
      };
      opened = opened_on d mid c.args.profile looked start stored.logs state asked looks more.0.0 more.0.1
          (at start stored.logs asked looks (range_has_read f d old mid new c.args.profile looked stored (o told) range asked all (g.met.J.Journal.only_now mid)));
      since = more.1 told range asked all;
    })
    c.begin_session.ensures.stands
    (if_both c.begin_session.result _ _ (λ state. ((state_session state ≡ looked.recorded.shape.session + 1) × (state_file state ≡ Log looked.read.next))
    × (IsTrue d.tells → (range : Range) → range.profile ≡ c.args.profile → AreIn range (d.may_leave old) → AreIn range (d.left_since (state_journal state) (d.moment old))))
    (λ state files since. (files, since))
    (if_both c.begin_session.result _ _ (λ state. (state_session state ≡ looked.recorded.shape.session + 1) × (state_file state ≡ Log looked.read.next)) (λ state session file. (session, file)) c.begin_session.ensures.session c.begin_session.ensures.file)
    (ok_journal c.begin_session.result (λ j. IsTrue d.tells → (range : Range) → range.profile ≡ c.args.profile → AreIn range (d.may_leave old) → AreIn range (d.left_since j (d.moment old)))
    (λ told range asked all. all_in f d old mid new c.args.profile looked stored (o told) range asked all)))

pub returns-in-Ok-clause-session : goal.returns-in-Ok-clause-session
returns-in-Ok-clause-session g c =
    let d = g.J.Journal in
    let old = c.args.journal in
    let mid = c.look.new.journal in
    let new = journal_of c.begin_session.result in
    let looked = c.in-Ok.looked in
    let stored = c.in-Ok.ensures.found.0 in
    let looks = c.in-Ok.ensures.found.1 in
    let f : Facts = record { fin = c.one_reading.ensures.finished; one = c.one_reading.ensures.one_log; batch = c.one_batch.ensures; manifest = c.one_manifest.ensures.one_list } in
    let o : IsTrue d.tells → Opens d old mid new c.args.profile looked stored = λ told. record {
      told = told;
      watched = c.look.ensures.watched;
      looks = looks;
      counts = λ image left. g.met.J.Journal.counts_now mid _ image c.look.ensures.watched.time.later left;
      read = g.met.J.Journal.read_is_left old told;
      time = c.begin_session.ensures.time;
      follows = c.begin_session.ensures.any_moment told stored looks;
    } in
    if_both c.begin_session.result _ _ _ (λ state recorded files told. record {
      edits = stored.edits;
      log = looked.read.next;
      recorded = (read_first f d old mid new c.args.profile looked stored (o told)).recorded;
      session = files.0 ∙ ap (λ (s : Shape). s.session + 1) looks.shape.shape;
      file = files.1;
      kept = recorded told stored looks;
    }) c.begin_session.ensures.recorded
    (if_both c.begin_session.result _ _ (λ state. (state_session state ≡ looked.recorded.shape.session + 1) × (state_file state ≡ Log looked.read.next)) (λ state session file. (session, file)) c.begin_session.ensures.session c.begin_session.ensures.file)

pub returns-in-Ok-clause-fresh : goal.returns-in-Ok-clause-fresh
returns-in-Ok-clause-fresh g c =
    let d = g.J.Journal in
    let old = c.args.journal in
    let mid = c.look.new.journal in
    let new = journal_of c.begin_session.result in
    let looked = c.in-Ok.looked in
    let stored = c.in-Ok.ensures.found.0 in
    let looks = c.in-Ok.ensures.found.1 in
    let f : Facts = record { fin = c.one_reading.ensures.finished; one = c.one_reading.ensures.one_log; batch = c.one_batch.ensures; manifest = c.one_manifest.ensures.one_list } in
    let o : IsTrue d.tells → Opens d old mid new c.args.profile looked stored = λ told. record {
      told = told;
      watched = c.look.ensures.watched;
      looks = looks;
      counts = λ image left. g.met.J.Journal.counts_now mid _ image c.look.ensures.watched.time.later left;
      read = g.met.J.Journal.read_is_left old told;
      time = c.begin_session.ensures.time;
      follows = c.begin_session.ensures.any_moment told stored looks;
    } in
    if_ok c.begin_session.result _ _ (λ state session told edits logs base reads.
    let same = first_same f d old mid new c.args.profile looked stored (o told) base edits logs reads in
    let last : last_number base ≡ looked.read.replay.last = sym (ap last_number same.batches) ∙ sym looks.logs.replay.last in
    let below : looked.read.replay.last < (looked.read.session + 1) * 2 ^ 40 = looked.read.within in
    omega (arith, last, below, session, looked.same))
    c.begin_session.ensures.session

pub returns-in-Ok-clause-images : goal.returns-in-Ok-clause-images
returns-in-Ok-clause-images g c =
    let d = g.J.Journal in
    let old = c.args.journal in
    let mid = c.look.new.journal in
    let new = journal_of c.begin_session.result in
    let looked = c.in-Ok.looked in
    let stored = c.in-Ok.ensures.found.0 in
    let looks = c.in-Ok.ensures.found.1 in
    let f : Facts = record { fin = c.one_reading.ensures.finished; one = c.one_reading.ensures.one_log; batch = c.one_batch.ensures; manifest = c.one_manifest.ensures.one_list } in
    let o : IsTrue d.tells → Opens d old mid new c.args.profile looked stored = λ told. record {
      told = told;
      watched = c.look.ensures.watched;
      looks = looks;
      counts = λ image left. g.met.J.Journal.counts_now mid _ image c.look.ensures.watched.time.later left;
      read = g.met.J.Journal.read_is_left old told;
      time = c.begin_session.ensures.time;
      follows = c.begin_session.ensures.any_moment told stored looks;
    } in
    λ told base edits on. (looked.read.next, leaves_opening f d old mid new c.args.profile looked stored (o told) base edits on)

pub returns-in-Ok-clause-recorded : goal.returns-in-Ok-clause-recorded
returns-in-Ok-clause-recorded g c =
    let d = g.J.Journal in
    let old = c.args.journal in
    let mid = c.look.new.journal in
    let new = journal_of c.begin_session.result in
    let looked = c.in-Ok.looked in
    let stored = c.in-Ok.ensures.found.0 in
    let looks = c.in-Ok.ensures.found.1 in
    let f : Facts = record { fin = c.one_reading.ensures.finished; one = c.one_reading.ensures.one_log; batch = c.one_batch.ensures; manifest = c.one_manifest.ensures.one_list } in
    let o : IsTrue d.tells → Opens d old mid new c.args.profile looked stored = λ told. record {
      told = told;
      watched = c.look.ensures.watched;
      looks = looks;
      counts = λ image left. g.met.J.Journal.counts_now mid _ image c.look.ensures.watched.time.later left;
      read = g.met.J.Journal.read_is_left old told;
      time = c.begin_session.ensures.time;
      follows = c.begin_session.ensures.any_moment told stored looks;
    } in
    if_both c.begin_session.result _ _ _ (λ state file stands told base edits on. (looked.read.next, file, stands told base edits on))
    c.begin_session.ensures.file
    (if_both c.begin_session.result _ _ (λ state. IsTrue d.tells → (base : Batches) (edits : Record) → OpensBy c.args.profile edits true base (told_by d old)
    → (image : Image) → d.may_leave (state_journal state) image → StandsFor c.args.profile base (edits ++ next_opening c.args.profile edits looked.read.next ∷ []) image)
    (λ state recorded since told base edits on image left.
    let s = on (d.seen old) (o told).read in
    let same = first_same f d old mid new c.args.profile looked stored (o told) base edits s.logs s.by.reads in
    stands_with f c.args.profile base edits looked.read.next image (since told base edits on image left)
    (subst (λ (x : Record). IsManifest c.args.profile (x ++ next_opening c.args.profile x looked.read.next ∷ []) (image ManifestA)) same.edits (recorded told stored looks image left)))
    c.begin_session.ensures.recorded
    (ok_journal c.begin_session.result (λ j. IsTrue d.tells → (base : Batches) (edits : Record) → OpensBy c.args.profile edits true base (told_by d old)
    → (image : Image) → d.may_leave j image → StandsBeside c.args.profile base edits looked.read.next image)
    (λ told base edits on image left. leaves_opening f d old mid new c.args.profile looked stored (o told) base edits on image
    (g.met.J.Journal.counts_now new (d.moment old) image (omega (arith, c.look.ensures.watched.time.later, c.begin_session.ensures.time.later)) left))))

pub returns-in-Ok-clause-images_within : goal.returns-in-Ok-clause-images_within
returns-in-Ok-clause-images_within g c =
    let d = g.J.Journal in
    let old = c.args.journal in
    let mid = c.look.new.journal in
    let new = journal_of c.begin_session.result in
    let looked = c.in-Ok.looked in
    let stored = c.in-Ok.ensures.found.0 in
    let looks = c.in-Ok.ensures.found.1 in
    let f : Facts = record { fin = c.one_reading.ensures.finished; one = c.one_reading.ensures.one_log; batch = c.one_batch.ensures; manifest = c.one_manifest.ensures.one_list } in
    let o : IsTrue d.tells → Opens d old mid new c.args.profile looked stored = λ told. record {
      told = told;
      watched = c.look.ensures.watched;
      looks = looks;
      counts = λ image left. g.met.J.Journal.counts_now mid _ image c.look.ensures.watched.time.later left;
      read = g.met.J.Journal.read_is_left old told;
      time = c.begin_session.ensures.time;
      follows = c.begin_session.ensures.any_moment told stored looks;
    } in
    λ told range asked all. all_in f d old mid new c.args.profile looked stored (o told) range asked all

pub returns-in-Ok-clause-older : goal.returns-in-Ok-clause-older
returns-in-Ok-clause-older g c =
    let d = g.J.Journal in
    let old = c.args.journal in
    let mid = c.look.new.journal in
    let new = journal_of c.begin_session.result in
    let looked = c.in-Ok.looked in
    let stored = c.in-Ok.ensures.found.0 in
    let looks = c.in-Ok.ensures.found.1 in
    let f : Facts = record { fin = c.one_reading.ensures.finished; one = c.one_reading.ensures.one_log; batch = c.one_batch.ensures; manifest = c.one_manifest.ensures.one_list } in
    let o : IsTrue d.tells → Opens d old mid new c.args.profile looked stored = λ told. record {
      told = told;
      watched = c.look.ensures.watched;
      looks = looks;
      counts = λ image left. g.met.J.Journal.counts_now mid _ image c.look.ensures.watched.time.later left;
      read = g.met.J.Journal.read_is_left old told;
      time = c.begin_session.ensures.time;
      follows = c.begin_session.ensures.any_moment told stored looks;
    } in
    λ told. since_older f d old mid new c.args.profile looked stored (o told)

pub returns-in-Ok-clause-memory : goal.returns-in-Ok-clause-memory
returns-in-Ok-clause-memory g c =
    let d = g.J.Journal in
    let old = c.args.journal in
    let mid = c.look.new.journal in
    if_err c.begin_session.result _ _ (λ e touched short.
    touched_on d.tells ManifestA (told_by d old) (told_by d mid) (told_by d e.1) (touched_watched d.tells ManifestA (told_by d old) (told_by d mid) (g.met.J.Journal.counts_now old) c.look.ensures.watched)
    (touched (λ other. memory_no_journal (sym short ∙ other))))
    c.begin_session.ensures.memory

pub returns-in-Ok-clause-next_log : goal.returns-in-Ok-clause-next_log
returns-in-Ok-clause-next_log g c =
    let d = g.J.Journal in
    let old = c.args.journal in
    let mid = c.look.new.journal in
    let new = journal_of c.begin_session.result in
    let looked = c.in-Ok.looked in
    let stored = c.in-Ok.ensures.found.0 in
    let looks = c.in-Ok.ensures.found.1 in
    let f : Facts = record { fin = c.one_reading.ensures.finished; one = c.one_reading.ensures.one_log; batch = c.one_batch.ensures; manifest = c.one_manifest.ensures.one_list } in
    let o : IsTrue d.tells → Opens d old mid new c.args.profile looked stored = λ told. record {
      told = told;
      watched = c.look.ensures.watched;
      looks = looks;
      counts = λ image left. g.met.J.Journal.counts_now mid _ image c.look.ensures.watched.time.later left;
      read = g.met.J.Journal.read_is_left old told;
      time = c.begin_session.ensures.time;
      follows = c.begin_session.ensures.any_moment told stored looks;
    } in
    let least : 1 ≤ first_log c.args.profile stored.edits = (c.law_shape.ensures.bounded c.args.profile stored.edits looks.shape.legal).least in
    let next = is_next d mid c.args.profile looked stored looks in
    if_both c.begin_session.result _ _ _ (λ state file touched. record {
      edits = stored.edits;
      number = looked.read.next;
      some = omega (arith, next.next, least);
      named = file;
      recorded = λ told. (read_first f d old mid new c.args.profile looked stored (o told)).recorded;
      absent = λ told. holds_end (first_log c.args.profile stored.edits) looked.read.next stored.logs (d.seen old) next.next (read_first f d old mid new c.args.profile looked stored (o told)).read.holds;
      first = λ told m from below. holds_made f.fin (first_log c.args.profile stored.edits) stored.logs (d.seen old) (read_first f d old mid new c.args.profile looked stored (o told)).read.holds m from (omega (arith, below, next.next));
      touched = subst (λ (x : JournalFile). HasTouchedBoth d.tells x (told_by d old) (told_by d (state_journal state))) (sym file) touched;
    })
    c.begin_session.ensures.file
    (ok_journal c.begin_session.result (λ j. HasTouchedBoth d.tells (Log looked.read.next) (told_by d old) (told_by d j))
    (touched_on_both d.tells (Log looked.read.next) (told_by d old) (told_by d mid) (told_by d new)
    (touched_file d.tells (Log looked.read.next) (told_by d old) (told_by d mid) (touched_watched d.tells (Log looked.read.next) (told_by d old) (told_by d mid) (g.met.J.Journal.counts_now old) c.look.ensures.watched))
    c.begin_session.ensures.touched))

pub returns-in-Ok-clause-next_log_err : goal.returns-in-Ok-clause-next_log_err
returns-in-Ok-clause-next_log_err g c =
    let d = g.J.Journal in
    let old = c.args.journal in
    let mid = c.look.new.journal in
    let new = journal_of c.begin_session.result in
    let looked = c.in-Ok.looked in
    let stored = c.in-Ok.ensures.found.0 in
    let looks = c.in-Ok.ensures.found.1 in
    let f : Facts = record { fin = c.one_reading.ensures.finished; one = c.one_reading.ensures.one_log; batch = c.one_batch.ensures; manifest = c.one_manifest.ensures.one_list } in
    let o : IsTrue d.tells → Opens d old mid new c.args.profile looked stored = λ told. record {
      told = told;
      watched = c.look.ensures.watched;
      looks = looks;
      counts = λ image left. g.met.J.Journal.counts_now mid _ image c.look.ensures.watched.time.later left;
      read = g.met.J.Journal.read_is_left old told;
      time = c.begin_session.ensures.time;
      follows = c.begin_session.ensures.any_moment told stored looks;
    } in
    let least : 1 ≤ first_log c.args.profile stored.edits = (c.law_shape.ensures.bounded c.args.profile stored.edits looks.shape.legal).least in
    let next = is_next d mid c.args.profile looked stored looks in
    if_err c.begin_session.result _ _ (λ e touched. inr (
      Log looked.read.next,
      record {
        edits = stored.edits;
        number = looked.read.next;
        some = omega (arith, next.next, least);
        named = refl;
        recorded = λ told. (read_first f d old mid new c.args.profile looked stored (o told)).recorded;
        absent = λ told. holds_end (first_log c.args.profile stored.edits) looked.read.next stored.logs (d.seen old) next.next (read_first f d old mid new c.args.profile looked stored (o told)).read.holds;
        first = λ told m from below. holds_made f.fin (first_log c.args.profile stored.edits) stored.logs (d.seen old) (read_first f d old mid new c.args.profile looked stored (o told)).read.holds m from (omega (arith, below, next.next));
        touched = touched;
      },
    ))
    (err_journal c.begin_session.result (λ j. HasTouchedBoth d.tells (Log looked.read.next) (told_by d old) (told_by d j))
    (touched_on_both d.tells (Log looked.read.next) (told_by d old) (told_by d mid) (told_by d new)
    (touched_file d.tells (Log looked.read.next) (told_by d old) (told_by d mid) (touched_watched d.tells (Log looked.read.next) (told_by d old) (told_by d mid) (g.met.J.Journal.counts_now old) c.look.ensures.watched))
    c.begin_session.ensures.touched))
