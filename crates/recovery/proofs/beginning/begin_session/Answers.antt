use Rattle.std.proofs.Common.{◌≡◌, ◌+◌, ◌∷◌, ◌++◌, [], ℕ, IsTrue, sym, ap, ◌∙◌, subst, inl, inr}
use Rattle.disk_model.specs.declared.journal_file.JournalFile.TheVariants.{Log, ManifestA}
use Rattle.disk_model.specs.Images.{Image, Follows, In}
use Rattle.disk_model.specs.Moments.{follows_whole}
use Rattle.disk_model.specs.Told.{told_by}
use Rattle.record_log.specs.declared.header.Header.{Header}
use Rattle.record_log.specs.Crash.{Creates}
use Rattle.record_log.specs.Header.{log_header}
use Rattle.flsm_model.specs.declared.edit.Edit.TheVariants.{Open}
use Rattle.flsm_model.specs.Shape.{Shape}
use Rattle.manifest.specs.Manifests.{IsManifest}
use Rattle.store_layout.specs.Recorded.{session_of_record, next_opening}
use Rattle.flsm_core.specs.Touched.{HasTouched, touched_step, leaves_but}
use Rattle.recovery.specs.Looking.{Stored, HasLooked, HasRecorded, stored_of}
use Rattle.recovery.specs.Record.{Records}
use Rattle.recovery.specs.Session.{journal_of, IsRecording, IsBeginning, touched_file, touched_on_both, touched_manifest}
use Rattle.peb_base.specs.declared.profile.Profile.{Profile}
use Rattle.flsm_core.specs.Place.{opened}
use Rattle.flsm_core.specs.Standing.{IsAt}
use Rattle.recovery.proofs.Begins.{is_recorded}
use Rattle.recovery.proofs.Openings.{if_ok, if_err}
use Rattle.recovery.proofs.Sessions.{ready_left, ok_journal, log_no_manifest}
use Rattle.recovery.proofs.beginning.begin_session.Goals as goal

pub record_opening-requires-clause-ready : goal.record_opening-requires-clause-ready
record_opening-requires-clause-ready g c = λ told. (c.requires.looked.0.edits, c.requires.looked.1.ready told)

pub returns-in-Ok-clause-stands : goal.returns-in-Ok-clause-stands
returns-in-Ok-clause-stands g c = if_ok c.begin_log.result _ _ (λ state at start logs asked looks has.
    let d = g.J.Journal in
    let old = c.args.journal in
    let mid = c.record_opening.new.journal in
    let n = c.args.looked.read.next in
    let here = subst (λ (p : Profile). HasLooked d old p c.args.looked (stored_of start logs)) (sym asked) looks in
    let session : c.args.looked.recorded.shape.session ≡ session_of_record start.profile start.edits = ap (λ (s : Shape). s.session) here.shape.shape in
    let number : c.of_log-header.result.number ≡ n = ap (λ (h : Header). h.number) c.of_log-header.ensures in
    let recorded : HasRecorded d mid start logs n = is_recorded d old mid start logs c.args.looked here has (record {
      time = c.record_opening.ensures.time;
      later = c.record_opening.ensures.never_falls;
      follows = λ told. subst (λ (p : Profile). Follows (IsRecording p start.edits n) (d.may_leave old) (d.left_since mid (d.moment old))) (sym asked)
          (subst (λ (k : ℕ). Follows (In ManifestA (Records c.args.profile start.edits (Open (k + 1) n))) (d.may_leave old) (d.left_since mid (d.moment old))) (ap (λ (s : Shape). s.session) looks.shape.shape)
          (c.record_opening.ensures.any_moment start.edits told (looks.ready told)));
      counts = λ image left. g.met.J.Journal.counts_now mid _ image c.record_opening.ensures.time.later left;
      kept = λ told image left. subst (λ (p : Profile). IsManifest p (start.edits ++ next_opening p start.edits n ∷ []) (image ManifestA)) (sym asked)
          (subst (λ (k : ℕ). IsManifest c.args.profile (start.edits ++ Open (k + 1) n ∷ []) (image ManifestA)) (ap (λ (s : Shape). s.session) looks.shape.shape)
          (ready_left d mid _ c.args.profile (start.edits ++ Open (c.args.looked.recorded.shape.session + 1) n ∷ []) (c.in-Ok.ensures.recorded start.edits told (looks.ready told)) image left));
    }) in
    let stands : IsAt d state (opened start c.of_log-header.result.number) = at start logs
    (record {
      profile = ap (λ (h : Header). h.profile) c.of_log-header.ensures ∙ sym asked;
      session = ap (λ (h : Header). h.session) c.of_log-header.ensures ∙ ap (λ (k : ℕ). k + 1) (c.args.looked.same ∙ session);
    })
    here.logs.replay
    (subst (λ (k : ℕ). HasRecorded d mid start logs k) (sym number) recorded) in
    subst (λ (k : ℕ). IsAt d state (opened start k)) number stands)
    c.begin_log.ensures.stands

pub returns-in-Ok-clause-recorded : goal.returns-in-Ok-clause-recorded
returns-in-Ok-clause-recorded g c =
    let d = g.J.Journal in
    let mid = c.record_opening.new.journal in
    ok_journal c.begin_log.result
    (λ last. IsTrue d.tells → (stored : Stored) → HasLooked d c.args.journal c.args.profile c.args.looked stored → (image : Image) → d.may_leave last image
    → IsManifest c.args.profile (stored.edits ++ next_opening c.args.profile stored.edits c.args.looked.read.next ∷ []) (image ManifestA))
    (λ told stored looks image left.
    let session : c.args.looked.recorded.shape.session ≡ session_of_record c.args.profile stored.edits = ap (λ (s : Shape). s.session) looks.shape.shape in
    let from = c.begin_log.ensures.any_moment told image (g.met.J.Journal.counts_now (journal_of c.begin_log.result) _ image c.begin_log.ensures.time.later left) in
    let ready = c.in-Ok.ensures.recorded stored.edits told (looks.ready told) in
    subst (λ b. IsManifest c.args.profile (stored.edits ++ next_opening c.args.profile stored.edits c.args.looked.read.next ∷ []) b)
    (sym (from.2.elsewhere ManifestA (λ e. log_no_manifest _ (sym e))))
    (subst (λ (n : ℕ). IsManifest c.args.profile (stored.edits ++ Open (n + 1) c.args.looked.read.next ∷ []) (from.0 ManifestA)) session
    (ready_left d mid _ c.args.profile (stored.edits ++ Open (c.args.looked.recorded.shape.session + 1) c.args.looked.read.next ∷ []) ready from.0 from.1)))

pub returns-in-Ok-clause-any_moment : goal.returns-in-Ok-clause-any_moment
returns-in-Ok-clause-any_moment g c = λ told stored looks.
    let d = g.J.Journal in
    let old = c.args.journal in
    let mid = c.record_opening.new.journal in
    let new = journal_of c.begin_log.result in
    let n = c.args.looked.read.next in
    let edits = stored.edits in
    let profile = c.args.profile in
    let session : c.args.looked.recorded.shape.session ≡ session_of_record profile edits = ap (λ (s : Shape). s.session) looks.shape.shape in
    let recording : Follows (IsRecording profile edits n) (d.may_leave old) (d.left_since mid (d.moment old)) =
    subst (λ (k : ℕ). Follows (In ManifestA (Records profile edits (Open (k + 1) n))) (d.may_leave old) (d.left_since mid (d.moment old))) session
    (c.record_opening.ensures.any_moment edits told (looks.ready told)) in
    let ready = c.in-Ok.ensures.recorded edits told (looks.ready told) in
    let recorded : (image : Image) → d.may_leave mid image → IsManifest profile (edits ++ next_opening profile edits n ∷ []) (image ManifestA) = λ image left.
    subst (λ (k : ℕ). IsManifest profile (edits ++ Open (k + 1) n ∷ []) (image ManifestA)) session
    (ready_left d mid _ profile (edits ++ Open (c.args.looked.recorded.shape.session + 1) n ∷ []) ready image left) in
    let header : c.of_log-header.result ≡ log_header profile n (session_of_record profile edits + 1) =
    c.of_log-header.ensures ∙ ap (λ (k : ℕ). log_header profile n (k + 1)) looks.logs.session in
    let making : Follows (In (Log n) (Creates (Log n) (log_header profile n (session_of_record profile edits + 1)))) (d.may_leave mid) (d.left_since new (d.moment mid)) =
    subst (λ (h : Header). Follows (In (Log h.number) (Creates (Log h.number) h)) (d.may_leave mid) (d.left_since new (d.moment mid))) header (c.begin_log.ensures.any_moment told) in
    follows_whole (IsBeginning profile edits n) (IsRecording profile edits n)
    (λ between last. IsManifest profile (edits ++ next_opening profile edits n ∷ []) (between ManifestA) × In (Log n) (Creates (Log n) (log_header profile n (session_of_record profile edits + 1))) between last)
    (d.moment old) (d.moment mid) (d.may_leave old) (d.may_leave mid) (d.left_since old) (d.left_since mid) (d.left_since new) (d.moment new)
    c.record_opening.ensures.time c.begin_log.ensures.time
    (λ image left. g.met.J.Journal.counts_now mid _ image c.record_opening.ensures.time.later left)
    recording
    (λ image left. let from = making image left in (from.0, from.1, (recorded from.0 from.1, from.2)))
    (λ before after step. inl step)
    (λ before between after first then. inr (record { between = between; recording = first; recorded = then.0; making = then.1 }))

pub returns-in-Ok-clause-memory : goal.returns-in-Ok-clause-memory
returns-in-Ok-clause-memory g c = if_err c.begin_log.result _ _ (λ e untouched other.
    let d = g.J.Journal in
    let old = c.args.journal in
    let mid = c.record_opening.new.journal in
    subst (λ j. HasTouched d.tells ManifestA (told_by d old) (told_by d j)) (sym (untouched other))
    (touched_step d.tells ManifestA (told_by d old) (told_by d mid) (g.met.J.Journal.counts_now old) c.record_opening.ensures.time c.record_opening.ensures.elsewhere
    (λ told. leaves_but ManifestA _ (d.may_leave old) (d.left_since mid (d.moment old)) (c.record_opening.ensures.any_moment c.requires.looked.0.edits told (c.requires.looked.1.ready told)))))
    c.begin_log.ensures.untouched

pub returns-in-Ok-clause-touched : goal.returns-in-Ok-clause-touched
returns-in-Ok-clause-touched g c =
    let d = g.J.Journal in
    let old = c.args.journal in
    let mid = c.record_opening.new.journal in
    let new = journal_of c.begin_log.result in
    let file = Log c.args.looked.read.next in
    let number = ap (λ (h : Header). h.number) c.of_log-header.ensures in
    touched_on_both d.tells file (told_by d old) (told_by d mid) (told_by d new)
    (touched_manifest d.tells file (told_by d old) (told_by d mid)
    (touched_step d.tells ManifestA (told_by d old) (told_by d mid) (g.met.J.Journal.counts_now old) c.record_opening.ensures.time c.record_opening.ensures.elsewhere
    (λ told. leaves_but ManifestA _ (d.may_leave old) (d.left_since mid (d.moment old)) (c.record_opening.ensures.any_moment c.requires.looked.0.edits told (c.requires.looked.1.ready told)))))
    (touched_file d.tells file (told_by d mid) (told_by d new) (subst (λ (n : ℕ). HasTouched d.tells (Log n) (told_by d mid) (told_by d new)) number c.begin_log.ensures.touched))

pub returns-in-Err-clause-any_moment : goal.returns-in-Err-clause-any_moment
returns-in-Err-clause-any_moment g c = λ told stored looks image left.
    let d = g.J.Journal in
    let old = c.args.journal in
    let mid = c.record_opening.new.journal in
    let n = c.args.looked.read.next in
    let session : c.args.looked.recorded.shape.session ≡ session_of_record c.args.profile stored.edits = ap (λ (s : Shape). s.session) looks.shape.shape in
    let recording : Follows (IsRecording c.args.profile stored.edits n) (d.may_leave old) (d.left_since mid (d.moment old)) =
    subst (λ (k : ℕ). Follows (In ManifestA (Records c.args.profile stored.edits (Open (k + 1) n))) (d.may_leave old) (d.left_since mid (d.moment old))) session
    (c.record_opening.ensures.any_moment stored.edits told (looks.ready told)) in
    let from = recording image left in
    (from.0, from.1, inl from.2)

pub returns-in-Err-clause-memory : goal.returns-in-Err-clause-memory
returns-in-Err-clause-memory g c = λ other.
    let d = g.J.Journal in
    let old = c.args.journal in
    let mid = c.record_opening.new.journal in
    touched_step d.tells ManifestA (told_by d old) (told_by d mid) (g.met.J.Journal.counts_now old) c.record_opening.ensures.time c.record_opening.ensures.elsewhere
    (λ told. leaves_but ManifestA _ (d.may_leave old) (d.left_since mid (d.moment old)) (c.record_opening.ensures.any_moment c.requires.looked.0.edits told (c.requires.looked.1.ready told)))

pub returns-in-Err-clause-touched : goal.returns-in-Err-clause-touched
returns-in-Err-clause-touched g c =
    let d = g.J.Journal in
    let old = c.args.journal in
    let mid = c.record_opening.new.journal in
    touched_manifest d.tells (Log c.args.looked.read.next) (told_by d old) (told_by d mid)
    (touched_step d.tells ManifestA (told_by d old) (told_by d mid) (g.met.J.Journal.counts_now old) c.record_opening.ensures.time c.record_opening.ensures.elsewhere
    (λ told. leaves_but ManifestA _ (d.may_leave old) (d.left_since mid (d.moment old)) (c.record_opening.ensures.any_moment c.requires.looked.0.edits told (c.requires.looked.1.ready told))))
