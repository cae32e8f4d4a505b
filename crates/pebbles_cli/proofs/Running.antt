-- A run from its opening to its report.
use Rattle.std.proofs.Common.{◌≡◌, ℕ, ◌+◌, ◌*◌, ◌^◌, ◌<◌, ◌≤◌, Bool, true, false, IsTrue, List, [], ◌++◌, take, Option, Some, None, Result, Ok, Err, refl, sym, ap, ◌∙◌, subst, inl, inr, arith}
use Rattle.std.specs.Result.{is_err}
use Rattle.std.specs.Option.{option_or, unwrap_or}
use Rattle.std.proofs.lemmas.Bool.{true≢false}
use Rattle.peb_base.specs.declared.profile.Profile.{Profile}
use Rattle.peb_base.specs.Batches.{last_number}
use Rattle.peb_base.specs.Faults.{Rose}
use Rattle.disk_model.specs.declared.failed.Failed.{Failed}
use Rattle.disk_model.specs.Bytes.{Takes, IsFresh}
use Rattle.disk_model.specs.Told.{TablesStay, JournalTold}
use Rattle.script.specs.declared.cause.Cause.{Cause}
use Rattle.script.specs.declared.cause.Cause.TheVariants as causes
use Rattle.script.specs.Report.{report_text}
use Rattle.recovery.specs.Range.{Range, AreIn, StartsIn}
use Rattle.flsm_core.specs.Standing.{Leaves, IsLeftBy}
use Rattle.flsm_core.specs.Touched.{HasTouched, HasTouchedLog, touched_on}
use Rattle.recovery.specs.NextLog.{HasTouchedNext, next_log_on}
use Rattle.pebbles_cli.proofs.Handing.{tells_itself}
use Rattle.disk_model.specs.declared.journal_file.JournalFile.{JournalFile}
use Rattle.disk_model.specs.declared.journal_file.JournalFile.TheVariants.{Log}
use Rattle.peb_base.specs.declared.profile.Profile.TheVariants.{Small}
use Rattle.flsm_model.specs.Shape.{Record}
use Rattle.store_layout.specs.Recorded.{session_of_record}
use Rattle.flsm_core.specs.declared.sync_fault.SyncFault.{SyncFault}
use Rattle.flsm_core.specs.declared.sync_fault.SyncFault.TheVariants as syncs
use Rattle.flsm_core.specs.Place.{Start, Place, all_of, opened, WasRecordOf, after_sync, Syncs}
use Rattle.pebbles_cli.specs.declared.served.Served.{Served}
use Rattle.peb_base.specs.declared.limit_kind.LimitKind.TheVariants as kinds
use Rattle.disk_model.specs.Directories.{after_choice, after_opening}
use Rattle.script.specs.declared.command.Command.{Command}
use Rattle.recovery.specs.declared.open_fault.OpenFault.{OpenFault}
use Rattle.recovery.specs.declared.open_fault.OpenFault.TheVariants as opens
use Rattle.pebbles_cli.specs.Read.{IsWithin}
use Rattle.pebbles_cli.specs.Names.{replies_name}
use Rattle.pebbles_cli.specs.Causes.{Says, IsBeforeOpening, IsOpeningCause, OpeningCause, opening_cause, IsScript, JournalRose, LineCause, ReportCause, SinkCause, PlayCause, ScriptCause, RefusalCause, sink_cause, end_of}
use Rattle.pebbles_cli.specs.Outside.{DevicesTold, SinksTold, Outside}
use Rattle.pebbles_cli.specs.Tells.{TookMore, sync_cause}
use Rattle.pebbles_cli.specs.Top.{Asked, Run, Went, IsTaken, IsServed, RepliesStay, Closed, IsClosed, IsDone, Ran, AreInOrOn, PlaysIn, PlaysSomehow, run_report}
use Rattle.pebbles_cli.proofs.Serving.{took_none, took_more, took_front, rose_later}
use Rattle.pebbles_cli.proofs.Growing.{opening_of, run_goes_on, run_start, sync_start}
use Rattle.pebbles_cli.proofs.Numbering.{run_told, weaker}

-- ---- the closing sync and the report

-- a closing sync tells a fault of the journal only where it stopped the store
pub sync_told : (p : Place) (answer : Result ℕ SyncFault) → LineCause ((after_sync p answer).stopped ≡ true) (sync_cause answer)
sync_told p (Ok n) = tt
sync_told p (Err syncs.Stopped) = tt
sync_told p (Err syncs.Journal) = refl

-- a store that was stopped before its closing sync is stopped after it
pub sync_stays : (p : Place) (answer : Result ℕ SyncFault) → Syncs p answer → p.stopped ≡ true → (after_sync p answer).stopped ≡ true
sync_stays p (Ok n) syncs stopped = absurd (true≢false (sym stopped ∙ syncs.0))
sync_stays p (Err syncs.Stopped) syncs stopped = stopped
sync_stays p (Err syncs.Journal) syncs stopped = refl

pub is_report : (text : List ℕ) (last : ℕ) → text ≡ report_text last 3 → text ≡ run_report last
unfolding run_report
is_report text last same = same

pub report_cut : (old new : Option (List ℕ)) (text whole : List ℕ) (r : Result (Unit {0}) Failed) → text ≡ whole → is_err r ≡ true → Takes old text r new → (k : ℕ) × TookMore old (take k whole) new
report_cut old new text whole r same failed takes =
    subst (λ (t : List ℕ). (k : ℕ) × TookMore old (take k t) new) same (took_front old old new [] text r failed (took_none old) takes)

pub report_whole : (old new : Option (List ℕ)) (text whole : List ℕ) (r : Result (Unit {0}) Failed) → text ≡ whole → is_err r ≡ false → Takes old text r new → TookMore old whole new
report_whole old new text whole r same fine takes = subst (λ (t : List ℕ). TookMore old t new) same (took_more old old new [] text r fine (took_none old) takes)

-- ---- the cause of a run

line_run : (text : Option (List ℕ)) (old new : Outside) (cause : Cause) → IsScript text → LineCause (JournalRose old.devices new.devices) (Some cause) → PlayCause text old new cause
line_run text old new causes.Journal script line = (script, line)
line_run text old new causes.Memory script line = tt
line_run text old new (causes.Limit kind n) script line = inr (script, inl line)
line_run text old new causes.Done script line = absurd line
line_run text old new causes.Usage script line = absurd line
line_run text old new (causes.Script i at why) script line = absurd line
line_run text old new (causes.Damaged file at) script line = absurd line
line_run text old new (causes.Profile have asked) script line = absurd line
line_run text old new (causes.Sink i) script line = absurd line
line_run text old new (causes.Source i) script line = absurd line

report_run : (text : Option (List ℕ)) (old new : Outside) (cause : Cause) → IsScript text → ReportCause (Rose old.sinks.faults new.sinks.faults) (Some cause) → PlayCause text old new cause
report_run text old new causes.Memory script report = tt
report_run text old new (causes.Sink i) script report = (script, inl report)
report_run text old new causes.Journal script report = absurd report
report_run text old new (causes.Limit kind n) script report = absurd report
report_run text old new causes.Done script report = absurd report
report_run text old new causes.Usage script report = absurd report
report_run text old new (causes.Script i at why) script report = absurd report
report_run text old new (causes.Damaged file at) script report = absurd report
report_run text old new (causes.Profile have asked) script report = absurd report
report_run text old new (causes.Source i) script report = absurd report

end_cause : (text : Option (List ℕ)) (old new : Outside) (fault : Option Cause) (failed : Bool) (closing report : Option Cause) → IsScript text
    → LineCause (JournalRose old.devices new.devices) fault → (IsTrue failed → SinkCause old.sinks new.sinks 1) → LineCause (JournalRose old.devices new.devices) closing
    → ReportCause (Rose old.sinks.faults new.sinks.faults) report → PlayCause text old new (end_of fault failed closing report)
end_cause text old new (Some cause) failed closing report script line sink close last = line_run text old new cause script line
end_cause text old new None true closing report script line sink close last = (script, sink refl)
end_cause text old new None false (Some cause) report script line sink close last = line_run text old new cause script close
end_cause text old new None false None (Some cause) script line sink close last = report_run text old new cause script last
end_cause text old new None false None None script line sink close last = script

-- the first fault of the commands
served_told : (run : Run) (old new : SinksTold) (went : Went) → IsServed run old new went → LineCause (went.place.stopped ≡ true) went.served.fault
served_told run old new went (inl answered) = run_told run.session run.start run.commands went.text went.served.fault went.served.sink_failed went.place answered.told
served_told run old new went (inr unheard) = subst (λ (s : Served). LineCause (went.place.stopped ≡ true) s.fault) (sym unheard.served) tt

-- the sink failed, or couldn't be opened
sink_told : (run : Run) (old new : SinksTold) (went : Went) → IsServed run old new went → IsTrue went.served.sink_failed → SinkCause old new 1
sink_told run old new went (inl answered) failed = inr (refl, inr (answered.failed failed))
sink_told run old new went (inr unheard) failed = inr (refl, inl unheard.cause)

rose_still : (a b c : ℕ) → b ≤ c → Rose a b → Rose a c
rose_still a b c bc rose = omega arith

-- what a sink failed by, told later
sink_later : (old mid new : SinksTold) → RepliesStay mid new → SinkCause old mid 1 → SinkCause old new 1
sink_later old mid new stay (inl report) = let e : ◌≡◌ {A = ℕ} 1 0 = report.0 in absurd (omega (arith, e))
sink_later old mid new stay (inr (one, inl opening)) = inr (one, inl (rose_still old.faults mid.faults new.faults stay.never_falls opening))
sink_later old mid new stay (inr (one, inr own)) = inr (one, inr (subst (λ (n : ℕ). Rose 0 n) (sym stay.reply_faults) own))

report_weaker : (cause : Option Cause) (P Q : Type 0) → (P → Q) → ReportCause P cause → ReportCause Q cause
report_weaker None P Q f h = tt
report_weaker (Some causes.Memory) P Q f h = tt
report_weaker (Some (causes.Sink i)) P Q f h = (h.0, f h.1)
report_weaker (Some causes.Journal) P Q f h = absurd h
report_weaker (Some (causes.Limit kind n)) P Q f h = absurd h
report_weaker (Some causes.Done) P Q f h = absurd h
report_weaker (Some causes.Usage) P Q f h = absurd h
report_weaker (Some (causes.Script i line why)) P Q f h = absurd h
report_weaker (Some (causes.Damaged file at)) P Q f h = absurd h
report_weaker (Some (causes.Profile have asked)) P Q f h = absurd h
report_weaker (Some (causes.Source i)) P Q f h = absurd h

pub ran_cause : (start : Start) (asked : Asked) (old new : Outside) (cause : Cause) → start.faults ≡ old.devices.journal.faults → Ran start asked old new cause → PlayCause asked.text old new cause
ran_cause start asked old new cause counted ran =
    let closing = ran.closing in
    let rose : ran.closed.place.stopped ≡ true → JournalRose old.devices new.devices = λ stopped.
    inr (subst (λ (n : ℕ). Rose n new.devices.journal.faults) (ap (λ (s : Start). s.faults) ran.starts ∙ counted) (closing.halted stopped)) in
    let stays : ran.went.place.stopped ≡ true → JournalRose old.devices new.devices = λ stopped.
    rose (ap (λ (p : Place). p.stopped) closing.leads ∙ sync_stays ran.went.place ran.closed.answer closing.closes stopped) in
    let synced : (after_sync ran.went.place ran.closed.answer).stopped ≡ true → JournalRose old.devices new.devices = λ stopped.
    rose (ap (λ (p : Place). p.stopped) closing.leads ∙ stopped) in
    subst (PlayCause asked.text old new) (sym ran.ends)
    (end_cause asked.text old new ran.went.served.fault ran.went.served.sink_failed (sync_cause ran.closed.answer) ran.closed.report
    (ran.short, (ran.commands, ran.says))
    (weaker ran.went.served.fault (ran.went.place.stopped ≡ true) (JournalRose old.devices new.devices) stays (served_told _ old.sinks ran.replied ran.went ran.served))
    (λ failed. sink_later old.sinks ran.replied new.sinks closing.replies_stay (sink_told _ old.sinks ran.replied ran.went ran.served failed))
    (weaker (sync_cause ran.closed.answer) ((after_sync ran.went.place ran.closed.answer).stopped ≡ true) (JournalRose old.devices new.devices) synced (sync_told ran.went.place ran.closed.answer))
    (report_weaker ran.closed.report (Rose ran.replied.faults new.sinks.faults) (Rose old.sinks.faults new.sinks.faults)
    (rose_later old.sinks.faults ran.replied.faults new.sinks.faults ran.counted) closing.report_cause))

script_cause : (text : Option (List ℕ)) (old new : Outside) (cause : Cause) → ScriptCause text cause → PlayCause text old new cause
script_cause text old new (causes.Source i) why = why
script_cause text old new (causes.Script i line why) is = is
script_cause text old new (causes.Limit kind n) why = inl why
script_cause text old new causes.Memory why = tt
script_cause text old new causes.Journal why = absurd why
script_cause text old new (causes.Damaged file at) why = absurd why
script_cause text old new (causes.Profile have asked) why = absurd why
script_cause text old new causes.Done why = absurd why
script_cause text old new causes.Usage why = absurd why
script_cause text old new (causes.Sink i) why = absurd why

refused_cause : (text : Option (List ℕ)) (old new : Outside) (cause : Cause) → RefusalCause text old.devices new.devices cause → PlayCause text old new cause
refused_cause text old new cause (inl why) = script_cause text old new cause why
refused_cause text old new cause (inr (script, is)) = subst (PlayCause text old new) (sym is.tells) (by is.fault is.when)
  where
    by : (fault : OpenFault) → OpeningCause old.devices new.devices fault → PlayCause text old new (opening_cause fault)
    by opens.Journal when = (script, when)
    by (opens.Damaged file at) when = (script, when)
    by (opens.Profile have asked) when = (script, when)
    by (opens.Limit kind n) when = inr (script, inr when)
    by opens.Memory when = tt

pub somehow_cause : (asked : Asked) (old new : Outside) (cause : Cause) → PlaysSomehow asked old new cause → PlayCause asked.text old new cause
somehow_cause asked old new cause (inl not) = refused_cause asked.text old new cause not.why
somehow_cause asked old new cause (inr ran) = ran_cause _ asked old new cause refl ran.1.1.1

-- ---- status 0

no_line : (fault rest : Option Cause) (rose : Type 0) → LineCause rose fault → unwrap_or (option_or fault rest) causes.Done ≡ causes.Done → fault ≡ None
no_line None rest rose line e = refl
no_line (Some cause) rest rose line e = absurd (subst (λ (x : Cause). LineCause rose (Some x)) e line)

no_report : (report : Option Cause) (rose : Type 0) → ReportCause rose report → unwrap_or report causes.Done ≡ causes.Done → report ≡ None
no_report None rose cause e = refl
no_report (Some x) rose cause e = absurd (subst (λ (y : Cause). ReportCause rose (Some y)) e cause)

rest_done : (fault rest : Option Cause) → fault ≡ None → unwrap_or (option_or fault rest) causes.Done ≡ causes.Done → unwrap_or rest causes.Done ≡ causes.Done
rest_done fault rest none e = subst (λ (f : Option Cause). unwrap_or (option_or f rest) causes.Done ≡ causes.Done) none e

no_sink : (failed : Bool) (rest : Option Cause) → unwrap_or (option_or (sink_cause failed) rest) causes.Done ≡ causes.Done → failed ≡ false
no_sink false rest e = refl
no_sink true rest e = absurd cc

nothing_waits : (answered : Place) (closing : Result ℕ SyncFault) → answered.stopped ≡ false → Syncs answered closing → sync_cause closing ≡ None → (after_sync answered closing).waiting ≡ []
nothing_waits answered (Ok n) running closes none = refl
nothing_waits answered (Err syncs.Stopped) running closes none = absurd (true≢false (sym closes ∙ running))
nothing_waits answered (Err syncs.Journal) running closes none = absurd cc

-- a store that was served without a fault isn't stopped
served_on : (run : Run) (old new : SinksTold) (went : Went) → IsServed run old new went → run.start.stopped ≡ false → went.served.fault ≡ None → went.served.sink_failed ≡ false → went.place.stopped ≡ false
served_on run old new went (inl answered) running none taken = run_goes_on run.session run.start run.commands went.text went.served.fault went.served.sink_failed went.place answered.told running none
served_on run old new went (inr unheard) running none taken = absurd (true≢false (sym (ap (λ (s : Served). s.sink_failed) unheard.served) ∙ taken))

pub is_done : (run : Run) (old mid : SinksTold) (new : Outside) (went : Went) (closed : Closed) → IsServed run old mid went → run.start.stopped ≡ false → IsClosed went.place mid new closed
    → end_of went.served.fault went.served.sink_failed (sync_cause closed.answer) closed.report ≡ causes.Done → IsDone went closed
is_done run old mid new went closed served running closing e =
    let fault = went.served.fault in
    let failed = went.served.sink_failed in
    let synced = sync_cause closed.answer in
    let rest1 = option_or (sink_cause failed) (option_or synced closed.report) in
    let no_fault : fault ≡ None = no_line fault rest1 _ (served_told run old mid went served) e in
    let e1 = rest_done fault rest1 no_fault e in
    let taken : failed ≡ false = no_sink failed (option_or synced closed.report) e1 in
    let e2 = rest_done (sink_cause failed) (option_or synced closed.report) (ap sink_cause taken) e1 in
    let no_close : synced ≡ None = no_line synced closed.report _ (sync_told went.place closed.answer) e2 in
    let e3 = rest_done synced closed.report no_close e2 in
    record {
      no_fault = no_fault;
      all_taken = taken;
      reported = no_report closed.report _ closing.report_cause e3;
      settled = ap (λ (p : Place). p.waiting) closing.leads
          ∙ nothing_waits went.place closed.answer (served_on run old mid went served running no_fault taken) closing.closes no_close;
    }

-- the commands and the closing leave what the opening began with, and the record
pub starts_of : (run : Run) (old mid : SinksTold) (new : Outside) (went : Went) (closed : Closed) → IsServed run old mid went → IsClosed went.place mid new closed → opening_of closed.place ≡ opening_of run.start
starts_of run old mid new went closed (inl answered) closing =
    ap opening_of closing.leads ∙ sync_start went.place closed.answer
    ∙ run_start run.session run.start run.commands went.text went.served.fault went.served.sink_failed went.place answered.told
starts_of run old mid new went closed (inr unheard) closing =
    ap opening_of closing.leads ∙ sync_start went.place closed.answer ∙ ap opening_of unheard.place

pub taken_all : (fresh taken took : Option (List ℕ)) (text : List ℕ) → IsFresh fresh → TookMore fresh text taken → took ≡ taken → IsTaken took text
taken_all fresh taken None text unused more same = tt
taken_all None None (Some t) text unused more same = absurd cc
taken_all None (Some s) (Some t) text unused more same = absurd cc
taken_all (Some f) None (Some t) text unused more same = absurd cc
taken_all (Some f) (Some s) (Some t) text unused more same =
    let one : t ≡ s = cc in
    let two : s ≡ f ++ text = cc in
    one ∙ two ∙ ap (λ (x : List ℕ). x ++ text) unused

-- ---- the whole run

-- an opening began a log, calls changed it, and so did the closing
pub touched_all : (tells : Bool) (file file' : JournalFile) (a b c d : JournalTold) → HasTouchedNext tells Small file a b → HasTouchedLog tells file file' b c → HasTouched tells file' c d → HasTouchedNext tells Small file a d
touched_all tells file file' a b c d next log last =
    next_log_on tells Small file a a b d (tells_itself a) next
    (touched_on tells file b c d log.touched (subst (λ (f : JournalFile). HasTouched tells f c d) log.log last))

-- calls went on from a log that was begun, and so did the closing
pub touched_rest : (tells : Bool) (file file' : JournalFile) (b c d : JournalTold) → HasTouchedLog tells file file' b c → HasTouched tells file' c d → HasTouched tells file b d
touched_rest tells file file' b c d log last = touched_on tells file b c d log.touched (subst (λ (f : JournalFile). HasTouched tells f c d) log.log last)

-- each image since the call began lies in the range, or goes on from what was opened
pub in_or_on : (tells : Bool) (file : JournalFile) (range : Range) (start : Start) (p : Place) (told opening new : JournalTold) → p.start ≡ start → StartsIn range told start
    → start.moment ≤ opening.moment → AreIn range (opening.left_since told.moment) → HasTouched tells file opening new → IsLeftBy p new
    → AreInOrOn range p (new.left_since told.moment)
in_or_on tells file range start p told opening new is starts before inside touched left = λ image since. elim (touched.since told.moment start.moment image starts.began before since) [
  | inl past ↦ inl (inside image past)
  | inr later ↦
      let honest : IsTrue p.start.honest = ap (λ (s : Start). s.honest) is ∙ starts.sure in
      let now : new.left_since p.start.moment image = subst (λ (t : ℕ). new.left_since t image) (sym (ap (λ (s : Start). s.moment) is)) later in
      inr (subst (λ (f : Profile). Leaves f (WasRecordOf p) p.start.base (all_of p) image) (ap (λ (s : Start). s.profile) is ∙ starts.profile) (left.ever honest image now))
]

pub ran_of : (start : Start) (log : ℕ) (asked : Asked) (old mid new : Outside) (cause : Cause) (session : ℕ) (commands : List Command) (name : List ℕ) (went : Went) (closed : Closed)
    → IsWithin asked.text 16777216 → Says asked.text commands → session ≡ session_of_record start.profile start.edits + 1
    → last_number start.base < session * 2 ^ 40 → session ≤ 8388607
    → new.devices.directories ≡ after_opening (after_choice asked.dir old.devices.directories) → name ≡ replies_name asked.file
    → IsServed (record { session = session; start = opened start log; name = name; commands = commands }) old.sinks mid.sinks went
    → IsClosed went.place mid.sinks new closed → mid.sinks.report ≡ old.sinks.report → old.sinks.faults ≤ mid.sinks.faults
    → cause ≡ end_of went.served.fault went.served.sink_failed (sync_cause closed.answer) closed.report → HasTouchedNext old.devices.tells Small (Log log) old.devices.journal new.devices.journal → TablesStay old.devices.tables new.devices.tables
    → Ran start asked old new cause
ran_of start log asked old mid new cause session commands name went closed short says next above possible directory named served closing same later ends touched tables =
    let run : Run = record { session = session; start = opened start log; name = replies_name asked.file; commands = commands } in
    let all : IsServed run old.sinks mid.sinks went =
    subst (λ (n : List ℕ). IsServed (record { session = session; start = opened start log; name = n; commands = commands }) old.sinks mid.sinks went) named served in
    let kept = starts_of run old.sinks mid.sinks new went closed all closing in
    record {
      session = session;
      log = log;
      commands = commands;
      went = went;
      closed = closed;
      short = short;
      says = says;
      next = next;
      above = above;
      possible = possible;
      directory = directory;
      replied = mid.sinks;
      served = all;
      unreported = same;
      counted = later;
      starts = ap (λ (x : Start × Record). x.0) kept;
      recorded = ap (λ (x : Start × Record). x.1) kept;
      closing = closing;
      ends = ends;
      done = λ done. is_done run old.sinks mid.sinks new went closed all refl closing (sym ends ∙ done);
      touched = touched;
      tables = tables;
    }

-- a run over a journal whose images lie in a range
pub plays_in : (range : Range) (asked : Asked) (old new : Outside) (cause : Cause) (start : Start) (tells : Bool) (file : JournalFile) (opening : JournalTold) → Ran start asked old new cause
    → StartsIn range old.devices.journal start → start.moment ≤ opening.moment → AreIn range (opening.left_since old.devices.journal.moment) → HasTouched tells file opening new.devices.journal
    → IsTrue new.devices.tells → PlaysIn range asked old new cause
plays_in range asked old new cause start tells file opening ran starts before inside touched told = inr (
  start,
  starts,
  ran,
  in_or_on tells file range start ran.closed.place old.devices.journal opening new.devices.journal ran.starts starts before inside touched (ran.closing.left told),
)

-- ---- a cause that is told after an opening

line_after : (cause : Cause) (P : Type 0) → LineCause P (Some cause) → IsBeforeOpening cause → ⊥
line_after causes.Journal P line before = before
line_after causes.Memory P line before = before
line_after (causes.Limit kind n) P (inl operations) before = let e : kinds.Operations ≡ kinds.Script = sym operations.0 ∙ before in absurd cc
line_after (causes.Limit kind n) P (inr tail) before = let e : kinds.Tail ≡ kinds.Script = sym tail.0 ∙ before in absurd cc
line_after causes.Done P line before = line
line_after causes.Usage P line before = line
line_after (causes.Script i at why) P line before = line
line_after (causes.Damaged file at) P line before = line
line_after (causes.Profile have asked) P line before = line
line_after (causes.Sink i) P line before = line
line_after (causes.Source i) P line before = line

report_after : (cause : Cause) (P : Type 0) → ReportCause P (Some cause) → IsBeforeOpening cause → ⊥
report_after causes.Memory P report before = before
report_after (causes.Sink i) P report before = before
report_after causes.Journal P report before = report
report_after (causes.Limit kind n) P report before = report
report_after causes.Done P report before = report
report_after causes.Usage P report before = report
report_after (causes.Script i at why) P report before = report
report_after (causes.Damaged file at) P report before = report
report_after (causes.Profile have asked) P report before = report
report_after (causes.Source i) P report before = report

end_after : (fault : Option Cause) (failed : Bool) (closing report : Option Cause) (P Q R : Type 0) → LineCause P fault → LineCause Q closing → ReportCause R report → IsBeforeOpening (end_of fault failed closing report) → ⊥
end_after (Some cause) failed closing report P Q R line close last before = line_after cause P line before
end_after None true closing report P Q R line close last before = before
end_after None false (Some cause) report P Q R line close last before = line_after cause Q close before
end_after None false None (Some cause) P Q R line close last before = report_after cause R last before
end_after None false None None P Q R line close last before = before

-- a run ends with no cause that is told before an opening
pub ran_after : (run : Run) (old mid new : Outside) (went : Went) (closed : Closed) (cause : Cause) → IsServed run old.sinks mid.sinks went → IsClosed went.place mid.sinks new closed
    → cause ≡ end_of went.served.fault went.served.sink_failed (sync_cause closed.answer) closed.report → IsBeforeOpening cause → ⊥
ran_after run old mid new went closed cause served closing ends before =
    end_after went.served.fault went.served.sink_failed (sync_cause closed.answer) closed.report _ _ _
    (served_told run old.sinks mid.sinks went served) (sync_told went.place closed.answer) closing.report_cause (subst IsBeforeOpening ends before)

-- nor does an opening that is refused
pub opening_after : (old new : DevicesTold) (cause : Cause) → IsOpeningCause old new cause → IsBeforeOpening cause → ⊥
opening_after old new cause is before = by is.fault is.when (subst IsBeforeOpening is.tells before)
  where
    by : (fault : OpenFault) → OpeningCause old new fault → IsBeforeOpening (opening_cause fault) → ⊥
    by opens.Journal when before = before
    by (opens.Damaged file at) when before = before
    by (opens.Profile have asked) when before = before
    by (opens.Limit kind n) when before = let e : kinds.Openings ≡ kinds.Script = sym when.0 ∙ before in absurd cc
    by opens.Memory when before = before
