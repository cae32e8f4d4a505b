-- What the lines of commands show of all later batches.
use Rattle.std.proofs.Common.{◌≡◌, ℕ, ◌+◌, ◌-◌, ◌<◌, ◌≤◌, Bool, true, false, List, [], ◌∷◌, ◌++◌, Option, Some, None, Result, Ok, Err, refl, sym, ap, ◌∙◌, subst, append_assoc, inl, inr, arith}
use Rattle.std.proofs.lemmas.List.{append-nil}
use Rattle.std.proofs.lemmas.Bool.{lt-ltb, eq-eqb, and_from}
use Rattle.std.specs.Prelude.{nat_lt, ◌==◌, ◌&&◌}
use Rattle.std.specs.Option.{option_or}
use Rattle.peb_base.specs.declared.op.Op.{Op}
use Rattle.peb_base.specs.Keys.{Bytes}
use Rattle.peb_base.specs.Numbers.{session_of}
use Rattle.peb_base.specs.Batches.{Batches, last_number, ordered_above}
use Rattle.peb_base.specs.Map.{value_at, lookup}
use Rattle.peb_base.specs.MapLaws.{last_of_push, map_before}
use Rattle.script.specs.declared.command.Command.{Command}
use Rattle.script.specs.declared.command.Command.TheVariants as commands
use Rattle.script.specs.declared.cause.Cause.{Cause}
use Rattle.flsm_core.specs.declared.sync_fault.SyncFault.{SyncFault}
use Rattle.flsm_core.specs.declared.sync_fault.SyncFault.TheVariants as syncs
use Rattle.flsm_model.specs.Shape.{Record}
use Rattle.flsm_core.specs.Place.{Start, Place, all_of, put_op, next_number, with_batch, all_settled, halted, after_sync}
use Rattle.store_layout.specs.Fronts.{IsFront}
use Rattle.pebbles_cli.specs.declared.write_fault.WriteFault.{WriteFault}
use Rattle.pebbles_cli.specs.declared.write_fault.WriteFault.TheVariants as writes
use Rattle.pebbles_cli.specs.Writes.{Writes, after_write}
use Rattle.pebbles_cli.specs.Tells.{Tells, TellsOne, value_line, write_line, write_cause}
use Rattle.pebbles_cli.specs.Shows.{Has, IsKept, Shows, ShowsAll, RunsShow, StoppedStays}

-- ---- batches that grow

front_none : (bs : Batches) → IsFront bs bs
front_none bs = ([], sym (append-nil bs))

pub front_then : (a b c : Batches) → IsFront a b → IsFront b c → IsFront a c
front_then a b c g h = (g.0 ++ h.0, h.1 ∙ ap (λ (x : Batches). x ++ h.0) g.1 ∙ append_assoc a g.0 h.0)

-- the later place has the batches of the earlier one, settled ones first, and the maps at the numbers of then
pub record Grows (old new : Place) : Type 0 where
  pub front : IsFront (all_of old) (all_of new)
  pub settled : IsFront old.settled new.settled
  pub last : last_number (all_of old) ≤ last_number (all_of new)
  pub maps : (n : ℕ) (key : Bytes) → n ≤ last_number (all_of old) → value_at (all_of new) n key ≡ value_at (all_of old) n key

pub grows_none : (p : Place) → Grows p p
grows_none p = record { front = front_none (all_of p); settled = front_none p.settled; last = omega arith; maps = λ n key le. refl }

pub grows_then : (a b c : Place) → Grows a b → Grows b c → Grows a c
grows_then a b c g h = record {
  front = front_then (all_of a) (all_of b) (all_of c) g.front h.front;
  settled = front_then a.settled b.settled c.settled g.settled h.settled;
  last = omega (arith, g.last, h.last);
  maps = λ n key le. h.maps n key (omega (arith, le, g.last)) ∙ g.maps n key le;
}

grows_is : (a b c : Place) → c ≡ b → Grows a b → Grows a c
grows_is a b c is g = subst (Grows a) (sym is) g

-- the same batches, of which no fewer are settled
grows_same : (old new : Place) → all_of new ≡ all_of old → IsFront old.settled new.settled → Grows old new
grows_same old new same settled = record {
  front = subst (IsFront (all_of old)) (sym same) (front_none (all_of old));
  settled = settled;
  last = rw same (omega arith);
  maps = λ n key le. rw same refl;
}

pub grows_settled : (p : Place) → Grows p (all_settled p)
grows_settled p = grows_same p (all_settled p) (append-nil (all_of p)) (p.waiting, refl)

pub grows_halted : (p : Place) → Grows p (halted p)
grows_halted p = grows_same p (halted p) refl (front_none p.settled)

one_above : (n first : ℕ) (op : Op) → n < first → ordered_above n ((first, op ∷ []) ∷ []) ≡ true
one_above n first op lt =
    let same : (session_of first == session_of (first + 1 - 1)) ≡ true = eq-eqb (session_of first) (session_of (first + 1 - 1)) (ap session_of (omega arith)) in
    and_from (nat_lt n first && true && (session_of first == session_of (first + 1 - 1))) true
    (and_from (nat_lt n first && true) (session_of first == session_of (first + 1 - 1)) (and_from (nat_lt n first) true (lt-ltb n first lt) refl) same) refl

-- one more batch
pub grows_push : (session : ℕ) (p : Place) (op : Op) → Grows p (with_batch session p (op ∷ []))
grows_push session p op =
    let n : ℕ = next_number session (all_of p) in
    let batch : ℕ × List Op = (n, op ∷ []) in
    let above : last_number (all_of p) < n = omega arith in
    let pushed : all_of (with_batch session p (op ∷ [])) ≡ all_of p ++ batch ∷ [] = sym (append_assoc p.settled p.waiting (batch ∷ [])) in
    record {
      front = (batch ∷ [], pushed);
      settled = front_none p.settled;
      last = rw pushed (omega (arith, last_of_push (all_of p) n (op ∷ []) above));
      maps = λ m key le. ap (λ bs. value_at bs m key) pushed ∙ ap (lookup key) (map_before (all_of p) (batch ∷ []) m (one_above m n op (omega (arith, le, above))));
    }

-- ---- a batch that is there

pub has_later : (old new : Batches) (b : ℕ × List Op) → IsFront old new → Has old b → Has new b
has_later old new b front has = (has.0, has.1 ++ front.0, front.1 ∙ ap (λ (x : Batches). x ++ front.0) has.2 ∙ append_assoc has.0 (b ∷ has.1) front.0)

kept_later : (old new : Place) (ops : List Op) (sync : Bool) (answer : Result ℕ WriteFault) → Grows old new → IsKept old ops sync answer → IsKept new ops sync answer
kept_later old new ops true (Ok n) g kept = has_later old.settled new.settled (n, ops) g.settled kept
kept_later old new ops false (Ok n) g kept = has_later (all_of old) (all_of new) (n, ops) g.front kept
kept_later old new ops sync (Err (writes.Unsynced n)) g kept = has_later (all_of old) (all_of new) (n, ops) g.front kept
kept_later old new ops sync (Err writes.Stopped) g kept = tt
kept_later old new ops sync (Err (writes.Limit kind n)) g kept = tt
kept_later old new ops sync (Err writes.Memory) g kept = tt

-- ---- one write

write_grows : (session : ℕ) (p : Place) (op : Op) (sync : Bool) (answer : Result ℕ WriteFault) → Grows p (after_write session p (op ∷ []) sync answer)
write_grows session p op true (Ok n) =
    let mid : Place = with_batch session p (op ∷ []) in grows_then p mid (all_settled mid) (grows_push session p op) (grows_settled mid)
write_grows session p op false (Ok n) = grows_push session p op
write_grows session p op sync (Err (writes.Unsynced n)) =
    let mid : Place = with_batch session p (op ∷ []) in grows_then p mid (halted mid) (grows_push session p op) (grows_halted mid)
write_grows session p op sync (Err writes.Stopped) = grows_none p
write_grows session p op sync (Err (writes.Limit kind n)) = grows_none p
write_grows session p op sync (Err writes.Memory) = grows_none p

pub has_pushed : (session : ℕ) (p : Place) (ops : List Op) (n : ℕ) → n ≡ next_number session (all_of p) → Has (all_of (with_batch session p ops)) (n, ops)
has_pushed session p ops n is =
    let next : ℕ = next_number session (all_of p) in
    (all_of p, [], sym (append_assoc p.settled p.waiting ((next, ops) ∷ [])) ∙ ap (λ (m : ℕ). all_of p ++ (m, ops) ∷ []) (sym is))

write_kept : (session : ℕ) (p : Place) (ops : List Op) (sync : Bool) (answer : Result ℕ WriteFault) → Writes session p ops sync answer → IsKept (after_write session p ops sync answer) ops sync answer
write_kept session p ops true (Ok n) answers = has_pushed session p ops n answers.2
write_kept session p ops false (Ok n) answers = has_pushed session p ops n answers.2
write_kept session p ops sync (Err (writes.Unsynced n)) answers = has_pushed session p ops n answers.3
write_kept session p ops sync (Err writes.Stopped) answers = tt
write_kept session p ops sync (Err (writes.Limit kind n)) answers = tt
write_kept session p ops sync (Err writes.Memory) answers = tt

-- ---- one command

pub one_grows : (session : ℕ) (old : Place) (command : Command) (text : List ℕ) (cause : Option Cause) (new : Place) → TellsOne session old command text cause new → Grows old new
one_grows session old (commands.Put key value sync) text cause new t =
    grows_is old (after_write session old (put_op key value ∷ []) sync t.answer) new t.leads (write_grows session old (put_op key value) sync t.answer)
one_grows session old (commands.Get key) text cause new t = grows_is old old new t.leads (grows_none old)

one_shows : (session : ℕ) (old : Place) (command : Command) (text : List ℕ) (cause : Option Cause) (new last : Place)
    → TellsOne session old command text cause new → Grows new last → Shows last command text
one_shows session old (commands.Put key value sync) text cause new last t g =
    let ops = put_op key value ∷ [] in
    let here : IsKept new ops sync t.answer = subst (λ (p : Place). IsKept p ops sync t.answer) (sym t.leads) (write_kept session old ops sync t.answer t.answers) in
    record { answer = t.answer; line = t.line; kept = kept_later new last ops sync t.answer g here }
one_shows session old (commands.Get key) text cause new last t g =
    let from : Grows old last = subst (λ (p : Place). Grows p last) t.leads g in
    let n : ℕ = last_number (all_of old) in
    record { number = n; within = from.last; line = t.line ∙ ap (value_line n) (sym (from.maps n key (omega arith))) }

-- ---- all commands

pub run_grows : (session : ℕ) (old : Place) (cs : List Command) (text : List ℕ) (cause : Option Cause) (failed : Bool) (new : Place) → Tells (TellsOne session) old cs text cause failed new → Grows old new
unfolding Tells
run_grows session old [] text cause failed new t = grows_is old old new t.3 (grows_none old)
run_grows session old (c ∷ cs) text cause failed new t =
    let one = one_grows session old c t.0 t.1 t.2 t.3.0 in
    elim t.3.1 [
      | inl more ↦ grows_then old t.2 new one (run_grows session t.2 cs more.0 more.1 failed new more.2.2)
      | inr cut ↦ grows_is old t.2 new cut.1.3 one
    ]

-- the lines of commands show this of each later place
shows_later : (session : ℕ) (old : Place) (cs : List Command) (text : List ℕ) (cause : Option Cause) (failed : Bool) (new last : Place)
    → Tells (TellsOne session) old cs text cause failed new → Grows new last → ShowsAll last cs text failed
unfolding Tells
shows_later session old [] text cause failed new last t g = (t.0, t.2)
shows_later session old (c ∷ cs) text cause failed new last t g =
    elim t.3.1 [
      | inl more ↦
          let after = grows_then t.2 new last (run_grows session t.2 cs more.0 more.1 failed new more.2.2) g in
          (t.0, (one_shows session old c t.0 t.1 t.2 last t.3.0 after, inl (more.0, (more.2.0, shows_later session t.2 cs more.0 more.1 failed new last more.2.2 g))))
      | inr cut ↦
          let after = subst (λ (p : Place). Grows p last) cut.1.3 g in
          (t.0, (one_shows session old c t.0 t.1 t.2 last t.3.0 after, inr (cut.0, (cut.1.0, cut.1.2))))
    ]

pub runs_show : RunsShow
runs_show session old cs text cause failed new t = shows_later session old cs text cause failed new new t (grows_none new)

-- ---- a store that the journal stopped

pub stopped_write : (session : ℕ) (p : Place) (ops : List Op) (sync : Bool) (answer : Result ℕ WriteFault) → p.stopped ≡ true → Writes session p ops sync answer → answer ≡ Err writes.Stopped
stopped_write session p ops sync (Ok n) stopped answers = absurd cc
stopped_write session p ops sync (Err (writes.Unsynced n)) stopped answers = absurd cc
stopped_write session p ops sync (Err writes.Stopped) stopped answers = refl
stopped_write session p ops sync (Err (writes.Limit kind n)) stopped answers = absurd cc
stopped_write session p ops sync (Err writes.Memory) stopped answers = absurd cc

pub stopped_stays : StoppedStays
stopped_stays session old key value sync text cause new stopped t =
    let ops = put_op key value ∷ [] in
    let is = stopped_write session old ops sync t.answer stopped t.answers in
    (t.line ∙ ap (write_line sync) is, t.leads ∙ ap (after_write session old ops sync) is)

-- ---- a run in which no line told a fault

goes_on_write : (session : ℕ) (p : Place) (ops : List Op) (sync : Bool) (answer : Result ℕ WriteFault) → p.stopped ≡ false → Writes session p ops sync answer → write_cause answer ≡ None
    → (after_write session p ops sync answer).stopped ≡ false
goes_on_write session p ops true (Ok n) running answers none = running
goes_on_write session p ops false (Ok n) running answers none = running
goes_on_write session p ops sync (Err (writes.Unsynced n)) running answers none = absurd cc
goes_on_write session p ops sync (Err writes.Stopped) running answers none = absurd cc
goes_on_write session p ops sync (Err (writes.Limit kind n)) running answers none = absurd cc
goes_on_write session p ops sync (Err writes.Memory) running answers none = absurd cc

one_goes_on : (session : ℕ) (old : Place) (command : Command) (text : List ℕ) (cause : Option Cause) (new : Place) → TellsOne session old command text cause new → old.stopped ≡ false → cause ≡ None → new.stopped ≡ false
one_goes_on session old (commands.Put key value sync) text cause new t running none =
    let ops = put_op key value ∷ [] in
    ap (λ (p : Place). p.stopped) t.leads ∙ goes_on_write session old ops sync t.answer running t.answers (sym t.tells ∙ none)
one_goes_on session old (commands.Get key) text cause new t running none = ap (λ (p : Place). p.stopped) t.leads ∙ running

none_first : (a b : Option Cause) → option_or a b ≡ None → a ≡ None
none_first None b e = refl
none_first (Some x) b e = absurd cc

none_second : (a b : Option Cause) → option_or a b ≡ None → b ≡ None
none_second None b e = e
none_second (Some x) b e = absurd cc

pub run_goes_on : (session : ℕ) (old : Place) (cs : List Command) (text : List ℕ) (cause : Option Cause) (failed : Bool) (new : Place)
    → Tells (TellsOne session) old cs text cause failed new → old.stopped ≡ false → cause ≡ None → new.stopped ≡ false
unfolding Tells
run_goes_on session old [] text cause failed new t running none = ap (λ (p : Place). p.stopped) t.3 ∙ running
run_goes_on session old (c ∷ cs) text cause failed new t running none =
    elim t.3.1 [
      | inl more ↦
          let e = sym more.2.1 ∙ none in
          run_goes_on session t.2 cs more.0 more.1 failed new more.2.2 (one_goes_on session old c t.0 t.1 t.2 t.3.0 running (none_first t.1 more.1 e)) (none_second t.1 more.1 e)
      | inr cut ↦ ap (λ (p : Place). p.stopped) cut.1.3 ∙ one_goes_on session old c t.0 t.1 t.2 t.3.0 running (sym cut.1.1 ∙ none)
    ]

-- ---- what a run never changes

-- what the opening began with, and the record since
abbrev pub opening_of : Place → Start × Record
opening_of p = (p.start, p.edits)

write_start : (session : ℕ) (p : Place) (ops : List Op) (sync : Bool) (answer : Result ℕ WriteFault) → opening_of (after_write session p ops sync answer) ≡ opening_of p
write_start session p ops true (Ok n) = refl
write_start session p ops false (Ok n) = refl
write_start session p ops sync (Err (writes.Unsynced n)) = refl
write_start session p ops sync (Err writes.Stopped) = refl
write_start session p ops sync (Err (writes.Limit kind n)) = refl
write_start session p ops sync (Err writes.Memory) = refl

one_start : (session : ℕ) (old : Place) (command : Command) (text : List ℕ) (cause : Option Cause) (new : Place) → TellsOne session old command text cause new → opening_of new ≡ opening_of old
one_start session old (commands.Put key value sync) text cause new t = ap opening_of t.leads ∙ write_start session old (put_op key value ∷ []) sync t.answer
one_start session old (commands.Get key) text cause new t = ap opening_of t.leads

pub run_start : (session : ℕ) (old : Place) (cs : List Command) (text : List ℕ) (cause : Option Cause) (failed : Bool) (new : Place) → Tells (TellsOne session) old cs text cause failed new → opening_of new ≡ opening_of old
unfolding Tells
run_start session old [] text cause failed new t = ap opening_of t.3
run_start session old (c ∷ cs) text cause failed new t =
    let one = one_start session old c t.0 t.1 t.2 t.3.0 in
    elim t.3.1 [
      | inl more ↦ run_start session t.2 cs more.0 more.1 failed new more.2.2 ∙ one
      | inr cut ↦ ap opening_of cut.1.3 ∙ one
    ]

pub sync_start : (p : Place) (closing : Result ℕ SyncFault) → opening_of (after_sync p closing) ≡ opening_of p
sync_start p (Ok n) = refl
sync_start p (Err syncs.Stopped) = refl
sync_start p (Err syncs.Journal) = refl
