-- The numbers that replies name, and the faults that they tell.
use Rattle.std.proofs.Common.{◌≡◌, ℕ, ◌+◌, ◌-◌, ◌<◌, ◌≤◌, Bool, true, false, List, [], ◌∷◌, Option, Some, None, Result, Ok, Err, refl, sym, ap, ◌∙◌, subst, append_assoc, inl, inr, arith}
use Rattle.std.specs.Option.{option_or}
use Rattle.peb_base.specs.declared.op.Op.{Op}
use Rattle.peb_base.specs.declared.limit_kind.LimitKind.{LimitKind}
use Rattle.peb_base.specs.Batches.{Batches, last_number}
use Rattle.peb_base.specs.Map.{value_at}
use Rattle.peb_base.specs.MapLaws.{last_of_push}
use Rattle.script.specs.declared.command.Command.{Command}
use Rattle.script.specs.declared.command.Command.TheVariants as commands
use Rattle.script.specs.declared.cause.Cause.{Cause}
use Rattle.script.specs.declared.cause.Cause.TheVariants as causes
use Rattle.flsm_core.specs.Place.{Place, all_of, put_op, next_number, with_batch, all_settled, halted, PassesLimit}
use Rattle.pebbles_cli.specs.declared.write_fault.WriteFault.{WriteFault}
use Rattle.pebbles_cli.specs.declared.write_fault.WriteFault.TheVariants as writes
use Rattle.pebbles_cli.specs.Causes.{LineCause, IsWriteLimit}
use Rattle.pebbles_cli.specs.Numbers.{NumbersWrite, NumbersOne, AreNumbered, RunsNumber}
use Rattle.pebbles_cli.specs.Writes.{Writes, after_write}
use Rattle.pebbles_cli.specs.Tells.{Tells, TellsOne, write_cause}
use Rattle.pebbles_cli.proofs.Growing.{Grows, grows_none, grows_then, grows_settled, grows_halted, has_later, has_pushed, run_grows, stopped_write}

-- ---- numbers

-- the number of a batch that was just added is the last
pushed_last : (session : ℕ) (p : Place) (op : Op) → last_number (all_of (with_batch session p (op ∷ []))) ≡ next_number session (all_of p)
pushed_last session p op =
    let n : ℕ = next_number session (all_of p) in
    let above : last_number (all_of p) < n = omega arith in
    let one : n + 1 - 1 ≡ n = omega arith in
    ap last_number (sym (append_assoc p.settled p.waiting ((n, op ∷ []) ∷ []))) ∙ last_of_push (all_of p) n (op ∷ []) above ∙ one

-- the next number that is named, and that it is at most the last one
record Named (low : ℕ) (all : Batches) (ops : List Op) (answer : Result ℕ WriteFault) (last : ℕ) : Type 0 where
  next : ℕ
  numbers : NumbersWrite low all ops answer next
  within : next ≤ last

-- a batch that was added, and what stands after it
added : (session low n : ℕ) (p last : Place) (op : Op) → low ≤ last_number (all_of p) → n ≡ next_number session (all_of p) → Grows (with_batch session p (op ∷ [])) last → NumbersWrite low (all_of last) (op ∷ []) (Ok n) n
added session low n p last op le is grows =
    let mid : Place = with_batch session p (op ∷ []) in (
      omega (arith, le, is),
      has_later (all_of mid) (all_of last) (n, op ∷ []) grows.front (has_pushed session p (op ∷ []) n is),
      refl,
    )

write_named : (session low : ℕ) (p last : Place) (op : Op) (sync : Bool) (answer : Result ℕ WriteFault) → low ≤ last_number (all_of p) → Writes session p (op ∷ []) sync answer
    → Grows (after_write session p (op ∷ []) sync answer) last → Named low (all_of last) (op ∷ []) answer (last_number (all_of (after_write session p (op ∷ []) sync answer)))
write_named session low p last op true (Ok n) le answers grows =
    let mid : Place = with_batch session p (op ∷ []) in
    let more = grows_settled mid in
    record {
      next = n;
      numbers = added session low n p last op le answers.2 (grows_then mid (all_settled mid) last more grows);
      within = omega (arith, answers.2, pushed_last session p op, more.last);
    }
write_named session low p last op false (Ok n) le answers grows =
    record {
      next = n;
      numbers = added session low n p last op le answers.2 grows;
      within = omega (arith, answers.2, pushed_last session p op);
    }
write_named session low p last op sync (Err (writes.Unsynced n)) le answers grows =
    let mid : Place = with_batch session p (op ∷ []) in
    record {
      next = n;
      numbers = added session low n p last op le answers.3 (grows_then mid (halted mid) last (grows_halted mid) grows);
      within = omega (arith, answers.3, pushed_last session p op);
    }
write_named session low p last op sync (Err writes.Stopped) le answers grows = record { next = low; numbers = refl; within = le }
write_named session low p last op sync (Err (writes.Limit kind n)) le answers grows = record { next = low; numbers = refl; within = le }
write_named session low p last op sync (Err writes.Memory) le answers grows = record { next = low; numbers = refl; within = le }

record NamedOne (low : ℕ) (all : Batches) (command : Command) (text : List ℕ) (last : ℕ) : Type 0 where
  next : ℕ
  numbers : NumbersOne low all command text next
  within : next ≤ last

one_named : (session low : ℕ) (old : Place) (command : Command) (text : List ℕ) (cause : Option Cause) (mid last : Place) → low ≤ last_number (all_of old)
    → TellsOne session old command text cause mid → Grows mid last → NamedOne low (all_of last) command text (last_number (all_of mid))
one_named session low old (commands.Put key value sync) text cause mid last le t grows =
    let ops = put_op key value ∷ [] in
    let after : Place = after_write session old ops sync t.answer in
    let named = write_named session low old last (put_op key value) sync t.answer le t.answers (subst (λ (p : Place). Grows p last) t.leads grows) in
    record {
      next = named.next;
      numbers = (t.answer, t.line, named.numbers);
      within = subst (λ (p : Place). named.next ≤ last_number (all_of p)) (sym t.leads) named.within;
    }
one_named session low old (commands.Get key) text cause mid last le t grows =
    let n : ℕ = last_number (all_of old) in
    let from : Grows old last = subst (λ (p : Place). Grows p last) t.leads grows in
    record {
      next = n;
      numbers = (value_at (all_of old) n key, t.line, le, (all_of old, from.front, refl));
      within = subst (λ (p : Place). n ≤ last_number (all_of p)) (sym t.leads) (omega arith);
    }

numbers_later : (session low : ℕ) (old : Place) (cs : List Command) (text : List ℕ) (cause : Option Cause) (failed : Bool) (new last : Place) → low ≤ last_number (all_of old)
    → Tells (TellsOne session) old cs text cause failed new → Grows new last → AreNumbered low (all_of last) cs text failed
unfolding Tells
numbers_later session low old [] text cause failed new last le t g = (t.0, t.2)
numbers_later session low old (c ∷ cs) text cause failed new last le t g =
    elim t.3.1 [
      | inl more ↦
          let after = grows_then t.2 new last (run_grows session t.2 cs more.0 more.1 failed new more.2.2) g in
          let one = one_named session low old c t.0 t.1 t.2 last le t.3.0 after in
          (t.0, one.next, (one.numbers, inl (more.0, (more.2.0, numbers_later session one.next t.2 cs more.0 more.1 failed new last one.within more.2.2 g))))
      | inr cut ↦
          let after = subst (λ (p : Place). Grows p last) cut.1.3 g in
          let one = one_named session low old c t.0 t.1 t.2 last le t.3.0 after in
          (t.0, one.next, (one.numbers, inr (cut.0, (cut.1.0, cut.1.2))))
    ]

pub runs_number : RunsNumber
runs_number session old cs text cause failed new t = numbers_later session (last_number (all_of old)) old cs text cause failed new new (omega arith) t (grows_none new)

-- ---- faults

is_write_limit : (session : ℕ) (p : Place) (ops : List Op) (kind : LimitKind) (n : ℕ) → PassesLimit session p ops kind n → IsWriteLimit kind n
is_write_limit session p ops kind n (inl operations) = inl (operations.0, operations.1)
is_write_limit session p ops kind n (inr tail) = inr (tail.0, tail.1)

write_told : (session : ℕ) (p : Place) (ops : List Op) (sync : Bool) (answer : Result ℕ WriteFault) → Writes session p ops sync answer → LineCause ((after_write session p ops sync answer).stopped ≡ true) (write_cause answer)
write_told session p ops sync (Ok n) answers = tt
write_told session p ops sync (Err (writes.Unsynced n)) answers = refl
write_told session p ops sync (Err writes.Stopped) answers = tt
write_told session p ops sync (Err (writes.Limit kind n)) answers = is_write_limit session p ops kind n answers.1
write_told session p ops sync (Err writes.Memory) answers = tt

one_told : (session : ℕ) (old : Place) (command : Command) (text : List ℕ) (cause : Option Cause) (new : Place) → TellsOne session old command text cause new → LineCause (new.stopped ≡ true) cause
one_told session old (commands.Put key value sync) text cause new t =
    let ops = put_op key value ∷ [] in
    subst (λ (c : Option Cause). LineCause (new.stopped ≡ true) c) (sym t.tells)
    (subst (λ (p : Place). LineCause (p.stopped ≡ true) (write_cause t.answer)) (sym t.leads) (write_told session old ops sync t.answer t.answers))
one_told session old (commands.Get key) text cause new t = subst (λ (c : Option Cause). LineCause (new.stopped ≡ true) c) (sym t.tells) tt

one_stays : (session : ℕ) (old : Place) (command : Command) (text : List ℕ) (cause : Option Cause) (new : Place) → TellsOne session old command text cause new → old.stopped ≡ true → new.stopped ≡ true
one_stays session old (commands.Put key value sync) text cause new t stopped =
    let ops = put_op key value ∷ [] in
    ap (λ (p : Place). p.stopped) (t.leads ∙ ap (after_write session old ops sync) (stopped_write session old ops sync t.answer stopped t.answers)) ∙ stopped
one_stays session old (commands.Get key) text cause new t stopped = ap (λ (p : Place). p.stopped) t.leads ∙ stopped

-- a store that stopped stays so to the end of a run
run_stays : (session : ℕ) (old : Place) (cs : List Command) (text : List ℕ) (cause : Option Cause) (failed : Bool) (new : Place) → Tells (TellsOne session) old cs text cause failed new → old.stopped ≡ true → new.stopped ≡ true
unfolding Tells
run_stays session old [] text cause failed new t stopped = ap (λ (p : Place). p.stopped) t.3 ∙ stopped
run_stays session old (c ∷ cs) text cause failed new t stopped =
    let one = one_stays session old c t.0 t.1 t.2 t.3.0 stopped in
    elim t.3.1 [
      | inl more ↦ run_stays session t.2 cs more.0 more.1 failed new more.2.2 one
      | inr cut ↦ ap (λ (p : Place). p.stopped) cut.1.3 ∙ one
    ]

pub weaker : (cause : Option Cause) (P Q : Type 0) → (P → Q) → LineCause P cause → LineCause Q cause
weaker None P Q f h = tt
weaker (Some causes.Journal) P Q f h = f h
weaker (Some causes.Memory) P Q f h = tt
weaker (Some (causes.Limit kind n)) P Q f h = h
weaker (Some causes.Done) P Q f h = absurd h
weaker (Some causes.Usage) P Q f h = absurd h
weaker (Some (causes.Script i line why)) P Q f h = absurd h
weaker (Some (causes.Damaged file at)) P Q f h = absurd h
weaker (Some (causes.Profile have asked)) P Q f h = absurd h
weaker (Some (causes.Sink i)) P Q f h = absurd h
weaker (Some (causes.Source i)) P Q f h = absurd h

chosen : (cause told : Option Cause) (P : Type 0) → LineCause P cause → LineCause P told → LineCause P (option_or cause told)
chosen None told P a b = b
chosen (Some x) told P a b = a

-- a line tells a fault of the journal only where it stopped the store
pub run_told : (session : ℕ) (old : Place) (cs : List Command) (text : List ℕ) (cause : Option Cause) (failed : Bool) (new : Place) → Tells (TellsOne session) old cs text cause failed new → LineCause (new.stopped ≡ true) cause
unfolding Tells
run_told session old [] text cause failed new t = subst (λ (c : Option Cause). LineCause (new.stopped ≡ true) c) (sym t.1) tt
run_told session old (c ∷ cs) text cause failed new t =
    let first : LineCause (t.2.stopped ≡ true) t.1 = one_told session old c t.0 t.1 t.2 t.3.0 in
    elim t.3.1 [
      | inl more ↦
          let stays : t.2.stopped ≡ true → new.stopped ≡ true = run_stays session t.2 cs more.0 more.1 failed new more.2.2 in
          subst (λ (c : Option Cause). LineCause (new.stopped ≡ true) c) (sym more.2.1)
          (chosen t.1 more.1 (new.stopped ≡ true) (weaker t.1 (t.2.stopped ≡ true) (new.stopped ≡ true) stays first)
          (run_told session t.2 cs more.0 more.1 failed new more.2.2))
      | inr cut ↦
          subst (λ (c : Option Cause). LineCause (new.stopped ≡ true) c) (sym cut.1.1)
          (subst (λ (p : Place). LineCause (p.stopped ≡ true) t.1) (sym cut.1.3) first)
    ]
