-- Running commands one after another.
use Rattle.std.proofs.Common.{◌≡◌, ℕ, ◌≤◌, true, false, List, [], ◌∷◌, ◌++◌, length, take, Option, Some, None, Result, Ok, Err, refl, sym, ap, ◌∙◌, subst, append_assoc, inl, inr, arith}
use Rattle.std.specs.Result.{is_err}
use Rattle.std.specs.Option.{option_or}
use Rattle.std.proofs.lemmas.List.{append-nil}
use Rattle.disk_model.specs.declared.failed.Failed.{Failed}
use Rattle.disk_model.specs.Bytes.{Takes}
use Rattle.disk_model.specs.Images.{Rose}
use Rattle.script.specs.declared.command.Command.{Command}
use Rattle.script.specs.declared.cause.Cause.{Cause}
use Rattle.flsm_core.specs.Place.{Place}
use Rattle.pebbles_cli.specs.Tells.{Steps, Tells, TellsOne, Since, TookMore}

or_assoc : (a b c : Option Cause) → option_or (option_or a b) c ≡ option_or a (option_or b c)
or_assoc None b c = refl
or_assoc (Some x) b c = refl

or_none : (a : Option Cause) → option_or a None ≡ a
or_none None = refl
or_none (Some x) = refl

pub since_none : {P : Type 0} (one : Steps P) (old : P) (all : List Command) → Since one old all [] None old all
since_none one old all = λ rest later failed new tells. tells

-- one more command, whose line was taken whole
pub since_more : {P : Type 0} (one : Steps P) (old now mid : P) (all left : List Command) (command : Command) (sofar first : List ℕ) (cause told : Option Cause)
    → Since one old all sofar cause now (command ∷ left) → one now command first told mid → Since one old all (sofar ++ first) (option_or cause told) mid left
unfolding Tells
since_more one old now mid all left command sofar first cause told since step = λ rest later failed new tells.
    let whole : Tells one old all (sofar ++ (first ++ rest)) (option_or cause (option_or told later)) failed new =
    since (first ++ rest) (option_or told later) failed new (first, told, mid, (step, inl (rest, later, (refl, refl, tells)))) in
    subst (λ (c : Option Cause). Tells one old all ((sofar ++ first) ++ rest) c failed new) (sym (or_assoc cause told later))
    (subst (λ (t : List ℕ). Tells one old all t (option_or cause (option_or told later)) failed new) (sym (append_assoc sofar first rest)) whole)

-- one more command, of whose line the sink took a front
pub since_failed : {P : Type 0} (one : Steps P) (old now mid : P) (all left : List Command) (command : Command) (sofar first : List ℕ) (cause told : Option Cause) (k : ℕ)
    → Since one old all sofar cause now (command ∷ left) → one now command first told mid → Tells one old all (sofar ++ take k first) (option_or cause told) true mid
unfolding Tells
since_failed one old now mid all left command sofar first cause told k since step =
    since (take k first) told true mid (first, told, mid, (step, inr (k, (refl, refl, refl, refl))))

-- all commands
pub since_all : {P : Type 0} (one : Steps P) (old now : P) (all : List Command) (sofar : List ℕ) (cause : Option Cause) → Since one old all sofar cause now [] → Tells one old all sofar cause false now
unfolding Tells
since_all one old now all sofar cause since =
    subst (λ (c : Option Cause). Tells one old all sofar c false now) (or_none cause)
    (subst (λ (t : List ℕ). Tells one old all t (option_or cause None) false now) (append-nil sofar) (since [] None false now (refl, refl, refl, refl)))

-- ---- what a sink took

pub took_none : (old : Option (List ℕ)) → TookMore old [] old
took_none None = refl
took_none (Some t) = ap Some (sym (append-nil t))

pub took_more : (old mid new : Option (List ℕ)) (sofar bytes : List ℕ) (r : Result (Unit {0}) Failed) → is_err r ≡ false → TookMore old sofar mid → Takes mid bytes r new → TookMore old (sofar ++ bytes) new
took_more old mid new sofar bytes (Err e) f a b = absurd cc
took_more None None new sofar bytes (Ok u) f a b = b
took_more None (Some m) new sofar bytes (Ok u) f a b = absurd cc
took_more (Some t) None new sofar bytes (Ok u) f a b = absurd cc
took_more (Some t) (Some m) new sofar bytes (Ok u) f a b =
    let e : m ≡ t ++ sofar = cc in
    b ∙ ap Some (rw e (append_assoc t sofar bytes))

-- a front of the bytes, and none where the sink doesn't tell
pub took_front : (old mid new : Option (List ℕ)) (sofar bytes : List ℕ) (r : Result (Unit {0}) Failed) → is_err r ≡ true → TookMore old sofar mid → Takes mid bytes r new → (k : ℕ) × TookMore old (sofar ++ take k bytes) new
took_front old mid new sofar bytes (Ok u) f a b = absurd cc
took_front None None new sofar bytes (Err e) f a b = (0, b)
took_front None (Some m) new sofar bytes (Err e) f a b = absurd cc
took_front (Some t) None new sofar bytes (Err e) f a b = absurd cc
took_front (Some t) (Some m) new sofar bytes (Err e) f a b =
    let same : m ≡ t ++ sofar = cc in
    (b.0, b.1 ∙ ap Some (rw same (append_assoc t sofar (take b.0 bytes))))

-- ---- the sink's faults

pub rose_later : (a b c : ℕ) → a ≤ b → Rose b c → Rose a c
rose_later a b c ab rose = omega arith

-- ---- a step of the loop

pub goes_on : (s t : ℕ) (old now mid : Place) (all left rest : List Command) (command : Command) (sofar first : List ℕ) (cause told next : Option Cause)
    → t ≡ s → left ≡ command ∷ rest → next ≡ option_or cause told
    → Since (TellsOne s) old all sofar cause now left → TellsOne t now command first told mid → Since (TellsOne s) old all (sofar ++ first) next mid rest
goes_on s t old now mid all left rest command sofar first cause told next same item joined since one =
    subst (λ (c : Option Cause). Since (TellsOne s) old all (sofar ++ first) c mid rest) (sym joined)
    (since_more (TellsOne s) old now mid all rest command sofar first cause told
    (subst (λ (l : List Command). Since (TellsOne s) old all sofar cause now l) item since)
    (subst (λ (n : ℕ). TellsOne n now command first told mid) same one))

pub stops : (s t : ℕ) (old now mid : Place) (all left rest : List Command) (command : Command) (sofar first : List ℕ) (cause told next : Option Cause) (k : ℕ)
    → t ≡ s → left ≡ command ∷ rest → next ≡ option_or cause told
    → Since (TellsOne s) old all sofar cause now left → TellsOne t now command first told mid → Tells (TellsOne s) old all (sofar ++ take k first) next true mid
stops s t old now mid all left rest command sofar first cause told next k same item joined since one =
    subst (λ (c : Option Cause). Tells (TellsOne s) old all (sofar ++ take k first) c true mid) (sym joined)
    (since_failed (TellsOne s) old now mid all rest command sofar first cause told k
    (subst (λ (l : List Command). Since (TellsOne s) old all sofar cause now l) item since)
    (subst (λ (n : ℕ). TellsOne n now command first told mid) same one))

none_left : (left : List Command) → length left ≡ 0 → left ≡ []
none_left [] e = refl
none_left (x ∷ xs) e = absurd (omega (arith, e))

pub ends : (s : ℕ) (old now : Place) (all left : List Command) (sofar : List ℕ) (cause : Option Cause) → length left ≡ 0 → Since (TellsOne s) old all sofar cause now left → Tells (TellsOne s) old all sofar cause false now
ends s old now all left sofar cause none since = since_all (TellsOne s) old now all sofar cause (subst (λ (l : List Command). Since (TellsOne s) old all sofar cause now l) (none_left left none) since)
