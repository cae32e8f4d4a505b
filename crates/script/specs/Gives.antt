-- What a reader of the code answers, against what reading gives.
use Rattle.std.specs.Prelude.{◌≡◌, Option, Some, None, Result, Ok, Err}
use Rattle.script.specs.declared.why.Why.{Why}
use Rattle.script.specs.declared.line_fault.LineFault.{LineFault}
use Rattle.script.specs.declared.line_fault.LineFault.TheVariants as faults

infixl 10 ◌>>=◌
-- one step, and then the next unless the first refuses
abbrev pub ◌>>=◌ : {A B : Type 0} → Result A Why → (A → Result B Why) → Result B Why
(Ok x) >>= f = f x
(Err e) >>= f = Err e

-- this reason where there is none
abbrev pub or_why : {X : Type 0} → Why → Option X → Result X Why
or_why why None = Err why
or_why why (Some x) = Ok x

-- a fault tells why reading refuses, unless memory ran out
abbrev pub Fails : {Y : Type 0} → LineFault → Result Y Why → Type 0
Fails faults.Memory read = Unit {0}
Fails (faults.Bad why) read = read ≡ Err why

-- what was returned, seen by view, is what reading gives, unless memory ran out
abbrev pub Gives : {X Y : Type 0} → (X → Y) → Result X LineFault → Result Y Why → Type 0
Gives view (Ok x) read = read ≡ Ok (view x)
Gives view (Err e) read = Fails e read
