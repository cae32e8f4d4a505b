-- Laws of the bytes that a maker takes.
use Rattle.std.proofs.Common.{◌≡◌, ℕ, ◌+◌, ◌^◌, ◌<◌, ◌≤◌, Bool, List, Result, Ok, Err, length, sym, subst, arith}
use Rattle.std.specs.Result.{IsErrAnd}
use Rattle.std.proofs.lemmas.Result.{err_from_is_err_and}
use Rattle.disk_model.specs.Tables.{capped, TakesSome}
use Rattle.table_file.specs.Taking.{Takes, TakesAtMost}

-- nothing is taken
pub takes_none : (most before : ℕ) → before < 2 ^ 64 → TakesAtMost most before before
takes_none most before fits =
    record { count = 0; within = omega arith; counted = omega (arith, fits) }

-- what is at most so much is at most more
pub takes_less : (less most before now : ℕ) → less ≤ most → TakesAtMost less before now
    → TakesAtMost most before now
takes_less less most before now le takes =
    record {
      count = takes.count;
      within = omega (arith, takes.within, le);
      counted = takes.counted;
    }

-- first so many bytes, then at most so many
pub takes_on : (first most before between now : ℕ) → between ≡ capped (before + first)
    → TakesAtMost most between now → TakesAtMost (first + most) before now
takes_on first most before between now all takes =
    record {
      count = first + takes.count;
      within = omega (arith, takes.within);
      counted = omega (arith, takes.counted, all);
    }

-- first so many bytes, then so many
pub takes_both : (first second before between now : ℕ) → between ≡ capped (before + first)
    → now ≡ capped (between + second) → now ≡ capped (before + (first + second))
takes_both first second before between now all more = omega (arith, all, more)

-- a write that failed takes at most its bytes
pub takes_some : (tells : Bool) (bytes : List ℕ) (before now : ℕ) (written more : List ℕ)
    → TakesSome tells bytes before now written more → TakesAtMost (length bytes) before now
takes_some tells bytes before now written more some =
    record { count = some.count; within = some.within; counted = some.counted }

-- so many bytes are at most so many
pub takes_all : (count most before now : ℕ) → count ≤ most → now ≡ capped (before + count)
    → TakesAtMost most before now
takes_all count most before now le all =
    record { count = count; within = le; counted = all }

-- a call that fails takes at most its bytes
pub takes_failed : {T E : Type 0} (r : Result T E) (Q : E → Type 0) → IsErrAnd r Q
    → (count before now : ℕ) → TakesAtMost count before now → Takes count before now r
takes_failed r Q err count before now takes =
    let p = err_from_is_err_and r err in subst (Takes count before now) (sym p.1) takes

-- first so many bytes, then what a call takes
pub takes_then : {T E : Type 0} (r : Result T E) (first second before between now : ℕ)
    → between ≡ capped (before + first) → Takes second between now r
    → Takes (first + second) before now r
takes_then (Ok x) first second before between now all more =
    takes_both first second before between now all more
takes_then (Err e) first second before between now all more =
    takes_on first second before between now all more
