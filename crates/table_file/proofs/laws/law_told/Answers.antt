use Rattle.std.proofs.Common.{◌≡◌, ◌++◌, ◌∷◌, [], ℕ, refl, sym, ap, arith}
use Rattle.std.specs.Prelude.{Option, Some, None, if◌then◌else◌, length}
use Rattle.std.proofs.lemmas.Bool.{le-leb}
use Rattle.peb_base.specs.declared.limit_kind.LimitKind.TheVariants as kinds
use Rattle.table_file.specs.Form.{cut_of}
use Rattle.table_file.specs.Limits.{blocks_fault}
use Rattle.table_file.specs.declared.put_fault.PutFault.{PutFault}
use Rattle.table_file.specs.declared.put_fault.PutFault.TheVariants.{Fault, Limit, Memory}
use Rattle.table_file.proofs.laws.law_told.Goals as goal

some_none : (x : PutFault) → Some x ≡ None → ⊥
some_none x same = cc

abbrev told_number : Option PutFault → ℕ
told_number None = 0
told_number (Some Fault) = 0
told_number (Some (Limit kind n)) = n
told_number (Some Memory) = 0

pub returns-clause-limits : goal.returns-clause-limits
returns-clause-limits c = record {
  index = refl;
  longer = refl;
  entries = λ full es e le.
      ap (λ b. if b then Some (Limit kinds.Entries 1717986918) else blocks_fault (cut_of full (es ++ e ∷ [])).closed)
      (le-leb 1717986918 (length es) le);
}

pub returns-clause-refusals : goal.returns-clause-refusals
returns-clause-refusals c = record {
  no_ok = λ why same. some_none why same;
  no_fault = λ why same. some_none why same;
  no_other = λ kind n same. omega (arith, ap told_number same);
  no_limit = λ kind n same. some_none (Limit kind n) (sym same);
}

pub returns-clause-counts : goal.returns-clause-counts
returns-clause-counts c = record {
  no_more = λ takes. omega (arith, takes.within, takes.counted);
  no_fewer = λ takes. omega (arith, takes.within, takes.counted);
  most = record { count = 2; within = omega arith; counted = refl };
}

pub returns-clause-damages : goal.returns-clause-damages
returns-clause-damages c = record {
  own_table = λ at same. omega (arith, same);
  own_place = λ table same. omega (arith, same);
  shorter = λ row bytes at lt place. omega (arith, lt, place.other_length (λ same. omega (arith, lt, same)));
  longer = λ row bytes at lt place. omega (arith, lt, place.other_length (λ same. omega (arith, lt, same)));
}
