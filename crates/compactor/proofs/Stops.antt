-- Which limit stops a table.
use Rattle.std.proofs.Common.{◌≡◌, ℕ, List, [], ◌∷◌, ◌++◌, Option, Some, None, Result, Ok, Err, refl, sym, ap, ◌∙◌, subst}
use Rattle.std.specs.Option.{option_or}
use Rattle.peb_base.specs.declared.entry.Entry.{Entry}
use Rattle.table_file.specs.Limits.{push_fault, IsRefused}
use Rattle.table_file.specs.declared.put_fault.PutFault.{PutFault}
use Rattle.table_file.specs.declared.put_fault.PutFault.TheVariants.{Fault, Limit, Memory}
use Rattle.compactor.specs.Stopping.{fault_behind, IsMet}

-- an entry that is taken leaves the limit to those behind it
pub goes_on : (full : ℕ) (pushed : List Entry) (e : Entry) (es : List Entry)
    → push_fault full pushed e ≡ None
    → fault_behind full pushed (e ∷ es) ≡ fault_behind full (pushed ++ e ∷ []) es
goes_on full pushed e es none =
    ap (λ (f : Option PutFault). option_or f (fault_behind full (pushed ++ e ∷ []) es)) none

-- a limit that refuses is met
pub met : (T : Type 0) (refusal : Option PutFault) (fault : PutFault)
    → IsRefused {T = T} refusal (Err fault) → IsMet refusal fault
met T refusal Fault refused = tt
met T refusal Memory refused = tt
met T refusal (Limit kind n) refused = refused

-- one that is met first is that of the table
pub met_first : (whole refusal behind : Option PutFault) (fault : PutFault)
    → whole ≡ option_or refusal behind → IsMet refusal fault → IsMet whole fault
met_first whole refusal behind Fault is meets = tt
met_first whole refusal behind Memory is meets = tt
met_first whole refusal behind (Limit kind n) is meets =
    is ∙ ap (λ (f : Option PutFault). option_or f behind) meets
