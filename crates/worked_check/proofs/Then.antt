-- Words for proofs that worked histories are legal.
use Rattle.std.proofs.Common.{ℕ, List, ◌∷◌, refl, arith}
use Rattle.peb_base.specs.Profiles.{Column}
use Rattle.peb_base.specs.declared.entry.Entry.{Entry}
use Rattle.flsm_model.specs.Trees.{Describes}
use Rattle.worked_check.specs.Samples.{row}

pub described : (o : Column) (number level : ℕ) (e : Entry) (es : List Entry) → Describes o (row o number level (e ∷ es)) (e ∷ es)
described o number level e es =
    record {
      tells = record { some = omega arith; smallest = refl; largest = refl; entries = refl; raw = refl; first = refl; last = refl };
      bytes = refl;
    }

infixr 5 ◌then◌
abbrev pub ◌then◌ : {A B : Type 0} → A → B → A × B
◌then◌ first rest = (first, rest)
