use Rattle.std.proofs.Common.{◌≡◌, ℕ, suc, ◌<◌, [], ◌∷◌, None, refl, inl, inr, arith}
use Rattle.std.specs.Prelude.{zero}
use Rattle.peb_base.specs.declared.profile.Profile.TheVariants.{Small}
use Rattle.store_layout.specs.Examples.{first_manifest, first_log_file, logs_once}
use Rattle.store_layout.proofs.laws.first_images.Goals as goal

pub returns-clause-nothing : goal.returns-clause-nothing
returns-clause-nothing c = λ profile. record {
  logs = [];
  by = record {
    openings = tt;
    each = tt;
    reads = record {
      recorded = inl (tt, refl);
      legal = refl;
      read = record { holds = tt; within = tt; spelled = refl; ordered = refl };
    };
    oldest = 1;
    lies = record {
      some = omega arith;
      before = omega arith;
      none_below = λ m low. refl;
      older = λ m from low. absurd (omega (arith, from, low));
      none_above = λ m high. refl;
    };
  };
}

above_one : (m : ℕ) → 2 < m → logs_once m ≡ None
above_one zero high = refl
above_one (suc zero) high = absurd (omega (arith, high))
above_one (suc (suc m)) high = refl

below_one : (m : ℕ) → m < 1 → logs_once m ≡ None
below_one zero low = refl
below_one (suc m) low = absurd (omega (arith, low))

pub returns-clause-opened : goal.returns-clause-opened
returns-clause-opened c = record {
  logs = record { header = record { kind = 76; form = 1; profile = Small; number = 1; session = 1 }; groups = [] } ∷ [];
  by = record {
    openings = (tt, tt);
    each = tt;
    reads = record {
      recorded = inr (record {
        each = ((omega arith, omega arith), tt);
        log = record {
          gate = 0;
          rest = [];
          bytes = first_manifest;
          holds = refl;
          closed = λ e. omega (arith, e);
          splits = record { fits = (refl, refl, refl, refl); each = ((omega arith, omega arith), tt); spelled = refl };
        };
      });
      legal = refl;
      read = record {
        holds = (
          record {
            gate = 0;
            rest = [];
            bytes = first_log_file;
            holds = refl;
            closed = λ e. omega (arith, e);
            splits = record { fits = (refl, refl, refl, omega arith, omega arith, omega arith); each = tt; spelled = refl };
          },
          tt,
        );
        within = ((refl, omega arith), tt);
        spelled = ([], [], refl, record { records = refl; each = tt }, refl);
        ordered = refl;
      };
    };
    oldest = 1;
    lies = record {
      some = omega arith;
      before = omega arith;
      none_below = λ m low. below_one m low;
      older = λ m from low. absurd (omega (arith, from, low));
      none_above = λ m high. above_one m high;
    };
  };
}
