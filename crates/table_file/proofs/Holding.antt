-- Tables that were written, and those that were opened, hold their entries.
use Rattle.std.proofs.Common.{◌≡◌, ℕ, zero, suc, ◌<◌, ◌∙◌, List, [], ◌∷◌, length, map, get_or, ap, subst, arith}
use Rattle.std.specs.List.{Contains}
use Rattle.bloom.specs.Filter.{may_hold}
use Rattle.bloom.specs.Laws.{FilterIsLong, AllAreHeld}
use Rattle.disk_model.specs.declared.table_handle.TableHandle.{Ghosts}
use Rattle.peb_base.specs.Choice.{mixed}
use Rattle.peb_base.specs.declared.entry.Entry.{Entry}
use Rattle.table_file.specs.Holding.{WrittenHolds, OpenedHolds, KeysAreHeld}
use Rattle.table_file.specs.Opening.{OpensAs}
use Rattle.table_file.proofs.Reopened.{opens_as_written}
use Rattle.table_file.proofs.Written.{Grows}

pub written_holds : {F : Type 0} (g : Ghosts F) → WrittenHolds g
written_holds g t full es least most is = record { full = full; least = least; most = most; table = is }

pub opened_holds : Grows → FilterIsLong → {F : Type 0} (g : Ghosts F) → OpenedHolds g
opened_holds grows long g t full es o =
    let found = opens_as_written grows long t.row full es t.items t.filter o.least o.most o.sorted o.row_is.some o.row_is.entries o.row_size o.row_bytes (subst (OpensAs t.row t.items t.filter) o.file_bytes o.opens) in
    record {
      full = full;
      least = o.least;
      most = o.most;
      table = record {
        sorted = o.sorted;
        row_is = o.row_is;
        row_bytes = o.row_bytes;
        file_number = o.file_number;
        file_bytes = λ told. o.file_bytes;
        items_are = found.0;
        filter_is = found.1;
      };
    }

-- what is made of an element is among what is made of all
mapped_at : {A B : Type 0} (f : A → B) (xs : List A) (i : ℕ) (x : A) → i < length xs
    → get_or xs i x ≡ x → Contains (map f xs) (f x)
mapped_at f [] i x lt is = absurd (omega (arith, lt))
mapped_at f (y ∷ xs) zero x lt is = (0, omega arith, ap f is)
mapped_at f (y ∷ xs) (suc i) x lt is =
    let deep = mapped_at f xs i x (omega (arith, lt)) is in
    (suc deep.0, omega (arith, deep.1), deep.2)

pub keys_held : AllAreHeld → {F : Type 0} (g : Ghosts F) → KeysAreHeld g
keys_held all g t es e holds has =
    ap (λ filter. may_hold filter (mixed e.key)) holds.table.filter_is
    ∙ all (length es) (map (λ (e : Entry). mixed e.key) es) (mixed e.key)
    (mapped_at (λ (e : Entry). mixed e.key) es has.0 e has.1 has.2)
