-- Tables that are cut one after another.
use Rattle.std.proofs.Common.{◌≡◌, ◌⊎◌, inl, inr, ℕ, suc, ◌+◌, ◌<◌, ◌≤◌, List, [], ◌∷◌, ◌++◌, length, map, take, drop, get_or, Result, Ok, Err, OnOk, OnErr, IfErr, ◌-◌, refl, sym, ap, ◌∙◌, arith, append_assoc}
use Rattle.std.proofs.lemmas.List.{take_all}
use Rattle.std.specs.List.{AllZip}
use Rattle.disk_model.specs.Tables.{capped}
use Rattle.disk_model.specs.declared.port.Port as ports
use Rattle.disk_model.specs.declared.table_handle.TableHandle.{Ghosts}
use Rattle.flsm_model.specs.declared.short_cause.ShortCause.{ShortCause}
use Rattle.flsm_model.specs.declared.short_cause.ShortCause.TheVariants as causes
use Rattle.peb_base.specs.Faults.{Rose}
use Rattle.peb_base.specs.Keys.{Bytes}
use Rattle.peb_base.specs.declared.entry.Entry.{Entry}
use Rattle.table_file.specs.Pieces.{Piece, pieces_from, whole_length}
use Rattle.table_file.specs.Tables.{TableParts}
use Rattle.table_file.specs.Taking.{TakesAtMost}
use Rattle.table_file.specs.TakingLaws.{takes_less}
use Rattle.guard_commit.specs.Cutting.{cut_from}
use Rattle.guard_commit.specs.Joining.{HasJoined}
use Rattle.guard_commit.specs.Ports.{ReadsOn}
use Rattle.guard_commit.specs.Reading.{IsHeld}
use Rattle.guard_commit.specs.Stopping.{IsStoppedIn, IsStoppedBy}
use Rattle.guard_commit.specs.Writing.{IsOutside}
use Rattle.guard_commit.proofs.Lengths.{whole_append}

-- ---- causes

module _ {F : Type 0} (g : Ghosts F) (full : ℕ) (keys : List Bytes) (t : TableParts F)
    (ts : List (TableParts F)) where
  -- the first table's cause
  pub stopped_first : (cause : ShortCause) → IsStoppedIn g full keys t cause
      → IsStoppedBy g full keys (t ∷ ts) cause
  stopped_first causes.Fault h = tt
  stopped_first (causes.Damaged number at) h = (t, inl refl, h)
  stopped_first (causes.Limit kind n) h = (t, inl refl, h)
  stopped_first causes.Memory h = tt

  -- one of a later table
  pub stopped_rest : (cause : ShortCause) → IsStoppedBy g full keys ts cause
      → IsStoppedBy g full keys (t ∷ ts) cause
  stopped_rest causes.Fault h = tt
  stopped_rest (causes.Damaged number at) h = (h.0, inr h.1, h.2)
  stopped_rest (causes.Limit kind n) h = (h.0, inr h.1, h.2)
  stopped_rest causes.Memory h = tt

-- ---- contents

-- what the first table holds, where it alone is asked
pub held_first : {F : Type 0} (g : Ghosts F) (t : TableParts F) (ts : List (TableParts F))
    (contents : List (List Entry)) (P : List (List Entry) → Type 0)
    → ((held : List Entry) (rest : List (List Entry)) → IsHeld g t held
    → AllZip (IsHeld g) ts rest → P (held ∷ rest))
    → AllZip (IsHeld g) (t ∷ ts) contents → P contents
held_first g t ts [] P by h = absurd h
held_first g t ts (held ∷ rest) P by h = by held rest h.0 h.1

-- ---- bytes

-- what the first table's pieces take at most
pub bound_first : (full n : ℕ) (keys : List Bytes) (ps : List Piece) (held : List Entry)
    (rest : List (List Entry)) (before now : ℕ)
    → TakesAtMost (whole_length full ps + whole_length full (pieces_from n keys held)) before now
    → TakesAtMost (whole_length full ps + whole_length full (cut_from n keys (held ∷ rest))) before now
bound_first full n keys ps held rest before now takes =
    takes_less _ _ before now
    (omega (arith, whole_append full (pieces_from n keys held) (cut_from (n + suc (length keys)) keys rest)))
    takes

-- with those of the tables behind it
pub bound_rest : (full next n : ℕ) (keys : List Bytes) (ps : List Piece) (es held : List Entry)
    (rest : List (List Entry)) (before now : ℕ) → next ≡ n + suc (length keys) → es ≡ held
    → TakesAtMost (whole_length full (ps ++ pieces_from n keys es)
    + whole_length full (cut_from next keys rest)) before now
    → TakesAtMost (whole_length full ps + whole_length full (cut_from n keys (held ∷ rest))) before now
bound_rest full next n keys ps es held rest before now follows same takes =
    let own = pieces_from n keys es in
    let on : whole_length full (ps ++ own) + whole_length full (cut_from next keys rest)
    ≤ whole_length full ps + whole_length full (cut_from n keys (held ∷ rest)) =
    omega (
      arith,
      whole_append full ps own,
      whole_append full (pieces_from n keys held) (cut_from (n + suc (length keys)) keys rest),
      ap (λ (l : List Entry). whole_length full (pieces_from n keys l)) same,
      ap (λ m. whole_length full (cut_from m keys rest)) follows,
    ) in
    takes_less _ _ before now on takes

-- ---- pieces

-- the pieces of a table and of those behind it
pub cut_on : (next n : ℕ) (keys : List Bytes) (ps : List Piece) (es : List Entry)
    (parts : List (List Entry)) → next ≡ n + suc (length keys)
    → (ps ++ pieces_from n keys es) ++ cut_from next keys parts ≡ ps ++ cut_from n keys (es ∷ parts)
cut_on next n keys ps es parts follows =
    append_assoc ps (pieces_from n keys es) (cut_from next keys parts)
    ∙ ap (λ m. ps ++ (pieces_from n keys es ++ cut_from m keys parts)) follows

-- ---- counts

pub rose_in : (a b c d : ℕ) → a ≤ b → Rose b c → c ≤ d → Rose a d
rose_in a b c d from rose to = omega (arith, from, rose, to)

-- what a port that was joined has counted
pub rose_joined : (port fork now : ℕ) → Rose 0 fork → now ≡ capped (port + fork) → Rose port now
rose_joined port fork now rose is = omega (arith, rose, is)

pub reads_self : {P F : Type 0} (g : ports.Ghosts P F) (a : P) → ReadsOn g a a
reads_self g a = record {
  files = refl;
  reads = omega arith;
  steady = λ s. s;
  later = omega arith;
}

pub reads_on : {P F : Type 0} (g : ports.Ghosts P F) (a b c : P) → ReadsOn g a b → ReadsOn g b c
    → ReadsOn g a c
reads_on g a b c x y = record {
  files = y.files ∙ x.files;
  reads = omega (arith, x.reads, y.reads);
  steady = λ s. y.steady (x.steady s);
  later = omega (arith, x.later, y.later);
}

-- a number outside one block, by the other one's first number
pub outside_of : (first other ranges n : ℕ) → first ≡ other → IsOutside other (ranges + 1) n
    → (n < first) ⊎ (first + ranges < n)
outside_of first other ranges n same (inl lt) = inl (omega (arith, same, lt))
outside_of first other ranges n same (inr ge) = inr (omega (arith, same, ge))

pub joins_self : {P F : Type 0} (g : ports.Ghosts P F) (a : P) → HasJoined g a a
joins_self g a = record {
  files = refl;
  reads = omega arith;
  steady = λ s. s;
  later = omega arith;
}

pub joins_on : {P F : Type 0} (g : ports.Ghosts P F) (a b c : P) → HasJoined g a b
    → HasJoined g b c → HasJoined g a c
joins_on g a b c x y = record {
  files = y.files ∙ x.files;
  reads = omega (arith, x.reads, y.reads);
  steady = λ s. y.steady (x.steady s);
  later = omega (arith, x.later, y.later);
}

-- a count that rose between rose over all
pub rose_within : (a b c d : ℕ) → capped a ≤ b → Rose b c → c ≤ d → Rose a d
rose_within a b c d from rose to = omega (arith, from, rose, to)

pub rose_before : (a b c : ℕ) → Rose a b → capped b ≤ c → Rose a c
rose_before a b c rose to = omega (arith, rose, to)

-- ---- lists and answers

-- a list of one at least, as its first element and the rest
pub map_first : {A B : Type 0} (xs : List A) (x : A) (v : A → B) → 1 ≤ length xs
    → x ≡ get_or xs 0 x → map v xs ≡ v x ∷ map v (take (length xs - 1) (drop 1 xs))
map_first [] x v some is = absurd (omega (arith, some))
map_first (y ∷ xs) x v some is =
    let all : take (length (y ∷ xs) - 1) xs ≡ xs = take_all (length (y ∷ xs) - 1) xs (omega arith) in
    (λ i. v (sym is i) ∷ map v (sym all i))

pub map_none : {A B : Type 0} (xs : List A) (v : A → B) → length xs < 1 → map v xs ≡ []
map_none [] v none = refl
map_none (x ∷ xs) v none = absurd (omega (arith, none))

pub ok_to : {T E A B : Type 0} (r : Result T E) → (A → B) → OnOk r A → OnOk r B
ok_to (Ok x) f h = f h
ok_to (Err e) f h = tt

pub err_to : {T E A B : Type 0} (r : Result T E) → (A → B) → OnErr r A → OnErr r B
err_to (Ok x) f h = tt
err_to (Err e) f h = f h

pub if_err_to : {T E : Type 0} (r : Result T E) (P Q : E → Type 0) → ((e : E) → P e → Q e)
    → IfErr r P → IfErr r Q
if_err_to (Ok x) P Q f h = tt
if_err_to (Err e) P Q f h = f e h
