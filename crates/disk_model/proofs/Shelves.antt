-- Tables in memory, by their numbers.
use Rattle.std.proofs.Common.{◌≡◌, ◌⊎◌, inl, inr, IsTrue, ℕ, Bool, true, false, cond, ◌||◌, ◌&&◌, not, List, [], ◌∷◌, ◌++◌, Option, None, Some, refl, sym, ap, ◌∙◌, arith, subst, ◌==◌}
use Rattle.std.proofs.lemmas.Bool.Decides.{nat_tests}
use Rattle.std.proofs.lemmas.List.Folds.{list_any-append}
use Rattle.std.specs.Option.{option_or}
use Rattle.std.specs.Arc.{arc_value}
use Rattle.disk_model.specs.declared.mem_table_file.MemTableFile.{MemTableFile}
use Rattle.disk_model.specs.declared.made.Made.{Made}
use Rattle.disk_model.specs.declared.shelf.Shelf.{Shelf}
use Rattle.disk_model.specs.declared.pick.Pick.{Pick}
use Rattle.disk_model.specs.Tables.{Sealed, Gone, IsTableImage, StaysOrGoes, is_among, is_gone, joined}
use Rattle.disk_model.specs.TableLists.{table_bytes, table_in}
use Rattle.disk_model.specs.Shelf.{kept_by, gone_of, gone_by, begun_by, is_begun, is_lost, is_done, without}

table_in-append : (a b : List MemTableFile) (n : ℕ) → table_in (a ++ b) n ≡ option_or (table_in a n) (table_in b n)
table_in-append [] b n = refl
table_in-append (x ∷ a) b n = by (n == x.number) (table_in-append a b n) where
  by : (here : Bool) → table_in (a ++ b) n ≡ option_or (table_in a n) (table_in b n)
      → cond here (Some (table_bytes x)) (table_in (a ++ b) n) ≡ option_or (cond here (Some (table_bytes x)) (table_in a n)) (table_in b n)
  by true rest = refl
  by false rest = rest

-- a table that isn't lost, and its copy
one_left : (copy table : MemTableFile) (lost : ℕ → Bool) (n : ℕ) → lost table.number ≡ false → copy.number ≡ table.number → arc_value copy.bytes ≡ arc_value table.bytes
    → table_in (copy ∷ []) n ≡ without lost (table_in (table ∷ [])) n
one_left copy table lost n kept number bytes =
    ap (λ m. cond (n == m) (Some (table_bytes copy)) None) number ∙ ap (λ b. cond (n == table.number) (Some b.items) None) bytes ∙ by (n == table.number) refl (lost n) refl where
      by : (here : Bool) → n == table.number ≡ here → (gone : Bool) → lost n ≡ gone → cond here (Some (table_bytes table)) None ≡ cond gone None (cond here (Some (table_bytes table)) None)
      by true is true not = let e : n ≡ table.number = grind (arith, nat_tests) in let f : lost n ≡ false = ap lost e ∙ kept in cc
      by true is false not = refl
      by false is true not = refl
      by false is false not = refl

-- a copy of a table that isn't lost, behind those that are left
pub left_pushed : (left : List MemTableFile) (copy table : MemTableFile) (lost : ℕ → Bool) (n : ℕ) → lost table.number ≡ false → copy.number ≡ table.number → arc_value copy.bytes ≡ arc_value table.bytes
    → table_in (left ++ copy ∷ []) n ≡ option_or (table_in left n) (without lost (table_in (table ∷ [])) n)
left_pushed left copy table lost n kept number bytes =
    table_in-append left (copy ∷ []) n ∙ ap (option_or (table_in left n)) (one_left copy table lost n kept number bytes)

or_true : (a : Bool) → (a || true) ≡ true
or_true true = refl
or_true false = refl

or_first : (a b c d : Bool) → ((a || b) || (c || d)) ≡ false → (a || c) ≡ false
or_first false b false d none = refl
or_first false b true d none = cc (or_true b)
or_first true b c d none = cc

among-first : (a b : List ℕ) (n : ℕ) → is_among (a ++ b) n ≡ (is_among a n || is_among b n)
among-first a b n = list_any-append (λ m. m == n) a b

-- what is gone stays gone
gone_before : (gone : Gone) (made : Made) (n : ℕ) → is_gone (joined gone (gone_of made)) n ≡ false → is_gone gone n ≡ false
gone_before gone made n none = or_first (is_among gone.retired n) (is_among made.retired.items n) (is_among gone.removed n) (is_among made.removed.items n) (
    sym (ap (λ b. b || is_among (gone.removed ++ made.removed.items) n) (among-first gone.retired made.retired.items n)
    ∙ ap (λ b. (is_among gone.retired n || is_among made.retired.items n) || b) (among-first gone.removed made.removed.items n))
    ∙ none)

-- a table of a maker that was handed back, or an earlier one, is there unless it was retired or removed
stays : (made : Made) (kept : Sealed) (gone : Gone) (n : ℕ)
    → StaysOrGoes (joined gone (gone_of made)) n (option_or (table_in made.tables.items n) (without (is_gone gone) kept n)) (without (is_gone (joined gone (gone_of made))) (λ m. option_or (table_in made.tables.items m) (kept m)) n)
stays made kept gone n = by (is_gone (joined gone (gone_of made)) n) refl where
  by : (lost : Bool) → is_gone (joined gone (gone_of made)) n ≡ lost
      → (cond lost None (option_or (table_in made.tables.items n) (kept n)) ≡ option_or (table_in made.tables.items n) (without (is_gone gone) kept n)) ⊎ (IsTrue (is_gone (joined gone (gone_of made)) n) × (cond lost None (option_or (table_in made.tables.items n) (kept n)) ≡ None))
  by true is = inr (is, refl)
  by false is = inl (ap (λ b. option_or (table_in made.tables.items n) (cond b None (kept n))) (sym (gone_before gone made n is)))

-- the same, where the earlier shelf was taken from its place
pub made_stays : (made : Made) (old taken : Shelf) → taken ≡ old → (n : ℕ)
    → StaysOrGoes (joined (gone_by taken) (gone_of made)) n (option_or (table_in made.tables.items n) (without (is_gone (gone_by old)) (kept_by old) n))
    (without (is_gone (joined (gone_by taken) (gone_of made))) (λ m. option_or (table_in made.tables.items m) (kept_by taken m)) n)
made_stays made old taken is n =
    subst (λ (s : Shelf). StaysOrGoes (joined (gone_by s) (gone_of made)) n (option_or (table_in made.tables.items n) (without (is_gone (gone_by old)) (kept_by old) n)) (without (is_gone (joined (gone_by s) (gone_of made))) (λ m. option_or (table_in made.tables.items m) (kept_by s m)) n))
    (sym is) (stays made (kept_by old) (gone_by old) n)

second : (a b : Bool) → IsTrue (a && b) → IsTrue b
second true b both = both
second false b both = absurd cc

-- a number that was begun and not sealed before, or is the maker's, is so after, or was taken away
pub made_unsealed : (made : Made) (old taken : Shelf) → taken ≡ old → (n : ℕ)
    → IsTrue (not (is_gone (gone_by old) n) && begun_by old n) ⊎ (made.begun ≡ Some n)
    → IsTrue (is_gone (joined (gone_by taken) (gone_of made)) n)
    ⊎ IsTrue (not (is_gone (joined (gone_by taken) (gone_of made)) n) && (is_begun made.begun n || begun_by taken n))
made_unsealed made old taken is n begun = by (is_gone (joined (gone_by taken) (gone_of made)) n) refl (there begun) where
  there : IsTrue (not (is_gone (gone_by old) n) && begun_by old n) ⊎ (made.begun ≡ Some n) → (is_begun made.begun n || begun_by taken n) ≡ true
  there (inl before) = let b : begun_by taken n ≡ true = ap (λ (s : Shelf). begun_by s n) is ∙ second (not (is_gone (gone_by old) n)) (begun_by old n) before in ap (λ b. is_begun made.begun n || b) b ∙ or_true (is_begun made.begun n)
  there (inr here) = let same : (n == n) ≡ true = grind (arith, nat_tests) in ap (λ b. is_begun b n || begun_by taken n) here ∙ ap (λ b. b || begun_by taken n) same

  by : (lost : Bool) → is_gone (joined (gone_by taken) (gone_of made)) n ≡ lost → (is_begun made.begun n || begun_by taken n) ≡ true
      → IsTrue lost ⊎ IsTrue (not lost && (is_begun made.begun n || begun_by taken n))
  by true is so = inl refl
  by false is so = inr so

begun_here : (begun : Option ℕ) (n : ℕ) → is_begun begun n ≡ true → begun ≡ Some n
begun_here None n is = cc
begun_here (Some m) n is = let e : m ≡ n = grind (arith, nat_tests) in ap Some e

-- a number that is begun and not sealed was so before, or is the maker's
pub made_begun : (made : Made) (old taken : Shelf) → taken ≡ old → (n : ℕ)
    → IsTrue (not (is_gone (joined (gone_by taken) (gone_of made)) n) && (is_begun made.begun n || begun_by taken n))
    → IsTrue (not (is_gone (gone_by old) n) && begun_by old n) ⊎ (made.begun ≡ Some n)
made_begun made old taken is n holds =
    let there : IsTrue (not (is_gone (joined (gone_by old) (gone_of made)) n) && (is_begun made.begun n || begun_by old n)) =
    subst (λ (s : Shelf). IsTrue (not (is_gone (joined (gone_by s) (gone_of made)) n) && (is_begun made.begun n || begun_by s n))) is holds in
    by (is_gone (joined (gone_by old) (gone_of made)) n) refl (is_begun made.begun n) refl there where
      by : (lost : Bool) → is_gone (joined (gone_by old) (gone_of made)) n ≡ lost → (here : Bool) → is_begun made.begun n ≡ here → IsTrue (not lost && (here || begun_by old n))
          → IsTrue (not (is_gone (gone_by old) n) && begun_by old n) ⊎ (made.begun ≡ Some n)
      by true lost here begun none = absurd (cc)
      by false lost true begun so = inr (begun_here made.begun n begun)
      by false lost false begun so = inl (ap (λ b. not b && begun_by old n) (gone_before (gone_by old) made n lost) ∙ so)

-- what a pick leaves is what a crash may leave
pub lost_left : (pick : Pick) (shelf : Shelf) (left : Sealed) → ((n : ℕ) → left n ≡ without (is_lost pick (gone_by shelf)) (kept_by shelf) n) → IsTableImage (kept_by shelf) (gone_by shelf) left
lost_left pick shelf left same n = by (is_done pick n) (is_gone (gone_by shelf) n) refl (same n) where
  by : (taken gone : Bool) → is_gone (gone_by shelf) n ≡ gone → left n ≡ cond (taken && gone) None (kept_by shelf n) → StaysOrGoes (gone_by shelf) n (kept_by shelf n) (left n)
  by true true is e = inr (is, e)
  by true false is e = inl e
  by false gone is e = inl e

-- a number that a crash leaves unsealed was begun and not sealed
pub left_begun : (pick : Pick) (shelf : Shelf) (left : ℕ → Bool) → ((n : ℕ) → left n ≡ (is_done pick n && (not (is_gone (gone_by shelf) n) && begun_by shelf n)))
    → (n : ℕ) → IsTrue (left n) → IsTrue (not (is_gone (gone_by shelf) n) && begun_by shelf n)
left_begun pick shelf left same n is = second (is_done pick n) (not (is_gone (gone_by shelf) n) && begun_by shelf n) (sym (same n) ∙ is)
