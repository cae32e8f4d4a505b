-- A scan of the entries of a block.
use Rattle.std.proofs.Common.{◌≡◌, ℕ, zero, suc, ◌+◌, ◌<◌, ◌≤◌, true, false, List, [], ◌∷◌, ◌++◌, length, drop, Some, refl, sym, ap, ◌∙◌, subst, arith, ◌^◌, lit<}
use Rattle.std.specs.Prelude.{if◌then◌else◌, slice_get, min, max}
use Rattle.peb_base.specs.Keys.{Bytes}
use Rattle.peb_base.specs.declared.change.Change.{Change}
use Rattle.peb_base.specs.declared.entry.Entry.{Entry}
use Rattle.peb_base.specs.Entries.{comes_before, IsEntry, AscendFrom, first_from}
use Rattle.peb_base.specs.Tables.{least_number, greatest_number}
use Rattle.block_form.specs.Form.{entry_bytes, entries_bytes}
use Rattle.block_form.specs.Walks.{HoldsEntries, BeginsWithEntry}
use Rattle.block_form.proofs.Walks.{entries-one}

-- the bytes that are left are those of the entries from this place on
pub record ScanLeft (place : ℕ) (before : Bytes) (rest : List ℕ) (es : List Entry) : Type 0 where
  pub above : ℕ
  pub each : AscendFrom before above (drop place es)
  pub spelled : rest ≡ entries_bytes place before (drop place es)

pub scan_start : (count : ℕ) (entries : List ℕ) (es : List Entry) → HoldsEntries entries count es → ScanLeft 0 [] entries es
scan_start count entries es holds = record { above = 0; each = holds.each; spelled = holds.spelled }

-- the entry at a place, with those behind it
pub record At (place : ℕ) (es : List Entry) : Type 0 where
  pub entry : Entry
  pub got : slice_get es place ≡ Some entry
  pub split : drop place es ≡ entry ∷ drop (place + 1) es

pub at : (place : ℕ) (es : List Entry) → place < length es → At place es
at place [] lt = absurd (omega (arith, lt))
at zero (e ∷ es) lt = record { entry = e; got = refl; split = refl }
at (suc place) (e ∷ es) lt =
    let one : suc (place + 1) ≡ suc place + 1 = omega arith in
    let found = at place es (omega (arith, lt)) in record { entry = found.entry; got = found.got; split = found.split ∙ ap (λ n. found.entry ∷ drop n (e ∷ es)) one }

-- what a step over the front gives
abbrev pub Steps : Bytes → List ℕ → Bytes → ℕ → Change → List ℕ → Type 0
Steps before rest key number change behind =
    (place : ℕ) (e : Entry) (more : List ℕ) → IsEntry e → rest ≡ entry_bytes place before e ++ more → (key ≡ e.key) × (number ≡ e.number) × (change ≡ e.change) × (behind ≡ more)

-- the front is the entry at this place
pub record Front (place : ℕ) (before : Bytes) (rest : List ℕ) (es : List Entry) : Type 0 where
  pub here : At place es
  pub is : IsEntry here.entry
  pub more : List ℕ
  pub spelled : rest ≡ entry_bytes place before here.entry ++ more
  pub on : (key : Bytes) (behind : List ℕ) → key ≡ here.entry.key → behind ≡ more → ScanLeft (place + 1) key behind es

pub front : (place : ℕ) (before : Bytes) (rest : List ℕ) (es : List Entry) → place < length es → ScanLeft place before rest es → Front place before rest es
front place before rest es lt left =
    let here = at place es lt in
    let e = here.entry in
    let each : AscendFrom before left.above (e ∷ drop (place + 1) es) = subst (AscendFrom before left.above) here.split left.each in
    let one : suc place ≡ place + 1 = omega arith in
    let more = entries_bytes (place + 1) e.key (drop (place + 1) es) in
    record {
      here = here;
      is = each.0;
      more = more;
      spelled =
          left.spelled ∙ ap (entries_bytes place before) here.split ∙ entries-one place before e (drop (place + 1) es)
          ∙ ap (λ n. entry_bytes place before e ++ entries_bytes n e.key (drop (place + 1) es)) one;
      on = λ key behind is_key is_behind. record {
        above = e.number;
        each = subst (λ (k : Bytes). AscendFrom k e.number (drop (place + 1) es)) (sym is_key) each.2;
        spelled = is_behind ∙ ap (λ k. entries_bytes (place + 1) k (drop (place + 1) es)) (sym is_key);
      };
    }

pub begins : (place : ℕ) (before : Bytes) (rest : List ℕ) (es : List Entry) → Front place before rest es → BeginsWithEntry before rest
begins place before rest es f = record { place = place; entry = f.here.entry; more = f.more; is = f.is; spelled = f.spelled }

pub stepped : (place : ℕ) (before : Bytes) (rest : List ℕ) (es : List Entry) (key : Bytes) (number : ℕ) (change : Change) (behind : List ℕ) → (f : Front place before rest es) → Steps before rest key number change behind
    → (key ≡ f.here.entry.key) × (number ≡ f.here.entry.number) × (change ≡ f.here.entry.change) × (behind ≡ f.more)
stepped place before rest es key number change behind f steps = steps place f.here.entry f.more f.is f.spelled

-- looking for a key and number among the entries from this place on gives the same as among all
abbrev pub FoundFrom : Bytes → ℕ → ℕ → List Entry → Type 0
FoundFrom key number place es = place + first_from key number (drop place es) ≡ first_from key number es

pub found_on : (key : Bytes) (number place : ℕ) (es : List Entry) (here : At place es) → comes_before here.entry.key here.entry.number key number ≡ true → FoundFrom key number place es → FoundFrom key number (place + 1) es
found_on key number place es here later found =
    let deeper : first_from key number (drop place es) ≡ suc (first_from key number (drop (place + 1) es)) =
    ap (first_from key number) here.split ∙ ap (λ b. if b then suc (first_from key number (drop (place + 1) es)) else 0) later in
    omega (arith, found, deeper)

pub found_here : (key : Bytes) (number place : ℕ) (es : List Entry) (here : At place es) → comes_before here.entry.key here.entry.number key number ≡ false → FoundFrom key number place es → place ≡ first_from key number es
found_here key number place es here later found =
    let none : first_from key number (drop place es) ≡ 0 =
    ap (first_from key number) here.split ∙ ap (λ b. if b then suc (first_from key number (drop (place + 1) es)) else 0) later in
    omega (arith, found, none)

pub past : (place : ℕ) (es : List Entry) → length es ≤ place → drop place es ≡ []
past zero [] le = refl
past zero (e ∷ es) le = absurd (omega (arith, le))
past (suc place) [] le = refl
past (suc place) (e ∷ es) le = past place es (omega (arith, le))

pub found_past : (key : Bytes) (number place : ℕ) (es : List Entry) → length es ≤ place → FoundFrom key number place es → place ≡ first_from key number es
found_past key number place es le found = omega (arith, found, ap (first_from key number) (past place es le))

-- the least of a number and of those of entries
abbrev pub least_with : ℕ → List Entry → ℕ
least_with n [] = n
least_with n (e ∷ es) = least_with (min n e.number) es

-- the greatest of a number and of those of entries
abbrev pub greatest_with : ℕ → List Entry → ℕ
greatest_with n [] = n
greatest_with n (e ∷ es) = greatest_with (max n e.number) es

least_joined : (a b : ℕ) (es : List Entry) → least_with (min a b) es ≡ min a (least_with b es)
least_joined a b [] = refl
least_joined a b (e ∷ es) =
    let same : min (min a b) e.number ≡ min a (min b e.number) = omega arith in
    ap (λ n. least_with n es) same ∙ least_joined a (min b e.number) es

pub least_whole : (e : Entry) (es : List Entry) → least_with e.number es ≡ least_number (e ∷ es)
least_whole e [] = refl
least_whole e (f ∷ es) = least_joined e.number f.number es ∙ ap (min e.number) (least_whole f es)

greatest_joined : (a b : ℕ) (es : List Entry) → greatest_with (max a b) es ≡ max a (greatest_with b es)
greatest_joined a b [] = refl
greatest_joined a b (e ∷ es) =
    let same : max (max a b) e.number ≡ max a (max b e.number) = omega arith in
    ap (λ n. greatest_with n es) same ∙ greatest_joined a (max b e.number) es

pub greatest_whole : (n : ℕ) (es : List Entry) → greatest_with n es ≡ max n (greatest_number es)
greatest_whole n [] = omega arith
greatest_whole n (e ∷ es) = greatest_joined n e.number es ∙ ap (max n) (greatest_whole e.number es)

pub least_fits : (before : Bytes) (above : ℕ) (es : List Entry) → AscendFrom before above es → least_number es < 2 ^ 63
least_fits before above [] each = lit< tt
least_fits before above (e ∷ []) each = each.0.number
least_fits before above (e ∷ f ∷ es) each = omega (arith, each.0.number)

pub greatest_fits : (before : Bytes) (above : ℕ) (es : List Entry) → AscendFrom before above es → greatest_number es < 2 ^ 63
greatest_fits before above [] each = lit< tt
greatest_fits before above (e ∷ es) each = omega (arith, each.0.number, greatest_fits e.key e.number es each.2)
