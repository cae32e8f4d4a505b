-- Where the restarts of a block stand, and what their places read as.
use Rattle.std.proofs.Common.{◌≡◌, ℕ, zero, suc, ◌+◌, ◌-◌, ◌*◌, ◌/◌, ◌%◌, ◌<◌, ◌≤◌, ◌⊎◌, inl, inr, Bool, true, false, List, [], ◌∷◌, ◌++◌, length, take, drop, refl, sym, ap, ◌∙◌, subst, arith, length-append, length-drop}
use Rattle.std.specs.Prelude.{if◌then◌else◌, ◌==◌, slice_get, Some}
use Rattle.std.proofs.lemmas.Bool.Decides.{nat_tests}
use Rattle.std.proofs.lemmas.List.{drop_at, drop-drop}
use Rattle.byteorder.specs.Endian.{big_bytes, big_number}
use Rattle.byteorder.specs.Numbers.{big_number-reads_back, length-bytes_high_first}
use Rattle.peb_base.specs.Keys.{Bytes}
use Rattle.peb_base.specs.declared.entry.Entry.{Entry}
use Rattle.block_form.specs.Form.{is_restart, parts_at, entry_bytes, entries_bytes, restarts, block_restarts, places_bytes}
use Rattle.block_form.specs.Spots.{offset_of}
use Rattle.block_form.specs.Walks.{Spells, BlockParts, HoldsEntries, entries_from}
use Rattle.block_form.proofs.Walks.{entries-one, entries-none, restarts-one, held}
use Rattle.block_form.proofs.Spots.{entry_is, inside}
use Rattle.block_form.proofs.Scans.{At, at, FoundFrom}
use Rattle.peb_base.specs.Entries.{comes_before, AscendFrom, AreSorted, first_from}
use Rattle.peb_base.specs.EntryLaws.{before_trans}
use Rattle.peb_base.specs.Tables.{shared_length, common_prefix}

-- a restart spells its key whole
pub restart_rest : (place : ℕ) (before : Bytes) (e : Entry) → is_restart place ≡ true → (parts_at place before e).rest ≡ e.key
restart_rest place before e restart = ap (λ n. drop n e.key) (none restart)
  where
    none : is_restart place ≡ true → shared_length place before e.key ≡ 0
    none is = ap (λ b. if b then 0 else common_prefix before e.key) is

-- how many restarts stand among so many entries from this place on
abbrev among_them : ℕ → ℕ → ℕ
among_them place k = (place + k + 15) / 16 - (place + 15) / 16

-- what stands at the place of a restart
pub restart_stands : (k place at : ℕ) (before : Bytes) (es : List Entry) → k < length es → (place + k) % 16 ≡ 0
    → (more : List ℕ) × (drop (4 * among_them place k) (places_bytes (restarts place at before es)) ≡ big_bytes 4 (at + length (entries_bytes place before (take k es))) ++ more)
restart_stands zero place at before [] lt is = absurd (omega (arith, lt))
restart_stands zero place at before (e ∷ es) lt is =
    let restart : is_restart place ≡ true = grind (arith, nat_tests, is) in
    let none : 4 * among_them place 0 ≡ 0 = omega arith in
    let here : at + length (entries_bytes place before []) ≡ at = omega (arith, ap length (entries-none place before)) in (
      places_bytes (restarts (suc place) (at + length (entry_bytes place before e)) e.key es),
      ap (λ n. drop n (places_bytes (restarts place at before (e ∷ es)))) none ∙ restarts-one place at before e es
          ∙ ap (λ (b : Bool). (if b then big_bytes 4 at else []) ++ places_bytes (restarts (suc place) (at + length (entry_bytes place before e)) e.key es)) restart
          ∙ ap (λ n. big_bytes 4 n ++ places_bytes (restarts (suc place) (at + length (entry_bytes place before e)) e.key es)) (sym here),
    )
restart_stands (suc k) place at before [] lt is = absurd (omega (arith, lt))
restart_stands (suc k) place at before (e ∷ es) lt is =
    let size = length (entry_bytes place before e) in
    let deep = restart_stands k (suc place) (at + size) e.key es (omega (arith, lt)) (omega (arith, is)) in
    let later = places_bytes (restarts (suc place) (at + size) e.key es) in
    let moved : at + size + length (entries_bytes (suc place) e.key (take k es)) ≡ at + length (entries_bytes place before (take (suc k) (e ∷ es))) =
    omega (arith, ap length (entries-one place before e (take k es)), length-append (entry_bytes place before e) (entries_bytes (suc place) e.key (take k es))) in (
      deep.0,
      ap (drop (4 * among_them place (suc k))) (restarts-one place at before e es) ∙ by (is_restart place) refl later ∙ deep.1 ∙ ap (λ n. big_bytes 4 n ++ deep.0) moved,
    )
  where
    by : (b : Bool) → (place % 16 == 0) ≡ b → (later : List ℕ) → drop (4 * among_them place (suc k)) ((if b then big_bytes 4 at else []) ++ later) ≡ drop (4 * among_them (suc place) k) later
    by true yes_ later =
        let whole : place % 16 ≡ 0 = grind (arith, nat_tests, yes_) in
        let more : 4 * among_them place (suc k) ≡ 4 + 4 * among_them (suc place) k = omega (arith, whole) in
        let four : length (big_bytes 4 at) ≡ 4 = length-bytes_high_first 4 at in
        ap (λ n. drop n (big_bytes 4 at ++ later)) more ∙ sym (drop-drop (4 * among_them (suc place) k) 4 (big_bytes 4 at ++ later)) ∙ ap (drop (4 * among_them (suc place) k)) (drop_at (big_bytes 4 at) later 4 (sym four))
    by false no_ later =
        let part : 0 < place % 16 = grind (arith, nat_tests, no_) in
        let same : 4 * among_them place (suc k) ≡ 4 * among_them (suc place) k = omega (arith, part) in
        ap (λ n. drop n later) same

-- the place of a restart reads as where its entry begins, counted from the block's first byte
pub restart_reads : (restart : ℕ) (es : List Entry) (places : List ℕ) → 16 * restart < length es → length (entries_bytes 0 [] es) ≤ 40960 → offset_of (16 * restart) es ≤ 40960 → places ≡ places_bytes (block_restarts es)
    → (big_number 4 (drop (4 * restart) places) ≡ 1 + offset_of (16 * restart) es) × (4 * restart + 4 ≤ length places)
restart_reads restart es places lt small within is =
    let stands = restart_stands (16 * restart) 0 1 [] es lt (omega arith) in
    let so_many : 4 * among_them 0 (16 * restart) ≡ 4 * restart = omega arith in
    let spelled : drop (4 * restart) places ≡ big_bytes 4 (1 + offset_of (16 * restart) es) ++ stands.0 =
    ap (drop (4 * restart)) is ∙ ap (λ n. drop n (places_bytes (block_restarts es))) (sym so_many) ∙ stands.1 in
    let long : length (drop (4 * restart) places) ≡ 4 + length stands.0 =
    ap length spelled ∙ length-append (big_bytes 4 (1 + offset_of (16 * restart) es)) stands.0 ∙ ap (λ n. n + length stands.0) (length-bytes_high_first 4 (1 + offset_of (16 * restart) es)) in (
      ap (big_number 4) spelled ∙ big_number-reads_back 4 (1 + offset_of (16 * restart) es) stands.0 (omega (arith, within)),
      past (4 * restart) places (length stands.0) long,
    )
  where
    past : (k : ℕ) (l : List ℕ) (n : ℕ) → length (drop k l) ≡ 4 + n → k + 4 ≤ length l
    past k l n h = omega (arith, h, length-drop k l)

-- the same by the place of the entry
pub record Reads (place : ℕ) (es : List Entry) (places : List ℕ) : Type 0 where
  pub long : place / 16 * 4 + 4 ≤ length places
  pub read : big_number 4 (drop (place / 16 * 4) places) ≡ 1 + offset_of place es

pub reads : (place count : ℕ) (es : List Entry) (entries places : List ℕ) → place % 16 ≡ 0 → place < length es → HoldsEntries entries count es → length entries ≤ 40960 → places ≡ places_bytes (block_restarts es)
    → Reads place es places
reads place count es entries places restart lt holds small is =
    let whole : 16 * (place / 16) ≡ place = omega (arith, restart) in
    let four : 4 * (place / 16) ≡ place / 16 * 4 = omega arith in
    let within : offset_of (16 * (place / 16)) es ≤ 40960 = omega (arith, inside (16 * (place / 16)) count entries es holds, small) in
    let r = restart_reads (place / 16) es places (omega (arith, lt, whole)) (omega (arith, small, ap length holds.spelled)) within is in
    record {
      long = omega (arith, r.1, four);
      read = ap (λ n. big_number 4 (drop n places)) (sym four) ∙ r.0 ∙ ap (λ n. 1 + offset_of n es) whole;
    }

-- the places of a block that was read are those of its entries
pub placed_by : (es : List Entry) (entries places : List ℕ) (count : ℕ) → Spells 0 1 [] 0 es entries places → length es ≡ count → places ≡ places_bytes (block_restarts (entries_from count [] entries))
placed_by es entries places count spells counts = spells.placed ∙ ap (λ l. places_bytes (block_restarts l)) (sym (held es entries places count spells counts))

pub parts_short : (bytes entries places : List ℕ) → BlockParts bytes entries places → length entries ≤ 40960
parts_short bytes entries places parts =
    omega (arith, parts.small, ap length parts.whole, length-append (entries ++ places) parts.tail, length-append entries places)

-- ---- looking from a restart on

-- where an entry comes before a key and number, all in front of it do
pub passed_front : (key : Bytes) (number : ℕ) (before : Bytes) (above : ℕ) (es : List Entry) (place : ℕ) (e : Entry) → AscendFrom before above es → slice_get es place ≡ Some e
    → comes_before e.key e.number key number ≡ true → FoundFrom key number place es
passed_front key number before above [] place e each there passed = cc
passed_front key number before above (x ∷ es) zero e each there passed = omega arith
passed_front key number before above (x ∷ es) (suc place) e each there passed =
    let deep = passed_front key number x.key x.number es place e each.2 there passed in
    let mine : comes_before x.key x.number key number ≡ true = before_trans x.key x.number e.key e.number key number (reaches x es place e each.2 there) passed in
    let here : first_from key number (x ∷ es) ≡ suc (first_from key number es) = ap (λ b. if b then suc (first_from key number es) else 0) mine in
    omega (arith, deep, here)
  where
    reaches : (x : Entry) (es : List Entry) (place : ℕ) (e : Entry) → AscendFrom x.key x.number es → slice_get es place ≡ Some e → comes_before x.key x.number e.key e.number ≡ true
    reaches x [] place e each there = cc
    reaches x (y ∷ es) zero e each there = subst (λ (z : Entry). comes_before x.key x.number z.key z.number ≡ true) (entry_is y e there) each.1
    reaches x (y ∷ es) (suc place) e each there = before_trans x.key x.number y.key y.number e.key e.number each.1 (reaches y es place e each.2 there)

pub found_start : (key : Bytes) (number place : ℕ) (es : List Entry) → place < length es → AreSorted es → ((e : Entry) → slice_get es place ≡ Some e → (place ≡ 0) ⊎ (comes_before e.key e.number key number ≡ true))
    → FoundFrom key number place es
found_start key number place es lt sorted passed = by (passed here.entry here.got)
  where
    here : At place es
    here = at place es lt

    by : (place ≡ 0) ⊎ (comes_before here.entry.key here.entry.number key number ≡ true) → FoundFrom key number place es
    by (inl none) = subst (λ n. FoundFrom key number n es) (sym none) (omega arith)
    by (inr before) = passed_front key number [] 0 es place here.entry sorted here.got before

-- what stands no later than the first entry at or behind a key and number has only entries before them in front
pub found_near : (key : Bytes) (number place : ℕ) (es : List Entry)
    → place ≤ first_from key number es → FoundFrom key number place es
found_near key number zero es le = omega arith
found_near key number (suc place) [] le = absurd (omega (arith, le))
found_near key number (suc place) (x ∷ es) le =
    by (comes_before x.key x.number key number) le (found_near key number place es)
  where
    by : (b : Bool) → suc place ≤ (if b then suc (first_from key number es) else 0)
        → (place ≤ first_from key number es
        → place + first_from key number (drop place es) ≡ first_from key number es)
        → suc place + first_from key number (drop place es)
        ≡ (if b then suc (first_from key number es) else 0)
    by true le deep = omega (arith, deep (omega (arith, le)))
    by false le deep = absurd (omega (arith, le))

-- the first entry that doesn't come before a key and number stands no later than one that doesn't, or than behind the last
pub no_later : (key : Bytes) (number : ℕ) (es : List Entry) (n : ℕ)
    → ((e : Entry) → slice_get es n ≡ Some e → comes_before e.key e.number key number ≡ false) → first_from key number es ≤ n
no_later key number [] n ahead = omega arith
no_later key number (x ∷ es) zero ahead =
    let test = ahead x refl in
    let none : first_from key number (x ∷ es) ≡ 0 = ap (λ b. if b then suc (first_from key number es) else 0) test in
    omega (arith, none)
no_later key number (x ∷ es) (suc n) ahead =
    by (comes_before x.key x.number key number) (no_later key number es n ahead)
  where
    by : (b : Bool) → first_from key number es ≤ n → (if b then suc (first_from key number es) else 0) ≤ suc n
    by true le = omega (arith, le)
    by false le = omega arith

-- an entry that stands at a place stands among them
pub got_inside : (es : List Entry) (n : ℕ) (e : Entry) → slice_get es n ≡ Some e → n < length es
got_inside [] n e there = cc
got_inside (x ∷ es) zero e there = omega arith
got_inside (x ∷ es) (suc n) e there = omega (arith, got_inside es n e there)
