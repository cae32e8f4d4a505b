-- A walk over the entries of a block.
use Rattle.std.proofs.Common.{◌≡◌, ◌≢◌, ℕ, zero, suc, ◌+◌, ◌-◌, ◌*◌, ◌<◌, ◌≤◌, ◌^◌, Bool, true, false, List, [], ◌∷◌, ◌++◌, length, take, drop, get_or, refl, sym, ap, ◌∙◌, subst, arith, append_assoc, length-append, take-append-drop}
use Rattle.std.specs.Prelude.{if◌then◌else◌}
use Rattle.std.proofs.lemmas.List.{append-nil, append_cancel_left, take_at, drop_at}
use Rattle.byteorder.specs.Endian.{big_bytes, big_number}
use Rattle.byteorder.specs.Numbers.{big_number-reads_back, length-bytes_high_first}
use Rattle.peb_base.specs.Keys.{Bytes}
use Rattle.peb_base.specs.Entries.{comes_before, IsEntry, AscendFrom}
use Rattle.peb_base.specs.declared.entry.Entry.{Entry}
use Rattle.block_form.specs.Parts.{Parts, parts_bytes, parts_from, behind_from, FitsParts}
use Rattle.block_form.specs.Form.{is_restart, places_bytes, parts_at, entry_bytes, entries_bytes, restarts, block_bytes, block_restarts, IsBlock}
use Rattle.block_form.specs.Walks.{places_at, entry_from, IsNext, Spells, entries_from, entries_in, BlockParts, HoldsEntries}
use Rattle.block_form.proofs.Spelling.{length-parts, parts_again, behind_again}
use Rattle.block_form.proofs.Prefixes.{one_front, parts_fit, parts_once, entry_again}

places_one : (b : Bool) (at : ℕ) (more : List ℕ) → places_bytes ((if b then at ∷ [] else []) ++ more) ≡ (if b then big_bytes 4 at else []) ++ places_bytes more
places_one true at more = refl
places_one false at more = refl

pub entries-one : (place : ℕ) (before : Bytes) (e : Entry) (es : List Entry) → entries_bytes place before (e ∷ es) ≡ entry_bytes place before e ++ entries_bytes (suc place) e.key es
unfolding entries_bytes
entries-one place before e es = refl

pub restarts-one : (place at : ℕ) (before : Bytes) (e : Entry) (es : List Entry)
    → places_bytes (restarts place at before (e ∷ es)) ≡ places_at place at ++ places_bytes (restarts (suc place) (at + length (entry_bytes place before e)) e.key es)
unfolding restarts
restarts-one place at before e es = places_one (is_restart place) at (restarts (suc place) (at + length (entry_bytes place before e)) e.key es)

pub entries-none : (place : ℕ) (before : Bytes) → entries_bytes place before [] ≡ []
unfolding entries_bytes
entries-none place before = refl

pub restarts-none : (place at : ℕ) (before : Bytes) → places_bytes (restarts place at before []) ≡ []
unfolding restarts
restarts-none place at before = refl

pub length-entry : (place : ℕ) (before : Bytes) (e : Entry) → 17 ≤ length (entry_bytes place before e)
unfolding entry_bytes
length-entry place before e = omega (arith, length-parts (parts_at place before e))

-- what a step of the walk knows
pub record Step (place at : ℕ) (before : Bytes) (above : ℕ) (bytes places : List ℕ) (p : Parts) (behind left : List ℕ) : Type 0 where
  pub next : IsNext place before above bytes p behind
  pub placed : places ≡ places_at place at ++ left

pub at_of : (place at : ℕ) (before : Bytes) (above : ℕ) (bytes : List ℕ) (p : Parts) (behind : List ℕ) → IsNext place before above bytes p behind
    → at + (length bytes - length behind) ≡ at + length (entry_bytes place before (entry_from before p))
at_of place at before above bytes p behind next =
    let whole : length bytes ≡ length (entry_bytes place before (entry_from before p)) + length behind = ap length next.spelled ∙ length-append (entry_bytes place before (entry_from before p)) behind in
    omega (arith, whole)

-- one entry more in front
pub step_up : (place at on : ℕ) (before : Bytes) (above : ℕ) (bytes places : List ℕ) (p : Parts) (behind left : List ℕ) (es : List Entry)
    → IsNext place before above bytes p behind → places ≡ places_at place at ++ left → on ≡ at + length (entry_bytes place before (entry_from before p))
    → Spells (suc place) on (take p.shared before ++ p.rest) p.number es behind left → Spells place at before above (entry_from before p ∷ es) bytes places
step_up place at on before above bytes places p behind left es next placed moved spells =
    let e = entry_from before p in
    let spelled : Spells (suc place) (at + length (entry_bytes place before e)) e.key p.number es behind left = subst (λ (n : ℕ). Spells (suc place) n e.key p.number es behind left) moved spells in
    record {
      each = (next.meets.entry, next.meets.after, spelled.each);
      spelled = next.spelled ∙ ap (λ l. entry_bytes place before e ++ l) spelled.spelled ∙ sym (entries-one place before e es);
      placed = placed ∙ ap (λ l. places_at place at ++ l) spelled.placed ∙ sym (restarts-one place at before e es);
    }

pub step_none : (place at : ℕ) (before : Bytes) (above : ℕ) (bytes places : List ℕ) (es : List Entry) → 0 < length bytes
    → ((e : Entry) (behind : List ℕ) → IsEntry e → comes_before before above e.key e.number ≡ true → bytes ≢ entry_bytes place before e ++ behind)
    → Spells place at before above es bytes places → ⊥
step_none place at before above bytes places [] some none spells = omega (arith, ap length (spells.spelled ∙ entries-none place before))
step_none place at before above bytes places (e ∷ more) some none spells =
    none e (entries_bytes (suc place) e.key more) spells.each.0 spells.each.1 (spells.spelled ∙ entries-one place before e more)

pub place_none : (place at : ℕ) (before : Bytes) (above : ℕ) (bytes places : List ℕ) (es : List Entry) → 0 < length bytes → ((left : List ℕ) → places ≢ places_at place at ++ left)
    → Spells place at before above es bytes places → ⊥
place_none place at before above bytes places [] some none spells = omega (arith, ap length (spells.spelled ∙ entries-none place before))
place_none place at before above bytes places (e ∷ more) some none spells =
    none (places_bytes (restarts (suc place) (at + length (entry_bytes place before e)) e.key more)) (spells.placed ∙ restarts-one place at before e more)

front : (place : ℕ) (before : Bytes) (bytes : List ℕ) (p : Parts) (behind : List ℕ) (e : Entry) (more : List Entry) {above : ℕ} → IsNext place before above bytes p behind → IsEntry e
    → bytes ≡ entry_bytes place before e ++ entries_bytes (suc place) e.key more → (parts_at place before e ≡ p) × (entries_bytes (suc place) e.key more ≡ behind)
unfolding entry_bytes
front place before bytes p behind e more next is here =
    one_front place before bytes (entries_bytes (suc place) e.key more) behind e p
    (subst FitsParts (parts_once place before p next.meets.kept next.meets.longest) (parts_fit place before (entry_from before p) next.meets.entry))
    (next.spelled ∙ ap (λ (q : Parts). parts_bytes q ++ behind) (parts_once place before p next.meets.kept next.meets.longest)) is here

-- one entry less
pub step_down : (place at on : ℕ) (before : Bytes) (above : ℕ) (bytes places : List ℕ) (p : Parts) (behind left : List ℕ) (es : List Entry) → 0 < length bytes
    → IsNext place before above bytes p behind → places ≡ places_at place at ++ left → on ≡ at + length (entry_bytes place before (entry_from before p))
    → Spells place at before above es bytes places → (more : List Entry) × (es ≡ entry_from before p ∷ more) × Spells (suc place) on (take p.shared before ++ p.rest) p.number more behind left
step_down place at on before above bytes places p behind left [] some next placed moved spells =
    absurd (omega (arith, ap length (spells.spelled ∙ entries-none place before)))
step_down place at on before above bytes places p behind left (e ∷ more) some next placed moved spells = (more, ap (λ (f : Entry). f ∷ more) same, down)
  where
    mine : Entry
    mine = entry_from before p

    here : bytes ≡ entry_bytes place before e ++ entries_bytes (suc place) e.key more
    here = spells.spelled ∙ entries-one place before e more

    one : (parts_at place before e ≡ p) × (entries_bytes (suc place) e.key more ≡ behind)
    one = front place before bytes p behind e more next spells.each.0 here

    same : e ≡ mine
    same = sym (entry_again place before e) ∙ ap (entry_from before) one.0

    later : left ≡ places_bytes (restarts (suc place) (at + length (entry_bytes place before e)) e.key more)
    later =
        append_cancel_left (places_at place at) left (places_bytes (restarts (suc place) (at + length (entry_bytes place before e)) e.key more))
        (sym placed ∙ spells.placed ∙ restarts-one place at before e more)

    own : Spells (suc place) (at + length (entry_bytes place before e)) e.key e.number more behind left
    own = record { each = spells.each.2; spelled = sym one.1; placed = later }

    carried : Spells (suc place) (at + length (entry_bytes place before mine)) mine.key mine.number more behind left
    carried = subst (λ (f : Entry). Spells (suc place) (at + length (entry_bytes place before f)) f.key f.number more behind left) same own

    down : Spells (suc place) on (take p.shared before ++ p.rest) p.number more behind left
    down = subst (λ (n : ℕ). Spells (suc place) n (take p.shared before ++ p.rest) p.number more behind left) (sym moved) carried

-- the walk so far: what is left makes a whole, and a whole leaves something
pub record Walk (front : List Entry) (place at : ℕ) (before : Bytes) (above : ℕ) (rest left entries places : List ℕ) : Type 0 where
  pub long : length front ≡ place
  pub up : (es : List Entry) → Spells place at before above es rest left → Spells 0 1 [] 0 (front ++ es) entries places
  pub down : (all : List Entry) → Spells 0 1 [] 0 all entries places → (es : List Entry) × Spells place at before above es rest left
  pub size : length rest + at ≡ length entries + 1
  pub count : place ≤ at

pub walk_start : (entries places : List ℕ) → Walk [] 0 1 [] 0 entries places entries places
walk_start entries places =
    record { long = refl; up = λ es spells. spells; down = λ all spells. (all, spells); size = refl; count = omega arith }

pub walk_on : (front : List Entry) (place at on : ℕ) (before key : Bytes) (above : ℕ) (rest left entries places : List ℕ) (p : Parts) (behind later : List ℕ)
    → Walk front place at before above rest left entries places → 0 < length rest → IsNext place before above rest p behind → left ≡ places_at place at ++ later
    → on ≡ at + (length rest - length behind) → key ≡ take p.shared before ++ p.rest
    → Walk (front ++ entry_from before p ∷ []) (place + 1) on key p.number behind later entries places
walk_on front place at on before key above rest left entries places p behind later walk some next placed moved is =
    subst (λ (k : Bytes). Walk (front ++ entry_from before p ∷ []) (place + 1) on k p.number behind later entries places) (sym is)
    (subst (λ (n : ℕ). Walk (front ++ entry_from before p ∷ []) n on (take p.shared before ++ p.rest) p.number behind later entries places) counted
    (record {
      long = omega (arith, length-append front (entry_from before p ∷ []), walk.long);
      up = λ es spells.
          subst (λ l. Spells 0 1 [] 0 l entries places) (sym (append_assoc front (entry_from before p ∷ []) es))
          (walk.up (entry_from before p ∷ es) (step_up place at on before above rest left p behind later es next placed step spells));
      down = λ all spells.
          let es = walk.down all spells in
          let more = step_down place at on before above rest left p behind later es.0 some next placed step es.1 in
          (more.0, more.2);
      size = omega (arith, whole, walk.size, moved);
      count = omega (arith, whole, walk.count, moved, length-entry place before (entry_from before p));
    }))
  where
    counted : suc place ≡ place + 1
    counted = omega arith

    whole : length rest ≡ length (entry_bytes place before (entry_from before p)) + length behind
    whole = ap length next.spelled ∙ length-append (entry_bytes place before (entry_from before p)) behind

    step : on ≡ at + length (entry_bytes place before (entry_from before p))
    step = moved ∙ at_of place at before above rest p behind next

pub walk_end : (front : List Entry) (place at : ℕ) (before : Bytes) (above : ℕ) (rest left entries places : List ℕ) → Walk front place at before above rest left entries places → length rest ≡ 0 → length left ≡ 0
    → Spells 0 1 [] 0 front entries places
walk_end front place at before above [] [] entries places walk a b =
    subst (λ l. Spells 0 1 [] 0 l entries places) (append-nil front)
    (walk.up [] (record { each = tt; spelled = sym (entries-none place before); placed = sym (restarts-none place at before) }))
walk_end front place at before above (x ∷ rest) left entries places walk a b = absurd (omega (arith, a))
walk_end front place at before above [] (y ∷ left) entries places walk a b = absurd (omega (arith, b))

no_entries : (place at : ℕ) (before : Bytes) (above : ℕ) (rest left : List ℕ) (es : List Entry) → Spells place at before above es rest left → length rest ≡ 0 → length left ≡ 0
no_entries place at before above rest left [] spells empty = ap length (spells.placed ∙ restarts-none place at before)
no_entries place at before above rest left (e ∷ es) spells empty =
    absurd (omega (arith, empty, ap length (spells.spelled ∙ entries-one place before e es), length-append (entry_bytes place before e) (entries_bytes (suc place) e.key es), length-entry place before e))

pub walk_stuck : (front : List Entry) (place at : ℕ) (before : Bytes) (above : ℕ) (rest left entries places : List ℕ) → Walk front place at before above rest left entries places → length rest ≡ 0 → 0 < length left
    → (all : List Entry) → Spells 0 1 [] 0 all entries places → ⊥
walk_stuck front place at before above rest left entries places walk empty some all spells =
    let es = walk.down all spells in
    omega (arith, no_entries place at before above rest left es.0 es.1 empty, some)

read_entry : (place : ℕ) (before : Bytes) (e : Entry) (more : List ℕ) → IsEntry e → entry_from before (parts_from (entry_bytes place before e ++ more)) ≡ e
unfolding entry_bytes
read_entry place before e more is = ap (entry_from before) (parts_again (parts_at place before e) more (parts_fit place before e is)) ∙ entry_again place before e

read_behind : (place : ℕ) (before : Bytes) (e : Entry) (more : List ℕ) → IsEntry e → behind_from (entry_bytes place before e ++ more) ≡ more
unfolding entry_bytes
read_behind place before e more is = behind_again (parts_at place before e) more (parts_fit place before e is)

from_step : (n : ℕ) (before : Bytes) (bytes : List ℕ) → 0 < length bytes
    → entries_from (suc n) before bytes ≡ entry_from before (parts_from bytes) ∷ entries_from n (entry_from before (parts_from bytes)).key (behind_from bytes)
unfolding entries_from
from_step n before [] some = absurd (omega arith)
from_step n before (b ∷ bytes) some = refl

-- an entry is read back, whatever follows
read_on : (n place : ℕ) (before : Bytes) (e : Entry) (more : List ℕ) → IsEntry e → entries_from (suc n) before (entry_bytes place before e ++ more) ≡ e ∷ entries_from n e.key more
read_on n place before e more is =
    from_step n before (entry_bytes place before e ++ more) (omega (arith, length-append (entry_bytes place before e) more, length-entry place before e))
    ∙ (λ i. read_entry place before e more is i ∷ entries_from n (read_entry place before e more is i).key (read_behind place before e more is i))

-- entries are read back, also where more are asked for
pub entries_again : (n place : ℕ) (before : Bytes) (above : ℕ) (es : List Entry) → length es ≤ n → AscendFrom before above es → entries_from n before (entries_bytes place before es) ≡ es
unfolding entries_bytes entries_from
entries_again zero place before above [] enough are = refl
entries_again (suc n) place before above [] enough are = refl
entries_again zero place before above (e ∷ es) enough are = absurd (omega (arith, enough))
entries_again (suc n) place before above (e ∷ es) enough are =
    read_on n place before e (entries_bytes (suc place) e.key es) are.0 ∙ ap (λ l. e ∷ l) (entries_again n (suc place) e.key e.number es (omega (arith, enough)) are.2)

-- so many entries are read back, whatever follows
pub entries_followed : (place : ℕ) (before : Bytes) (above : ℕ) (es : List Entry) (more : List ℕ) → AscendFrom before above es → entries_from (length es) before (entries_bytes place before es ++ more) ≡ es
unfolding entries_bytes entries_from
entries_followed place before above [] more are = refl
entries_followed place before above (e ∷ es) more are =
    ap (entries_from (suc (length es)) before) (append_assoc (entry_bytes place before e) (entries_bytes (suc place) e.key es) more)
    ∙ read_on (length es) place before e (entries_bytes (suc place) e.key es ++ more) are.0 ∙ ap (λ l. e ∷ l) (entries_followed (suc place) e.key e.number es more are.2)

-- bytes are those of one list of entries at most
pub one_entries : (place : ℕ) (before : Bytes) (above : ℕ) (a b : List Entry) → AscendFrom before above a → AscendFrom before above b → entries_bytes place before a ≡ entries_bytes place before b → a ≡ b
one_entries place before above a b are_a are_b same =
    sym (entries_again (length a + length b) place before above a (omega arith) are_a) ∙ ap (entries_from (length a + length b) before) same
    ∙ entries_again (length a + length b) place before above b (omega arith) are_b

-- two lists with ends of one length
ends : (xs a ys b : List ℕ) → length a ≡ length b → xs ++ a ≡ ys ++ b → (xs ≡ ys) × (a ≡ b)
ends xs a ys b long same =
    let fronts : length xs ≡ length ys = omega (arith, long, ap length same, length-append xs a, length-append ys b) in (
      sym (take_at xs a (length xs) refl) ∙ ap (take (length xs)) same ∙ take_at ys b (length xs) (sym fronts),
      sym (drop_at xs a (length xs) refl) ∙ ap (drop (length xs)) same ∙ drop_at ys b (length xs) (sym fronts),
    )

pub length-places : (ps : List ℕ) → length (places_bytes ps) ≡ 4 * length ps
length-places [] = refl
length-places (p ∷ ps) = length-append (big_bytes 4 p) (places_bytes ps) ∙ omega (arith, length-places ps)

-- the parts of a block are those of its bytes
pub block_parts : (es : List Entry) (front tail : List ℕ) (n : ℕ) → IsBlock es (0 ∷ (front ++ tail)) → length tail ≡ 4 → n ≡ big_number 4 tail
    → (n ≡ length (block_restarts es)) × (front ≡ entries_bytes 0 [] es ++ places_bytes (block_restarts es))
unfolding block_bytes
block_parts es front tail n is four read =
    let r = length (block_restarts es) in
    let e = entries_bytes 0 [] es in
    let p = places_bytes (block_restarts es) in
    let same : front ++ tail ≡ (e ++ p) ++ big_bytes 4 r = ap (drop 1) is.spelled ∙ sym (append_assoc e p (big_bytes 4 r)) in
    let both = ends front tail (e ++ p) (big_bytes 4 r) (omega (arith, four, length-bytes_high_first 4 r)) same in
    let fits : r < 2 ^ 32 = omega (arith, is.small, ap length same, length-append (e ++ p) (big_bytes 4 r), length-append e p, length-places (block_restarts es)) in
    (read ∙ ap (big_number 4) (both.1 ∙ sym (append-nil (big_bytes 4 r))) ∙ big_number-reads_back 4 r [] (omega arith), both.0)

pub none_past : (es : List Entry) (front tail : List ℕ) (n : ℕ) → length front < 4 * n → length tail ≡ 4 → n ≡ big_number 4 tail → IsBlock es (0 ∷ (front ++ tail)) → ⊥
none_past es front tail n past four read is =
    let both = block_parts es front tail n is four read in
    omega (arith, ap length both.1, length-append (entries_bytes 0 [] es) (places_bytes (block_restarts es)), length-places (block_restarts es), both.0)

pub none_spelled : (es : List Entry) (entries places tail : List ℕ) (n : ℕ) → length places ≡ 4 * n → length tail ≡ 4 → n ≡ big_number 4 tail → IsBlock es (0 ∷ ((entries ++ places) ++ tail))
    → Spells 0 1 [] 0 es entries places
none_spelled es entries places tail n long four read is =
    let both = block_parts es (entries ++ places) tail n is four read in
    let parts = ends entries places (entries_bytes 0 [] es) (places_bytes (block_restarts es)) (omega (arith, long, length-places (block_restarts es), both.0)) both.1 in
    record { each = is.each; spelled = parts.0; placed = parts.1 }

pub block_found : (es : List Entry) (entries places tail : List ℕ) (n : ℕ) → length places ≡ 4 * n → tail ≡ big_bytes 4 n → 0 < length es → length (0 ∷ ((entries ++ places) ++ tail)) ≤ 40960
    → Spells 0 1 [] 0 es entries places → IsBlock es (0 ∷ ((entries ++ places) ++ tail))
unfolding block_bytes
block_found es entries places tail n long is some small spells =
    let count : n ≡ length (block_restarts es) = omega (arith, long, ap length spells.placed, length-places (block_restarts es)) in
    record {
      some = some;
      small = small;
      each = spells.each;
      spelled =
          (λ i. 0 ∷ ((spells.spelled i ++ spells.placed i) ++ (is ∙ ap (big_bytes 4) count) i))
          ∙ ap (λ l. 0 ∷ l) (append_assoc (entries_bytes 0 [] es) (places_bytes (block_restarts es)) (big_bytes 4 (length (block_restarts es))));
    }

pub block_long : (es : List Entry) (bytes : List ℕ) → IsBlock es bytes → 5 ≤ length bytes
unfolding block_bytes
block_long es bytes is =
    let r = block_restarts es in
    let e = entries_bytes 0 [] es in
    omega (arith, ap length is.spelled, length-append e (places_bytes r ++ big_bytes 4 (length r)), length-append (places_bytes r) (big_bytes 4 (length r)), length-bytes_high_first 4 (length r))

pub block_first : (es : List Entry) (bytes : List ℕ) → IsBlock es bytes → get_or bytes 0 0 ≡ 0
unfolding block_bytes
block_first es bytes is = ap (λ l. get_or l 0 0) is.spelled

pub apart : (bytes body front tail : List ℕ) (k : ℕ) → 5 ≤ length bytes → get_or bytes 0 0 ≡ 0 → body ≡ drop 1 bytes → front ≡ take k body → tail ≡ drop k body → bytes ≡ 0 ∷ (front ++ tail)
apart [] body front tail k long zero_ is a b = absurd (omega (arith, long))
apart (x ∷ bytes) body front tail k long zero_ is a b = λ i. zero_ i ∷ (sym is ∙ sym (take-append-drop k body) ∙ (λ j. sym a j ++ sym b j)) i

pub not_empty : (es : List Entry) (bytes : List ℕ) → length es ≡ 0 → IsBlock es bytes → ⊥
not_empty es bytes none is = omega (arith, none, is.some)

-- the entries of a block are what its bytes read as
pub entries_of_block : (es : List Entry) (bytes : List ℕ) → IsBlock es bytes → entries_in (length es) bytes ≡ es
unfolding block_bytes
entries_of_block es bytes is =
    ap (λ l. entries_from (length es) [] (drop 1 l)) is.spelled ∙ entries_followed 0 [] 0 es (places_bytes (block_restarts es) ++ big_bytes 4 (length (block_restarts es))) is.each

-- bytes are the block of one list of entries at most
pub one_block : (a b : List Entry) (bytes : List ℕ) → IsBlock a bytes → IsBlock b bytes → a ≡ b
unfolding block_bytes
one_block a b bytes is_a is_b =
    let front = λ (es : List Entry). entries_bytes 0 [] es ++ places_bytes (block_restarts es) in
    let tail = λ (es : List Entry). big_bytes 4 (length (block_restarts es)) in
    let apart : (es : List Entry) → block_bytes es ≡ 0 ∷ (front es ++ tail es) = λ es. ap (λ l. 0 ∷ l) (sym (append_assoc (entries_bytes 0 [] es) (places_bytes (block_restarts es)) (tail es))) in
    let read = λ (es : List Entry) (is : IsBlock es bytes). block_parts es (front a) (tail a) (big_number 4 (tail a)) (subst (IsBlock es) (is_a.spelled ∙ apart a) is) (length-bytes_high_first 4 (length (block_restarts a))) refl in
    let mine = read a is_a in
    let other = read b is_b in
    one_entries 0 [] 0 a b is_a.each is_b.each
    (ends (entries_bytes 0 [] a) (places_bytes (block_restarts a)) (entries_bytes 0 [] b) (places_bytes (block_restarts b)) (omega (arith, length-places (block_restarts a), length-places (block_restarts b), mine.0, other.0)) other.1).0

pub held : (es : List Entry) (entries places : List ℕ) (count : ℕ) → Spells 0 1 [] 0 es entries places → length es ≡ count → entries_from count [] entries ≡ es
held es entries places count spells counts =
    (λ i. entries_from (sym counts i) [] (spells.spelled i)) ∙ entries_again (length es) 0 [] 0 es (omega arith) spells.each

pub holds_entries : (es : List Entry) (entries places : List ℕ) (count : ℕ) → 0 < count → Spells 0 1 [] 0 es entries places
    → length es ≡ count → HoldsEntries entries count (entries_from count [] entries)
holds_entries es entries places count some spells counts =
    subst (λ (xs : List Entry). HoldsEntries entries count xs) (sym (held es entries places count spells counts))
    (record { some = omega (arith, some, counts); each = spells.each; spelled = spells.spelled; count_is = sym counts })

pub block_whole : (bytes entries places : List ℕ) (es : List Entry) (count : ℕ) → BlockParts bytes entries places → 0 < count → Spells 0 1 [] 0 es entries places → length es ≡ count
    → IsBlock (entries_from count [] entries) bytes
block_whole bytes entries places es count parts some spells counts =
    subst (λ (xs : List Entry). IsBlock xs bytes) (sym (held es entries places count spells counts))
    (subst (λ (l : List ℕ). IsBlock es l) (sym parts.whole)
    (block_found es entries places parts.tail parts.number parts.long parts.again (omega (arith, some, counts)) (subst (λ (l : List ℕ). length l ≤ 40960) parts.whole parts.small) spells))

pub block_spells : (bytes entries places : List ℕ) (es : List Entry) → BlockParts bytes entries places → IsBlock es bytes → Spells 0 1 [] 0 es entries places
block_spells bytes entries places es parts is =
    none_spelled es entries places parts.tail parts.number parts.long parts.four parts.read (subst (λ (l : List ℕ). IsBlock es l) parts.whole is)
