-- One entry more at the end of a block that is built, and its end.
use Rattle.std.proofs.Common.{◌≡◌, ℕ, suc, ◌+◌, ◌*◌, ◌/◌, ◌<◌, ◌≤◌, Bool, true, false, List, [], ◌∷◌, ◌++◌, length, drop, refl, sym, ap, ◌∙◌, subst, arith, append_assoc, length-append}
use Rattle.std.specs.Prelude.{if◌then◌else◌}
use Rattle.std.proofs.lemmas.List.{append-nil}
use Rattle.byteorder.specs.Endian.{big_bytes}
use Rattle.byteorder.specs.Numbers.{length-bytes_high_first}
use Rattle.peb_base.specs.Keys.{Bytes}
use Rattle.peb_base.specs.declared.entry.Entry.{Entry}
use Rattle.block_form.specs.Building.{IsBuilding, key_after}
use Rattle.block_form.specs.Form.{is_restart, places_bytes, block_restarts, block_bytes, entry_bytes, entries_bytes, restarts, IsBlock}
use Rattle.peb_base.specs.Entries.{IsEntry, AscendFrom, AreSorted}
use Rattle.block_form.specs.Walks.{places_at, entries_from}
use Rattle.block_form.proofs.Prefixes.{entry-small}
use Rattle.block_form.proofs.Walks.{entries-one, entries-none, entries_again, length-entry, length-places}

-- the last of sorted entries is an entry
pub last_is : (before : Bytes) (above : ℕ) (es : List Entry) (e : Entry) → AscendFrom before above (es ++ e ∷ []) → IsEntry e
last_is before above [] e each = each.0
last_is before above (f ∷ es) e each = last_is f.key f.number es e each.2

entries-push : (place : ℕ) (before : Bytes) (es : List Entry) (e : Entry)
    → entries_bytes place before (es ++ e ∷ []) ≡ entries_bytes place before es ++ entry_bytes (place + length es) (key_after before es) e
entries-push place before [] e =
    let here : place ≡ place + 0 = omega arith in
    entries-one place before e [] ∙ ap (λ l. entry_bytes place before e ++ l) (entries-none (suc place) e.key) ∙ append-nil (entry_bytes place before e)
    ∙ ap (λ n. entry_bytes n before e) here ∙ ap (λ l. l ++ entry_bytes (place + 0) before e) (sym (entries-none place before))
entries-push place before (f ∷ es) e =
    let moved : suc place + length es ≡ place + suc (length es) = omega arith in
    entries-one place before f (es ++ e ∷ [])
    ∙ ap (λ l. entry_bytes place before f ++ l) (entries-push (suc place) f.key es e)
    ∙ sym (append_assoc (entry_bytes place before f) (entries_bytes (suc place) f.key es) (entry_bytes (suc place + length es) (key_after f.key es) e))
    ∙ (λ i. sym (entries-one place before f es) i ++ entry_bytes (moved i) (key_after f.key es) e)

restarts-push : (place at : ℕ) (before : Bytes) (es : List Entry) (e : Entry)
    → restarts place at before (es ++ e ∷ [])
    ≡ restarts place at before es ++ (if is_restart (place + length es) then (at + length (entries_bytes place before es)) ∷ [] else [])
unfolding restarts
restarts-push place at before [] e =
    let here : place ≡ place + 0 = omega arith in
    let there : at ≡ at + length (entries_bytes place before []) = omega (arith, ap length (entries-none place before)) in
    append-nil (if is_restart place then at ∷ [] else []) ∙ (λ i. if is_restart (here i) then there i ∷ [] else [])
restarts-push place at before (f ∷ es) e =
    let moved : suc place + length es ≡ place + suc (length es) = omega arith in
    let there : at + length (entry_bytes place before f) + length (entries_bytes (suc place) f.key es) ≡ at + length (entries_bytes place before (f ∷ es)) =
    omega (arith, ap length (entries-one place before f es), length-append (entry_bytes place before f) (entries_bytes (suc place) f.key es)) in
    let first = if is_restart place then at ∷ [] else [] in
    ap (λ l. first ++ l) (restarts-push (suc place) (at + length (entry_bytes place before f)) f.key es e)
    ∙ sym (append_assoc first (restarts (suc place) (at + length (entry_bytes place before f)) f.key es) (if is_restart (suc place + length es) then (at + length (entry_bytes place before f) + length (entries_bytes (suc place) f.key es)) ∷ [] else []))
    ∙ (λ i. (first ++ restarts (suc place) (at + length (entry_bytes place before f)) f.key es) ++ (if is_restart (moved i) then there i ∷ [] else []))

places-two : (ps qs : List ℕ) → places_bytes (ps ++ qs) ≡ places_bytes ps ++ places_bytes qs
places-two [] qs = refl
places-two (p ∷ ps) qs = ap (λ l. big_bytes 4 p ++ l) (places-two ps qs) ∙ sym (append_assoc (big_bytes 4 p) (places_bytes ps) (places_bytes qs))

places-last : (b : Bool) (at : ℕ) → places_bytes (if b then at ∷ [] else []) ≡ (if b then big_bytes 4 at else [])
places-last true at = refl
places-last false at = refl

key_after-push : (before : Bytes) (es : List Entry) (e : Entry) → key_after before (es ++ e ∷ []) ≡ e.key
key_after-push before [] e = refl
key_after-push before (f ∷ es) e = key_after-push f.key es e

-- the entries that the bytes read as are those that were pushed
pub built_entries : (full : ℕ) (out places : List ℕ) (count : ℕ) (key : Bytes) (es : List Entry) → IsBuilding full out places count key es → entries_from count [] (drop 1 out) ≡ es
built_entries full out places count key es is =
    (λ i. entries_from count [] (drop 1 (is.text i))) ∙ entries_again count 0 [] 0 es (omega (arith, is.counted)) is.each

pub built_own : (full : ℕ) (out places : List ℕ) (count : ℕ) (key : Bytes) (es : List Entry) → IsBuilding full out places count key es → IsBuilding full out places count key (entries_from count [] (drop 1 out))
built_own full out places count key es is = subst (IsBuilding full out places count key) (sym (built_entries full out places count key es is)) is

pub built_none : (full : ℕ) (out places : List ℕ) (key : Bytes) → full ≤ 4096 → out ≡ 0 ∷ [] → places ≡ [] → key ≡ [] → IsBuilding full out places 0 key []
unfolding restarts
built_none full out places key small text placed key_is =
    record {
      small = small;
      room = omega (arith, ap length text, ap length placed);
      each = tt;
      text = text ∙ ap (λ l. 0 ∷ l) (sym (entries-none 0 []));
      placed = placed;
      counted = refl;
      key_is = key_is;
    }

pub length-built : (full : ℕ) (out places : List ℕ) (count : ℕ) (key : Bytes) (es : List Entry) → IsBuilding full out places count key es → length (block_bytes es) ≡ length out + length places + 4
unfolding block_bytes
length-built full out places count key es is =
    let r = block_restarts es in
    let e = entries_bytes 0 [] es in
    omega (arith, ap length is.text, ap length is.placed, length-append e (places_bytes r ++ big_bytes 4 (length r)), length-append (places_bytes r) (big_bytes 4 (length r)), length-bytes_high_first 4 (length r))

pub built_push : (full : ℕ) (out places key out2 places2 key2 : List ℕ) (count at : ℕ) (e : Entry) (es : List Entry) → IsBuilding full out places count key es → AreSorted (es ++ e ∷ []) → length (block_bytes es) < full
    → at ≡ length out → places2 ≡ places ++ places_at count at → out2 ≡ out ++ entry_bytes count key e → key2 ≡ e.key
    → IsBuilding full out2 places2 (count + 1) key2 (es ++ e ∷ [])
built_push full out places key out2 places2 key2 count at e es holds sorted open_ there more_places more_out more_key =
    let long : at ≡ 1 + length (entries_bytes 0 [] es) = omega (arith, there, ap length holds.text) in
    let zero_plus : count ≡ 0 + length es = omega (arith, holds.counted) in
    record {
      small = holds.small;
      room =
          omega (
            arith,
            holds.small,
            open_,
            length-built full out places count key es holds,
            ap length more_out,
            length-append out (entry_bytes count key e),
            entry-small count key e (last_is [] 0 es e sorted),
            ap length more_places,
            length-append places (places_at count at),
            few (is_restart count),
          );
      each = sorted;
      text =
          more_out ∙ (λ i. holds.text i ++ entry_bytes (zero_plus i) (holds.key_is i) e)
          ∙ ap (λ l. 0 ∷ l) (sym (entries-push 0 [] es e));
      placed =
          more_places ∙ (λ i. holds.placed i ++ places_at (zero_plus i) (long i))
          ∙ ap (λ l. places_bytes (block_restarts es) ++ l) (sym (places-last (is_restart (0 + length es)) (1 + length (entries_bytes 0 [] es))))
          ∙ sym (places-two (block_restarts es) (if is_restart (0 + length es) then (1 + length (entries_bytes 0 [] es)) ∷ [] else []))
          ∙ ap places_bytes (sym (restarts-push 0 1 [] es e));
      counted = omega (arith, holds.counted, length-append es (e ∷ []));
      key_is = more_key ∙ sym (key_after-push [] es e);
    }
  where
    few : (b : Bool) → length (if b then big_bytes 4 at else []) ≤ 4
    few true = omega arith
    few false = omega arith

many : (place : ℕ) (before : Bytes) (es : List Entry) → length es ≤ length (entries_bytes place before es)
many place before [] = omega arith
many place before (e ∷ es) =
    omega (arith, many (suc place) e.key es, ap length (entries-one place before e es), length-append (entry_bytes place before e) (entries_bytes (suc place) e.key es), length-entry place before e)

-- a block that is built has few entries
pub built_few : (full : ℕ) (out places : List ℕ) (count : ℕ) (key : Bytes) (es : List Entry) → IsBuilding full out places count key es → count ≤ 40960
built_few full out places count key es is = omega (arith, is.counted, many 0 [] es, ap length is.text, is.room)

-- the bytes, the places and their number are the block
pub built_block : (full : ℕ) (out places : List ℕ) (count : ℕ) (key : Bytes) (es : List Entry) (n : ℕ) (bytes : List ℕ) → IsBuilding full out places count key es → 0 < length es → n ≡ length places / 4
    → bytes ≡ (out ++ places) ++ big_bytes 4 n → IsBlock es bytes
unfolding block_bytes
built_block full out places count key es n bytes is some number spelled =
    let r = block_restarts es in
    let e = entries_bytes 0 [] es in
    let counted : n ≡ length r = omega (arith, number, ap length is.placed, length-places r) in
    record {
      some = some;
      small = omega (arith, is.room, ap length spelled, length-append (out ++ places) (big_bytes 4 n), length-append out places, length-bytes_high_first 4 n);
      each = is.each;
      spelled =
          spelled ∙ (λ i. (is.text i ++ is.placed i) ++ big_bytes 4 (counted i))
          ∙ ap (λ l. 0 ∷ l) (append_assoc e (places_bytes r) (big_bytes 4 (length r)));
    }

length-block : (es : List Entry) → length (block_bytes es) ≡ 5 + length (entries_bytes 0 [] es) + 4 * length (block_restarts es)
unfolding block_bytes
length-block es =
    let r = block_restarts es in
    let e = entries_bytes 0 [] es in
    omega (arith, length-append e (places_bytes r ++ big_bytes 4 (length r)), length-append (places_bytes r) (big_bytes 4 (length r)), length-bytes_high_first 4 (length r), length-places r)

pub block_grows : (es : List Entry) (e : Entry) → IsEntry e → length (block_bytes (es ++ e ∷ [])) ≤ length (block_bytes es) + 33813
block_grows es e is =
    let here = if is_restart (0 + length es) then (1 + length (entries_bytes 0 [] es)) ∷ [] else [] in
    omega (
      arith,
      length-block es,
      length-block (es ++ e ∷ []),
      ap length (entries-push 0 [] es e),
      length-append (entries_bytes 0 [] es) (entry_bytes (0 + length es) (key_after [] es) e),
      entry-small (0 + length es) (key_after [] es) e is,
      ap length (restarts-push 0 1 [] es e),
      length-append (block_restarts es) here,
      few (is_restart (0 + length es)),
    )
  where
    few : (b : Bool) → length (if b then (1 + length (entries_bytes 0 [] es)) ∷ [] else []) ≤ 1
    few true = omega arith
    few false = omega arith
