-- Where entries begin among the bytes of all.
use Rattle.std.proofs.Common.{◌≡◌, ℕ, zero, suc, ◌+◌, ◌-◌, ◌<◌, ◌≤◌, ◌^◌, List, [], ◌∷◌, ◌++◌, length, take, drop, Some, None, refl, sym, ap, ◌∙◌, subst, arith, append_assoc, length-append}
use Rattle.std.specs.Prelude.{slice_get}
use Rattle.std.proofs.lemmas.List.{append-nil, drop_at, take_at}
use Rattle.peb_base.specs.Keys.{Bytes}
use Rattle.peb_base.specs.Entries.{AscendFrom, AreSorted, value_of}
use Rattle.peb_base.specs.SortedParts.{entry_within}
use Rattle.peb_base.specs.declared.entry.Entry.{Entry}
use Rattle.block_form.specs.Building.{key_after}
use Rattle.block_form.specs.Form.{entry_bytes, entries_bytes}
use Rattle.peb_base.specs.declared.change.Change.{Change}
use Rattle.peb_base.specs.declared.change.Change.TheVariants.{Put, Delete}
use Rattle.block_form.specs.Parts.{parts_bytes, head_bytes, head_of_parts}
use Rattle.block_form.specs.Form.{parts_at, IsBlock, block_bytes, places_bytes, block_restarts}
use Rattle.byteorder.specs.Endian.{big_bytes}
use Rattle.block_form.specs.declared.spot.Spot.{Spot}
use Rattle.block_form.specs.Spots.{offset_of, value_length, IsSpot, BeginsWithAll, EndsWith}
use Rattle.block_form.specs.Walks.{HoldsEntries}
use Rattle.block_form.proofs.Scans.{ScanLeft, Front, front}
use Rattle.block_form.proofs.Walks.{entries-one, entries-none}

pub entry_is : (a b : Entry) → Some a ≡ Some b → a ≡ b
entry_is a b same = cc

-- the bytes of some first entries, and those of the others
split : (k n : ℕ) (before : Bytes) (es : List Entry) → entries_bytes k before es ≡ entries_bytes k before (take n es) ++ entries_bytes (k + n) (key_after before (take n es)) (drop n es)
split k zero before es =
    let none : k + 0 ≡ k = omega arith in
    sym (ap (λ l. l ++ entries_bytes (k + 0) before es) (entries-none k before) ∙ ap (λ j. entries_bytes j before es) none)
split k (suc n) before [] = sym (ap (λ l. entries_bytes k before [] ++ l) (entries-none (k + suc n) before) ∙ append-nil (entries_bytes k before []))
split k (suc n) before (e ∷ es) =
    let one : suc k + n ≡ k + suc n = omega arith in
    entries-one k before e es
    ∙ ap (λ l. entry_bytes k before e ++ l) (split (suc k) n e.key es)
    ∙ sym (append_assoc (entry_bytes k before e) (entries_bytes (suc k) e.key (take n es)) (entries_bytes (suc k + n) (key_after e.key (take n es)) (drop n es)))
    ∙ (λ i. sym (entries-one k before e (take n es)) i ++ entries_bytes (one i) (key_after e.key (take n es)) (drop n es))

ascend_on : (n : ℕ) (before : Bytes) (above : ℕ) (es : List Entry) → AscendFrom before above es → (a : ℕ) × AscendFrom (key_after before (take n es)) a (drop n es)
ascend_on zero before above es each = (above, each)
ascend_on (suc n) before above [] each = (above, tt)
ascend_on (suc n) before above (e ∷ es) each = ascend_on n e.key e.number es each.2

-- the key in front of the entry behind this one
after : (n : ℕ) (before : Bytes) (es : List Entry) (e : Entry) → slice_get es n ≡ Some e → key_after before (take (n + 1) es) ≡ e.key
after n before [] e there = cc
after zero before (f ∷ es) e there = ap (λ (x : Entry). x.key) (entry_is f e there)
after (suc n) before (f ∷ es) e there =
    let one : suc n + 1 ≡ suc (n + 1) = omega arith in
    ap (λ k. key_after before (take k (f ∷ es))) one ∙ after n f.key es e there

apart : (place count : ℕ) (entries : List ℕ) (es : List Entry) → HoldsEntries entries count es
    → entries ≡ entries_bytes 0 [] (take place es) ++ entries_bytes place (key_after [] (take place es)) (drop place es)
apart place count entries es holds =
    let none : 0 + place ≡ place = omega arith in
    holds.spelled ∙ split 0 place [] es ∙ ap (λ j. entries_bytes 0 [] (take place es) ++ entries_bytes j (key_after [] (take place es)) (drop place es)) none

-- what stands from where the entry at a place begins
pub spot : (place count : ℕ) (entries : List ℕ) (es : List Entry) → HoldsEntries entries count es → ScanLeft place (key_after [] (take place es)) (drop (offset_of place es) entries) es
spot place count entries es holds =
    let rest = ascend_on place [] 0 es holds.each in
    record {
      above = rest.0;
      each = rest.1;
      spelled =
          ap (drop (offset_of place es)) (apart place count entries es holds)
          ∙ drop_at (entries_bytes 0 [] (take place es)) (entries_bytes place (key_after [] (take place es)) (drop place es)) (offset_of place es) refl;
    }

spot_long : (place count : ℕ) (entries : List ℕ) (es : List Entry) → HoldsEntries entries count es
    → length entries ≡ offset_of place es + length (entries_bytes place (key_after [] (take place es)) (drop place es))
spot_long place count entries es holds =
    ap length (apart place count entries es holds) ∙ length-append (entries_bytes 0 [] (take place es)) (entries_bytes place (key_after [] (take place es)) (drop place es))

pub inside : (place count : ℕ) (entries : List ℕ) (es : List Entry) → HoldsEntries entries count es → offset_of place es ≤ length entries
inside place count entries es holds = omega (arith, spot_long place count entries es holds)

-- the entry at a place stands where it begins
pub front_at : (place at count : ℕ) (entries rest : List ℕ) (es : List Entry) → HoldsEntries entries count es → place < length es → at ≡ offset_of place es → rest ≡ drop at entries → Front place (key_after [] (take place es)) rest es
front_at place at count entries rest es holds lt is same =
    front place (key_after [] (take place es)) rest es lt
    (subst (λ (l : List ℕ). ScanLeft place (key_after [] (take place es)) l es) (sym (same ∙ ap (λ n. drop n entries) is)) (spot place count entries es holds))

-- the bytes behind it begin where the next one begins
pub behind_at : (place count : ℕ) (entries rest behind : List ℕ) (es : List Entry) → HoldsEntries entries count es → (f : Front place (key_after [] (take place es)) rest es) → behind ≡ f.more
    → length entries - length behind ≡ offset_of (place + 1) es
behind_at place count entries rest behind es holds f is =
    let left = f.on f.here.entry.key behind refl is in
    let key : key_after [] (take (place + 1) es) ≡ f.here.entry.key = after place [] es f.here.entry f.here.got in
    let long : length behind ≡ length (entries_bytes (place + 1) (key_after [] (take (place + 1) es)) (drop (place + 1) es)) =
    ap length left.spelled ∙ ap (λ (k : Bytes). length (entries_bytes (place + 1) k (drop (place + 1) es))) (sym key) in
    omega (arith, spot_long (place + 1) count entries es holds, long)

pub before_at : (place : ℕ) (es : List Entry) (e : Entry) → slice_get es place ≡ Some e → key_after [] (take (place + 1) es) ≡ e.key
before_at place es e there = after place [] es e there

pub offset_none : (es : List Entry) → offset_of 0 es ≡ 0
offset_none es = ap length (entries-none 0 [])

-- an entry's bytes end with its value
value_last : (place : ℕ) (before : Bytes) (e : Entry) → (front : List ℕ) × (entry_bytes place before e ≡ front ++ value_of e.change)
unfolding entry_bytes parts_bytes
value_last place before e =
    let p = parts_at place before e in (
      head_bytes (head_of_parts p) ++ p.rest,
      sym (append_assoc (head_bytes (head_of_parts p)) p.rest (value_of e.change)),
    )

-- the bytes up to an entry end with its value
value_at : (k place : ℕ) (before : Bytes) (es : List Entry) (e : Entry) → slice_get es place ≡ Some e
    → (front : List ℕ) × (entries_bytes k before (take (suc place) es) ≡ front ++ value_of e.change)
value_at k place before [] e there = cc
value_at k zero before (f ∷ es) e there =
    let own = value_last k before f in (
      own.0,
      entries-one k before f [] ∙ ap (λ l. entry_bytes k before f ++ l) (entries-none (suc k) f.key) ∙ append-nil (entry_bytes k before f)
          ∙ own.1 ∙ ap (λ (x : Entry). own.0 ++ value_of x.change) (entry_is f e there),
    )
value_at k (suc place) before (f ∷ es) e there =
    let later = value_at (suc k) place f.key es e there in (
      entry_bytes k before f ++ later.0,
      entries-one k before f (take (suc place) es) ∙ ap (λ l. entry_bytes k before f ++ l) later.1 ∙ sym (append_assoc (entry_bytes k before f) later.0 (value_of e.change)),
    )

-- a spot says where its value ends
pub ends_there : (es : List Entry) (place : ℕ) (key : Bytes) (spot : Spot) (entries : List ℕ) → BeginsWithAll es entries → (s : IsSpot es place key spot) → EndsWith s.entry.change spot entries
ends_there es place key spot entries begins s =
    let one : suc place ≡ place + 1 = omega arith in
    let own = value_at 0 place [] es s.entry s.there in
    let up_to : entries_bytes 0 [] (take (place + 1) es) ≡ own.0 ++ value_of s.entry.change = ap (λ n. entries_bytes 0 [] (take n es)) (sym one) ∙ own.1 in
    let left = entries_bytes (0 + (place + 1)) (key_after [] (take (place + 1) es)) (drop (place + 1) es) in
    record {
      front = own.0;
      more = left ++ begins.more;
      spelled =
          begins.spelled ∙ ap (λ l. l ++ begins.more) (split 0 (place + 1) [] es ∙ ap (λ l. l ++ left) up_to)
          ∙ append_assoc (own.0 ++ value_of s.entry.change) left begins.more;
      behind = s.behind ∙ ap length up_to;
      value = s.value;
    }

-- a block begins with its entries, behind its first byte
pub block_begins : (es : List Entry) (bytes : List ℕ) → IsBlock es bytes → BeginsWithAll es (drop 1 bytes)
unfolding block_bytes
block_begins es bytes is =
    record {
      each = is.each;
      more = places_bytes (block_restarts es) ++ big_bytes 4 (length (block_restarts es));
      spelled = ap (drop 1) is.spelled;
    }

-- what was read of the entry at a place, where its bytes begin
pub spot_read : (place count : ℕ) (entries rest behind : List ℕ) (es : List Entry) (key : Bytes) (spot : Spot) → HoldsEntries entries count es → (f : Front place (key_after [] (take place es)) rest es)
    → key ≡ f.here.entry.key → spot.number ≡ f.here.entry.number → spot.value ≡ value_length f.here.entry.change → behind ≡ f.more → spot.behind ≡ length entries - length behind
    → IsSpot es place key spot
spot_read place count entries rest behind es key spot holds f is_key number value left at =
    record {
      entry = f.here.entry;
      there = f.here.got;
      key_is = is_key;
      number = number;
      value = value;
      behind = at ∙ behind_at place count entries rest behind es holds f left;
    }

-- the key and the number of the entry at a spot
pub spot_is : (place : ℕ) (es : List Entry) (key : Bytes) (spot : Spot) (e : Entry) → IsSpot es place key spot → slice_get es place ≡ Some e → (key ≡ e.key) × (spot.number ≡ e.number)
spot_is place es key spot e s there =
    let same = entry_is s.entry e (sym s.there ∙ there) in
    (s.key_is ∙ ap (λ (x : Entry). x.key) same, s.number ∙ ap (λ (x : Entry). x.number) same)

-- the number of an entry is a number
pub spot_small : (place : ℕ) (es : List Entry) (key : Bytes) (spot : Spot) → AreSorted es → IsSpot es place key spot → spot.number < 2 ^ 63
spot_small place es key spot each s = omega (arith, (entry_within [] 0 es place s.entry each s.there).number, s.number)

-- the value of a put, where the spot says
pub record PutAt (change : Change) (spot : Spot) (entries : List ℕ) (len : ℕ) : Type 0 where
  pub long : len ≤ spot.behind
  pub inside : spot.behind ≤ length entries
  pub value : take (spot.behind - (spot.behind - len)) (drop (spot.behind - len) entries) ≡ value_of change
  pub put : change ≡ Put (value_of change)

pub put_there : (change : Change) (spot : Spot) (entries : List ℕ) (len : ℕ) → EndsWith change spot entries → spot.value ≡ Some len → PutAt change spot entries len
put_there Delete spot entries len ends is = absurd (some_none (sym is ∙ ends.value))
  where
    some_none : {n : ℕ} → Some n ≡ None → ⊥
    some_none e = cc
put_there (Put value) spot entries len ends is =
    let same : len ≡ length value = some_same len (length value) (sym is ∙ ends.value) in
    let at : spot.behind ≡ length ends.front + length value = ends.behind ∙ length-append ends.front value in
    let start : spot.behind - len ≡ length ends.front = omega (arith, same, at) in
    let size : spot.behind - (spot.behind - len) ≡ length value = omega (arith, same, at) in
    let left : drop (spot.behind - len) entries ≡ value ++ ends.more =
    (λ i. drop (start i) (ends.spelled i)) ∙ ap (drop (length ends.front)) (append_assoc ends.front value ends.more)
    ∙ drop_at ends.front (value ++ ends.more) (length ends.front) refl in
    record {
      long = omega (arith, same, at);
      inside = omega (arith, at, ap length ends.spelled, length-append (ends.front ++ value) ends.more, length-append ends.front value);
      value = (λ i. take (size i) (left i)) ∙ take_at value ends.more (length value) refl;
      put = refl;
    }
  where
    some_same : (a b : ℕ) → Some a ≡ Some b → a ≡ b
    some_same a b e = cc

pub none_there : (change : Change) (spot : Spot) (entries : List ℕ) → EndsWith change spot entries → spot.value ≡ None → change ≡ Delete
none_there Delete spot entries ends is = refl
none_there (Put value) spot entries ends is = absurd (none_some (sym is ∙ ends.value))
  where
    none_some : {n : ℕ} → None ≡ Some n → ⊥
    none_some e = cc
