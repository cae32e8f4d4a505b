-- Replaying batches.
use Rattle.std.proofs.Common.{◌≡◌, ◌≢◌, ℕ, suc, ◌+◌, ◌-◌, ◌<◌, ◌≤◌, true, ◌&&◌, List, [], ◌∷◌, ◌++◌, map, length, take, drop, get_or, refl, sym, ap, ◌∙◌, subst, arith, append_assoc}
use Rattle.std.specs.Prelude.{nat_lt, ◌==◌}
use Rattle.std.specs.List.{AllByRecursion}
use Rattle.std.proofs.lemmas.Bool.{and_parts, ltb-true}
use Rattle.std.proofs.lemmas.List.{take_more, take-append-drop, map-append as map_append}
use Rattle.std.proofs.Math.Seq.{drop-cons}
use Rattle.peb_base.specs.declared.op.Op.{Op}
use Rattle.peb_base.specs.Numbers.{session_of}
use Rattle.peb_base.specs.Batches.{Batches, numbered, last_number, ordered_above, are_in_order}
use Rattle.peb_base.specs.Map.{Map, apply_change, apply_entries, map_at}
use Rattle.peb_base.specs.MapLaws.{last_of_push, in_order_push, map_after}
use Rattle.record_log.specs.declared.record.Record.{Record}
use Rattle.record_log.specs.Records.{body_of, bodies_of, view_of, views}
use Rattle.record_log.specs.BatchRecord.{batch_bytes, IsBatch}
use Rattle.recovery.specs.declared.replay.Replay.{Replay}
use Rattle.recovery.specs.Opening.{IsReplayOf, CantGoOn, StopsAt}
use Rattle.store_layout.specs.Logs.{record_of, record_of-is, IsBatchIn, AreRecords}
use Rattle.store_layout.specs.Fronts.{front_in_order}
use Rattle.store_layout.specs.SpelledLaws.{map-append, each-append}
use Rattle.store_layout.specs.LogFacts.{OneBatch}
use Rattle.store_layout.specs.OneReading.{same_records}

-- one more operation
pub apply_push : (first : ℕ) (ops : List Op) (op : Op) (m : Map) → apply_entries (numbered first (ops ++ op ∷ [])) m ≡ apply_change op.key op.change (apply_entries (numbered first ops) m)
apply_push first [] op m = refl
apply_push first (x ∷ ops) op m = apply_push (suc first) ops op (apply_change x.key x.change m)

-- a batch's first number is above all before it
record IsAbove (low : ℕ) (bs : Batches) (b : ℕ × List Op) : Type 0 where
  lower : low < b.0
  all : last_number bs < b.0

above_all : (low : ℕ) (bs : Batches) (b : ℕ × List Op) → ordered_above low (bs ++ b ∷ []) ≡ true → IsAbove low bs b
above_all low [] b ordered =
    let p = and_parts (nat_lt low b.0 && nat_lt 0 (length b.1) && session_of b.0 == session_of (b.0 + length b.1 - 1)) (ordered_above (b.0 + length b.1 - 1) []) ordered in
    let q = and_parts (nat_lt low b.0 && nat_lt 0 (length b.1)) (session_of b.0 == session_of (b.0 + length b.1 - 1)) p.0 in
    let r = and_parts (nat_lt low b.0) (nat_lt 0 (length b.1)) q.0 in
    let lower : low < b.0 = ltb-true low b.0 r.0 in
    record { lower = lower; all = omega (arith, lower) }
above_all low (c ∷ bs) b ordered =
    let p = and_parts (nat_lt low c.0 && nat_lt 0 (length c.1) && session_of c.0 == session_of (c.0 + length c.1 - 1)) (ordered_above (c.0 + length c.1 - 1) (bs ++ b ∷ [])) ordered in
    let q = and_parts (nat_lt low c.0 && nat_lt 0 (length c.1)) (session_of c.0 == session_of (c.0 + length c.1 - 1)) p.0 in
    let r = and_parts (nat_lt low c.0) (nat_lt 0 (length c.1)) q.0 in
    let rest = above_all (c.0 + length c.1 - 1) bs b p.1 in
    let lower : low < c.0 = ltb-true low c.0 r.0 in
    let some : 0 < length c.1 = ltb-true 0 (length c.1) r.1 in
    record { lower = omega (arith, lower, some, rest.lower); all = omega (arith, rest.lower, rest.all) }

pub next_is_above : (bs : Batches) (b : ℕ × List Op) → are_in_order (bs ++ b ∷ []) ≡ true → last_number bs < b.0
next_is_above bs b ordered = (above_all 0 bs b ordered).all

-- ---- one record

-- the batch goes on after those
pub goes_on : (old new : Replay) (session : ℕ) (batches : Batches) (b : ℕ × List Op) → IsBatchIn session b → old.last < b.0
    → new.last ≡ b.0 + length b.1 - 1 → new.current ≡ apply_entries (numbered b.0 b.1) old.current → IsReplayOf old batches → IsReplayOf new (batches ++ b ∷ [])
goes_on old new session batches b is above last current replay =
    let next : last_number batches < b.0 = subst (λ (n : ℕ). n < b.0) replay.last above in
    let at : last_number (batches ++ b ∷ []) ≡ b.0 + length b.1 - 1 = last_of_push batches b.0 b.1 next in
    record {
      ordered = in_order_push batches b.0 b.1 replay.ordered next is.batch.numbers.some is.batch.numbers.one_session;
      last = last ∙ sym at;
      current = current ∙ ap (apply_entries (numbered b.0 b.1)) replay.current ∙ sym (map_after batches b.0 b.1 next) ∙ ap (map_at (batches ++ b ∷ [])) (sym at);
    }

record IsOne (body : List ℕ) (own : Batches) : Type 0 where
  b : ℕ × List Op
  is : own ≡ b ∷ []
  spelled : body ≡ record_of b

-- one record is that of one batch
one_own : (body : List ℕ) (own : Batches) → body ∷ [] ≡ map record_of own → IsOne body own
one_own body [] e = absurd (cc)
one_own body (b ∷ []) e = record { b = b; is = refl; spelled = cc }
one_own body (b ∷ c ∷ own) e = absurd (cc)

abbrev pub NotOf : (session : ℕ) → Batches → List ℕ → Type 0
NotOf session batches body = (b : ℕ × List Op) → IsBatchIn session b → body ≡ record_of b → are_in_order (batches ++ b ∷ []) ≡ true → ⊥

pub cant_go_on : (session : ℕ) (batches : Batches) (body : List ℕ) → NotOf session batches body → CantGoOn session batches (body ∷ [])
cant_go_on session batches body none own are ordered =
    let one = one_own body own are.records in
    none one.b (subst (λ (bs : Batches). AllByRecursion (IsBatchIn session) bs) one.is are.each).0 one.spelled
    (subst (λ (bs : Batches). are_in_order (batches ++ bs) ≡ true) one.is ordered)

-- the bytes are no batch
pub no_batch : (session : ℕ) (batches : Batches) (body : List ℕ) → ((first : ℕ) (ops : List Op) → IsBatch first ops → body ≢ batch_bytes first ops) → CantGoOn session batches (body ∷ [])
no_batch session batches body none = cant_go_on session batches body (λ b is spelled ordered. none b.0 b.1 is.batch (spelled ∙ record_of-is b))

-- the batch is of another session
pub other_session : OneBatch → (session : ℕ) (batches : Batches) (body : List ℕ) (first : ℕ) (ops : List Op) → IsBatch first ops → body ≡ batch_bytes first ops
    → session_of first ≢ session → CantGoOn session batches (body ∷ [])
other_session one session batches body first ops is spelled differs = cant_go_on session batches body (λ b lawful same ordered.
    let e = one first b.0 ops b.1 is lawful.batch (sym spelled ∙ same ∙ record_of-is b) in differs (ap session_of e.0 ∙ lawful.here))

-- the batch doesn't come after those
pub not_above : OneBatch → (session : ℕ) (batches : Batches) (body : List ℕ) (first : ℕ) (ops : List Op) → IsBatch first ops → body ≡ batch_bytes first ops
    → first ≤ last_number batches → CantGoOn session batches (body ∷ [])
not_above one session batches body first ops is spelled low = cant_go_on session batches body (λ b lawful same ordered.
    let e = one first b.0 ops b.1 is lawful.batch (sym spelled ∙ same ∙ record_of-is b) in
    let above : last_number batches < b.0 = next_is_above batches b ordered in
    omega (arith, above, low, e.0))

-- ---- the records of a log

-- batches of the first bodies, and the others
record Parts (session : ℕ) (front rest : List (List ℕ)) (own : Batches) : Type 0 where
  first : Batches
  others : Batches
  is : own ≡ first ++ others
  fronts : AreRecords session front first
  rests : AreRecords session rest others

parts : (session : ℕ) (front rest : List (List ℕ)) (own : Batches) → AreRecords session (front ++ rest) own → Parts session front rest own
parts session [] rest own are = record { first = []; others = own; is = refl; fronts = record { records = refl; each = tt }; rests = are }
parts session (body ∷ front) rest [] are = absurd (nothing body (front ++ rest) are.records)
  where
    nothing : (x : List ℕ) (xs : List (List ℕ)) → x ∷ xs ≡ [] → ⊥
    nothing x xs e = cc
parts session (body ∷ front) rest (b ∷ own) are =
    let first : body ≡ record_of b = head_same body (record_of b) (front ++ rest) (map record_of own) are.records in
    let more : front ++ rest ≡ map record_of own = tail_same body (record_of b) (front ++ rest) (map record_of own) are.records in
    let p = parts session front rest own (record { records = more; each = are.each.1 }) in
    record {
      first = b ∷ p.first;
      others = p.others;
      is = ap (λ r. b ∷ r) p.is;
      fronts = record { records = λ i. first i ∷ p.fronts.records i; each = (are.each.0, p.fronts.each) };
      rests = p.rests;
    }
  where
    head_same : (x y : List ℕ) (xs ys : List (List ℕ)) → x ∷ xs ≡ y ∷ ys → x ≡ y
    head_same x y xs ys e = cc

    tail_same : (x y : List ℕ) (xs ys : List (List ℕ)) → x ∷ xs ≡ y ∷ ys → xs ≡ ys
    tail_same x y xs ys e = cc

-- one more record
pub one_more_record : (session : ℕ) (bodies : List (List ℕ)) (body : List ℕ) (own : Batches) (b : ℕ × List Op) → AreRecords session bodies own → IsBatchIn session b → body ≡ record_of b
    → AreRecords session (bodies ++ body ∷ []) (own ++ b ∷ [])
one_more_record session bodies body own b are is spelled = record {
  records = ap (λ r. r ++ body ∷ []) are.records ∙ ap (λ x. map record_of own ++ x ∷ []) spelled ∙ sym (map-append own (b ∷ []));
  each = each-append session own (b ∷ []) are.each (is, tt);
}

-- where one record can't go on, the records with it and more can't
pub cant_finish : OneBatch → (session : ℕ) (batches own : Batches) (front rest : List (List ℕ)) (body : List ℕ) → AreRecords session front own
    → CantGoOn session (batches ++ own) (body ∷ []) → CantGoOn session batches (front ++ body ∷ rest)
cant_finish one session batches own front rest body are cant all spelled ordered =
    let p = parts session front (body ∷ rest) all spelled in
    let q = parts session (body ∷ []) rest p.others p.rests in
    let same : p.first ≡ own = same_records one session front p.first own p.fronts are in
    let whole : batches ++ all ≡ ((batches ++ own) ++ q.first) ++ q.others =
    ap (λ bs. batches ++ bs) (p.is ∙ ap (λ bs. bs ++ p.others) same ∙ ap (λ bs. own ++ bs) q.is)
    ∙ sym (append_assoc batches own (q.first ++ q.others)) ∙ sym (append_assoc (batches ++ own) q.first q.others) in
    cant q.first q.fronts (front_in_order ((batches ++ own) ++ q.first) q.others (ap are_in_order (sym whole) ∙ ordered))

pub bodies_step : (items : List Record) (i : ℕ) (item : Record) → i < length items → item ≡ get_or items i item → bodies_of (take (i + 1) items) ≡ bodies_of (take i items) ++ body_of item ∷ []
bodies_step items i item lt is =
    ap bodies_of (take_more items i item lt) ∙ map_append body_of (take i items) (get_or items i item ∷ []) ∙ ap (λ r. bodies_of (take i items) ++ body_of r ∷ []) (sym is)

pub bodies_split : (items : List Record) (i : ℕ) (item : Record) → i < length items → item ≡ get_or items i item
    → bodies_of items ≡ bodies_of (take i items) ++ body_of item ∷ bodies_of (drop (suc i) items)
bodies_split items i item lt is =
    ap bodies_of (sym (take-append-drop i items) ∙ ap (λ r. take i items ++ r) (drop-cons items i item lt ∙ ap (λ x. x ∷ drop (suc i) items) (sym is)))
    ∙ map_append body_of (take i items) (item ∷ drop (suc i) items)

-- the bodies of records, whether or not with their places
pub bodies_viewed : (records : List Record) → map (λ (v : ℕ × List ℕ). v.1) (views records) ≡ bodies_of records
bodies_viewed [] = refl
bodies_viewed (r ∷ records) = ap (λ rest. body_of r ∷ rest) (bodies_viewed records)

pub views_split : (items : List Record) (i : ℕ) (item : Record) → i < length items → item ≡ get_or items i item
    → views items ≡ views (take i items) ++ (item.gate, item.body.items) ∷ views (drop (suc i) items)
views_split items i item lt is =
    ap views (sym (take-append-drop i items) ∙ ap (λ r. take i items ++ r) (drop-cons items i item lt ∙ ap (λ x. x ∷ drop (suc i) items) (sym is)))
    ∙ map_append view_of (take i items) (item ∷ drop (suc i) items)

-- the first record that can't go on
pub stops_there : (session : ℕ) (batches own : Batches) (items : List Record) (i at : ℕ) (item : Record) → i < length items → item ≡ get_or items i item → at ≡ item.gate
    → AreRecords session (bodies_of (take i items)) own → are_in_order (batches ++ own) ≡ true → CantGoOn session (batches ++ own) (item.body.items ∷ [])
    → StopsAt session batches (views items) at
stops_there session batches own items i at item lt is gate spelled ordered cant = record {
  before = views (take i items);
  body = item.body.items;
  behind = views (drop (suc i) items);
  own = own;
  split = views_split items i item lt is ∙ ap (λ (n : ℕ). views (take i items) ++ (n, item.body.items) ∷ views (drop (suc i) items)) (sym gate);
  spelled = subst (λ bodies. AreRecords session bodies own) (sym (bodies_viewed (take i items))) spelled;
  ordered = ordered;
  cant = cant;
}

-- then the records as a whole can't
pub stopped_cant : OneBatch → (session : ℕ) (batches : Batches) (records : List (ℕ × List ℕ)) (at : ℕ) → StopsAt session batches records at
    → CantGoOn session batches (map (λ (v : ℕ × List ℕ). v.1) records)
stopped_cant one session batches records at stops =
    let split : map (λ (v : ℕ × List ℕ). v.1) records ≡ map (λ (v : ℕ × List ℕ). v.1) stops.before ++ stops.body ∷ map (λ (v : ℕ × List ℕ). v.1) stops.behind =
    ap (map (λ (v : ℕ × List ℕ). v.1)) stops.split ∙ map_append (λ (v : ℕ × List ℕ). v.1) stops.before ((at, stops.body) ∷ stops.behind) in
    subst (λ bodies. CantGoOn session batches bodies) (sym split) (cant_finish one session batches stops.own _ _ _ stops.spelled stops.cant)
