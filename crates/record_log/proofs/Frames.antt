-- Records in their frame.
use Rattle.std.proofs.Common.{◌≡◌, ℕ, ◌+◌, ◌-◌, List, [], ◌∷◌, ◌++◌, length, take, drop, sym, ap, ◌∙◌, arith, append_assoc, length-append, length-drop}
use Rattle.std.proofs.lemmas.List.{take_at, drop_at}
use Rattle.byteorder.specs.Endian.{big_bytes}
use Rattle.byteorder.specs.Numbers.{length-bytes_high_first}
use Rattle.record_log.specs.Frame.{framed, records_in}
use Rattle.record_log.specs.Groups.{record_bytes}
use Rattle.record_log.specs.GroupLaws.{length-record}

pub length-framed : (records : List ℕ) → length (framed records) ≡ length records + 5
length-framed records = omega (arith, length-append (record_bytes records) (0 ∷ []), length-record records)

pub length-framed_in : (group : List ℕ) → group ≡ framed (records_in group) → length group ≡ length (records_in group) + 5
length-framed_in group is = ap length is ∙ length-framed (records_in group)

-- what a frame holds is found in it
pub records-framed : (records : List ℕ) → records_in (framed records) ≡ records
records-framed records =
    let head = big_bytes 4 (length records) in
    let behind : drop 4 (framed records) ≡ records ++ 0 ∷ [] =
    ap (drop 4) (append_assoc head records (0 ∷ [])) ∙ drop_at head (records ++ 0 ∷ []) 4 (length-bytes_high_first 4 (length records)) in
    ap (take (length (framed records) - 5)) behind ∙ take_at records (0 ∷ []) (length (framed records) - 5) (omega (arith, length-framed records))

pub in_frame : (group records : List ℕ) → group ≡ framed records → records_in group ≡ records
in_frame group records is = ap records_in is ∙ records-framed records

pub is_framed : (group records : List ℕ) → group ≡ framed records → group ≡ framed (records_in group)
is_framed group records is = is ∙ ap framed (sym (in_frame group records is))

-- a frame without its gate
pub take-framed : (group : List ℕ) (n : ℕ) → group ≡ framed (records_in group) → n + 1 ≡ length group → take n group ≡ record_bytes (records_in group)
take-framed group n is all =
    ap (take n) is ∙ take_at (record_bytes (records_in group)) (0 ∷ []) n (omega (arith, all, length-framed_in group is, length-record (records_in group)))

-- one record more, and the new length over the old
pub framed_more : (group open_end more new : List ℕ) (n : ℕ) → open_end ≡ record_bytes (records_in group) → n ≡ length (records_in group ++ more) → new ≡ big_bytes 4 n ++ drop 4 (open_end ++ more ++ 0 ∷ []) → new ≡ framed (records_in group ++ more)
framed_more group open_end more new n is counts written =
    let r = records_in group in
    let head = big_bytes 4 (length r) in
    let apart : record_bytes r ++ more ++ 0 ∷ [] ≡ head ++ (r ++ more ++ 0 ∷ []) = simp append_assoc in
    let behind : drop 4 (open_end ++ more ++ 0 ∷ []) ≡ r ++ more ++ 0 ∷ [] =
    ap (λ l. drop 4 (l ++ more ++ 0 ∷ [])) is ∙ ap (drop 4) apart ∙ drop_at head (r ++ more ++ 0 ∷ []) 4 (length-bytes_high_first 4 (length r)) in
    written ∙ ap (λ l. big_bytes 4 n ++ l) behind ∙ ap (λ m. big_bytes 4 m ++ (r ++ more ++ 0 ∷ [])) counts ∙ sym (append_assoc (big_bytes 4 (length (r ++ more))) (r ++ more) (0 ∷ []))

-- the same, written over all of a vector
pub frame_after : (group items buf body : List ℕ) (end_ len n : ℕ) → group ≡ framed (records_in group) → end_ + 1 ≡ length group → items ≡ take end_ group ++ big_bytes 4 (length body) ++ body ++ 0 ∷ []
    → len ≡ length items → n ≡ len - 5 → buf ≡ big_bytes 4 n ++ drop 4 items → take len (buf ++ drop (length buf) items) ≡ framed (records_in group ++ record_bytes body)
frame_after group items buf body end_ len n is all pushed counts size written =
    let open_end = take end_ group in
    let more = record_bytes body in
    let cut = take-framed group end_ is all in
    let whole : items ≡ open_end ++ more ++ 0 ∷ [] = pushed ∙ (simp append_assoc) in
    let more_long : length (records_in group ++ more) ≡ length (records_in group) + length more = length-append (records_in group) more in
    let end_long : length open_end ≡ 4 + length (records_in group) = ap length cut ∙ length-record (records_in group) in
    let long : length items ≡ length open_end + length more + 1 = ap length whole ∙ length-append (open_end ++ more) (0 ∷ []) ∙ ap (λ m. m + 1) (length-append open_end more) in
    let buf_long : length buf ≡ 4 + (length items - 4) =
    ap length written ∙ length-append (big_bytes 4 n) (drop 4 items) ∙ (λ i. length-bytes_high_first 4 n i + length-drop 4 items i) in
    let new : buf ≡ framed (records_in group ++ more) =
    framed_more group open_end more buf n cut (omega (arith, more_long, end_long, long, counts, size)) (written ∙ ap (λ l. big_bytes 4 n ++ drop 4 l) whole) in
    take_at buf (drop (length buf) items) len (omega (arith, buf_long, long, counts)) ∙ new
