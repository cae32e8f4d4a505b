-- An entry that is put into chunks.
use Rattle.std.proofs.Common.{◌≡◌, ℕ, suc, ◌+◌, ◌<◌, true, false, List, [], ◌∷◌, ◌++◌, length, map, take, drop, set, get_or, sym, ap, ◌∙◌, subst, arith, add-one, inl, inr, Some, ◌-◌, ◌≤◌, length-drop}
use Rattle.std.specs.Prelude.{slice_get}
use Rattle.std.proofs.lemmas.List.{take_all}
use Rattle.std.specs.List.{insert}
use Rattle.std.proofs.lemmas.List.{length-set, map-set, set-get_or, take-append-drop}
use Rattle.std.proofs.lemmas.List.Edits.{length-insert}
use Rattle.std.proofs.lemmas.Bool.{true≢false}
use Rattle.peb_base.specs.Entries.{AreSorted, IsEntry, entry_lt, put_in}
use Rattle.peb_base.specs.Sorting.{IsApart, put_sorted}
use Rattle.peb_base.specs.SortedParts.{apart_rest, front_before, put_in-ahead, put_in-past}
use Rattle.peb_base.specs.declared.entry.Entry.{Entry}
use Rattle.mem_table.specs.Chunked.{joined, IsChunked, HaveEntries}
use Rattle.mem_table.proofs.ChunkLemmas.{chunk_apart, joined_cut, map_insert, put_some, read_map, some_insert, some_set}

-- chunks with the entry in its place are sorted again
pub put_whole : (e : Entry) (cs new : List (List Entry)) → AreSorted (joined cs) → IsEntry e
    → IsApart e (joined cs) → joined new ≡ put_in e (joined cs) → HaveEntries new → 0 < length new
    → IsChunked new
put_whole e cs new sorted entry apart is each some = record {
  some = some;
  sorted = subst AreSorted (sym is) (put_sorted e (joined cs) entry sorted apart);
  each = each;
}

-- what handles hold, after one of them is written
pub one_written : {X : Type 0} (f : X → List Entry) (xs : List X) (i : ℕ) (x : X)
    (cs : List (List Entry))
    (c : List Entry) → map f xs ≡ cs → f x ≡ c → map f (set xs i x) ≡ set cs i c
one_written f xs i x cs c are is =
    map-set f xs i x ∙ ap (λ l. set l i (f x)) are ∙ ap (set cs i) is

-- and after one is written and one comes behind it
pub two_written : {X : Type 0} (f : X → List Entry) (xs : List X) (i : ℕ) (x y : X)
    (cs : List (List Entry))
    → map f xs ≡ cs → map f (set (insert xs (i + 1) y) i x) ≡ set (insert cs (suc i) (f y)) i (f x)
two_written f xs i x y cs are =
    map-set f (insert xs (i + 1) y) i x
    ∙ ap (λ l. set l i (f x))
    (map_insert f xs (i + 1) y ∙ ap (λ l. insert l (i + 1) (f y)) are
    ∙ ap (λ n. insert cs n (f y)) (add-one i))

-- the entries, where a chunk is cut in two
pub cut_joined : (e : Entry) (cs : List (List Entry)) (i : ℕ) (low high : List Entry)
    → i < length cs
    → low ++ high ≡ put_in e (get_or cs i [])
    → put_in e (joined cs) ≡ joined (set cs i (put_in e (get_or cs i [])))
    → joined (set (insert cs (suc i) high) i low) ≡ put_in e (joined cs)
cut_joined e cs i low high within is there =
    joined_cut cs i low high within ∙ ap (λ c. joined (set cs i c)) is ∙ sym there

-- ---- halves of a chunk

-- an entry that comes before the upper half goes into the lower one
pub lower_half : (e f : Entry) (es low high : List Entry) → low ++ high ≡ es
    → high ≡ f ∷ drop 1 high
    → entry_lt e f ≡ true → put_in e low ++ high ≡ put_in e es
lower_half e f es low high whole first lt =
    ap (λ h. put_in e low ++ h) first ∙ sym (put_in-ahead e low f (drop 1 high) lt)
    ∙ ap (λ h. put_in e (low ++ h)) (sym first) ∙ ap (put_in e) whole

-- and else into the upper one
pub upper_half : (e f : Entry) (es low high : List Entry) → low ++ high ≡ es
    → high ≡ f ∷ drop 1 high
    → AreSorted es → IsApart e es → entry_lt e f ≡ false → low ++ put_in e high ≡ put_in e es
upper_half e f es low high whole first sorted apart ge =
    let split : low ++ f ∷ drop 1 high ≡ es = ap (λ h. low ++ h) (sym first) ∙ whole in
    let near = apart_rest e low (f ∷ drop 1 high) (subst (IsApart e) (sym split) apart) in
    let gt : entry_lt f e ≡ true =
    elim near.0 [ inl lt ↦ absurd (true≢false (sym lt ∙ ge)) | inr after ↦ after ] in
    let all = front_before e.key e.number [] 0 low f (drop 1 high)
    (subst AreSorted (sym split) sorted) gt in
    sym (put_in-past e low high all) ∙ ap (put_in e) whole

-- a chunk with a first entry begins with it
pub begins : (es : List Entry) (f : Entry) → slice_get es 0 ≡ Some f → es ≡ f ∷ drop 1 es
begins [] f there = cc
begins (e ∷ es) f there = let same : e ≡ f = cc in ap (λ (x : Entry). x ∷ es) same

-- a chunk is its halves
pub two_parts : (n m : ℕ) (es : List Entry) → length es ≤ m
    → take (n - 0) (drop 0 es) ++ take (m - n) (drop n es) ≡ es
two_parts n m es within =
    let all : take (m - n) (drop n es) ≡ drop n es =
    take_all (m - n) (drop n es) (omega (arith, within, length-drop n es)) in
    let same : n - 0 ≡ n = omega arith in
    ap (λ k. take k es ++ take (m - n) (drop n es)) same ∙ ap (λ l. take n es ++ l) all
    ∙ take-append-drop n es

-- ---- an entry that is put into one of the chunks that handles hold

-- handles to sorted chunks, the index of the one that an entry goes into, and the entry
pub record PutsAt {X : Type 0} (f : X → List Entry) (xs : List X) (cs : List (List Entry)) (i : ℕ)
    (e : Entry) : Type 0 where
  pub are : map f xs ≡ cs
  pub chunked : IsChunked cs
  pub within : i < length cs
  pub entry : IsEntry e
  pub apart : IsApart e (joined cs)
  pub there : put_in e (joined cs) ≡ joined (set cs i (put_in e (get_or cs i [])))

pub puts_at : {X : Type 0} (f : X → List Entry) (xs : List X) (cs : List (List Entry)) (i : ℕ)
    (e lent : Entry)
    → map f xs ≡ cs → IsChunked (map f xs) → i < length cs → IsEntry e → IsApart e (joined cs)
    → lent ≡ e
    → put_in lent (joined cs) ≡ joined (set cs i (put_in lent (get_or cs i [])))
    → PutsAt f xs cs i e
puts_at f xs cs i e lent are chunked within entry apart same there = record {
  are = are;
  chunked = subst IsChunked are chunked;
  within = within;
  entry = entry;
  apart = apart;
  there = subst (λ (x : Entry). put_in x (joined cs)
      ≡ joined (set cs i (put_in x (get_or cs i [])))) same there;
}

-- the chunk that a handle holds
pub chunk_read : {X : Type 0} {f : X
    → List Entry} {xs : List X} {cs : List (List Entry)} {i : ℕ} {e : Entry}
    → PutsAt f xs cs i e → (x : X) → x ≡ get_or xs i x → f x ≡ get_or cs i []
chunk_read {f = f} {xs = xs} {i = i} p x read =
    let within : i < length (map f xs) = subst (λ l. i < length l) (sym p.are) p.within in
    read_map f xs i x [] within read ∙ ap (λ l. get_or l i []) p.are

-- the entry is apart from those of that chunk
pub apart_read : {X : Type 0} {f : X
    → List Entry} {xs : List X} {cs : List (List Entry)} {i : ℕ} {e : Entry}
    → PutsAt f xs cs i e → (x : X) → x ≡ get_or xs i x → IsApart e (f x)
apart_read {cs = cs} {i = i} {e = e} p x read =
    subst (IsApart e) (sym (chunk_read p x read)) (chunk_apart e cs i p.within p.apart)

-- where it is written as it was
pub kept : {X : Type 0} {f : X
    → List Entry} {xs : List X} {cs : List (List Entry)} {i : ℕ} {e : Entry}
    → PutsAt f xs cs i e → (x new : X) → x ≡ get_or xs i x → f new ≡ f x → map f (set xs i new) ≡ cs
kept {f = f} {xs = xs} {cs = cs} {i = i} p x new read same =
    one_written f xs i new cs (get_or cs i []) p.are (same ∙ chunk_read p x read)
    ∙ set-get_or cs i []

-- where it is written with the entry
pub put_one : {X : Type 0} {f : X
    → List Entry} {xs : List X} {cs : List (List Entry)} {i : ℕ} {e : Entry}
    → PutsAt f xs cs i e → (x new : X) → x ≡ get_or xs i x → f new ≡ put_in e (f x)
    → joined (map f (set xs i new)) ≡ put_in e (joined cs)
put_one {f = f} {xs = xs} {cs = cs} {i = i} {e = e} p x new read put =
    ap joined (one_written f xs i new cs (put_in e (get_or cs i [])) p.are
    (put ∙ ap (put_in e) (chunk_read p x read)))
    ∙ sym p.there

pub put_one_chunked : {X : Type 0} {f : X
    → List Entry} {xs : List X} {cs : List (List Entry)} {i : ℕ} {e : Entry}
    → PutsAt f xs cs i e → (x new : X) → x ≡ get_or xs i x → f new ≡ put_in e (f x)
    → IsChunked (map f (set xs i new))
put_one_chunked {f = f} {xs = xs} {cs = cs} {i = i} {e = e} p x new read put =
    let c : List Entry = put_in e (get_or cs i []) in
    let is : map f (set xs i new) ≡ set cs i c =
    one_written f xs i new cs c p.are (put ∙ ap (put_in e) (chunk_read p x read)) in
    subst IsChunked (sym is)
    (put_whole e cs (set cs i c) p.chunked.sorted p.entry p.apart (sym p.there)
    (some_set cs i c p.chunked.each (put_some e (get_or cs i [])))
    (omega (arith, length-set cs i c, p.chunked.some)))

-- where two halves with the entry take its place
pub put_two : {X : Type 0} {f : X
    → List Entry} {xs : List X} {cs : List (List Entry)} {i : ℕ} {e : Entry}
    → PutsAt f xs cs i e → (low high : X) → f low ++ f high ≡ put_in e (get_or cs i [])
    → joined (map f (set (insert xs (i + 1) high) i low)) ≡ put_in e (joined cs)
put_two {f = f} {xs = xs} {cs = cs} {i = i} {e = e} p low high halves =
    ap joined (two_written f xs i low high cs p.are)
    ∙ cut_joined e cs i (f low) (f high) p.within halves p.there

pub put_two_chunked : {X : Type 0} {f : X
    → List Entry} {xs : List X} {cs : List (List Entry)} {i : ℕ} {e : Entry}
    → PutsAt f xs cs i e → (low high : X) → f low ++ f high ≡ put_in e (get_or cs i [])
    → 0 < length (f low) → 0 < length (f high)
    → IsChunked (map f (set (insert xs (i + 1) high) i low))
put_two_chunked {f = f} {xs = xs} {cs = cs} {i = i} {e = e} p low high halves some_low some_high =
    let is = two_written f xs i low high cs p.are in
    let new : List (List Entry) = set (insert cs (suc i) (f high)) i (f low) in
    subst IsChunked (sym is)
    (put_whole e cs new p.chunked.sorted p.entry p.apart
    (cut_joined e cs i (f low) (f high) p.within halves p.there)
    (some_set (insert cs (suc i) (f high)) i (f low)
    (some_insert cs (suc i) (f high) p.chunked.each some_high) some_low)
    (omega (
      arith,
      length-set (insert cs (suc i) (f high)) i (f low),
      length-insert cs (suc i) (f high) p.within,
    )))
