-- The length of a table is the one that is reckoned from its entries.
use Rattle.std.proofs.Common.{◌≡◌, ℕ, suc, ◌+◌, ◌*◌, ◌/◌, ◌%◌, ◌<◌, Bool, true, false, List, [], ◌∷◌, ◌++◌, length, map, refl, sym, ap, ◌∙◌, arith, length-append, length-drop}
use Rattle.std.specs.Prelude.{if◌then◌else◌, nat_le, ◌==◌}
use Rattle.std.specs.List.{flat_map, fold}
use Rattle.std.proofs.lemmas.Bool.Decides.{nat_tests}
use Rattle.bloom.specs.Laws.{FilterIsLong}
use Rattle.peb_base.specs.Choice.{mixed}
use Rattle.peb_base.specs.Keys.{Bytes}
use Rattle.peb_base.specs.Entries.{value_of}
use Rattle.peb_base.specs.Profiles.{Column}
use Rattle.peb_base.specs.Tables as reckoned
use Rattle.peb_base.specs.Tables.{last_key, filter_length, shared_length}
use Rattle.peb_base.specs.declared.entry.Entry.{Entry}
use Rattle.block_form.specs.Building.{key_after}
use Rattle.block_form.specs.Form.{is_restart, parts_at, entry_bytes, entries_bytes, restarts, block_restarts, places_bytes, block_bytes}
use Rattle.block_form.specs.Parts.{Parts, head_bytes, head_of_parts, parts_bytes}
use Rattle.byteorder.specs.Endian.{big_bytes}
use Rattle.table_file.specs.Form.{Cut, cut_on, with_last, blocks_of, body_bytes, items_from, item_bytes, item_of, table_bytes}
use Rattle.table_file.proofs.Indexing.{length-item}
use Rattle.table_file.proofs.Spelled.{length-table}
use Rattle.table_file.proofs.Summing.{last_key-push}

length-parts : (p : Parts) → length (parts_bytes p) ≡ 17 + length p.rest + length (value_of p.change)
unfolding parts_bytes head_bytes
length-parts p = omega (arith, length-append (head_bytes (head_of_parts p)) (p.rest ++ value_of p.change), length-append p.rest (value_of p.change))

length-entry : (place : ℕ) (before : Bytes) (e : Entry) → length (entry_bytes place before e) ≡ reckoned.entry_length place before e
unfolding entry_bytes
length-entry place before e = length-parts (parts_at place before e) ∙ ap (λ n. 17 + n + length (value_of e.change)) (length-drop (shared_length place before e.key) e.key)

-- one entry more
entries-push : (place : ℕ) (before : Bytes) (es : List Entry) (e : Entry) → length (entries_bytes place before (es ++ e ∷ [])) ≡ length (entries_bytes place before es) + reckoned.entry_length (place + length es) (key_after before es) e
unfolding entries_bytes
entries-push place before [] e =
    let here : place ≡ place + 0 = omega arith in
    let alone : length (entry_bytes place before e ++ []) ≡ length (entry_bytes place before e) = omega (arith, length-append (entry_bytes place before e) []) in
    let counted : reckoned.entry_length place before e ≡ 0 + reckoned.entry_length place before e = omega arith in
    alone ∙ length-entry place before e ∙ counted ∙ ap (λ n. 0 + reckoned.entry_length n before e) here
entries-push place before (f ∷ es) e =
    let there : suc place + length es ≡ place + length (f ∷ es) = omega arith in
    let next : length (entries_bytes (suc place) f.key (es ++ e ∷ [])) ≡ length (entries_bytes (suc place) f.key es) + reckoned.entry_length (place + length (f ∷ es)) (key_after f.key es) e =
    entries-push (suc place) f.key es e ∙ ap (λ n. length (entries_bytes (suc place) f.key es) + reckoned.entry_length n (key_after f.key es) e) there in
    omega (arith, length-append (entry_bytes place before f) (entries_bytes (suc place) f.key (es ++ e ∷ [])), length-append (entry_bytes place before f) (entries_bytes (suc place) f.key es), next)

key_after-last : (before : Bytes) (e : Entry) (es : List Entry) → key_after before (e ∷ es) ≡ last_key (e ∷ es)
key_after-last before e [] = refl
key_after-last before e (f ∷ es) = key_after-last e.key f es

key_after-none : (es : List Entry) → key_after [] es ≡ last_key es
key_after-none [] = refl
key_after-none (e ∷ es) = key_after-last [] e es

-- the lengths of a block's entries together
abbrev size_of : List Entry → ℕ
size_of es = length (entries_bytes 0 [] es)

size-push : (es : List Entry) (e : Entry) → size_of (es ++ e ∷ []) ≡ size_of es + reckoned.entry_length (length es) (last_key es) e
size-push es e =
    let here : 0 + length es ≡ length es = omega arith in
    entries-push 0 [] es e ∙ (λ i. size_of es + reckoned.entry_length (here i) (key_after-none es i) e)

-- every sixteenth entry is a restart
length-restarts : (place at : ℕ) (before : Bytes) (es : List Entry) → (place + 15) / 16 + length (restarts place at before es) ≡ (place + length es + 15) / 16
unfolding restarts
length-restarts place at before [] = omega arith
length-restarts place at before (e ∷ es) = one place at (restarts (suc place) (at + length (entry_bytes place before e)) e.key es) (length es) (length-restarts (suc place) (at + length (entry_bytes place before e)) e.key es)
  where
    one : (place at : ℕ) (behind : List ℕ) (n : ℕ) → (suc place + 15) / 16 + length behind ≡ (suc place + n + 15) / 16
        → (place + 15) / 16 + length ((if is_restart place then at ∷ [] else []) ++ behind) ≡ (place + suc n + 15) / 16
    one place at behind n more = by (is_restart place) refl
      where
        by : (t : Bool) → (place % 16 == 0) ≡ t → (place + 15) / 16 + length ((if t then at ∷ [] else []) ++ behind) ≡ (place + suc n + 15) / 16
        by true is = let whole : place % 16 ≡ 0 = grind (arith, nat_tests, is) in omega (arith, more, whole)
        by false is = let part : 0 < place % 16 = grind (arith, nat_tests, is) in omega (arith, more, part)

length-places : (ps : List ℕ) → length (places_bytes ps) ≡ 4 * length ps
length-places [] = refl
length-places (p ∷ ps) = omega (arith, length-append (big_bytes 4 p) (places_bytes ps), length-places ps)

length-block : (es : List Entry) → length (block_bytes es) ≡ reckoned.block_length (length es) (size_of es)
unfolding block_bytes
length-block es =
    let r = block_restarts es in
    let e = entries_bytes 0 [] es in
    let tail = big_bytes 4 (length r) in
    omega (arith, length-append e (places_bytes r ++ tail), length-append (places_bytes r) tail, length-places r, length-restarts 0 1 [] es)

-- the lengths of blocks and of their items
abbrev laid : List (List Entry) → ℕ
laid [] = 0
laid (b ∷ blocks) = length (block_bytes b) + reckoned.item_length (last_key b) + laid blocks

laid-push : (blocks : List (List Entry)) (b : List Entry) → laid (blocks ++ b ∷ []) ≡ laid blocks + (length (block_bytes b) + reckoned.item_length (last_key b))
laid-push [] b = omega arith
laid-push (a ∷ blocks) b = omega (arith, laid-push blocks b)

laid_is : (place : ℕ) (blocks : List (List Entry)) → length (body_bytes blocks) + length (flat_map item_bytes (items_from place blocks)) ≡ laid blocks
laid_is place [] = refl
laid_is place (b ∷ blocks) =
    let next = place + length (block_bytes b) in
    omega (
      arith,
      length-append (block_bytes b) (body_bytes blocks),
      length-append (item_bytes (item_of place b)) (flat_map item_bytes (items_from next blocks)),
      length-item (item_of place b),
      laid_is next blocks,
    )

-- the blocks of a cut
abbrev cut_blocks : Cut → List (List Entry)
cut_blocks cut = with_last cut.closed cut.begun

-- behind a begun block with these entries
abbrev behind : ℕ → List Entry → List Entry → ℕ
behind full begun es = reckoned.body_length full (length begun) (size_of begun) (last_key begun) es

no_more : (full : ℕ) (closed : List (List Entry)) (begun : List Entry) → laid (with_last closed begun) ≡ laid closed + behind full begun []
no_more full closed [] = omega arith
no_more full closed (e ∷ begun) =
    let item = reckoned.item_length (last_key (e ∷ begun)) in
    let some : (length (e ∷ begun) == 0) ≡ false = grind (arith, nat_tests) in
    laid-push closed (e ∷ begun) ∙ ap (λ n. laid closed + (n + item)) (length-block (e ∷ begun))
    ∙ ap (λ b. laid closed + (if b then 0 else reckoned.block_length (length (e ∷ begun)) (size_of (e ∷ begun)) + item)) (sym some)

one_more : (full : ℕ) (closed : List (List Entry)) (begun : List Entry) (e : Entry) (es : List Entry)
    → laid (cut_blocks (fold (cut_on full) (record { closed = closed ++ (begun ++ e ∷ []) ∷ []; begun = [] }) es)) ≡ laid (closed ++ (begun ++ e ∷ []) ∷ []) + behind full [] es
    → laid (cut_blocks (fold (cut_on full) (record { closed = closed; begun = begun ++ e ∷ [] }) es)) ≡ laid closed + behind full (begun ++ e ∷ []) es
    → laid (cut_blocks (fold (cut_on full) (cut_on full (record { closed = closed; begun = begun }) e) es)) ≡ laid closed + behind full begun (e ∷ es)
unfolding entries_bytes
one_more full closed begun e es if_closed if_open =
    by (nat_le full (length (block_bytes b)))
    ∙ ap (λ n. laid closed + (if nat_le full n then n + reckoned.item_length e.key + behind full [] es else reckoned.body_length full (length b) (size_of b) e.key es)) (length-block b)
    ∙ ap (λ n. laid closed + n) same
  where
    b : List Entry
    b = begun ++ e ∷ []

    after : ℕ → ℕ → ℕ
    after places grown = if nat_le full (reckoned.block_length places grown) then reckoned.block_length places grown + reckoned.item_length e.key + behind full [] es else reckoned.body_length full places grown e.key es

    longer : length b ≡ suc (length begun)
    longer = omega (arith, length-append begun (e ∷ []))

    same : after (length b) (size_of b) ≡ after (suc (length begun)) (size_of begun + reckoned.entry_length (length begun) (last_key begun) e)
    same = λ i. after (longer i) (size-push begun e i)

    by : (t : Bool) → laid (cut_blocks (fold (cut_on full) (if t then record { closed = closed ++ b ∷ []; begun = [] } else record { closed = closed; begun = b }) es))
        ≡ laid closed + (if t then length (block_bytes b) + reckoned.item_length e.key + behind full [] es else reckoned.body_length full (length b) (size_of b) e.key es)
    by true = omega (arith, if_closed, laid-push closed b, ap length (last_key-push begun e))
    by false = if_open ∙ ap (λ k. laid closed + reckoned.body_length full (length b) (size_of b) k es) (last_key-push begun e)

laid-cut : (full : ℕ) (closed : List (List Entry)) (begun es : List Entry) → laid (cut_blocks (fold (cut_on full) (record { closed = closed; begun = begun }) es)) ≡ laid closed + behind full begun es
laid-cut full closed begun [] = no_more full closed begun
laid-cut full closed begun (e ∷ es) = one_more full closed begun e es (laid-cut full (closed ++ (begun ++ e ∷ []) ∷ []) [] es) (laid-cut full closed (begun ++ e ∷ []) es)

-- the length of a table's bytes
pub length_is : FilterIsLong → (o : Column) (number : ℕ) (es : List Entry) → length (table_bytes o.block_bytes number es) ≡ reckoned.table_length o es
unfolding reckoned.table_length entries_bytes
length_is long o number es =
    let blocks = blocks_of o.block_bytes es in
    let items = items_from 0 blocks in
    omega (
      arith,
      length-table number blocks es,
      laid_is 0 blocks,
      laid-cut o.block_bytes [] [] es,
      long (length es) (map (λ e. mixed e.key) es),
      length-append (big_bytes 4 (length items)) (flat_map item_bytes items),
    )
