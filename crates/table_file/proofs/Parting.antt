-- Entries that are cut into blocks: no block is empty, and one after another they have the entries.
use Rattle.std.proofs.Common.{◌≡◌, ℕ, ◌<◌, Bool, true, false, List, [], ◌∷◌, ◌++◌, length, refl, sym, ap, ◌∙◌, subst, arith, append_assoc, length-append}
use Rattle.std.specs.Prelude.{if◌then◌else◌, nat_le}
use Rattle.std.specs.List.{flat_map, fold}
use Rattle.std.proofs.lemmas.List.{append-nil}
use Rattle.std.proofs.lemmas.List.Concat.{flat_map-append}
use Rattle.peb_base.specs.declared.entry.Entry.{Entry}
use Rattle.block_form.specs.Form.{block_bytes}
use Rattle.table_file.specs.Form.{Cut, cut_on, cut_of, with_last, blocks_of}

-- the entries of blocks, one block after another
abbrev pub joined : List (List Entry) → List Entry
joined blocks = flat_map (λ block. block) blocks

joined-push : (blocks : List (List Entry)) (block : List Entry) → joined (blocks ++ block ∷ []) ≡ joined blocks ++ block
joined-push blocks block = flat_map-append (λ block. block) blocks (block ∷ []) ∙ ap (λ l. joined blocks ++ l) (append-nil block)

-- each block has an entry
abbrev pub HaveEntries : List (List Entry) → Type 0
HaveEntries [] = Unit {0}
HaveEntries (block ∷ blocks) = (0 < length block) × HaveEntries blocks

have_push : (blocks : List (List Entry)) (block : List Entry) → HaveEntries blocks → 0 < length block → HaveEntries (blocks ++ block ∷ [])
have_push [] block each some = (some, tt)
have_push (b ∷ blocks) block each some = (each.0, have_push blocks block each.1 some)

-- the cut has these entries
record IsCut (cut : Cut) (es : List Entry) : Type 0 where
  each : HaveEntries cut.closed
  whole : joined cut.closed ++ cut.begun ≡ es

cut_more : (full : ℕ) (cut : Cut) (es : List Entry) (e : Entry) → IsCut cut es → IsCut (cut_on full cut e) (es ++ e ∷ [])
cut_more full cut es e is = by (nat_le full (length (block_bytes (cut.begun ++ e ∷ []))))
  where
    b : List Entry
    b = cut.begun ++ e ∷ []

    whole : joined cut.closed ++ b ≡ es ++ e ∷ []
    whole = sym (append_assoc (joined cut.closed) cut.begun (e ∷ [])) ∙ ap (λ l. l ++ e ∷ []) is.whole

    by : (t : Bool) → IsCut (if t then record { closed = cut.closed ++ b ∷ []; begun = [] } else record { closed = cut.closed; begun = b }) (es ++ e ∷ [])
    by true =
        record {
          each = have_push cut.closed b is.each (omega (arith, length-append cut.begun (e ∷ [])));
          whole = append-nil (joined (cut.closed ++ b ∷ [])) ∙ joined-push cut.closed b ∙ whole;
        }
    by false = record { each = is.each; whole = whole }

cut_all : (full : ℕ) (cut : Cut) (es more : List Entry) → IsCut cut es → IsCut (fold (cut_on full) cut more) (es ++ more)
cut_all full cut es [] is = subst (IsCut cut) (sym (append-nil es)) is
cut_all full cut es (e ∷ more) is =
    subst (IsCut (fold (cut_on full) (cut_on full cut e) more)) (append_assoc es (e ∷ []) more)
    (cut_all full (cut_on full cut e) (es ++ e ∷ []) more (cut_more full cut es e is))

-- the blocks have these entries
pub record ArePartsOf (es : List Entry) (blocks : List (List Entry)) : Type 0 where
  pub each : HaveEntries blocks
  pub whole : joined blocks ≡ es

last_part : (closed : List (List Entry)) (begun es : List Entry) → HaveEntries closed → joined closed ++ begun ≡ es → ArePartsOf es (with_last closed begun)
last_part closed [] es each whole = record { each = each; whole = sym (append-nil (joined closed)) ∙ whole }
last_part closed (e ∷ begun) es each whole = record { each = have_push closed (e ∷ begun) each (omega arith); whole = joined-push closed (e ∷ begun) ∙ whole }

-- the blocks of a table have its entries
pub parts_cut : (full : ℕ) (es : List Entry) → ArePartsOf es (blocks_of full es)
parts_cut full es =
    let start : IsCut (record { closed = []; begun = [] }) [] = record { each = tt; whole = refl } in
    let is = cut_all full (record { closed = []; begun = [] }) [] es start in
    last_part (cut_of full es).closed (cut_of full es).begun es is.each is.whole
