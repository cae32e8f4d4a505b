-- A table that was written is one that is opened.
use Rattle.std.proofs.Common.{◌≡◌, ℕ, ◌+◌, ◌<◌, ◌≤◌, Bool, true, false, List, [], ◌∷◌, ◌++◌, length, map, refl, sym, ap, ◌∙◌, subst, arith, length-append}
use Rattle.std.specs.Prelude.{if◌then◌else◌, nat_le}
use Rattle.std.specs.List.{fold}
use Rattle.std.proofs.lemmas.Bool.Decides.{nat_tests}
use Rattle.bloom.specs.Laws.{FilterIsLong}
use Rattle.peb_base.specs.Choice.{mixed}
use Rattle.peb_base.specs.Entries.{IsEntry, AscendFrom, AreSorted}
use Rattle.peb_base.specs.Keys.{Bytes}
use Rattle.peb_base.specs.Tables.{last_key, filter_length}
use Rattle.peb_base.specs.declared.entry.Entry.{Entry}
use Rattle.peb_base.specs.declared.table_row.TableRow.{TableRow}
use Rattle.block_form.specs.Form.{block_bytes}
use Rattle.table_file.specs.Blocks.{AreBlocks}
use Rattle.table_file.specs.Form.{Cut, cut_on, cut_of, with_last, blocks_of, body_bytes, last_number, items_from, index_bytes, key_filter, blocks_table, table_bytes}
use Rattle.table_file.specs.Opening.{AreItems, OpensAs}
use Rattle.table_file.specs.declared.footer.Footer.{Footer}
use Rattle.table_file.specs.Ascending.{last_after, front_ascends, rest_ascends}
use Rattle.table_file.proofs.Cuts.{length-none, sorted_rest}
use Rattle.table_file.proofs.Parting.{joined, parts_cut}
use Rattle.table_file.proofs.Spelled.{length-table}
use Rattle.table_file.proofs.Summing.{last_fits}

-- each block has an entry and at most 40,960 bytes
AreSmall : List (List Entry) → Type 0
AreSmall [] = Unit {0}
AreSmall (b ∷ blocks) = (0 < length b) × (length (block_bytes b) ≤ 40960) × AreSmall blocks

none_small : AreSmall []
unfolding AreSmall
none_small = tt

small_push : (blocks : List (List Entry)) (b : List Entry) → AreSmall blocks → 0 < length b → length (block_bytes b) ≤ 40960 → AreSmall (blocks ++ b ∷ [])
unfolding AreSmall
small_push [] b small some short = (some, short, tt)
small_push (c ∷ blocks) b small some short = (small.0, small.1, small_push blocks b small.2 some short)

-- the items of small blocks are those of an index
items_are : (place : ℕ) (before : Bytes) (above : ℕ) (blocks : List (List Entry)) → AscendFrom before above (joined blocks) → AreSmall blocks → AreItems place before above (place + length (body_bytes blocks)) (items_from place blocks)
unfolding AreSmall
items_are place before above [] each small = omega arith
items_are place before above (b ∷ blocks) each small =
    let mine = front_ascends before above b (joined blocks) each in
    let fits = last_fits before above b mine small.0 in
    let end : place + length (block_bytes b) + length (body_bytes blocks) ≡ place + length (body_bytes (b ∷ blocks)) = omega (arith, length-append (block_bytes b) (body_bytes blocks)) in (
      record { place_is = refl; len = small.1; some = fits.some; short = fits.short; number = fits.number; after = last_after before above b mine small.0 },
      subst (λ n. AreItems (place + length (block_bytes b)) (last_key b) (last_number b) n (items_from (place + length (block_bytes b)) blocks)) end
          (items_are (place + length (block_bytes b)) (last_key b) (last_number b) blocks (rest_ascends before above b (joined blocks) small.0 each) small.2),
    )

-- a cut whose blocks are small, and whose begun block has room
record FineCut (full : ℕ) (cut : Cut) : Type 0 where
  small : AreSmall cut.closed
  room : length (block_bytes cut.begun) < full

abbrev pub Grows : Type 0
Grows = (es : List Entry) (e : Entry) → IsEntry e → length (block_bytes (es ++ e ∷ [])) ≤ length (block_bytes es) + 33813

fine_on : Grows → (full : ℕ) (cut : Cut) (e : Entry) → 5 < full → full ≤ 4096 → IsEntry e → FineCut full cut → FineCut full (cut_on full cut e)
fine_on grows full cut e some most is fine = by (nat_le full (length (block_bytes (cut.begun ++ e ∷ [])))) refl
  where
    b : List Entry
    b = cut.begun ++ e ∷ []

    by : (t : Bool) → nat_le full (length (block_bytes b)) ≡ t → FineCut full (if t then record { closed = cut.closed ++ b ∷ []; begun = [] } else record { closed = cut.closed; begun = b })
    by true is_full =
        record {
          small = small_push cut.closed b fine.small (omega (arith, length-append cut.begun (e ∷ []))) (omega (arith, grows cut.begun e is, fine.room, most));
          room = omega (arith, length-none, some);
        }
    by false not_full = record { small = fine.small; room = grind (arith, nat_tests, not_full) }

fine_all : Grows → (full : ℕ) (cut : Cut) (before : Bytes) (above : ℕ) (more : List Entry) → 5 < full → full ≤ 4096 → AscendFrom before above more → FineCut full cut → FineCut full (fold (cut_on full) cut more)
fine_all grows full cut before above [] some most each fine = fine
fine_all grows full cut before above (e ∷ more) some most each fine =
    fine_all grows full (cut_on full cut e) e.key e.number more some most each.2 (fine_on grows full cut e some most each.0 fine)

last_small : (full : ℕ) (closed : List (List Entry)) (begun : List Entry) → full ≤ 4096 → AreSmall closed → length (block_bytes begun) < full → AreSmall (with_last closed begun)
last_small full closed [] most small room = small
last_small full closed (e ∷ begun) most small room = small_push closed (e ∷ begun) small (omega arith) (omega (arith, room, most))

-- the blocks of a table are small
small_blocks : Grows → (full : ℕ) (es : List Entry) → 5 < full → full ≤ 4096 → AreSorted es → AreSmall (blocks_of full es)
small_blocks grows full es some most sorted =
    let start : FineCut full (record { closed = []; begun = [] }) = record { small = none_small; room = omega (arith, length-none, some) } in
    let fine = fine_all grows full (record { closed = []; begun = [] }) [] 0 es some most sorted start in
    last_small full (cut_of full es).closed (cut_of full es).begun most fine.small fine.room

each_block : (before : Bytes) (above : ℕ) (blocks : List (List Entry)) → AscendFrom before above (joined blocks) → AreSmall blocks → AreBlocks blocks
unfolding AreSmall
each_block before above [] each small = tt
each_block before above (b ∷ blocks) each small = (
  record { some = small.0; small = small.1; each = sorted_rest before above [] b (front_ascends before above b (joined blocks) each); spelled = refl },
  each_block (last_key b) (last_number b) blocks (rest_ascends before above b (joined blocks) small.0 each) small.2,
)

-- each block of a table is one
pub are_blocks : Grows → (full : ℕ) (es : List Entry) → 5 < full → full ≤ 4096 → AreSorted es → AreBlocks (blocks_of full es)
are_blocks grows full es some most sorted = each_block [] 0 (blocks_of full es) (subst AreSorted (sym (parts_cut full es).whole) sorted) (small_blocks grows full es some most sorted)

length-items : (place : ℕ) (blocks : List (List Entry)) → length (items_from place blocks) ≡ length blocks
length-items place [] = refl
length-items place (b ∷ blocks) = omega (arith, length-items (place + length (block_bytes b)) blocks)

some_blocks : (blocks : List (List Entry)) → 0 < length (joined blocks) → 0 < length blocks
some_blocks [] some = some
some_blocks (b ∷ blocks) some = omega arith

-- a written table opens, with its index and its filter
pub written_opens : Grows → FilterIsLong → (row : TableRow) (full number : ℕ) (es : List Entry) → 5 < full → full ≤ 4096 → AreSorted es → 0 < length es → length es ≤ 1717986918 → length (index_bytes (items_from 0 (blocks_of full es))) ≤ 2147483648
    → row.number ≡ number → row.entries ≡ length es → row.bytes ≡ length (table_bytes full number es) → OpensAs row (items_from 0 (blocks_of full es)) (key_filter es) (table_bytes full number es)
unfolding blocks_table
written_opens grows long row full number es some_bytes most sorted some few short is_number is_entries is_bytes =
    let blocks = blocks_of full es in
    let whole = (parts_cut full es).whole in
    let body = body_bytes blocks in
    let none_before : 0 + length body ≡ length body = omega arith in
    let index = index_bytes (items_from 0 blocks) in
    let filter = key_filter es in
    let f : Footer = record { number = number; index = length body; index_len = length index; filter = length body + length index; filter_len = length filter; entries = length es } in
    record {
      body = body;
      footer = f;
      spelled = refl;
      agrees = record {
        number = sym is_number;
        entries = sym is_entries;
        few = omega (arith, is_entries, few);
        filter_len = long (length es) (map (λ e. mixed e.key) es) ∙ ap filter_length (sym is_entries);
        index_len = short;
        adjoin = refl;
        end = sym (is_bytes ∙ length-table number blocks es);
      };
      index = record {
        some = omega (arith, length-items 0 blocks, some_blocks blocks (omega (arith, ap length whole, some)));
        each = subst (λ n. AreItems 0 [] 0 n (items_from 0 blocks)) none_before (items_are 0 [] 0 blocks (subst AreSorted (sym whole) sorted) (small_blocks grows full es some_bytes most sorted));
        short = short;
      };
      body_len = refl;
      index_len = refl;
      filter_len = refl;
    }
