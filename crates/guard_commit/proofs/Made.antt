-- The tables of pieces: what their rows tell.
use Rattle.std.proofs.Common.{◌≡◌, ℕ, suc, ◌+◌, Bool, true, false, cond, not, List, [], ◌∷◌, ◌++◌, length, map, refl, ap, ◌∙◌, subst, arith}
use Rattle.std.proofs.lemmas.List.{map-append}
use Rattle.std.specs.List.{AllZip, flat_map}
use Rattle.disk_model.specs.declared.table_handle.TableHandle.{Ghosts}
use Rattle.peb_base.specs.Keys.{Bytes, key_lt}
use Rattle.peb_base.specs.Profiles.{Column}
use Rattle.peb_base.specs.Tables.{table_length}
use Rattle.peb_base.specs.declared.entry.Entry.{Entry}
use Rattle.flsm_model.specs.Compaction.{before_key, from_key, pieces}
use Rattle.flsm_model.specs.declared.job.Job.{Job}
use Rattle.flsm_model.specs.Trees.{Describes}
use Rattle.table_file.specs.Form.{table_bytes, blocks_table, blocks_of}
use Rattle.table_file.specs.Pieces.{Piece, some_piece, pieces_from, whole_length}
use Rattle.table_file.specs.PieceWriting.{IsTableOfPiece, AreTablesOf}
use Rattle.table_file.specs.Tables.{TableParts}
use Rattle.guard_commit.specs.Cutting.{cut_from, rows_of, bytes_in, entries_in, IsCutOf}
use Rattle.guard_commit.specs.Reading.{IsHeld, WasRead}

-- what was read of tables that hold entries is what they hold
pub parts_told : {F : Type 0} (g : Ghosts F) (ts : List (TableParts F))
    (parts contents : List (List Entry)) → AllZip (WasRead g) ts parts → AllZip (IsHeld g) ts contents
    → parts ≡ contents
parts_told g [] [] [] h k = refl
parts_told g [] [] (c ∷ contents) h k = absurd k
parts_told g [] (p ∷ parts) contents h k = absurd h
parts_told g (t ∷ ts) [] contents h k = absurd h
parts_told g (t ∷ ts) (p ∷ parts) [] h k = absurd k
parts_told g (t ∷ ts) (p ∷ parts) (c ∷ contents) h k =
    (λ i. h.0.told c k.0 i ∷ parts_told g ts parts contents h.1 k.1 i)

-- ---- lengths

row_length : {F : Type 0} (g : Ghosts F) (full level : ℕ) (t : TableParts F) (p : Piece)
    → IsTableOfPiece g full level t p → t.row.bytes ≡ length (table_bytes full p.number p.entries)
row_length g full level t p is =
    is.table.row_bytes
    ∙ ap (λ n. length (blocks_table n (blocks_of full p.entries) p.entries)) is.row.number_is

-- the tables' lengths together
pub bytes_made : {F : Type 0} (g : Ghosts F) (full level : ℕ) (ts : List (TableParts F))
    (ps : List Piece) → AreTablesOf g full level ts ps → bytes_in (rows_of ts) ≡ whole_length full ps
bytes_made g full level [] [] h = refl
bytes_made g full level [] (p ∷ ps) h = absurd h
bytes_made g full level (t ∷ ts) [] h = absurd h
bytes_made g full level (t ∷ ts) (p ∷ ps) h =
    omega (arith, row_length g full level t p h.0, bytes_made g full level ts ps h.1)

-- ---- contents

-- a table's bytes are as long as the model reckons
abbrev pub LengthIs : Type 0
LengthIs = (o : Column) (number : ℕ) (es : List Entry)
    → length (table_bytes o.block_bytes number es) ≡ table_length o es

-- the rows describe the pieces
pub described : LengthIs → {F : Type 0} (g : Ghosts F) (o : Column) (level : ℕ)
    (ts : List (TableParts F)) (ps : List Piece) → AreTablesOf g o.block_bytes level ts ps
    → AllZip (Describes o) (rows_of ts) (map (λ p. p.entries) ps)
described len g o level [] [] h = tt
described len g o level [] (p ∷ ps) h = absurd h
described len g o level (t ∷ ts) [] h = absurd h
described len g o level (t ∷ ts) (p ∷ ps) h = (
  record {
    tells = h.0.table.row_is;
    bytes = row_length g o.block_bytes level t p h.0 ∙ len o p.number p.entries;
  },
  described len g o level ts ps h.1,
)

-- pieces without their numbers are those of the model
abbrev pub PiecesAre : Type 0
PiecesAre = (n : ℕ) (keys : List Bytes) (es : List Entry)
    → map (λ p. p.entries) (pieces_from n keys es) ≡ pieces es keys

pub cut_is : PiecesAre → (n : ℕ) (keys : List Bytes) (parts : List (List Entry))
    → map (λ p. p.entries) (cut_from n keys parts) ≡ flat_map (λ es. pieces es keys) parts
cut_is are n keys [] = refl
cut_is are n keys (es ∷ parts) =
    map-append (λ p. p.entries) (pieces_from n keys es) (cut_from (n + suc (length keys)) keys parts)
    ∙ (λ i. are n keys es i ++ cut_is are (n + suc (length keys)) keys parts i)

-- ---- counts

-- the entries of pieces
abbrev pub count_in : List Piece → ℕ
count_in [] = 0
count_in (p ∷ ps) = length p.entries + count_in ps

count_append : (ps qs : List Piece) → count_in (ps ++ qs) ≡ count_in ps + count_in qs
count_append [] qs = omega arith
count_append (p ∷ ps) qs = omega (arith, count_append ps qs)

count_some : (n : ℕ) (es : List Entry) → count_in (some_piece n es) ≡ length es
count_some n [] = refl
count_some n (e ∷ es) = omega arith

-- each entry is below a key, or isn't
count_parted : (k : Bytes) (es : List Entry)
    → length (before_key k es) + length (from_key k es) ≡ length es
count_parted k [] = refl
count_parted k (e ∷ es) = by (count_parted k es) (key_lt e.key k)
  where
    by : length (before_key k es) + length (from_key k es) ≡ length es → (b : Bool)
        → length (cond b (e ∷ before_key k es) (before_key k es))
        + length (cond (not b) (e ∷ from_key k es) (from_key k es)) ≡ length (e ∷ es)
    by ih true = omega (arith, ih)
    by ih false = omega (arith, ih)

count_pieces : (n : ℕ) (keys : List Bytes) (es : List Entry)
    → count_in (pieces_from n keys es) ≡ length es
count_pieces n [] es = count_some n es
count_pieces n (k ∷ keys) es =
    omega (
      arith,
      count_append (some_piece n (before_key k es)) (pieces_from (suc n) keys (from_key k es)),
      count_some n (before_key k es),
      count_pieces (suc n) keys (from_key k es),
      count_parted k es,
    )

count_cut : {F : Type 0} (g : Ghosts F) (n : ℕ) (keys : List Bytes) (ts : List (TableParts F))
    (parts : List (List Entry)) → AllZip (WasRead g) ts parts
    → count_in (cut_from n keys parts) ≡ entries_in (rows_of ts)
count_cut g n keys [] [] h = refl
count_cut g n keys [] (es ∷ parts) h = absurd h
count_cut g n keys (t ∷ ts) [] h = absurd h
count_cut g n keys (t ∷ ts) (es ∷ parts) h =
    omega (
      arith,
      count_append (pieces_from n keys es) (cut_from (n + suc (length keys)) keys parts),
      count_pieces n keys es,
      count_cut g (n + suc (length keys)) keys ts parts h.1,
      h.0.row.entries,
    )

count_made : {F : Type 0} (g : Ghosts F) (full level : ℕ) (ts : List (TableParts F))
    (ps : List Piece) → AreTablesOf g full level ts ps → entries_in (rows_of ts) ≡ count_in ps
count_made g full level [] [] h = refl
count_made g full level [] (p ∷ ps) h = absurd h
count_made g full level (t ∷ ts) [] h = absurd h
count_made g full level (t ∷ ts) (p ∷ ps) h =
    omega (arith, h.0.table.row_is.entries, count_made g full level ts ps h.1)

-- ---- what a Cut has made

module _ {F : Type 0} (g : Ghosts F) (full : ℕ) (j : Job) (tables made : List (TableParts F)) where
  -- as many entries as its tables have
  pub same_entries : IsCutOf g full j tables made
      → entries_in (rows_of made) ≡ entries_in (rows_of tables)
  same_entries is =
      count_made g full j.level made (cut_from j.numbers j.keys is.parts) is.pieces
      ∙ count_cut g j.numbers j.keys tables is.parts is.read

  -- over tables that hold entries, those of their pieces
  pub describes_told : LengthIs → PiecesAre → (o : Column) → full ≡ o.block_bytes
      → IsCutOf g full j tables made → (contents : List (List Entry))
      → AllZip (IsHeld g) tables contents
      → AllZip (Describes o) (rows_of made) (flat_map (λ es. pieces es j.keys) contents)
  describes_told len are o same is contents held =
      subst (λ (ls : List (List Entry)). AllZip (Describes o) (rows_of made) ls)
      (cut_is are j.numbers j.keys is.parts
      ∙ ap (flat_map (λ es. pieces es j.keys)) (parts_told g tables is.parts contents is.read held))
      (described len g o j.level made (cut_from j.numbers j.keys is.parts)
      (subst (λ f. AreTablesOf g f j.level made (cut_from j.numbers j.keys is.parts)) same is.pieces))
