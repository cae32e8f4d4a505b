-- The kinds of edits, told by the byte in front.
use Rattle.std.proofs.Common.{◌≡◌, ◌≢◌, ℕ, Bool, false, List, ◌∷◌, ◌++◌, drop, get_or, refl, ap, arith, nat_eq}
use Rattle.peb_base.specs.Keys.{Bytes}
use Rattle.peb_base.specs.declared.table_row.TableRow.{TableRow}
use Rattle.flsm_model.specs.declared.chosen.Chosen.{Chosen}
use Rattle.flsm_model.specs.declared.edit.Edit.{Edit}
use Rattle.flsm_model.specs.declared.edit.Edit.TheVariants.{Open, Flush, Move, Cut, Merge}
use Rattle.manifest.specs.Edits.{edit_bytes, IsEdit}
use Rattle.manifest.specs.FieldLaws.{words_apart, places_apart, bytes_apart, flags_apart, keys_apart, lists_apart, pairs_apart, rows_apart, chosen_apart}
use Rattle.manifest.specs.Fields.{AreApart, IsWord, word_bytes, IsNumber, IsByte, byte_bytes, flag_bytes, IsKey, key_bytes, IsList, list_bytes, IsRow, row_bytes, IsChosen, chosen_bytes, AreBoth, pair_bytes}

-- no edit stands at the front
abbrev pub IsNoEdit : List ℕ → Type 0
IsNoEdit bytes = (edit : Edit) (rest : List ℕ) → IsEdit edit → bytes ≢ edit_bytes edit ++ rest

-- no value of these fields stands at the front
abbrev pub IsNone : {X : Type 0} → (X → Type 0) → (X → List ℕ) → List ℕ → Type 0
IsNone {X} fits spelled bytes = (value : X) (rest : List ℕ) → fits value → bytes ≢ spelled value ++ rest

apart_by : {A : Type 0} (m n : ℕ) (x y : List ℕ) → nat_eq m n ≡ false → m ∷ x ≡ n ∷ y → A
apart_by m n x y differ same = let e : m ≡ n = ap (λ l. get_or l 0 0) same in absurd (grind (arith, e, differ))

abbrev pub OpenFields : Type 0
OpenFields = ℕ × ℕ

abbrev pub AreOpenFields : OpenFields → Type 0
AreOpenFields = AreBoth IsWord IsWord

abbrev pub open_bytes : OpenFields → List ℕ
open_bytes = pair_bytes word_bytes word_bytes

open_apart : AreApart AreOpenFields open_bytes
open_apart = pairs_apart words_apart words_apart

pub no_open : (bytes : List ℕ) → IsNone AreOpenFields open_bytes bytes → IsNoEdit (1 ∷ bytes)
no_open bytes none (Open session log) rest is = λ same. none (session, log) rest is (ap (drop 1) same)
no_open bytes none (Flush row from to log chosen) rest is = λ same. apart_by 1 2 _ _ refl same
no_open bytes none (Move level floor inputs outputs) rest is = λ same. apart_by 1 3 _ _ refl same
no_open bytes none (Cut level keys inputs outputs) rest is = λ same. apart_by 1 4 _ _ refl same
no_open bytes none (Merge floor whole inputs outputs) rest is = λ same. apart_by 1 5 _ _ refl same

abbrev pub FlushFields : Type 0
FlushFields = TableRow × (ℕ × (ℕ × (ℕ × List Chosen)))

abbrev pub AreFlushFields : FlushFields → Type 0
AreFlushFields = AreBoth IsRow (AreBoth IsNumber (AreBoth IsNumber (AreBoth IsWord (IsList IsChosen))))

abbrev pub flush_bytes : FlushFields → List ℕ
flush_bytes = pair_bytes row_bytes (pair_bytes word_bytes (pair_bytes word_bytes (pair_bytes word_bytes (list_bytes chosen_bytes))))

flush_apart : AreApart AreFlushFields flush_bytes
flush_apart = pairs_apart rows_apart (pairs_apart places_apart (pairs_apart places_apart (pairs_apart words_apart (lists_apart chosen_apart))))

pub no_flush : (bytes : List ℕ) → IsNone AreFlushFields flush_bytes bytes → IsNoEdit (2 ∷ bytes)
no_flush bytes none (Open session log) rest is = λ same. apart_by 2 1 _ _ refl same
no_flush bytes none (Flush row from to log chosen) rest is = λ same. none (row, (from, (to, (log, chosen)))) rest is (ap (drop 1) same)
no_flush bytes none (Move level floor inputs outputs) rest is = λ same. apart_by 2 3 _ _ refl same
no_flush bytes none (Cut level keys inputs outputs) rest is = λ same. apart_by 2 4 _ _ refl same
no_flush bytes none (Merge floor whole inputs outputs) rest is = λ same. apart_by 2 5 _ _ refl same

abbrev pub MoveFields : Type 0
MoveFields = ℕ × (ℕ × (List ℕ × List TableRow))

abbrev pub AreMoveFields : MoveFields → Type 0
AreMoveFields = AreBoth IsByte (AreBoth IsNumber (AreBoth (IsList IsWord) (IsList IsRow)))

abbrev pub move_bytes : MoveFields → List ℕ
move_bytes = pair_bytes byte_bytes (pair_bytes word_bytes (pair_bytes (list_bytes word_bytes) (list_bytes row_bytes)))

move_apart : AreApart AreMoveFields move_bytes
move_apart = pairs_apart bytes_apart (pairs_apart places_apart (pairs_apart (lists_apart words_apart) (lists_apart rows_apart)))

pub no_move : (bytes : List ℕ) → IsNone AreMoveFields move_bytes bytes → IsNoEdit (3 ∷ bytes)
no_move bytes none (Open session log) rest is = λ same. apart_by 3 1 _ _ refl same
no_move bytes none (Flush row from to log chosen) rest is = λ same. apart_by 3 2 _ _ refl same
no_move bytes none (Move level floor inputs outputs) rest is = λ same. none (level, (floor, (inputs, outputs))) rest is (ap (drop 1) same)
no_move bytes none (Cut level keys inputs outputs) rest is = λ same. apart_by 3 4 _ _ refl same
no_move bytes none (Merge floor whole inputs outputs) rest is = λ same. apart_by 3 5 _ _ refl same

abbrev pub CutFields : Type 0
CutFields = ℕ × (List Bytes × (List ℕ × List TableRow))

abbrev pub AreCutFields : CutFields → Type 0
AreCutFields = AreBoth IsByte (AreBoth (IsList IsKey) (AreBoth (IsList IsWord) (IsList IsRow)))

abbrev pub cut_bytes : CutFields → List ℕ
cut_bytes = pair_bytes byte_bytes (pair_bytes (list_bytes key_bytes) (pair_bytes (list_bytes word_bytes) (list_bytes row_bytes)))

cut_apart : AreApart AreCutFields cut_bytes
cut_apart = pairs_apart bytes_apart (pairs_apart (lists_apart keys_apart) (pairs_apart (lists_apart words_apart) (lists_apart rows_apart)))

pub no_cut : (bytes : List ℕ) → IsNone AreCutFields cut_bytes bytes → IsNoEdit (4 ∷ bytes)
no_cut bytes none (Open session log) rest is = λ same. apart_by 4 1 _ _ refl same
no_cut bytes none (Flush row from to log chosen) rest is = λ same. apart_by 4 2 _ _ refl same
no_cut bytes none (Move level floor inputs outputs) rest is = λ same. apart_by 4 3 _ _ refl same
no_cut bytes none (Cut level keys inputs outputs) rest is = λ same. none (level, (keys, (inputs, outputs))) rest is (ap (drop 1) same)
no_cut bytes none (Merge floor whole inputs outputs) rest is = λ same. apart_by 4 5 _ _ refl same

abbrev pub MergeFields : Type 0
MergeFields = ℕ × (Bool × (List ℕ × List TableRow))

abbrev pub AreMergeFields : MergeFields → Type 0
AreMergeFields = AreBoth IsNumber (AreBoth (λ b. Unit {0}) (AreBoth (IsList IsWord) (IsList IsRow)))

abbrev pub merge_bytes : MergeFields → List ℕ
merge_bytes = pair_bytes word_bytes (pair_bytes flag_bytes (pair_bytes (list_bytes word_bytes) (list_bytes row_bytes)))

merge_apart : AreApart AreMergeFields merge_bytes
merge_apart = pairs_apart places_apart (pairs_apart flags_apart (pairs_apart (lists_apart words_apart) (lists_apart rows_apart)))

pub no_merge : (bytes : List ℕ) → IsNone AreMergeFields merge_bytes bytes → IsNoEdit (5 ∷ bytes)
no_merge bytes none (Open session log) rest is = λ same. apart_by 5 1 _ _ refl same
no_merge bytes none (Flush row from to log chosen) rest is = λ same. apart_by 5 2 _ _ refl same
no_merge bytes none (Move level floor inputs outputs) rest is = λ same. apart_by 5 3 _ _ refl same
no_merge bytes none (Cut level keys inputs outputs) rest is = λ same. apart_by 5 4 _ _ refl same
no_merge bytes none (Merge floor whole inputs outputs) rest is = λ same. none (floor, (whole, (inputs, outputs))) rest is (ap (drop 1) same)

-- a byte that tells no kind
pub no_kind : (kind : ℕ) (bytes : List ℕ) → kind ≢ 1 → kind ≢ 2 → kind ≢ 3 → kind ≢ 4 → kind ≢ 5 → IsNoEdit (kind ∷ bytes)
no_kind kind bytes n1 n2 n3 n4 n5 (Open session log) rest is = λ same. n1 (ap (λ l. get_or l 0 0) same)
no_kind kind bytes n1 n2 n3 n4 n5 (Flush row from to log chosen) rest is = λ same. n2 (ap (λ l. get_or l 0 0) same)
no_kind kind bytes n1 n2 n3 n4 n5 (Move level floor inputs outputs) rest is = λ same. n3 (ap (λ l. get_or l 0 0) same)
no_kind kind bytes n1 n2 n3 n4 n5 (Cut level keys inputs outputs) rest is = λ same. n4 (ap (λ l. get_or l 0 0) same)
no_kind kind bytes n1 n2 n3 n4 n5 (Merge floor whole inputs outputs) rest is = λ same. n5 (ap (λ l. get_or l 0 0) same)

-- no byte, no kind
pub no_byte : (bytes : List ℕ) → IsNone IsByte byte_bytes bytes → IsNoEdit bytes
no_byte bytes none (Open session log) rest is = λ same. none 1 _ (omega arith) same
no_byte bytes none (Flush row from to log chosen) rest is = λ same. none 2 _ (omega arith) same
no_byte bytes none (Move level floor inputs outputs) rest is = λ same. none 3 _ (omega arith) same
no_byte bytes none (Cut level keys inputs outputs) rest is = λ same. none 4 _ (omega arith) same
no_byte bytes none (Merge floor whole inputs outputs) rest is = λ same. none 5 _ (omega arith) same

-- no edit begins another
pub edits_apart : (a b : Edit) (x y : List ℕ) → IsEdit a → IsEdit b → edit_bytes a ++ x ≡ edit_bytes b ++ y → (a ≡ b) × (x ≡ y)
edits_apart (Open session log) (Open session2 log2) x y is_a is_b same = let both = open_apart.one (session, log) (session2, log2) x y is_a is_b (ap (drop 1) same) in ((λ i. Open (both.0 i).0 (both.0 i).1), both.1)
edits_apart (Open session log) (Flush row2 from2 to2 log2 chosen2) x y is_a is_b same = apart_by 1 2 _ _ refl same
edits_apart (Open session log) (Move level2 floor2 inputs2 outputs2) x y is_a is_b same = apart_by 1 3 _ _ refl same
edits_apart (Open session log) (Cut level2 keys2 inputs2 outputs2) x y is_a is_b same = apart_by 1 4 _ _ refl same
edits_apart (Open session log) (Merge floor2 whole2 inputs2 outputs2) x y is_a is_b same = apart_by 1 5 _ _ refl same
edits_apart (Flush row from to log chosen) (Open session2 log2) x y is_a is_b same = apart_by 2 1 _ _ refl same
edits_apart (Flush row from to log chosen) (Flush row2 from2 to2 log2 chosen2) x y is_a is_b same = let both = flush_apart.one (row, (from, (to, (log, chosen)))) (row2, (from2, (to2, (log2, chosen2)))) x y is_a is_b (ap (drop 1) same) in ((λ i. Flush (both.0 i).0 (both.0 i).1.0 (both.0 i).1.1.0 (both.0 i).1.1.1.0 (both.0 i).1.1.1.1), both.1)
edits_apart (Flush row from to log chosen) (Move level2 floor2 inputs2 outputs2) x y is_a is_b same = apart_by 2 3 _ _ refl same
edits_apart (Flush row from to log chosen) (Cut level2 keys2 inputs2 outputs2) x y is_a is_b same = apart_by 2 4 _ _ refl same
edits_apart (Flush row from to log chosen) (Merge floor2 whole2 inputs2 outputs2) x y is_a is_b same = apart_by 2 5 _ _ refl same
edits_apart (Move level floor inputs outputs) (Open session2 log2) x y is_a is_b same = apart_by 3 1 _ _ refl same
edits_apart (Move level floor inputs outputs) (Flush row2 from2 to2 log2 chosen2) x y is_a is_b same = apart_by 3 2 _ _ refl same
edits_apart (Move level floor inputs outputs) (Move level2 floor2 inputs2 outputs2) x y is_a is_b same = let both = move_apart.one (level, (floor, (inputs, outputs))) (level2, (floor2, (inputs2, outputs2))) x y is_a is_b (ap (drop 1) same) in ((λ i. Move (both.0 i).0 (both.0 i).1.0 (both.0 i).1.1.0 (both.0 i).1.1.1), both.1)
edits_apart (Move level floor inputs outputs) (Cut level2 keys2 inputs2 outputs2) x y is_a is_b same = apart_by 3 4 _ _ refl same
edits_apart (Move level floor inputs outputs) (Merge floor2 whole2 inputs2 outputs2) x y is_a is_b same = apart_by 3 5 _ _ refl same
edits_apart (Cut level keys inputs outputs) (Open session2 log2) x y is_a is_b same = apart_by 4 1 _ _ refl same
edits_apart (Cut level keys inputs outputs) (Flush row2 from2 to2 log2 chosen2) x y is_a is_b same = apart_by 4 2 _ _ refl same
edits_apart (Cut level keys inputs outputs) (Move level2 floor2 inputs2 outputs2) x y is_a is_b same = apart_by 4 3 _ _ refl same
edits_apart (Cut level keys inputs outputs) (Cut level2 keys2 inputs2 outputs2) x y is_a is_b same = let both = cut_apart.one (level, (keys, (inputs, outputs))) (level2, (keys2, (inputs2, outputs2))) x y is_a is_b (ap (drop 1) same) in ((λ i. Cut (both.0 i).0 (both.0 i).1.0 (both.0 i).1.1.0 (both.0 i).1.1.1), both.1)
edits_apart (Cut level keys inputs outputs) (Merge floor2 whole2 inputs2 outputs2) x y is_a is_b same = apart_by 4 5 _ _ refl same
edits_apart (Merge floor whole inputs outputs) (Open session2 log2) x y is_a is_b same = apart_by 5 1 _ _ refl same
edits_apart (Merge floor whole inputs outputs) (Flush row2 from2 to2 log2 chosen2) x y is_a is_b same = apart_by 5 2 _ _ refl same
edits_apart (Merge floor whole inputs outputs) (Move level2 floor2 inputs2 outputs2) x y is_a is_b same = apart_by 5 3 _ _ refl same
edits_apart (Merge floor whole inputs outputs) (Cut level2 keys2 inputs2 outputs2) x y is_a is_b same = apart_by 5 4 _ _ refl same
edits_apart (Merge floor whole inputs outputs) (Merge floor2 whole2 inputs2 outputs2) x y is_a is_b same = let both = merge_apart.one (floor, (whole, (inputs, outputs))) (floor2, (whole2, (inputs2, outputs2))) x y is_a is_b (ap (drop 1) same) in ((λ i. Merge (both.0 i).0 (both.0 i).1.0 (both.0 i).1.1.0 (both.0 i).1.1.1), both.1)
