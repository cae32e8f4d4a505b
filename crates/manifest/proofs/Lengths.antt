-- How long spellings are.
use Rattle.std.proofs.Common.{◌≡◌, ℕ, ◌+◌, ◌<◌, List, [], ◌∷◌, ◌++◌, length, take, get_or, sym, ap, ◌∙◌, arith, length-append}
use Rattle.std.specs.Prelude.{flat_map}
use Rattle.std.specs.List.{AllByRecursion}
use Rattle.std.proofs.lemmas.List.{take_more}
use Rattle.peb_base.specs.declared.table_row.TableRow.{TableRow}
use Rattle.flsm_model.specs.declared.chosen.Chosen.{Chosen}
use Rattle.peb_base.specs.Keys.{Bytes}
use Rattle.manifest.specs.Edits.{edit_bytes}
use Rattle.manifest.specs.Fields.{word_bytes, byte_bytes, key_bytes, list_bytes, row_bytes, chosen_bytes}
use Rattle.flsm_model.specs.declared.edit.Edit.TheVariants.{Flush, Cut}
use Rattle.manifest.proofs.Items.{flat-push, all-push}

pub length-key_before : (key rest : List ℕ) → length (key_bytes key ++ rest) ≡ 2 + length key + length rest
length-key_before key rest = let e : length (key ++ rest) ≡ length key + length rest = length-append key rest in omega (arith, e)

abbrev pub numbers_of_row : TableRow → List ℕ
numbers_of_row r = word_bytes r.entries ++ (word_bytes r.raw ++ (word_bytes r.first ++ (word_bytes r.last ++ word_bytes r.bytes)))

pub length-row : (r : TableRow) → length (row_bytes r) ≡ 54 + length r.smallest + length r.largest
length-row r =
    let one = length-key_before r.smallest (key_bytes r.largest ++ numbers_of_row r) in
    let two = length-key_before r.largest (numbers_of_row r) in omega (arith, one, two)

pub length-chosen : (c : Chosen) → length (chosen_bytes c) ≡ 3 + length c.key
length-chosen c = let one = length-key_before c.key (byte_bytes c.level) in omega (arith, one)

-- one item more
pub length-taken : {X : Type 0} (bytes_of : X → List ℕ) (xs : List X) (i : ℕ) (x : X) → i < length xs → x ≡ get_or xs i x → length (flat_map bytes_of (take (i + 1) xs)) ≡ length (flat_map bytes_of (take i xs)) + length (bytes_of x)
length-taken bytes_of xs i x within is =
    ap (λ l. length (flat_map bytes_of l)) (take_more xs i x within)
    ∙ ap (λ y. length (flat_map bytes_of (take i xs ++ y ∷ []))) (sym is)
    ∙ ap length (flat-push bytes_of (take i xs) x)
    ∙ length-append (flat_map bytes_of (take i xs)) (bytes_of x)

pub all-taken : {X : Type 0} (fits : X → Type 0) (xs : List X) (i : ℕ) (x : X) → i < length xs → x ≡ get_or xs i x → AllByRecursion fits (take i xs) → fits x → AllByRecursion fits (take (i + 1) xs)
all-taken fits xs i x within is each fits_x =
    let taken : take (i + 1) xs ≡ take i xs ++ x ∷ [] = take_more xs i x within ∙ ap (λ y. take i xs ++ y ∷ []) (sym is) in
    rw taken (all-push fits (take i xs) x each fits_x)

pub length-flush : (row : TableRow) (from to log : ℕ) (chosen : List Chosen) → length (edit_bytes (Flush row from to log chosen)) ≡ 25 + length (row_bytes row) + length (list_bytes chosen_bytes chosen)
length-flush row from to log chosen = let one = length-append (row_bytes row) (word_bytes from ++ (word_bytes to ++ (word_bytes log ++ list_bytes chosen_bytes chosen))) in omega (arith, one)

pub length-lists : (inputs : List ℕ) (outputs : List TableRow) → length (list_bytes word_bytes inputs ++ list_bytes row_bytes outputs) ≡ length (list_bytes word_bytes inputs) + length (list_bytes row_bytes outputs)
length-lists inputs outputs = length-append (list_bytes word_bytes inputs) (list_bytes row_bytes outputs)

pub length-cut : (level : ℕ) (keys : List Bytes) (inputs : List ℕ) (outputs : List TableRow) → length (edit_bytes (Cut level keys inputs outputs)) ≡ 2 + length (list_bytes key_bytes keys) + length (list_bytes word_bytes inputs) + length (list_bytes row_bytes outputs)
length-cut level keys inputs outputs =
    let one = length-append (list_bytes key_bytes keys) (list_bytes word_bytes inputs ++ list_bytes row_bytes outputs) in omega (arith, one, length-lists inputs outputs)
