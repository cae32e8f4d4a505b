-- An edit as the body of a manifest's record.
use Rattle.std.specs.Prelude.{ℕ, List, ◌∷◌, ◌++◌}
use Rattle.flsm_model.specs.declared.edit.Edit.{Edit}
use Rattle.flsm_model.specs.declared.edit.Edit.TheVariants.{Open, Flush, Move, Cut, Merge}
use Rattle.manifest.specs.Fields.{IsWord, word_bytes, IsNumber, IsByte, byte_bytes, flag_bytes, IsKey, key_bytes, IsList, list_bytes, IsRow, row_bytes, IsChosen, chosen_bytes}

-- each field of the edit is in form
abbrev pub IsEdit : Edit → Type 0
IsEdit (Open session log) = IsWord session × IsWord log
IsEdit (Flush row from to log chosen) =
    IsRow row × (IsNumber from × (IsNumber to × (IsWord log × IsList IsChosen chosen)))
IsEdit (Move level floor inputs outputs) =
    IsByte level × (IsNumber floor × (IsList IsWord inputs × IsList IsRow outputs))
IsEdit (Cut level keys inputs outputs) =
    IsByte level × (IsList IsKey keys × (IsList IsWord inputs × IsList IsRow outputs))
IsEdit (Merge floor whole inputs outputs) =
    IsNumber floor × (Unit {0} × (IsList IsWord inputs × IsList IsRow outputs))

-- the byte of its kind, and its fields
abbrev pub edit_bytes : Edit → List ℕ
edit_bytes (Open session log) = 1 ∷ (word_bytes session ++ word_bytes log)
edit_bytes (Flush row from to log chosen) =
    2 ∷ (row_bytes row ++ (word_bytes from ++ (word_bytes to ++ (word_bytes log
    ++ list_bytes chosen_bytes chosen))))
edit_bytes (Move level floor inputs outputs) =
    3 ∷ (byte_bytes level ++ (word_bytes floor ++ (list_bytes word_bytes inputs
    ++ list_bytes row_bytes outputs)))
edit_bytes (Cut level keys inputs outputs) =
    4 ∷ (byte_bytes level ++ (list_bytes key_bytes keys ++ (list_bytes word_bytes inputs
    ++ list_bytes row_bytes outputs)))
edit_bytes (Merge floor whole inputs outputs) =
    5 ∷ (word_bytes floor ++ (flag_bytes whole ++ (list_bytes word_bytes inputs
    ++ list_bytes row_bytes outputs)))
