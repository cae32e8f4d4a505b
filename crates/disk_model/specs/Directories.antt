-- What devices tell of directories.
use Rattle.std.specs.Prelude.{ℕ, ◌+◌, List, Option, None, Some}
use Rattle.disk_model.specs.Tables.{capped}

-- the names in bytes of the directory that was chosen last, and of the one whose journal was handed
-- out last, and how often each was done, counts that stay at 2^64 - 1
pub record Directories : Type 0 where
  pub chosen : Option (List ℕ)
  pub choices : ℕ
  pub opened : Option (List ℕ)
  pub openings : ℕ

-- none was chosen, and no journal was handed out
abbrev pub no_directories : Directories
no_directories = record { chosen = None; choices = 0; opened = None; openings = 0 }

-- a directory of this name was chosen
abbrev pub after_choice : List ℕ → Directories → Directories
after_choice name directories =
    record directories { chosen = Some name; choices = capped (directories.choices + 1) }

-- the journal of the directory that was chosen last was handed out
abbrev pub after_opening : Directories → Directories
after_opening directories =
    record directories { opened = directories.chosen; openings = capped (directories.openings + 1) }
