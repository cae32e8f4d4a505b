-- The text of the report.
use Rattle.std.specs.Prelude.{ℕ, zero, suc, ◌+◌, List, [], ◌∷◌, ◌++◌, codes}
use Rattle.std.specs.Fmt.{decimal}
use Rattle.peb_base.specs.Texts.{number_text}

-- the line of a level to which no table was written
abbrev pub level_text : ℕ → List ℕ
level_text level = codes "level " ++ decimal level
    ++ codes " tables 0 entries 0 bytes 0 cuts 0 short 0 lost 0\n"

-- the lines of so many levels, from 0 on
abbrev pub levels_text : ℕ → List ℕ
levels_text zero = []
levels_text (suc count) = levels_text count ++ level_text count

-- the last number, and the levels up to the last
abbrev pub report_text : ℕ → ℕ → List ℕ
report_text last last_level = codes "last " ++ number_text last ++ 10 ∷ levels_text (last_level + 1)
