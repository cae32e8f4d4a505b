-- The status and the line of each cause.
use Rattle.std.specs.Prelude.{ℕ, List, [], ◌∷◌, ◌++◌, codes}
use Rattle.std.specs.Fmt.{decimal}
use Rattle.peb_base.specs.Texts.{file_text, limit_text, profile_text}
use Rattle.script.specs.declared.cause.Cause.{Cause}
use Rattle.script.specs.declared.cause.Cause.TheVariants as causes
use Rattle.script.specs.Line.{why_text}

-- the program's status
abbrev pub status_of : Cause → ℕ
status_of causes.Done = 0
status_of causes.Usage = 2
status_of (causes.Script script line why) = 3
status_of causes.Journal = 4
status_of (causes.Damaged file at) = 6
status_of causes.Memory = 7
status_of (causes.Limit kind n) = 8
status_of (causes.Sink sink) = 9
status_of (causes.Source source) = 10
status_of (causes.Profile have asked) = 11

-- the words for a cause
abbrev pub cause_text : Cause → List ℕ
cause_text causes.Done = codes "done"
cause_text causes.Usage = codes "usage"
cause_text (causes.Script script line why) = codes "script " ++ decimal script ++ codes " line "
    ++ decimal line ++ 32 ∷ why_text why
cause_text causes.Journal = codes "journal"
cause_text (causes.Damaged file at) = codes "damaged " ++ file_text file ++ 32 ∷ decimal at
cause_text causes.Memory = codes "memory"
cause_text (causes.Limit kind n) = codes "limit " ++ limit_text kind ++ 32 ∷ decimal n
cause_text (causes.Sink sink) = codes "sink " ++ decimal sink
cause_text (causes.Source source) = codes "source " ++ decimal source
cause_text (causes.Profile have asked) = codes "profile " ++ profile_text have
    ++ 32 ∷ profile_text asked

-- the line on standard error; where the run is done there is none
abbrev pub cause_line : Cause → List ℕ
cause_line causes.Done = []
cause_line cause = cause_text cause ++ 10 ∷ []
