-- How numbers and names are printed.
use Rattle.std.specs.Prelude.{ℕ, List, ◌∷◌, ◌++◌, codes}
use Rattle.std.specs.Fmt.{decimal}
use Rattle.peb_base.specs.Numbers.{session_of, count_of}
use Rattle.peb_base.specs.declared.file_name.FileName.{FileName}
use Rattle.peb_base.specs.declared.file_name.FileName.TheVariants as files
use Rattle.peb_base.specs.declared.limit_kind.LimitKind.{LimitKind}
use Rattle.peb_base.specs.declared.limit_kind.LimitKind.TheVariants as kinds
use Rattle.peb_base.specs.declared.profile.Profile.{Profile}
use Rattle.peb_base.specs.declared.profile.Profile.TheVariants as profiles

-- session and count with a dot between
abbrev pub number_text : ℕ → List ℕ
number_text n = decimal (session_of n) ++ 46 ∷ decimal (count_of n)

-- the name of a file
abbrev pub file_text : FileName → List ℕ
file_text files.ManifestA = codes "manifest-a"
file_text files.ManifestB = codes "manifest-b"
file_text (files.Log n) = codes "log-" ++ decimal n
file_text (files.Table n) = codes "table-" ++ number_text n

-- the name of a kind of limit
abbrev pub limit_text : LimitKind → List ℕ
limit_text kinds.Openings = codes "openings"
limit_text kinds.Operations = codes "operations"
limit_text kinds.Tables = codes "tables"
limit_text kinds.Tail = codes "tail"
limit_text kinds.Index = codes "index"
limit_text kinds.Entries = codes "entries"
limit_text kinds.Clients = codes "clients"
limit_text kinds.Workers = codes "workers"
limit_text kinds.Snapshots = codes "snapshots"
limit_text kinds.Script = codes "script"

-- the name of a profile
abbrev pub profile_text : Profile → List ℕ
profile_text profiles.Normal = codes "normal"
profile_text profiles.Small = codes "small"
