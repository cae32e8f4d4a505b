-- The header of a log or manifest file.
use Rattle.std.specs.Prelude.{◌≡◌, ℕ, ◌*◌, ◌^◌, ◌<◌, ◌≤◌, List, ◌∷◌, ◌++◌}
use Rattle.byteorder.specs.Endian.{big_bytes}
use Rattle.disk_model.specs.declared.journal_file.JournalFile.{JournalFile}
use Rattle.disk_model.specs.declared.journal_file.JournalFile.TheVariants.{ManifestA, ManifestB, Log}
use Rattle.peb_base.specs.declared.profile.Profile.{Profile}
use Rattle.peb_base.specs.declared.profile.Profile.TheVariants.{Normal, Small}
use Rattle.record_log.specs.declared.header.Header.{Header}

-- the byte that stands for a profile
abbrev pub profile_code : Profile → ℕ
profile_code Normal = 0
profile_code Small = 1

-- the 24 bytes of a header: its gate, open; FLSM; and its fields
abbrev pub header_bytes : Header → List ℕ
header_bytes h =
    1 ∷ 70 ∷ 76 ∷ 83 ∷ 77 ∷ h.kind ∷ h.form ∷ profile_code h.profile
    ∷ (big_bytes 8 h.number ++ big_bytes 8 h.session)

-- the headers that a file may have: those of a log have its number, which its session bounds; those
-- of a manifest have no session
abbrev pub IsHeaderOf : JournalFile → Header → Type 0
IsHeaderOf (Log n) h = (h.kind ≡ 76) × (h.form ≡ 1) × (h.number ≡ n) × (h.number < 2 ^ 64)
    × (h.session < 2 ^ 64) × (h.number ≤ 2 ^ 41 * h.session)
IsHeaderOf ManifestA h = (h.kind ≡ 77) × (h.form ≡ 1) × (h.number ≡ 1) × (h.session ≡ 0)
IsHeaderOf ManifestB h = (h.kind ≡ 77) × (h.form ≡ 1) × (h.number ≡ 1) × (h.session ≡ 0)

-- the header of a log
abbrev pub log_header : Profile → ℕ → ℕ → Header
log_header profile number session =
    record { kind = 76; form = 1; profile = profile; number = number; session = session }
