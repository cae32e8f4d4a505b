-- What every legal record leaves.
use Rattle.std.specs.Prelude.{◌≡◌, ℕ, suc, ◌+◌, ◌*◌, ◌^◌, ◌<◌, ◌≤◌, ◌⊎◌, true, Some, length, map}
use Rattle.peb_base.specs.Choice.{level_of}
use Rattle.flsm_model.specs.declared.chosen.Chosen.{Chosen}
use Rattle.peb_base.specs.Keys.{Bytes, key_le}
use Rattle.peb_base.specs.Numbers.{session_of}
use Rattle.peb_base.specs.Profiles.{column, Column}
use Rattle.peb_base.specs.declared.profile.Profile.{Profile}
use Rattle.peb_base.specs.declared.table_row.TableRow.{TableRow}
use Rattle.flsm_model.specs.Ranges.{keys_ascend, range_of}
use Rattle.flsm_model.specs.Shape.{Record, Shape, guards_at, has_number, shape_of}
use Rattle.flsm_model.specs.Fits.{lies_in, numbers_differ, is_legal_record, is_guard}
use Rattle.peb_base.specs.Members.{IsIn}

-- the numbers of tables: those of live tables differ, and each is of an earlier session or used in
-- this one
pub record NumbersSound (s : Shape) : Type 0 where
  pub own : (n : ℕ) → has_number n s.used ≡ true → session_of n ≡ s.session
  pub known : (r : TableRow) → IsIn r s.live
      → (session_of r.number < s.session) ⊎ (has_number r.number s.used ≡ true)
  pub differ : numbers_differ (map (λ r. r.number) s.live) ≡ true

-- the shape of a legal record: each live table lies in one guard of its level, numbers are sound,
-- and so are logs
pub record IsSound (o : Column) (s : Shape) : Type 0 where
  pub count : length s.guards ≡ o.last_level
  pub rows : (r : TableRow) → IsIn r s.live → key_le r.smallest r.largest ≡ true
  pub inside : (r : TableRow) → IsIn r s.live → 0 < r.level
      → lies_in (range_of (guards_at s r.level) r.smallest) r ≡ true
  pub numbers : NumbersSound s

-- so it is of each legal record
abbrev pub RecordsSound : Type 0
RecordsSound =
    (p : Profile) (r : Record) → is_legal_record (column p) r ≡ true
    → IsSound (column p) (shape_of (column p) r)

-- guards ascend strictly, a guard of a level is one of the next, and no live table lies below the
-- last level
pub record IsNested (o : Column) (s : Shape) : Type 0 where
  pub rise : (level : ℕ) → keys_ascend (guards_at s level) ≡ true
  pub nested :
      (level : ℕ) (key : Bytes) → 1 ≤ level → level < o.last_level → is_guard s level key ≡ true
      → is_guard s (suc level) key ≡ true
  pub deep : (r : TableRow) → IsIn r s.live → r.level ≤ o.last_level

-- so it is of each legal record
abbrev pub RecordsNested : Type 0
RecordsNested =
    (p : Profile) (r : Record) → is_legal_record (column p) r ≡ true
    → IsNested (column p) (shape_of (column p) r)

-- logs and flush marks are bounded by the session, and each candidate has the shallowest level that
-- it meets
pub record IsBounded (o : Column) (s : Shape) : Type 0 where
  pub least : 1 ≤ s.log
  pub room : s.log ≤ s.session * 2 ^ 41 + 1
  pub flushed : s.to < (s.session + 1) * 2 ^ 40
  pub choices : (c : Chosen) → IsIn c s.chosen → level_of o c.key ≡ Some c.level

-- so it is of each legal record
abbrev pub RecordsBounded : Type 0
RecordsBounded =
    (p : Profile) (r : Record) → is_legal_record (column p) r ≡ true
    → IsBounded (column p) (shape_of (column p) r)
