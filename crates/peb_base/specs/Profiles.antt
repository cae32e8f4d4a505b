-- The table of profiles.
use Rattle.std.specs.Prelude.{ℕ}
use Rattle.peb_base.specs.declared.hash_kind.HashKind.{HashKind}
use Rattle.peb_base.specs.declared.hash_kind.HashKind.TheVariants.{Mixed, LastByte}
use Rattle.peb_base.specs.declared.profile.Profile.{Profile}
use Rattle.peb_base.specs.declared.profile.Profile.TheVariants.{Normal, Small}

-- the sizes and counts of a profile
pub record Column : Type 0 where
  pub last_level : ℕ
  pub top_bits : ℕ
  pub decrement : ℕ
  pub guard_tables : ℕ
  pub zero_tables : ℕ
  pub mem_limit : ℕ
  pub block_bytes : ℕ
  pub hash : HashKind

-- the column of each profile
abbrev pub column : Profile → Column
column Normal = record {
  last_level = 5;
  top_bits = 16;
  decrement = 2;
  guard_tables =
      4;
  zero_tables = 4;
  mem_limit = 4194304;
  block_bytes = 4096;
  hash = Mixed;
}
column Small = record {
  last_level = 3;
  top_bits = 4;
  decrement = 1;
  guard_tables = 2;
  zero_tables =
      2;
  mem_limit = 1024;
  block_bytes = 256;
  hash = LastByte;
}
