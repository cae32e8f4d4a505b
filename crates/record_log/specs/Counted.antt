-- Bytes behind their length.
use Rattle.std.specs.Prelude.{ℕ, List, ◌++◌, length}
use Rattle.byteorder.specs.Endian.{big_bytes}

-- the length in n bytes, and the bytes
abbrev pub counted_bytes : ℕ → List ℕ → List ℕ
counted_bytes n bytes = big_bytes n (length bytes) ++ bytes
