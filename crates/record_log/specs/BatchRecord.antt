-- A batch as the body of a log's record.
use Rattle.std.specs.Prelude.{◌≡◌, ℕ, ◌+◌, ◌-◌, ◌^◌, ◌<◌, ◌≤◌, List, [], ◌∷◌, ◌++◌, length}
use Rattle.byteorder.specs.Endian.{big_bytes}
use Rattle.peb_base.specs.Numbers.{session_of, count_of}
use Rattle.peb_base.specs.declared.change.Change.{Change}
use Rattle.peb_base.specs.declared.change.Change.TheVariants.{Put, Delete}
use Rattle.peb_base.specs.declared.op.Op.{Op}
use Rattle.record_log.specs.Counted.{counted_bytes}

-- the byte that tells a put from a deletion
abbrev pub kind_of : Change → ℕ
kind_of (Put value) = 1
kind_of Delete = 0

-- the value behind its length, where there is one
abbrev pub value_bytes : Change → List ℕ
value_bytes (Put value) = counted_bytes 4 value
value_bytes Delete = []

-- an operation: its kind, its key behind a length, and its value
abbrev pub op_bytes : Op → List ℕ
op_bytes op = kind_of op.change ∷ (counted_bytes 2 op.key ++ value_bytes op.change)

-- operations one after another
abbrev pub ops_bytes : List Op → List ℕ
ops_bytes [] = []
ops_bytes (op ∷ ops) = op_bytes op ++ ops_bytes ops

-- a batch: the number of its first operation, their count, and they
abbrev pub batch_bytes : ℕ → List Op → List ℕ
batch_bytes first ops = big_bytes 8 first ++ big_bytes 2 (length ops) ++ ops_bytes ops

-- 1 to 1024 bytes
abbrev pub IsKey : List ℕ → Type 0
IsKey key = (0 < length key) × (length key ≤ 1024)

-- a value has at most 32,768 bytes
abbrev pub IsChange : Change → Type 0
IsChange (Put value) = length value ≤ 32768
IsChange Delete = Unit {0}

-- a key and a value, where there is one
abbrev pub IsOp : Op → Type 0
IsOp op = IsKey op.key × IsChange op.change

-- each of these is an operation
abbrev pub AreOps : List Op → Type 0
AreOps [] = Unit {0}
AreOps (op ∷ ops) = IsOp op × AreOps ops

-- so many numbers from the first on are those of a batch: 1 to 1000, and all of one session, whose
-- counts begin with 1
pub record HasNumbers (first count : ℕ) : Type 0 where
  pub some : 0 < count
  pub few : count ≤ 1000
  pub within : first < 2 ^ 63
  pub begun : 1 ≤ session_of first
  pub counted : 1 ≤ count_of first
  pub one_session : session_of first ≡ session_of (first + count - 1)

-- the operations, numbered from the first on, are a batch
pub record IsBatch (first : ℕ) (ops : List Op) : Type 0 where
  pub numbers : HasNumbers first (length ops)
  pub each : AreOps ops
