-- Which bits of a filter are set.
use Rattle.std.specs.Prelude.{ℕ, zero, suc, ◌+◌, ◌*◌, ◌/◌, ◌%◌, ◌^◌, Bool, true, false, ◌==◌, ◌&&◌, ◌||◌, List, length, bit_or, Option, Some, None, nat_lt, if◌then◌else◌}
use Rattle.std.specs.List.{list_any}
use Rattle.peb_base.specs.Tables.{filter_length}
use Rattle.bloom.specs.Bits.{bit, bytes_of}
use Rattle.bloom.specs.declared.filter_fault.FilterFault.{FilterFault}
use Rattle.bloom.specs.declared.filter_fault.FilterFault.TheVariants.{Form}

-- probe i of a hash among so many bits
abbrev pub probe : ℕ → ℕ → ℕ → ℕ
probe hash bits i = (hash % 2 ^ 32 + i * bit_or (hash / 2 ^ 32) 1) % bits

-- bit j is one of the first n probes of a hash
unfoldable pub is_probe : ℕ → ℕ → ℕ → ℕ → Bool
is_probe zero hash bits j = false
is_probe (suc n) hash bits j = is_probe n hash bits j || (j == probe hash bits n)

-- the first n probes of a hash are set
unfoldable pub are_set : ℕ → List ℕ → ℕ → Bool
are_set zero bytes hash = true
are_set (suc n) bytes hash = are_set n bytes hash && bit bytes (probe hash (8 * length bytes) n)

-- a key of this hash may be held: its six probes are set
abbrev pub may_hold : List ℕ → ℕ → Bool
may_hold bytes hash = are_set 6 bytes hash

-- the filter with the six probes of one more hash set
abbrev pub with_hash : List ℕ → ℕ → List ℕ
with_hash bytes hash =
    bytes_of (length bytes) (λ j. bit bytes j || is_probe 6 hash (8 * length bytes) j)

-- the filter of so many entries: a bit is set exactly where it is a probe of one of the hashes
abbrev pub filter_of : ℕ → List ℕ → List ℕ
filter_of count hashes =
    bytes_of (filter_length count)
    (λ j. list_any (λ hash. is_probe 6 hash (8 * filter_length count) j) hashes)

-- bytes of this length are no filter
abbrev pub filter_fault : ℕ → Option FilterFault
filter_fault len = if nat_lt len 8 then Some Form else None
