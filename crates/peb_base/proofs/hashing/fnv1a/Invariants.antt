use Rattle.std.proofs.Common.{◌≡◌, drop}
use Rattle.peb_base.specs.Choice as choice
use Rattle.peb_base.proofs.hashing.fnv1a.Given as goal

abbrev pub invariant-loop-byte : goal.invariant-loop-byte
invariant-loop-byte l = choice.fnv1a l.hash (drop l.byte-index l.key) ≡ choice.fnv1a choice.fnv_start l.key
