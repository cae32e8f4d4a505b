use Rattle.std.proofs.Common.{◌≡◌, take, length}
use Rattle.bloom.specs.Filter.{filter_of}
use Rattle.table_file.proofs.filling.filter_with.Given as goal

abbrev pub invariant-loop-hash : goal.invariant-loop-hash
invariant-loop-hash l = l.filter ≡ filter_of (length l.hashes) (take l.hash-index l.hashes)
