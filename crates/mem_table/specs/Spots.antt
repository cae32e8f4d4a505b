-- Places in chunks.
use Rattle.std.specs.Prelude.{ℕ, ◌+◌, ◌<◌, List, [], length, take, get_or}
use Rattle.peb_base.specs.declared.entry.Entry.{Entry}
use Rattle.mem_table.specs.Chunked.{joined}
use Rattle.mem_table.specs.declared.spot.Spot.{Spot}

-- its place among the entries of the chunks
abbrev pub place_of : List (List Entry) → Spot → ℕ
place_of chunks spot = length (joined (take spot.chunk chunks)) + spot.at

-- the chunks have an entry there
pub record IsSpot (chunks : List (List Entry)) (spot : Spot) : Type 0 where
  pub chunk : spot.chunk < length chunks
  pub at : spot.at < length (get_or chunks spot.chunk [])
