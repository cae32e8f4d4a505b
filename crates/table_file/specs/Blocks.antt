-- The blocks that entries were cut into.
use Rattle.std.specs.Prelude.{List, [], ◌∷◌}
use Rattle.peb_base.specs.declared.entry.Entry.{Entry}
use Rattle.block_form.specs.Form.{block_bytes, IsBlock}

-- the spelling of each is a block
abbrev pub AreBlocks : List (List Entry) → Type 0
AreBlocks [] = Unit {0}
AreBlocks (block ∷ blocks) = IsBlock block (block_bytes block) × AreBlocks blocks
