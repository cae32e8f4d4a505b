-- What the maker took is the table's length, or at most that.
use Rattle.std.proofs.Common.{◌≡◌, ℕ, length, ap, ◌∙◌, rules}
use Rattle.peb_base.specs.Profiles.{column}
use Rattle.table_file.specs.Form.{blocks_of, blocks_table}
use Rattle.table_file.specs.Writing.{block_length}
use Rattle.compactor.proofs.Lengths.{write_stops, write_fails, write_ends}
use Rattle.compactor.proofs.writing.write_table.Goals as goal

pub returns-in-Err-push_all-clause-taken : goal.returns-in-Err-push_all-clause-taken
returns-in-Err-push_all-clause-taken g c =
    let new : block_length c.in_ok-writer.writer ≡ c.args.options.now.block_bytes = search rules in
    write_stops c.law_pieces.ensures.whole c.law_length.ensures (column c.args.options.now.profile) _ c.args.number c.args.view.now _ _ _
    (c.start.ensures.block ∙ new ∙ c.args.options.now.block_bytes_of) c.start.ensures.taken c.in-Err-push_all.ensures.taken

pub returns-in-Ok-finish-clause-taken : goal.returns-in-Ok-finish-clause-taken
returns-in-Ok-finish-clause-taken g c =
    let new : block_length c.in_ok-writer.writer ≡ c.args.options.now.block_bytes = search rules in
    write_ends c.law_pieces.ensures.whole c.law_length.ensures (column c.args.options.now.profile) _ _ _ c.args.view.now _ _ _ _
    (c.start.ensures.block ∙ new ∙ c.args.options.now.block_bytes_of) c.push_all.ensures.block c.start.ensures.taken
    c.in-Ok-push_all.ensures.taken (c.in-Ok-finish.ensures.taken c.args.view.now c.in-Ok-push_all.ensures.pushed c.requires)

pub returns-clause-taken : goal.returns-clause-taken
returns-clause-taken g c =
    let new : block_length c.in_ok-writer.writer ≡ c.args.options.now.block_bytes = search rules in
    write_fails c.law_pieces.ensures.whole c.law_length.ensures (column c.args.options.now.profile) _ _ _ c.args.view.now _ _ _ _
    (c.start.ensures.block ∙ new ∙ c.args.options.now.block_bytes_of) c.push_all.ensures.block c.start.ensures.taken
    c.in-Ok-push_all.ensures.taken (c.in-Err-finish.ensures.taken c.args.view.now c.in-Ok-push_all.ensures.pushed c.requires)

pub returns-in-Ok-finish-clause-length : goal.returns-in-Ok-finish-clause-length
returns-in-Ok-finish-clause-length g c =
    let new : block_length c.in_ok-writer.writer ≡ c.args.options.now.block_bytes = search rules in
    let es = c.args.view.now in
    let row = c.in-Ok-finish.table.row in
    let made = c.in-Ok-finish.ensures.table es c.in-Ok-push_all.ensures.pushed c.requires in
    made.row_bytes
    ∙ ap (λ (b : ℕ). length (blocks_table row.number (blocks_of b es) es)) (c.push_all.ensures.block ∙ c.start.ensures.block ∙ new ∙ c.args.options.now.block_bytes_of)
    ∙ c.law_length.ensures (column c.args.options.now.profile) row.number es
