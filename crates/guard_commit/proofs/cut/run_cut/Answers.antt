-- What a Cut gives and leaves, as its job asks.
use Rattle.std.proofs.Common.{◌≡◌, ◌^◌, ◌∙◌, length, map, ap}
use Rattle.std.proofs.lemmas.List.{length-map}
use Rattle.std.specs.Arc.{arc_value}
use Rattle.peb_base.specs.Profiles.{column}
use Rattle.guard_commit.specs.Cutting.{rows_of}
use Rattle.guard_commit.proofs.Suiting.{needs, suit_levels, suit_numbers, suit_differ, rows_suit, suit_entries, suit_describes}
use Rattle.guard_commit.proofs.cut.run_cut.Goals as goal

pub cut_and_finish-requires : goal.cut_and_finish-requires
cut_and_finish-requires g c =
    let tables = map arc_value c.args.tables.now in
    let count : length c.args.job.now.inputs ≡ length c.args.tables.now =
    ap length c.requires.inputs ∙ length-map (rows_of tables) (λ row. row.number)
    ∙ length-map tables (λ t. t.row) ∙ length-map c.args.tables.now arc_value in
    record { fits = needs c.args.job.now (length c.args.tables.now) (2 ^ 64) c.requires.kind count c.requires.fits }

pub returns-in-Ok-clause-describes : goal.returns-in-Ok-clause-describes
returns-in-Ok-clause-describes g c =
    λ contents held.
    let f = g.P.File.TableHandle in
    let j = c.args.job.now in
    let tables = map arc_value c.args.tables.now in
    let made = map arc_value c.in-Ok.finished.tables.items in
    let e = c.in-Ok.finished.edit in
    let full = c.args.options.now.block_bytes in
    let is = c.in-Ok.ensures.made in
    let edit = c.in-Ok.ensures.edit in
    suit_describes f full j tables made e is edit c.law_length.ensures c.law_pieces.ensures.entries
    (column c.args.options.now.profile) c.args.options.now.block_bytes_of c.requires.kind contents held

pub returns-in-Ok-clause-entries : goal.returns-in-Ok-clause-entries
returns-in-Ok-clause-entries g c =
    let f = g.P.File.TableHandle in
    let j = c.args.job.now in
    let tables = map arc_value c.args.tables.now in
    let made = map arc_value c.in-Ok.finished.tables.items in
    let e = c.in-Ok.finished.edit in
    let full = c.args.options.now.block_bytes in
    let is = c.in-Ok.ensures.made in
    let edit = c.in-Ok.ensures.edit in
    suit_entries f full j tables made e is edit

pub returns-in-Ok-clause-levels : goal.returns-in-Ok-clause-levels
returns-in-Ok-clause-levels g c =
    let f = g.P.File.TableHandle in
    let j = c.args.job.now in
    let tables = map arc_value c.args.tables.now in
    let made = map arc_value c.in-Ok.finished.tables.items in
    let e = c.in-Ok.finished.edit in
    let full = c.args.options.now.block_bytes in
    let is = c.in-Ok.ensures.made in
    let edit = c.in-Ok.ensures.edit in
    suit_levels f full j tables made e is edit c.requires.kind

pub returns-in-Ok-clause-numbers : goal.returns-in-Ok-clause-numbers
returns-in-Ok-clause-numbers g c =
    let f = g.P.File.TableHandle in
    let j = c.args.job.now in
    let tables = map arc_value c.args.tables.now in
    let made = map arc_value c.in-Ok.finished.tables.items in
    let e = c.in-Ok.finished.edit in
    let full = c.args.options.now.block_bytes in
    let is = c.in-Ok.ensures.made in
    let edit = c.in-Ok.ensures.edit in
    let count : length j.inputs ≡ length tables =
    ap length c.requires.inputs ∙ length-map (rows_of tables) (λ row. row.number)
    ∙ length-map tables (λ t. t.row) in
    suit_numbers f full j tables made e is edit c.requires.kind count

pub returns-in-Ok-clause-differ : goal.returns-in-Ok-clause-differ
returns-in-Ok-clause-differ g c =
    let f = g.P.File.TableHandle in
    let j = c.args.job.now in
    let tables = map arc_value c.args.tables.now in
    let made = map arc_value c.in-Ok.finished.tables.items in
    let e = c.in-Ok.finished.edit in
    let full = c.args.options.now.block_bytes in
    let is = c.in-Ok.ensures.made in
    let edit = c.in-Ok.ensures.edit in
    suit_differ f full j tables made e is edit

pub returns-in-Ok-clause-suits : goal.returns-in-Ok-clause-suits
returns-in-Ok-clause-suits g c =
    λ s inside.
    let f = g.P.File.TableHandle in
    let j = c.args.job.now in
    let tables = map arc_value c.args.tables.now in
    let made = map arc_value c.in-Ok.finished.tables.items in
    let e = c.in-Ok.finished.edit in
    let full = c.args.options.now.block_bytes in
    let is = c.in-Ok.ensures.made in
    let edit = c.in-Ok.ensures.edit in
    rows_suit f full j tables made e is edit (column c.args.options.now.profile) s c.requires.kind inside
