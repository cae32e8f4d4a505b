use Rattle.std.proofs.Common.{◌≡◌, None, ap, subst}
use Rattle.std.specs.Prelude.{option_map}
use Rattle.peb_base.specs.Cursors.{entry_at}
use Rattle.mem_table.specs.Chunked.{joined}
use Rattle.mem_table.specs.Spots.{place_of}
use Rattle.mem_table.specs.SpotLaws.{spot_inside}
use Rattle.mem_table.proofs.CursorLemmas.{shows_there, falls_back}
use Rattle.mem_table.proofs.mem_cursor.MemCursorCursor.prev.Goals as goal

pub previous-self-requires : goal.previous-self-requires
previous-self-requires c = c.args.self.now.inside c.in-Some.spot c.in-Some.is

pub returns-clause-falls : goal.returns-clause-falls
returns-clause-falls c =
    let cs = c.args.self.now.entries in
    λ e f there then. falls_back (joined cs) _ _ (place_of cs c.in-Some.spot) c.args.self.now.sorted
    (ap (option_map (place_of cs)) c.in-Some.is) c.previous-self.ensures.place e f there then

pub returns-clause-stays : goal.returns-clause-stays
returns-clause-stays c =
    let cs = c.args.self.now.entries in
    λ none. absurd (shows_there (joined cs) (place_of cs c.in-Some.spot)
    (spot_inside cs c.in-Some.spot (c.args.self.now.inside c.in-Some.spot c.in-Some.is))
    (subst (λ o. entry_at (joined cs) (option_map (place_of cs) o) ≡ None) c.in-Some.is none))
