use Rattle.std.proofs.Common.{◌≡◌, None, ap, subst}
use Rattle.std.specs.Prelude.{option_map}
use Rattle.peb_base.specs.Cursors.{entry_at}
use Rattle.mem_table.specs.Chunked.{joined}
use Rattle.mem_table.specs.Spots.{place_of}
use Rattle.mem_table.specs.SpotLaws.{spot_inside}
use Rattle.mem_table.proofs.CursorLemmas.{shows_there, walks_on, fewer_on}
use Rattle.mem_table.proofs.mem_cursor.MemCursorCursor.next.Goals as goal

pub next-self-requires : goal.next-self-requires
next-self-requires c = c.args.self.now.inside c.in-Some.spot c.in-Some.is

pub returns-clause-walks : goal.returns-clause-walks
returns-clause-walks c =
    let cs = c.args.self.now.entries in
    λ es e there walks. walks_on (joined cs) _ _ (place_of cs c.in-Some.spot)
    (ap (option_map (place_of cs)) c.in-Some.is)
    c.next-self.ensures.place es e there walks

pub returns-clause-fewer : goal.returns-clause-fewer
returns-clause-fewer c =
    let cs = c.args.self.now.entries in
    λ e there. fewer_on (joined cs) _ _ (place_of cs c.in-Some.spot)
    (ap (option_map (place_of cs)) c.in-Some.is)
    (spot_inside cs c.in-Some.spot
    (c.args.self.now.inside c.in-Some.spot c.in-Some.is)) c.next-self.ensures.place

pub returns-clause-stays : goal.returns-clause-stays
returns-clause-stays c =
    let cs = c.args.self.now.entries in
    λ none. absurd (shows_there (joined cs) (place_of cs c.in-Some.spot)
    (spot_inside cs c.in-Some.spot (c.args.self.now.inside c.in-Some.spot c.in-Some.is))
    (subst (λ o. entry_at (joined cs) (option_map (place_of cs) o) ≡ None) c.in-Some.is none))
