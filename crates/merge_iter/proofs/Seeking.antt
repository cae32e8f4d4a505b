-- A seek of the merge, and a merge over inputs that were sought.
use Rattle.std.proofs.Common.{◌≡◌, ℕ, false, List, Some, None, Result, length, map, sym, ◌∙◌, subst, arith}
use Rattle.peb_base.specs.Keys.{Bytes}
use Rattle.peb_base.specs.Cursors.{place_from}
use Rattle.peb_base.specs.Entries.{comes_before}
use Rattle.peb_base.specs.declared.cursor.Cursor.{Ghosts}
use Rattle.peb_base.specs.declared.entry.Entry.{Entry}
use Rattle.peb_base.specs.declared.read_fault.ReadFault.{ReadFault}
use Rattle.merge_iter.specs.Cuts.{below}
use Rattle.merge_iter.specs.Heads.{current_head, IsChosen}
use Rattle.merge_iter.specs.Landed.{Landed}
use Rattle.merge_iter.specs.Laws.{shown_input}
use Rattle.merge_iter.specs.Moves.{Sought, Of}
use Rattle.merge_iter.specs.Parts.{AreParts}
use Rattle.merge_iter.specs.StandLaws.{Among, arrives, falls_below, seek_cut, head_inside, head_is, some_of}
use Rattle.merge_iter.specs.Standing.{Merged, StandEach, Stands}
use Rattle.merge_iter.proofs.Landing.{where_shown}

-- what it shows after a seek doesn't come before the key and number
pub shows_behind : {C : Type 0} (g : Ghosts C) (key : Bytes) (number : ℕ) (old new : Merged C)
    (result : Result (Unit {0}) ReadFault) → Landed g (Of (Sought g key number) None) false old new result
    → (e : Entry) → current_head (map g.shows new.inputs) new.current ≡ Some e
    → comes_before e.key e.number key number ≡ false
shows_behind g key number old new result landed =
    where_shown g (Of (Sought g key number) None) false old new
    (λ e. comes_before e.key e.number key number ≡ false)
    (λ m is chosen e shows.
    let at = shown_input g new e shows in
    let lt = head_inside g new.inputs at.0 e at.2 in
    let long = m.same in
    let d = some_of new.inputs at.0 lt in
    (m.each at.0 d (omega (arith, lt, long))).behind e (sym (head_is g new.inputs at.0 d lt) ∙ at.2))
    result landed

-- inputs that stand where a seek leaves them, and the first of them as current
pub stands_sought : {C : Type 0} (g : Ghosts C) → Among g → (m : Merged C) → m.is_back ≡ false
    → IsChosen false (map g.shows m.inputs) m.current → (es : List Entry) (part : ℕ → List Entry)
    (key : Bytes) (number : ℕ) → AreParts es (length m.inputs) part
    → StandEach g.stands m.inputs part (λ k. place_from key number (part k))
    → Stands g.stands m es (place_from key number es)
stands_sought g among m is chosen es part key number parts each =
    subst (Stands g.stands m es) (sym (seek_cut key number es))
    (arrives g among m false part es parts (below key number) (falls_below key number)
    (λ k. place_from key number (part k)) (λ k lt. seek_cut key number (part k)) each is chosen)
