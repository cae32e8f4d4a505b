use Rattle.std.proofs.Common.{◌≡◌, ◌+◌, Some, false, sym, ap, ◌∙◌}
use Rattle.merge_iter.specs.Trials.{shown_at, is_lower, still_behind}
use Rattle.merge_iter.proofs.trial_cursor.TrialCursorCursor.next.Goals as goal

pub returns-clause-walks : goal.returns-clause-walks
returns-clause-walks c = λ es e there walk f now.
    let mid = c.begin.new.self in
    let same : shown_at mid.entries.items mid.place ≡ Some e =
    (λ i. shown_at (c.begin.ensures.entries i).items (c.in_ok-begin.ensures.ok i)) ∙ there in
    still_behind es e f (walk e there)
    (ap (λ o. is_lower o (Some e)) (sym now)
    ∙ ap (is_lower (shown_at mid.entries.items (mid.place + 1))) (sym same)
    ∙ sym c.if-lower.ensures)
