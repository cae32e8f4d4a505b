use Rattle.std.proofs.Common.{◌≡◌, ◌∙◌, false, refl, rules, sym, subst, ap}
use Rattle.peb_base.specs.Cursors.{previous_place, StandsAmong}
use Rattle.peb_base.specs.EntryRefs.{entry_of}
use Rattle.merge_iter.specs.Heads.{comes_behind}
use Rattle.merge_iter.specs.Laws.{shows_within}
use Rattle.merge_iter.specs.StandLaws.{stands_at}
use Rattle.merge_iter.specs.Standing.{Stands}
use Rattle.merge_iter.specs.Views.{merged_of, shown_by}
use Rattle.merge_iter.proofs.Falling.{still_nowhere, not_behind, leads_ok}
use Rattle.merge_iter.proofs.merge.MergeCursor.prev.Goals as goal

pub returns-in_default-clause-goes : goal.returns-in_default-clause-goes
returns-in_default-clause-goes g c =
    still_nowhere g.C.Cursor g.met.C.Cursor.among (merged_of c.args.self.now) _ c.args.self.now.chosen refl
    refl (sym c.in_default.ensures)

pub put-requires-clause-fits : goal.put-requires-clause-fits
put-requires-clause-fits g c =
    let entry =
    shows_within g.C.Cursor g.met.C.Cursor.within (merged_of c.args.self.now) _ (sym c.in-Some.ensures) in
    let short = entry.key in
    search rules

pub returns-clause-goes : goal.returns-clause-goes
returns-clause-goes g c = λ es place s.
    let old = merged_of c.args.self.now in
    let mid = merged_of c.step_back-2.new.self in
    let among = g.met.C.Cursor.among in
    let e = entry_of c.in-Some.entry in
    let there : Stands g.C.Cursor.stands mid es (previous_place place) = c.in_ok-step_back.ensures.goes es place s in
    let low : comes_behind e.key e.number (shown_by g.C.Cursor mid) ≡ false =
    not_behind es place e (shown_by g.C.Cursor mid)
    (subst (StandsAmong es place) (sym c.in-Some.ensures)
    (stands_at g.C.Cursor among old es place c.args.self.now.chosen s))
    (stands_at g.C.Cursor among mid es (previous_place place) c.step_back-2.new.self.chosen there) in
    let stays = c.fall_to.ensures.stays
    (ap (λ key. comes_behind key e.number (shown_by g.C.Cursor mid)) (c.bytes.ensures.value ∙ c.put.ensures) ∙ low) in
    leads_ok (Stands g.C.Cursor.stands (merged_of c.fall_to.new.self) es) (previous_place place) c.fall_to.result
    stays.0 (subst (λ m. Stands g.C.Cursor.stands m es (previous_place place)) (sym stays.1) there)
