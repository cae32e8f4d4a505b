-- The entries that the cursor has passed were pushed.
use Rattle.std.proofs.Common.{◌≡◌, ◌+◌, ◌++◌, ◌∷◌, ℕ, [], List, Err, None, refl, sym, ap, ◌∙◌, subst, arith, rules}
use Rattle.disk_model.specs.Tables.{capped}
use Rattle.mem_table.specs.Seen.{entries_in, place_at, shown_by, StandsIn}
use Rattle.peb_base.specs.Cursors.{first_place, next_place}
use Rattle.peb_base.specs.EntryRefs.{entry_of}
use Rattle.peb_base.specs.declared.entry.Entry.{Entry}
use Rattle.table_file.specs.Limits.{push_fault, IsRefused}
use Rattle.table_file.specs.Taking.{closed_length, pushed_length, TakesAtMost}
use Rattle.table_file.specs.Writing.{block_length, HasPushed}
use Rattle.compactor.specs.Stopping.{fault_behind, table_fault}
use Rattle.compactor.proofs.Places.{passes, passed_sorted, begins, begins_with, all_passed, none_left}
use Rattle.compactor.proofs.Pushing.{front_at, rest_at, taken_stops, taken_goes, limit_stops, limit_goes}
use Rattle.compactor.proofs.Standing.{sorted_in, stands_nowhere}
use Rattle.compactor.proofs.writing.push_all.Goals as goal

pub each-init : goal.each-init
each-init g c =
    let view = c.args.view.now in
    let full = block_length c.args.writer.now in
    let opened : StandsIn c.in_ok-cursor.cursor view None = search rules in
    let stands : StandsIn c.first.new.self view (first_place view) = c.in-Ok.ensures.goes view None opened in
    let es = entries_in c.first.new.self in
    let place = place_at c.first.new.self in
    let at : place ≡ first_place es = sym stands.there ∙ ap first_place stands.over in
    let none = begins es place at in
    let taken = g.M.Maker.taken c.args.maker.now in
    let fits = g.met.M.Maker.taken_fits c.args.maker.now in
    record {
      over = sym stands.over;
      pushed = subst (λ (l : List Entry). HasPushed g.M.File.TableHandle.tells (g.M.Maker.begun c.args.maker.now) (g.M.Maker.written c.args.maker.now) c.args.writer.now l)
          (sym none) c.requires;
      taken = subst (λ (l : List Entry). taken ≡ capped (taken + closed_length full l)) (sym none) (omega (arith, fits));
      limit = (λ i. fault_behind full (sym none i) (sym (begins_with es place at) i));
      number = refl;
      level = refl;
      block = refl;
      sealed = refl;
      gone = refl;
      later = omega arith;
    }

pub push-requires : goal.push-requires
push-requires g c =
    let es = entries_in c.each.cursor in
    let place = place_at c.each.cursor in (
      front_at es place,
      c.each.invariant.pushed,
      passed_sorted es place (entry_of c.in-Some.entry) (sorted_in c.each.cursor) (sym c.in-Some.ensures),
    )

pub returns-in-Err-clause-taken : goal.returns-in-Err-clause-taken
returns-in-Err-clause-taken g c =
    let es = entries_in c.each.cursor in
    let place = place_at c.each.cursor in
    let e = entry_of c.in-Some.entry in
    let inv = c.each.invariant in
    let sorted = sorted_in c.each.cursor in
    let there = sym c.in-Some.ensures in
    taken_stops c.law_pieces.ensures.grows (block_length c.args.writer.now) es c.args.view.now place e
    _ _ _ inv.over sorted there inv.taken
    (subst (λ (b : ℕ). TakesAtMost (pushed_length b (front_at es place) e) (g.M.Maker.taken c.each.maker) (g.M.Maker.taken c.push.new.maker)) inv.block
    (c.in-Err.ensures.taken (front_at es place) inv.pushed (passed_sorted es place e sorted there)))

pub returns-in-Err-clause-limit : goal.returns-in-Err-clause-limit
returns-in-Err-clause-limit g c =
    let es = entries_in c.each.cursor in
    let place = place_at c.each.cursor in
    let e = entry_of c.in-Some.entry in
    let inv = c.each.invariant in
    let there = sym c.in-Some.ensures in
    limit_stops (block_length c.args.writer.now) es c.args.view.now place e c.in-Err.fault inv.over there inv.limit
    (subst (λ (b : ℕ). IsRefused {T = Unit {0}} (push_fault b (front_at es place) e) (Err c.in-Err.fault)) inv.block
    (c.in-Err.ensures.limit (front_at es place) inv.pushed (passed_sorted es place e (sorted_in c.each.cursor) there)))

pub each-preserved : goal.each-preserved
each-preserved g c =
    let es = entries_in c.each.cursor in
    let place = place_at c.each.cursor in
    let e = entry_of c.in-Some.entry in
    let inv = c.each.invariant in
    let there = sym c.in-Some.ensures in
    let full = block_length c.args.writer.now in
    let front = front_at es place in
    let sorted = passed_sorted es place e (sorted_in c.each.cursor) there in
    let stands : StandsIn c.next.new.self es (next_place es place) = c.in-Ok-next.ensures.goes es place (record { over = refl; there = refl }) in
    let front_is : front ++ e ∷ [] ≡ front_at (entries_in c.next.new.self) (place_at c.next.new.self) =
    sym (passes es place e there) ∙ (λ i. front_at (stands.over i) (stands.there i)) in
    let none : push_fault full front e ≡ None =
    subst (λ (b : ℕ). push_fault b front e ≡ None) inv.block (c.in-Ok-push.ensures.limit front inv.pushed sorted) in
    record {
      over = sym stands.over ∙ inv.over;
      pushed = subst (λ (l : List Entry). HasPushed g.M.File.TableHandle.tells (g.M.Maker.begun c.push.new.maker) (g.M.Maker.written c.push.new.maker) c.push.new.self l) front_is
          (c.in-Ok-push.ensures.pushed front inv.pushed sorted);
      taken = taken_goes c.law_pieces.ensures.grows full front e _ _ _ sorted inv.taken
          (subst (λ (b : ℕ). g.M.Maker.taken c.push.new.maker ≡ capped (g.M.Maker.taken c.each.maker + pushed_length b front e)) inv.block
          (c.in-Ok-push.ensures.taken front inv.pushed sorted))
          ∙ ap (λ (l : List Entry). capped (g.M.Maker.taken c.args.maker.now + closed_length full l)) front_is;
      limit = ap (table_fault full) (sym stands.over) ∙ limit_goes full es place e there inv.limit none
          ∙ (λ i. fault_behind full (front_is i) (rest_at (stands.over i) (stands.there i)));
      number = c.push.ensures.number ∙ inv.number;
      level = c.push.ensures.level ∙ inv.level;
      block = c.push.ensures.block ∙ inv.block;
      sealed = c.push.ensures.sealed ∙ inv.sealed;
      gone = c.push.ensures.gone ∙ inv.gone;
      later = omega (arith, inv.later, c.push.ensures.later);
    }

pub returns-clause-pushed : goal.returns-clause-pushed
returns-clause-pushed g c =
    let inv = c.each.invariant in
    let none : shown_by c.each.cursor ≡ None = search rules in
    subst (λ (l : List Entry). HasPushed g.M.File.TableHandle.tells (g.M.Maker.begun c.each.maker) (g.M.Maker.written c.each.maker) c.each.writer l)
    (all_passed (entries_in c.each.cursor) (place_at c.each.cursor) (stands_nowhere c.each.cursor none) ∙ inv.over) inv.pushed

pub returns-clause-taken : goal.returns-clause-taken
returns-clause-taken g c =
    let inv = c.each.invariant in
    let none : shown_by c.each.cursor ≡ None = search rules in
    inv.taken ∙ ap (λ (l : List Entry). capped (g.M.Maker.taken c.args.maker.now + closed_length (block_length c.args.writer.now) l))
    (all_passed (entries_in c.each.cursor) (place_at c.each.cursor) (stands_nowhere c.each.cursor none) ∙ inv.over)

pub returns-clause-ends : goal.returns-clause-ends
returns-clause-ends g c =
    let inv = c.each.invariant in
    let es = entries_in c.each.cursor in
    let full = block_length c.args.writer.now in
    let none : shown_by c.each.cursor ≡ None = search rules in
    let nowhere = stands_nowhere c.each.cursor none in
    ap (table_fault full) (sym inv.over) ∙ inv.limit
    ∙ ap (λ (l : List Entry). fault_behind full l (rest_at es (place_at c.each.cursor))) (all_passed es (place_at c.each.cursor) nowhere ∙ inv.over)
    ∙ ap (fault_behind full c.args.view.now) (none_left es (place_at c.each.cursor) nowhere)
