-- The keys of the entries behind the cursor's place were chosen.
use Rattle.std.proofs.Common.{◌≡◌, List, [], Option, None, refl, sym, ap, ◌∙◌, subst, rules}
use Rattle.std.specs.Prelude.{reverse, ℕ}
use Rattle.flsm_model.specs.Choices.{put_keys, choices}
use Rattle.flsm_model.specs.declared.chosen.Chosen.{Chosen}
use Rattle.mem_table.specs.Seen.{entries_in, place_at, shown_by, StandsIn}
use Rattle.peb_base.specs.Cursors.{last_place, previous_place}
use Rattle.peb_base.specs.EntryRefs.{entry_of}
use Rattle.peb_base.specs.Profiles.{column}
use Rattle.peb_base.specs.declared.entry.Entry.{Entry}
use Rattle.compactor.proofs.Standing.{sorted_in, stands_nowhere}
use Rattle.compactor.proofs.Walks.{AreChosen, chosen_none, chosen_more, chosen_all}
use Rattle.compactor.proofs.choosing.choose.Goals as goal

pub back-init : goal.back-init
back-init c =
    let view = c.args.view.now in
    let o = column c.args.options.now.profile in
    let opened : StandsIn c.in_ok-cursor.cursor view None = search rules in
    let stands : StandsIn c.last.new.self view (last_place view) = c.in-Ok.ensures.goes view None opened in
    let es = entries_in c.last.new.self in
    let place = place_at c.last.new.self in
    let empty : c.new-chosen.result.items ≡ [] = search rules in
    record {
      over = sym stands.over;
      chosen = subst (λ (l : List Chosen). AreChosen o es place l) (sym empty)
          (chosen_none o es place (sym stands.there ∙ ap last_place stands.over));
    }

pub back-preserved : goal.back-preserved
back-preserved c =
    let o = column c.args.options.now.profile in
    let es = entries_in c.back.cursor in
    let place = place_at c.back.cursor in
    let e = entry_of c.in-Some.entry in
    let inv = c.back.invariant in
    let stands : StandsIn c.prev.new.self es (previous_place place) = c.in-Ok-prev.ensures.goes es place (record { over = refl; there = refl }) in
    let more = chosen_more o es place e c.back.chosen.items c.add_key.new.chosen.items (sorted_in c.back.cursor) (sym c.in-Some.ensures) c.in_ok-add_key.ensures inv.chosen in
    record {
      over = sym stands.over ∙ inv.over;
      chosen = subst (λ (l : List Entry). AreChosen o l (place_at c.prev.new.self) c.add_key.new.chosen.items) stands.over
          (subst (λ (p : Option ℕ). AreChosen o es p c.add_key.new.chosen.items) stands.there more);
    }

pub returns : goal.returns
returns c =
    let o = column c.args.options.now.profile in
    let es = entries_in c.back.cursor in
    let inv = c.back.invariant in
    let none : shown_by c.back.cursor ≡ None = search rules in
    let is : c.reverse.new.self.items ≡ reverse c.back.chosen.items = search rules in
    is ∙ chosen_all o es (place_at c.back.cursor) c.back.chosen.items (stands_nowhere c.back.cursor none) inv.chosen
    ∙ ap (λ (l : List Entry). choices o (put_keys l)) inv.over
