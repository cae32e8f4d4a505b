use Rattle.std.proofs.Common.{◌≡◌, ◌<◌, ◌-◌, [], ◌∷◌, ◌++◌, take, drop, length, rules, arith, sym, ap, ◌∙◌, refl, subst, length-drop}
use Rattle.std.proofs.lemmas.List.{take_all}
use Rattle.std.specs.List.{AllByRecursion}
use Rattle.record_log.specs.Records.{view_of, views}
use Rattle.manifest.specs.Edits.{IsEdit}
use Rattle.manifest.specs.Manifests.{edits_of}
use Rattle.manifest.proofs.SoFar.{ReadsSoFar, reads_none, reads_more, reads_damage, reads_all, each_more, views_first, views_none}
use Rattle.manifest.proofs.edit_groups.all_edits.Goals as goal

pub loop-rest-init : goal.loop-rest-init
loop-rest-init c =
    let none = sym c.new-edits.ensures.items in
    record {
      each = subst (λ found. AllByRecursion IsEdit (edits_of found)) none tt;
      so_far = λ groups each are. subst (λ found. ReadsSoFar groups found (views c.args.records.now)) none (reads_none groups (views c.args.records.now) each are);
    }

pub loop-rest-preserved : goal.loop-rest-preserved
loop-rest-preserved c =
    let rest = c.loop-rest.rest.now in
    let inv = c.loop-rest.invariant in
    let r = c.index-rest-0.result in
    let edit = c.in-Ok.edit in
    let gate = r.gate in
    let alone = c.in-Ok.ensures.found in
    let some : 0 < length rest = search rules in
    let tail : take (length rest - 1) (drop 1 rest) ≡ drop 1 rest = take_all (length rest - 1) (drop 1 rest) (omega (arith, length-drop 1 rest)) in
    let whole = views_first rest r some c.index-rest-0.is ∙ ap (λ l. view_of r ∷ views l) (sym tail) in
    let pushed : c.push.new.self.items ≡ c.loop-rest.edits.items ++ (gate, edit) ∷ [] = search rules in
    record {
      each = rw pushed (each_more c.loop-rest.edits.items gate edit inv.each c.in-Ok.ensures.edit);
      so_far = λ groups each are. rw pushed (reads_more groups c.loop-rest.edits.items (views rest) _ gate edit (inv.so_far groups each are) (record { behind = alone.behind; are = whole ∙ alone.are; alone = alone.alone }) (ap (drop 1) alone.are));
    }

pub returns-in-Err-Form-clause-broken : goal.returns-in-Err-Form-clause-broken
returns-in-Err-Form-clause-broken c = λ groups each are.
    let rest = c.loop-rest.rest.now in
    let inv = c.loop-rest.invariant in
    let r = c.index-rest-0.result in
    let some : 0 < length rest = search rules in
    let tail : take (length rest - 1) (drop 1 rest) ≡ drop 1 rest = take_all (length rest - 1) (drop 1 rest) (omega (arith, length-drop 1 rest)) in
    let whole = views_first rest r some c.index-rest-0.is ∙ ap (λ l. view_of r ∷ views l) (sym tail) in
    let damage = (rw c.in-Err-Form.field-0-is at c.in-Err-Form.ensures).form refl in
    reads_damage groups c.loop-rest.edits.items (views rest) _ (inv.so_far groups each are) (record { body = damage.body; behind = damage.behind; are = whole ∙ damage.are; none = damage.none })

pub returns-in-Err-Form-clause-placed : goal.returns-in-Err-Form-clause-placed
returns-in-Err-Form-clause-placed c = λ groups each are. (c.loop-rest.invariant.so_far groups each are).gates

pub returns-clause-found : goal.returns-clause-found
returns-clause-found c = λ groups each are.
    let none : length c.loop-rest.rest.now ≡ 0 = search rules in
    reads_all groups c.loop-rest.edits.items (views c.loop-rest.rest.now) (c.loop-rest.invariant.so_far groups each are) (views_none c.loop-rest.rest.now none)

pub returns-clause-placed : goal.returns-clause-placed
returns-clause-placed c = λ groups each are. (c.loop-rest.invariant.so_far groups each are).gates
