use Rattle.std.proofs.Common.{◌≡◌, ◌∙◌, ◌+◌, ◌++◌, ◌∷◌, [], List, ap, subst, sym, take}
use Rattle.std.specs.List.{AllZip}
use Rattle.std.proofs.lemmas.List.{take_more}
use Rattle.guard_level.specs.Guards.{Guards}
use Rattle.peb_base.specs.Keys.{Bytes}
use Rattle.version_set.specs.Shapes.{IsOfLevel}
use Rattle.version_set.proofs.Parts.{zip_push}
use Rattle.version_set.proofs.building.levels_of.Goals as goal

pub loop-keys-preserved : goal.loop-keys-preserved
loop-keys-preserved g c =
    let row = g.T.HasRow.the_row in
    let guards : List (List Bytes) = c.args.guards.now in
    let i = c.loop-keys.keys-index in
    let level = c.in_ok-level_of.field-0 in
    let keys : List Bytes = c.keys-item.result in
    let Is : Guards g.row.T.Denot → List Bytes → Type 0 = λ l ks. IsOfLevel row l ks [] in
    let own : IsOfLevel row level keys [] = subst (λ ks. IsOfLevel row level ks []) c.items.ensures c.in_ok-level_of.ensures in
    let taken : take i guards ++ keys ∷ [] ≡ take (i + 1) guards = ap (λ k. take i guards ++ k ∷ []) c.keys-item.is ∙ sym (take_more guards i keys c.loop-keys-test.true) in
    subst (λ ks. AllZip Is c.push.new.self.items ks) taken
    (subst (λ ls. AllZip Is ls (take i guards ++ keys ∷ [])) (sym c.in_ok-push.ensures.items) (zip_push Is c.loop-keys.levels.items (take i guards) level keys c.loop-keys.invariant own))
