use Rattle.std.proofs.Common.{◌≡◌, ◌≤◌, ◌++◌, ◌∷◌, [], Option, Some, List, ℕ, length, rules, ap, ◌∙◌, subst}
use Rattle.disk_model.specs.Images.{content, over}
use Rattle.disk_model.specs.Files.{image_of}
use Rattle.disk_model.proofs.Names.{first_bytes, set_step, set_same, push_step, nowhere}
use Rattle.disk_model.proofs.Outcomes.{on_ok, on_err}
use Rattle.disk_model.proofs.files.write_over.Goals as goal

-- what is written over the bytes of a file
abbrev written : ℕ → List ℕ → Option (List ℕ) → Option (List ℕ)
written at bytes old = Some (over (content old) at bytes)

pub write_stored-requires : goal.write_stored-requires
write_stored-requires c =
    let first = rw c.deref.ensures.value at c.in-Some.ensures.first in
    let same = first_bytes c.args.file c.args.files.now.items c.in-Some.index c.index_mut.result.now first c.index_mut.ensures.value in
    subst (λ b. c.args.at ≤ length (content b)) same c.requires

pub write_stored-requires-in-None : goal.write_stored-requires-in-None
write_stored-requires-in-None c = let none = rw c.deref.ensures.value at c.in-None.ensures.none in
    subst (λ b. c.args.at ≤ length (content b)) (nowhere c.args.file c.args.files.now.items none) c.requires

pub returns-in-Some-clause-ok : goal.returns-in-Some-clause-ok
returns-in-Some-clause-ok c = let first = rw c.deref.ensures.value at c.in-Some.ensures.first in
    on_ok c.write_stored.result c.write_stored.ensures.ok (λ bytes. set_step c.args.file c.args.files.now.items c.in-Some.index c.index_mut.result.now c.write_stored.new.stored
    (written c.args.at c.args.bytes.now) first c.index_mut.ensures.value c.write_stored.ensures.file bytes)

pub returns-in-Some-clause-err : goal.returns-in-Some-clause-err
returns-in-Some-clause-err c = let first = rw c.deref.ensures.value at c.in-Some.ensures.first in
    on_err c.write_stored.result c.write_stored.ensures.err (λ bytes. set_same c.args.file c.args.files.now.items c.in-Some.index c.index_mut.result.now c.write_stored.new.stored
    first c.index_mut.ensures.value c.write_stored.ensures.file bytes)

pub returns-in_ok-push-in-None-clause-ok : goal.returns-in_ok-push-in-None-clause-ok
returns-in_ok-push-in-None-clause-ok c =
    let none = rw c.deref.ensures.value at c.in-None.ensures.none in
    let pushed : c.push.new.self.items ≡ c.args.files.now.items ++ c.write_stored-in-None.new.stored ∷ [] = search rules in
    let made = rw c.in_ok-write_stored-in-None.was at c.write_stored-in-None.ensures.ok in
    ap image_of pushed ∙ push_step c.args.file c.args.files.now.items c.write_stored-in-None.new.stored (written c.args.at c.args.bytes.now) none c.write_stored-in-None.ensures.file made
