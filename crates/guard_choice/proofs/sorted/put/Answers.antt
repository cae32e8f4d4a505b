use Rattle.std.proofs.Common.{◌≡◌, ◌<◌, ◌≤◌, length, min, sym, ap, ◌∙◌, rules}
use Rattle.peb_base.specs.Keys.{key_eq}
use Rattle.guard_choice.specs.Sorted.{place_in}
use Rattle.guard_choice.proofs.OneMore.{same-item, put-at, put-behind, put-last}
use Rattle.guard_choice.proofs.sorted.put.Goals as goal
use Rattle.guard_choice.proofs.sorted.put.Goals.{else-at-len-via-then-at-len+else-eq, else-at-len-via-else-at-len}

pub returns-then-eq-clause-put : goal.returns-then-eq-clause-put
returns-then-eq-clause-put c =
    let cs = c.args.chosen.now.items in
    let key = c.args.more.key in
    let at : c.place_of-at.result ≡ place_in key cs = c.place_of-at.ensures.place ∙ ap (λ k. place_in k c.deref.result.now) c.bytes.ensures.value ∙ ap (place_in key) c.deref.ensures.value in
    let within : c.place_of-at.result < length cs = search rules in
    put-at c.args.more c.index.result.now c.index_mut.result.now cs c.place_of-at.result c.min-level.result at within c.index.ensures c.index_mut.ensures.value
    (ap (λ k. key_eq k key) (sym c.bytes-then-at-len.ensures.value) ∙ ap (key_eq c.bytes-then-at-len.result.now) (sym c.bytes-then-at-len-2.ensures.value) ∙ sym c.eq.ensures ∙ c.if-eq.true)
    (c.min-level.ensures ∙ ap (λ d. min d.level c.args.more.level) (same-item cs c.place_of-at.result c.index-then-eq.result.now c.index.result.now within c.index-then-eq.ensures c.index.ensures))

pub returns-clause-put : goal.returns-clause-put
returns-clause-put c =
    let cs = c.args.chosen.now.items in
    let key = c.args.more.key in
    let at : c.place_of-at.result ≡ place_in key cs = c.place_of-at.ensures.place ∙ ap (λ k. place_in k c.deref.result.now) c.bytes.ensures.value ∙ ap (place_in key) c.deref.ensures.value in
    c.in-Ok.ensures.items ∙ elim c.else-at-len.branch [
      | else-at-len-via-then-at-len+else-eq w ↦ put-behind c.args.more w.index.result.now cs c.place_of-at.result at w.index.ensures
          (ap (λ k. key_eq k key) (sym w.bytes-then-at-len.ensures.value) ∙ ap (key_eq w.bytes-then-at-len.result.now) (sym w.bytes-then-at-len-2.ensures.value) ∙ sym w.eq.ensures ∙ w.if-eq.false)
      | else-at-len-via-else-at-len w ↦ let past : length cs ≤ c.place_of-at.result = search rules in put-last c.args.more cs c.place_of-at.result at past
    ]
