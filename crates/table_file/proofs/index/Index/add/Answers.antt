use Rattle.std.proofs.Common.{◌≡◌, ◌+◌, ◌∷◌, ◌++◌, [], length, ap, sym, subst, true, ◌∙◌, arith, rules, length-append}
use Rattle.block_form.specs.Form.{block_bytes}
use Rattle.table_file.specs.Form.{item_of, body_bytes, index_bytes}
use Rattle.table_file.specs.declared.index_item.IndexItem.{IndexItem}
use Rattle.table_file.proofs.Indexing.{items-push, body-push, length-index-push}
use Rattle.table_file.proofs.Searching.{short-push}
use Rattle.table_file.specs.Items.{are_short}
use Rattle.table_file.proofs.index.Index.add.Goals as goal

pub returns-clause-added : goal.returns-clause-added
returns-clause-added c = λ blocks es old len key number.
    let item : IndexItem = record { place = c.args.self.now.end; len = c.args.len; key = c.in_ok-key.key; number = c.args.number } in
    let is_key : c.in_ok-key.key ≡ c.args.key.now = search rules in
    let pushed : c.push.new.self.items ≡ c.args.self.now.items.items ++ item ∷ [] = search rules in
    let place : c.args.self.now.end ≡ 0 + length (body_bytes blocks) = omega (arith, old.end) in
    let same : ◌≡◌ {A = IndexItem} item (item_of (0 + length (body_bytes blocks)) es) =
    λ i. record { place = place i; len = len i; key = (is_key ∙ key) i; number = number i } in
    record {
      items = pushed ∙ (λ i. old.items i ++ same i ∷ []) ∙ sym (items-push 0 blocks es);
      end = omega (arith, old.end, len, ap length (body-push blocks es), length-append (body_bytes blocks) (block_bytes es));
      bytes = omega (arith, old.bytes, ap (λ l. length (index_bytes l)) pushed, length-index-push c.args.self.now.items.items item, ap length is_key);
    }

pub invariant_of-self-2-clause-each : goal.invariant_of-self-2-clause-each
invariant_of-self-2-clause-each c =
    let item : IndexItem = record { place = c.args.self.now.end; len = c.args.len; key = c.in_ok-key.key; number = c.args.number } in
    let pushed : c.push.new.self.items ≡ c.args.self.now.items.items ++ item ∷ [] = search rules in
    subst (λ l. are_short l ≡ true) (sym pushed) (short-push c.args.self.now.items.items item c.args.self.now.each c.requires.len)
