use Rattle.std.proofs.Common.{◌≡◌, ◌-◌, ◌∷◌, ◌++◌, ◌∙◌, List, ℕ, sym, ap, subst, drop, take, length, length-drop, take-append-drop, arith}
use Rattle.std.proofs.lemmas.List.{take_all, take_rest}
use Rattle.byteorder.specs.Endian.{big_bytes}
use Rattle.block_form.specs.Form.{IsBlock}
use Rattle.block_form.proofs.Spelling.{Fit, fit_tail, again_4}
use Rattle.block_form.proofs.Walks.{apart, block_long, block_first, none_past}
use Rattle.block_form.proofs.parts.parts_of_block.Goals as goal

pub returns-then-bytes-lt5-clause-none : goal.returns-then-bytes-lt5-clause-none
returns-then-bytes-lt5-clause-none c = λ es is. omega (arith, block_long es c.args.bytes.now is, c.if-bytes-lt5.true)

pub returns-then-bytes-ne0-clause-none : goal.returns-then-bytes-ne0-clause-none
returns-then-bytes-ne0-clause-none c = λ es is. c.if-bytes-ne0.true (block_first es c.args.bytes.now is)

pub returns-then-front-count-clause-none : goal.returns-then-front-count-clause-none
returns-then-front-count-clause-none c = λ es is.
    let bytes = c.args.bytes.now in
    let front = c.split_at.result.0.now in
    let tail = c.split_at.result.1.now in
    let body : take (length bytes - 1) (drop 1 bytes) ≡ drop 1 bytes = take_rest bytes 1 in
    let whole = apart bytes _ front tail _ (omega (arith, c.if-bytes-lt5.false)) c.if-bytes-ne0.false body c.split_at.ensures.front c.split_at.ensures.back in
    none_past es front tail c.read_u32-count.result (omega (arith, c.if-front-count.true)) (omega (arith, c.split_at.ensures.back_len, ap length body, length-drop 1 bytes)) c.read_u32-count.ensures
    (subst (λ (l : List ℕ). IsBlock es l) whole is)

pub returns-clause-found : goal.returns-clause-found
returns-clause-found c =
    let bytes = c.args.bytes.now in
    let front = c.split_at.result.0.now in
    let tail = c.split_at.result.1.now in
    let entries = c.split_at-2.result.0.now in
    let places = c.split_at-2.result.1.now in
    let n = c.read_u32-count.result in
    let body : take (length bytes - 1) (drop 1 bytes) ≡ drop 1 bytes = take_rest bytes 1 in
    let whole = apart bytes _ front tail _ (omega (arith, c.if-bytes-lt5.false)) c.if-bytes-ne0.false body c.split_at.ensures.front c.split_at.ensures.back in
    let four : length tail ≡ 4 = omega (arith, c.split_at.ensures.back_len, ap length body, length-drop 1 bytes) in
    let parts : front ≡ entries ++ places = sym (take-append-drop _ front) ∙ (λ i. sym c.split_at-2.ensures.front i ++ sym c.split_at-2.ensures.back i) in
    let fit : Fit tail = fit_tail bytes _ tail _ (λ i. omega (arith, c.type_inv.bytes i)) body c.split_at.ensures.back in
    record {
      number = n;
      tail = tail;
      small = omega arith;
      whole = whole ∙ ap (λ l. 0 ∷ (l ++ tail)) parts;
      four = four;
      long = omega (arith, c.split_at-2.ensures.back_len);
      read = c.read_u32-count.ensures;
      again = sym (ap (big_bytes 4) c.read_u32-count.ensures ∙ again_4 tail (omega (arith, four)) fit ∙ take_all 4 tail (omega (arith, four)));
    }
