use Rattle.std.proofs.Common.{◌≡◌, ◌-◌, ◌∙◌, ◌++◌, sym, drop, take, length, length-drop, arith}
use Rattle.std.proofs.lemmas.List.{take_all}
use Rattle.peb_base.specs.EntryRefs.{change_of}
use Rattle.block_form.proofs.Spelling.{parts_found, none_short, none_past, none_change, body_split}
use Rattle.block_form.proofs.fields.fields_at.Goals as goal

pub returns-then-bytes-lt17-clause-none : goal.returns-then-bytes-lt17-clause-none
returns-then-bytes-lt17-clause-none c = none_short c.args.bytes.now c.if-bytes-lt17.true

pub returns-then-body-rest_len-clause-none : goal.returns-then-body-rest_len-clause-none
returns-then-body-rest_len-clause-none c =
    let bytes = c.args.bytes.now in
    none_past bytes c.head_of-head.result c.head_of-head.ensures (omega (arith, length-drop 17 bytes))

pub returns-in_default-clause-none : goal.returns-in_default-clause-none
returns-in_default-clause-none c =
    let bytes = c.args.bytes.now in
    let h = c.head_of-head.result in
    let rest = c.split_at.result.0.now in
    let value = c.split_at-2.result.0.now in
    let after = c.split_at-2.result.1.now in
    let whole : take (length bytes - 17) (drop 17 bytes) ≡ drop 17 bytes = take_all (length bytes - 17) (drop 17 bytes) (omega (arith, length-drop 17 bytes)) in
    let body : drop 17 bytes ≡ rest ++ (value ++ after) =
    sym whole ∙ body_split _ rest c.split_at.result.1.now value after h.rest h.value c.split_at.ensures.front c.split_at.ensures.back c.split_at-2.ensures.front c.split_at-2.ensures.back in
    none_change bytes rest value after h c.head_of-head.ensures body c.split_at.ensures.front_len c.split_at-2.ensures.front_len c.in_default.ensures.none

pub returns-clause-found : goal.returns-clause-found
returns-clause-found c =
    let bytes = c.args.bytes.now in
    let h = c.head_of-head.result in
    let rest = c.split_at.result.0.now in
    let value = c.split_at-2.result.0.now in
    let after = c.split_at-2.result.1.now in
    let whole : take (length bytes - 17) (drop 17 bytes) ≡ drop 17 bytes = take_all (length bytes - 17) (drop 17 bytes) (omega (arith, length-drop 17 bytes)) in
    let body : drop 17 bytes ≡ rest ++ (value ++ after) =
    sym whole ∙ body_split _ rest c.split_at.result.1.now value after h.rest h.value c.split_at.ensures.front c.split_at.ensures.back c.split_at-2.ensures.front c.split_at-2.ensures.back in
    parts_found bytes rest value after h (change_of c.in-Some.change) (omega arith) (λ i. omega (arith, c.type_inv.bytes i)) c.head_of-head.ensures body c.split_at.ensures.front_len c.split_at-2.ensures.front_len
    c.in-Some.ensures.found.0 c.in-Some.ensures.found.1
