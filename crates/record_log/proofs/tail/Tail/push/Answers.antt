use Rattle.std.proofs.Common.{◌≡◌, ◌-◌, ◌++◌, ◌∷◌, [], length, take, drop, arith, rules, ap, ◌∙◌, length-append}
use Rattle.byteorder.specs.Endian.{big_bytes}
use Rattle.record_log.specs.Frame.{records_in}
use Rattle.record_log.specs.Groups.{record_bytes}
use Rattle.record_log.proofs.Frames.{frame_after, in_frame, is_framed, length-framed, length-framed_in}
use Rattle.record_log.specs.GroupLaws.{length-record}
use Rattle.record_log.proofs.tail.Tail.push.Goals as goal

pub invariant_of-self-2 : goal.invariant_of-self-2
invariant_of-self-2 c =
    let tail = c.args.self.now in
    let body = c.args.body.now in
    let records = records_in tail.group.items ++ record_bytes body in
    let items : c.push.new.self.items ≡ take (c.len-end.result - 1) tail.group.items ++ big_bytes 4 (length body) ++ body ++ 0 ∷ [] =
    c.in_ok-push.ensures.items ∙ ap (λ l. l ++ 0 ∷ []) (c.in_ok-extend_from_slice-2.ensures.items ∙ ap (λ l. l ++ body) (c.in_ok-extend_from_slice.ensures.items ∙ (λ i. c.truncate.ensures.items i ++ c.to_be_bytes.ensures i))) in
    let long = length-framed_in tail.group.items tail.framed in
    let ended : c.len-end.result ≡ length tail.group.items = search rules in
    let pushed_len : c.push.new.self.len ≡ length c.push.new.self.items = search rules in
    let new = frame_after tail.group.items c.push.new.self.items c.write_u32.new.buf body (c.len-end.result - 1) c.push.new.self.len (c.len.result - 5) tail.framed
    (omega (arith, ended, long)) items pushed_len (ap (λ n. n - 5) c.len.ensures) (c.write_u32.ensures ∙ ap (λ l. big_bytes 4 (c.len.result - 5) ++ drop 4 l) c.deref_mut.ensures.value) in
    record { framed = is_framed _ records new; small = omega (arith, ap length new, length-framed records, length-append (records_in tail.group.items) (record_bytes body), length-record body, c.requires.within) }

pub returns-clause-added : goal.returns-clause-added
returns-clause-added c =
    let tail = c.args.self.now in
    let body = c.args.body.now in
    let records = records_in tail.group.items ++ record_bytes body in
    let items : c.push.new.self.items ≡ take (c.len-end.result - 1) tail.group.items ++ big_bytes 4 (length body) ++ body ++ 0 ∷ [] =
    c.in_ok-push.ensures.items ∙ ap (λ l. l ++ 0 ∷ []) (c.in_ok-extend_from_slice-2.ensures.items ∙ ap (λ l. l ++ body) (c.in_ok-extend_from_slice.ensures.items ∙ (λ i. c.truncate.ensures.items i ++ c.to_be_bytes.ensures i))) in
    let long = length-framed_in tail.group.items tail.framed in
    let ended : c.len-end.result ≡ length tail.group.items = search rules in
    let pushed_len : c.push.new.self.len ≡ length c.push.new.self.items = search rules in
    let new = frame_after tail.group.items c.push.new.self.items c.write_u32.new.buf body (c.len-end.result - 1) c.push.new.self.len (c.len.result - 5) tail.framed
    (omega (arith, ended, long)) items pushed_len (ap (λ n. n - 5) c.len.ensures) (c.write_u32.ensures ∙ ap (λ l. big_bytes 4 (c.len.result - 5) ++ drop 4 l) c.deref_mut.ensures.value) in
    in_frame _ records new
