use Rattle.std.proofs.Common.{◌≡◌, ◌++◌, ◌+◌, ◌*◌, ◌≤◌, length, take}
use Rattle.std.specs.List.{flat_map}
use Rattle.script.specs.Token.{byte_text}
use Rattle.script.proofs.reply_buf.ReplyBuf.put_token.Given as goal

abbrev pub invariant-loop-b : goal.invariant-loop-b
invariant-loop-b l = record {
  text : l.self ≡ l.fn.self ++ flat_map byte_text (take l.b-index l.bytes);
  short : length l.self ≤ length l.fn.self + 3 * l.b-index;
}
