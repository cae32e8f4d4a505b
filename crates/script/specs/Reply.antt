-- The text of each reply.
use Rattle.std.specs.Prelude.{ℕ, ◌≤◌, List, [], ◌∷◌, ◌++◌, length, codes}
use Rattle.std.specs.Fmt.{decimal}
use Rattle.peb_base.specs.Texts.{number_text, limit_text}
use Rattle.script.specs.declared.reply.Reply.{Reply}
use Rattle.script.specs.declared.reply.Reply.TheVariants as replies
use Rattle.script.specs.Token.{token_text}

-- a line without its end
abbrev pub reply_words : Reply → List ℕ
reply_words (replies.Written n) = number_text n ++ codes " written"
reply_words (replies.Synced n) = number_text n ++ codes " synced"
reply_words (replies.UnsyncedFault n) = number_text n ++ codes " unsynced fault journal"
reply_words replies.Stopped = codes "stopped"
reply_words (replies.Limit kind n) = codes "limit " ++ limit_text kind ++ 32 ∷ decimal n
reply_words replies.Memory = codes "memory"
reply_words (replies.Value n value) = number_text n ++ codes " value " ++ token_text value.now
reply_words (replies.Nothing n) = number_text n ++ codes " none"

-- the line of a reply
abbrev pub reply_text : Reply → List ℕ
reply_text reply = reply_words reply ++ 10 ∷ []

-- a reply whose line a buffer has room for
abbrev pub IsReply : Reply → Type 0
IsReply (replies.Value n value) = length value.now ≤ 32768
IsReply _ = Unit {0}
