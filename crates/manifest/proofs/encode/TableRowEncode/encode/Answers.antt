use Rattle.std.proofs.Common.{◌++◌}
use Rattle.manifest.specs.Fields.{word_bytes, byte_bytes, key_bytes}
use Rattle.manifest.proofs.Puts.{put_on, on_ok}
use Rattle.manifest.proofs.encode.TableRowEncode.encode.Goals as goal

pub returns : goal.returns
returns c = let r = c.args.self.now in on_ok c.encode-10.result (λ last.
    put_on c.args.bytes.now.items (word_bytes r.number) (byte_bytes r.level ++ (byte_bytes r.tier ++ (key_bytes r.smallest ++ (key_bytes r.largest ++ (word_bytes r.entries ++ (word_bytes r.raw ++ (word_bytes r.first ++ (word_bytes r.last ++ (word_bytes r.bytes))))))))) c.in_ok-encode.ensures
    (put_on c.encode.new.bytes.items (byte_bytes r.level) (byte_bytes r.tier ++ (key_bytes r.smallest ++ (key_bytes r.largest ++ (word_bytes r.entries ++ (word_bytes r.raw ++ (word_bytes r.first ++ (word_bytes r.last ++ (word_bytes r.bytes)))))))) c.in_ok-encode-2.ensures
    (put_on c.encode-2.new.bytes.items (byte_bytes r.tier) (key_bytes r.smallest ++ (key_bytes r.largest ++ (word_bytes r.entries ++ (word_bytes r.raw ++ (word_bytes r.first ++ (word_bytes r.last ++ (word_bytes r.bytes))))))) c.in_ok-encode-3.ensures
    (put_on c.encode-3.new.bytes.items (key_bytes r.smallest) (key_bytes r.largest ++ (word_bytes r.entries ++ (word_bytes r.raw ++ (word_bytes r.first ++ (word_bytes r.last ++ (word_bytes r.bytes)))))) c.in_ok-encode-4.ensures
    (put_on c.encode-4.new.bytes.items (key_bytes r.largest) (word_bytes r.entries ++ (word_bytes r.raw ++ (word_bytes r.first ++ (word_bytes r.last ++ (word_bytes r.bytes))))) c.in_ok-encode-5.ensures
    (put_on c.encode-5.new.bytes.items (word_bytes r.entries) (word_bytes r.raw ++ (word_bytes r.first ++ (word_bytes r.last ++ (word_bytes r.bytes)))) c.in_ok-encode-6.ensures
    (put_on c.encode-6.new.bytes.items (word_bytes r.raw) (word_bytes r.first ++ (word_bytes r.last ++ (word_bytes r.bytes))) c.in_ok-encode-7.ensures
    (put_on c.encode-7.new.bytes.items (word_bytes r.first) (word_bytes r.last ++ (word_bytes r.bytes)) c.in_ok-encode-8.ensures
    (put_on c.encode-8.new.bytes.items (word_bytes r.last) (word_bytes r.bytes) c.in_ok-encode-9.ensures
    (last))))))))))
    c.encode-10.ensures
