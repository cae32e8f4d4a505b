use Rattle.std.proofs.Common.{[], ◌∷◌, ◌++◌}
use Rattle.manifest.specs.Fields.{word_bytes, byte_bytes, flag_bytes, list_bytes, row_bytes, chosen_bytes}
use Rattle.manifest.proofs.Puts.{put_on, on_ok}
use Rattle.manifest.proofs.encode_edit.EditEncode.encode.Goals as goal

pub returns-in_ok-encode-in-Flush-4 : goal.returns-in_ok-encode-in-Flush-4
returns-in_ok-encode-in-Flush-4 c = rw c.in-Flush.is (on_ok c.encode-in-Flush-5.result (λ last.
    put_on c.args.bytes.now.items (2 ∷ []) (row_bytes c.in-Flush.row ++ (word_bytes c.in-Flush.from ++ (word_bytes c.in-Flush.to ++ (word_bytes c.in-Flush.log ++ (list_bytes chosen_bytes c.in-Flush.chosen))))) c.in_ok-push-in-Flush.ensures.items
    (put_on c.push-in-Flush.new.self.items (row_bytes c.in-Flush.row) (word_bytes c.in-Flush.from ++ (word_bytes c.in-Flush.to ++ (word_bytes c.in-Flush.log ++ (list_bytes chosen_bytes c.in-Flush.chosen)))) c.in_ok-encode-in-Flush.ensures
    (put_on c.encode-in-Flush.new.bytes.items (word_bytes c.in-Flush.from) (word_bytes c.in-Flush.to ++ (word_bytes c.in-Flush.log ++ (list_bytes chosen_bytes c.in-Flush.chosen))) c.in_ok-encode-in-Flush-2.ensures
    (put_on c.encode-in-Flush-2.new.bytes.items (word_bytes c.in-Flush.to) (word_bytes c.in-Flush.log ++ (list_bytes chosen_bytes c.in-Flush.chosen)) c.in_ok-encode-in-Flush-3.ensures
    (put_on c.encode-in-Flush-3.new.bytes.items (word_bytes c.in-Flush.log) (list_bytes chosen_bytes c.in-Flush.chosen) c.in_ok-encode-in-Flush-4.ensures
    (last))))))
    c.encode-in-Flush-5.ensures)

pub returns-in_ok-encode-in-Move-3 : goal.returns-in_ok-encode-in-Move-3
returns-in_ok-encode-in-Move-3 c = rw c.in-Move.is (on_ok c.encode-in-Move-4.result (λ last.
    put_on c.args.bytes.now.items (3 ∷ []) (byte_bytes c.in-Move.level ++ (word_bytes c.in-Move.floor ++ (list_bytes word_bytes c.in-Move.inputs ++ (list_bytes row_bytes c.in-Move.outputs)))) c.in_ok-push-in-Move.ensures.items
    (put_on c.push-in-Move.new.self.items (byte_bytes c.in-Move.level) (word_bytes c.in-Move.floor ++ (list_bytes word_bytes c.in-Move.inputs ++ (list_bytes row_bytes c.in-Move.outputs))) c.in_ok-encode-in-Move.ensures
    (put_on c.encode-in-Move.new.bytes.items (word_bytes c.in-Move.floor) (list_bytes word_bytes c.in-Move.inputs ++ (list_bytes row_bytes c.in-Move.outputs)) c.in_ok-encode-in-Move-2.ensures
    (put_on c.encode-in-Move-2.new.bytes.items (list_bytes word_bytes c.in-Move.inputs) (list_bytes row_bytes c.in-Move.outputs) c.in_ok-encode-in-Move-3.ensures
    (last)))))
    c.encode-in-Move-4.ensures)

pub returns-in_ok-encode-in-Merge-3 : goal.returns-in_ok-encode-in-Merge-3
returns-in_ok-encode-in-Merge-3 c = rw c.in-Merge.is (on_ok c.encode-in-Merge-4.result (λ last.
    put_on c.args.bytes.now.items (5 ∷ []) (word_bytes c.in-Merge.floor ++ (flag_bytes c.in-Merge.whole ++ (list_bytes word_bytes c.in-Merge.inputs ++ (list_bytes row_bytes c.in-Merge.outputs)))) c.in_ok-push-in-Merge.ensures.items
    (put_on c.push-in-Merge.new.self.items (word_bytes c.in-Merge.floor) (flag_bytes c.in-Merge.whole ++ (list_bytes word_bytes c.in-Merge.inputs ++ (list_bytes row_bytes c.in-Merge.outputs))) c.in_ok-encode-in-Merge.ensures
    (put_on c.encode-in-Merge.new.bytes.items (flag_bytes c.in-Merge.whole) (list_bytes word_bytes c.in-Merge.inputs ++ (list_bytes row_bytes c.in-Merge.outputs)) c.in_ok-encode-in-Merge-2.ensures
    (put_on c.encode-in-Merge-2.new.bytes.items (list_bytes word_bytes c.in-Merge.inputs) (list_bytes row_bytes c.in-Merge.outputs) c.in_ok-encode-in-Merge-3.ensures
    (last)))))
    c.encode-in-Merge-4.ensures)
