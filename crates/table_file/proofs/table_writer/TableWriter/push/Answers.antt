use Rattle.std.proofs.Common.{◌≡◌, ◌<◌, ◌+◌, ◌≤◌, ◌∷◌, ◌++◌, ◌∙◌, [], length, ap, sym, subst, Err, arith, rules, true, inl, inr}
use Rattle.std.proofs.lemmas.List.{length-map}
use Rattle.peb_base.specs.EntryRefs.{entry_of}
use Rattle.peb_base.specs.Choice.{mixed}
use Rattle.peb_base.specs.Tables.{last_key}
use Rattle.peb_base.specs.declared.entry.Entry.{Entry}
use Rattle.block_form.specs.Building.{Building}
use Rattle.block_form.specs.Form.{block_bytes}
use Rattle.table_file.specs.Form.{Cut, cut_of, last_number}
use Rattle.table_file.specs.Limits.{IsRefused}
use Rattle.table_file.specs.Sums.{Sums}
use Rattle.table_file.specs.Writing.{Keeps}
use Rattle.table_file.proofs.Cuts.{sorted_begun, keeps_on, keeps_closed, cut_closed, fault_closed, length-none}
use Rattle.std.proofs.lemmas.Bool.{cases_lt, true≢false}
use Rattle.disk_model.specs.Tables.{capped}
use Rattle.table_file.specs.Taking.{pushed_length, TakesAtMost}
use Rattle.table_file.specs.TakingLaws.{takes_none, takes_failed}
use Rattle.table_file.proofs.Taken.{pushed_closed, pushed_open}
use Rattle.table_file.proofs.Summing.{last_key-push, last_number-push}
use Rattle.table_file.proofs.table_writer.TableWriter.push.Goals as goal

pub push-requires-2-clause-sorted : goal.push-requires-2-clause-sorted
push-requires-2-clause-sorted g c =
    let pushed = c.requires.1 in sorted_begun _ _ _ _ _ _ _ _ _ c.requires.0 (entry_of c.args.entry) pushed.keeps c.requires.2

pub returns-in-Ok-clause-pushed : goal.returns-in-Ok-clause-pushed
returns-in-Ok-clause-pushed g c = λ es pushed sorted.
    let w = c.args.self.now in
    let e = entry_of c.args.entry in
    let cut = cut_of w.builder.full es in
    let few : length es < 1717986918 = omega (arith, ap length pushed.keeps.hashes_are, length-map es (λ (e : Entry). mixed e.key), c.len.ensures, c.if-len-ge-MOST_ENTRIES.false) in
    let block : c.push-2.new.self.entries ≡ w.builder.entries ++ e ∷ [] = ap (λ (b : Building). b.entries) c.push-2.ensures in
    let mine : c.push-2.new.self.entries ≡ cut.begun ++ e ∷ [] = block ∙ ap (λ l. l ++ e ∷ []) pushed.keeps.open_is in
    let hashes : c.push.new.self.items ≡ w.hashes.items ++ mixed e.key ∷ [] = c.in_ok-push.ensures.items ∙ ap (λ n. w.hashes.items ++ n ∷ []) c.mixed.ensures in
    let sums : Sums c.add.new.self (es ++ e ∷ []) = c.add.ensures es pushed.keeps.sums sorted in
    let one = keeps_on _ _ _ _ _ c.push-2.new.self.entries w.index _ c.push.new.self.items _ c.add.new.self cut es e pushed.keeps sorted few block hashes sums in
    let full : c.close_block.new.builder.full ≡ w.builder.full = ap (λ (b : Building). b.full) (c.in-Ok.ensures.builder ∙ ap (λ (b : Building). record b { entries = [] }) c.push-2.ensures) in
    let yes_ : c.is_full.result ≡ true = search rules in
    let long : w.builder.full ≤ length (block_bytes (cut.begun ++ e ∷ [])) =
    omega (arith, c.is_full.ensures.0 yes_, ap (λ (b : Building). b.full) c.push-2.ensures, ap (λ l. length (block_bytes l)) mine) in
    let key : last_key c.push-2.new.self.entries ≡ c.add.new.self.largest = ap last_key block ∙ last_key-push w.builder.entries e ∙ sym (sums.largest ∙ last_key-push es e) in
    let number : last_number c.push-2.new.self.entries ≡ c.add.new.self.latest = ap last_number block ∙ last_number-push w.builder.entries e ∙ sym (sums.latest ∙ last_number-push es e) in
    let two = keeps_closed _ _ (g.M.Maker.begun c.close_block.new.maker) _ (g.M.Maker.written c.close_block.new.maker) _ c.push-2.new.self.entries c.close_block.new.builder.entries w.index c.close_block.new.index _ _ _ _ one
    c.in-Ok.ensures.begun c.in-Ok.ensures.written (ap (λ (b : Building). b.entries) c.in-Ok.ensures.builder) (c.in-Ok.ensures.index cut.closed pushed.keeps.index_is key number) in
    let at = ap (λ n. cut_of n (es ++ e ∷ [])) full ∙ cut_closed w.builder.full es e long in
    record {
      keeps = subst (λ (cut : Cut). Keeps g.M.File.TableHandle.tells (g.M.Maker.begun c.close_block.new.maker) (g.M.Maker.written c.close_block.new.maker) w.number c.close_block.new.builder.entries c.close_block.new.index c.push.new.self.items c.add.new.self cut (es ++ e ∷ [])) (sym at) two;
      room = omega (arith, ap (λ (cut : Cut). length (block_bytes cut.begun)) at, length-none, full, w.room);
    }

pub returns-in-Ok-clause-limit : goal.returns-in-Ok-clause-limit
returns-in-Ok-clause-limit g c = λ es pushed sorted.
    let w = c.args.self.now in
    let e = entry_of c.args.entry in
    let cut = cut_of w.builder.full es in
    let few : length es < 1717986918 = omega (arith, ap length pushed.keeps.hashes_are, length-map es (λ (e : Entry). mixed e.key), c.len.ensures, c.if-len-ge-MOST_ENTRIES.false) in
    let mine : c.push-2.new.self.entries ≡ cut.begun ++ e ∷ [] = ap (λ (b : Building). b.entries) c.push-2.ensures ∙ ap (λ l. l ++ e ∷ []) pushed.keeps.open_is in
    let yes_ : c.is_full.result ≡ true = search rules in
    let long : w.builder.full ≤ length (block_bytes (cut.begun ++ e ∷ [])) =
    omega (arith, c.is_full.ensures.0 yes_, ap (λ (b : Building). b.full) c.push-2.ensures, ap (λ l. length (block_bytes l)) mine) in
    let sums : Sums c.add.new.self (es ++ e ∷ []) = c.add.ensures es pushed.keeps.sums sorted in
    let key : c.add.new.self.largest ≡ last_key (cut.begun ++ e ∷ []) = sums.largest ∙ last_key-push es e ∙ sym (last_key-push cut.begun e) in
    let same = fault_closed w.builder.full es e w.index c.add.new.self.largest few long pushed.keeps.index_is key in
    same ∙ c.in-Ok.ensures.refused

pub returns-in-Err-clause-limit : goal.returns-in-Err-clause-limit
returns-in-Err-clause-limit g c = λ es pushed sorted.
    let w = c.args.self.now in
    let e = entry_of c.args.entry in
    let cut = cut_of w.builder.full es in
    let few : length es < 1717986918 = omega (arith, ap length pushed.keeps.hashes_are, length-map es (λ (e : Entry). mixed e.key), c.len.ensures, c.if-len-ge-MOST_ENTRIES.false) in
    let mine : c.push-2.new.self.entries ≡ cut.begun ++ e ∷ [] = ap (λ (b : Building). b.entries) c.push-2.ensures ∙ ap (λ l. l ++ e ∷ []) pushed.keeps.open_is in
    let yes_ : c.is_full.result ≡ true = search rules in
    let long : w.builder.full ≤ length (block_bytes (cut.begun ++ e ∷ [])) =
    omega (arith, c.is_full.ensures.0 yes_, ap (λ (b : Building). b.full) c.push-2.ensures, ap (λ l. length (block_bytes l)) mine) in
    let sums : Sums c.add.new.self (es ++ e ∷ []) = c.add.ensures es pushed.keeps.sums sorted in
    let key : c.add.new.self.largest ≡ last_key (cut.begun ++ e ∷ []) = sums.largest ∙ last_key-push es e ∙ sym (last_key-push cut.begun e) in
    let same = fault_closed w.builder.full es e w.index c.add.new.self.largest few long pushed.keeps.index_is key in
    subst (λ r. IsRefused {T = Unit {0}} r (Err c.in-Err.fault)) (sym same) c.in-Err.ensures.refused

pub returns-in_err-push-clause-taken : goal.returns-in_err-push-clause-taken
returns-in_err-push-clause-taken g c = λ es pushed sorted.
    takes_failed c.from_residual.result _ c.from_residual.ensures.1 _ _ _
    (takes_none _ _ (g.met.M.Maker.taken_fits c.args.maker.now))

pub returns-then-not-is_full-clause-taken : goal.returns-then-not-is_full-clause-taken
returns-then-not-is_full-clause-taken g c = λ es pushed sorted.
    let w = c.args.self.now in
    let e = entry_of c.args.entry in
    let mine : c.push-2.new.self.entries ≡ (cut_of w.builder.full es).begun ++ e ∷ [] =
    ap (λ (b : Building). b.entries) c.push-2.ensures ∙ ap (λ l. l ++ e ∷ []) pushed.keeps.open_is in
    let short : length (block_bytes ((cut_of w.builder.full es).begun ++ e ∷ [])) < w.builder.full =
    elim (cases_lt (length (block_bytes ((cut_of w.builder.full es).begun ++ e ∷ []))) w.builder.full) [
      | inl lt ↦ lt
      | inr le ↦ absurd (true≢false (sym (c.is_full.ensures.1 (omega (
        arith,
        le,
        ap (λ (b : Building). b.full) c.push-2.ensures,
        ap (λ l. length (block_bytes l)) mine,
      )))
          ∙ c.if-not-is_full.true))
    ] in
    let none = pushed_open w.builder.full es e short in
    let fits = g.met.M.Maker.taken_fits c.args.maker.now in
    omega (arith, none, fits)

pub returns-in-Ok-clause-taken : goal.returns-in-Ok-clause-taken
returns-in-Ok-clause-taken g c = λ es pushed sorted.
    let w = c.args.self.now in
    let e = entry_of c.args.entry in
    let mine : c.push-2.new.self.entries ≡ (cut_of w.builder.full es).begun ++ e ∷ [] =
    ap (λ (b : Building). b.entries) c.push-2.ensures ∙ ap (λ l. l ++ e ∷ []) pushed.keeps.open_is in
    let yes_ : c.is_full.result ≡ true = search rules in
    let long : w.builder.full ≤ length (block_bytes ((cut_of w.builder.full es).begun ++ e ∷ [])) =
    omega (arith, c.is_full.ensures.0 yes_, ap (λ (b : Building). b.full) c.push-2.ensures, ap (λ l. length (block_bytes l)) mine) in
    let count : length (block_bytes c.push-2.new.self.entries) ≡ pushed_length w.builder.full es e =
    ap (λ l. length (block_bytes l)) mine ∙ sym (pushed_closed w.builder.full es e long) in
    c.in-Ok.ensures.taken ∙ ap (λ n. capped (g.M.Maker.taken c.args.maker.now + n)) count

pub returns-in-Err-clause-taken : goal.returns-in-Err-clause-taken
returns-in-Err-clause-taken g c = λ es pushed sorted.
    let w = c.args.self.now in
    let e = entry_of c.args.entry in
    let mine : c.push-2.new.self.entries ≡ (cut_of w.builder.full es).begun ++ e ∷ [] =
    ap (λ (b : Building). b.entries) c.push-2.ensures ∙ ap (λ l. l ++ e ∷ []) pushed.keeps.open_is in
    let yes_ : c.is_full.result ≡ true = search rules in
    let long : w.builder.full ≤ length (block_bytes ((cut_of w.builder.full es).begun ++ e ∷ [])) =
    omega (arith, c.is_full.ensures.0 yes_, ap (λ (b : Building). b.full) c.push-2.ensures, ap (λ l. length (block_bytes l)) mine) in
    let count : length (block_bytes c.push-2.new.self.entries) ≡ pushed_length w.builder.full es e =
    ap (λ l. length (block_bytes l)) mine ∙ sym (pushed_closed w.builder.full es e long) in
    subst (λ n. TakesAtMost n (g.M.Maker.taken c.args.maker.now) (g.M.Maker.taken c.close_block.new.maker)) count c.in-Err.ensures.taken
