use Rattle.std.proofs.Common.{◌≡◌, ◌+◌, ◌-◌, ◌≤◌, ◌∙◌, ℕ, List, Err, length, ap, sym, subst, arith}
use Rattle.disk_model.specs.Tables.{capped}
use Rattle.peb_base.specs.declared.entry.Entry.{Entry}
use Rattle.table_file.specs.Taking.{last_length, rest_length, TakesAtMost}
use Rattle.table_file.specs.TakingLaws.{takes_less, takes_on, takes_both}
use Rattle.table_file.proofs.Taken.{rest_parts}
use Rattle.table_file.specs.Form.{cut_of, with_last, body_bytes, blocks_table}
use Rattle.table_file.specs.Gathers.{Gathers}
use Rattle.table_file.specs.Limits.{blocks_fault, IsRefused}
use Rattle.table_file.specs.Tables.{IsTableOf}
use Rattle.table_file.proofs.Cuts.{ends_with, no_limit}
use Rattle.table_file.proofs.Searching.{closed_ascend, closed_some}
use Rattle.table_file.proofs.table_writer.TableWriter.finish.Goals as goal

pub returns-in-Err-clause-limit : goal.returns-in-Err-clause-limit
returns-in-Err-clause-limit g c = λ es pushed some.
    let closed = (cut_of c.args.self.now.builder.full es).closed in
    subst (λ block. IsRefused {T = Unit {0}} (blocks_fault (with_last closed block)) (Err c.in-Err.fault)) pushed.keeps.open_is
    (c.in-Err.ensures.refused closed pushed.keeps.index_is (ends_with _ _ _ _ _ _ _ _ _ es pushed.keeps))

pub seal_table-requires-clause-begun : goal.seal_table-requires-clause-begun
seal_table-requires-clause-begun g c = c.in-Ok.ensures.begun ∙ c.requires.1.keeps.begun_is

pub seal_table-requires-clause-entries : goal.seal_table-requires-clause-entries
seal_table-requires-clause-entries g c =
    let es = c.requires.0 in
    let pushed = c.requires.1 in
    let closed = (cut_of c.args.self.now.builder.full es).closed in (
      es,
      with_last closed c.args.self.now.builder.entries,
      record {
        sorted = pushed.keeps.sorted;
        some = c.requires.2;
        few = pushed.keeps.few;
        index_is = c.in-Ok.ensures.index closed pushed.keeps.index_is (ends_with _ _ _ _ _ _ _ _ _ es pushed.keeps);
        blocked = closed_some c.args.self.now.builder.full es c.args.self.now.builder.entries c.requires.2 pushed.keeps.open_is;
        ascending = closed_ascend c.args.self.now.builder.full es c.args.self.now.builder.entries pushed.keeps.sorted pushed.keeps.open_is;
        hashes_are = c.deref.ensures.value ∙ pushed.keeps.hashes_are;
        sums = pushed.keeps.sums;
      },
    )

pub returns-in-Ok-seal_table-clause-table : goal.returns-in-Ok-seal_table-clause-table
returns-in-Ok-seal_table-clause-table g c = λ es pushed some.
    let closed = (cut_of c.args.self.now.builder.full es).closed in
    let block = c.args.self.now.builder.entries in
    let gathers : Gathers c.close_last.new.index c.deref.result.now c.args.self.now.summary (with_last closed block) es = record {
      sorted = pushed.keeps.sorted;
      some = some;
      few = pushed.keeps.few;
      index_is = c.in-Ok.ensures.index closed pushed.keeps.index_is (ends_with _ _ _ _ _ _ _ _ _ es pushed.keeps);
      blocked = closed_some c.args.self.now.builder.full es block some pushed.keeps.open_is;
      ascending = closed_ascend c.args.self.now.builder.full es block pushed.keeps.sorted pushed.keeps.open_is;
      hashes_are = c.deref.ensures.value ∙ pushed.keeps.hashes_are;
      sums = pushed.keeps.sums;
    } in
    let made = c.in-Ok-seal_table.ensures.table es (with_last closed block) gathers (λ told. c.in-Ok.ensures.written told closed (pushed.keeps.blocks told)) in
    subst (λ b. IsTableOf g.M.File.TableHandle c.in-Ok-seal_table.table (with_last closed b) es) pushed.keeps.open_is made

pub returns-in-Ok-seal_table-clause-limit : goal.returns-in-Ok-seal_table-clause-limit
returns-in-Ok-seal_table-clause-limit g c = λ es pushed some.
    let closed = (cut_of c.args.self.now.builder.full es).closed in
    ap (λ block. blocks_fault (with_last closed block)) (sym pushed.keeps.open_is) ∙ c.in-Ok.ensures.refused closed pushed.keeps.index_is (ends_with _ _ _ _ _ _ _ _ _ es pushed.keeps)

pub returns-in-Err-seal_table-clause-limit : goal.returns-in-Err-seal_table-clause-limit
returns-in-Err-seal_table-clause-limit g c = λ es pushed some.
    let closed = (cut_of c.args.self.now.builder.full es).closed in
    no_limit _ c.in-Err-seal_table.fault c.in-Err-seal_table.ensures.fault
    (ap (λ block. blocks_fault (with_last closed block)) (sym pushed.keeps.open_is) ∙ c.in-Ok.ensures.refused closed pushed.keeps.index_is (ends_with _ _ _ _ _ _ _ _ _ es pushed.keeps))

pub returns-in-Err-clause-taken : goal.returns-in-Err-clause-taken
returns-in-Err-clause-taken g c = λ es pushed some.
    let block = c.args.self.now.builder.entries in
    let le : last_length block ≤ rest_length c.args.self.now.builder.full c.args.self.now.number es =
    omega (arith, ap last_length pushed.keeps.open_is, rest_parts c.args.self.now.builder.full c.args.self.now.number es) in
    takes_less (last_length block) _ _ _ le c.in-Err.ensures.taken

pub returns-in-Ok-seal_table-clause-taken : goal.returns-in-Ok-seal_table-clause-taken
returns-in-Ok-seal_table-clause-taken g c = λ es pushed some.
    let closed = (cut_of c.args.self.now.builder.full es).closed in
    let block = c.args.self.now.builder.entries in
    let gathers : Gathers c.close_last.new.index c.deref.result.now c.args.self.now.summary (with_last closed block) es = record {
      sorted = pushed.keeps.sorted;
      some = some;
      few = pushed.keeps.few;
      index_is = c.in-Ok.ensures.index closed pushed.keeps.index_is (ends_with _ _ _ _ _ _ _ _ _ es pushed.keeps);
      blocked = closed_some c.args.self.now.builder.full es block some pushed.keeps.open_is;
      ascending = closed_ascend c.args.self.now.builder.full es block pushed.keeps.sorted pushed.keeps.open_is;
      hashes_are = c.deref.ensures.value ∙ pushed.keeps.hashes_are;
      sums = pushed.keeps.sums;
    } in
    let tail = length (blocks_table c.args.self.now.number (with_last closed block) es) - length (body_bytes (with_last closed block)) in
    let rest : rest_length c.args.self.now.builder.full c.args.self.now.number es ≡ last_length block + tail =
    subst (λ (b : List Entry). rest_length c.args.self.now.builder.full c.args.self.now.number es
    ≡ last_length b + (length (blocks_table c.args.self.now.number (with_last closed b) es) - length (body_bytes (with_last closed b))))
    (sym pushed.keeps.open_is) (rest_parts c.args.self.now.builder.full c.args.self.now.number es) in
    takes_both (last_length block) tail _ _ _ c.in-Ok.ensures.taken (c.in-Ok-seal_table.ensures.taken es (with_last closed block) gathers)
    ∙ ap (λ (n : ℕ). capped (g.M.Maker.taken c.args.maker.now + n)) (sym rest)

pub returns-in-Err-seal_table-clause-taken : goal.returns-in-Err-seal_table-clause-taken
returns-in-Err-seal_table-clause-taken g c = λ es pushed some.
    let closed = (cut_of c.args.self.now.builder.full es).closed in
    let block = c.args.self.now.builder.entries in
    let gathers : Gathers c.close_last.new.index c.deref.result.now c.args.self.now.summary (with_last closed block) es = record {
      sorted = pushed.keeps.sorted;
      some = some;
      few = pushed.keeps.few;
      index_is = c.in-Ok.ensures.index closed pushed.keeps.index_is (ends_with _ _ _ _ _ _ _ _ _ es pushed.keeps);
      blocked = closed_some c.args.self.now.builder.full es block some pushed.keeps.open_is;
      ascending = closed_ascend c.args.self.now.builder.full es block pushed.keeps.sorted pushed.keeps.open_is;
      hashes_are = c.deref.ensures.value ∙ pushed.keeps.hashes_are;
      sums = pushed.keeps.sums;
    } in
    let tail = length (blocks_table c.args.self.now.number (with_last closed block) es) - length (body_bytes (with_last closed block)) in
    let rest : rest_length c.args.self.now.builder.full c.args.self.now.number es ≡ last_length block + tail =
    subst (λ (b : List Entry). rest_length c.args.self.now.builder.full c.args.self.now.number es
    ≡ last_length b + (length (blocks_table c.args.self.now.number (with_last closed b) es) - length (body_bytes (with_last closed b))))
    (sym pushed.keeps.open_is) (rest_parts c.args.self.now.builder.full c.args.self.now.number es) in
    subst (λ (n : ℕ). TakesAtMost n (g.M.Maker.taken c.args.maker.now) (g.M.Maker.taken c.seal_table.new.maker)) (sym rest)
    (takes_on (last_length block) tail _ _ _ c.in-Ok.ensures.taken (c.in-Err-seal_table.ensures.taken es (with_last closed block) gathers))
