use Rattle.std.proofs.Common.{◌<◌, ap, refl, arith, rules}
use Rattle.block_form.specs.Building.{Building}
use Rattle.block_form.specs.Form.{block_bytes, restarts, entries_bytes}
use Rattle.table_file.proofs.table_writer.TableWriter.start.Goals as goal

pub returns-clause-begun : goal.returns-clause-begun
unfolding block_bytes entries_bytes restarts
returns-clause-begun g c =
    let room : 5 < c.begin_block.new.builder.full = omega (arith, ap (λ (b : Building). b.full) c.begin_block.ensures, c.args.self.now.room) in
    record {
      keeps = record {
        sorted = tt;
        whole = refl;
        few = omega arith;
        begun_is = search rules;
        blocks = search rules;
        open_is = ap (λ (b : Building). b.entries) c.begin_block.ensures;
        index_is = c.new.ensures;
        hashes_are = c.clear.ensures.items;
        sums = c.new-self.ensures;
      };
      room = room;
    }
