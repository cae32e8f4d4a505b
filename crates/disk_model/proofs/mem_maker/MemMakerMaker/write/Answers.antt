use Rattle.std.proofs.Common.{refl}
use Rattle.disk_model.proofs.Outcomes.{always_on_err}
use Rattle.disk_model.proofs.Taking.{takes_none}
use Rattle.disk_model.proofs.mem_maker.MemMakerMaker.write.Goals as goal

pub returns-in_err-begin-clause-in_part : goal.returns-in_err-begin-clause-in_part
returns-in_err-begin-clause-in_part c =
    let maker = c.args.self.now in
    always_on_err c.from_residual.result (takes_none c.args.bytes.now maker.taken maker.written.items maker.written.items maker.fits refl)

pub returns-in-Err-clause-in_part : goal.returns-in-Err-clause-in_part
returns-in-Err-clause-in_part c =
    let maker = c.args.self.now in
    takes_none c.args.bytes.now maker.taken maker.written.items c.extend_from_slice.new.self.items maker.fits c.in-Err.ensures.items
