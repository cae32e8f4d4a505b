use Rattle.disk_model.specs.Shelf.{files_in}
use Rattle.disk_model.proofs.Shelves.{lost_left, left_begun}
use Rattle.disk_model.proofs.mem_devices.MemDevices.crash.Goals as goal

pub returns-clause-tables : goal.returns-clause-tables
returns-clause-tables c =
    let shelf = c.args.self.stock.shelf in
    let left = files_in c.in_ok-tables.tables in rw c.resting.ensures.shelf record {
      sealed = lost_left c.args.pick shelf left.sealed c.in_ok-tables.ensures.sealed;
      unsealed = left_begun c.args.pick shelf left.is_unsealed c.in_ok-tables.ensures.unsealed;
    }

pub returns-clause-new_tables : goal.returns-clause-new_tables
returns-clause-new_tables c = λ new. rw c.resting.ensures.shelf (c.in_ok-tables.ensures.there new)

pub returns-clause-unsealed : goal.returns-clause-unsealed
returns-clause-unsealed c = rw c.resting.ensures.shelf c.in_ok-tables.ensures.unsealed
