use Rattle.disk_model.proofs.Shelves.{made_stays, made_begun, made_unsealed}
use Rattle.disk_model.proofs.mem_devices.MemDevicesDevices.back_maker.Goals as goal

pub returns-clause-sealed : goal.returns-clause-sealed
returns-clause-sealed c = λ told. made_stays c.args.maker.made c.args.self.now.stock.shelf c.replace.result c.replace.ensures.value

pub returns-clause-unsealed : goal.returns-clause-unsealed
returns-clause-unsealed c = made_begun c.args.maker.made c.args.self.now.stock.shelf c.replace.result c.replace.ensures.value

pub returns-clause-kept_unsealed : goal.returns-clause-kept_unsealed
returns-clause-kept_unsealed c = λ told. made_unsealed c.args.maker.made c.args.self.now.stock.shelf c.replace.result c.replace.ensures.value
