use Rattle.std.proofs.Common.{◌≡◌, ◌++◌, ◌∷◌, [], rules}
use Rattle.disk_model.specs.declared.call.Call.TheVariants.{Write}
use Rattle.disk_model.proofs.calls.add_write.Goals as goal

pub returns-in-Ok-clause-past : goal.returns-in-Ok-clause-past
returns-in-Ok-clause-past c =
    let same : c.in_ok-copy.copy.items ≡ c.args.bytes.now = search rules in
    let pushed : c.push.new.self.items ≡ c.args.past.now.items ++ Write c.args.file c.args.at c.in_ok-copy.copy ∷ [] = search rules in
    (c.in_ok-copy.copy, same, pushed)
