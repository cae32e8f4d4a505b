use Rattle.std.proofs.Common.{◌∙◌}
use Rattle.disk_model.proofs.Names.{copy_first}
use Rattle.disk_model.proofs.files.+copy_of.Goals as goal

pub returns-in_ok-put-in-len1-up : goal.returns-in_ok-put-in-len1-up
returns-in_ok-put-in-len1-up t c =
    copy_first c.args.files.now c.stored-item.result _ _ _ c.in-len1-up.len_at_least c.stored-item.is c.in_ok-copy-in-len1-up.ensures (c.in_ok-bytes-in-len1-up.ensures ∙ c.get.ensures) c.in_ok-put-in-len1-up.ensures.ok
