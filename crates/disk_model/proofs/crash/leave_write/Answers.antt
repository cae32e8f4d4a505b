use Rattle.std.proofs.Common.{◌≤◌, length, Some, rules}
use Rattle.disk_model.specs.Images.{content, over, Tears}
use Rattle.disk_model.specs.Files.{image_of}
use Rattle.disk_model.specs.Torn.{tears_over}
use Rattle.disk_model.proofs.Outcomes.{on_ok}
use Rattle.disk_model.proofs.Putting.{put_in}
use Rattle.disk_model.proofs.crash.leave_write.Goals as goal

pub returns-clause-torn : goal.returns-clause-torn
returns-clause-torn c =
    let old = image_of c.args.left.now.items in
    let within : c.args.at ≤ length (content (old c.args.file)) = search rules in
    let fits : length c.deref-2.result.now ≤ length c.args.bytes.now = search rules in
    on_ok c.write_over.result c.write_over.ensures.ok (λ made. put_in c.args.file (Tears c.args.at (length c.args.bytes.now)) old (image_of c.write_over.new.files.items)
    (Some (over (content (old c.args.file)) c.args.at c.deref-2.result.now)) made (tears_over (old c.args.file) c.args.at (length c.args.bytes.now) c.deref-2.result.now within fits))
