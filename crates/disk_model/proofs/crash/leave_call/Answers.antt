use Rattle.std.proofs.Common.{◌∷◌, sym, subst}
use Rattle.disk_model.specs.Files.{image_of}
use Rattle.disk_model.specs.Crashes.{IsTaken}
use Rattle.disk_model.proofs.Outcomes.{on_ok}
use Rattle.disk_model.proofs.Crashing.{taken_sync, taken_removal}
use Rattle.disk_model.proofs.crash.leave_call.Goals as goal

pub returns-in-Sync : goal.returns-in-Sync
returns-in-Sync c = on_ok c.leave_sync.result c.leave_sync.ensures (λ made first calls taken.
    subst (λ call. IsTaken c.args.pick first (call ∷ calls) (image_of c.args.read.now.items) (image_of c.leave_sync.new.left.items)) (sym c.in-Sync.is)
    (taken_sync c.args.pick first calls c.in-Sync.file (image_of c.args.read.now.items) (image_of c.args.left.now.items) (image_of c.leave_sync.new.left.items) (rw c.deref-in-Sync.ensures.value at made) taken))

pub returns-in_ok-put-in-Remove : goal.returns-in_ok-put-in-Remove
returns-in_ok-put-in-Remove c = on_ok c.put-in-Remove.result c.put-in-Remove.ensures.ok (λ gone first calls taken.
    subst (λ call. IsTaken c.args.pick first (call ∷ calls) (image_of c.put-in-Remove.new.files.items) (image_of c.put.new.files.items)) (sym c.in-Remove.is)
    (taken_removal c.args.pick first calls c.in-Remove.file (image_of c.args.read.now.items) (image_of c.args.left.now.items) (image_of c.put-in-Remove.new.files.items) (image_of c.put.new.files.items) gone c.in_ok-put-in-Remove.ensures.ok taken))
