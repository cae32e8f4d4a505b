use Rattle.std.proofs.Common.{◌≡◌, reverse, take, sym, subst, List}
use Rattle.std.proofs.lemmas.List.{take_all}
use Rattle.disk_model.specs.declared.call.Call.{Call}
use Rattle.disk_model.specs.Files.{image_of}
use Rattle.disk_model.specs.Past.{IsLeft, IsWithin}
use Rattle.disk_model.specs.Crashes.{IsTaken}
use Rattle.disk_model.proofs.Crashing.{next_call, next_within}
use Rattle.disk_model.proofs.crash.leave.Goals as goal

pub leave_call-requires : goal.leave_call-requires
leave_call-requires c =
    subst (IsWithin c.call-item.result) (sym c.loop-call.invariant.reads) (next_within (image_of c.args.first.items) c.args.calls.now c.loop-call.call-index c.call-item.result c.loop-call-test.true c.call-item.is c.requires)

pub loop-call-preserved : goal.loop-call-preserved
loop-call-preserved c =
    subst (λ (l : List Call). IsTaken c.match-pick.pick (image_of c.args.first.items) l (image_of c.leave_call.new.read.items) (image_of c.leave_call.new.left.items))
    (next_call (image_of c.args.first.items) c.args.calls.now c.loop-call.call-index c.call-item.result c.loop-call-test.true c.call-item.is)
    (c.in_ok-leave_call.ensures _ _ c.loop-call.invariant)

pub returns-clause-left : goal.returns-clause-left
returns-clause-left c =
    let all : take c.loop-call.call-index c.args.calls.now ≡ c.args.calls.now = take_all c.loop-call.call-index c.args.calls.now c.loop-call-test.false in
    subst (λ (l : List Call). IsLeft (image_of c.args.first.items) (reverse l) (image_of c.loop-call.left.items)) all c.loop-call.invariant.left
