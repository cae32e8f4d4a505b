use Rattle.std.proofs.Common.{[], ◌∷◌, ◌∙◌}
use Rattle.record_log.specs.Ready.{ready_with}
use Rattle.record_log.specs.State.{log_tail}
use Rattle.manifest.specs.Edits.{edit_bytes, IsEdit}
use Rattle.manifest.specs.Manifests.{manifest_header, edit_groups}
use Rattle.manifest.proofs.Items.{all-push}
use Rattle.manifest.proofs.Files.{one_waits, moments, ready_after}
use Rattle.manifest.proofs.manifest_file.Manifest.append.Goals as goal

pub returns-in_err-close_group-clause-any_moment : goal.returns-in_err-close_group-clause-any_moment
returns-in_err-close_group-clause-any_moment g c = λ profile edits is.
    let edit = c.args.edit.now in
    let added = c.in_ok-add.ensures in
    let ready = ready_with g.J.Journal.tells g.J.Journal.seen g.J.Journal.may_leave c.args.journal.now c.args.self.now.log c.add.new.self (manifest_header profile) (edit_groups edits) added.file added.place is.ready in
    let waits = one_waits (log_tail c.args.self.now.log) (log_tail c.add.new.self) c.deref.result.now edit c.requires.unspent added.ok (c.deref.ensures.value ∙ c.in_ok-body.ensures.bytes) in
    moments _ profile edits edit _ _ (added.file ∙ is.file) is.each c.in_ok-body.ensures.edit (c.close_group.ensures.any_moment (manifest_header profile) (edit_groups edits) (edit_bytes edit ∷ []) ready waits)

pub returns-clause-any_moment : goal.returns-clause-any_moment
returns-clause-any_moment g c = λ profile edits is.
    let edit = c.args.edit.now in
    let added = c.in_ok-add.ensures in
    let ready = ready_with g.J.Journal.tells g.J.Journal.seen g.J.Journal.may_leave c.args.journal.now c.args.self.now.log c.add.new.self (manifest_header profile) (edit_groups edits) added.file added.place is.ready in
    let waits = one_waits (log_tail c.args.self.now.log) (log_tail c.add.new.self) c.deref.result.now edit c.requires.unspent added.ok (c.deref.ensures.value ∙ c.in_ok-body.ensures.bytes) in
    moments _ profile edits edit _ _ (added.file ∙ is.file) is.each c.in_ok-body.ensures.edit (c.close_group.ensures.any_moment (manifest_header profile) (edit_groups edits) (edit_bytes edit ∷ []) ready waits)

pub returns-clause-appended : goal.returns-clause-appended
returns-clause-appended g c = λ profile edits is.
    let edit = c.args.edit.now in
    let added = c.in_ok-add.ensures in
    let ready = ready_with g.J.Journal.tells g.J.Journal.seen g.J.Journal.may_leave c.args.journal.now c.args.self.now.log c.add.new.self (manifest_header profile) (edit_groups edits) added.file added.place is.ready in
    let waits = one_waits (log_tail c.args.self.now.log) (log_tail c.add.new.self) c.deref.result.now edit c.requires.unspent added.ok (c.deref.ensures.value ∙ c.in_ok-body.ensures.bytes) in
    record {
      each = all-push IsEdit edits edit is.each c.in_ok-body.ensures.edit;
      file = c.close_group.ensures.file ∙ added.file ∙ is.file;
      unspent = c.in_ok-close_group.ensures.tail;
      ready = ready_after g.J.Journal.tells g.J.Journal.seen g.J.Journal.may_leave c.close_group.new.journal c.close_group.new.self profile edits edit (c.in_ok-close_group.ensures.closed (manifest_header profile) (edit_groups edits) (edit_bytes edit ∷ []) ready waits);
    }
