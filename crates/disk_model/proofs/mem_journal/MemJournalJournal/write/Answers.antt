use Rattle.std.proofs.Common.{reverse, refl, length, subst, List, ℕ}
use Rattle.disk_model.specs.Files.{image_of}
use Rattle.disk_model.specs.Images.{Tears, Follows, In}
use Rattle.disk_model.specs.Past.{IsLeft, IsLeftSince}
use Rattle.disk_model.specs.declared.call.Call.TheVariants.{Write}
use Rattle.disk_model.proofs.Kept.{tears_none, refused_time, refused_images, added_time, wrote, agrees_written, are_written, agrees_refused, are_refused}
use Rattle.disk_model.proofs.mem_journal.MemJournalJournal.write.Goals as goal

pub returns-in_err-begin-clause-images : goal.returns-in_err-begin-clause-images
returns-in_err-begin-clause-images c =
    refused_images (image_of c.args.self.now.first.items) c.args.self.now.past.items _ c.args.file (Tears c.args.at (length c.args.bytes.now)) (tears_none c.args.at (length c.args.bytes.now)) refl

pub returns-in_err-begin-clause-time : goal.returns-in_err-begin-clause-time
returns-in_err-begin-clause-time c = refused_time (image_of c.args.self.now.first.items) c.args.self.now.past.items _ refl

pub invariant_of-self-in-Err : goal.invariant_of-self-in-Err
invariant_of-self-in-Err c = let m = c.args.self.now in
    record {
      agrees = agrees_refused (image_of m.first.items) m.past.items c.add_write.new.past.items (image_of m.files.items) (image_of c.add_write.new.files.items) m.agrees m.calls c.in-Err.ensures.past_err c.in-Err.ensures.files_err;
      calls = are_refused (image_of m.first.items) m.past.items c.add_write.new.past.items (image_of m.files.items) (image_of c.add_write.new.files.items) m.agrees m.calls c.in-Err.ensures.past_err;
    }

pub invariant_of-self-in-Ok : goal.invariant_of-self-in-Ok
invariant_of-self-in-Ok c = let m = c.args.self.now in let added = c.in-Ok.ensures.past in
    record {
      agrees = agrees_written (image_of m.first.items) m.past.items c.add_write.new.past.items (image_of m.files.items) (image_of c.add_write.new.files.items) m.agrees m.calls c.args.file c.args.at added.0 c.args.bytes.now added.1 added.2 c.in-Ok.ensures.files;
      calls = are_written (image_of m.first.items) m.past.items c.add_write.new.past.items (image_of m.files.items) (image_of c.add_write.new.files.items) m.agrees m.calls c.args.file c.args.at added.0 (c.requires refl) added.2;
    }

pub returns-in-Err-clause-images : goal.returns-in-Err-clause-images
returns-in-Err-clause-images c =
    refused_images (image_of c.args.self.now.first.items) c.args.self.now.past.items c.add_write.new.past.items c.args.file (Tears c.args.at (length c.args.bytes.now)) (tears_none c.args.at (length c.args.bytes.now)) c.in-Err.ensures.past_err

pub returns-in-Err-clause-time : goal.returns-in-Err-clause-time
returns-in-Err-clause-time c = refused_time (image_of c.args.self.now.first.items) c.args.self.now.past.items c.add_write.new.past.items c.in-Err.ensures.past_err

pub returns-in-Ok-clause-images : goal.returns-in-Ok-clause-images
returns-in-Ok-clause-images c = let m = c.args.self.now in let added = c.in-Ok.ensures.past in
    subst (λ (l : List ℕ). Follows (In c.args.file (Tears c.args.at (length l))) (IsLeft (image_of m.first.items) (reverse m.past.items))
    (IsLeftSince (image_of m.first.items) (reverse c.add_write.new.past.items) (length (reverse m.past.items)))) added.1
    (wrote (image_of m.first.items) m.past.items c.add_write.new.past.items c.args.file c.args.at added.0 added.2)

pub returns-in-Ok-clause-time : goal.returns-in-Ok-clause-time
returns-in-Ok-clause-time c = let added = c.in-Ok.ensures.past in
    added_time (image_of c.args.self.now.first.items) c.args.self.now.past.items c.add_write.new.past.items (Write c.args.file c.args.at added.0) added.2
