use Rattle.std.proofs.Common.{refl}
use Rattle.disk_model.specs.Files.{image_of}
use Rattle.disk_model.specs.Images.{Goes}
use Rattle.disk_model.specs.declared.call.Call.TheVariants.{Remove}
use Rattle.disk_model.proofs.Kept.{goes_none, refused_time, refused_images, added_time, removed, agrees_removed, are_removed, agrees_refused, are_refused}
use Rattle.disk_model.proofs.mem_journal.MemJournalJournal.drop_file.Goals as goal

pub returns-in_err-begin-clause-images : goal.returns-in_err-begin-clause-images
returns-in_err-begin-clause-images c = refused_images (image_of c.args.self.now.first.items) c.args.self.now.past.items _ c.args.file Goes goes_none refl

pub returns-in_err-begin-clause-time : goal.returns-in_err-begin-clause-time
returns-in_err-begin-clause-time c = refused_time (image_of c.args.self.now.first.items) c.args.self.now.past.items _ refl

pub invariant_of-self-in-Err : goal.invariant_of-self-in-Err
invariant_of-self-in-Err c = let m = c.args.self.now in
    record {
      agrees = agrees_refused (image_of m.first.items) m.past.items c.add_removal.new.past.items (image_of m.files.items) (image_of c.add_removal.new.files.items) m.agrees m.calls c.in-Err.ensures.past_err c.in-Err.ensures.files_err;
      calls = are_refused (image_of m.first.items) m.past.items c.add_removal.new.past.items (image_of m.files.items) (image_of c.add_removal.new.files.items) m.agrees m.calls c.in-Err.ensures.past_err;
    }

pub invariant_of-self-in-Ok : goal.invariant_of-self-in-Ok
invariant_of-self-in-Ok c = let m = c.args.self.now in
    record {
      agrees = agrees_removed (image_of m.first.items) m.past.items c.add_removal.new.past.items (image_of m.files.items) (image_of c.add_removal.new.files.items) m.agrees m.calls c.args.file c.in-Ok.ensures.past c.in-Ok.ensures.files;
      calls = are_removed (image_of m.first.items) m.past.items c.add_removal.new.past.items (image_of m.files.items) (image_of c.add_removal.new.files.items) m.agrees m.calls c.args.file c.in-Ok.ensures.past;
    }

pub returns-in-Err-clause-images : goal.returns-in-Err-clause-images
returns-in-Err-clause-images c = refused_images (image_of c.args.self.now.first.items) c.args.self.now.past.items c.add_removal.new.past.items c.args.file Goes goes_none c.in-Err.ensures.past_err

pub returns-in-Err-clause-time : goal.returns-in-Err-clause-time
returns-in-Err-clause-time c = refused_time (image_of c.args.self.now.first.items) c.args.self.now.past.items c.add_removal.new.past.items c.in-Err.ensures.past_err

pub returns-in-Ok-clause-images : goal.returns-in-Ok-clause-images
returns-in-Ok-clause-images c = removed (image_of c.args.self.now.first.items) c.args.self.now.past.items c.add_removal.new.past.items c.args.file c.in-Ok.ensures.past

pub returns-in-Ok-clause-time : goal.returns-in-Ok-clause-time
returns-in-Ok-clause-time c = added_time (image_of c.args.self.now.first.items) c.args.self.now.past.items c.add_removal.new.past.items (Remove c.args.file) c.in-Ok.ensures.past
