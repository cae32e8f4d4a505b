use Rattle.std.proofs.Common.{refl}
use Rattle.disk_model.specs.Files.{image_of}
use Rattle.disk_model.specs.Images.{Stays}
use Rattle.disk_model.specs.declared.call.Call.TheVariants.{Sync}
use Rattle.disk_model.proofs.Kept.{stays_stays, refused_time, refused_images, added_time, synced}
use Rattle.disk_model.proofs.mem_journal.MemJournalJournal.sync.Goals as goal

pub returns-in_err-begin-clause-images : goal.returns-in_err-begin-clause-images
returns-in_err-begin-clause-images c = refused_images (image_of c.args.self.now.first.items) c.args.self.now.past.items _ c.args.file Stays stays_stays refl

pub returns-in_err-begin-clause-time : goal.returns-in_err-begin-clause-time
returns-in_err-begin-clause-time c = refused_time (image_of c.args.self.now.first.items) c.args.self.now.past.items _ refl

pub returns-in-Err-clause-images : goal.returns-in-Err-clause-images
returns-in-Err-clause-images c = refused_images (image_of c.args.self.now.first.items) c.args.self.now.past.items c.add_sync.new.past.items c.args.file Stays stays_stays c.in-Err.ensures.err

pub returns-in-Err-clause-time : goal.returns-in-Err-clause-time
returns-in-Err-clause-time c = refused_time (image_of c.args.self.now.first.items) c.args.self.now.past.items c.add_sync.new.past.items c.in-Err.ensures.err

pub returns-in-Ok-clause-images : goal.returns-in-Ok-clause-images
returns-in-Ok-clause-images c = synced (image_of c.args.self.now.first.items) c.args.self.now.past.items c.add_sync.new.past.items c.args.file c.in-Ok.ensures.ok

pub returns-in-Ok-clause-time : goal.returns-in-Ok-clause-time
returns-in-Ok-clause-time c = added_time (image_of c.args.self.now.first.items) c.args.self.now.past.items c.add_sync.new.past.items (Sync c.args.file) c.in-Ok.ensures.ok
