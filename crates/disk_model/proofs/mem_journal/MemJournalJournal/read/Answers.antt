use Rattle.std.proofs.Common.{reverse}
use Rattle.disk_model.specs.Files.{image_of}
use Rattle.disk_model.proofs.Kept.{elapses_same, images_same}
use Rattle.disk_model.proofs.mem_journal.MemJournalJournal.read.Goals as goal

pub returns-in_err-begin-clause-time : goal.returns-in_err-begin-clause-time
returns-in_err-begin-clause-time c = elapses_same (image_of c.args.self.now.first.items) (reverse c.args.self.now.past.items)

pub returns-clause-time : goal.returns-clause-time
returns-clause-time c = elapses_same (image_of c.args.self.now.first.items) (reverse c.args.self.now.past.items)

pub returns-in_err-begin-clause-same_images : goal.returns-in_err-begin-clause-same_images
returns-in_err-begin-clause-same_images c = images_same (image_of c.args.self.now.first.items) (reverse c.args.self.now.past.items)

pub returns-clause-same_images : goal.returns-clause-same_images
returns-clause-same_images c = images_same (image_of c.args.self.now.first.items) (reverse c.args.self.now.past.items)
