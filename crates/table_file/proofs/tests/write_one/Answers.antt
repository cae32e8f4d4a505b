use Rattle.std.proofs.Common.{◌∷◌, [], refl, arith, rules}
use Rattle.peb_base.specs.Entries.{AreSorted}
use Rattle.peb_base.specs.declared.change.Change.TheVariants.{Put}
use Rattle.peb_base.specs.declared.entry.Entry.{Entry}
use Rattle.table_file.proofs.tests.write_one.Goals as goal

entry : Entry
entry = record { key = 97 ∷ []; number = 1099511627777; change = Put (49 ∷ []) }

sorted : AreSorted (entry ∷ [])
unfolding entry
sorted = (record { some = omega arith; key = omega arith; number = omega arith; value = omega arith }, refl, tt)

pub push-requires : goal.push-requires
unfolding entry
push-requires g c = ([], c.in_ok-start.ensures.begun, sorted)

pub finish-requires : goal.finish-requires
unfolding entry
finish-requires g c = (entry ∷ [], c.in_ok-push.ensures.pushed [] c.in_ok-start.ensures.begun sorted, omega arith)
