use Rattle.std.proofs.Common.{◌∷◌, [], refl, arith, rules, replicate}
use Rattle.peb_base.specs.Entries.{AreSorted}
use Rattle.peb_base.specs.declared.change.Change.TheVariants.{Put}
use Rattle.peb_base.specs.declared.entry.Entry.{Entry}
use Rattle.table_file.proofs.tests.write_two.Goals as goal

first : Entry
first = record { key = 97 ∷ []; number = 1099511627777; change = Put (replicate 240 118) }

second : Entry
second = record { key = 112 ∷ []; number = 1099511627778; change = Put (49 ∷ []) }

one : AreSorted (first ∷ [])
unfolding first
one = (record { some = omega arith; key = omega arith; number = omega arith; value = omega arith }, refl, tt)

two : AreSorted (first ∷ second ∷ [])
unfolding first second
two = (one.0, refl, (record { some = omega arith; key = omega arith; number = omega arith; value = omega arith }, refl, tt))

pub push-requires : goal.push-requires
unfolding first
push-requires g c = ([], c.in_ok-start.ensures.begun, one)

pub push-requires-2 : goal.push-requires-2
unfolding first second
push-requires-2 g c = (first ∷ [], c.in_ok-push.ensures.pushed [] c.in_ok-start.ensures.begun one, two)

pub finish-requires : goal.finish-requires
unfolding first second
finish-requires g c =
    (first ∷ second ∷ [], c.in_ok-push-2.ensures.pushed (first ∷ []) (c.in_ok-push.ensures.pushed [] c.in_ok-start.ensures.begun one) two, omega arith)
