use Rattle.std.proofs.Common.{◌≡◌, ℕ, ◌-◌, List, ◌++◌, length}
use Rattle.std.specs.Prelude.{flat_map}
use Rattle.std.specs.List.{AllByRecursion}
use Rattle.manifest.proofs.Items.{Leaves}
use Rattle.manifest.proofs.decode.ListDecode.decode.Given as goal

abbrev pub invariant-loop : goal.invariant-loop
invariant-loop g l = record {
  so_far : flat_map g.X.Decode.spelling l.items.items ++ l.rest ≡ l.initial.rest;
  each : AllByRecursion g.X.Decode.fits l.items.items;
  counted : length l.items.items ≡ l.counter;
  only : (xs : List g.row.X.Denot) (tail : List ℕ) → AllByRecursion g.X.Decode.fits xs → length xs ≡ l.count → l.initial.rest ≡ flat_map g.X.Decode.spelling xs ++ tail → Leaves g.X.Decode.fits g.X.Decode.spelling (l.count - l.counter) l.rest tail;
}
