-- Live rows of a sound shape have their places.
use Rattle.std.proofs.Common.{◌≡◌, ℕ, zero, suc, ◌-◌, ◌<◌, [], get_or, sym, ap, subst, arith}
use Rattle.peb_base.specs.Members.{IsIn}
use Rattle.peb_base.specs.Profiles.{Column, column}
use Rattle.peb_base.specs.declared.profile.Profile.{Profile}
use Rattle.peb_base.specs.declared.profile.Profile.TheVariants.{Normal, Small}
use Rattle.peb_base.specs.declared.table_row.TableRow.{TableRow}
use Rattle.flsm_model.specs.Shape.{Shape, guards_at}
use Rattle.flsm_model.specs.Sound.{IsSound, IsNested}
use Rattle.version_set.specs.Changes.{LiesInOne}
use Rattle.version_set.specs.PartLaws.{RecordsHaveParts}
use Rattle.version_set.specs.Shapes.{HasPlace}
use Rattle.version_set.proofs.Fitting.{lies_in_one}
use Rattle.version_set.proofs.Stands.{all_in}

few_levels : (p : Profile) → (column p).last_level < 256
few_levels Small = omega arith
few_levels Normal = omega arith

-- the guards of a level from 1 on
deeper_guards : (s : Shape) (level : ℕ) → 0 < level → guards_at s level ≡ get_or s.guards (level - 1) []
deeper_guards s zero deep = absurd (omega (arith, deep))
deeper_guards s (suc n) deep = let below : suc n - 1 ≡ n = omega arith in ap (λ at. get_or s.guards at []) (sym below)

has_place : (o : Column) (s : Shape) → IsSound o s → IsNested o s → (r : TableRow) → IsIn r s.live → HasPlace s.guards r
has_place o s sound nested r live = record {
  deep = let count = sound.count in let most = nested.deep r live in omega (arith, count, most);
  lies = λ other.
      let below : 0 < r.level = omega (arith, other) in
      subst (λ gs. LiesInOne gs r) (deeper_guards s r.level below)
      (lies_in_one (guards_at s r.level) r (sound.rows r live) (sound.inside r live below));
}

pub have_parts : RecordsHaveParts
have_parts p s sound nested = record {
  few = let count = sound.count in let most = few_levels p in omega (arith, count, most);
  placed = all_in (HasPlace s.guards) s.live (has_place (column p) s sound nested);
}
