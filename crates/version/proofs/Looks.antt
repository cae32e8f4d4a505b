-- Keys between two of one guard are of this guard.
use Rattle.std.proofs.Common.{◌≡◌, ℕ, zero, suc, ◌-◌, ◌<◌, ◌≤◌, Bool, true, false, cond, List, [], ◌∷◌, inl, inr, refl, sym, ap, ◌∙◌, subst, arith}
use Rattle.std.specs.List.{AllByRecursion}
use Rattle.std.proofs.lemmas.Bool.{false≢true}
use Rattle.peb_base.specs.Guards.{guard_of, LiesIn}
use Rattle.peb_base.specs.KeyLaws.{le_lt}
use Rattle.peb_base.specs.Keys.{Bytes, key_lt, key_le}
use Rattle.peb_base.specs.Members.{IsIn}
use Rattle.peb_base.specs.declared.table_row.TableRow.{TableRow}
use Rattle.guard_level.specs.Guards.{Guards, tables_of}
use Rattle.version.specs.Levels.{Levels, level_at}
use Rattle.version.specs.Looks.{MissesNone}

-- a greater key belongs to no earlier guard
guards_rise : (a b : Bytes) (ks : List Bytes) → key_le a b ≡ true → guard_of a ks ≤ guard_of b ks
guards_rise a b [] h = omega arith
guards_rise a b (k ∷ ks) h = by (key_lt a k) (key_lt b k) refl refl (guards_rise a b ks h)
  where
    by : (p q : Bool) → key_lt a k ≡ p → key_lt b k ≡ q → guard_of a ks ≤ guard_of b ks → cond p 0 (suc (guard_of a ks)) ≤ cond q 0 (suc (guard_of b ks))
    by true q x y ih = omega arith
    by false true x y ih = absurd (false≢true (sym x ∙ le_lt a b k h y))
    by false false x y ih = omega (arith, ih)

-- what holds of each element holds of one
of_each : {X : Type 0} (P : X → Type 0) (x : X) (xs : List X) → AllByRecursion P xs → IsIn x xs → P x
of_each P x [] a i = absurd i
of_each P x (y ∷ ys) a i = elim i [
  | inl e ↦ subst P (sym e) a.0
  | inr r ↦ of_each P x ys a.1 r
]

-- a table that has the key between its ends lies in the key's guard
pub found_all : {T : Type 0} (row : T → TableRow) (v : Levels T) (level : ℕ) (key : Bytes) (g : Guards T) (found : List T) → 0 < level → g ≡ level_at v (level - 1) → found ≡ tables_of g (guard_of key g.keys)
    → ((guard : ℕ) → AllByRecursion (λ t. LiesIn g.keys guard (row t)) (tables_of g guard)) → MissesNone row v level key found
found_all row v zero key g found deep at is inside = absurd (omega (arith, deep))
found_all {T} row v (suc n) key g found deep at is inside = λ guard t i c.
    let below : suc n - 1 ≡ n = omega arith in
    let here : g ≡ level_at v n = at ∙ ap (level_at v) below in
    let there : IsIn t (tables_of g guard) = subst (λ (h : Guards T). IsIn t (tables_of h guard)) (sym here) i in
    let lies : LiesIn g.keys guard (row t) = of_each (λ x. LiesIn g.keys guard (row x)) t (tables_of g guard) (inside guard) there in
    let same : guard ≡ guard_of key g.keys =
    omega (
      arith,
      lies.smallest,
      lies.largest,
      guards_rise (row t).smallest key g.keys c.0,
      guards_rise key (row t).largest g.keys c.1,
    ) in
    subst (IsIn t) (sym is) (subst (λ h. IsIn t (tables_of g h)) same there)
