-- What tables hold, by readings of numbers that agree on the live rows.
use Rattle.std.proofs.Common.{◌≡◌, ℕ, zero, suc, ◌<◌, ◌≤◌, List, [], ◌∷◌, length, refl, sym, subst, inl, inr, ◌⊎◌, arith}
use Rattle.std.specs.Prelude.{map, ◌==◌, get_or}
use Rattle.std.specs.List.{AllByRecursion}
use Rattle.std.proofs.lemmas.Bool.{cases_lt}
use Rattle.peb_base.specs.Guards.{guard_of}
use Rattle.peb_base.specs.Members.{IsIn}
use Rattle.peb_base.specs.declared.entry.Entry.{Entry}
use Rattle.peb_base.specs.declared.table_row.TableRow.{TableRow}
use Rattle.flsm_model.specs.Ledgers.{rows_at}
use Rattle.guard_level.specs.Guards.{Guards, tables_of}
use Rattle.version.specs.Levels.{level_at, no_guards}
use Rattle.version_set.specs.Shapes.{rows_of_guard}
use Rattle.version_set.specs.Changes.{EachTable}
use Rattle.version_set.specs.ContentLaws.{AgreeOn, HoldBoth, LooksHold}
use Rattle.version_set.specs.Contents.{HoldsContent}
use Rattle.version_set.proofs.Rows.{in_filtered}

module _ {T : Type 0} (row : T → TableRow) (holds : T → List Entry → Type 0) (live : List TableRow) (content other : ℕ → List Entry) (agree : AgreeOn live content other) where
  -- tables whose rows are among these live ones
  all_other : (ts : List T) (rows : List TableRow) → map row ts ≡ rows → ((r : TableRow) → IsIn r rows → IsIn r live)
      → AllByRecursion (HoldsContent row holds content) ts → AllByRecursion (HoldsContent row holds other) ts
  all_other [] rows is among all = tt
  all_other (t ∷ ts) rows is among all =
      let own : (r : TableRow) → IsIn r (row t ∷ map row ts) → IsIn r live = λ r here. among r (subst (IsIn r) is here) in (
        subst (holds t) (agree (row t) (own (row t) (inl refl))) all.0,
        all_other ts (map row ts) refl (λ r later. own r (inr later)) all.1,
      )

level_past : {T : Type 0} (levels : List (Guards T)) (n : ℕ) → length levels ≤ n → get_or levels n no_guards ≡ no_guards
level_past [] n past = refl
level_past (g ∷ levels) zero past = absurd (omega (arith, past))
level_past (g ∷ levels) (suc n) past = level_past levels n (omega (arith, past))

pub hold_both : {T : Type 0} (row : T → TableRow) (holds : T → List Entry → Type 0) → HoldBoth row holds
hold_both {T} row holds v guards live content other has agree each = record {
  top = all_other row holds live content other agree v.top (rows_at 0 live) has.top (λ r among. (at_level 0 r among)) each.top;
  deeper = λ n. by n (cases_lt n (length guards));
}
  where
    at_level : (level : ℕ) (r : TableRow) → IsIn r (rows_at level live) → IsIn r live
    at_level level r among = (in_filtered (λ (x : TableRow). x.level == level) r live among).0

    by : (n : ℕ) → (n < length guards) ⊎ (length guards ≤ n) → EachTable (HoldsContent row holds other) (level_at v n)
    by n (inl within) guard =
        let level = has.deeper n within in
        all_other row holds live content other agree (tables_of (level_at v n) guard) (rows_of_guard (level_at v n).keys guard (rows_at (suc n) live)) (level.each guard)
        (λ r among. at_level (suc n) r (in_filtered (λ (x : TableRow). guard_of x.smallest (level_at v n).keys == guard) r (rows_at (suc n) live) among).0) (each.deeper n guard)
    by n (inr past) guard =
        let gone : level_at v n ≡ no_guards = level_past v.levels n (omega (arith, past, has.count)) in
        subst (λ (g : Guards T). AllByRecursion (HoldsContent row holds other) (tables_of g guard)) (sym gone) tt

pub looks_hold : {T : Type 0} (row : T → TableRow) (holds : T → List Entry → Type 0) → LooksHold row holds
looks_hold row holds v content zero key each = each.top
looks_hold row holds v content (suc n) key each = each.deeper n (guard_of key (level_at v n).keys)
