-- Tests of lists, one step on.
use Rattle.std.proofs.Common.{◌≡◌, ℕ, suc, ◌+◌, ◌<◌, Bool, true, ◌&&◌, ◌||◌, not, List, [], ◌∷◌, drop, take, take_all, get_or, length, map, ◌-◌, refl, sym, ◌∙◌, ap, arith}
use Rattle.std.specs.Prelude.{◌==◌, nat_lt}
use Rattle.std.proofs.lemmas.List.{length-drop}
use Rattle.std.proofs.lemmas.List.{at_drop_more}
use Rattle.std.specs.List.{list_all}
use Rattle.peb_base.specs.Profiles.{Column}
use Rattle.flsm_model.specs.declared.edit.Edit.TheVariants.{Move}
use Rattle.peb_base.specs.declared.table_row.TableRow.{TableRow}
use Rattle.flsm_model.specs.Shape.{Shape, guards_at, has_number, is_numbered}
use Rattle.flsm_model.specs.Fits.{fits, are_inputs, rows_ascend, lie_apart, rows_are_new, numbers_differ}
use Rattle.flsm_model.proofs.contents.Orders.{level_swap}

-- a row has the number where it is one of the rows' numbers
number_among : (n : ℕ) (rows : List TableRow) → has_number n (map (λ (row : TableRow). row.number) rows) ≡ is_numbered rows n
number_among n [] = refl
number_among n (r ∷ rows) = ap (λ b. b || has_number n (map (λ (row : TableRow). row.number) rows)) (level_swap n r.number) ∙ ap (λ b. (r.number == n) || b) (number_among n rows)

-- the rows from i on, where it was tested whether a later row has the number of row i
pub differ_from : (rows : List TableRow) (i : ℕ) (row : TableRow) (found : Bool) → i < length rows → row ≡ get_or rows i row
    → found ≡ is_numbered (take (length rows - (i + 1)) (drop (i + 1) rows)) row.number
    → numbers_differ (map (λ (r : TableRow). r.number) (drop i rows)) ≡ (not found && numbers_differ (map (λ (r : TableRow). r.number) (drop (i + 1) rows)))
differ_from rows i row found within is test =
    let rest : List TableRow = drop (i + 1) rows in
    let all : take (length rows - (i + 1)) rest ≡ rest = take_all (length rows - (i + 1)) rest (omega (arith, length-drop (i + 1) rows)) in
    at_drop_more (λ xs. numbers_differ (map (λ (r : TableRow). r.number) xs)) rows i row within
    ∙ ap (λ (r : TableRow). numbers_differ (map (λ (r : TableRow). r.number) (r ∷ rest))) (sym is)
    ∙ ap (λ b. not b && numbers_differ (map (λ (r : TableRow). r.number) rest)) (number_among row.number rest ∙ ap (λ xs. is_numbered xs row.number) (sym all) ∙ sym test)

-- a Move, where its level and its inputs fit
pub move_test : (o : Column) (s : Shape) (level floor : ℕ) (inputs : List ℕ) (outputs : List TableRow) → nat_lt level o.last_level ≡ true → are_inputs s level inputs ≡ true
    → fits o s (Move level floor inputs outputs)
    ≡ (list_all (λ r. r.level == (level + 1)) outputs && rows_ascend outputs && lie_apart (guards_at s (level + 1)) outputs && rows_are_new s.session s.used outputs)
move_test o s level floor inputs outputs above fit =
    let next : level + 1 ≡ suc level = omega arith in
    rw (above, fit, next) refl
