-- The rows of a Cut, as its job asks.
use Rattle.std.proofs.Common.{◌≡◌, ◌⊎◌, inl, inr, ℕ, suc, ◌+◌, ◌*◌, ◌<◌, ◌≤◌, ◌==◌, true, ◌&&◌, List, [], ◌∷◌, length, map, refl, sym, ap, ◌∙◌, subst, arith}
use Rattle.std.specs.Prelude.{nat_le, nat_lt}
use Rattle.std.specs.List.{AllZip, list_all}
use Rattle.disk_model.specs.declared.table_handle.TableHandle.{Ghosts}
use Rattle.peb_base.specs.Keys.{Bytes}
use Rattle.peb_base.specs.Profiles.{Column}
use Rattle.peb_base.specs.Tables.{is_row}
use Rattle.peb_base.specs.declared.entry.Entry.{Entry}
use Rattle.peb_base.specs.declared.table_row.TableRow.{TableRow}
use Rattle.flsm_model.specs.Fits.{lies_in, numbers_differ}
use Rattle.flsm_model.specs.Jobs.{needed_at, numbers_needed, job_range}
use Rattle.flsm_model.specs.Made.{made_by, made_of, suits, RowsSuit}
use Rattle.flsm_model.specs.Outcomes.{into_at, level_into}
use Rattle.flsm_model.specs.Shape.{Shape, outputs_of}
use Rattle.flsm_model.specs.Trees.{Describes}
use Rattle.flsm_model.specs.declared.edit.Edit.{Edit}
use Rattle.flsm_model.specs.declared.edit.Edit.TheVariants.{Cut}
use Rattle.flsm_model.specs.declared.job.Job.{Job}
use Rattle.flsm_model.specs.declared.job_kind.JobKind.TheVariants.{Cut as CutJob}
use Rattle.table_file.specs.Tables.{TableParts}
use Rattle.guard_commit.specs.Cutting.{cut_from, rows_of, entries_in, IsCutOf}
use Rattle.guard_commit.specs.Reading.{IsHeld, WasRead}
use Rattle.guard_commit.specs.Writing.{IsOutside}
use Rattle.guard_commit.proofs.Made.{LengthIs, PiecesAre, same_entries, describes_told}
use Rattle.guard_commit.proofs.Rows.{numbered_cut, rows_form, rows_inside, rows_lie, rows_leveled, rows_numbered, rows_differ, cut_lies, cut_inside}

pub parts_count : {F : Type 0} (g : Ghosts F) (ts : List (TableParts F)) (parts : List (List Entry))
    → AllZip (WasRead g) ts parts → length parts ≡ length ts
parts_count g [] [] h = refl
parts_count g [] (es ∷ parts) h = absurd h
parts_count g (t ∷ ts) [] h = absurd h
parts_count g (t ∷ ts) (es ∷ parts) h = omega (arith, parts_count g ts parts h.1)

-- the numbers that a Cut needs
pub needs : (j : Job) (count limit : ℕ) → j.kind ≡ CutJob → length j.inputs ≡ count
    → j.numbers + numbers_needed j < limit → j.numbers + count * (length j.keys + 1) < limit
needs j count limit kind inputs fits =
    subst (λ n. j.numbers + n * (length j.keys + 1) < limit) inputs
    (subst (λ k. j.numbers + needed_at k j < limit) kind fits)

-- and those that are others
pub needs_outside : (j : Job) (count n : ℕ) → j.kind ≡ CutJob → length j.inputs ≡ count
    → IsOutside j.numbers (numbers_needed j) n
    → IsOutside j.numbers (count * (length j.keys + 1)) n
needs_outside j count n kind inputs outside =
    subst (λ m. IsOutside j.numbers (m * (length j.keys + 1)) n) inputs
    (subst (λ k. IsOutside j.numbers (needed_at k j) n) kind outside)

-- a number outside a job's block is none of the pieces'
pub outside_all : {F : Type 0} (g : Ghosts F) (first : ℕ) (keys : List Bytes)
    (ts : List (TableParts F)) (parts : List (List Entry)) (count n : ℕ)
    → AllZip (WasRead g) ts parts → length ts ≡ count → IsOutside first (count * (length keys + 1)) n
    → (n < first) ⊎ (first + length parts * suc (length keys) ≤ n)
outside_all g first keys ts parts count n read many (inl lt) = inl lt
outside_all g first keys ts parts count n read many (inr ge) =
    inr (subst (λ m. first + m * suc (length keys) ≤ n) (sym (parts_count g ts parts read ∙ many))
    (subst (λ r. first + count * r ≤ n) (one (length keys)) ge))
  where
    one : (n : ℕ) → n + 1 ≡ suc n
    one n = omega arith

module _ {F : Type 0} (g : Ghosts F) (full : ℕ) (j : Job) (tables made : List (TableParts F))
    (e : Edit) (is : IsCutOf g full j tables made)
    (edit : e ≡ Cut j.level j.keys j.inputs (rows_of made)) where
  outputs : outputs_of e ≡ rows_of made
  outputs = ap outputs_of edit

  on_rows : (P : List TableRow → Type 0) → P (rows_of made) → P (outputs_of e)
  on_rows P h = subst P (sym outputs) h

  pub suit_levels : j.kind ≡ CutJob
      → list_all (λ r. r.level == level_into j && r.tier == 0) (outputs_of e) ≡ true
  suit_levels kind =
      on_rows (λ rs. list_all (λ r. r.level == level_into j && r.tier == 0) rs ≡ true)
      (subst (λ k. list_all (λ r. r.level == into_at k j && r.tier == 0) (rows_of made) ≡ true)
      (sym kind)
      (rows_leveled g full j.level made (cut_from j.numbers j.keys is.parts) is.pieces))

  pub suit_numbers : j.kind ≡ CutJob → length j.inputs ≡ length tables
      → list_all (λ r. nat_le j.numbers r.number && nat_lt r.number (j.numbers + numbers_needed j))
      (outputs_of e) ≡ true
  suit_numbers kind count =
      on_rows (λ rs. list_all (λ r. nat_le j.numbers r.number
      && nat_lt r.number (j.numbers + numbers_needed j)) rs ≡ true)
      (subst (λ k. list_all (λ r. nat_le j.numbers r.number
      && nat_lt r.number (j.numbers + needed_at k j)) (rows_of made) ≡ true)
      (sym kind)
      (subst (λ high. list_all (λ r. nat_le j.numbers r.number && nat_lt r.number high)
      (rows_of made) ≡ true) needed
      (rows_numbered g full j.level j.numbers j.numbers
      (j.numbers + length is.parts * suc (length j.keys)) made (cut_from j.numbers j.keys is.parts)
      (omega arith) is.pieces (numbered_cut j.numbers j.keys is.parts))))
    where
      needed : j.numbers + length is.parts * suc (length j.keys)
          ≡ j.numbers + length j.inputs * (length j.keys + 1)
      needed =
          (λ i. j.numbers + (parts_count g tables is.parts is.read ∙ sym count) i * one (length j.keys) i)
        where
          one : (n : ℕ) → suc n ≡ n + 1
          one n = omega arith

  pub suit_differ : numbers_differ (map (λ r. r.number) (outputs_of e)) ≡ true
  suit_differ =
      on_rows (λ rs. numbers_differ (map (λ r. r.number) rs) ≡ true)
      (rows_differ g full j.level j.numbers (j.numbers + length is.parts * suc (length j.keys)) made
      (cut_from j.numbers j.keys is.parts) is.pieces (numbered_cut j.numbers j.keys is.parts))

  pub rows_suit : (o : Column) (s : Shape) → j.kind ≡ CutJob
      → list_all (lies_in (job_range j)) (rows_of tables) ≡ true → RowsSuit o s j e
  rows_suit o s kind inside =
      let ps = cut_from j.numbers j.keys is.parts in
      record {
        form = on_rows (λ rs. list_all (is_row 0) rs ≡ true) (rows_form g full j.level made ps is.pieces);
        inside = on_rows (λ rs. list_all (lies_in (job_range j)) rs ≡ true)
            (rows_inside g full j.level j.lo j.hi made ps is.pieces
            (cut_inside g j.lo j.hi j.numbers j.keys tables is.parts is.read inside));
        pieces = subst (λ k. suits k o s j e ≡ true) (sym kind)
            (subst (λ d. suits CutJob o s j d ≡ true) (sym edit)
            (rows_lie g full j.level j.keys made ps is.pieces (cut_lies j.numbers j.keys is.parts)));
      }

  pub suit_entries : entries_in (outputs_of e) ≡ entries_in (rows_of tables)
  suit_entries = ap entries_in outputs ∙ same_entries g full j tables made is

  pub suit_describes : LengthIs → PiecesAre → (o : Column) → full ≡ o.block_bytes
      → j.kind ≡ CutJob → (contents : List (List Entry)) → AllZip (IsHeld g) tables contents
      → AllZip (Describes o) (outputs_of e) (made_of j contents)
  suit_describes len are o same kind contents held =
      on_rows (λ rs. AllZip (Describes o) rs (made_of j contents))
      (subst (λ k. AllZip (Describes o) (rows_of made) (made_by k j contents)) (sym kind)
      (describes_told g full j tables made len are o same is contents held))
