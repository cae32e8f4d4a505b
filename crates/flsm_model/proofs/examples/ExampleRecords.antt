-- The definitions on worked records.
use Rattle.std.proofs.Common.{◌≡◌, ℕ, Bool, true, false, List, [], ◌∷◌, map, take, None, refl}
use Rattle.peb_base.specs.Batches.{Batches}
use Rattle.peb_base.specs.Entries.{in_order}
use Rattle.peb_base.specs.Map.{map_at}
use Rattle.peb_base.specs.Choice.{bits}
use Rattle.peb_base.specs.Tables.{table_length}
use Rattle.flsm_model.specs.declared.edit.Edit.{Edit}
use Rattle.flsm_model.specs.declared.edit.Edit.TheVariants.{Open, Flush, Move, Cut}
use Rattle.flsm_model.specs.declared.job_kind.JobKind.{JobKind}
use Rattle.flsm_model.specs.declared.job_kind.JobKind.TheVariants.{Move as MoveJob, Cut as CutJob}
use Rattle.flsm_model.specs.declared.job.Job.{Job}
use Rattle.flsm_model.specs.Ranges.{range_of}
use Rattle.flsm_model.specs.Compaction.{kept}
use Rattle.flsm_model.specs.Shape.{Record, Shape, empty_shape, shape_of, guards_at, shape_after}
use Rattle.flsm_model.specs.Fits.{fits, is_candidate, is_legal_record}
use Rattle.flsm_model.specs.Trees.{Table, Tree, rows_of, empty_tree, contents, tree_of}
use Rattle.flsm_model.specs.Writes.{writes_from, cuts_from}
use Rattle.flsm_model.specs.Ledgers.{nothing, ledger}
use Rattle.flsm_model.specs.Picking.{wanted}
use Rattle.peb_base.specs.Shown.{shown}
use Rattle.flsm_model.specs.Shown.{all_entries}
use Rattle.flsm_model.proofs.examples.Samples.{small, n, put, delete, puts, row, o_key, g_key}

-- ---- which edits fit

opened : fits small (empty_shape small) (Open 1 1) ≡ true
opened = refl

opened_twice : is_legal_record small (Open 1 1 ∷ Open 1 1 ∷ []) ≡ false
opened_twice = refl

cut_before_chosen : fits small (shape_of small (Open 1 1 ∷ [])) (Cut 1 (o_key ∷ []) [] []) ≡ false
unfolding bits lib.Count.count_trailing_zeros
cut_before_chosen = refl

-- o was chosen at level 1, g at level 2
abbrev chosen_shape : Shape
chosen_shape = record (empty_shape small) { chosen = record { key = o_key; level = 1 } ∷ record { key = g_key; level = 2 } ∷ [] }

abbrev candidates : ℕ → List Bool
candidates level = map (is_candidate chosen_shape.chosen level) (o_key ∷ g_key ∷ (97 ∷ []) ∷ [])

candidates_of_1 : candidates 1 ≡ true ∷ false ∷ false ∷ []
unfolding bits lib.Count.count_trailing_zeros
candidates_of_1 = refl

candidates_of_2 : candidates 2 ≡ true ∷ true ∷ false ∷ []
unfolding bits lib.Count.count_trailing_zeros
candidates_of_2 = refl

candidates_of_3 : candidates 3 ≡ true ∷ true ∷ false ∷ []
unfolding bits lib.Count.count_trailing_zeros
candidates_of_3 = refl

-- ---- three puts, each flushed, and a Move of the three tables

abbrev three_batches : Batches
three_batches = puts 97 1 49 ∷ puts 98 2 50 ∷ puts 99 3 51 ∷ []

abbrev three : Record
three =
    Open 1 1
    ∷ Flush (row 1 0 (put 97 1 49 ∷ [])) 0 (n 1) 2 []
    ∷ Flush (row 2 0 (put 98 2 50 ∷ [])) (n 1) (n 2) 3 []
    ∷ Flush (row 3 0 (put 99 3 51 ∷ [])) (n 2) (n 3) 4 []
    ∷ Move 0 (n 3) (n 1 ∷ n 2 ∷ n 3 ∷ []) (row 4 1 (put 97 1 49 ∷ put 98 2 50 ∷ put 99 3 51 ∷ []) ∷ [])
    ∷ []

three_is_legal : is_legal_record small three ≡ true
unfolding table_length bits lib.Count.count_trailing_zeros
three_is_legal = refl

three_tables : (tree_of small three_batches three).tables
    ≡ record { row = row 4 1 (put 97 1 49 ∷ put 98 2 50 ∷ put 99 3 51 ∷ []); entries = put 97 1 49 ∷ put 98 2 50 ∷ put 99 3 51 ∷ [] } ∷ []
three_tables = refl

three_at_0 : ledger three [] 0 ≡ record { tables = 3; entries = 3; bytes = 333; cuts = 0; short = 0; lost = 0 }
unfolding table_length
three_at_0 = refl

three_at_1 : ledger three [] 1 ≡ record { tables = 1; entries = 3; bytes = 149; cuts = 0; short = 0; lost = 0 }
unfolding table_length
three_at_1 = refl

-- ---- a, o, z: o is cut first, the deepest level first, which takes no input

abbrev cut_first_batches : Batches
cut_first_batches = puts 97 1 49 ∷ puts 111 2 50 ∷ puts 122 3 51 ∷ []

abbrev cut_first : Record
cut_first =
    Open 1 1
    ∷ Flush (row 1 0 (put 97 1 49 ∷ [])) 0 (n 1) 2 []
    ∷ Flush (row 2 0 (put 111 2 50 ∷ [])) (n 1) (n 2) 3 (record { key = o_key; level = 1 } ∷ [])
    ∷ Flush (row 3 0 (put 122 3 51 ∷ [])) (n 2) (n 3) 4 []
    ∷ Cut 3 (o_key ∷ []) [] [] ∷ Cut 2 (o_key ∷ []) [] [] ∷ Cut 1 (o_key ∷ []) [] []
    ∷ Move 0 (n 3) (n 1 ∷ n 2 ∷ n 3 ∷ []) (row 4 1 (put 97 1 49 ∷ []) ∷ row 5 1 (put 111 2 50 ∷ put 122 3 51 ∷ []) ∷ [])
    ∷ []

cut_first_is_legal : is_legal_record small cut_first ≡ true
unfolding table_length bits lib.Count.count_trailing_zeros
cut_first_is_legal = refl

cut_first_at_1 : ledger cut_first [] 1 ≡ record { tables = 2; entries = 3; bytes = 241; cuts = 0; short = 0; lost = 0 }
unfolding table_length
cut_first_at_1 = refl

cut_first_holds : map (λ (t : Table). t.entries) (tree_of small cut_first_batches cut_first).tables ≡ (put 97 1 49 ∷ []) ∷ (put 111 2 50 ∷ put 122 3 51 ∷ []) ∷ []
cut_first_holds = refl

cut_first_shows : shown (all_entries (tree_of small cut_first_batches cut_first).tables) (n 3) ≡ map_at cut_first_batches (n 3)
cut_first_shows = refl

-- ---- a, b, z, o, x, y: the cut of o falls into the table of a, b and z

abbrev six_batches : Batches
six_batches = puts 97 1 49 ∷ puts 98 2 50 ∷ puts 122 3 51 ∷ puts 111 4 52 ∷ puts 120 5 53 ∷ puts 121 6 54 ∷ []

abbrev six : Record
six =
    Open 1 1
    ∷ Flush (row 1 0 (put 97 1 49 ∷ [])) 0 (n 1) 2 []
    ∷ Flush (row 2 0 (put 98 2 50 ∷ [])) (n 1) (n 2) 3 []
    ∷ Flush (row 3 0 (put 122 3 51 ∷ [])) (n 2) (n 3) 4 []
    ∷ Move 0 (n 3) (n 1 ∷ n 2 ∷ n 3 ∷ []) (row 4 1 (put 97 1 49 ∷ put 98 2 50 ∷ put 122 3 51 ∷ []) ∷ [])
    ∷ Flush (row 5 0 (put 111 4 52 ∷ [])) (n 3) (n 4) 5 (record { key = o_key; level = 1 } ∷ [])
    ∷ Flush (row 6 0 (put 120 5 53 ∷ [])) (n 4) (n 5) 6 []
    ∷ Flush (row 7 0 (put 121 6 54 ∷ [])) (n 5) (n 6) 7 []
    ∷ Cut 3 (o_key ∷ []) [] []
    ∷ Cut 2 (o_key ∷ []) [] []
    ∷ Cut 1 (o_key ∷ []) (n 4 ∷ []) (row 8 1 (put 97 1 49 ∷ put 98 2 50 ∷ []) ∷ row 9 1 (put 122 3 51 ∷ []) ∷ [])
    ∷ Move 0 (n 6) (n 5 ∷ n 6 ∷ n 7 ∷ []) (row 10 1 (put 111 4 52 ∷ put 120 5 53 ∷ put 121 6 54 ∷ []) ∷ [])
    ∷ []

six_is_legal : is_legal_record small six ≡ true
unfolding table_length bits lib.Count.count_trailing_zeros
six_is_legal = refl

six_at_0 : ledger six [] 0 ≡ record { tables = 6; entries = 6; bytes = 666; cuts = 0; short = 0; lost = 0 }
unfolding table_length
six_at_0 = refl

six_at_1 : ledger six [] 1 ≡ record { tables = 4; entries = 9; bytes = 539; cuts = 3; short = 0; lost = 0 }
unfolding table_length
six_at_1 = refl

six_hold : map (λ (t : Table). t.entries) (tree_of small six_batches six).tables
    ≡ (put 97 1 49 ∷ put 98 2 50 ∷ []) ∷ (put 122 3 51 ∷ []) ∷ (put 111 4 52 ∷ put 120 5 53 ∷ put 121 6 54 ∷ []) ∷ []
six_hold = refl

six_guards : (shape_of small six).guards ≡ (o_key ∷ []) ∷ (o_key ∷ []) ∷ (o_key ∷ []) ∷ []
six_guards = refl

-- the entry of a was written twice at level 1, once of it for the cut
six_writes : writes_from small six_batches (empty_tree small) (n 1) 1 six ≡ 2
six_writes = refl

six_cuts : cuts_from small six_batches (empty_tree small) (n 1) 1 six ≡ 1
six_cuts = refl

-- ---- level 1 holds {o, z} in the sentinel: a cut of o takes nothing, and the table then lies in guard o

abbrev moves_over : Shape
moves_over =
    record (empty_shape small) {
      session = 1;
      to = n 2;
      log = 3;
      chosen = record { key = o_key; level = 1 } ∷ [];
      guards = [] ∷ (o_key ∷ []) ∷ (o_key ∷ []) ∷ [];
      live = row 4 1 (put 111 1 49 ∷ put 122 2 50 ∷ []) ∷ [];
    }

cut_takes_nothing : fits small moves_over (Cut 1 (o_key ∷ []) [] []) ≡ true
unfolding bits lib.Count.count_trailing_zeros
cut_takes_nothing = refl

lies_in_o : range_of (guards_at (shape_after moves_over (Cut 1 (o_key ∷ []) [] [])) 1) o_key ≡ (o_key, None)
lies_in_o = refl

nothing_counted : ledger (Cut 1 (o_key ∷ []) [] [] ∷ []) [] 1 ≡ nothing
nothing_counted = refl

-- ---- the last level's sentinel holds {a, p}, {b, q}, {r, t}: a cut of g takes the first two

abbrev halves : List Table
halves =
    record { row = row 1 3 (put 97 1 49 ∷ put 112 2 49 ∷ []); entries = put 97 1 49 ∷ put 112 2 49 ∷ [] }
    ∷ record { row = row 2 3 (put 98 3 49 ∷ put 113 4 49 ∷ []); entries = put 98 3 49 ∷ put 113 4 49 ∷ [] }
    ∷ record { row = row 3 3 (put 114 5 49 ∷ put 116 6 49 ∷ []); entries = put 114 5 49 ∷ put 116 6 49 ∷ [] } ∷ []

abbrev halves_tree : Tree
halves_tree =
    record {
      shape =
          record (empty_shape small) {
            session = 1;
            to = n 6;
            log = 2;
            used = n 1 ∷ n 2 ∷ n 3 ∷ [];
            chosen = record { key = g_key; level = 2 } ∷ [];
            live = rows_of halves;
          };
      tables = halves;
    }

abbrev cut_g : Edit
cut_g =
    Cut 3 (g_key ∷ []) (n 1 ∷ n 2 ∷ [])
    (row 4 3 (put 97 1 49 ∷ []) ∷ row 5 3 (put 112 2 49 ∷ []) ∷ row 6 3 (put 98 3 49 ∷ []) ∷ row 7 3 (put 113 4 49 ∷ []) ∷ [])

cut_g_fits : fits small halves_tree.shape cut_g ≡ true
unfolding table_length bits lib.Count.count_trailing_zeros
cut_g_fits = refl

cut_g_holds : contents small [] halves_tree cut_g ≡ (put 97 1 49 ∷ []) ∷ (put 112 2 49 ∷ []) ∷ (put 98 3 49 ∷ []) ∷ (put 113 4 49 ∷ []) ∷ []
cut_g_holds = refl

cut_g_counts : ledger (cut_g ∷ []) [] 3 ≡ record { tables = 4; entries = 4; bytes = 444; cuts = 4; short = 0; lost = 0 }
unfolding table_length
cut_g_counts = refl

-- the third table isn't split, so it may be no input
cut_of_every_table : fits small halves_tree.shape (Cut 3 (g_key ∷ []) (n 1 ∷ n 2 ∷ n 3 ∷ []) []) ≡ false
unfolding bits lib.Count.count_trailing_zeros
cut_of_every_table = refl

-- ---- a deleted at 2 and put at 1, floor 2

whole_merge_keeps : kept (in_order (delete 97 2 ∷ put 97 1 49 ∷ [])) (n 2) true ≡ []
whole_merge_keeps = refl

part_merge_keeps : kept (delete 97 2 ∷ []) (n 2) false ≡ delete 97 2 ∷ []
part_merge_keeps = refl

move_keeps : kept (in_order (put 97 1 49 ∷ delete 97 2 ∷ [])) (n 2) false ≡ delete 97 2 ∷ []
move_keeps = refl

-- a snapshot at 1 keeps both
snapshot_keeps : kept (in_order (put 97 1 49 ∷ delete 97 2 ∷ [])) (n 1) true ≡ delete 97 2 ∷ put 97 1 49 ∷ []
snapshot_keeps = refl

-- ---- which jobs are wanted

abbrev job : JobKind → ℕ → List ℕ → List (List ℕ) → Job
job kind level inputs keys = record { kind = kind; level = level; lo = []; hi = None; inputs = inputs; keys = keys; numbers = 0; floor = 0; whole = false }

abbrev after_edits : ℕ → Shape
after_edits count = shape_of small (take count six)

-- after three flushes level 0 is over-full: its Move; after three more o is cut first, the deepest level first
wanted_3 : wanted small (after_edits 4) None ≡ job MoveJob 0 (n 1 ∷ n 2 ∷ n 3 ∷ []) [] ∷ []
unfolding bits lib.Count.count_trailing_zeros
wanted_3 = refl

wanted_6 : wanted small (after_edits 8) None ≡ job CutJob 3 [] (o_key ∷ []) ∷ []
unfolding bits lib.Count.count_trailing_zeros
wanted_6 = refl

wanted_7 : wanted small (after_edits 9) None ≡ job CutJob 2 [] (o_key ∷ []) ∷ []
unfolding bits lib.Count.count_trailing_zeros
wanted_7 = refl

wanted_8 : wanted small (after_edits 10) None ≡ job CutJob 1 (n 4 ∷ []) (o_key ∷ []) ∷ []
unfolding bits lib.Count.count_trailing_zeros
wanted_8 = refl

wanted_9 : wanted small (after_edits 11) None ≡ job MoveJob 0 (n 5 ∷ n 6 ∷ n 7 ∷ []) (o_key ∷ []) ∷ []
unfolding bits lib.Count.count_trailing_zeros
wanted_9 = refl

wanted_10 : wanted small (after_edits 12) None ≡ []
unfolding bits lib.Count.count_trailing_zeros
wanted_10 = refl
