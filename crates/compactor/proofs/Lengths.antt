-- How many bytes a maker takes of a table.
use Rattle.std.proofs.Common.{◌≡◌, ℕ, ◌+◌, ◌-◌, ◌^◌, ◌<◌, ◌≤◌, List, [], ◌∷◌, ◌++◌, length, ◌∙◌, subst, arith}
use Rattle.disk_model.specs.Tables.{capped}
use Rattle.peb_base.specs.Entries.{AreSorted}
use Rattle.peb_base.specs.Keys.{Bytes}
use Rattle.peb_base.specs.Profiles.{Column}
use Rattle.peb_base.specs.Tables.{table_length}
use Rattle.peb_base.specs.declared.entry.Entry.{Entry}
use Rattle.table_file.specs.Form.{table_bytes}
use Rattle.table_file.specs.Pieces.{pieces_from, open_length, whole_length}
use Rattle.table_file.specs.Taking.{closed_length, rest_length, TakesAtMost}
use Rattle.table_file.specs.TakingLaws.{takes_less, takes_on}

-- what is taken of some first entries of pieces is at most what is taken of more of them
abbrev pub OpenGrows : Type 0
OpenGrows = (full n : ℕ) (keys : List Bytes) (es rest : List Entry) → AreSorted (es ++ rest)
    → open_length full (pieces_from n keys es) ≤ open_length full (pieces_from n keys (es ++ rest))

-- and at most their tables
abbrev pub OpenIsWithin : Type 0
OpenIsWithin = (full n : ℕ) (keys : List Bytes) (es : List Entry)
    → open_length full (pieces_from n keys es) ≤ whole_length full (pieces_from n keys es)

-- a table has the length that is reckoned
abbrev pub LengthIsReckoned : Type 0
LengthIsReckoned = (o : Column) (number : ℕ) (es : List Entry)
    → length (table_bytes o.block_bytes number es) ≡ table_length o es

-- so it is of one table: the closed blocks of some first entries
pub closed_grows : OpenGrows → (full : ℕ) (es rest : List Entry) → AreSorted (es ++ rest)
    → closed_length full es ≤ closed_length full (es ++ rest)
closed_grows grows full [] rest sorted = omega arith
closed_grows grows full (e ∷ es) rest sorted = grows full 0 [] (e ∷ es) rest sorted

pub closed_within : OpenIsWithin → (full number : ℕ) (es : List Entry)
    → closed_length full es ≤ length (table_bytes full number es)
closed_within within full number [] = omega arith
closed_within within full number (e ∷ es) = omega (arith, within full number [] (e ∷ es))

-- the closed blocks and the rest are the table
pub closed_and_rest : OpenIsWithin → LengthIsReckoned → (o : Column) (number : ℕ) (es : List Entry)
    → closed_length o.block_bytes es + rest_length o.block_bytes number es ≡ table_length o es
closed_and_rest within reckoned o number es =
    omega (arith, closed_within within o.block_bytes number es, reckoned o number es)

-- a table that isn't pushed to its end takes at most its length
pub write_stops : OpenIsWithin → LengthIsReckoned → (o : Column) (full number : ℕ)
    (es : List Entry) (before started now : ℕ) → full ≡ o.block_bytes → started ≡ before
    → TakesAtMost (closed_length full es) started now → TakesAtMost (table_length o es) before now
write_stops within reckoned o full number es before started now block same takes =
    let all = closed_and_rest within reckoned o number es in
    subst (λ (t : ℕ). TakesAtMost (table_length o es) t now) same
    (takes_less (closed_length o.block_bytes es) (table_length o es) started now (omega (arith, all))
    (subst (λ (b : ℕ). TakesAtMost (closed_length b es) started now) block takes))

-- nor one that isn't closed
pub write_fails : OpenIsWithin → LengthIsReckoned → (o : Column) (full last number : ℕ)
    (es : List Entry) (before started between now : ℕ) → full ≡ o.block_bytes → last ≡ full
    → started ≡ before → between ≡ capped (started + closed_length full es)
    → TakesAtMost (rest_length last number es) between now
    → TakesAtMost (table_length o es) before now
write_fails within reckoned o full last number es before started between now block still same closed takes =
    let all = closed_and_rest within reckoned o number es in
    let rest = subst (λ (b : ℕ). TakesAtMost (rest_length b number es) between now) (still ∙ block) takes in
    let front = subst (λ (b : ℕ). between ≡ capped (started + closed_length b es)) block closed in
    let both = takes_on (closed_length o.block_bytes es) (rest_length o.block_bytes number es) started between now front rest in
    subst (λ (t : ℕ). TakesAtMost (table_length o es) t now) same
    (subst (λ (n : ℕ). TakesAtMost n started now) all both)

-- one that is takes its length
pub write_ends : OpenIsWithin → LengthIsReckoned → (o : Column) (full last number : ℕ)
    (es : List Entry) (before started between now : ℕ) → full ≡ o.block_bytes → last ≡ full
    → started ≡ before → between ≡ capped (started + closed_length full es)
    → now ≡ capped (between + rest_length last number es)
    → now ≡ capped (before + table_length o es)
write_ends within reckoned o full last number es before started between now block still same closed ends =
    let all = closed_and_rest within reckoned o number es in
    let rest = subst (λ (b : ℕ). now ≡ capped (between + rest_length b number es)) (still ∙ block) ends in
    let front = subst (λ (b : ℕ). between ≡ capped (started + closed_length b es)) block closed in
    omega (arith, all, rest, front, same)
