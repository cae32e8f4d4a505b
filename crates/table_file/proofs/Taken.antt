-- How the lengths of closed blocks grow.
use Rattle.std.proofs.Common.{◌≡◌, ℕ, ◌+◌, ◌-◌, ◌<◌, ◌≤◌, ◌⊎◌, inl, inr, false, List, [], ◌∷◌, ◌++◌, length, ap, ◌∙◌, arith, length-append}
use Rattle.std.specs.Prelude.{if◌then◌else◌, nat_le}
use Rattle.peb_base.specs.declared.entry.Entry.{Entry}
use Rattle.block_form.specs.Form.{block_bytes}
use Rattle.table_file.specs.Form.{Cut, cut_of, body_bytes, with_last, blocks_of, table_bytes}
use Rattle.table_file.specs.Taking.{last_length, closed_length, pushed_length, rest_length}
use Rattle.std.proofs.lemmas.Bool.{cases_lt}
use Rattle.std.proofs.lemmas.Bool.Decides.{nat_tests}
use Rattle.table_file.proofs.Cuts.{cut_of-push, cut_closed}
use Rattle.table_file.proofs.Indexing.{body-push}
use Rattle.table_file.proofs.Spelled.{length-table}

-- the begun block as a last one makes the blocks longer by its length
pub length-last : (blocks : List (List Entry)) (begun : List Entry)
    → length (body_bytes (with_last blocks begun)) ≡ length (body_bytes blocks) + last_length begun
length-last blocks [] = omega arith
length-last blocks (e ∷ begun) =
    ap length (body-push blocks (e ∷ begun))
    ∙ length-append (body_bytes blocks) (block_bytes (e ∷ begun))

-- the entry closes its block
pub pushed_closed : (full : ℕ) (es : List Entry) (e : Entry)
    → full ≤ length (block_bytes ((cut_of full es).begun ++ e ∷ []))
    → pushed_length full es e ≡ length (block_bytes ((cut_of full es).begun ++ e ∷ []))
pushed_closed full es e long =
    let cut = cut_of full es in
    let block = cut.begun ++ e ∷ [] in
    omega (
      arith,
      ap (λ (c : Cut). length (body_bytes c.closed)) (cut_closed full es e long),
      ap length (body-push cut.closed block),
      length-append (body_bytes cut.closed) (block_bytes block),
    )

-- one entry more in a block that it doesn't fill
cut_open : (full : ℕ) (es : List Entry) (e : Entry)
    → length (block_bytes ((cut_of full es).begun ++ e ∷ [])) < full
    → cut_of full (es ++ e ∷ [])
    ≡ record { closed = (cut_of full es).closed; begun = (cut_of full es).begun ++ e ∷ [] }
cut_open full es e short =
    let cut = cut_of full es in
    let block = cut.begun ++ e ∷ [] in
    let no_ : nat_le full (length (block_bytes block)) ≡ false = grind (arith, nat_tests, short) in
    cut_of-push full es e ∙ ap (λ b. if b then record { closed = cut.closed ++ block ∷ []; begun = [] }
    else record { closed = cut.closed; begun = block }) no_

-- the entry closes no block
pub pushed_open : (full : ℕ) (es : List Entry) (e : Entry)
    → length (block_bytes ((cut_of full es).begun ++ e ∷ [])) < full → pushed_length full es e ≡ 0
pushed_open full es e short =
    omega (arith, ap (λ (c : Cut). length (body_bytes c.closed)) (cut_open full es e short))

-- one entry more closes a block or none
pub length-pushed : (full : ℕ) (es : List Entry) (e : Entry)
    → closed_length full (es ++ e ∷ []) ≡ closed_length full es + pushed_length full es e
length-pushed full es e = by (cases_lt (length (block_bytes (begun ++ e ∷ []))) full)
  where
    closed : List (List Entry)
    closed = (cut_of full es).closed

    begun : List Entry
    begun = (cut_of full es).begun

    by : (length (block_bytes (begun ++ e ∷ [])) < full)
        ⊎ (full ≤ length (block_bytes (begun ++ e ∷ [])))
        → closed_length full (es ++ e ∷ []) ≡ closed_length full es + pushed_length full es e
    by (inl short) =
        omega (arith, ap (λ (c : Cut). length (body_bytes c.closed)) (cut_open full es e short))
    by (inr long) =
        omega (
          arith,
          ap (λ (c : Cut). length (body_bytes c.closed)) (cut_closed full es e long),
          ap length (body-push closed (begun ++ e ∷ [])),
          length-append (body_bytes closed) (block_bytes (begun ++ e ∷ [])),
        )

-- the closed blocks and what follows them are the table
pub length-rest : (full number : ℕ) (es : List Entry)
    → length (table_bytes full number es) ≡ closed_length full es + rest_length full number es
length-rest full number es =
    omega (
      arith,
      length-table number (blocks_of full es) es,
      length-last (cut_of full es).closed (cut_of full es).begun,
    )

-- what follows the closed blocks: the last block, and what follows the blocks
pub rest_parts : (full number : ℕ) (es : List Entry)
    → rest_length full number es ≡ last_length (cut_of full es).begun
    + (length (table_bytes full number es) - length (body_bytes (blocks_of full es)))
rest_parts full number es =
    omega (
      arith,
      length-table number (blocks_of full es) es,
      length-last (cut_of full es).closed (cut_of full es).begun,
    )
