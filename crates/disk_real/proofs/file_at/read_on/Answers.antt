use Rattle.std.proofs.Common.{◌≡◌, ◌≤◌, ℕ, ◌+◌, List, ◌++◌, rules, length, take, drop, sym, ap, ◌∙◌, subst, le_refl, drop_at, length-take-le}
use Rattle.std.proofs.lemmas.Slice.{take-put_mid_below}
use Rattle.std.proofs.KnownBytes.{Consumes-trans}
use Rattle.std.specs.Io.KnownBytes.{Consumes}
use borrow.Rule.Slice.PartMut.{put_mid, post_of}
use lib.Seq.{take-add, take-append-le}
use Rattle.disk_real.proofs.file_at.read_on.Goals as goal

-- what is read into the rest of a slice follows what was read before
taken_on : (count room more : ℕ) (before rest : List ℕ) → count ≤ length before → more ≤ length rest → take count before ++ take more rest ≡ take (count + more) (put_mid count room before rest)
taken_on count room more before rest within fits =
    let whole = put_mid count room before rest in
    let after = post_of count room before in
    let front : take count whole ≡ take count before = take-put_mid_below _ _ _ _ _ (le_refl _) within in
    let back : drop count whole ≡ rest ++ after = drop_at (take count before) (rest ++ after) count (length-take-le count before within) in
    sym (take-add count more whole ∙ ap (λ l. l ++ take more (drop count whole)) front ∙ ap (λ l. take count before ++ take more l) back ∙ ap (λ l. take count before ++ l) (take-append-le more rest after fits))

-- src/file_at.rt:45:5
pub loop-count-preserved : goal.loop-count-preserved
loop-count-preserved g c =
    let fits : c.in_ok-more.more ≤ length c.read_some.new.out = search rules in
    (search rules, search rules, subst (Consumes _ _) (taken_on _ _ _ _ _ c.loop-count.invariant.1 fits) (Consumes-trans _ _ _ _ _ c.loop-count.invariant.2 c.in_ok-more.ensures.bytes.0))
