-- Entries of operations that are inserted, and their numbers and sizes.
use Rattle.std.proofs.Common.{◌≡◌, ℕ, suc, ◌+◌, ◌<◌, ◌≤◌, Bool, true, false, cond, List, [], ◌∷◌, ◌++◌, ◌⊎◌, inl, inr, length, refl, ap, ◌∙◌, arith}
use Rattle.std.specs.Prelude.{nat_lt, All}
use Rattle.std.specs.List.{AllByRecursion}
use Rattle.std.specs.declared.cmp.Ordering.{Ordering}
use Rattle.std.specs.declared.cmp.Ordering.TheVariants.{Less, Equal, Greater}
use Rattle.std.specs.Ordering.{nat_cmp, ordering_reverse}
use Rattle.std.specs.Cmp.Lexicographic.{slice_cmp, nat_list_cmp_total}
use Rattle.std.proofs.lemmas.List.Sums.{sum_by-cons}
use Rattle.std.proofs.lemmas.List.Elements.{All-from_recursion, recursion_from_All}
use Rattle.std.proofs.lemmas.Bool.{lt-ltb}
use Rattle.peb_base.specs.Entries.{entry_lt, put_in, in_order, size_of, value_of}
use Rattle.peb_base.specs.EntryLaws.{comes_before_by, decided}
use Rattle.peb_base.specs.Sorting.{IsApart}
use Rattle.peb_base.specs.Batches.{numbered}
use Rattle.peb_base.specs.declared.entry.Entry.{Entry}
use Rattle.peb_base.specs.declared.op.Op.{Op}

-- ---- entries with lesser numbers

-- each number is below this one
abbrev pub NumbersBelow : ℕ → List Entry → Type 0
NumbersBelow n es = AllByRecursion (λ e. e.number < n) es

-- an entry is apart from those with lesser numbers
pub apart_below : (e : Entry) (es : List Entry) → NumbersBelow e.number es → IsApart e es
apart_below e [] below = tt
apart_below e (f ∷ fs) below = (by (slice_cmp nat_cmp e.key f.key) refl, apart_below e fs below.1)
  where
    newer : nat_lt f.number e.number ≡ true
    newer = lt-ltb f.number e.number below.0

    by : (o : Ordering) → slice_cmp nat_cmp e.key f.key ≡ o
        → (entry_lt e f ≡ true) ⊎ (entry_lt f e ≡ true)
    by Less is = inl (comes_before_by e.key e.number f.key f.number
        ∙ ap (λ o. decided o (nat_lt f.number e.number)) is)
    by Equal is = inl (comes_before_by e.key e.number f.key f.number
        ∙ ap (λ o. decided o (nat_lt f.number e.number)) is ∙ newer)
    by Greater is = inr (comes_before_by f.key f.number e.key e.number
        ∙ ap (λ o. decided o (nat_lt e.number f.number))
        (nat_list_cmp_total.antisymm f.key e.key ∙ ap ordering_reverse is))

below_put : (n : ℕ) (e : Entry) (es : List Entry) → e.number < n → NumbersBelow n es
    → NumbersBelow n (put_in e es)
below_put n e [] lt below = (lt, tt)
below_put n e (f ∷ fs) lt below = by (entry_lt e f) (below_put n e fs lt below.1)
  where
    by : (b : Bool) → NumbersBelow n (put_in e fs)
        → NumbersBelow n (cond b (e ∷ f ∷ fs) (f ∷ put_in e fs))
    by true ih = (lt, below)
    by false ih = (below.0, ih)

-- the order changes no numbers
pub below_in_order : (n : ℕ) (es : List Entry) → NumbersBelow n es → NumbersBelow n (in_order es)
below_in_order n [] below = tt
below_in_order n (e ∷ es) below = below_put n e (in_order es) below.0 (below_in_order n es below.1)

pub below_append : (n : ℕ) (xs ys : List Entry) → NumbersBelow n xs → NumbersBelow n ys
    → NumbersBelow n (xs ++ ys)
below_append n [] ys front rest = rest
below_append n (x ∷ xs) ys front rest = (front.0, below_append n xs ys front.1 rest)

pub below_more : (n m : ℕ) (es : List Entry) → n ≤ m → NumbersBelow n es → NumbersBelow m es
below_more n m [] le below = tt
below_more n m (e ∷ es) le below = (omega (arith, below.0, le), below_more n m es le below.1)

-- ---- numbered operations

pub below_numbered : (first : ℕ) (ops : List Op) (n : ℕ) → first + length ops ≤ n
    → NumbersBelow n (numbered first ops)
below_numbered first [] n le = tt
below_numbered first (op ∷ ops) n le =
    (omega (arith, le), below_numbered (suc first) ops n (omega (arith, le)))

-- the entry of an operation under a number
abbrev pub entry_under : ℕ → Op → Entry
entry_under number op = record { key = op.key; number = number; change = op.change }

-- with numbered operations put among older entries, all numbers are below any that is above theirs
pub inserted_below : (old : List Entry) (first : ℕ) (ops : List Op) (n : ℕ)
    → All (λ e. e.number < first) old → first + length ops ≤ n
    → All (λ e. e.number < n) (in_order (old ++ numbered first ops))
inserted_below old first ops n older le =
    All-from_recursion (λ e. e.number < n) (in_order (old ++ numbered first ops))
    (below_in_order n (old ++ numbered first ops)
    (below_append n old (numbered first ops)
    (below_more first n old (omega (arith, le))
    (recursion_from_All (λ e. e.number < first) old older))
    (below_numbered first ops n le)))

-- one operation more
pub numbered_push : (first : ℕ) (ops : List Op) (op : Op)
    → numbered first (ops ++ op ∷ []) ≡ numbered first ops
    ++ entry_under (first + length ops) op ∷ []
numbered_push first [] op =
    let same : first ≡ first + 0 = omega arith in ap (λ n. entry_under n op ∷ []) same
numbered_push first (o ∷ ops) op =
    let same : suc first + length ops ≡ first + length (o ∷ ops) = omega arith in
    ap (λ (l : List Entry). entry_under first o ∷ l)
    (numbered_push (suc first) ops op
    ∙ ap (λ n. numbered (suc first) ops ++ entry_under n op ∷ []) same)

-- ---- the size

-- the bytes of one entry
abbrev pub bytes_of : Entry → ℕ
bytes_of e = length e.key + length (value_of e.change) + 16

pub size_put : (e : Entry) (es : List Entry) → size_of (put_in e es) ≡ size_of es + bytes_of e
size_put e [] = sum_by-cons bytes_of e [] ∙ omega arith
size_put e (f ∷ fs) = by (entry_lt e f) (size_put e fs)
  where
    by : (b : Bool) → size_of (put_in e fs) ≡ size_of fs + bytes_of e
        → size_of (cond b (e ∷ f ∷ fs) (f ∷ put_in e fs)) ≡ size_of (f ∷ fs) + bytes_of e
    by true ih = omega (arith, sum_by-cons bytes_of e (f ∷ fs))
    by false ih = omega (arith, sum_by-cons bytes_of f (put_in e fs), ih, sum_by-cons bytes_of f fs)
