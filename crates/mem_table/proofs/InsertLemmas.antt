-- Operations that are inserted one after another.
use Rattle.std.proofs.Common.{◌≡◌, ℕ, ◌+◌, ◌<◌, List, [], ◌∷◌, ◌++◌, length, take, get_or, sym, ap, ◌∙◌, subst, arith, append_assoc, append-nil}
use Rattle.std.specs.Prelude.{min, All}
use Rattle.std.proofs.lemmas.Grind.{take_at_read}
use Rattle.std.proofs.lemmas.List.{length-take}
use Rattle.std.proofs.lemmas.List.Elements.{recursion_from_All}
use Rattle.peb_base.specs.Batches.{numbered}
use Rattle.peb_base.specs.Entries.{AreSorted, in_order, put_in, size_of}
use Rattle.peb_base.specs.Inserting.{NumbersBelow, apart_below, below_append, below_in_order, below_more, below_numbered, bytes_of, entry_under, numbered_push, size_put}
use Rattle.peb_base.specs.Sorting.{IsApart, in_order_push, sorted_is_in_order}
use Rattle.peb_base.specs.declared.entry.Entry.{Entry}
use Rattle.peb_base.specs.declared.op.Op.{Op}

-- the entries with the first i operations behind them have lesser numbers than the next one
below_next : (old : List Entry) (first : ℕ) (ops : List Op) (i : ℕ)
    → All (λ e. e.number < first) old
    → NumbersBelow (first + i) (old ++ numbered first (take i ops))
below_next old first ops i newer =
    below_append (first + i) old (numbered first (take i ops))
    (below_more first (first + i) old (omega arith)
    (recursion_from_All (λ e. e.number < first) old newer))
    (below_numbered first (take i ops) (first + i) (omega (arith, length-take i ops)))

-- the next one is apart from them
pub next_apart : (old now : List Entry) (first : ℕ) (ops : List Op) (i : ℕ) (e : Entry)
    → All (λ e. e.number < first) old → now ≡ in_order (old ++ numbered first (take i ops))
    → e.number ≡ first + i → IsApart e now
next_apart old now first ops i e newer is number =
    apart_below e now (subst (λ n. NumbersBelow n now) (sym number)
    (subst (NumbersBelow (first + i)) (sym is)
    (below_in_order (first + i) (old ++ numbered first (take i ops))
    (below_next old first ops i newer))))

take_next : (ops : List Op) (i : ℕ) (op : Op) → i < length ops → op ≡ get_or ops i op
    → take (i + 1) ops ≡ take i ops ++ op ∷ []
take_next ops i op within read =
    (take_at_read ops i op within).1 ∙ ap (λ (o : Op). take i ops ++ o ∷ []) (sym read)

-- with it in its place they are the old ones and one operation more, in order
pub next_in_order : (old now new : List Entry) (first : ℕ) (ops : List Op) (i : ℕ) (op : Op)
    (e : Entry)
    → All (λ e. e.number < first) old → now ≡ in_order (old ++ numbered first (take i ops))
    → i < length ops → op ≡ get_or ops i op → e ≡ entry_under (first + i) op → new ≡ put_in e now
    → new ≡ in_order (old ++ numbered first (take (i + 1) ops))
next_in_order old now new first ops i op e newer is within read same put =
    let xs : List Entry = old ++ numbered first (take i ops) in
    let number : e.number ≡ first + i = ap (λ (x : Entry). x.number) same in
    let apart : IsApart e xs = apart_below e xs
    (subst (λ n. NumbersBelow n xs) (sym number) (below_next old first ops i newer)) in
    let len : length (take i ops) ≡ i = omega (arith, length-take i ops, within) in
    let more : numbered first (take (i + 1) ops) ≡ numbered first (take i ops) ++ e ∷ [] =
    ap (numbered first) (take_next ops i op within read) ∙ numbered_push first (take i ops) op
    ∙ ap (λ n. numbered first (take i ops) ++ entry_under (first + n) op ∷ []) len
    ∙ ap (λ (x : Entry). numbered first (take i ops) ++ x ∷ []) (sym same) in
    put ∙ ap (put_in e) is ∙ sym (in_order_push xs e apart)
    ∙ ap in_order
    (append_assoc old (numbered first (take i ops)) (e ∷ []) ∙ ap (λ l. old ++ l) (sym more))

-- the same of one operation alone
pub one_in_order : (old new : List Entry) (e : Entry) → All (λ f. f.number < e.number) old
    → AreSorted old
    → new ≡ put_in e old → new ≡ in_order (old ++ e ∷ [])
one_in_order old new e newer sorted put =
    put ∙ ap (put_in e) (sym (sorted_is_in_order old sorted))
    ∙ sym (in_order_push old e
    (apart_below e old (recursion_from_All (λ f. f.number < e.number) old newer)))

pub one_apart : (old : List Entry) (e : Entry) → All (λ f. f.number < e.number) old → IsApart e old
one_apart old e newer = apart_below e old (recursion_from_All (λ f. f.number < e.number) old newer)

-- sorted entries are in order before the first operation
pub none_yet : (old : List Entry) → AreSorted old → old ≡ in_order (old ++ [])
none_yet old sorted = sym (ap in_order (append-nil old) ∙ sorted_is_in_order old sorted)

capped : (old of_entry new size bytes more most : ℕ) → new ≡ old + of_entry → size ≡ min old most
    → bytes ≡ of_entry → more ≡ min (size + bytes) most → more ≡ min new most
capped old of_entry new size bytes more most grown was is adds = omega (arith, grown, was, is, adds)

-- the size with one entry more, up to a greatest one
pub size_next : (most : ℕ) (now new : List Entry) (e : Entry) (size bytes more : ℕ)
    → size ≡ min (size_of now) most → bytes ≡ bytes_of e → more ≡ min (size + bytes) most
    → new ≡ put_in e now → more ≡ min (size_of new) most
size_next most now new e size bytes more was of_entry adds put =
    let grown : size_of new ≡ size_of now + bytes_of e = ap size_of put ∙ size_put e now in
    capped (size_of now) (bytes_of e) (size_of new) size bytes more most grown was of_entry adds
