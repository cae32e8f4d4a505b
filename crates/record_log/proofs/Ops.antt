-- Operations one after another.
use Rattle.std.proofs.Common.{◌≡◌, ◌≢◌, ℕ, ◌-◌, ◌<◌, ◌≤◌, List, [], ◌∷◌, ◌++◌, length, drop, get_or, refl, sym, ap, ◌∙◌, arith, append_assoc}
use Rattle.std.proofs.lemmas.List.{append-nil}
use Rattle.peb_base.specs.declared.change.Change.{Change}
use Rattle.peb_base.specs.declared.change.Change.TheVariants.{Put, Delete}
use Rattle.peb_base.specs.declared.op.Op.{Op}
use Rattle.byteorder.specs.Endian.{big_bytes, big_number}
use Rattle.byteorder.specs.Numbers.{big_number-reads_back}
use Rattle.record_log.specs.BatchRecord.{batch_bytes, IsBatch, kind_of, value_bytes, op_bytes, ops_bytes, IsKey, IsChange, IsOp, AreOps}
use Rattle.record_log.specs.Counted.{counted_bytes}
use Rattle.record_log.specs.CountedLaws.{one_counted}

-- an operation in front of others, part by part
op_apart : (op : Op) (rest : List ℕ) → op_bytes op ++ rest ≡ kind_of op.change ∷ (counted_bytes 2 op.key ++ (value_bytes op.change ++ rest))
op_apart op rest = ap (λ l. kind_of op.change ∷ l) (append_assoc (counted_bytes 2 op.key) (value_bytes op.change) rest)

-- the key that a kind and a key tell, and what is behind it
the_key : (kind : ℕ) (key rest : List ℕ) (op : Op) (more : List ℕ) → IsKey key → IsKey op.key → kind ∷ (counted_bytes 2 key ++ rest) ≡ op_bytes op ++ more
    → (kind ≡ kind_of op.change) × (key ≡ op.key) × (rest ≡ value_bytes op.change ++ more)
the_key kind key rest op more is_key is_op same =
    let whole = same ∙ op_apart op more in
    let parts = one_counted 2 key op.key rest (value_bytes op.change ++ more) (omega (arith, is_key.1)) (omega (arith, is_op.1)) (ap (drop 1) whole) in
    (ap (λ l. get_or l 0 0) whole, parts.0, parts.1)

one_change : (a b : Change) (x y : List ℕ) → IsChange a → IsChange b → kind_of a ≡ kind_of b → value_bytes a ++ x ≡ value_bytes b ++ y → (a ≡ b) × (x ≡ y)
one_change Delete Delete x y is_a is_b kinds same = (refl, same)
one_change Delete (Put w) x y is_a is_b kinds same = absurd (omega (arith, kinds))
one_change (Put v) Delete x y is_a is_b kinds same = absurd (omega (arith, kinds))
one_change (Put v) (Put w) x y is_a is_b kinds same = let parts = one_counted 4 v w x y (omega (arith, is_a)) (omega (arith, is_b)) same in (ap Put parts.0, parts.1)

-- no operation begins another
pub one_op : (a b : Op) (x y : List ℕ) → IsOp a → IsOp b → op_bytes a ++ x ≡ op_bytes b ++ y → (a ≡ b) × (x ≡ y)
one_op a b x y is_a is_b same =
    let key = the_key (kind_of a.change) a.key (value_bytes a.change ++ x) b y is_a.0 is_b.0 (sym (op_apart a x) ∙ same) in
    let change = one_change a.change b.change x y is_a.1 is_b.1 key.0 key.2 in
    ((λ i. record { key = key.1 i; change = change.0 i }), change.1)

kinds : (change : Change) → kind_of change ≤ 1
kinds (Put value) = omega arith
kinds Delete = omega arith

no_value : (change : Change) (behind rest : List ℕ) → 1 ≡ kind_of change → IsChange change → behind ≡ value_bytes change ++ rest → ((value rest : List ℕ) → length value ≤ 32768 → behind ≢ counted_bytes 4 value ++ rest) → ⊥
no_value (Put value) behind rest kind is same none = none value rest is same
no_value Delete behind rest kind is same none = omega (arith, kind)

-- no value, no put
pub no_op_value : (bytes key behind : List ℕ) (op : Op) (rest : List ℕ) → bytes ≡ 1 ∷ (counted_bytes 2 key ++ behind) → IsKey key → ((value rest : List ℕ) → length value ≤ 32768 → behind ≢ counted_bytes 4 value ++ rest) → IsOp op
    → bytes ≢ op_bytes op ++ rest
no_op_value bytes key behind op rest is is_key none is_op = λ same.
    let parts = the_key 1 key behind op rest is_key is_op.0 (sym is ∙ same) in no_value op.change behind rest parts.0 is_op.1 parts.2 none

pub ops-push : (ops : List Op) (op : Op) → ops_bytes (ops ++ op ∷ []) ≡ ops_bytes ops ++ op_bytes op
ops-push [] op = append-nil (op_bytes op)
ops-push (first ∷ ops) op = ap (λ l. op_bytes first ++ l) (ops-push ops op) ∙ sym (append_assoc (op_bytes first) (ops_bytes ops) (op_bytes op))

pub are_ops-push : (ops : List Op) (op : Op) → AreOps ops → IsOp op → AreOps (ops ++ op ∷ [])
are_ops-push [] op are is = (is, tt)
are_ops-push (first ∷ ops) op are is = (are.0, are_ops-push ops op are.1 is)

-- operations whose bytes are what is left, so many
pub record Leaves (left : ℕ) (rest : List ℕ) : Type 0 where
  pub ops : List Op
  pub each : AreOps ops
  pub counted : length ops ≡ left
  pub spelled : rest ≡ ops_bytes ops

less : (ops : List Op) (left : ℕ) (rest : List ℕ) (op : Op) (behind : List ℕ) → AreOps ops → length ops ≡ left → rest ≡ ops_bytes ops → 0 < left → rest ≡ op_bytes op ++ behind → IsOp op → Leaves (left - 1) behind
less [] left rest op behind are counts is some found is_op = absurd (omega (arith, counts))
less (first ∷ ops) left rest op behind are counts is some found is_op =
    let same = one_op op first behind (ops_bytes ops) is_op are.0 (sym found ∙ is) in
    record { ops = ops; each = are.1; counted = omega (arith, counts); spelled = same.1 }

-- one operation less of what is left
pub leaves_less : (left : ℕ) (rest : List ℕ) (op : Op) (behind : List ℕ) → Leaves left rest → 0 < left → rest ≡ op_bytes op ++ behind → IsOp op → Leaves (left - 1) behind
leaves_less left rest op behind leaves some found is_op = less leaves.ops left rest op behind leaves.each leaves.counted leaves.spelled some found is_op

none_left : (ops : List Op) (left : ℕ) (rest : List ℕ) → AreOps ops → length ops ≡ left → rest ≡ ops_bytes ops → 0 < left → ((op : Op) (more : List ℕ) → IsOp op → rest ≢ op_bytes op ++ more) → ⊥
none_left [] left rest are counts is some none = omega (arith, counts)
none_left (first ∷ ops) left rest are counts is some none = none first (ops_bytes ops) are.0 is

-- what is left is no operation
pub leaves_none : (left : ℕ) (rest : List ℕ) → Leaves left rest → 0 < left → ((op : Op) (more : List ℕ) → IsOp op → rest ≢ op_bytes op ++ more) → ⊥
leaves_none left rest leaves some none = none_left leaves.ops left rest leaves.each leaves.counted leaves.spelled some none

pub so_far_op : (ops : List Op) (op : Op) (rest behind bytes : List ℕ) → ops_bytes ops ++ rest ≡ bytes → rest ≡ op_bytes op ++ behind → ops_bytes (ops ++ op ∷ []) ++ behind ≡ bytes
so_far_op ops op rest behind bytes so_far found =
    ap (λ l. l ++ behind) (ops-push ops op) ∙ append_assoc (ops_bytes ops) (op_bytes op) behind ∙ ap (λ l. ops_bytes ops ++ l) (sym found) ∙ so_far

same_ops : (a b : List Op) → AreOps a → AreOps b → length a ≡ length b → ops_bytes a ≡ ops_bytes b → a ≡ b
same_ops [] [] are_a are_b counts same = refl
same_ops [] (y ∷ b) are_a are_b counts same = absurd (omega (arith, counts))
same_ops (x ∷ a) [] are_a are_b counts same = absurd (omega (arith, counts))
same_ops (x ∷ a) (y ∷ b) are_a are_b counts same =
    let parts = one_op x y (ops_bytes a) (ops_bytes b) are_a.0 are_b.0 same in
    let rest = same_ops a b are_a.1 are_b.1 (omega (arith, counts)) parts.1 in λ i. parts.0 i ∷ rest i

-- a batch's bytes tell it
pub one_batch : (first second : ℕ) (a b : List Op) → IsBatch first a → IsBatch second b → batch_bytes first a ≡ batch_bytes second b → (first ≡ second) × (a ≡ b)
one_batch first second a b is_a is_b same =
    let front : (n : ℕ) (ops : List Op) → batch_bytes n ops ≡ big_bytes 8 n ++ (big_bytes 2 (length ops) ++ ops_bytes ops) = λ n ops. append_assoc (big_bytes 8 n) (big_bytes 2 (length ops)) (ops_bytes ops) in
    let whole = sym (front first a) ∙ same ∙ front second b in
    let number : first ≡ second = sym (big_number-reads_back 8 first (big_bytes 2 (length a) ++ ops_bytes a) (omega (arith, is_a.numbers.within))) ∙ ap (big_number 8) whole
    ∙ big_number-reads_back 8 second (big_bytes 2 (length b) ++ ops_bytes b) (omega (arith, is_b.numbers.within)) in
    let behind : big_bytes 2 (length a) ++ ops_bytes a ≡ big_bytes 2 (length b) ++ ops_bytes b = ap (drop 8) whole in
    let counts : length a ≡ length b = sym (big_number-reads_back 2 (length a) (ops_bytes a) (omega (arith, is_a.numbers.few))) ∙ ap (big_number 2) behind
    ∙ big_number-reads_back 2 (length b) (ops_bytes b) (omega (arith, is_b.numbers.few)) in
    (number, same_ops a b is_a.each is_b.each counts (ap (drop 2) behind))
