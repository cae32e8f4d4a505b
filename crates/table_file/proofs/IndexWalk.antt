-- A walk over the items of an index.
use Rattle.std.proofs.Common.{◌≡◌, ◌≢◌, ℕ, zero, suc, ◌+◌, ◌<◌, ◌≤◌, ◌^◌, List, [], ◌∷◌, ◌++◌, length, take, drop, get_or, refl, sym, ap, ◌∙◌, subst, arith, append_assoc, length-append, take-append-drop, length-drop}
use Rattle.std.specs.List.{flat_map}
use Rattle.std.proofs.lemmas.List.{append-nil, take_at, drop_at, get_or-drop, length-take-le}
use Rattle.std.proofs.lemmas.Nat.{be_bytes_2, be_bytes_4, be_bytes_8}
use Rattle.byteorder.specs.Endian.{big_bytes, big_number}
use Rattle.byteorder.specs.Numbers.{big_number-reads_back}
use Rattle.peb_base.specs.Keys.{Bytes}
use Rattle.table_file.specs.Form.{item_bytes, index_bytes}
use Rattle.table_file.specs.Opening.{IsItem, AreItems}
use Rattle.table_file.specs.declared.index_item.IndexItem.{IndexItem}
use Rattle.table_file.proofs.Indexing.{length-item}

abbrev pub Fit : List ℕ → Type 0
Fit bytes = (i : ℕ) → get_or bytes i 0 < 256

fit_take : (n : ℕ) (bytes : List ℕ) → Fit bytes → Fit (take n bytes)
fit_take zero bytes fit i = omega arith
fit_take (suc n) [] fit i = omega arith
fit_take (suc n) (b ∷ bytes) fit zero = fit 0
fit_take (suc n) (b ∷ bytes) fit (suc i) = fit_take n bytes (λ j. fit (suc j)) i

pub fit_drop : (n : ℕ) (bytes : List ℕ) → Fit bytes → Fit (drop n bytes)
fit_drop n bytes fit i = rw (get_or-drop n bytes i 0) (fit (n + i))

again_2 : (bytes : List ℕ) → 2 ≤ length bytes → Fit bytes → big_bytes 2 (big_number 2 bytes) ≡ take 2 bytes
again_2 (a ∷ b ∷ more) long fit = be_bytes_2 (a ∷ b ∷ []) (big_number 2 (a ∷ b ∷ more)) refl (fit_take 2 (a ∷ b ∷ more) fit) (omega arith)
again_2 [] long fit = absurd (omega arith)
again_2 (a ∷ []) long fit = absurd (omega arith)

again_4 : (bytes : List ℕ) → 4 ≤ length bytes → Fit bytes → big_bytes 4 (big_number 4 bytes) ≡ take 4 bytes
again_4 (a ∷ b ∷ c ∷ d ∷ more) long fit = be_bytes_4 (a ∷ b ∷ c ∷ d ∷ []) (big_number 4 (a ∷ b ∷ c ∷ d ∷ more)) refl (fit_take 4 (a ∷ b ∷ c ∷ d ∷ more) fit) (omega arith)
again_4 bytes long fit = absurd (omega arith)

again_8 : (bytes : List ℕ) → 8 ≤ length bytes → Fit bytes → big_bytes 8 (big_number 8 bytes) ≡ take 8 bytes
again_8 (a ∷ b ∷ c ∷ d ∷ e ∷ f ∷ g ∷ h ∷ more) long fit =
    be_bytes_8 (a ∷ b ∷ c ∷ d ∷ e ∷ f ∷ g ∷ h ∷ []) (big_number 8 (a ∷ b ∷ c ∷ d ∷ e ∷ f ∷ g ∷ h ∷ more)) refl (fit_take 8 (a ∷ b ∷ c ∷ d ∷ e ∷ f ∷ g ∷ h ∷ more) fit) (omega arith)
again_8 bytes long fit = absurd (omega arith)

joined : (bytes : List ℕ) → 14 ≤ length bytes → take 8 bytes ++ (take 4 (drop 8 bytes) ++ take 2 (drop 12 bytes)) ≡ take 14 bytes
joined (b0 ∷ b1 ∷ b2 ∷ b3 ∷ b4 ∷ b5 ∷ b6 ∷ b7 ∷ b8 ∷ b9 ∷ b10 ∷ b11 ∷ b12 ∷ b13 ∷ more) long = refl
joined bytes long = absurd (omega arith)

-- an item in front of others, part by part
item_apart : (item : IndexItem) (rest : List ℕ) → item_bytes item ++ rest ≡ big_bytes 8 item.place ++ (big_bytes 4 item.len ++ (big_bytes 2 (length item.key) ++ (item.key ++ (big_bytes 8 item.number ++ rest))))
unfolding item_bytes
item_apart item rest = simp append_assoc

-- the item that stands at the front
pub item_found : (bytes key behind : List ℕ) (place len key_len number : ℕ) → 14 ≤ length bytes → Fit bytes → place ≡ big_number 8 bytes → len ≡ big_number 4 (drop 8 bytes) → key_len ≡ big_number 2 (drop 12 bytes) → key_len + 8 ≤ length (drop 14 bytes)
    → key ≡ take key_len (drop 14 bytes) → number ≡ big_number 8 (drop key_len (drop 14 bytes)) → behind ≡ drop 8 (drop key_len (drop 14 bytes))
    → bytes ≡ item_bytes (record { place = place; len = len; key = key; number = number }) ++ behind
unfolding item_bytes
item_found bytes key behind place len key_len number long fit is_place is_len is_key_len within is_key is_number is_behind =
    let tail = drop 14 bytes in
    let rest = drop key_len tail in
    let counted : length key ≡ key_len = ap length is_key ∙ length-take-le key_len tail (omega (arith, within)) in
    let p8 : big_bytes 8 place ≡ take 8 bytes = ap (big_bytes 8) is_place ∙ again_8 bytes (omega (arith, long)) fit in
    let p4 : big_bytes 4 len ≡ take 4 (drop 8 bytes) = ap (big_bytes 4) is_len ∙ again_4 (drop 8 bytes) (omega (arith, long, length-drop 8 bytes)) (fit_drop 8 bytes fit) in
    let p2 : big_bytes 2 (length key) ≡ take 2 (drop 12 bytes) = ap (big_bytes 2) (counted ∙ is_key_len) ∙ again_2 (drop 12 bytes) (omega (arith, long, length-drop 12 bytes)) (fit_drop 12 bytes fit) in
    let n8 : big_bytes 8 number ≡ take 8 rest = ap (big_bytes 8) is_number ∙ again_8 rest (omega (arith, within, length-drop key_len tail)) (fit_drop key_len tail (fit_drop 14 bytes fit)) in
    let back : key ++ (big_bytes 8 number ++ behind) ≡ tail =
    (λ i. is_key i ++ (n8 i ++ is_behind i)) ∙ ap (λ l. take key_len tail ++ l) (take-append-drop 8 rest) ∙ take-append-drop key_len tail in
    let front : big_bytes 8 place ++ (big_bytes 4 len ++ big_bytes 2 (length key)) ≡ take 14 bytes = (λ i. p8 i ++ (p4 i ++ p2 i)) ∙ joined bytes long in
    sym (take-append-drop 14 bytes) ∙ (λ i. sym front i ++ sym back i) ∙ simp append_assoc

-- an item begins no other
pub one_item : (a b : IndexItem) (x y : List ℕ) → a.place < 2 ^ 64 → b.place < 2 ^ 64 → a.len < 2 ^ 32 → b.len < 2 ^ 32 → length a.key < 2 ^ 16 → length b.key < 2 ^ 16 → a.number < 2 ^ 64 → b.number < 2 ^ 64
    → item_bytes a ++ x ≡ item_bytes b ++ y → (a ≡ b) × (x ≡ y)
one_item a b x y pa pb la lb ka kb na nb same =
    let whole = sym (item_apart a x) ∙ same ∙ item_apart b y in
    let behind = λ (i : IndexItem) (z : List ℕ). i.key ++ (big_bytes 8 i.number ++ z) in
    let after_len = λ (i : IndexItem) (z : List ℕ). big_bytes 2 (length i.key) ++ behind i z in
    let after_place = λ (i : IndexItem) (z : List ℕ). big_bytes 4 i.len ++ after_len i z in
    let place : a.place ≡ b.place = sym (big_number-reads_back 8 a.place (after_place a x) (omega arith)) ∙ ap (big_number 8) whole ∙ big_number-reads_back 8 b.place (after_place b y) (omega arith) in
    let len : a.len ≡ b.len = sym (big_number-reads_back 4 a.len (after_len a x) (omega arith)) ∙ ap (λ l. big_number 4 (drop 8 l)) whole ∙ big_number-reads_back 4 b.len (after_len b y) (omega arith) in
    let lens : length a.key ≡ length b.key = sym (big_number-reads_back 2 (length a.key) (behind a x) (omega arith)) ∙ ap (λ l. big_number 2 (drop 12 l)) whole ∙ big_number-reads_back 2 (length b.key) (behind b y) (omega arith) in
    let tails : behind a x ≡ behind b y = ap (drop 14) whole in
    let key : a.key ≡ b.key = sym (take_at a.key (big_bytes 8 a.number ++ x) (length a.key) refl) ∙ ap (take (length a.key)) tails ∙ take_at b.key (big_bytes 8 b.number ++ y) (length a.key) (sym lens) in
    let ends : big_bytes 8 a.number ++ x ≡ big_bytes 8 b.number ++ y = sym (drop_at a.key (big_bytes 8 a.number ++ x) (length a.key) refl) ∙ ap (drop (length a.key)) tails ∙ drop_at b.key (big_bytes 8 b.number ++ y) (length a.key) (sym lens) in
    let number : a.number ≡ b.number = sym (big_number-reads_back 8 a.number x (omega arith)) ∙ ap (big_number 8) ends ∙ big_number-reads_back 8 b.number y (omega arith) in
    (λ i. record { place = place i; len = len i; key = key i; number = number i }, ap (drop 8) ends)

pub none_short : (bytes : List ℕ) (item : IndexItem) (rest : List ℕ) → length bytes < 22 → bytes ≢ item_bytes item ++ rest
none_short bytes item rest short = λ is. omega (arith, short, ap length is, length-append (item_bytes item) rest, length-item item)

pub none_past : (bytes : List ℕ) (item : IndexItem) (rest : List ℕ) (key_len : ℕ) → length item.key < 2 ^ 16 → key_len ≡ big_number 2 (drop 12 bytes) → length (drop 14 bytes) < key_len + 8 → bytes ≢ item_bytes item ++ rest
none_past bytes item rest key_len small is_len past = λ is.
    let whole = is ∙ item_apart item rest in
    let behind = item.key ++ (big_bytes 8 item.number ++ rest) in
    let same : key_len ≡ length item.key = is_len ∙ ap (λ l. big_number 2 (drop 12 l)) whole ∙ big_number-reads_back 2 (length item.key) behind (omega (arith, small)) in
    let tails : drop 14 bytes ≡ behind = ap (drop 14) whole in
    omega (arith, past, same, ap length tails, length-append item.key (big_bytes 8 item.number ++ rest), length-append (big_bytes 8 item.number) rest)

-- the walk so far: what is left makes a whole, and a whole leaves something
pub record Walk (place : ℕ) (before : Bytes) (above end : ℕ) (items : List IndexItem) (rest body : List ℕ) : Type 0 where
  pub up : (more : List IndexItem) → AreItems place before above end more → rest ≡ flat_map item_bytes more → AreItems 0 [] 0 end (items ++ more) × (body ≡ flat_map item_bytes (items ++ more))
  pub down : (all : List IndexItem) → AreItems 0 [] 0 end all → body ≡ flat_map item_bytes all → (more : List IndexItem) × AreItems place before above end more × (rest ≡ flat_map item_bytes more) × (length all ≡ length items + length more)
  pub within : place ≤ end

pub walk_start : (end : ℕ) (body : List ℕ) → Walk 0 [] 0 end [] body body
walk_start end body = record { up = λ more are is. (are, is); down = λ all are is. (all, are, is, omega arith); within = omega arith }

are_bound : (place : ℕ) (before : Bytes) (above end : ℕ) (items : List IndexItem) → AreItems place before above end items → place ≤ end
are_bound place before above end [] are = omega (arith, are)
are_bound place before above end (item ∷ items) are = omega (arith, are_bound (place + item.len) item.key item.number end items are.1)

-- an item of an index fits its fields
pub record Fields (item : IndexItem) : Type 0 where
  pub place : item.place < 2 ^ 64
  pub len : item.len < 2 ^ 32
  pub key : length item.key < 2 ^ 16
  pub number : item.number < 2 ^ 64

fields_fit : (place : ℕ) (before : Bytes) (above end : ℕ) (item : IndexItem) → end < 2 ^ 64 → place ≤ end → IsItem place before above item → Fields item
fields_fit place before above end item small within is =
    record { place = omega (arith, is.place_is, small, within); len = omega (arith, is.len); key = omega (arith, is.short); number = omega (arith, is.number) }

-- what stands at the front of the bytes of some items
pub front : (place : ℕ) (before : Bytes) (above end : ℕ) (more : List IndexItem) (rest : List ℕ) (found : IndexItem) (behind : List ℕ) → end < 2 ^ 64 → Fields found → rest ≡ item_bytes found ++ behind
    → AreItems place before above end more → rest ≡ flat_map item_bytes more
    → (later : List IndexItem) × IsItem place before above found × AreItems (place + found.len) found.key found.number end later × (behind ≡ flat_map item_bytes later) × (more ≡ found ∷ later)
front place before above end [] rest found behind small fits spelled are is = absurd (omega (arith, ap length (sym spelled ∙ is), length-append (item_bytes found) behind, length-item found))
front place before above end (item ∷ later) rest found behind small fits spelled are is =
    let bound : place ≤ end = are_bound place before above end (item ∷ later) are in
    let own = fields_fit place before above end item small bound are.0 in
    let one = one_item item found (flat_map item_bytes later) behind own.place fits.place own.len fits.len own.key fits.key own.number fits.number (sym is ∙ spelled) in
    (later, subst (IsItem place before above) one.0 are.0, subst (λ (i : IndexItem). AreItems (place + i.len) i.key i.number end later) one.0 are.1, sym one.1, λ i. one.0 i ∷ later)

pub walk_on : (place next : ℕ) (before key : Bytes) (above number end : ℕ) (items : List IndexItem) (rest behind body : List ℕ) (found : IndexItem) → end < 2 ^ 64 → Walk place before above end items rest body
    → IsItem place before above found → rest ≡ item_bytes found ++ behind → key ≡ found.key → number ≡ found.number → next ≡ place + found.len → next ≤ end → Walk next key number end (items ++ found ∷ []) behind body
walk_on place next before key above number end items rest behind body found small walk is spelled is_key is_number is_next within =
    let move : (k : Bytes) (n m : ℕ) → k ≡ found.key → n ≡ found.number → m ≡ place + found.len → Walk (place + found.len) found.key found.number end (items ++ found ∷ []) behind body → Walk m k n end (items ++ found ∷ []) behind body =
    λ k n m a b c. subst (λ (t : Bytes × ℕ × ℕ). Walk t.2 t.0 t.1 end (items ++ found ∷ []) behind body) (λ i. (sym a i, sym b i, sym c i)) in
    let fits = fields_fit place before above end found small walk.within is in
    move key number next is_key is_number is_next
    (record {
      up = λ more are more_is.
          let whole : (items ++ found ∷ []) ++ more ≡ items ++ found ∷ more = append_assoc items (found ∷ []) more in
          let all = walk.up (found ∷ more) (is, are) (spelled ∙ ap (λ l. item_bytes found ++ l) more_is) in
          (subst (AreItems 0 [] 0 end) (sym whole) all.0, all.1 ∙ ap (flat_map item_bytes) (sym whole));
      down = λ all are all_is.
          let w = walk.down all are all_is in
          let f = front place before above end w.0 rest found behind small fits spelled w.1 w.2 in
          (f.0, f.2, f.3, omega (arith, w.3, ap length f.4, length-append items (found ∷ [])));
      within = omega (arith, within, is_next);
    })

-- a walk that can't go on
pub none_on : (place : ℕ) (before : Bytes) (above end : ℕ) (items : List IndexItem) (rest body : List ℕ) → Walk place before above end items rest body → 0 < length rest
    → ((item : IndexItem) (more : List ℕ) → length item.key < 2 ^ 16 → rest ≢ item_bytes item ++ more) → (all : List IndexItem) → AreItems 0 [] 0 end all → body ≡ flat_map item_bytes all → ⊥
none_on place before above end items rest body walk some none all are is = let w = walk.down all are is in by w.0 w.1 w.2
  where
    by : (more : List IndexItem) → AreItems place before above end more → rest ≡ flat_map item_bytes more → ⊥
    by [] are is = omega (arith, some, ap length is)
    by (item ∷ more) are is = none item (flat_map item_bytes more) (omega (arith, are.0.short)) is

pub not_on : (place : ℕ) (before : Bytes) (above end : ℕ) (items : List IndexItem) (rest behind body : List ℕ) (found : IndexItem) → end < 2 ^ 64 → Fields found → Walk place before above end items rest body → rest ≡ item_bytes found ++ behind
    → (IsItem place before above found → place + found.len ≤ end → ⊥) → (all : List IndexItem) → AreItems 0 [] 0 end all → body ≡ flat_map item_bytes all → ⊥
not_on place before above end items rest behind body found small fits walk spelled none all are is =
    let w = walk.down all are is in
    let f = front place before above end w.0 rest found behind small fits spelled w.1 w.2 in
    none f.1 (are_bound (place + found.len) found.key found.number end f.0 f.2)

-- the end of a walk
pub walk_end : (place : ℕ) (before : Bytes) (above end : ℕ) (items : List IndexItem) (rest body : List ℕ) → Walk place before above end items rest body → length rest ≡ 0 → (all : List IndexItem) → AreItems 0 [] 0 end all → body ≡ flat_map item_bytes all
    → (place ≡ end) × (length all ≡ length items)
walk_end place before above end items rest body walk none all are is = let w = walk.down all are is in by w.0 w.1 w.2 w.3
  where
    by : (more : List IndexItem) → AreItems place before above end more → rest ≡ flat_map item_bytes more → length all ≡ length items + length more → (place ≡ end) × (length all ≡ length items)
    by [] are is count = (are, omega (arith, count))
    by (item ∷ more) are is count = absurd (omega (arith, none, ap length is, length-append (item_bytes item) (flat_map item_bytes more), length-item item))

no_bytes : (rest : List ℕ) → length rest ≡ 0 → rest ≡ []
no_bytes [] none = refl
no_bytes (b ∷ rest) none = absurd (omega (arith, none))

pub walk_whole : (place : ℕ) (before : Bytes) (above end : ℕ) (items : List IndexItem) (rest body : List ℕ) → Walk place before above end items rest body → length rest ≡ 0 → place ≡ end → AreItems 0 [] 0 end items × (body ≡ flat_map item_bytes items)
walk_whole place before above end items rest body walk none at =
    let all = walk.up [] at (no_bytes rest none) in
    (subst (AreItems 0 [] 0 end) (append-nil items) all.0, all.1 ∙ ap (flat_map item_bytes) (append-nil items))

-- what an index's bytes say of its items
pub index_parts : (bytes : List ℕ) (items : List IndexItem) → length bytes ≤ 2147483648 → bytes ≡ index_bytes items → (big_number 4 bytes ≡ length items) × (drop 4 bytes ≡ flat_map item_bytes items)
index_parts bytes items short is =
    let many : length items ≤ length (flat_map item_bytes items) = few items in
    (ap (big_number 4) is ∙ big_number-reads_back 4 (length items) (flat_map item_bytes items) (omega (arith, many, short, ap length is)), ap (drop 4) is)
  where
    few : (items : List IndexItem) → length items ≤ length (flat_map item_bytes items)
    few [] = omega arith
    few (item ∷ items) = omega (arith, few items, length-append (item_bytes item) (flat_map item_bytes items), length-item item)

pub index_again : (bytes : List ℕ) (items : List IndexItem) → 4 ≤ length bytes → Fit bytes → big_number 4 bytes ≡ length items → drop 4 bytes ≡ flat_map item_bytes items → bytes ≡ index_bytes items
index_again bytes items long fit count is =
    sym (take-append-drop 4 bytes) ∙ (λ i. (sym (again_4 bytes long fit) ∙ ap (big_bytes 4) count) i ++ is i)

-- bytes are those of one list of items at most
pub one_items : (place : ℕ) (before : Bytes) (above end : ℕ) (a b : List IndexItem) → end < 2 ^ 64 → AreItems place before above end a → AreItems place before above end b → flat_map item_bytes a ≡ flat_map item_bytes b → a ≡ b
one_items place before above end [] [] small are_a are_b same = refl
one_items place before above end [] (j ∷ b) small are_a are_b same = absurd (omega (arith, ap length same, length-append (item_bytes j) (flat_map item_bytes b), length-item j))
one_items place before above end (i ∷ a) b small are_a are_b same =
    let bound : place ≤ end = are_bound place before above end (i ∷ a) are_a in
    let f = front place before above end b (flat_map item_bytes (i ∷ a)) i (flat_map item_bytes a) small (fields_fit place before above end i small bound are_a.0) refl are_b same in
    ap (λ l. i ∷ l) (one_items (place + i.len) i.key i.number end a f.0 small are_a.1 f.2 f.3) ∙ sym f.4
