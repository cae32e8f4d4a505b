-- Reading and spelling the parts of an entry.
use Rattle.std.proofs.Common.{◌≡◌, ◌≢◌, ℕ, zero, suc, ◌+◌, ◌<◌, ◌≤◌, List, [], ◌∷◌, ◌++◌, length, take, drop, get_or, refl, sym, ap, ◌∙◌, subst, arith, append_assoc, length-append, take-append-drop, length-drop}
use Rattle.std.proofs.lemmas.Nat.{be_bytes_2, be_bytes_4, be_bytes_8}
use Rattle.std.proofs.lemmas.List.{get_or-drop, take_at, drop_at}
use Rattle.byteorder.specs.Endian.{big_bytes, big_number}
use Rattle.byteorder.specs.Numbers.{big_number-reads_back}
use Rattle.peb_base.specs.declared.change.Change.{Change}
use Rattle.peb_base.specs.declared.change.Change.TheVariants.{Put, Delete}
use Rattle.peb_base.specs.Entries.{value_of}
use Rattle.block_form.specs.declared.head.Head.{Head}
use Rattle.block_form.specs.Parts.{head_bytes, head_from, FitsHead, Parts, parts_bytes, parts_from, parts_under, behind_under, behind_from, FitsParts, head_of_parts, code_of, change_from}

abbrev pub Fit : List ℕ → Type 0
Fit bytes = (i : ℕ) → get_or bytes i 0 < 256

pub fit_take : (n : ℕ) (bytes : List ℕ) → Fit bytes → Fit (take n bytes)
fit_take zero bytes fit i = omega arith
fit_take (suc n) [] fit i = omega arith
fit_take (suc n) (b ∷ bytes) fit zero = fit 0
fit_take (suc n) (b ∷ bytes) fit (suc i) = fit_take n bytes (λ j. fit (suc j)) i

pub fit_drop : (n : ℕ) (bytes : List ℕ) → Fit bytes → Fit (drop n bytes)
fit_drop n bytes fit i = rw (get_or-drop n bytes i 0) (fit (n + i))

again_2 : (bytes : List ℕ) → 2 ≤ length bytes → Fit bytes → big_bytes 2 (big_number 2 bytes) ≡ take 2 bytes
again_2 (a ∷ b ∷ more) long fit = be_bytes_2 (a ∷ b ∷ []) (big_number 2 (a ∷ b ∷ more)) refl (fit_take 2 (a ∷ b ∷ more) fit) (omega arith)
again_2 [] long fit = absurd (omega arith)
again_2 (a ∷ []) long fit = absurd (omega arith)

pub again_4 : (bytes : List ℕ) → 4 ≤ length bytes → Fit bytes → big_bytes 4 (big_number 4 bytes) ≡ take 4 bytes
again_4 (a ∷ b ∷ c ∷ d ∷ more) long fit = be_bytes_4 (a ∷ b ∷ c ∷ d ∷ []) (big_number 4 (a ∷ b ∷ c ∷ d ∷ more)) refl (fit_take 4 (a ∷ b ∷ c ∷ d ∷ more) fit) (omega arith)
again_4 bytes long fit = absurd (omega arith)

again_8 : (bytes : List ℕ) → 8 ≤ length bytes → Fit bytes → big_bytes 8 (big_number 8 bytes) ≡ take 8 bytes
again_8 (a ∷ b ∷ c ∷ d ∷ e ∷ f ∷ g ∷ h ∷ more) long fit =
    be_bytes_8 (a ∷ b ∷ c ∷ d ∷ e ∷ f ∷ g ∷ h ∷ []) (big_number 8 (a ∷ b ∷ c ∷ d ∷ e ∷ f ∷ g ∷ h ∷ more)) refl (fit_take 8 (a ∷ b ∷ c ∷ d ∷ e ∷ f ∷ g ∷ h ∷ more) fit) (omega arith)
again_8 bytes long fit = absurd (omega arith)

joined : (bytes : List ℕ) → 17 ≤ length bytes
    → take 2 bytes ++ (take 2 (drop 2 bytes) ++ (take 8 (drop 4 bytes) ++ (get_or bytes 12 0 ∷ take 4 (drop 13 bytes)))) ≡ take 17 bytes
joined (b0 ∷ b1 ∷ b2 ∷ b3 ∷ b4 ∷ b5 ∷ b6 ∷ b7 ∷ b8 ∷ b9 ∷ b10 ∷ b11 ∷ b12 ∷ b13 ∷ b14 ∷ b15 ∷ b16 ∷ more) long = refl
joined bytes long = absurd (omega arith)

-- seventeen bytes are the head that they read as
pub head_again : (bytes : List ℕ) → 17 ≤ length bytes → Fit bytes → head_bytes (head_from bytes) ≡ take 17 bytes
unfolding head_bytes head_from
head_again bytes long fit =
    let first = again_2 bytes (omega arith) fit in
    let second = again_2 (drop 2 bytes) (omega (arith, length-drop 2 bytes)) (fit_drop 2 bytes fit) in
    let third = again_8 (drop 4 bytes) (omega (arith, length-drop 4 bytes)) (fit_drop 4 bytes fit) in
    let fourth = again_4 (drop 13 bytes) (omega (arith, length-drop 13 bytes)) (fit_drop 13 bytes fit) in
    (λ i. first i ++ (second i ++ (third i ++ (get_or bytes 12 0 ∷ fourth i)))) ∙ joined bytes long

pub length-head : (h : Head) → length (head_bytes h) ≡ 17
unfolding head_bytes
length-head h = refl

-- a head is read back, whatever follows
pub head_read : (h : Head) (more : List ℕ) → FitsHead h → head_from (head_bytes h ++ more) ≡ h
unfolding head_bytes head_from
head_read h more fits =
    let shared : big_number 2 (big_bytes 2 h.shared ++ (big_bytes 2 h.rest ++ (big_bytes 8 h.number ++ (h.code ∷ (big_bytes 4 h.value ++ more))))) ≡ h.shared =
    big_number-reads_back 2 h.shared (big_bytes 2 h.rest ++ (big_bytes 8 h.number ++ (h.code ∷ (big_bytes 4 h.value ++ more)))) fits.shared in
    let rest : big_number 2 (big_bytes 2 h.rest ++ (big_bytes 8 h.number ++ (h.code ∷ (big_bytes 4 h.value ++ more)))) ≡ h.rest =
    big_number-reads_back 2 h.rest (big_bytes 8 h.number ++ (h.code ∷ (big_bytes 4 h.value ++ more))) fits.rest in
    let number : big_number 8 (big_bytes 8 h.number ++ (h.code ∷ (big_bytes 4 h.value ++ more))) ≡ h.number =
    big_number-reads_back 8 h.number (h.code ∷ (big_bytes 4 h.value ++ more)) fits.number in
    let value : big_number 4 (big_bytes 4 h.value ++ more) ≡ h.value = big_number-reads_back 4 h.value more fits.value in
    λ i. record { shared = shared i; rest = rest i; number = number i; code = h.code; value = value i }

-- the parts that were read stand there
pub parts_found : (bytes rest value behind : List ℕ) (h : Head) (change : Change) → 17 ≤ length bytes → Fit bytes → h ≡ head_from bytes
    → drop 17 bytes ≡ rest ++ (value ++ behind) → length rest ≡ h.rest → length value ≡ h.value → code_of change ≡ h.code → value_of change ≡ value
    → bytes ≡ parts_bytes (record { shared = h.shared; rest = rest; number = h.number; change = change }) ++ behind
unfolding parts_bytes
parts_found bytes rest value behind h change long fit read body rests values code is =
    let p : Parts = record { shared = h.shared; rest = rest; number = h.number; change = change } in
    let same : ◌≡◌ {A = Head} (head_of_parts p) h = λ i. record { shared = h.shared; rest = rests i; number = h.number; code = code i; value = (ap length is ∙ values) i } in
    let front : head_bytes (head_of_parts p) ≡ take 17 bytes = ap head_bytes (same ∙ read) ∙ head_again bytes long fit in
    sym (take-append-drop 17 bytes)
    ∙ (λ i. sym front i ++ body i)
    ∙ (λ i. head_bytes (head_of_parts p) ++ (rest ++ (sym is i ++ behind)))
    ∙ ap (λ l. head_bytes (head_of_parts p) ++ l) (sym (append_assoc rest (value_of change) behind))
    ∙ sym (append_assoc (head_bytes (head_of_parts p)) (rest ++ value_of change) behind)

pub parts_small : (p : Parts) → FitsParts p → FitsHead (head_of_parts p)
parts_small p fits = record { shared = fits.shared; rest = fits.rest; number = fits.number; value = fits.value }

regroup : (p : Parts) (behind : List ℕ) → parts_bytes p ++ behind ≡ head_bytes (head_of_parts p) ++ (p.rest ++ (value_of p.change ++ behind))
unfolding parts_bytes
regroup p behind =
    append_assoc (head_bytes (head_of_parts p)) (p.rest ++ value_of p.change) behind
    ∙ ap (λ l. head_bytes (head_of_parts p) ++ l) (append_assoc p.rest (value_of p.change) behind)

-- what bytes read as that begin with parts
pub read_head : (bytes : List ℕ) (p : Parts) (behind : List ℕ) → FitsParts p → bytes ≡ parts_bytes p ++ behind → head_from bytes ≡ head_of_parts p
read_head bytes p behind fits is =
    ap head_from (is ∙ regroup p behind) ∙ head_read (head_of_parts p) (p.rest ++ (value_of p.change ++ behind)) (parts_small p fits)

pub read_body : (bytes : List ℕ) (p : Parts) (behind : List ℕ) → bytes ≡ parts_bytes p ++ behind → drop 17 bytes ≡ p.rest ++ (value_of p.change ++ behind)
read_body bytes p behind is =
    ap (drop 17) (is ∙ regroup p behind) ∙ drop_at (head_bytes (head_of_parts p)) (p.rest ++ (value_of p.change ++ behind)) 17 (length-head (head_of_parts p))

pub length-parts : (p : Parts) → length (parts_bytes p) ≡ 17 + (length p.rest + length (value_of p.change))
unfolding parts_bytes
length-parts p =
    length-append (head_bytes (head_of_parts p)) (p.rest ++ value_of p.change)
    ∙ (λ i. length-head (head_of_parts p) i + length-append p.rest (value_of p.change) i)

change_again : (change : Change) → change_from (code_of change) (value_of change) ≡ change
change_again (Put value) = refl
change_again Delete = refl

-- parts are read back, whatever follows
pub parts_again : (p : Parts) (behind : List ℕ) → FitsParts p → parts_from (parts_bytes p ++ behind) ≡ p
unfolding parts_from
parts_again p behind fits =
    let body = value_of p.change ++ behind in
    let rest : take (length p.rest) (p.rest ++ body) ≡ p.rest = take_at p.rest body (length p.rest) refl in
    let value : take (length (value_of p.change)) (drop (length p.rest) (p.rest ++ body)) ≡ value_of p.change =
    ap (take (length (value_of p.change))) (drop_at p.rest body (length p.rest) refl) ∙ take_at (value_of p.change) behind (length (value_of p.change)) refl in
    (λ i. parts_under (read_head (parts_bytes p ++ behind) p behind fits refl i) (read_body (parts_bytes p ++ behind) p behind refl i))
    ∙ (λ i. record { shared = p.shared; rest = rest i; number = p.number; change = change_from (code_of p.change) (value i) })
    ∙ (λ i. record { shared = p.shared; rest = p.rest; number = p.number; change = change_again p.change i })

pub behind_again : (p : Parts) (behind : List ℕ) → FitsParts p → behind_from (parts_bytes p ++ behind) ≡ behind
unfolding behind_from
behind_again p behind fits =
    let body = value_of p.change ++ behind in
    (λ i. behind_under (read_head (parts_bytes p ++ behind) p behind fits refl i) (read_body (parts_bytes p ++ behind) p behind refl i))
    ∙ ap (drop (length (value_of p.change))) (drop_at p.rest body (length p.rest) refl)
    ∙ drop_at (value_of p.change) behind (length (value_of p.change)) refl

-- no parts begin others
pub one_parts : (p q : Parts) (x y : List ℕ) → FitsParts p → FitsParts q → parts_bytes p ++ x ≡ parts_bytes q ++ y → (p ≡ q) × (x ≡ y)
one_parts p q x y fits_p fits_q same = (
  sym (parts_again p x fits_p) ∙ ap parts_from same ∙ parts_again q y fits_q,
  sym (behind_again p x fits_p) ∙ ap behind_from same ∙ behind_again q y fits_q,
)

pub none_short : (bytes : List ℕ) → length bytes < 17 → (p : Parts) (behind : List ℕ) → FitsParts p → bytes ≢ parts_bytes p ++ behind
none_short bytes short p behind fits = λ is. omega (arith, ap length is, length-append (parts_bytes p) behind, length-parts p)

pub none_past : (bytes : List ℕ) (h : Head) → h ≡ head_from bytes → length (drop 17 bytes) < h.rest + h.value
    → (p : Parts) (behind : List ℕ) → FitsParts p → bytes ≢ parts_bytes p ++ behind
none_past bytes h read short p behind fits = λ is.
    let e = read ∙ read_head bytes p behind fits is in
    let rests : h.rest ≡ length p.rest = ap (λ (g : Head). g.rest) e in
    let values : h.value ≡ length (value_of p.change) = ap (λ (g : Head). g.value) e in
    omega (arith, ap length (read_body bytes p behind is), length-append p.rest (value_of p.change ++ behind), length-append (value_of p.change) behind)

pub none_change : (bytes rest value after : List ℕ) (h : Head) → h ≡ head_from bytes → drop 17 bytes ≡ rest ++ (value ++ after) → length rest ≡ h.rest → length value ≡ h.value
    → ((change : Change) → code_of change ≡ h.code → value_of change ≢ value)
    → (p : Parts) (behind : List ℕ) → FitsParts p → bytes ≢ parts_bytes p ++ behind
none_change bytes rest value after h read body rests values none p behind fits = λ is.
    let e = read ∙ read_head bytes p behind fits is in
    let code : code_of p.change ≡ h.code = sym (ap (λ (g : Head). g.code) e) in
    let one : length rest ≡ length p.rest = rests ∙ ap (λ (g : Head). g.rest) e in
    let two : length value ≡ length (value_of p.change) = values ∙ ap (λ (g : Head). g.value) e in
    let all : rest ++ (value ++ after) ≡ p.rest ++ (value_of p.change ++ behind) = sym body ∙ read_body bytes p behind is in
    let second : value ++ after ≡ value_of p.change ++ behind = sym (drop_at rest (value ++ after) (length rest) refl) ∙ ap (drop (length rest)) all ∙ drop_at p.rest (value_of p.change ++ behind) (length rest) (sym one) in
    let third : value_of p.change ≡ value = sym (take_at (value_of p.change) behind (length value) (sym two)) ∙ sym (ap (take (length value)) second) ∙ take_at value after (length value) refl in
    none p.change code third

pub body_split : (body rest more value behind : List ℕ) (n m : ℕ) → rest ≡ take n body → more ≡ drop n body → value ≡ take m more → behind ≡ drop m more
    → body ≡ rest ++ (value ++ behind)
body_split body rest more value behind n m a b c d =
    sym (take-append-drop n body) ∙ (λ i. sym a i ++ sym b i) ∙ ap (λ l. rest ++ l) (sym (take-append-drop m more)) ∙ (λ i. rest ++ (sym c i ++ sym d i))

pub fit_tail : (bytes body tail : List ℕ) (k : ℕ) → Fit bytes → body ≡ drop 1 bytes → tail ≡ drop k body → Fit tail
fit_tail bytes body tail k fit is back = subst Fit (sym (back ∙ ap (drop k) is)) (fit_drop k (drop 1 bytes) (fit_drop 1 bytes fit))
