-- One push after another.
use Rattle.std.proofs.Common.{◌≡◌, ℕ, ◌+◌, ◌-◌, ◌≤◌, List, [], ◌∷◌, ◌++◌, take, drop, Option, Some, None, Err, refl, sym, ap, ◌∙◌, subst, arith}
use Rattle.std.proofs.lemmas.List.{take-append-drop}
use Rattle.disk_model.specs.Tables.{capped}
use Rattle.peb_base.specs.Cursors.{next_place, entry_at}
use Rattle.peb_base.specs.Entries.{AreSorted}
use Rattle.peb_base.specs.declared.entry.Entry.{Entry}
use Rattle.table_file.specs.Limits.{push_fault, IsRefused}
use Rattle.table_file.specs.Taking.{closed_length, pushed_length, TakesAtMost}
use Rattle.table_file.specs.TakingLaws.{takes_less, takes_on}
use Rattle.table_file.specs.declared.put_fault.PutFault.{PutFault}
use Rattle.compactor.specs.Stopping.{fault_behind, table_fault, IsMet}
use Rattle.compactor.proofs.Lengths.{OpenGrows, closed_grows}
use Rattle.compactor.proofs.Places.{passed, passes, leaves, passed_sorted}
use Rattle.compactor.proofs.Stops.{goes_on, met, met_first}

-- the entries that were passed at a place
abbrev pub front_at : List Entry → Option ℕ → List Entry
front_at es place = take (passed es place) es

-- and those that weren't
abbrev pub rest_at : List Entry → Option ℕ → List Entry
rest_at es place = drop (passed es place) es

-- a push closes no bytes or some more
pub closed_on : OpenGrows → (full : ℕ) (es : List Entry) (e : Entry) → AreSorted (es ++ e ∷ [])
    → closed_length full es + pushed_length full es e ≡ closed_length full (es ++ e ∷ [])
closed_on grows full es e sorted = omega (arith, closed_grows grows full es (e ∷ []) sorted)

-- the entry that is shown, between those in front and those behind
parted : (es : List Entry) (place : Option ℕ) (e : Entry) → entry_at es place ≡ Some e
    → (front_at es place ++ e ∷ []) ++ rest_at es (next_place es place) ≡ es
parted es place e there =
    ap (λ l. l ++ rest_at es (next_place es place)) (sym (passes es place e there))
    ∙ take-append-drop (passed es (next_place es place)) es

-- what the maker took is that of all entries at most
closed_within_all : OpenGrows → (full : ℕ) (es : List Entry) (place : Option ℕ) (e : Entry)
    → AreSorted es → entry_at es place ≡ Some e
    → closed_length full (front_at es place ++ e ∷ []) ≤ closed_length full es
closed_within_all grows full es place e sorted there =
    subst (λ l. closed_length full (front_at es place ++ e ∷ []) ≤ closed_length full l)
    (parted es place e there)
    (closed_grows grows full (front_at es place ++ e ∷ []) (rest_at es (next_place es place))
    (subst AreSorted (sym (parted es place e there)) sorted))

-- a push that fails leaves at most the closed blocks of all
pub taken_stops : OpenGrows → (full : ℕ) (es whole : List Entry) (place : Option ℕ) (e : Entry)
    (before between now : ℕ) → es ≡ whole → AreSorted es → entry_at es place ≡ Some e
    → between ≡ capped (before + closed_length full (front_at es place))
    → TakesAtMost (pushed_length full (front_at es place) e) between now
    → TakesAtMost (closed_length full whole) before now
taken_stops grows full es whole place e before between now same sorted there taken takes =
    let front = front_at es place in
    let on = closed_on grows full front e (passed_sorted es place e sorted there) in
    let within = closed_within_all grows full es place e sorted there in
    subst (λ l. TakesAtMost (closed_length full l) before now) same
    (takes_less (closed_length full front + pushed_length full front e) (closed_length full es)
    before now (omega (arith, on, within))
    (takes_on (closed_length full front) (pushed_length full front e) before between now taken takes))

-- one that doesn't leaves the closed blocks so far
pub taken_goes : OpenGrows → (full : ℕ) (es : List Entry) (e : Entry) (before between now : ℕ)
    → AreSorted (es ++ e ∷ []) → between ≡ capped (before + closed_length full es)
    → now ≡ capped (between + pushed_length full es e)
    → now ≡ capped (before + closed_length full (es ++ e ∷ []))
taken_goes grows full es e before between now sorted taken more =
    omega (arith, closed_on grows full es e sorted, taken, more)

-- the limit that a push answers is that of the table
pub limit_stops : (full : ℕ) (es whole : List Entry) (place : Option ℕ) (e : Entry)
    (fault : PutFault) → es ≡ whole → entry_at es place ≡ Some e
    → table_fault full es ≡ fault_behind full (front_at es place) (rest_at es place)
    → IsRefused {T = Unit {0}} (push_fault full (front_at es place) e) (Err fault)
    → IsMet (table_fault full whole) fault
limit_stops full es whole place e fault same there limit refused =
    let front = front_at es place in
    let rest = rest_at es (next_place es place) in
    met_first (table_fault full whole) (push_fault full front e)
    (fault_behind full (front ++ e ∷ []) rest) fault
    (ap (table_fault full) (sym same) ∙ limit ∙ ap (fault_behind full front) (leaves es place e there))
    (met (Unit {0}) (push_fault full front e) fault refused)

-- one that is taken leaves it to the entries behind
pub limit_goes : (full : ℕ) (es : List Entry) (place : Option ℕ) (e : Entry)
    → entry_at es place ≡ Some e
    → table_fault full es ≡ fault_behind full (front_at es place) (rest_at es place)
    → push_fault full (front_at es place) e ≡ None
    → table_fault full es
    ≡ fault_behind full (front_at es place ++ e ∷ []) (rest_at es (next_place es place))
limit_goes full es place e there limit none =
    limit ∙ ap (fault_behind full (front_at es place)) (leaves es place e there)
    ∙ goes_on full (front_at es place) e (rest_at es (next_place es place)) none
