-- Logs one after another in an image, and what a step of one file does to them.
use Rattle.std.specs.Prelude.{◌≡◌, ◌≢◌, ℕ, suc, ◌+◌, ◌<◌, ◌≤◌, List, [], ◌∷◌, ◌++◌, length, None}
use Rattle.std.proofs.Common.{sym, ◌∙◌, subst, arith, inl, inr}
use Rattle.std.proofs.lemmas.Bool.{cases_lt}
use Rattle.disk_model.specs.declared.journal_file.JournalFile.TheVariants.{Log}
use Rattle.disk_model.specs.Images.{Image}
use Rattle.record_log.specs.Log.{IsLog, IsUnfinished}
use Rattle.store_layout.specs.Logs.{Held, HoldsLogs, BeginsLogs}
use Rattle.store_layout.specs.LogFacts.{Finished}

log_number : (m n : ℕ) → Log m ≡ Log n → m ≡ n
log_number m n e = cc

-- logs of different numbers are different files
pub logs_differ : (m n : ℕ) → m ≢ n → Log m ≢ Log n
logs_differ m n differ e = differ (log_number m n e)

-- what is below a number differs from it, and what is above it
pub below : (m n : ℕ) → m < n → m ≢ n
below m n lt e = omega (arith, lt, e)

pub above : (m n : ℕ) → n < m → m ≢ n
above m n lt e = omega (arith, lt, e)

-- the same logs where none from n on was changed
pub holds_same : (n : ℕ) (logs : List Held) (image new : Image)
    → ((m : ℕ) → n ≤ m → new (Log m) ≡ image (Log m)) → HoldsLogs n logs image
    → HoldsLogs n logs new
holds_same n [] image new same holds =
    subst (λ b. IsUnfinished b) (sym (same n (omega arith))) holds
holds_same n (log ∷ logs) image new same holds = (
  subst (λ b. IsLog (Log n) log.header log.groups b) (sym (same n (omega arith))) holds.0,
  holds_same (suc n) logs image new (λ m le. same m (omega (arith, le))) holds.1,
)

-- the last log has other groups
pub holds_changed : (n last : ℕ) (logs : List Held) (log log' : Held) (image new : Image)
    → n + length logs ≡ last
    → ((m : ℕ) → n ≤ m → m ≢ last → new (Log m) ≡ image (Log m))
    → IsLog (Log last) log'.header log'.groups (new (Log last))
    → HoldsLogs n (logs ++ log ∷ []) image → HoldsLogs n (logs ++ log' ∷ []) new
holds_changed n last [] log log' image new is same here holds =
    let at : n ≡ last = omega (arith, is) in (
      subst (λ k. IsLog (Log k) log'.header log'.groups (new (Log k))) (sym at) here,
      subst (λ b. IsUnfinished b) (sym
          (same (suc n) (omega arith) (above (suc n) last (omega (arith, at))))) holds.1,
    )
holds_changed n last (first ∷ logs) log log' image new is same here holds = (
  subst (λ b. IsLog (Log n) first.header first.groups b)
      (sym (same n (omega arith) (below n last (omega (arith, is))))) holds.0,
  holds_changed (suc n) last logs log log' image new (omega (arith, is))
      (λ m le. same m (omega (arith, le))) here holds.1,
)

-- one more log was created, and none stands above it
pub holds_next : (n last : ℕ) (logs : List Held) (log : Held) (image new : Image)
    → n + length logs ≡ last
    → ((m : ℕ) → n ≤ m → m ≢ last → new (Log m) ≡ image (Log m)) → image (Log (suc last)) ≡ None
    → IsLog (Log last) log.header log.groups (new (Log last))
    → HoldsLogs n logs image → HoldsLogs n (logs ++ log ∷ []) new
holds_next n last [] log image new is same none here holds =
    let at : n ≡ last = omega (arith, is) in
    let absent : IsUnfinished (new (Log (suc last))) =
    subst (λ b. IsUnfinished b) (sym
    (same (suc last) (omega (arith, at)) (above (suc last) last (omega arith)) ∙ none)) tt in
    subst (λ k. IsLog (Log k) log.header log.groups (new (Log k))
    × IsUnfinished (new (Log (suc k)))) (sym at) (here, absent)
holds_next n last (first ∷ logs) log image new is same none here holds = (
  subst (λ b. IsLog (Log n) first.header first.groups b)
      (sym (same n (omega arith) (below n last (omega (arith, is))))) holds.0,
  holds_next (suc n) last logs log image new (omega (arith, is))
      (λ m le. same m (omega (arith, le))) none here holds.1,
)

-- the next log wasn't created to its end
pub holds_begun : (n last : ℕ) (logs : List Held) (image new : Image) → n + length logs ≡ last
    → ((m : ℕ) → n ≤ m → m ≢ last → new (Log m) ≡ image (Log m))
    → IsUnfinished (new (Log last))
    → HoldsLogs n logs image → HoldsLogs n logs new
holds_begun n last [] image new is same here holds =
    let at : n ≡ last = omega (arith, is) in
    subst (λ k. IsUnfinished (new (Log k))) (sym at) here
holds_begun n last (first ∷ logs) image new is same here holds = (
  subst (λ b. IsLog (Log n) first.header first.groups b)
      (sym (same n (omega arith) (below n last (omega (arith, is))))) holds.0,
  holds_begun (suc n) last logs image new (omega (arith, is)) (λ m le. same m (omega (arith, le)))
      here holds.1,
)

-- the first absent log is absent
pub holds_end : (n last : ℕ) (logs : List Held) (image : Image) → n + length logs ≡ last
    → HoldsLogs n logs image → IsUnfinished (image (Log last))
holds_end n last [] image is holds = let at : n ≡ last =
    omega (arith, is) in subst (λ k. IsUnfinished (image (Log k))) at holds
holds_end n last (first ∷ logs) image is holds =
    holds_end (suc n) last logs image (omega (arith, is)) holds.1

-- the same logs where none of them was changed, nor the next
pub holds_upto : (n : ℕ) (held : List Held) (image new : Image)
    → ((m : ℕ) → n ≤ m → m ≤ n + length held → new (Log m) ≡ image (Log m))
    → HoldsLogs n held image → HoldsLogs n held new
holds_upto n [] image new same holds =
    subst (λ b. IsUnfinished b) (sym (same n (omega arith) (omega arith))) holds
holds_upto n (log ∷ held) image new same holds = (
  subst (λ b. IsLog (Log n) log.header log.groups b) (sym (same n (omega arith) (omega arith)))
      holds.0,
  holds_upto (suc n) held image new (λ m from to. same m (omega (arith, from)) (omega (arith, to)))
      holds.1,
)

-- logs that an image begins with, and the next one
pub begins_more : (n k : ℕ) (logs : List Held) (log : Held) (image : Image) → n + length logs ≡ k
    → BeginsLogs n logs image → IsLog (Log k) log.header log.groups (image (Log k))
    → BeginsLogs n (logs ++ log ∷ []) image
begins_more n k [] log image at begins is = let e : k ≡ n =
    omega (arith, at) in (subst (λ m. IsLog (Log m) log.header log.groups (image (Log m))) e is, tt)
begins_more n k (x ∷ logs) log image at begins is =
    (begins.0, begins_more (suc n) k logs log image (omega (arith, at)) begins.1 is)

-- where the next is absent they are all
pub begins_end : (n k : ℕ) (logs : List Held) (image : Image) → n + length logs ≡ k
    → BeginsLogs n logs image → IsUnfinished (image (Log k)) → HoldsLogs n logs image
begins_end n k [] image at begins absent = let e : k ≡ n =
    omega (arith, at) in subst (λ m. IsUnfinished (image (Log m))) e absent
begins_end n k (x ∷ logs) image at begins absent =
    (begins.0, begins_end (suc n) k logs image (omega (arith, at)) begins.1 absent)

-- logs that are read are there
pub holds_made : Finished → (n : ℕ) (logs : List Held) (image : Image) → HoldsLogs n logs image
    → (m : ℕ) → n ≤ m → m < n + length logs → IsUnfinished (image (Log m)) → ⊥
holds_made fin n [] image holds m from below none = omega (arith, from, below)
holds_made fin n (x ∷ logs) image holds m from below none = elim (cases_lt n m) [
  | inl later ↦ holds_made fin (suc n) logs image holds.1 m (omega (arith, later))
      (omega (arith, below)) none
  | inr last ↦ let here : m ≡ n = omega (arith, last, from) in
      fin (Log m) (image (Log m)) x.header x.groups
      (subst (λ (k : ℕ). IsLog (Log k) x.header x.groups (image (Log k))) (sym here) holds.0)
      none
]
