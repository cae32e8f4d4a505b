-- What an image holds is determined: its logs, and the batches that they spell.
use Rattle.std.specs.Prelude.{◌≡◌, ℕ, suc, ◌+◌, List, [], ◌∷◌, ◌++◌, map, length, refl}
use Rattle.std.specs.List.{AllByRecursion}
use Rattle.std.proofs.Common.{sym, ap, ◌∙◌, subst, arith, append_assoc}
use Rattle.std.proofs.lemmas.List.{append-nil}
use Rattle.peb_base.specs.Batches.{Batches}
use Rattle.disk_model.specs.declared.journal_file.JournalFile.TheVariants.{Log}
use Rattle.disk_model.specs.Images.{Image}
use Rattle.record_log.specs.Log.{IsUnfinished}
use Rattle.store_layout.specs.Logs.{Held, flat, record_of, record_of-is, HoldsLogs, BeginsLogs, AreRecords, IsBatchIn, SpellsAll}
use Rattle.store_layout.specs.LogFacts.{OneLog, Finished, OneBatch}

-- the same records are those of the same batches, one after another
one_spelled : OneBatch → (session : ℕ) (a b : Batches) → AllByRecursion (IsBatchIn session) a
    → AllByRecursion (IsBatchIn session) b → map record_of a ≡ map record_of b → a ≡ b
one_spelled one session [] [] each all e = refl
one_spelled one session [] (y ∷ b) each all e = absurd (cc)
one_spelled one session (x ∷ a) [] each all e = absurd (cc)
one_spelled one session (x ∷ a) (y ∷ b) each all e =
    let first : record_of x ≡ record_of y = cc in
    let more : map record_of a ≡ map record_of b = cc in
    let same = one x.0 y.0 x.1 y.1 each.0.batch all.0.batch (sym (record_of-is x) ∙ first
    ∙ record_of-is y) in
    let rest : a ≡ b = one_spelled one session a b each.1 all.1 more in
    λ i. (same.0 i, same.1 i) ∷ rest i

-- bodies are the records of one list of batches
pub same_records : OneBatch → (session : ℕ) (bodies : List (List ℕ)) (a b : Batches)
    → AreRecords session bodies a → AreRecords session bodies b → a ≡ b
same_records one session bodies a b x y =
    one_spelled one session a b x.each y.each (sym x.records ∙ y.records)

-- logs that are read begin with those that were found
pub record Goes (n : ℕ) (logs all : List Held) (image : Image) : Type 0 where
  pub more : List Held
  pub is : all ≡ logs ++ more
  pub holds : HoldsLogs (n + length logs) more image

-- a log is its header and its groups
pub same_held : (x y : Held) → (x.header ≡ y.header) × (x.groups ≡ y.groups) → x ≡ y
same_held x y e = λ i. record { header = e.0 i; groups = e.1 i }

-- which logs these are follows from the image
pub goes : Finished → OneLog → (n : ℕ) (logs all : List Held) (image : Image)
    → BeginsLogs n logs image → HoldsLogs n all image → Goes n logs all image
goes fin one n [] all image begins holds =
    record { more = all; is = refl; holds = subst (λ k. HoldsLogs k all image) (omega arith) holds }
goes fin one n (x ∷ logs) [] image begins holds =
    absurd (fin (Log n) (image (Log n)) x.header x.groups begins.0 holds)
goes fin one n (x ∷ logs) (y ∷ all) image begins holds =
    let head : y ≡ x = same_held y x
    (one (Log n) (image (Log n)) y.header x.header y.groups x.groups holds.0 begins.0) in
    let rest = goes fin one (suc n) logs all image begins.1 holds.1 in
    record {
      more = rest.more;
      is = λ i. head i ∷ rest.is i;
      holds = subst (λ k. HoldsLogs k rest.more image) (omega arith) rest.holds;
    }

-- batches of the first logs, and the others
pub record Cut (first second : List Held) (batches : Batches) : Type 0 where
  pub fronts : Batches
  pub others : Batches
  pub is : batches ≡ fronts ++ others
  pub spells_first : SpellsAll first fronts
  pub spells_second : SpellsAll second others

-- what logs spell, parted where they are
pub cut : (first second : List Held) (batches : Batches) → SpellsAll (first ++ second) batches
    → Cut first second batches
cut [] second batches spells =
    record { fronts = []; others = batches; is = refl; spells_first = refl; spells_second = spells }
cut (x ∷ first) second batches (own, rest, is, these, more) =
    let c = cut first second rest more in
    record {
      fronts = own ++ c.fronts;
      others = c.others;
      is = is ∙ ap (λ r. own ++ r) c.is ∙ sym (append_assoc own c.fronts c.others);
      spells_first = (own, c.fronts, refl, these, c.spells_first);
      spells_second = c.spells_second;
    }

-- logs spell one list of batches
pub spells_one : OneBatch → (logs : List Held) (a b : Batches) → SpellsAll logs a
    → SpellsAll logs b → a ≡ b
spells_one one [] a b x y = x ∙ sym y
spells_one one (log ∷ logs) a b (own, rest, is, these, more) (own', rest', is', these', more') =
    let first : own ≡ own' = same_records one log.header.session (flat log.groups) own own' these
    these' in
    is ∙ ap (λ r. r ++ rest) first
    ∙ ap (λ r. own' ++ r) (spells_one one logs rest rest' more more') ∙ sym is'

-- the logs of an image from a number on are one list
pub same_logs : Finished → OneLog → (n : ℕ) (image : Image) (a b : List Held)
    → HoldsLogs n a image → HoldsLogs n b image → a ≡ b
same_logs fin one n image a b ha hb =
    let g = goes fin one n a b image (begun n a ha) hb in
    let none : g.more ≡ [] = ends (n + length a) g.more (finish n (n + length a) a ha refl)
    g.holds in
    sym (g.is ∙ ap (λ m. a ++ m) none ∙ append-nil a)
  where
    begun : (n : ℕ) (logs : List Held) → HoldsLogs n logs image → BeginsLogs n logs image
    begun n [] holds = tt
    begun n (l ∷ logs) holds = (holds.0, begun (suc n) logs holds.1)

    finish : (n k : ℕ) (logs : List Held) → HoldsLogs n logs image → n + length logs ≡ k
        → IsUnfinished (image (Log k))
    finish n k [] holds at = let e : n ≡ k =
        omega (arith, at) in subst (λ m. IsUnfinished (image (Log m))) e holds
    finish n k (l ∷ logs) holds at = finish (suc n) k logs holds.1 (omega (arith, at))

    ends : (k : ℕ) (more : List Held) → IsUnfinished (image (Log k)) → HoldsLogs k more image
        → more ≡ []
    ends k [] absent holds = refl
    ends k (l ∷ more) absent holds =
        absurd (fin (Log k) (image (Log k)) l.header l.groups holds.0 absent)
