-- What logs spell, joined.
use Rattle.std.specs.Prelude.{◌≡◌, ℕ, List, [], ◌∷◌, ◌++◌, map, refl}
use Rattle.std.specs.List.{AllByRecursion}
use Rattle.std.proofs.Common.{sym, ap, ◌∙◌, subst, append_assoc}
use Rattle.std.proofs.lemmas.List.{append-nil}
use Rattle.peb_base.specs.declared.op.Op.{Op}
use Rattle.peb_base.specs.Batches.{Batches}
use Rattle.record_log.specs.declared.header.Header.{Header}
use Rattle.record_log.specs.Groups.{record_bytes, records_bytes, with_group}
use Rattle.record_log.specs.GroupLaws.{records-push}
use Rattle.store_layout.specs.Logs.{Held, flat, record_of, IsBatchIn, Spells, SpellsAll}

-- the records of groups, joined
flat-append : (a b : List (List (List ℕ))) → flat (a ++ b) ≡ flat a ++ flat b
flat-append [] b = refl
flat-append (x ∷ a) b = ap (λ r. x ++ r) (flat-append a b) ∙ sym (append_assoc x (flat a) (flat b))

-- one more group
flat_with : (groups : List (List (List ℕ))) (more : List (List ℕ))
    → flat (with_group groups more) ≡ flat groups ++ more
flat_with groups [] = sym (append-nil (flat groups))
flat_with groups (body ∷ more) = flat-append groups ((body ∷ more) ∷ [])
    ∙ ap (λ r. flat groups ++ r) (append-nil (body ∷ more))

-- the records of batches, joined
pub map-append : (a b : Batches) → map record_of (a ++ b) ≡ map record_of a ++ map record_of b
map-append [] b = refl
map-append (x ∷ a) b = ap (λ r. record_of x ∷ r) (map-append a b)

-- batches of a session, joined
pub each-append : (session : ℕ) (a b : Batches) → AllByRecursion (IsBatchIn session) a
    → AllByRecursion (IsBatchIn session) b → AllByRecursion (IsBatchIn session) (a ++ b)
each-append session [] b all more = more
each-append session (x ∷ a) b all more = (all.0, each-append session a b all.1 more)

-- one more batch waits
pub waiting-push : (waiting : Batches) (b : ℕ × List Op)
    → records_bytes (map record_of (waiting ++ b ∷ []))
    ≡ records_bytes (map record_of waiting) ++ record_bytes (record_of b)
waiting-push waiting b = ap records_bytes (map-append waiting (b ∷ []))
    ∙ records-push (map record_of waiting) (record_of b)

-- a log without groups
abbrev pub fresh : Header → Held
fresh header = record { header = header; groups = [] }

-- it spells nothing
pub spells_fresh : (header : Header) → Spells (fresh header) []
spells_fresh header = record { records = refl; each = tt }

-- the log with one more group
abbrev pub closed : Held → Batches → Held
closed log waiting = record {
  header = log.header;
  groups =
      with_group log.groups (map record_of waiting);
}

-- it spells what waited too
spells_closed : (log : Held) (own waiting : Batches)
    → AllByRecursion (IsBatchIn log.header.session) waiting → Spells log own
    → Spells (closed log waiting) (own ++ waiting)
spells_closed log own waiting each spells = record {
  records = flat_with log.groups (map record_of waiting)
      ∙ ap (λ r. r ++ map record_of waiting) spells.records ∙ sym (map-append own waiting);
  each = each-append log.header.session own waiting spells.each each;
}

-- the last log with one more group
pub spells_group : (logs : List Held) (log : Held) (batches waiting : Batches)
    → AllByRecursion (IsBatchIn log.header.session) waiting
    → SpellsAll (logs ++ log ∷ []) batches
    → SpellsAll (logs ++ closed log waiting ∷ []) (batches ++ waiting)
spells_group [] log batches waiting each (own, rest, is, spells, none) =
    let all : batches ≡ own = is ∙ ap (λ r. own ++ r) none ∙ append-nil own in (
      own ++ waiting,
      [],
      ap (λ r. r ++ waiting) all
          ∙ sym (append-nil (own ++ waiting)),
      spells_closed log own waiting each spells,
      refl,
    )
spells_group (first ∷ logs) log batches waiting each (own, rest, is, spells, more) = (
  own,
  rest ++ waiting,
  ap (λ r. r ++ waiting) is
      ∙ append_assoc own rest waiting,
  spells,
  spells_group logs log rest waiting each more,
)

-- one more log, which spells these
pub spells_next : (logs : List Held) (log : Held) (batches own : Batches) → Spells log own
    → SpellsAll logs batches → SpellsAll (logs ++ log ∷ []) (batches ++ own)
spells_next [] log batches own spells none =
    (own, [], ap (λ r. r ++ own) none ∙ sym (append-nil own), spells, refl)
spells_next (first ∷ logs) log batches own spells (mine, rest, is, these, more) = (
  mine,
  rest ++ own,
  ap (λ r. r ++ own) is
      ∙ append_assoc mine rest own,
  these,
  spells_next logs log rest own spells more,
)

-- one more log without groups
pub spells_one_more : (logs : List Held) (header : Header) (batches : Batches)
    → SpellsAll logs batches → SpellsAll (logs ++ fresh header ∷ []) batches
spells_one_more logs header batches spells =
    subst (λ bs. SpellsAll (logs ++ fresh header ∷ []) bs) (append-nil batches)
    (spells_next logs (fresh header) batches [] (spells_fresh header) spells)
