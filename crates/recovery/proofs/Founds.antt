-- What was read of a log.
use Rattle.std.proofs.Common.{◌≡◌, ℕ, ◌+◌, List, [], ◌∷◌, ◌++◌, map, length, refl, sym, ap, ◌∙◌, subst}
use Rattle.std.specs.List.{AllByRecursion}
use Rattle.peb_base.specs.Batches.{Batches}
use Rattle.record_log.specs.declared.header.Header.{Header}
use Rattle.record_log.specs.declared.record.Record.{Record}
use Rattle.record_log.specs.Groups.{group_bytes, placed}
use Rattle.record_log.specs.Records.{bodies_of, views}
use Rattle.store_layout.specs.Logs.{Held, flat, AreRecords, IsBatchIn, Spells}
use Rattle.recovery.proofs.Replays.{bodies_viewed}

-- the bodies that were read are those of the groups
pub bodies_placed : (at : ℕ) (groups : List (List (List ℕ))) → map (λ (v : ℕ × List ℕ). v.1) (placed at groups) ≡ flat groups
bodies_placed at [] = refl
bodies_placed at (group ∷ groups) = joined group (placed (at + length (group_bytes group)) groups) ∙ ap (λ r. group ++ r) (bodies_placed (at + length (group_bytes group)) groups)
  where
    joined : (xs : List (List ℕ)) (rest : List (ℕ × List ℕ)) → map (λ (v : ℕ × List ℕ). v.1) (map (λ body. (at, body)) xs ++ rest) ≡ xs ++ map (λ (v : ℕ × List ℕ). v.1) rest
    joined [] rest = refl
    joined (x ∷ xs) rest = ap (λ r. x ∷ r) (joined xs rest)

pub bodies_read : (records : List Record) (groups : List (List (List ℕ))) → views records ≡ placed 24 groups → flat groups ≡ bodies_of records
bodies_read records groups given = sym (bodies_placed 24 groups) ∙ ap (map (λ (v : ℕ × List ℕ). v.1)) (sym given) ∙ bodies_viewed records

-- the records of a log, where its header and bodies are known by other names
pub spells_as : (log : Held) (header : Header) (bodies : List (List ℕ)) (own : Batches) → log.header ≡ header → flat log.groups ≡ bodies → AreRecords header.session bodies own → Spells log own
spells_as log header bodies own is same are = record {
  records = same ∙ are.records;
  each = subst (λ (h : Header). AllByRecursion (IsBatchIn h.session) own) (sym is) are.each;
}
