-- A walk back over sorted entries, as keys are chosen.
use Rattle.std.proofs.Common.{◌≡◌, ℕ, suc, List, [], ◌∷◌, ◌++◌, length, drop, get_or, ◌-◌, Option, Some, None, ◌<◌, refl, sym, ap, ◌∙◌, arith}
use Rattle.std.specs.Prelude.{reverse, false}
use Rattle.std.proofs.lemmas.List.{drop_all, reverse-append}
use Rattle.flsm_model.specs.Choices.{put_keys, choices}
use Rattle.flsm_model.specs.declared.chosen.Chosen.{Chosen}
use Rattle.mem_table.specs.Seen.{steps_back}
use Rattle.peb_base.specs.Cursors.{last_place, previous_place, entry_at}
use Rattle.peb_base.specs.Entries.{AscendFrom, AreSorted}
use Rattle.peb_base.specs.Keys.{Bytes, key_eq}
use Rattle.peb_base.specs.Profiles.{Column}
use Rattle.peb_base.specs.declared.entry.Entry.{Entry}
use Rattle.compactor.specs.Choosing.{starts_with}
use Rattle.compactor.proofs.Places.{steps_back_last, steps_back_previous, drop_there, behind_there}

-- the chosen keys, the last first, are those of the entries behind the place
abbrev pub AreChosen : Column → List Entry → Option ℕ → List Chosen → Type 0
AreChosen o es place chosen =
    reverse chosen ≡ choices o (put_keys (drop (steps_back place) es))

-- none is chosen at the last place
pub chosen_none : (o : Column) (es : List Entry) (place : Option ℕ) → place ≡ last_place es
    → AreChosen o es place []
chosen_none o es place last =
    sym (ap (λ (p : Option ℕ). choices o (put_keys (drop (steps_back p) es))) last
    ∙ ap (λ (k : ℕ). choices o (put_keys (drop k es))) (steps_back_last es)
    ∙ ap (λ l. choices o (put_keys l)) (drop_all (length es) es (omega arith)))

-- a step back adds the entry's key, if it is chosen
pub chosen_more : (o : Column) (es : List Entry) (place : Option ℕ) (e : Entry)
    (before after : List Chosen) → AreSorted es → entry_at es place ≡ Some e
    → ((rest : List Entry) → AscendFrom e.key e.number rest
    → reverse before ≡ choices o (put_keys rest)
    → reverse after ≡ choices o (put_keys (e ∷ rest)))
    → AreChosen o es place before → AreChosen o es (previous_place place) after
chosen_more o es None e before after sorted there adds chosen = cc
chosen_more o es (Some n) e before after sorted there adds chosen =
    adds (drop (suc n) es) (behind_there [] 0 es n e sorted there) chosen
    ∙ ap (λ l. choices o (put_keys l)) (sym (drop_there es n e there))
    ∙ ap (λ (k : ℕ). choices o (put_keys (drop k es))) (sym (steps_back_previous n))

-- all are chosen where it stands nowhere
pub chosen_all : (o : Column) (es : List Entry) (place : Option ℕ) (chosen : List Chosen)
    → place ≡ None → AreChosen o es place chosen → reverse chosen ≡ choices o (put_keys es)
chosen_all o es place chosen none are =
    are ∙ ap (λ (p : Option ℕ). choices o (put_keys (drop (steps_back p) es))) none

-- one more stands first
pub reverse_push : (cs : List Chosen) (c : Chosen) → reverse (cs ++ c ∷ []) ≡ c ∷ reverse cs
reverse_push cs c = reverse-append cs (c ∷ [])
