-- Tables hold their contents as levels are copied, taken from, cut and filled.
use Rattle.std.proofs.Common.{◌≡◌, ℕ, zero, suc, ◌<◌, List, [], ◌∷◌, ◌++◌, length, sym, subst}
use Rattle.std.specs.Prelude.{◌↔◌, map, get_or, set}
use Rattle.std.specs.List.{AllByRecursion, AllZip}
use Rattle.peb_base.specs.Guards.{guard_of}
use Rattle.peb_base.specs.Keys.{Bytes}
use Rattle.peb_base.specs.declared.entry.Entry.{Entry}
use Rattle.peb_base.specs.declared.table_row.TableRow.{TableRow}
use Rattle.guard_level.specs.Guards.{Guards, tables_of, with_table, Takes, IsCopy}
use Rattle.guard_level.specs.TableLists.{TakesOut, AreShared}
use Rattle.version.specs.Levels.{Levels, level_at, no_guards}
use Rattle.version_set.specs.Shapes.{IsEmptyLevel, IsOfLevel}
use Rattle.version_set.specs.Changes.{EachTable}
use Rattle.version_set.specs.Contents.{HoldsContent, EachLive, ContentsStay}
use Rattle.version_set.proofs.Parts.{all_item}
use Rattle.version_set.proofs.Taken.{all_push}

-- ---- lists

-- what holds at each place still does where an element that meets it stands at one of them
each_set : {X : Type 0} (Q : X → Type 0) (d : X) (xs : List X) (i : ℕ) (x : X) → ((n : ℕ) → Q (get_or xs n d)) → Q x → (n : ℕ) → Q (get_or (set xs i x) n d)
each_set Q d [] i x each own n = each n
each_set Q d (y ∷ ys) zero x each own zero = own
each_set Q d (y ∷ ys) zero x each own (suc n) = each (suc n)
each_set Q d (y ∷ ys) (suc i) x each own zero = each zero
each_set Q d (y ∷ ys) (suc i) x each own (suc n) = each_set Q d ys i x (λ m. each (suc m)) own n

-- what holds of all holds of one in their middle, and of the others
parts_of : {X : Type 0} (P : X → Type 0) (before behind : List X) (x : X) → AllByRecursion P (before ++ x ∷ behind) → AllByRecursion P (before ++ behind) × P x
parts_of P [] behind x all = (all.1, all.0)
parts_of P (y ∷ before) behind x all =
    let rest = parts_of P before behind x all.1 in
    ((all.0, rest.0), rest.1)

-- ---- one level

-- a table that comes
pub each_appended : {T : Type 0} (P : T → Type 0) (row : T → TableRow) (t : T) (g : Guards T) → EachTable P g → P t → EachTable P (with_table row t g)
each_appended P row t g each own =
    let guard = guard_of (row t).smallest g.keys in
    each_set (AllByRecursion P) [] g.tables guard (tables_of g guard ++ t ∷ []) each (all_push P (tables_of g guard) t (each guard) own)

-- a table that goes
pub all_out : {T : Type 0} (P : T → Type 0) (row : T → TableRow) (number : ℕ) (old new : List T) (t : T) → TakesOut row number old t new → AllByRecursion P old → AllByRecursion P new × P t
all_out P row number old new t out all =
    let parts = parts_of P out.before out.behind t (subst (AllByRecursion P) out.was all) in
    (subst (AllByRecursion P) (sym out.now) parts.0, parts.1)

pub each_out : {T : Type 0} (P : T → Type 0) (row : T → TableRow) (number : ℕ) (old new : Guards T) (t : T) → Takes row number old t new → EachTable P old → EachTable P new × P t
each_out {T} P row number old new t takes each =
    let from = takes.tables in
    let left = all_out P row number (get_or old.tables from.guard []) from.rest t from.out (each from.guard) in (
      λ guard. subst (λ (ts : List (List T)). AllByRecursion P (get_or ts guard [])) (sym from.now)
          (each_set (AllByRecursion P) [] old.tables from.guard from.rest each left.0 guard),
      left.1,
    )

-- ---- further handles

pub share_holds : {T : Type 0} (row : T → TableRow) (holds : T → List Entry → Type 0) (content : ℕ → List Entry) (t u : T) → row u ≡ row t → ((es : List Entry) → holds u es ↔ holds t es)
    → HoldsContent row holds content t → HoldsContent row holds content u
share_holds row holds content t u same entries h = subst (λ (r : TableRow). holds u (content r.number)) (sym same) ((entries (content (row t).number)).1 h)

shares_hold : {T : Type 0} (row : T → TableRow) (holds : T → List Entry → Type 0) (content : ℕ → List Entry) (ts us : List T) → AreShared row holds ts us
    → AllByRecursion (HoldsContent row holds content) ts → AllByRecursion (HoldsContent row holds content) us
shares_hold row holds content [] [] shared all = tt
shares_hold row holds content [] (u ∷ us) shared all = absurd shared
shares_hold row holds content (t ∷ ts) [] shared all = absurd shared
shares_hold row holds content (t ∷ ts) (u ∷ us) shared all = (share_holds row holds content t u shared.0 shared.1 all.0, shares_hold row holds content ts us shared.2 all.1)

pub copy_holds : {T : Type 0} (row : T → TableRow) (holds : T → List Entry → Type 0) (content : ℕ → List Entry) (g copy : Guards T) → IsCopy row holds g copy
    → EachTable (HoldsContent row holds content) g → EachTable (HoldsContent row holds content) copy
copy_holds row holds content g copy same each guard = shares_hold row holds content (tables_of g guard) (tables_of copy guard) (same.tables guard) (each guard)

-- ---- versions

-- another level in place of one
pub live_level : {T : Type 0} (P : T → Type 0) (v : Levels T) (at : ℕ) (g : Guards T) → EachLive P v → EachTable P g → EachLive P (record v { levels = set v.levels at g })
live_level P v at g live each = record { top = live.top; deeper = each_set (EachTable P) no_guards v.levels at g live.deeper each }

-- no table
some_is_none : {X : Type 0} (x : X) (xs : List X) → x ∷ xs ≡ [] → ⊥
some_is_none x xs e = cc

all_of_none : {T : Type 0} (P : T → Type 0) (row : T → TableRow) (ts : List T) → map row ts ≡ [] → AllByRecursion P ts
all_of_none P row [] none = tt
all_of_none P row (t ∷ ts) none = absurd (some_is_none (row t) (map row ts) none)

each_level : {T : Type 0} (P : T → Type 0) (levels : List (Guards T)) → AllByRecursion (EachTable P) levels → (n : ℕ) → EachTable P (get_or levels n no_guards)
each_level P [] all n = λ guard. tt
each_level P (g ∷ levels) all zero = all.0
each_level P (g ∷ levels) all (suc n) = each_level P levels all.1 n

each_of_zip : {T : Type 0} (P : T → Type 0) (row : T → TableRow) (levels : List (Guards T)) (guards : List (List Bytes)) → AllZip (λ level keys. IsOfLevel row level keys []) levels guards → AllByRecursion (EachTable P) levels
each_of_zip P row [] [] all = tt
each_of_zip P row [] (k ∷ guards) all = absurd all
each_of_zip P row (g ∷ levels) [] all = absurd all
each_of_zip P row (g ∷ levels) (k ∷ guards) all = (λ guard. all_of_none P row (tables_of g guard) (all.0.each guard), each_of_zip P row levels guards all.1)

pub live_of_none : {T : Type 0} (P : T → Type 0) (row : T → TableRow) (levels : List (Guards T)) (guards : List (List Bytes)) → AllZip (λ level keys. IsOfLevel row level keys []) levels guards
    → EachLive P (record { top = []; levels = levels })
live_of_none P row levels guards all = record { top = tt; deeper = each_level P levels (each_of_zip P row levels guards all) }

each_of_empty : {T : Type 0} (P : T → Type 0) (levels : List (Guards T)) → AllByRecursion IsEmptyLevel levels → AllByRecursion (EachTable P) levels
each_of_empty P [] all = tt
each_of_empty P (g ∷ levels) all = (λ guard. subst (AllByRecursion P) (sym (all.0.no_tables guard)) tt, each_of_empty P levels all.1)

pub live_of_empty : {T : Type 0} (P : T → Type 0) (levels : List (Guards T)) → AllByRecursion IsEmptyLevel levels → EachLive P (record { top = []; levels = levels })
live_of_empty P levels all = record { top = tt; deeper = each_level P levels (each_of_empty P levels all) }

-- ---- steps of the calls

-- one table more was taken out
pub out_step : {T : Type 0} (row : T → TableRow) (holds : T → List Entry → Type 0) (number : ℕ) (begun old new : Guards T) (gone more : List T) (t : T) → Takes row number old t new → more ≡ gone ++ t ∷ []
    → ContentsStay row holds (λ P. EachTable P begun) (λ P. EachTable P old × AllByRecursion P gone) → ContentsStay row holds (λ P. EachTable P begun) (λ P. EachTable P new × AllByRecursion P more)
out_step {T} row holds number begun old new gone more t takes pushed so = λ content each.
    let P : T → Type 0 = HoldsContent row holds content in
    let was = so content each in
    let now = each_out P row number old new t takes was.0 in
    (now.0, subst (AllByRecursion P) (sym pushed) (all_push P gone t was.1 now.1))

pub top_step : {T : Type 0} (row : T → TableRow) (holds : T → List Entry → Type 0) (number : ℕ) (begun old new : List T) (gone more : List T) (t : T) → TakesOut row number old t new → more ≡ gone ++ t ∷ []
    → ContentsStay row holds (λ P. AllByRecursion P begun) (λ P. AllByRecursion P old × AllByRecursion P gone) → ContentsStay row holds (λ P. AllByRecursion P begun) (λ P. AllByRecursion P new × AllByRecursion P more)
top_step {T} row holds number begun old new gone more t out pushed so = λ content each.
    let P : T → Type 0 = HoldsContent row holds content in
    let was = so content each in
    let now = all_out P row number old new t out was.0 in
    (now.0, subst (AllByRecursion P) (sym pushed) (all_push P gone t was.1 now.1))

-- one further handle more was put behind the others
pub share_step : {T : Type 0} (row : T → TableRow) (holds : T → List Entry → Type 0) (begun old new tables : List T) (t u : T) → row u ≡ row t → ((es : List Entry) → holds u es ↔ holds t es) → new ≡ old ++ u ∷ []
    → (i : ℕ) → i < length tables → t ≡ get_or tables i t
    → ContentsStay row holds (λ P. AllByRecursion P begun × AllByRecursion P tables) (λ P. AllByRecursion P old) → ContentsStay row holds (λ P. AllByRecursion P begun × AllByRecursion P tables) (λ P. AllByRecursion P new)
share_step {T} row holds begun old new tables t u same entries pushed i within is so = λ content all.
    let P : T → Type 0 = HoldsContent row holds content in
    subst (AllByRecursion P) (sym pushed) (all_push P old u (so content all) (share_holds row holds content t u same entries (all_item P tables i t all.1 within is)))

-- the version with a level that was copied, taken from, cut and filled
pub level_holds : {T : Type 0} (row : T → TableRow) (holds : T → List Entry → Type 0) (v next : Levels T) (at : ℕ) (old copy taken cut done : Guards T) (gone tables : List T)
    → old ≡ level_at v at → IsCopy row holds old copy → ContentsStay row holds (λ P. EachTable P copy) (λ P. EachTable P taken × AllByRecursion P gone)
    → ContentsStay row holds (λ P. EachTable P taken) (λ P. EachTable P cut) → ContentsStay row holds (λ P. EachTable P cut × AllByRecursion P tables) (λ P. EachTable P done)
    → next ≡ record v { levels = set v.levels at done }
    → ContentsStay row holds (λ P. EachLive P v × AllByRecursion P tables) (λ P. EachLive P next × AllByRecursion P gone)
level_holds {T} row holds v next at old copy taken cut done gone tables old_is same takes cuts appends made = λ content h.
    let P : T → Type 0 = HoldsContent row holds content in
    let here : EachTable P old = subst (EachTable P) (sym old_is) (h.0.deeper at) in
    let left = takes content (copy_holds row holds content old copy same here) in
    (subst (EachLive P) (sym made) (live_level P v at done h.0 (appends content (cuts content left.0, h.1))), left.1)

-- the version with other tables of level 0
pub top_holds : {T : Type 0} (row : T → TableRow) (holds : T → List Entry → Type 0) (v next : Levels T) (none seen shared taken done gone tables : List T)
    → none ≡ [] → seen ≡ v.top → ContentsStay row holds (λ P. AllByRecursion P none × AllByRecursion P seen) (λ P. AllByRecursion P shared)
    → ContentsStay row holds (λ P. AllByRecursion P shared) (λ P. AllByRecursion P taken × AllByRecursion P gone)
    → ContentsStay row holds (λ P. AllByRecursion P taken × AllByRecursion P tables) (λ P. AllByRecursion P done) → next ≡ record v { top = done }
    → ContentsStay row holds (λ P. EachLive P v × AllByRecursion P tables) (λ P. EachLive P next × AllByRecursion P gone)
top_holds {T} row holds v next none seen shared taken done gone tables none_is seen_is shares takes appends made = λ content h.
    let P : T → Type 0 = HoldsContent row holds content in
    let left = takes content (shares content (subst (AllByRecursion P) (sym none_is) tt, subst (AllByRecursion P) (sym seen_is) h.0.top)) in
    (subst (EachLive P) (sym made) (record { top = appends content (left.0, h.1); deeper = h.0.deeper }), left.1)
