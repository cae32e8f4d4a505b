-- Walks from the first entry to the end.
use Rattle.std.proofs.Common.{◌≡◌, ℕ, zero, suc, ◌<◌, ◌≤◌, ◌∙◌, ◌+◌, inl, inr, List, [], ◌∷◌, ◌++◌, length, take, drop, get_or, append_assoc, subst, Option, Some, None, Result, Err, Bool, true, false, refl, sym, ap, arith}
use Rattle.std.specs.Prelude.{slice_get, nat_lt, if◌then◌else◌, IfErr, Ok}
use Rattle.std.proofs.lemmas.Bool.Decides.{nat_tests}
use Rattle.std.proofs.Math.Seq.{split_at}
use Rattle.disk_model.specs.declared.table_handle.TableHandle.{Ghosts}
use Rattle.peb_base.specs.Cursors.{LeadsTo, IfDamage, OnFault, StandsAmong}
use Rattle.peb_base.specs.Entries.{AreSorted}
use Rattle.peb_base.specs.Faults.{Rose}
use Rattle.peb_base.specs.Keys.{Bytes}
use Rattle.peb_base.specs.declared.entry.Entry.{Entry}
use Rattle.peb_base.specs.Tables.{IsRowOf}
use Rattle.peb_base.specs.declared.limit_kind.LimitKind.TheVariants as kinds
use Rattle.peb_base.specs.declared.table_row.TableRow.{TableRow}
use Rattle.peb_base.specs.declared.read_fault.ReadFault.{ReadFault}
use Rattle.peb_base.specs.declared.read_fault.ReadFault.TheVariants as reads
use Rattle.table_file.specs.Ascending.{front_ascends}
use Rattle.table_file.specs.Damages.{IsDamage, IsToldAt}
use Rattle.table_file.specs.Form.{blocks_of, table_bytes}
use Rattle.table_file.specs.Holding.{IsOpenedOver}
use Rattle.table_file.specs.Limits.{index_fault, push_fault, blocks_fault, IsRefused}
use Rattle.table_file.specs.Opening.{OpensAs, AreItems, FitsRow}
use Rattle.table_file.specs.Tables.{TableParts}
use Rattle.table_file.specs.declared.index_item.IndexItem.{IndexItem}
use Rattle.table_file.specs.declared.put_fault.PutFault.{PutFault}
use Rattle.table_file.specs.declared.put_fault.PutFault.TheVariants as puts
use Rattle.table_file.specs.declared.table_fault.TableFault.{TableFault}
use Rattle.table_file.specs.declared.table_fault.TableFault.TheVariants as tables
use Rattle.table_cursor.specs.Agreeing.{IsDamageAt, IsDamageOf}
use Rattle.table_cursor.specs.IndexLaws.{item_is}
use Rattle.table_cursor.specs.Trips.{of_read, of_table, TellsDamage, TellsTable, TellsOf, LimitsPut, LimitsTrip, IsRowWritten}
use Rattle.table_cursor.specs.declared.trip_fault.TripFault.{TripFault}
use Rattle.table_cursor.specs.declared.trip_fault.TripFault.TheVariants.{Fault, Limit, Damaged, Memory}

-- where a cursor stands, no refused move tells damage
pub undamaged : (StandsAt : Option ℕ → Type 0) (place : Option ℕ) (why : ReadFault)
    → LeadsTo StandsAt place (Err why) → TellsDamage (of_read why) → ⊥
undamaged StandsAt place reads.Fault leads tells = tells
undamaged StandsAt place (reads.Damaged number at) leads tells = leads

-- damage of a block is told of its table
pub of_table_told : {F : Type 0} (g : Ghosts F) (t : TableParts F) (index : ℕ) (why : ReadFault)
    → IfDamage {T = Unit {0}} (Err why) (IsDamageAt g t index) → TellsTable t.row.number (of_read why)
of_table_told g t index reads.Fault damage = tt
of_table_told g t index (reads.Damaged number at) damage = damage.number_is

-- a fault has its cause since any earlier moment
pub rose_since : (a b c : ℕ) (why : ReadFault) → a ≤ b → OnFault (Err why) (Rose b c) → of_read why ≡ Fault → Rose a c
rose_since a b c reads.Fault le rose is = omega (arith, le, rose)
rose_since a b c (reads.Damaged number at) le rose is = cc

none_past : (es : List Entry) (n : ℕ) → n < length es → None ≡ slice_get es n → ⊥
none_past [] n lt none = omega (arith, lt)
none_past (e ∷ es) zero lt none = cc
none_past (e ∷ es) (suc n) lt none = none_past es n (omega (arith, lt)) none

-- a cursor that shows nothing stands at no place
pub nowhere : (es : List Entry) (place : Option ℕ) (shown : Option Entry) → StandsAmong es place shown → shown ≡ None → place ≡ None
nowhere es None shown among none = refl
nowhere es (Some n) shown among none = absurd (none_past es n among.inside (sym none ∙ among.shows))

-- ---- entries that are pushed one after another

-- an entry at a place, with those in front of it and those behind it
pub record AtEach (es : List Entry) (n : ℕ) (e : Entry) : Type 0 where
  pub split : es ≡ take n es ++ e ∷ drop (suc n) es
  pub on : take (n + 1) es ≡ take n es ++ e ∷ []
  pub sorted : AreSorted es → AreSorted (take n es ++ e ∷ [])

take_suc : (es : List Entry) (n : ℕ) (e : Entry) → n < length es → e ≡ get_or es n e → take (suc n) es ≡ take n es ++ e ∷ []
take_suc [] n e lt is = absurd (omega (arith, lt))
take_suc (x ∷ es) zero e lt is = ap (λ (y : Entry). y ∷ []) (sym is)
take_suc (x ∷ es) (suc n) e lt is = ap (λ l. x ∷ l) (take_suc es n e (omega (arith, lt)) is)

pub at_each : (es : List Entry) (n : ℕ) (e : Entry) → n < length es → e ≡ get_or es n e → AtEach es n e
at_each es n e lt is =
    let one : n + 1 ≡ suc n = omega arith in
    let apart : es ≡ take n es ++ e ∷ drop (suc n) es = split_at es n e lt ∙ ap (λ y. take n es ++ y ∷ drop (suc n) es) (sym is) in
    record {
      split = apart;
      on = ap (λ k. take k es) one ∙ take_suc es n e lt is;
      sorted = λ each.
          front_ascends [] 0 (take n es ++ e ∷ []) (drop (suc n) es)
          (subst AreSorted (apart ∙ sym (append_assoc (take n es) (e ∷ []) (drop (suc n) es))) each);
    }

pub limits_push : (full : ℕ) (es : List Entry) (n : ℕ) (e : Entry) (why : PutFault) → AtEach es n e
    → IsRefused {T = Unit {0}} (push_fault full (take n es) e) (Err why) → LimitsPut full es why
limits_push full es n e puts.Fault at refused = tt
limits_push full es n e (puts.Limit kind most) at refused = inl (take n es, e, drop (suc n) es, at.split, refused)
limits_push full es n e puts.Memory at refused = tt

pub limits_end : {T : Type 0} (made : Result T PutFault) (full : ℕ) (es : List Entry) (why : PutFault) → made ≡ Err why
    → IsRefused (blocks_fault (blocks_of full es)) made → LimitsPut full es why
limits_end {T} made full es why is refused = by why (subst (IsRefused (blocks_fault (blocks_of full es))) is refused)
  where
    by : (why : PutFault) → IsRefused (blocks_fault (blocks_of full es)) (let r : Result T PutFault = Err why in r) → LimitsPut full es why
    by puts.Fault refused = tt
    by (puts.Limit kind most) refused = inr refused
    by puts.Memory refused = tt

-- ---- a table that is opened again

-- a table that is opened by the row of entries, over their bytes
pub opened_over : {F : Type 0} (g : Ghosts F) (t : TableParts F) (row : TableRow) (full : ℕ) (es : List Entry) → IsRowWritten row full es
    → t.row ≡ row → g.number t.file ≡ row.number → g.bytes t.file ≡ table_bytes full row.number es
    → OpensAs row t.items t.filter (g.bytes t.file) → IsOpenedOver g t full es
opened_over g t row full es w same number bytes opens = record {
  least = w.least;
  most = w.most;
  sorted = w.sorted;
  row_is = subst (λ (r : TableRow). IsRowOf r es) (sym same) w.row_is;
  row_size = omega (arith, ap (λ (r : TableRow). r.bytes) same, w.row_size);
  row_bytes = ap (λ (r : TableRow). r.bytes) same ∙ w.row_bytes ∙ ap (λ (r : TableRow). length (table_bytes full r.number es)) (sym same);
  file_number = number ∙ ap (λ (r : TableRow). r.number) (sym same);
  file_bytes = bytes ∙ ap (λ (r : TableRow). table_bytes full r.number es) (sym same);
  opens = subst (λ (r : TableRow). OpensAs r t.items t.filter (g.bytes t.file)) (sym same) opens;
}

pub same_bytes : (a b : List ℕ) → Some a ≡ Some b → a ≡ b
same_bytes a b same = cc

pub damage_opening : (why : TableFault) → TellsDamage (of_table why) → IsDamage why
damage_opening tables.Fault tells = tells
damage_opening (tables.Damaged number at) tells = tt
damage_opening tables.Memory tells = tells

pub short_index : (n : ℕ) → index_fault n ≡ None → n ≤ 2147483648
short_index n none = by (nat_lt 2147483648 n) refl none
  where
    by : (b : Bool) → nat_lt 2147483648 n ≡ b → (if b then Some (puts.Limit kinds.Index 2147483648) else None) ≡ None → n ≤ 2147483648
    by true is none = cc
    by false is none = grind (arith, nat_tests, is)

-- neither a read nor an opening tells a limit
pub read_unlimited : (full : ℕ) (es : List Entry) (why : ReadFault) → LimitsTrip full es (of_read why)
read_unlimited full es reads.Fault = tt
read_unlimited full es (reads.Damaged number at) = tt

pub opening_unlimited : (full : ℕ) (es : List Entry) (why : TableFault) → LimitsTrip full es (of_table why)
opening_unlimited full es tables.Fault = tt
opening_unlimited full es (tables.Damaged number at) = tt
opening_unlimited full es tables.Memory = tt

-- ---- where damage is told

-- damage of a block is damage of its table, also as the table was called before
pub damage_told : {F : Type 0} (g : Ghosts F) (t was : TableParts F) (index : ℕ) (why : ReadFault)
    → t ≡ was → IfDamage {T = Unit {0}} (Err why) (IsDamageAt g t index)
    → TellsOf (IsDamageOf g was) (of_read why)
damage_told g t was index reads.Fault same damage = tt
damage_told g t was index (reads.Damaged number at) same damage =
    record { index = index; is = subst (λ t. IsDamageAt g t index number at) same damage }

-- what tells no damage tells it nowhere
pub untold : (fact : ℕ → ℕ → Type 0) (why : TripFault) → (TellsDamage why → ⊥) → TellsOf fact why
untold fact Fault none = tt
untold fact (Limit kind most) none = tt
untold fact (Damaged table at) none = absurd (none tt)
untold fact Memory none = tt

pub none_told : {T : Type 0} (r : Result T TripFault) (fact : ℕ → ℕ → Type 0)
    → IfErr r (λ why. TellsDamage why → ⊥) → IfErr r (TellsOf fact)
none_told (Ok x) fact none = tt
none_told (Err why) fact none = untold fact why none

-- damage that an opening tells at a place
pub opening_told : (P : ℕ → Type 0) (Q : ℕ → ℕ → Type 0) (why : TableFault)
    → ((number at : ℕ) → P at → Q number at) → IsToldAt P why → TellsOf Q (of_table why)
opening_told P Q tables.Fault more told = tt
opening_told P Q (tables.Damaged number at) more told = more number at told
opening_told P Q tables.Memory more told = tt

items_end : (place : ℕ) (before : Bytes) (above end : ℕ) (items : List IndexItem)
    → AreItems place before above end items → place ≤ end
items_end place before above end [] are = omega (arith, are)
items_end place before above end (x ∷ items) are =
    omega (arith, items_end (place + x.len) x.key x.number end items are.1)

-- each block of an index lies in front of the index
item_within : (place : ℕ) (before : Bytes) (above end : ℕ) (items : List IndexItem) (index : ℕ)
    (item : IndexItem) → AreItems place before above end items → slice_get items index ≡ Some item
    → item.place ≤ end
item_within place before above end [] index item are there = cc
item_within place before above end (x ∷ items) zero item are there =
    let same : x.place ≡ item.place = ap (λ (i : IndexItem). i.place) (item_is x item there) in
    omega (
      arith,
      same,
      are.0.place_is,
      items_end (place + x.len) x.key x.number end items are.1,
    )
item_within place before above end (x ∷ items) (suc index) item are there =
    item_within (place + x.len) x.key x.number end items index item are.1 there

-- damage of a table that was opened lies within the length that its row tells
pub damage_within : {F T : Type 0} (g : Ghosts F) (t : TableParts F) (row : TableRow)
    (r : Result T TripFault) → FitsRow row t.items t.filter
    → IfErr r (TellsOf (IsDamageOf g t)) → IfErr r (TellsOf (λ number at. at ≤ row.bytes))
damage_within g t row (Ok x) fits told = tt
damage_within g t row (Err Fault) fits told = tt
damage_within g t row (Err (Limit kind most)) fits told = tt
damage_within g t row (Err (Damaged number at)) fits told =
    omega (
      arith,
      told.is.place,
      item_within 0 [] 0 fits.footer.index t.items told.index told.is.item
          fits.index.each told.is.indexed,
      fits.agrees.adjoin,
      fits.agrees.end,
    )
damage_within g t row (Err Memory) fits told = tt

-- where a file isn't there damage is told at 0, where it is there none is
pub gone_or_there : (sealed : Option (List ℕ)) (trip : TripFault)
    → ((bytes : List ℕ) → sealed ≡ Some bytes → TellsDamage trip → ⊥)
    → (sealed ≡ None → TellsOf (λ number at. at ≡ 0) trip)
    → TellsOf (λ number at. at ≡ 0) trip
gone_or_there None trip there gone = gone refl
gone_or_there (Some bytes) trip there gone = untold (λ number at. at ≡ 0) trip (there bytes refl)
