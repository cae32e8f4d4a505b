-- One entry more in what a row tells.
use Rattle.std.proofs.Common.{◌≡◌, ℕ, ◌+◌, ◌*◌, ◌^◌, ◌<◌, ◌≤◌, min, max, List, [], ◌∷◌, ◌++◌, length, refl, sym, ap, ◌∙◌, arith, length-append}
use Rattle.std.proofs.lemmas.List.Sums.{sum_by_push, sum_by-cons}
use Rattle.peb_base.specs.Entries.{value_of, IsEntry, AscendFrom, AreSorted}
use Rattle.peb_base.specs.Keys.{Bytes}
use Rattle.peb_base.specs.Tables.{first_key, last_key, least_number, greatest_number, raw_length, IsRowOf}
use Rattle.peb_base.specs.declared.table_row.TableRow.{TableRow}
use Rattle.peb_base.specs.declared.entry.Entry.{Entry}
use Rattle.table_file.specs.Form.{last_number}
use Rattle.table_file.specs.Sums.{Sums, least_below}
use Rattle.table_file.specs.declared.summary.Summary.{Summary}

pub last_key-push : (es : List Entry) (e : Entry) → last_key (es ++ e ∷ []) ≡ e.key
last_key-push [] e = refl
last_key-push (f ∷ []) e = refl
last_key-push (f ∷ g ∷ es) e = last_key-push (g ∷ es) e

pub last_number-push : (es : List Entry) (e : Entry) → last_number (es ++ e ∷ []) ≡ e.number
last_number-push [] e = refl
last_number-push (f ∷ []) e = refl
last_number-push (f ∷ g ∷ es) e = last_number-push (g ∷ es) e

pub least-push : (es : List Entry) (e : Entry) → e.number < 2 ^ 63 → least_below (es ++ e ∷ []) ≡ min (least_below es) e.number
least-push [] e small = omega (arith, small)
least-push (f ∷ es) e small = omega (arith, least-push es e small)

pub greatest-push : (es : List Entry) (e : Entry) → greatest_number (es ++ e ∷ []) ≡ max (greatest_number es) e.number
greatest-push [] e = omega arith
greatest-push (f ∷ es) e = omega (arith, greatest-push es e)

pub raw-push : (es : List Entry) (e : Entry) → raw_length (es ++ e ∷ []) ≡ raw_length es + raw_length (e ∷ [])
raw-push es e = omega (arith, sum_by_push (λ (e : Entry). length e.key + length (value_of e.change)) es e)

-- the least number of entries within their limits
pub least-is : (before : Bytes) (above : ℕ) (es : List Entry) → AscendFrom before above es → 0 < length es → least_below es ≡ least_number es
least-is before above [] each some = absurd (omega (arith, some))
least-is before above (e ∷ []) each some = omega (arith, each.0.number)
least-is before above (e ∷ f ∷ es) each some = ap (min e.number) (least-is e.key e.number (f ∷ es) each.2 (omega arith))

-- keys and values are short
pub raw-small : (before : Bytes) (above : ℕ) (es : List Entry) → AscendFrom before above es → raw_length es ≤ 33792 * length es
raw-small before above [] each = omega arith
raw-small before above (e ∷ es) each =
    omega (arith, raw-small e.key e.number es each.2, sum_by-cons (λ (e : Entry). length e.key + length (value_of e.change)) e es, each.0.key, each.0.value)

-- the last of sorted entries is within its limits
pub last_is : (before : Bytes) (above : ℕ) (es : List Entry) (e : Entry) → AscendFrom before above (es ++ e ∷ []) → IsEntry e
last_is before above [] e each = each.0
last_is before above (f ∷ es) e each = last_is f.key f.number es e each.2

-- the entries before the last are sorted
pub front_sorted : (before : Bytes) (above : ℕ) (es : List Entry) (e : Entry) → AscendFrom before above (es ++ e ∷ []) → AscendFrom before above es
front_sorted before above [] e each = tt
front_sorted before above (f ∷ es) e each = (each.0, each.1, front_sorted f.key f.number es e each.2)

-- what the last of sorted entries may be
pub record LastFits (es : List Entry) : Type 0 where
  pub some : 0 < length (last_key es)
  pub short : length (last_key es) ≤ 1024
  pub number : last_number es < 2 ^ 63

pub last_fits : (before : Bytes) (above : ℕ) (es : List Entry) → AscendFrom before above es → 0 < length es → LastFits es
last_fits before above [] each some = absurd (omega (arith, some))
last_fits before above (e ∷ []) each some = record { some = each.0.some; short = each.0.key; number = each.0.number }
last_fits before above (e ∷ f ∷ es) each some =
    let later = last_fits e.key e.number (f ∷ es) each.2 (omega arith) in record { some = later.some; short = later.short; number = later.number }

-- one entry more
pub sums_on : (entries raw first last latest : ℕ) (smallest largest : Bytes) (s : Summary) (es : List Entry) (e : Entry) → Sums s es → IsEntry e
    → entries ≡ s.entries + 1 → raw ≡ s.raw + (length e.key + length (value_of e.change)) → first ≡ min s.first e.number → last ≡ max s.last e.number → latest ≡ e.number → largest ≡ e.key
    → (s.entries ≡ 0 → smallest ≡ e.key) → (0 < s.entries → smallest ≡ s.smallest)
    → Sums (record { entries = entries; raw = raw; first = first; last = last; smallest = smallest; largest = largest; latest = latest }) (es ++ e ∷ [])
sums_on entries raw first last latest smallest largest s es e sums is a b c d f g none some =
    record {
      entries = omega (arith, a, sums.entries, length-append es (e ∷ []));
      raw = omega (arith, b, sums.raw, raw-push es e);
      first = c ∙ ap (λ n. min n e.number) sums.first ∙ sym (least-push es e is.number);
      last = d ∙ ap (λ n. max n e.number) sums.last ∙ sym (greatest-push es e);
      smallest = by es sums.entries sums.smallest;
      largest = g ∙ sym (last_key-push es e);
      latest = f ∙ sym (last_number-push es e);
    }
  where
    by : (es : List Entry) → s.entries ≡ length es → s.smallest ≡ first_key es → smallest ≡ first_key (es ++ e ∷ [])
    by [] count is_first = none count
    by (h ∷ es) count is_first = some (omega (arith, count)) ∙ is_first

-- the row of entries
pub row_of : (row : TableRow) (s : Summary) (es : List Entry) → Sums s es → AreSorted es → 0 < length es → row.smallest ≡ s.smallest → row.largest ≡ s.largest → row.entries ≡ s.entries → row.raw ≡ s.raw → row.first ≡ s.first → row.last ≡ s.last → IsRowOf row es
row_of row s es sums sorted some a b c d e f =
    record {
      some = some;
      smallest = a ∙ sums.smallest;
      largest = b ∙ sums.largest;
      entries = c ∙ sums.entries;
      raw = d ∙ sums.raw;
      first = e ∙ sums.first ∙ least-is [] 0 es sorted some;
      last = f ∙ sums.last;
    }

-- what a row needs of sorted entries
pub record FirstFits (es : List Entry) : Type 0 where
  pub some : 0 < length (first_key es)
  pub short : length (first_key es) ≤ 1024
  pub least : least_below es < 2 ^ 63
  pub greatest : greatest_number es < 2 ^ 63

greatest-small : (before : Bytes) (above : ℕ) (es : List Entry) → AscendFrom before above es → greatest_number es < 2 ^ 63
greatest-small before above [] each = omega arith
greatest-small before above (e ∷ es) each = omega (arith, greatest-small e.key e.number es each.2, each.0.number)

pub first_fits : (es : List Entry) → AreSorted es → 0 < length es → FirstFits es
first_fits [] each some = absurd (omega (arith, some))
first_fits (e ∷ es) each some =
    record { some = each.0.some; short = each.0.key; least = omega (arith, each.0.number); greatest = greatest-small [] 0 (e ∷ es) each }
