-- Where the bytes of a table are damaged.
use Rattle.std.proofs.Common.{◌≡◌, ◌≢◌, ◌⊎◌, inl, inr, ℕ, ◌-◌, ◌<◌, ◌≤◌, ◌^◌, ◌∙◌, List, length, take, drop, refl, sym, ap, arith, length-drop}
use Rattle.std.specs.Prelude.{min}
use Rattle.std.proofs.lemmas.Bool.{cases_eq, cases_lt}
use Rattle.std.proofs.lemmas.List.{length-take}
use Rattle.peb_base.specs.declared.table_row.TableRow.{TableRow}
use Rattle.table_file.specs.Damages.{IsDamage, IsToldAt, EndsWithFooter, IsPlaceOfDamage}
use Rattle.table_file.specs.Form.{footer_bytes}
use Rattle.table_file.specs.Opening.{IsFooterOf}
use Rattle.table_file.specs.declared.footer.Footer.{Footer}
use Rattle.table_file.specs.declared.table_fault.TableFault.{TableFault}
use Rattle.table_file.specs.declared.table_fault.TableFault.TheVariants.{Fault, Damaged, Memory}
use Rattle.table_file.proofs.Openings.{one_footer}

-- what isn't damage is told at no place
pub untold : (IsPlace : ℕ → Type 0) (why : TableFault) → (IsDamage why → ⊥) → IsToldAt IsPlace why
untold IsPlace Fault none = tt
untold IsPlace (Damaged table at) none = absurd (none tt)
untold IsPlace Memory none = tt

-- a row leaves no room for a footer
pub tiny_place : (row : TableRow) (bytes : List ℕ) (at : ℕ) → row.bytes < 48
    → (length bytes ≡ row.bytes → at ≡ 0) → (length bytes ≢ row.bytes → at ≡ min (length bytes) row.bytes)
    → IsPlaceOfDamage row bytes at
tiny_place row bytes at small whole other = record {
  other_length = other;
  tiny = λ lt long. whole long;
  no_footer = λ le long none. absurd (omega (arith, small, le));
  footer_stands = λ footer ends. absurd (omega (arith, small, ends.agrees.end));
}

-- the bytes aren't as many as the row tells
pub length_place : (row : TableRow) (bytes : List ℕ) (at : ℕ) → length bytes ≢ row.bytes
    → at ≡ min (length bytes) row.bytes → IsPlaceOfDamage row bytes at
length_place row bytes at other is = record {
  other_length = λ differ. is;
  tiny = λ lt long. absurd (other long);
  no_footer = λ le long none. absurd (other long);
  footer_stands = λ footer ends. absurd (other ends.long);
}

-- so many bytes, at most 49, were read where the footer's are by the row
pub tail_count : (row : TableRow) (bytes read : List ℕ) → read ≡ take 49 (drop (row.bytes - 48) bytes)
    → length read ≡ min 49 (length bytes - (row.bytes - 48))
tail_count row bytes read is =
    ap length is ∙ length-take 49 (drop (row.bytes - 48) bytes)
    ∙ ap (min 49) (length-drop (row.bytes - 48) bytes)

-- 48 bytes were read there, and are no footer that agrees
pub footer_place : (row : TableRow) (bytes read : List ℕ) → 48 ≤ row.bytes → length bytes ≡ row.bytes → read ≡ drop (row.bytes - 48) bytes
    → ((footer : Footer) → IsFooterOf row footer → read ≢ footer_bytes footer) → IsPlaceOfDamage row bytes (row.bytes - 48)
footer_place row bytes read le long is none = record {
  other_length = λ differ. absurd (differ long);
  tiny = λ lt long. absurd (omega (arith, lt, le));
  no_footer = λ le long none. refl;
  footer_stands = λ footer ends. absurd (none footer ends.agrees (is ∙ ends.spelled));
}

-- a footer stands there that agrees
pub index_place : (row : TableRow) (bytes : List ℕ) (footer : Footer) → row.bytes < 2 ^ 64 → EndsWithFooter row bytes footer → IsPlaceOfDamage row bytes footer.index
index_place row bytes footer fits ends = record {
  other_length = λ differ. absurd (differ ends.long);
  tiny = λ lt long. absurd (omega (arith, lt, ends.agrees.end));
  no_footer = λ le long none. absurd (none footer ends);
  footer_stands = λ f also.
      ap (λ (x : Footer). x.index) (one_footer row footer f fits ends.agrees also.agrees (sym ends.spelled ∙ also.spelled));
}

-- ---- places that the row tells

-- a fault that is told at a place is told at one of which more is true
pub told_on : (P Q : ℕ → Type 0) (why : TableFault) → ((at : ℕ) → P at → Q at) → IsToldAt P why
    → IsToldAt Q why
told_on P Q Fault more told = tt
told_on P Q (Damaged table at) more told = more at told
told_on P Q Memory more told = tt

-- the places of two tellings are one, where they can't differ otherwise
place_twice : (row : TableRow) (bytes : List ℕ) (a b : ℕ) → IsPlaceOfDamage row bytes a
    → IsPlaceOfDamage row bytes b → a ≢ b → a ≡ b
place_twice row bytes a b pa pb differ = by (cases_eq (length bytes) row.bytes)
  where
    none : (footer : Footer) → EndsWithFooter row bytes footer → ⊥
    none footer ends = differ (pa.footer_stands footer ends ∙ sym (pb.footer_stands footer ends))

    as_long : length bytes ≡ row.bytes → (row.bytes < 48) ⊎ (48 ≤ row.bytes) → a ≡ b
    as_long long (inl small) = pa.tiny small long ∙ sym (pb.tiny small long)
    as_long long (inr le) = pa.no_footer le long none ∙ sym (pb.no_footer le long none)

    by : (length bytes ≡ row.bytes) ⊎ (length bytes ≡ row.bytes → ⊥) → a ≡ b
    by (inl long) = as_long long (cases_lt row.bytes 48)
    by (inr other) = pa.other_length other ∙ sym (pb.other_length other)

pub one_place : (row : TableRow) (bytes : List ℕ) (a b : ℕ) → IsPlaceOfDamage row bytes a
    → IsPlaceOfDamage row bytes b → a ≡ b
one_place row bytes a b pa pb = by (cases_eq a b)
  where
    by : (a ≡ b) ⊎ (a ≡ b → ⊥) → a ≡ b
    by (inl same) = same
    by (inr differ) = place_twice row bytes a b pa pb differ
