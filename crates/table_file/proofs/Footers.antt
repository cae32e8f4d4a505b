-- The footer that agrees with a row.
use Rattle.std.proofs.Common.{◌≡◌, ℕ, ◌<◌, ◌^◌, List, ◌++◌, drop, ap, ◌∙◌, arith}
use Rattle.byteorder.specs.Endian.{big_bytes, big_number}
use Rattle.byteorder.specs.Numbers.{big_number-reads_back}
use Rattle.peb_base.specs.declared.table_row.TableRow.{TableRow}
use Rattle.table_file.specs.Form.{footer_bytes, magic}
use Rattle.table_file.specs.Opening.{IsFooterOf}
use Rattle.table_file.specs.declared.footer.Footer.{Footer}

-- the place of the index stands behind the number
pub index_at : (f : Footer) → f.index < 2 ^ 64 → big_number 8 (drop 8 (footer_bytes f)) ≡ f.index
unfolding footer_bytes
index_at f small = big_number-reads_back 8 f.index (big_bytes 4 f.index_len ++ (big_bytes 8 f.filter ++ (big_bytes 4 f.filter_len ++ (big_bytes 8 f.entries ++ magic)))) (omega (arith, small))

-- where a footer says that the index is
pub index_read : (row : TableRow) (bytes : List ℕ) (f : Footer) (index : ℕ) → IsFooterOf row f → row.bytes < 2 ^ 64 → bytes ≡ footer_bytes f → index ≡ big_number 8 (drop 8 bytes) → index ≡ f.index
index_read row bytes f index is small spelled read = read ∙ ap (λ l. big_number 8 (drop 8 l)) spelled ∙ index_at f (omega (arith, is.adjoin, is.end, small))
