-- What damage of a block says of reading it.
use Rattle.std.proofs.Common.{◌≡◌, ℕ, ◌<◌, ◌∙◌, List, length, take, drop, sym, ap, subst, arith}
use Rattle.std.specs.Prelude.{IsTrue}
use Rattle.block_form.specs.Form.{IsBlock}
use Rattle.disk_model.specs.declared.table_handle.TableHandle.{Ghosts}
use Rattle.peb_base.specs.declared.entry.Entry.{Entry}
use Rattle.table_file.specs.Form.{item_of}
use Rattle.table_file.specs.Tables.{TableParts}
use Rattle.table_file.specs.declared.index_item.IndexItem.{IndexItem}
use Rattle.table_cursor.specs.Agreeing.{Agrees, IsDamageAt}
use Rattle.table_cursor.specs.IndexLaws.{item_is}
use Rattle.table_cursor.specs.Walking.{CanBeRead}

-- a block that is damaged can't be read
pub damage_or_read : {F : Type 0} (g : Ghosts F) (t : TableParts F) (index number at : ℕ)
    (block : List Entry) → IsTrue g.tells → IsDamageAt g t index number at
    → CanBeRead g t index block → ⊥
damage_or_read g t index number at block told damage read =
    let page = read.page in
    let shows = read.shows in
    let file = g.bytes t.file in
    let item : damage.item ≡ item_of page.at page.entries =
    item_is damage.item (item_of page.at page.entries)
    (sym damage.indexed ∙ shows.agrees.indexed) in
    let place : page.at ≡ at = sym (damage.place ∙ ap (λ (i : IndexItem). i.place) item) in
    let long : damage.item.len ≡ length page.bytes =
    ap (λ (i : IndexItem). i.len) item ∙ sym (ap length shows.spelled) in
    let same : take damage.item.len (drop at file) ≡ page.bytes =
    ap (λ n. take n (drop at file)) long
    ∙ ap (λ n. take (length page.bytes) (drop n file)) (sym place) ∙ sym (shows.read told) in
    let some : 0 < length page.entries = omega (arith, shows.inside) in
    let is : IsBlock page.entries page.bytes = record {
      some = some;
      small = shows.small;
      each = read.sorted;
      spelled = shows.spelled;
    } in
    damage.none told page.entries
    (subst (λ n. Agrees t.row t.items index n page.entries) place shows.agrees)
    (subst (IsBlock page.entries) (sym same) is)
