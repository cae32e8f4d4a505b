-- One entry's bytes: seventeen of a head, the rest of the key, the value.
use Rattle.std.specs.Prelude.{ℕ, ◌<◌, ◌^◌, if◌then◌else◌, ◌==◌, List, ◌∷◌, ◌++◌, length, take, drop, get_or}
use Rattle.byteorder.specs.Endian.{big_bytes, big_number}
use Rattle.peb_base.specs.declared.change.Change.{Change}
use Rattle.peb_base.specs.declared.change.Change.TheVariants.{Put, Delete}
use Rattle.peb_base.specs.EntryRefs.{change_of}
use Rattle.peb_base.specs.Entries.{value_of}
use Rattle.block_form.specs.declared.head.Head.{Head}
use Rattle.block_form.specs.declared.fields.Fields.{Fields}

unfoldable pub head_bytes : Head → List ℕ
head_bytes h = big_bytes 2 h.shared
    ++ (big_bytes 2 h.rest ++ (big_bytes 8 h.number ++ (h.code ∷ big_bytes 4 h.value)))

pub record FitsHead (h : Head) : Type 0 where
  pub shared : h.shared < 2 ^ 16
  pub rest : h.rest < 2 ^ 16
  pub number : h.number < 2 ^ 64
  pub value : h.value < 2 ^ 32

-- what seventeen bytes read as
unfoldable pub head_from : List ℕ → Head
head_from bytes =
    record {
      shared = big_number 2 bytes;
      rest = big_number 2 (drop 2 bytes);
      number = big_number 8 (drop 4 bytes);
      code = get_or bytes 12 0;
      value = big_number 4 (drop 13 bytes);
    }

-- an entry without the part of its key that it shares with the key before
pub record Parts : Type 0 where
  pub shared : ℕ
  pub rest : List ℕ
  pub number : ℕ
  pub change : Change

abbrev pub parts_of : Fields → Parts
parts_of f = record {
  shared = f.shared;
  rest = f.rest.now;
  number = f.number;
  change =
      change_of f.change;
}

abbrev pub code_of : Change → ℕ
code_of (Put value) = 1
code_of Delete = 0

abbrev pub change_from : ℕ → List ℕ → Change
change_from code value = if code == 1 then Put value else Delete

abbrev pub head_of_parts : Parts → Head
head_of_parts p =
    record {
      shared = p.shared;
      rest = length p.rest;
      number = p.number;
      code = code_of p.change;
      value = length (value_of p.change);
    }

unfoldable pub parts_bytes : Parts → List ℕ
parts_bytes p = head_bytes (head_of_parts p) ++ (p.rest ++ value_of p.change)

pub record FitsParts (p : Parts) : Type 0 where
  pub shared : p.shared < 2 ^ 16
  pub rest : length p.rest < 2 ^ 16
  pub number : p.number < 2 ^ 64
  pub value : length (value_of p.change) < 2 ^ 32

-- what bytes read as, with no test
abbrev pub parts_under : Head → List ℕ → Parts
parts_under h body =
    record {
      shared = h.shared;
      rest = take h.rest body;
      number = h.number;
      change =
          change_from h.code (take h.value (drop h.rest body));
    }

unfoldable pub parts_from : List ℕ → Parts
parts_from bytes = parts_under (head_from bytes) (drop 17 bytes)

abbrev pub behind_under : Head → List ℕ → List ℕ
behind_under h body = drop h.value (drop h.rest body)

unfoldable pub behind_from : List ℕ → List ℕ
behind_from bytes = behind_under (head_from bytes) (drop 17 bytes)
