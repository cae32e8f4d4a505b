-- What a crash leaves of one file doesn't depend on what it leaves of the others.
use Rattle.std.proofs.Common.{◌≡◌, ℕ, true, false, cond, List, [], ◌∷◌, length, Option, None}
use Rattle.disk_model.specs.declared.journal_file.JournalFile.{JournalFile}
use Rattle.disk_model.specs.declared.call.Call.{Call}
use Rattle.disk_model.specs.declared.call.Call.TheVariants.{Write, Sync, Remove}
use Rattle.disk_model.specs.Images.{Image, Tears, In}
use Rattle.disk_model.specs.Files.{same_file}
use Rattle.disk_model.specs.Past.{IsLeft, read_after}

-- at one file this image, and at the others that one
abbrev pub mixed : JournalFile → Image → Image → Image
mixed file here there other = cond (same_file other file) (here other) (there other)

-- what holds of both holds of the mixture, file by file
pick : (file : JournalFile) (P : (JournalFile) → Option (List ℕ) → Option (List ℕ) → Type 0) (a0 a b0 b : Image) (other : JournalFile) → P other (a0 other) (a other) → P other (b0 other) (b other) → P other (mixed file a0 b0 other) (mixed file a b other)
pick file P a0 a b0 b other of_a of_b = elim (same_file other file) as (λ v. P other (cond v (a0 other) (b0 other)) (cond v (a other) (b other))) [ true ↦ of_a | false ↦ of_b ]

mix_in : (file target : JournalFile) (step : Option (List ℕ) → Option (List ℕ) → Type 0) (a0 a b0 b : Image) → In target step a0 a → In target step b0 b → In target step (mixed file a0 b0) (mixed file a b)
mix_in file target step a0 a b0 b in_a in_b = record {
  here = pick file (λ _ old new. step old new) a0 a b0 b target in_a.here in_b.here;
  elsewhere = λ other differ. pick file (λ _ old new. new ≡ old) a0 a b0 b other (in_a.elsewhere other differ) (in_b.elsewhere other differ);
}

pub mix : (file : JournalFile) (first : Image) (calls : List Call) (a b : Image) → IsLeft first calls a → IsLeft first calls b → IsLeft first calls (mixed file a b)
mix file first [] a b of_a of_b = λ i other. pick file (λ o old new. new ≡ first o) a a b b other (λ j. of_a j other) (λ j. of_b j other) i
mix file first (Write target at bytes ∷ earlier) a b of_a of_b = (mixed file of_a.0 of_b.0, mix file first earlier of_a.0 of_b.0 of_a.1 of_b.1, mix_in file target (Tears at (length bytes.items)) of_a.0 a of_b.0 b of_a.2 of_b.2)
mix file first (Sync target ∷ earlier) a b of_a of_b = (mix file first earlier a b of_a.0 of_b.0, pick file (λ _ old new. new ≡ read_after first earlier target) a a b b target of_a.1 of_b.1)
mix file first (Remove target ∷ earlier) a b of_a of_b = (mixed file of_a.0 of_b.0, mix file first earlier of_a.0 of_b.0 of_a.1 of_b.1, mix_in file target (λ old new. new ≡ None) of_a.0 a of_b.0 b of_a.2 of_b.2)
