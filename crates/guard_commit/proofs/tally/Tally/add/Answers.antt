use Rattle.std.proofs.Common.{◌≡◌, ◌<◌, ◌⊎◌, ℕ, ◌++◌, ◌∷◌, [], min, List, length, inl, inr, length-append, ◌∙◌, sym, ap, arith}
use Rattle.peb_base.specs.EntryRefs.{entry_of}
use Rattle.peb_base.specs.Tables.{least_number}
use Rattle.peb_base.specs.declared.entry.Entry.{Entry}
use Rattle.guard_commit.proofs.Counting.{least_first, least_on, greatest_on, raw_on}
use Rattle.guard_commit.proofs.tally.Tally.add.Goals as goal

-- the least number with one entry more, where that of none is the entry's
least_with : (count least now : ℕ) (es : List Entry) (e : Entry) → count ≡ length es
    → least ≡ least_number es → (count ≡ 0 → now ≡ e.number)
    → (0 < count → now ≡ min least e.number) → now ≡ least_number (es ++ e ∷ [])
least_with count least now es e counted is none some = by (decide (length es))
  where
    decide : (n : ℕ) → (n ≡ 0) ⊎ (0 < n)
    decide n = grind arith

    by : (length es ≡ 0) ⊎ (0 < length es) → now ≡ least_number (es ++ e ∷ [])
    by (inl h) = none (omega (arith, counted, h)) ∙ sym (least_first es e h)
    by (inr h) = some (omega (arith, counted, h)) ∙ ap (λ n. min n e.number) is ∙ sym (least_on es e h)

pub returns-clause-added : goal.returns-clause-added
returns-clause-added c = λ yes es is.
    let e = entry_of c.args.entry.now in
    record {
      entries = omega (arith, is.entries, length-append es (e ∷ []));
      raw = omega (arith, is.raw, raw_on es e, c.len.ensures);
      first = least_with c.args.self.now.entries c.args.self.now.first c.first_of-self.result es e is.entries is.first
          c.first_of-self.ensures.none c.first_of-self.ensures.some;
      last = omega (arith, is.last, greatest_on es e, c.max-self.ensures);
    }
