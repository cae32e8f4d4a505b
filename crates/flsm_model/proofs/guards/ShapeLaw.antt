-- What every legal record leaves.
use Rattle.std.proofs.Common.{◌≡◌, ◌≢◌, ℕ, ◌<◌, Bool, true, false, cond, ◌||◌, not, List, [], ◌∷◌, ◌++◌, ◌⊎◌, inl, inr, refl, sym, ◌∙◌, ap, subst, arith}
use Rattle.std.specs.Prelude.{map, filter, ◌==◌}
use Rattle.std.proofs.lemmas.Bool.{and_parts, and_from, true≢false, eqb-true, ltb-true, eq-eqb}
use Rattle.peb_base.specs.Numbers.{session_of}
use Rattle.peb_base.specs.Keys.{key_le}
use Rattle.peb_base.specs.Profiles.{column, Column}
use Rattle.peb_base.specs.declared.table_row.TableRow.{TableRow}
use Rattle.flsm_model.specs.declared.edit.Edit.{Edit}
use Rattle.flsm_model.specs.declared.edit.Edit.TheVariants.{Open, Flush, Move, Cut, Merge}
use Rattle.flsm_model.specs.Shape.{Record, Shape, empty_shape, shape_after, shape_from, shape_of, has_number, rows_without}
use Rattle.flsm_model.specs.Fits.{fits, fit_from, is_new, rows_are_new, numbers_differ}
use Rattle.peb_base.specs.Members.{IsIn}
use Rattle.flsm_model.specs.Sound.{NumbersSound, RecordsSound}
use Rattle.flsm_model.proofs.guards.Facts.{move_facts, flush_facts, cut_facts, merge_facts}
use Rattle.flsm_model.proofs.contents.Base.{kept_empty}
use Rattle.flsm_model.proofs.guards.InGuards.{InGuard, InGuards, in_guards_step}
use Rattle.flsm_model.proofs.lists.Lists.{in_filter, in_append, each_in}
use Rattle.flsm_model.proofs.histories.Sessions.{has_parts, row_number, each_row}

number : TableRow → ℕ
number r = r.number

has_left : (n : ℕ) (ns ms : List ℕ) → has_number n ns ≡ true → has_number n (ns ++ ms) ≡ true
has_left n [] ms h = absurd (true≢false (sym h))
has_left n (a ∷ ns) ms h = by (n == a) (has_left n ns ms) h
  where
    by : (b : Bool) → (has_number n ns ≡ true → has_number n (ns ++ ms) ≡ true) → (b || has_number n ns) ≡ true → (b || has_number n (ns ++ ms)) ≡ true
    by true rest h = refl
    by false rest h = rest h

has_right : (n : ℕ) (ns ms : List ℕ) → has_number n ms ≡ true → has_number n (ns ++ ms) ≡ true
has_right n [] ms h = h
has_right n (a ∷ ns) ms h = by (n == a) (has_right n ns ms h)
  where
    by : (b : Bool) → has_number n (ns ++ ms) ≡ true → (b || has_number n (ns ++ ms)) ≡ true
    by true rest = refl
    by false rest = rest

is_numbered : (r : TableRow) (rs : List TableRow) → IsIn r rs → has_number r.number (map (λ (x : TableRow). x.number) rs) ≡ true
is_numbered r [] h = absurd h
is_numbered r (x ∷ rs) h = elim h [
  | inl same ↦ by (r.number == x.number) (eq-eqb r.number x.number (ap (λ (y : TableRow). y.number) same))
  | inr rest ↦ later (r.number == x.number) (is_numbered r rs rest)
]
  where
    by : (b : Bool) → b ≡ true → (b || has_number r.number (map (λ (y : TableRow). y.number) rs)) ≡ true
    by b is = ap (λ c. c || has_number r.number (map (λ (y : TableRow). y.number) rs)) is

    later : (b : Bool) → has_number r.number (map (λ (y : TableRow). y.number) rs) ≡ true → (b || has_number r.number (map (λ (y : TableRow). y.number) rs)) ≡ true
    later true rest = refl
    later false rest = rest

-- what a new row is
pub record NewRow (session : ℕ) (used : List ℕ) (r : TableRow) : Type 0 where
  pub ordered : key_le r.smallest r.largest ≡ true
  pub here : session_of r.number ≡ session
  pub unused : has_number r.number used ≡ false

not_of : (b : Bool) → not b ≡ true → b ≡ false
not_of true h = absurd (true≢false (sym h))
not_of false h = refl

new_row : (session : ℕ) (used : List ℕ) (rs : List TableRow) (r : TableRow) → rows_are_new session used rs ≡ true → IsIn r rs → NewRow session used r
new_row session used rs r new among =
    let one = each_row (is_new session used) r rs (and_parts _ _ new).0 among in
    let p2 = and_parts _ _ one in
    let p1 = and_parts _ _ p2.0 in
    record {
      ordered = (and_parts _ _ (and_parts _ _ (and_parts _ _ p1.0).0).0).0;
      here = eqb-true (session_of r.number) session (and_parts _ _ p1.1).0;
      unused = not_of (has_number r.number used) p2.1;
    }

-- numbers of two lists that differ, and from each other
differ_append : (xs ys : List TableRow) → numbers_differ (map (λ (r : TableRow). r.number) xs) ≡ true → numbers_differ (map (λ (r : TableRow). r.number) ys) ≡ true
    → ((x y : TableRow) → IsIn x xs → IsIn y ys → x.number ≢ y.number) → numbers_differ (map (λ (r : TableRow). r.number) (xs ++ ys)) ≡ true
differ_append [] ys one two apart = two
differ_append (x ∷ xs) ys one two apart =
    let p = and_parts (not (has_number x.number (map (λ (r : TableRow). r.number) xs))) _ one in
    and_from (not (has_number x.number (map (λ (r : TableRow). r.number) (xs ++ ys)))) _ (none (has_number x.number (map (λ (r : TableRow). r.number) (xs ++ ys))) refl p.0)
    (differ_append xs ys p.1 two (λ a b h k. apart a b (inr h) k))
  where
    none : (b : Bool) → has_number x.number (map (λ (r : TableRow). r.number) (xs ++ ys)) ≡ b → not (has_number x.number (map (λ (r : TableRow). r.number) xs)) ≡ true → not (has_number x.number (map (λ (r : TableRow). r.number) (xs ++ ys))) ≡ true
    none false is h = ap not is
    none true is h =
        let found = row_number x.number (xs ++ ys) is in
        absurd (elim (in_append found.0 xs ys found.1) [
          | inl left ↦ true≢false (sym (ap (λ n. has_number n (map (λ (r : TableRow). r.number) xs)) found.2 ∙ is_numbered found.0 xs left) ∙ not_of (has_number x.number (map (λ (r : TableRow). r.number) xs)) h)
          | inr right ↦ apart x found.0 (inl refl) right found.2
        ])

pub differ_fewer : (p : TableRow → Bool) (xs : List TableRow) → numbers_differ (map (λ (r : TableRow). r.number) xs) ≡ true → numbers_differ (map (λ (r : TableRow). r.number) (filter p xs)) ≡ true
differ_fewer p [] h = refl
differ_fewer p (x ∷ xs) h =
    let q = and_parts (not (has_number x.number (map (λ (r : TableRow). r.number) xs))) _ h in
    by (p x) (differ_fewer p xs q.1) q.0
  where
    none : (b : Bool) → has_number x.number (map (λ (r : TableRow). r.number) (filter p xs)) ≡ b → not (has_number x.number (map (λ (r : TableRow). r.number) xs)) ≡ true → not (has_number x.number (map (λ (r : TableRow). r.number) (filter p xs))) ≡ true
    none false is h = ap not is
    none true is h =
        let found = row_number x.number (filter p xs) is in
        absurd (true≢false (sym (ap (λ n. has_number n (map (λ (r : TableRow). r.number) xs)) found.2 ∙ is_numbered found.0 xs (in_filter p found.0 xs found.1).0) ∙ not_of (has_number x.number (map (λ (r : TableRow). r.number) xs)) h))

    by : (b : Bool) → numbers_differ (map (λ (r : TableRow). r.number) (filter p xs)) ≡ true → not (has_number x.number (map (λ (r : TableRow). r.number) xs)) ≡ true
        → numbers_differ (map (λ (r : TableRow). r.number) (cond b (x ∷ filter p xs) (filter p xs))) ≡ true
    by true rest h = and_from (not (has_number x.number (map (λ (r : TableRow). r.number) (filter p xs)))) _ (none (has_number x.number (map (λ (r : TableRow). r.number) (filter p xs))) refl h) rest
    by false rest h = rest

-- ---- one edit more

-- what an edit other than an opening makes of numbers
exchange_sound : (s t : Shape) (inputs : List ℕ) (outputs : List TableRow) → t.session ≡ s.session → t.used ≡ s.used ++ map (λ (r : TableRow). r.number) outputs → t.live ≡ rows_without inputs s.live ++ outputs
    → rows_are_new s.session s.used outputs ≡ true → NumbersSound s → NumbersSound t
exchange_sound s t inputs outputs session used live new h = record {
  own = λ n among. own n (has_parts n s.used (map (λ (r : TableRow). r.number) outputs) (subst (λ (ns : List ℕ). has_number n ns ≡ true) used among));
  known = λ r among. known r (in_append r (rows_without inputs s.live) outputs (subst (IsIn r) live among));
  differ = subst (λ (rs : List TableRow). numbers_differ (map (λ (r : TableRow). r.number) rs) ≡ true) (sym live)
      (differ_append (rows_without inputs s.live) outputs (differ_fewer (λ r. not (has_number r.number inputs)) s.live h.differ) (and_parts _ _ new).1 apart);
}
  where
    own : (n : ℕ) → (has_number n s.used ≡ true) ⊎ (has_number n (map (λ (r : TableRow). r.number) outputs) ≡ true) → session_of n ≡ t.session
    own n (inl old) = h.own n old ∙ sym session
    own n (inr one) = let found = row_number n outputs one in ap session_of found.2 ∙ (new_row s.session s.used outputs found.0 new found.1).here ∙ sym session

    known : (r : TableRow) → IsIn r (rows_without inputs s.live) ⊎ IsIn r outputs → (session_of r.number < t.session) ⊎ (has_number r.number t.used ≡ true)
    known r (inl old) = elim (h.known r (in_filter (λ x. not (has_number x.number inputs)) r s.live old).0) [
      | inl earlier ↦ inl (omega (arith, earlier, session))
      | inr is_used ↦ inr (subst (λ (ns : List ℕ). has_number r.number ns ≡ true) (sym used) (has_left r.number s.used (map (λ (x : TableRow). x.number) outputs) is_used))
    ]
    known r (inr one) = inr (subst (λ (ns : List ℕ). has_number r.number ns ≡ true) (sym used) (has_right r.number s.used (map (λ (x : TableRow). x.number) outputs) (is_numbered r outputs one)))

    apart : (x y : TableRow) → IsIn x (rows_without inputs s.live) → IsIn y outputs → x.number ≢ y.number
    apart x y left right same =
        let one = new_row s.session s.used outputs y new right in
        elim (h.known x (in_filter (λ z. not (has_number z.number inputs)) x s.live left).0) [
          | inl earlier ↦ absurd (omega (arith, earlier, ap session_of same, one.here))
          | inr is_used ↦ true≢false (sym is_used ∙ ap (λ n. has_number n s.used) same ∙ one.unused)
        ]

opened_sound : (s : Shape) (session : ℕ) → s.session < session → NumbersSound s → NumbersSound (record s { session = session; used = [] })
opened_sound s session more h = record {
  own = λ n among. absurd (true≢false (sym among));
  known = λ r among. elim (h.known r among) [
    | inl earlier ↦ inl (omega (arith, earlier, more))
    | inr is_used ↦ inl (omega (arith, h.own r.number is_used, more))
  ];
  differ = h.differ;
}

sound_step : (o : Column) (s : Shape) (e : Edit) → fits o s e ≡ true → NumbersSound s → NumbersSound (shape_after s e)
sound_step o s (Open session log) f h =
    let more : s.session < session = ltb-true s.session session (and_parts _ _ (and_parts _ _ (and_parts _ _ f).0).0).0 in opened_sound s session more h
sound_step o s (Flush row from to log chosen) f h = exchange_sound s (shape_after s (Flush row from to log chosen)) [] (row ∷ []) refl refl refl (flush_facts o s row from to log chosen f).fresh h
sound_step o s (Move level floor inputs outputs) f h = exchange_sound s (shape_after s (Move level floor inputs outputs)) inputs outputs refl refl refl (move_facts o s level floor inputs outputs f).fresh h
sound_step o s (Cut level keys inputs outputs) f h = exchange_sound s (shape_after s (Cut level keys inputs outputs)) inputs outputs refl refl refl (cut_facts o s level keys inputs outputs f).fresh h
sound_step o s (Merge floor whole inputs outputs) f h = exchange_sound s (shape_after s (Merge floor whole inputs outputs)) inputs outputs refl refl refl (merge_facts o s floor whole inputs outputs f).fresh h

pub sound_from : (o : Column) (s : Shape) (r : Record) → fit_from o s r ≡ true → NumbersSound s → NumbersSound (shape_from s r)
sound_from o s [] f h = h
sound_from o s (e ∷ es) f h = let p = and_parts (fits o s e) _ f in sound_from o (shape_after s e) es p.1 (sound_step o s e p.0 h)

guards_from : (o : Column) (s : Shape) (r : Record) → fit_from o s r ≡ true → InGuards o s → InGuards o (shape_from s r)
guards_from o s [] f h = h
guards_from o s (e ∷ es) f h = let p = and_parts (fits o s e) _ f in guards_from o (shape_after s e) es p.1 (in_guards_step o s e h p.0)

pub records_sound : RecordsSound
records_sound p r legal =
    let o = column p in
    let g = guards_from o (empty_shape o) r legal (kept_empty o).guards in
    record {
      count = g.count;
      rows = λ x i. each_in (λ (z : TableRow). key_le z.smallest z.largest ≡ true) x (shape_of o r).live g.rows i;
      inside = λ x i. each_in (InGuard (shape_of o r)) x (shape_of o r).live g.inside i;
      numbers = sound_from o (empty_shape o) r legal (record { own = λ n h. absurd (true≢false (sym h)); known = λ x i. absurd i; differ = refl });
    }
