-- Stages of a seat, and the tickets at them.
use Rattle.std.proofs.Common.{◌≡◌, ◌≢◌, ℕ, ◌+◌, sym, refl, ap, ◌∙◌, subst, ◌⊎◌, inl, inr, arith}
use Rattle.turn_lock.specs.declared.stage.Stage.{Stage}
use Rattle.turn_lock.specs.declared.stage.Stage.TheVariants.{Fresh, Filling, Idle, Waiting, Serving, Spent}
use Rattle.turn_lock.specs.Seat.{IsServing}
use Rattle.turn_lock.specs.Account.{Queue}
use Rattle.turn_lock.specs.Rule.{tickets_at, IsLive, IsSpent, HasTicket}
use Rattle.turn_lock.proofs.Functions.{put, put_else}

-- a seat at a stage is live or spent
pub live_or : (g : Stage) → IsLive g ⊎ IsSpent g
live_or Fresh = inl tt
live_or Filling = inl tt
live_or Idle = inl tt
live_or (Waiting t) = inl tt
live_or (Serving t) = inl tt
live_or Spent = inr tt

-- the ticket at a stage, or another number
pub ticket_or : ℕ → Stage → ℕ
ticket_or d (Waiting t) = t
ticket_or d (Serving t) = t
ticket_or d _ = d

-- a seat that waits has one ticket
pub same_ticket : (g : Stage) (t u : ℕ) → g ≡ Waiting t → g ≡ Waiting u → t ≡ u
unfolding ticket_or
same_ticket g t u e f = ap (ticket_or 0) (sym e ∙ f)

-- the facts of a stage that is known
pub is_live : (g h : Stage) → g ≡ h → IsLive h → IsLive g
is_live g h e l = subst IsLive (sym e) l

-- the tickets at a stage that is known
pub tickets_are : (g h : Stage) → g ≡ h → tickets_at g ≡ tickets_at h
tickets_are g h e = ap tickets_at e

-- a seat at a stage at which none is served isn't served
pub no_serve : (g h : Stage) → g ≡ h → (IsServing h → ⊥) → IsServing g → ⊥
no_serve g h e n s = n (subst IsServing e s)

-- a seat that serves a ticket is served
pub serves_at : (g : Stage) (t : ℕ) → g ≡ Serving t → IsServing g
serves_at g t e = subst IsServing (sym e) tt

module _ (q : Queue) where
  -- a seat draws the next ticket
  pub after_draw : (id j : ℕ) (g : Stage) → HasTicket q j g → HasTicket record q { drawn = q.drawn + 1; taker = put q.taker q.drawn id } j g
  after_draw id j Fresh h = h
  after_draw id j Filling h = h
  after_draw id j Idle h = tt
  after_draw id j (Waiting t) h = let a = h.0 in let b = h.1 in (a, omega arith, put_else q.taker q.drawn id t (λ e. omega arith) ∙ h.2)
  after_draw id j (Serving t) h = let a = h.0 in let b = h.1 in (a, omega arith, put_else q.taker q.drawn id t (λ e. omega arith) ∙ h.2)
  after_draw id j Spent h = tt

  -- the seat that is served ends its turn
  pub after_pass : (id j : ℕ) (g : Stage) → q.taker q.served ≡ id → j ≢ id → HasTicket q j g → HasTicket record q { served = q.served + 1 } j g
  after_pass id j Fresh is other h = h
  after_pass id j Filling is other h = h
  after_pass id j Idle is other h = tt
  after_pass id j (Waiting t) is other h = let a = h.0 in let n : t ≢ q.served = λ e. other (sym h.2 ∙ (ap q.taker e ∙ is)) in (omega arith, h.1, h.2)
  after_pass id j (Serving t) is other h = absurd (other (sym h.2 ∙ (ap q.taker h.0 ∙ is)))
  after_pass id j Spent is other h = tt

  -- there is one seat that is served
  pub serves_once : (id j t : ℕ) (g : Stage) → q.taker q.served ≡ id → IsServing g → HasTicket q j g → j ≡ id
  serves_once id j t (Serving u) is s h = sym h.2 ∙ (ap q.taker h.0 ∙ is)
  serves_once id j t Fresh is s h = absurd s
  serves_once id j t Filling is s h = absurd s
  serves_once id j t Idle is s h = absurd s
  serves_once id j t (Waiting u) is s h = absurd s
  serves_once id j t Spent is s h = absurd s

-- a spent seat is at a spent stage
pub spent_at : (g h : Stage) → g ≡ h → IsSpent g → IsSpent h
spent_at g h e b = subst IsSpent e b

-- a stage at which a seat is served is that of a ticket
pub serving_is : (g : Stage) → IsServing g → (t : ℕ) × (g ≡ Serving t)
serving_is (Serving t) s = (t, refl)
serving_is Fresh s = absurd s
serving_is Filling s = absurd s
serving_is Idle s = absurd s
serving_is (Waiting t) s = absurd s
serving_is Spent s = absurd s
