-- What a seat's stage says of its ticket and of the slot.
use Rattle.std.proofs.Common.{◌≡◌, ◌≢◌, ℕ, ◌<◌, ◌≤◌, true, List, [], ◌∷◌, refl, ap, arith, eq-eqb, ne_eqb}
use mathlib.Core.Option.{Option, none, some}
use Rattle.std.specs.Prelude.{if◌then◌else◌}
use Rattle.turnstile.specs.ViewSteps.{is_within, IsWithin, shut_of}
use Rattle.turnstile.specs.RuleSteps.{has_ticket, has_some_ticket, Staged}
use Rattle.turnstile.specs.declared.view.Place.{Place}
use Rattle.turnstile.specs.declared.view.Place.TheVariants.{Empty}
use Rattle.turnstile.specs.declared.view.Stage.{Stage}
use Rattle.turnstile.specs.declared.view.Stage.TheVariants.{Idle, Waits, Within, Shut}

-- a stage that waits with another ticket has not this one
pub other_ticket : (t u : ℕ) → t ≢ u → has_ticket u (Waits t) ≡ 0
other_ticket t u ne = ap (λ z. if z then 1 else 0) (ne_eqb t u ne)

-- a stage waits with one ticket
pub waits_same : (t u : ℕ) (st : Stage) → st ≡ Waits t → st ≡ Waits u → t ≡ u
waits_same t u st a b = cc

-- a seat that has the turn has a ticket
pub within_some : (st : Stage) → is_within st ≡ true → has_some_ticket st ≡ 1
within_some Idle e = cc
within_some (Waits t) e = refl
within_some (Within t) e = refl
within_some (Shut t) e = refl

pub within_is : (st : Stage) → is_within st ≡ true → IsWithin st
within_is Idle e = cc
within_is (Waits t) e = cc
within_is (Within t) e = tt
within_is (Shut t) e = tt

module _ {T E : Type 0} where
  -- a seat within has the ticket that is served
  pub within_served : (homes : List (Option (Place T E))) (served drawn : ℕ) (st : Stage) → Staged homes served drawn st → IsWithin st → has_ticket served st ≡ 1
  within_served homes served drawn Idle a b = absurd b
  within_served homes served drawn (Waits t) a b = absurd b
  within_served homes served drawn (Within t) a b = ap (λ z. if z then 1 else 0) (eq-eqb t served a.1)
  within_served homes served drawn (Shut t) a b = ap (λ z. if z then 1 else 0) (eq-eqb t served a.1)

  -- a stage that keeps its meaning while more tickets are drawn
  pub more_drawn : (homes : List (Option (Place T E))) (served drawn drawn' : ℕ) (st : Stage) → drawn ≤ drawn' → Staged homes served drawn st → Staged homes served drawn' st
  more_drawn homes served drawn drawn' Idle le a = tt
  more_drawn homes served drawn drawn' (Waits t) le a = omega arith
  more_drawn homes served drawn drawn' (Within t) le a = (let h = a.0 in omega arith, a.1, a.2)
  more_drawn homes served drawn drawn' (Shut t) le a = (let h = a.0 in omega arith, a.1, a.2)

  -- a stage outside the turn keeps its meaning while the slot and the history change
  pub restaged : (homes homes' : List (Option (Place T E))) (served served' drawn : ℕ) (st : Stage) → (IsWithin st → ⊥) → Staged homes served drawn st → Staged homes' served' drawn st
  restaged homes homes' served served' drawn Idle out a = tt
  restaged homes homes' served served' drawn (Waits t) out a = a
  restaged homes homes' served served' drawn (Within t) out a = absurd (out tt)
  restaged homes homes' served served' drawn (Shut t) out a = absurd (out tt)

  -- what is known of a seat within: the slot is out, its ticket is served, and more tickets were drawn than turns were given
  pub within_out : (homes : List (Option (Place T E))) (served drawn : ℕ) (st : Stage) → is_within st ≡ true → Staged homes served drawn st → (homes ≡ none ∷ []) × (served < drawn)
  within_out homes served drawn Idle e a = cc
  within_out homes served drawn (Waits t) e a = cc
  within_out homes served drawn (Within t) e a = (a.2, (let x = a.0 in let y = a.1 in omega arith))
  within_out homes served drawn (Shut t) e a = cc

  -- once a seat has shut the turnstile, its slot is empty for good
  pub shut_out : (homes : List (Option (Place T E))) (served drawn : ℕ) (st : Stage) → is_within st ≡ true → Staged homes served drawn (shut_of st) → homes ≡ some Empty ∷ []
  shut_out homes served drawn Idle e a = cc
  shut_out homes served drawn (Waits t) e a = cc
  shut_out homes served drawn (Within t) e a = a.2
  shut_out homes served drawn (Shut t) e a = cc
