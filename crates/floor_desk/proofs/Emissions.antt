-- How the count of failed emissions stands beside the datagrams that were lost.
use Rattle.std.proofs.Common.{◌≡◌, zero, suc, ℕ, ◌+◌, ◌<◌, ◌≤◌, List, [], ◌∷◌, length, arith, refl, sym, ap, ◌∙◌, subst}
use Rattle.std.specs.Prelude.{Option}
use Rattle.ground_io.specs.Counts.{Rose}
use Rattle.ground_io.specs.Trace.{Told}
use Rattle.alarm_core.specs.State.{CoreState}
use Rattle.alarm_journal.specs.Press.{PressState}
use Rattle.floor_desk.specs.Accounts.{Account, account}
use Rattle.floor_desk.specs.Moves.{IsGroundOf}
use Rattle.floor_desk.specs.Prefixes.{CountsLost, capped}
use Rattle.floor_desk.specs.Standing.{FloorStands, Stands}
use Rattle.floor_desk.specs.States.{FloorState}
use Rattle.floor_desk.specs.Tries.{Attempt}
use Rattle.floor_desk.specs.Workers.{lost_of}
use Rattle.floor_desk.specs.declared.entry.Entry.{Entry}
use Rattle.floor_desk.specs.declared.floor.Spot.{Spot}
use Rattle.floor_desk.specs.declared.floor.Spot.TheVariants.{Home, Out, Broken}
use Rattle.floor_desk.proofs.Receiving.{lost_once}

-- none was lost
pub counts_none : (count : ℕ) → CountsLost count count 0
counts_none count = record { cause = record { later = omega arith; rose = λ some. absurd (omega (arith, some)) }; same = λ none. refl }

-- some were, and then some more
pub counts_both : (lost more before mid now : ℕ) → CountsLost before mid lost → CountsLost mid now more → CountsLost before now (capped (lost + more))
counts_both zero more before mid now first then =
    let same : mid ≡ before = first.same refl in record {
      cause = record { later = omega (arith, same, then.cause.later); rose = λ some. subst (λ (n : ℕ). Rose n now) same (then.cause.rose (omega (arith, some))) };
      same = λ none. then.same (omega (arith, none)) ∙ same;
    }
counts_both (suc lost) more before mid now first then =
    let rose : Rose before mid = first.cause.rose (omega arith) in record {
      cause = record { later = omega (arith, first.cause.later, then.cause.later); rose = λ some. omega (arith, rose, then.cause.later) };
      same = λ none. absurd (omega (arith, none));
    }

-- at most each of those that came is lost
pub lost_few : (attempts : List Attempt) → lost_of attempts ≤ length attempts
lost_few [] = omega arith
lost_few (one ∷ more) = omega (arith, lost_once one.last, lost_few more)

-- so where more are lost than came, some of those that were sent are; and where none is, none of those
pub sent_lost : (sent received lost : ℕ) (attempts : List Attempt) → received ≡ length attempts → lost ≡ capped (sent + lost_of attempts) → received < lost → 0 < sent
sent_lost sent received lost attempts came is more = omega (arith, came, is, more, lost_few attempts)

pub none_lost : (sent lost : ℕ) (attempts : List Attempt) → lost ≡ capped (sent + lost_of attempts) → lost ≡ 0 → sent ≡ 0
none_lost sent lost attempts is none = omega (arith, is, none)

module _ {G : Type 0} (told : G → Option Told) (size disk_faults emit_faults : G → ℕ) where
  -- the ground of a floor that has ended has its size, and counts what the floor has lost
  pub ground_counts : (origin : CoreState × PressState G) (floor : FloorState G) (h : List (ℕ × Entry G)) (device : G) → FloorStands told size disk_faults emit_faults floor h → floor.origin ≡ origin → IsGroundOf floor.spot device
      → (size device ≡ size origin.1.device) × CountsLost (emit_faults origin.1.device) (emit_faults device) floor.lost
  ground_counts origin floor h device f from ground = by_spot floor.spot f.shows.spot ground
    where
      a : Account G
      a = account floor.origin h

      Counted : G → Type 0
      Counted d = (size d ≡ size origin.1.device) × CountsLost (emit_faults origin.1.device) (emit_faults d) floor.lost

      -- as the press last came back
      back : Counted a.press.device
      back = subst (λ (o : CoreState × PressState G). (size a.press.device ≡ size o.1.device) × CountsLost (emit_faults o.1.device) (emit_faults a.press.device) floor.lost) from (f.shows.sized, f.shows.counted)

      by_spot : (spot : Spot G) → Stands told size disk_faults emit_faults floor.origin a floor.lost spot → IsGroundOf spot device → Counted device
      by_spot (Home press) s g = subst Counted (ap (λ (p : PressState G). p.device) (sym s.2) ∙ sym g) back
      by_spot (Out place upto) s g = absurd g
      by_spot (Broken left place) s g =
          subst Counted (sym g) (s.5 ∙ back.0, subst (λ (n : ℕ). CountsLost (emit_faults origin.1.device) n floor.lost) (sym s.6) back.1)
