-- Timers of which none is due.
use Rattle.std.proofs.Common.{◌≡◌, ℕ, ◌+◌, ◌*◌, ◌<◌, ◌≤◌, Option, None, take, drop, get_or, replicate, sym, ap, ◌∙◌, arith}
use Rattle.std.proofs.lemmas.List.{length-replicate, get_or-replicate, drop-replicate, take-replicate}
use Rattle.std.specs.Int.{IsPowerOfTwo}
use Rattle.held_timers.specs.Dues.{earlier}
use Rattle.held_timers.specs.TournamentSteps.{HoldsTimers}

leaves_none : (leaves : ℕ) → drop leaves (replicate (2 * leaves) None) ≡ replicate {A = Option ℕ} leaves None
leaves_none leaves = drop-replicate leaves (2 * leaves) None ∙ ap (λ n. replicate n None) (omega arith)

pub holds_none : (count leaves : ℕ) → IsPowerOfTwo leaves → count ≤ leaves → HoldsTimers count leaves (replicate (2 * leaves) None)
holds_none count leaves power enough =
    record {
      power = power;
      enough = enough;
      size = length-replicate (2 * leaves) None;
      tournament = λ k pos inside.
          let within : 2 * k + 1 < 2 * leaves = omega (arith, inside, length-replicate {A = Option ℕ} (2 * leaves) None) in
          get_or-replicate (2 * leaves) k None None (omega (arith, within))
          ∙ sym (ap (λ first. earlier first (get_or (replicate (2 * leaves) None) (2 * k + 1) None)) (get_or-replicate (2 * leaves) (2 * k) None None (omega (arith, within)))
          ∙ get_or-replicate (2 * leaves) (2 * k + 1) None None within);
      unused = ap (drop count) (leaves_none leaves) ∙ drop-replicate count leaves None;
    }

pub shows_none : (count leaves : ℕ) → count ≤ leaves → take count (drop leaves (replicate (2 * leaves) None)) ≡ replicate {A = Option ℕ} count None
shows_none count leaves enough = ap (take count) (leaves_none leaves) ∙ take-replicate count leaves None enough
