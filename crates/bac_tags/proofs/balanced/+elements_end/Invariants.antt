use Rattle.std.proofs.Common.{◌≡◌, ◌-◌, ◌≤◌, ◌<◌, get_or, length}
use Rattle.bac_tags.specs.BalancedSteps.{elements_end}
use Rattle.bac_tags.proofs.Unwinding.{unwound}
use Rattle.bac_tags.proofs.balanced.+elements_end.Given as goal

abbrev pub decreases-elements_end : goal.decreases-elements_end
decreases-elements_end l = length l.input.now - l.at

-- behind the place come the elements of the tags that are open
abbrev pub invariant-tags : goal.invariant-tags
invariant-tags l = record {
  later : l.at ≤ l.place;
  within : l.place ≤ length l.input;
  few : l.inner < 64;
  long : length l.numbers ≡ 64;
  left : elements_end l.input l.at l.number ≡ unwound l.input l.numbers l.inner (elements_end l.input l.place (get_or l.numbers l.inner 0));
}

abbrev pub decreases-tags : goal.decreases-tags
decreases-tags l = length l.input - l.place
