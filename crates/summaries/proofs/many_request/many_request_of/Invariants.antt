use Rattle.std.proofs.Common.{◌≡◌, ◌-◌, ◌≤◌, ℕ, List, ◌∷◌, length, Ok}
use Rattle.summaries.specs.ManyRequests.{ObjectAsked, specs_in}
use Rattle.summaries.specs.ManySteps.{each_within, ends_at, further_at, group_at, seen}
use Rattle.summaries.proofs.Counting.{behind}
use Rattle.summaries.proofs.many_request.many_request_of.Given as goal

-- the first object, those that were passed behind it, and those behind these
abbrev pub invariant-loop : goal.invariant-loop
invariant-loop l = record {
  within : l.at ≤ length l.bytes;
  fewer : l.passed ≤ l.at;
  counted : (first : ObjectAsked) × (start : ℕ) × (xs : List ObjectAsked) × (group_at l.bytes 0 ≡ Ok (first, start))
      × (each_within (ends_at l.bytes) (further_at l.bytes) (length l.bytes) start ≡ behind xs (each_within (ends_at l.bytes) (further_at l.bytes) (length l.bytes - l.counter) l.at))
      × (l.found ≡ seen 0 (specs_in (first ∷ xs)) l.index) × (l.passed ≡ length (specs_in (first ∷ xs)));
}
