-- A result that has no room is answered by an Abort.
use Rattle.std.proofs.Common.{◌≡◌, ℕ, ◌<◌, ◌≤◌, Some, None, List, length, refl, ◌∙◌, arith, inl, inr}
use Rattle.std.proofs.lemmas.Bool.{cases_lt, le-leb, lt-ltb}
use Rattle.bac_values.specs.Reasons.{segmentation_not_supported_reason}
use Rattle.apdu_frame.specs.Writing.{written_complex_ack}
use Rattle.summaries.specs.Summaries.{within_room}
use Rattle.service_desk.specs.Requesters.{RequesterData}
use Rattle.service_desk.specs.Replies.{abort, complex_ack, within_max_apdu}
use Rattle.service_desk.specs.SummaryDecisions.{result_room}

longer : (room : ℕ) (body : List ℕ) → None ≡ within_room room body → room < length body
longer room body none =
    elim (cases_lt room (length body)) [
      | inl more ↦ more
      | inr fits ↦ absurd (let bad = none ∙ has_room fits in cc)
    ]
  where
    has_room : length body ≤ room → within_room room body ≡ Some body
    has_room fits = rw (le-leb (length body) room fits) refl

pub aborts : (requester : RequesterData) (body : List ℕ) → None ≡ within_room (result_room requester) body → complex_ack requester body ≡ abort requester segmentation_not_supported_reason
unfolding within_max_apdu
aborts requester body none =
    let more = longer (result_room requester) body none in
    rw (lt-ltb requester.max_apdu (length (written_complex_ack requester.invoke requester.service body)) (omega (arith, more))) refl
