-- Each confirmed request gets one reply, which is no longer than its requester takes.
use Rattle.std.specs.Prelude.{◌≡◌, ◌≤◌, ℕ, ⊤, IsSome, Option, Some, None, List, length}
use Rattle.bac_values.specs.declared.note.Send.{Send}
use Rattle.bac_values.specs.Address.{PeerData}
use Rattle.apdu_frame.specs.Headers.{max_apdu_of}
use Rattle.apdu_frame.specs.declared.apdu.Apdu.{Apdu}
use Rattle.apdu_frame.specs.declared.apdu.Apdu.TheVariants.{Request, Segmented}
use Rattle.alarm_core.specs.State.{CoreState}
use Rattle.service_desk.specs.declared.decision.Decision.{Decision}
use Rattle.service_desk.specs.declared.decision.Decision.TheVariants.{Enter, Reply}
use Rattle.service_desk.specs.Requesters.{RequesterData}
use Rattle.service_desk.specs.Decisions.{apdu_decision, request_decision}
use Rattle.service_desk.specs.Replies.{reply_to}

-- an APDU that a requester takes, on its way to it
pub record FitsRequester (requester : RequesterData) (send : Send) : Type 0 where
  pub apdu : List ℕ
  pub framed : send ≡ reply_to requester.peer apdu
  pub short : length apdu ≤ requester.max_apdu

abbrev pub FitsIfGiven : RequesterData → Option Send → Type 0
FitsIfGiven requester None = Unit {0}
FitsIfGiven requester (Some send) = FitsRequester requester send

-- each reply of a decision
abbrev pub RepliesFit : RequesterData → Decision → Type 0
RepliesFit requester (Reply send) = FitsRequester requester send
RepliesFit requester (Enter event reply full) = FitsIfGiven requester reply × FitsIfGiven requester full
RepliesFit requester decision = Unit {0}

-- what is decided on a confirmed request, whatever it asks for, where the second octet of its header says what its requester takes (20.1.2.5)
abbrev pub EachReplyFits : Type 0
EachReplyFits =
    (state : CoreState) (moment : ℕ) (requester : RequesterData) (parameters : List ℕ) (second : ℕ) → requester.max_apdu ≡ max_apdu_of second → RepliesFit requester (request_decision state moment requester parameters)

-- one reply goes out: at once, or, where a decision is an event, one if that is entered and one if its notifications don't fit the outbox
abbrev pub HasOneReply : Decision → Type 0
HasOneReply (Reply send) = ⊤
HasOneReply (Enter event reply full) = IsSome reply × IsSome full
HasOneReply decision = ⊥

-- a confirmed request, whole or a segment of one (20.1.2)
abbrev pub IsRequest : Apdu → Type 0
IsRequest (Request max_apdu invoke service start) = ⊤
IsRequest (Segmented invoke) = ⊤
IsRequest header = ⊥

-- what is decided on an APDU with the header of a confirmed request, whatever follows it (5.4.5)
abbrev pub EachRequestIsAnswered : Type 0
EachRequestIsAnswered = (state : CoreState) (moment : ℕ) (peer : PeerData) (octets : List ℕ) (header : Apdu) → IsRequest header → HasOneReply (apdu_decision state moment peer octets header)
