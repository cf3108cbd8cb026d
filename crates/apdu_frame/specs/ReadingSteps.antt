-- Which header octets have, by the table of ANSI/ASHRAE 135-2020, clause 20.1. An APDU that isn't in it, or is cut within its header, is none of these.
use Rattle.std.specs.Prelude.{ℕ, ◌/◌, List, [], ◌∷◌, bit_and, ◌==◌, if◌then◌else◌}
use Rattle.bac_values.specs.Pdus.{confirmed_request_pdu, unconfirmed_request_pdu, simple_ack_pdu, error_pdu, reject_pdu, abort_pdu}
use Rattle.apdu_frame.specs.declared.apdu.Apdu.{Apdu}
use Rattle.apdu_frame.specs.declared.apdu.Apdu.TheVariants.{Request, Segmented, Unconfirmed, SimpleAck, Error, Reject, Abort, Other}
use Rattle.apdu_frame.specs.Headers.{max_apdu_of}

-- behind the first octet of a confirmed request; a segment's header has six octets
abbrev pub request_of : ℕ → List ℕ → Apdu
request_of first (second ∷ invoke ∷ service ∷ []) = if bit_and first 0x08 == 0 then Request (max_apdu_of second) invoke service 4 else Other
request_of first (second ∷ invoke ∷ service ∷ _ ∷ []) = if bit_and first 0x08 == 0 then Request (max_apdu_of second) invoke service 4 else Other
request_of first (second ∷ invoke ∷ service ∷ _ ∷ _ ∷ _) = if bit_and first 0x08 == 0 then Request (max_apdu_of second) invoke service 4 else Segmented invoke
request_of first _ = Other

abbrev pub unconfirmed_of : List ℕ → Apdu
unconfirmed_of (service ∷ _) = Unconfirmed service 2
unconfirmed_of _ = Other

-- behind the first octet of an answer: two octets, of which this makes the header
abbrev pub answer_of : (ℕ → ℕ → Apdu) → List ℕ → Apdu
answer_of header (invoke ∷ third ∷ _) = header invoke third
answer_of header _ = Other

abbrev pub apdu_of : List ℕ → Apdu
apdu_of [] = Other
apdu_of (first ∷ rest) =
    let kind = first / 16 in
    if kind == confirmed_request_pdu then request_of first rest
    else if kind == unconfirmed_request_pdu then unconfirmed_of rest
    else if kind == simple_ack_pdu then answer_of (λ invoke service. SimpleAck invoke service) rest
    else if kind == error_pdu then answer_of (λ invoke service. Error invoke service) rest
    else if kind == reject_pdu then answer_of (λ invoke reason. Reject invoke) rest
    else if kind == abort_pdu then answer_of (λ invoke reason. Abort invoke) rest
    else Other
