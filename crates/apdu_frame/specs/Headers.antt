-- The headers of APDUs (ANSI/ASHRAE 135-2020, clause 20.1). The high four bits of the first octet say which APDU it is; what a header doesn't name here isn't looked at.
use Rattle.std.specs.Prelude.{◌≡◌, ◌≢◌, ℕ, ◌≤◌, ◌/◌, List, ◌∷◌, length, bit_and, ◌==◌, if◌then◌else◌}
use Rattle.bac_values.specs.Pdus.{confirmed_request_pdu, unconfirmed_request_pdu, simple_ack_pdu, error_pdu, reject_pdu, abort_pdu}
use Rattle.bac_values.specs.Services.{longest_apdu}
use Rattle.apdu_frame.specs.declared.apdu.Apdu.{Apdu}
use Rattle.apdu_frame.specs.declared.apdu.Apdu.TheVariants.{Request, Segmented, Unconfirmed, SimpleAck, Error, Reject, Abort, Other}

-- 20.1.2.5: the longest APDU that the requester takes, by the low four bits of the second octet; what the standard leaves open is read as the longest
abbrev pub max_apdu_of : ℕ → ℕ
max_apdu_of second =
    let code = bit_and second 0x0f in
    if code == 0 then 50
    else if code == 1 then 128
    else if code == 2 then 206
    else if code == 3 then 480
    else if code == 4 then 1024
    else longest_apdu

-- 20.1.2: a confirmed request that is not segmented (bit 3 of the first octet): max segments and max APDU, invoke ID, service, and from place 4 on the parameters
pub record IsRequest (octets : List ℕ) (max_apdu invoke service start : ℕ) : Type 0 where
  pub first : ℕ
  pub second : ℕ
  pub parameters : List ℕ
  pub spelled : octets ≡ first ∷ second ∷ invoke ∷ service ∷ parameters
  pub kind : first / 16 ≡ confirmed_request_pdu
  pub whole : bit_and first 0x08 ≡ 0
  pub accepts : max_apdu ≡ max_apdu_of second
  pub begins : start ≡ 4

-- 20.1.2: one segment of a confirmed request, in which the sequence number and the window size come before the service
pub record IsSegment (octets : List ℕ) (invoke : ℕ) : Type 0 where
  pub first : ℕ
  pub second : ℕ
  pub sequence : ℕ
  pub window : ℕ
  pub service : ℕ
  pub parameters : List ℕ
  pub spelled : octets ≡ first ∷ second ∷ invoke ∷ sequence ∷ window ∷ service ∷ parameters
  pub kind : first / 16 ≡ confirmed_request_pdu
  pub segmented : bit_and first 0x08 ≢ 0

-- 20.1.3: an unconfirmed request: service, and from place 2 on the parameters
pub record IsUnconfirmed (octets : List ℕ) (service start : ℕ) : Type 0 where
  pub first : ℕ
  pub parameters : List ℕ
  pub spelled : octets ≡ first ∷ service ∷ parameters
  pub kind : first / 16 ≡ unconfirmed_request_pdu
  pub begins : start ≡ 2

-- 20.1.4 and 20.1.7: an answer of this kind that names the service: invoke ID, service
pub record IsAnswer (kind : ℕ) (octets : List ℕ) (invoke service : ℕ) : Type 0 where
  pub first : ℕ
  pub more : List ℕ
  pub spelled : octets ≡ first ∷ invoke ∷ service ∷ more
  pub named : first / 16 ≡ kind

-- 20.1.8 and 20.1.9: an answer of this kind that names a reason: invoke ID, reason
pub record IsRefusal (kind : ℕ) (octets : List ℕ) (invoke : ℕ) : Type 0 where
  pub first : ℕ
  pub reason : ℕ
  pub more : List ℕ
  pub spelled : octets ≡ first ∷ invoke ∷ reason ∷ more
  pub named : first / 16 ≡ kind

-- the octets are an APDU with this header
abbrev pub IsApdu : List ℕ → Apdu → Type 0
IsApdu octets (Request max_apdu invoke service start) = IsRequest octets max_apdu invoke service start
IsApdu octets (Segmented invoke) = IsSegment octets invoke
IsApdu octets (Unconfirmed service start) = IsUnconfirmed octets service start
IsApdu octets (SimpleAck invoke service) = IsAnswer simple_ack_pdu octets invoke service
IsApdu octets (Error invoke service) = IsAnswer error_pdu octets invoke service
IsApdu octets (Reject invoke) = IsRefusal reject_pdu octets invoke
IsApdu octets (Abort invoke) = IsRefusal abort_pdu octets invoke
IsApdu octets Other = ⊥

-- the parameters of a request begin within the octets, or at their end
abbrev pub BeginsWithin : List ℕ → Apdu → Type 0
BeginsWithin octets (Request max_apdu invoke service start) = start ≤ length octets
BeginsWithin octets (Unconfirmed service start) = start ≤ length octets
BeginsWithin octets _ = Unit {0}
