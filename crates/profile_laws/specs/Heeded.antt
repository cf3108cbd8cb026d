-- Which datagrams are heeded: they are answered, or are an event. Every other is ignored (ANSI/ASHRAE 135-2020, 5.4, 6.2, 16.10 and 20.1, annex J.2).
use Rattle.std.specs.Prelude.{◌≡◌, ◌≤◌, ℕ, ⊤, IsTrue, Option, Some, None, List, drop}
use Rattle.bac_values.specs.Address.{PeerData}
use Rattle.bac_values.specs.Services.{confirmed_event_notification_service, who_is_service}
use Rattle.bac_values.specs.declared.input.Input.TheVariants.{Datagram}
use Rattle.bvlc_npdu.specs.Frame.{IsFrame}
use Rattle.apdu_frame.specs.Headers.{IsApdu}
use Rattle.apdu_frame.specs.declared.apdu.Apdu.{Apdu}
use Rattle.apdu_frame.specs.declared.apdu.Apdu.TheVariants.{Abort, Error, Reject, Request, Segmented, SimpleAck, Unconfirmed}
use Rattle.property_services.specs.Requests.{SpellsWhoIs}
use Rattle.outbox.specs.Outboxes.{has_in_flight}
use Rattle.alarm_core.specs.State.{CoreState}
use Rattle.service_desk.specs.Decisions.{decision_on}
use Rattle.service_desk.specs.declared.decision.Decision.{Decision}
use Rattle.service_desk.specs.declared.decision.Decision.TheVariants.{Enter, Ignore, Reply}
use Rattle.profile_laws.specs.ErrorTables.{AreOctets}

-- a device is among those with an instance within the limits; where there are none, each is
abbrev pub IsWithin : ℕ → Option (ℕ × ℕ) → Type 0
IsWithin instance None = ⊤
IsWithin instance (Some limits) = (limits.0 ≤ instance) × (instance ≤ limits.1)

-- the parameters of a Who-Is (16.10) that asks this device
pub record AsksDevice (instance : ℕ) (parameters : List ℕ) : Type 0 where
  pub limits : Option (ℕ × ℕ)
  pub spelled : SpellsWhoIs parameters limits
  pub within : IsWithin instance limits

-- a notification to the peer with this invoke ID is in flight (5.4.4)
abbrev pub IsAwaited : CoreState → PeerData → ℕ → Type 0
IsAwaited state peer invoke = IsTrue (has_in_flight peer invoke state.outbox)

-- an APDU is heeded by its header: each confirmed request, and each segment of one; a Who-Is that asks this device; and what answers a confirmed notification in flight, as far as it names its service
abbrev pub IsHeededApdu : CoreState → PeerData → List ℕ → Apdu → Type 0
IsHeededApdu state peer apdu (Request max_apdu invoke service start) = ⊤
IsHeededApdu state peer apdu (Segmented invoke) = ⊤
IsHeededApdu state peer apdu (Unconfirmed service start) = (service ≡ who_is_service) × AsksDevice state.site.device.instance (drop start apdu)
IsHeededApdu state peer apdu (SimpleAck invoke service) = (service ≡ confirmed_event_notification_service) × IsAwaited state peer invoke
IsHeededApdu state peer apdu (Error invoke service) = (service ≡ confirmed_event_notification_service) × IsAwaited state peer invoke
IsHeededApdu state peer apdu (Reject invoke) = IsAwaited state peer invoke
IsHeededApdu state peer apdu (Abort invoke) = IsAwaited state peer invoke
IsHeededApdu state peer apdu header = ⊥

-- a datagram from a sender carries an APDU of a peer to this device, which has a header that is heeded
pub record IsHeeded (state : CoreState) (sender : PeerData) (octets : List ℕ) : Type 0 where
  pub peer : PeerData
  pub apdu : List ℕ
  pub header : Apdu
  pub carried : IsFrame sender octets peer apdu
  pub begins : IsApdu apdu header
  pub heeded : IsHeededApdu state peer apdu header

-- there is an answer, or an event
abbrev pub HasEffect : Decision → Type 0
HasEffect (Reply send) = ⊤
HasEffect (Enter event reply full) = ⊤
HasEffect decision = ⊥

-- In any state, a datagram that isn't heeded is ignored, and one that is heeded is answered or is an event.
pub record IgnoresTheRest : Type 0 where
  pub ignored : (state : CoreState) (moment : ℕ) (sender : PeerData) (octets : List ℕ) → AreOctets octets → ¬ IsHeeded state sender octets → decision_on state (Datagram sender octets) moment ≡ Ignore
  pub heeded : (state : CoreState) (moment : ℕ) (sender : PeerData) (octets : List ℕ) → AreOctets octets → IsHeeded state sender octets → HasEffect (decision_on state (Datagram sender octets) moment)
