-- The elements of a Recipient_List in a request (ANSI/ASHRAE 135-2020, 12.21 and clause 21, BACnetDestination), in any spelling, and the destinations for which they stand.
use Rattle.std.specs.Prelude.{◌≡◌, ℕ, ◌+◌, ◌*◌, ◌==◌, nat_le, ◌&&◌, if◌then◌else◌, Bool, Option, Some, None, List, [], ◌∷◌, ◌++◌, find}
use Rattle.std.specs.Option.{option_and_then, option_map}
use Rattle.bac_values.specs.Address.{PeerData}
use Rattle.bac_values.specs.BitString.{BitsData, three_flags}
use Rattle.bac_values.specs.Identifier.{ObjectIdData, number_of_kind}
use Rattle.bac_values.specs.declared.object_kind.ObjectKind.TheVariants.{Device}
use Rattle.bac_tags.specs.Contents.{SpellsAnyBits, SpellsBoolean, SpellsUnsigned}
use Rattle.bac_tags.specs.Stamps.{SpellsTime}
use Rattle.notify_class.specs.declared.binding.Binding.{Binding}
use Rattle.notify_class.specs.Recipients.{DestinationData}
use Rattle.recipients.specs.Recipients.{RecipientData, OfDevice, OfAddress, SpellsRecipient, peer_at, recipient_in}
use Rattle.list_binding.specs.declared.element.Element.{Element}

-- ---- the grammar

-- what an element spells, whatever its numbers are; a bit string of more than 64 bits has no value here
pub record ElementData : Type 0 where
  pub days : Option BitsData
  pub from : List ℕ
  pub to : List ℕ
  pub recipient : RecipientData
  pub process : ℕ
  pub confirmed : Bool
  pub transitions : Option BitsData

-- valid days, From Time, To Time, recipient, process identifier, Issue Confirmed Notifications, transitions
pub record SpellsDestination (octets : List ℕ) (element : ElementData) : Type 0 where
  pub days_octets : List ℕ
  pub from_octets : List ℕ
  pub to_octets : List ℕ
  pub recipient_octets : List ℕ
  pub process_octets : List ℕ
  pub confirmed_octets : List ℕ
  pub transitions_octets : List ℕ
  pub parts : octets ≡ days_octets ++ (from_octets ++ (to_octets ++ (recipient_octets ++ (process_octets ++ (confirmed_octets ++ transitions_octets)))))
  pub days : SpellsAnyBits days_octets element.days
  pub from : SpellsTime from_octets element.from
  pub to : SpellsTime to_octets element.to
  pub recipient : SpellsRecipient recipient_octets element.recipient
  pub process : SpellsUnsigned None process_octets element.process
  pub confirmed : SpellsBoolean None confirmed_octets element.confirmed
  pub transitions : SpellsAnyBits transitions_octets element.transitions

-- the station of an address that was read is a stretch of the octets
abbrev pub element_in : List ℕ → Element → ElementData
element_in input element =
    record { days = element.days; from = element.from; to = element.to; recipient = recipient_in input element.recipient; process = element.process; confirmed = element.confirmed; transitions = element.transitions }

-- ---- the destination for which an element stands

-- a time of day in hundredths of a second; no part of it may be any (X'FF', 20.2.13)
abbrev pub time_of : List ℕ → Option ℕ
time_of (hour ∷ minute ∷ second ∷ hundredth ∷ []) =
    if nat_le hour 23 && (nat_le minute 59 && (nat_le second 59 && nat_le hundredth 99)) then Some (360000 * hour + 6000 * minute + 100 * second + hundredth) else None
time_of other = None

-- a string of so many bits
abbrev pub of_size : ℕ → BitsData → Option BitsData
of_size size string = if string.size == size then Some string else None

-- the peer to which a device is bound, if it is
abbrev pub binding_of : ℕ → List Binding → Option PeerData
binding_of device bindings = option_map (λ (binding : Binding). binding.peer) (find (λ (binding : Binding). binding.device == device) bindings)

abbrev pub if_device : List Binding → ObjectIdData → Option PeerData
if_device bindings object = if object.number == number_of_kind Device then binding_of object.instance bindings else None

-- a port of 0 is that of no peer
abbrev pub with_port : PeerData → Option PeerData
with_port peer = if peer.port == 0 then None else Some peer

-- the peer of a recipient: a device stands for the one to which it is bound
abbrev pub peer_of : List Binding → RecipientData → Option PeerData
peer_of bindings (OfDevice object) = if_device bindings object
peer_of bindings (OfAddress address) = option_and_then with_port (peer_at address)

infixl 10 ◌>>=◌
abbrev pub ◌>>=◌ : {A B : Type 0} → Option A → (A → Option B) → Option B
given >>= next = option_and_then next given

-- seven days, two times of day, a peer, and three flags
abbrev pub destination_of : List Binding → ElementData → Option DestinationData
destination_of bindings element = do
  days ← option_and_then (of_size 7) element.days
  from ← time_of element.from
  to ← time_of element.to
  peer ← peer_of bindings element.recipient
  transitions ← option_and_then (of_size 3) element.transitions
  Some (record { days = days.bits; from = from; to = to; peer = peer; process = element.process; confirmed = element.confirmed; transitions = three_flags transitions })
