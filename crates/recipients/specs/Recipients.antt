-- Recipients (ANSI/ASHRAE 135-2020, clause 21, BACnetRecipient and BACnetAddress): a device, or the address of a station.
use Rattle.std.specs.Prelude.{◌≡◌, ℕ, ◌+◌, ◌^◌, ◌<◌, ◌≤◌, ◌==◌, ◌&&◌, if◌then◌else◌, Option, Some, None, List, [], ◌++◌, length, take, drop, slice_range}
use Rattle.std.specs.Int.{bytes_high_first}
use Rattle.byteorder.specs.Endian.{big_number}
use Rattle.bac_values.specs.Address.{PeerData}
use Rattle.bac_values.specs.Identifier.{ObjectIdData}
use Rattle.bac_tags.specs.Contents.{SpellsObject, SpellsUnsigned, SpellsOctetString}
use Rattle.bac_tags.specs.EnclosingTags.{SpellsEnclosed, opening, closing}
use Rattle.bac_tags.specs.Writing.{written_tag, written_unsigned, written_octet_string}
use Rattle.recipients.specs.declared.recipient.Address.{Address}
use Rattle.recipients.specs.declared.recipient.Recipient.{Recipient}
use Rattle.recipients.specs.declared.recipient.Recipient.TheVariants as recipients

-- the number of a network, 0 for the local one, and the octets of a station there
pub record AddressData : Type 0 where
  pub network : ℕ
  pub station : List ℕ

pub record SpellsAddress (octets : List ℕ) (address : AddressData) : Type 0 where
  pub network_octets : List ℕ
  pub station_octets : List ℕ
  pub parts : octets ≡ network_octets ++ station_octets
  pub network : SpellsUnsigned None network_octets address.network
  pub station : SpellsOctetString station_octets address.station

pub data RecipientData : Type 0 where
  OfDevice : ObjectIdData → RecipientData
  OfAddress : AddressData → RecipientData

-- the numbers of the two parameters
abbrev pub device_parameter : ℕ
device_parameter = 0

abbrev pub address_parameter : ℕ
address_parameter = 1

-- [0] a device, or [1] an address between its tags
abbrev pub SpellsRecipient : List ℕ → RecipientData → Type 0
SpellsRecipient octets (OfDevice object) = SpellsObject (Some device_parameter) octets object
SpellsRecipient octets (OfAddress address) = SpellsEnclosed address_parameter SpellsAddress octets address

-- ---- stations and peers

-- on the local network a station is an IP address of four octets and a port of two, the high octet first (annex J.1.2)
abbrev pub peer_at : AddressData → Option PeerData
peer_at address =
    if address.network == 0 && length address.station == 6
    then Some (record { ip = big_number 4 (take 4 address.station); port = big_number 2 (drop 4 address.station); net = 0; mac = [] })
    else None

abbrev pub station_of : PeerData → List ℕ
station_of peer = if peer.net == 0 then bytes_high_first 4 peer.ip ++ bytes_high_first 2 peer.port else peer.mac

abbrev pub address_of : PeerData → AddressData
address_of peer = record { network = peer.net; station = station_of peer }

-- ---- what is written

abbrev pub written_station : PeerData → List ℕ
written_station peer = written_octet_string (station_of peer)

abbrev pub written_address : PeerData → List ℕ
written_address peer = written_unsigned None peer.net ++ written_station peer

-- the address of a peer, as a recipient
abbrev pub written_peer : PeerData → List ℕ
written_peer peer = written_tag (opening address_parameter) ++ (written_address peer ++ written_tag (closing address_parameter))

-- ---- what stands among octets

-- the station of an address that was read is a stretch of the octets
abbrev pub address_in : List ℕ → Address → AddressData
address_in input address = record { network = address.network; station = slice_range input address.start address.end }

abbrev pub recipient_in : List ℕ → Recipient → RecipientData
recipient_in input (recipients.Device object) = OfDevice object
recipient_in input (recipients.Address address) = OfAddress (address_in input address)

abbrev pub IsStretch : List ℕ → Address → Type 0
IsStretch input address = (address.start ≤ address.end) × (address.end ≤ length input)

abbrev pub StandsWithin : List ℕ → Recipient → Type 0
StandsWithin input (recipients.Device object) = Unit {0}
StandsWithin input (recipients.Address address) = IsStretch input address

-- ---- peers that are written and read again

-- a network's number has two octets, a station's address is short, and a peer of the local network has an IP address and a port
pub record IsWrittenPeer (peer : PeerData) : Type 0 where
  pub network : peer.net < 2 ^ 16
  pub station : length peer.mac ≤ 7

pub record IsLocalPeer (peer : PeerData) : Type 0 where
  pub network : peer.net ≡ 0
  pub station : peer.mac ≡ []
  pub ip : peer.ip < 2 ^ 32
  pub port : peer.port < 2 ^ 16
