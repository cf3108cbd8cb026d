-- The clock of a zone, and whom a class notifies, by the book's names. Nothing is decided here.
use Rattle.std.specs.Prelude.{◌/◌, pos, ◌*ℤ◌}
use Rattle.bac_values.specs.Address.{PeerData}
use Rattle.civil_stamp.specs.LocalTime.{ZoneData, hundredths_ahead}
use Rattle.notify_class.specs.Recipients.{DestinationData}
use Rattle.profile.specs.Sites.{Station, Peer, Destination}
use Rattle.book_laws.specs.Values.{bits_of}

-- a device whose clock stands as far ahead of UTC at each moment as that of a zone, which is told in hundredths of a second
abbrev pub in_zone : Station → ZoneData → Station
in_zone device zone = record device { clock_ahead = λ moment. hundredths_ahead zone (pos (moment / 10)) *ℤ pos 10 }

abbrev pub peer_in_book : PeerData → Peer
peer_in_book peer = record { address = peer.ip; port = peer.port; network = peer.net; station = peer.mac }

abbrev pub destination_in_book : DestinationData → Destination
destination_in_book recipient = record {
  valid_days = bits_of 7 recipient.days;
  from_time = recipient.from;
  to_time = recipient.to;
  recipient = peer_in_book recipient.peer;
  process_identifier = recipient.process;
  confirmed = recipient.confirmed;
  transitions = recipient.transitions;
}
