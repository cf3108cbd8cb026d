-- The address of a peer that is written is read again.
use Rattle.std.proofs.Common.{◌≡◌, ℕ, ◌+◌, ◌^◌, ◌<◌, ◌≤◌, true, false, eqb, cond, Some, None, List, [], ◌++◌, length, take, drop, Ok, refl, sym, ap, ◌∙◌, append_assoc, append-nil, arith, inl, inr}
use Rattle.std.specs.Int.{bytes_high_first}
use Rattle.std.proofs.lemmas.Bool.{cases_eq, eq-eqb, ne_eqb}
use Rattle.std.proofs.lemmas.List.{length-append, drop_at, take_at}
use Rattle.byteorder.specs.Endian.{big_number}
use Rattle.byteorder.specs.Numbers.{length-bytes_high_first}
use Rattle.bac_values.specs.Address.{PeerData}
use Rattle.bac_tags.specs.Contents.{IsOctetString}
use Rattle.bac_tags.specs.EnclosingTags.{opening, closing}
use Rattle.bac_tags.specs.Writing.{written_tag, written_unsigned}
use Rattle.bac_tags.proofs.Standing.{Stands, Stands-from}
use Rattle.bac_tags.proofs.Written.{tag_written}
use Rattle.bac_tags.proofs.WrittenElements.{element_written, read_back, unsigned_written}
use Rattle.recipients.specs.Recipients.{AddressData, RecipientData, OfAddress, SpellsRecipient, IsWrittenPeer, IsLocalPeer, address_of, peer_at, station_of, written_address, written_peer, written_station}
use Rattle.recipients.specs.RecipientSteps.{recipient_at}
use Rattle.recipients.proofs.AddressReaders.{SpellsShort, of_short}
use Rattle.recipients.proofs.RecipientReaders.{SpellsShortRecipient, recipient_again}

six : (peer : PeerData) → length (bytes_high_first 4 peer.ip ++ bytes_high_first 2 peer.port) ≡ 6
six peer = omega (arith, length-append (bytes_high_first 4 peer.ip) (bytes_high_first 2 peer.port), length-bytes_high_first 4 peer.ip, length-bytes_high_first 2 peer.port)

station_short : (peer : PeerData) → length peer.mac ≤ 7 → length (station_of peer) < 2 ^ 32
station_short peer short =
    elim (cases_eq peer.net 0) [
      | inl same ↦ rw (eq-eqb peer.net 0 same) (omega (arith, six peer))
      | inr other ↦ rw (ne_eqb peer.net 0 other) (omega arith)
    ]

short_written : (peer : PeerData) → IsWrittenPeer peer → SpellsShortRecipient (written_peer peer) (OfAddress (address_of peer))
short_written peer h =
    let short = station_short peer h.station in
    record {
      front = written_tag (opening 1);
      inside = written_address peer;
      back = written_tag (closing 1);
      parts = refl;
      opened = tag_written (opening 1) tt;
      spelled = record {
        spelled = record {
          network_octets = written_unsigned None peer.net;
          station_octets = written_station peer;
          parts = refl;
          network = unsigned_written None peer.net (omega (arith, h.network));
          station = element_written 6 None IsOctetString (station_of peer) (station_of peer) short refl;
        };
        short = short;
      };
      closed = tag_written (closing 1) tt;
    }

pub peer_written : (peer : PeerData) → IsWrittenPeer peer → SpellsRecipient (written_peer peer) (OfAddress (address_of peer))
peer_written peer h = of_short (written_peer peer) (address_of peer) (short_written peer h)

between : (before octets rest : List ℕ) → Stands (before ++ octets ++ rest) (length before) octets (length before + length octets)
between before octets rest =
    Stands-from (before ++ octets ++ rest) (length before) octets rest (ap (drop (length before)) (append_assoc before octets rest) ∙ drop_at before (octets ++ rest) (length before) refl)

within : (before octets rest : List ℕ) → length before ≤ length (before ++ octets ++ rest)
within before octets rest = omega (arith, length-append (before ++ octets) rest, length-append before octets)

pub peer_back : (before rest : List ℕ) (peer : PeerData) → IsWrittenPeer peer → recipient_at (before ++ written_peer peer ++ rest) (length before) ≡ Ok (OfAddress (address_of peer), length before + length (written_peer peer))
peer_back before rest peer h =
    let octets = written_peer peer in
    recipient_again (before ++ octets ++ rest) (length before) octets (OfAddress (address_of peer)) (length before + length octets) (within before octets rest) (short_written peer h) (between before octets rest)

abbrev local : ℕ → ℕ → ℕ → List ℕ → PeerData
local ip port net mac = record { ip = ip; port = port; net = net; mac = mac }

pub local_peer : (peer : PeerData) → IsLocalPeer peer → peer_at (address_of peer) ≡ Some peer
local_peer peer h =
    let ip = bytes_high_first 4 peer.ip in
    let port = bytes_high_first 2 peer.port in
    let is_ip : big_number 4 ip ≡ peer.ip = read_back 4 peer.ip (omega (arith, h.ip)) in
    let is_port : big_number 2 port ≡ peer.port = read_back 2 peer.port (omega (arith, h.port)) in
    let same : Some (local (big_number 4 ip) (big_number 2 port) 0 []) ≡ Some peer =
    ap (λ (i : ℕ). Some (local i (big_number 2 port) 0 [])) is_ip
    ∙ ap (λ (p : ℕ). Some (local peer.ip p 0 [])) is_port
    ∙ ap (λ (net : ℕ). Some (local peer.ip peer.port net [])) (sym h.network)
    ∙ ap (λ (mac : List ℕ). Some (local peer.ip peer.port peer.net mac)) (sym h.station) in
    rw (eq-eqb peer.net 0 h.network) same
