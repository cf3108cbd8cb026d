-- The one frame that is written: an Original-Unicast-NPDU (ANSI/ASHRAE 135-2020, annex J.2.11) of normal priority.
use Rattle.std.specs.Prelude.{ℕ, ◌+◌, Bool, List, [], ◌∷◌, ◌++◌, length, ◌==◌, if◌then◌else◌}
use Rattle.std.specs.Int.{bytes_high_first}
use Rattle.bac_values.specs.Address.{PeerData}

-- 6.2.2: bit 5 where a destination is named, bit 2 where a reply is expected
abbrev pub written_control : PeerData → Bool → ℕ
written_control peer expects_reply = (if peer.net == 0 then 0x00 else 0x20) + (if expects_reply then 0x04 else 0x00)

-- a peer behind a router: its network, the length of its address there, the address, and a hop count of 255
abbrev pub written_destination : PeerData → List ℕ
written_destination peer =
    if peer.net == 0 then []
    else bytes_high_first 2 peer.net ++ (length peer.mac ∷ peer.mac ++ 255 ∷ [])

abbrev pub written_npdu : PeerData → Bool → List ℕ → List ℕ
written_npdu peer expects_reply apdu = 0x01 ∷ written_control peer expects_reply ∷ written_destination peer ++ apdu

-- a message counts its own four octets too
abbrev pub written_message : List ℕ → List ℕ
written_message npdu = 0x81 ∷ 0x0a ∷ bytes_high_first 2 (4 + length npdu) ++ npdu

abbrev pub written_frame : PeerData → Bool → List ℕ → List ℕ
written_frame peer expects_reply apdu = written_message (written_npdu peer expects_reply apdu)
