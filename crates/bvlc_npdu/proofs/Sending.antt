-- What is written is a frame.
use Rattle.std.proofs.Common.{◌≡◌, ℕ, ◌<◌, ◌≤◌, Bool, true, false, cond, List, [], ◌∷◌, ◌++◌, length, refl, sym, ap, subst, inl, arith}
use Rattle.std.specs.Int.{bytes_high_first}
use Rattle.bac_values.specs.Address.{PeerData}
use Rattle.bvlc_npdu.specs.Frame.{IsFrame, IsNpdu}
use Rattle.bvlc_npdu.specs.Writing.{written_npdu, written_message, written_frame}

-- an NPDU with no destination and no source, and a reply expected or not
plain_npdu : (origin : PeerData) (expects_reply : Bool) (apdu : List ℕ) → IsNpdu (1 ∷ cond expects_reply 4 0 ∷ apdu) origin origin apdu
plain_npdu origin true apdu = record { control = 4; destination = []; source = []; hops = []; spelled = refl; carries_apdu = refl; goes_to = refl; comes_from = (refl, refl); counts = refl }
plain_npdu origin false apdu = record { control = 0; destination = []; source = []; hops = []; spelled = refl; carries_apdu = refl; goes_to = refl; comes_from = (refl, refl); counts = refl }

local_npdu : (peer : PeerData) (expects_reply : Bool) (apdu : List ℕ) → peer.net ≡ 0 → written_npdu peer expects_reply apdu ≡ 1 ∷ cond expects_reply 4 0 ∷ apdu
local_npdu peer true apdu local = rw local refl
local_npdu peer false apdu local = rw local refl

message_frame : (sender : PeerData) (npdu apdu : List ℕ) → length npdu < 65000 → 0 < sender.port → IsNpdu npdu sender sender apdu → IsFrame sender (written_message npdu) sender apdu
message_frame sender npdu apdu fits port network = record {
  function = 0x0a;
  content = npdu;
  origin = sender;
  npdu = npdu;
  message = record { spelled = ap (λ (n : ℕ). 0x81 ∷ 0x0a ∷ bytes_high_first 2 n ++ npdu) (omega arith); fits = omega arith };
  carried = inl (record { named = inl refl; from = refl; spelled = refl });
  network = network;
  answerable = port;
}

pub written_is_frame : (peer : PeerData) (expects_reply : Bool) (apdu : List ℕ) → length apdu ≤ 1476 → peer.net ≡ 0 → (sender : PeerData) → 0 < sender.port → IsFrame sender (written_frame peer expects_reply apdu) sender apdu
written_is_frame peer expects_reply apdu short local sender port =
    subst (λ (npdu : List ℕ). IsFrame sender (written_message npdu) sender apdu) (sym (local_npdu peer expects_reply apdu local))
    (message_frame sender (1 ∷ cond expects_reply 4 0 ∷ apdu) apdu (omega arith) port (plain_npdu sender expects_reply apdu))
