-- What `unwrap` answers, from what reading gives.
use Rattle.std.proofs.Common.{◌≡◌, ℕ, ◌-◌, ◌≤◌, List, length, drop, Some, None, sym, ap, subst, ◌∙◌}
use Rattle.std.proofs.lemmas.Option.{some_pair_parts, none-some}
use Rattle.bac_values.specs.Address.{PeerData}
use Rattle.bvlc_npdu.specs.Frame.{IsFrame}
use Rattle.bvlc_npdu.specs.ReadingSteps.{frame_at}
use Rattle.bvlc_npdu.proofs.Numbers.{AreOctets}
use Rattle.bvlc_npdu.proofs.Taking.{frame_takes}
use Rattle.bvlc_npdu.proofs.Finding.{frame_found, apdu_ends, length-EndsWith, drop-EndsWith}

pub start_within : (sender : PeerData) (octets : List ℕ) (peer : PeerData) (apdu : List ℕ) → AreOctets octets → frame_at sender octets ≡ Some (peer, apdu) → length apdu ≤ length octets
start_within sender octets peer apdu fits e = length-EndsWith octets apdu (apdu_ends sender octets peer apdu (frame_takes sender octets (peer, apdu) fits e))

pub start_is : (sender : PeerData) (octets : List ℕ) (peer : PeerData) (apdu : List ℕ) → IsFrame sender octets peer apdu → drop (length octets - length apdu) octets ≡ apdu
start_is sender octets peer apdu f = drop-EndsWith octets apdu (apdu_ends sender octets peer apdu f)

pub is_frame : (sender : PeerData) (octets : List ℕ) (peer : PeerData) (apdu : List ℕ) → AreOctets octets → frame_at sender octets ≡ Some (peer, apdu)
    → IsFrame sender octets peer (drop (length octets - length apdu) octets)
is_frame sender octets peer apdu fits e =
    let f = frame_takes sender octets (peer, apdu) fits e in
    subst (λ (a : List ℕ). IsFrame sender octets peer a) (sym (start_is sender octets peer apdu f)) f

pub is_only : (sender : PeerData) (octets : List ℕ) (peer : PeerData) (apdu : List ℕ) → frame_at sender octets ≡ Some (peer, apdu)
    → (other : PeerData) (other_apdu : List ℕ) → IsFrame sender octets other other_apdu → (peer ≡ other) × (drop (length octets - length apdu) octets ≡ other_apdu)
is_only sender octets peer apdu e other other_apdu f =
    let same = some_pair_parts peer other apdu other_apdu (sym e ∙ frame_found sender octets other other_apdu f) in
    (same.0, ap (λ (a : List ℕ). drop (length octets - length a) octets) same.1 ∙ start_is sender octets other other_apdu f)

pub is_none : (sender : PeerData) (octets : List ℕ) → frame_at sender octets ≡ None → (other : PeerData) (other_apdu : List ℕ) → IsFrame sender octets other other_apdu → ⊥
is_none sender octets e other other_apdu f = none-some (other, other_apdu) (sym e ∙ frame_found sender octets other other_apdu f)
