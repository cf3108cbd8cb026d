-- What is in the grammar is found by reading, and its APDU stands at the end.
use Rattle.std.proofs.Common.{◌≡◌, ℕ, ◌+◌, ◌-◌, ◌^◌, ◌<◌, ◌≤◌, Bool, true, false, ltb, eqb, cond, List, [], ◌∷◌, ◌++◌, length, drop, Some, refl, sym, ap, ◌∙◌, inl, inr, arith}
use Rattle.std.specs.Bool.{MatchBool}
use Rattle.std.specs.Int.{bytes_high_first}
use Rattle.std.proofs.lemmas.Bool.{eq-eqb, ne_eqb, le-ltb}
use Rattle.std.proofs.lemmas.List.{append_assoc, take_at, drop_at, length-append}
use Rattle.byteorder.specs.Endian.{big_number}
use Rattle.byteorder.specs.Numbers.{big_number-reads_back}
use Rattle.bac_values.specs.Address.{PeerData}
use Rattle.bvlc_npdu.specs.Frame.{has_bit, IsMessage, IsCarried, IsGlobalBroadcast, IsStation, IsNpdu, IsFrame}
use Rattle.bvlc_npdu.specs.ReadingSteps.{◌>>=◌, past, message_at, forwarded_at, origin_at, after_global_broadcast, after_destination, station_at, source_at, after_hop_count, addressed_at, npdu_at, frame_at}

message_spelled : (function n : ℕ) (content : List ℕ) → n < 2 ^ 16 → n ≡ 4 + length content → message_at (0x81 ∷ function ∷ bytes_high_first 2 n ++ content) ≡ Some (function, content)
unfolding message_at
message_spelled function n content fits e =
    let long : ltb (length (0x81 ∷ function ∷ bytes_high_first 2 n ++ content)) 4 ≡ false = le-ltb _ _ (omega arith) in
    let whole : eqb (big_number 2 (bytes_high_first 2 n ++ content)) (length (0x81 ∷ function ∷ bytes_high_first 2 n ++ content)) ≡ true = eq-eqb _ _ (big_number-reads_back 2 n content fits ∙ omega arith) in
    rw (long, whole) refl

message_found : (octets : List ℕ) (function : ℕ) (content : List ℕ) → IsMessage octets function content → message_at octets ≡ Some (function, content)
message_found octets function content m =
    let len : length octets ≡ 4 + length content = ap length m.spelled ∙ omega arith in
    ap message_at m.spelled ∙ message_spelled function (length octets) content m.fits len

forwarded_found : (ip port : ℕ) (npdu : List ℕ) → ip < 2 ^ 32 → port < 2 ^ 16 → forwarded_at (bytes_high_first 4 ip ++ (bytes_high_first 2 port ++ npdu)) ≡ Some (record { ip = ip; port = port; net = 0; mac = [] }, npdu)
unfolding forwarded_at
forwarded_found ip port npdu fits_ip fits_port =
    let long : ltb (length (bytes_high_first 4 ip ++ (bytes_high_first 2 port ++ npdu))) 6 ≡ false = le-ltb _ _ (omega arith) in
    rw (long, big_number-reads_back 4 ip (bytes_high_first 2 port ++ npdu) fits_ip, big_number-reads_back 2 port npdu fits_port) refl

origin_found : (sender : PeerData) (function : ℕ) (content : List ℕ) (origin : PeerData) (npdu : List ℕ) → IsCarried sender function content origin npdu → origin_at sender function content ≡ Some (origin, npdu)
unfolding origin_at
origin_found sender function content origin npdu (inl o) =
    elim o.named [
      | inl e ↦ rw (e, o.from, o.spelled) refl
      | inr e ↦ rw (e, o.from, o.spelled) refl
    ]
origin_found sender function content origin npdu (inr f) =
    let found = forwarded_found origin.ip origin.port npdu f.fits.0 f.fits.1 in
    let address : ℕ → List ℕ → PeerData = λ net mac. record { ip = origin.ip; port = origin.port; net = net; mac = mac } in
    let named : address 0 [] ≡ address origin.net origin.mac = ap (λ (net : ℕ). address net []) (sym f.local.0) ∙ ap (λ (mac : List ℕ). address origin.net mac) (sym f.local.1) in
    rw (f.named, f.spelled, found) (ap (λ (o : PeerData). Some (o, npdu)) named)

past_found : (front rest : List ℕ) (count : ℕ) → length front ≡ count → past count (front ++ rest) ≡ Some rest
past_found front rest count len =
    let long : ltb (length (front ++ rest)) count ≡ false = le-ltb _ _ (omega (arith, length-append front rest)) in
    rw (long, drop_at front rest count len) refl

global_broadcast_found : (address rest : List ℕ) → after_global_broadcast (bytes_high_first 2 0xffff ++ (length address ∷ address ++ rest)) ≡ Some rest
unfolding after_global_broadcast
global_broadcast_found address rest =
    let long : ltb (length (bytes_high_first 2 0xffff ++ (length address ∷ address ++ rest))) 3 ≡ false = le-ltb _ _ (omega arith) in
    rw long (past_found address rest (length address) refl)

destination_found : (b : Bool) (destination rest : List ℕ) → MatchBool b (IsGlobalBroadcast destination) (destination ≡ []) → cond b (after_global_broadcast (destination ++ rest)) (Some (destination ++ rest)) ≡ Some rest
destination_found true destination rest broadcast = ap (λ (d : List ℕ). after_global_broadcast (d ++ rest)) broadcast.1 ∙ global_broadcast_found broadcast.0 rest
destination_found false destination rest none = ap (λ (d : List ℕ). Some (d ++ rest)) none

station_spelled : (net : ℕ) (mac rest : List ℕ) → 0 < net → net < 2 ^ 16 → 0 < length mac → length mac ≤ 7 → station_at (bytes_high_first 2 net ++ (length mac ∷ mac ++ rest)) ≡ Some (net, mac, rest)
unfolding station_at
station_spelled net mac rest remote fits some short =
    let long : ltb (length (bytes_high_first 2 net ++ (length mac ∷ mac ++ rest))) 3 ≡ false = le-ltb _ _ (omega arith) in
    let not_local : eqb net 0 ≡ false = ne_eqb _ _ (λ e. omega arith) in
    let not_empty : eqb (length mac) 0 ≡ false = ne_eqb _ _ (λ e. omega arith) in
    let at_most : ltb 7 (length mac) ≡ false = le-ltb _ _ short in
    let whole : ltb (length (mac ++ rest)) (length mac) ≡ false = le-ltb _ _ (omega (arith, length-append mac rest)) in
    rw (long, big_number-reads_back 2 net (length mac ∷ mac ++ rest) fits, not_local, not_empty, at_most, whole, take_at mac rest (length mac) refl, drop_at mac rest (length mac) refl) refl

source_found : (b : Bool) (source : List ℕ) (origin peer : PeerData) (rest : List ℕ)
    → MatchBool b ((net : ℕ) × (mac : List ℕ) × IsStation source net mac × (peer ≡ record origin { net = net; mac = mac })) ((source ≡ []) × (peer ≡ origin))
    → cond b (◌>>=◌ {B = PeerData × List ℕ} (station_at (source ++ rest)) (λ s. Some (record origin { net = s.0; mac = s.1 }, s.2))) (Some (origin, source ++ rest)) ≡ Some (peer, rest)
source_found true source origin peer rest (net, mac, station, same) =
    let found : station_at (source ++ rest) ≡ Some (net, mac, rest) = ap (λ (s : List ℕ). station_at (s ++ rest)) station.spelled ∙ station_spelled net mac rest station.remote.0 station.remote.1 station.short.0 station.short.1 in
    rw found (ap (λ (p : PeerData). Some (p, rest)) (sym same))
source_found false source origin peer rest (none, same) = rw (none, same) refl

hop_count_found : (b : Bool) (hops rest : List ℕ) → MatchBool b (length hops ≡ 1) (hops ≡ []) → cond b (past 1 (hops ++ rest)) (Some (hops ++ rest)) ≡ Some rest
hop_count_found true hops rest one = past_found hops rest 1 one
hop_count_found false hops rest none = ap (λ (h : List ℕ). Some (h ++ rest)) none

npdu_found : (origin peer : PeerData) (octets apdu : List ℕ) → IsNpdu octets origin peer apdu → npdu_at origin octets ≡ Some (peer, apdu)
unfolding npdu_at addressed_at after_destination source_at after_hop_count
npdu_found origin peer octets apdu n =
    let behind = n.source ++ (n.hops ++ apdu) in
    let long : ltb (length (1 ∷ n.control ∷ n.destination ++ behind)) 2 ≡ false = le-ltb _ _ (omega arith) in
    let d = destination_found (has_bit n.control 5) n.destination behind n.goes_to in
    let s = source_found (has_bit n.control 3) n.source origin peer (n.hops ++ apdu) n.comes_from in
    let h = hop_count_found (has_bit n.control 5) n.hops apdu n.counts in
    rw (n.spelled, long, n.carries_apdu, d, s, h) refl

-- a frame is found
pub frame_found : (sender : PeerData) (octets : List ℕ) (peer : PeerData) (apdu : List ℕ) → IsFrame sender octets peer apdu → frame_at sender octets ≡ Some (peer, apdu)
unfolding frame_at
frame_found sender octets peer apdu f =
    let m = message_found octets f.function f.content f.message in
    let c = origin_found sender f.function f.content f.origin f.npdu f.carried in
    let n = npdu_found f.origin peer f.npdu apdu f.network in
    let answered : eqb peer.port 0 ≡ false = ne_eqb _ _ (λ e. omega (arith, f.answerable)) in
    rw (m, c, n, answered) refl

-- these octets stand at the end of those
pub record EndsWith (octets rest : List ℕ) : Type 0 where
  pub front : List ℕ
  pub parts : octets ≡ front ++ rest

EndsWith-then : (a b c : List ℕ) → EndsWith a b → EndsWith b c → EndsWith a c
EndsWith-then a b c p q = record { front = p.front ++ q.front; parts = p.parts ∙ ap (λ (r : List ℕ). p.front ++ r) q.parts ∙ sym (append_assoc p.front q.front c) }

pub length-EndsWith : (octets rest : List ℕ) → EndsWith octets rest → length rest ≤ length octets
length-EndsWith octets rest e = omega (arith, ap length e.parts, length-append e.front rest)

-- what stands at the end begins where the octets before it end
pub drop-EndsWith : (octets rest : List ℕ) → EndsWith octets rest → drop (length octets - length rest) octets ≡ rest
drop-EndsWith octets rest e =
    let len : length e.front ≡ length octets - length rest = omega (arith, ap length e.parts, length-append e.front rest) in
    ap (λ (o : List ℕ). drop (length octets - length rest) o) e.parts ∙ drop_at e.front rest (length octets - length rest) len

npdu_ends : (sender : PeerData) (function : ℕ) (content : List ℕ) (origin : PeerData) (npdu : List ℕ) → IsCarried sender function content origin npdu → EndsWith content npdu
npdu_ends sender function content origin npdu (inl o) = record { front = []; parts = o.spelled }
npdu_ends sender function content origin npdu (inr f) = record { front = bytes_high_first 4 origin.ip ++ bytes_high_first 2 origin.port; parts = f.spelled }

pub apdu_ends : (sender : PeerData) (octets : List ℕ) (peer : PeerData) (apdu : List ℕ) → IsFrame sender octets peer apdu → EndsWith octets apdu
apdu_ends sender octets peer apdu f =
    let n = f.network in
    let content : EndsWith octets f.content = record { front = 0x81 ∷ f.function ∷ bytes_high_first 2 (length octets); parts = f.message.spelled } in
    let npdu = npdu_ends sender f.function f.content f.origin f.npdu f.carried in
    let last : EndsWith f.npdu apdu = record { front = 0x01 ∷ n.control ∷ n.destination ++ (n.source ++ n.hops); parts = n.spelled ∙ ap (λ (r : List ℕ). 0x01 ∷ n.control ∷ r) (ap (λ (r : List ℕ). n.destination ++ r) (sym (append_assoc n.source n.hops apdu)) ∙ sym (append_assoc n.destination (n.source ++ n.hops) apdu)) } in
    EndsWith-then octets f.npdu apdu (EndsWith-then octets f.content f.npdu content npdu) last
