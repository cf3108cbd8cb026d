-- What reading takes is in the grammar.
use Rattle.std.proofs.Common.{◌≡◌, ℕ, suc, ◌≤◌, Bool, true, false, not, ◌&&◌, ltb, eqb, cond, ◌⊎◌, List, [], ◌∷◌, ◌++◌, length, take, drop, Some, None, refl, sym, ap, subst, ◌∙◌, inl, inr, arith}
use Rattle.std.specs.Bool.{MatchBool}
use Rattle.std.specs.Int.{bytes_high_first}
use Rattle.std.proofs.lemmas.Bool.{and_parts, eqb-true, eqb-false, ltb-false, not-true}
use Rattle.std.proofs.lemmas.List.{take-append-drop, length-take-le}
use Rattle.std.proofs.lemmas.Option.{same_Some}
use Rattle.byteorder.specs.Endian.{big_number}
use Rattle.bac_values.specs.Address.{PeerData}
use Rattle.bvlc_npdu.specs.Frame.{has_bit, IsMessage, IsCarried, IsForwarded, IsGlobalBroadcast, IsStation, IsDestination, IsSource, IsHopCount, IsNpdu, IsFrame}
use Rattle.bvlc_npdu.specs.ReadingSteps.{◌>>=◌, past, message_at, forwarded_at, origin_at, after_global_broadcast, after_destination, station_at, source_at, after_hop_count, addressed_at, npdu_at, frame_at}
use Rattle.bvlc_npdu.proofs.Steps.{bind_some, guard_some, test_some, branch_taken}
use Rattle.bvlc_npdu.proofs.Numbers.{AreOctets, AreOctets-behind, octets_of_two, octets_of_four}

message_takes : (octets : List ℕ) (message : ℕ × List ℕ) → AreOctets octets → message_at octets ≡ Some message → IsMessage octets message.0 message.1
unfolding message_at
message_takes [] message fits e = absurd cc
message_takes (a ∷ []) message fits e = absurd cc
message_takes (a ∷ b ∷ []) message fits e = absurd cc
message_takes (a ∷ b ∷ c ∷ []) message fits e = absurd cc
message_takes (a ∷ b ∷ c ∷ d ∷ rest) message fits e =
    let octets = a ∷ b ∷ c ∷ d ∷ rest in
    let guard = guard_some (ltb (length octets) 4) _ message e in
    let tested = test_some (eqb a 129 && eqb (big_number 2 (c ∷ d ∷ rest)) (length octets)) _ message guard.1 in
    let both = and_parts (eqb a 129) (eqb (big_number 2 (c ∷ d ∷ rest)) (length octets)) tested.0 in
    let kind : a ≡ 129 = eqb-true _ _ both.0 in
    let whole : big_number 2 (c ∷ d ∷ rest) ≡ length octets = eqb-true _ _ both.1 in
    let len : c ∷ d ∷ [] ≡ bytes_high_first 2 (length octets) = octets_of_two c d (length octets) rest (fits 2) (fits 3) whole in
    subst (λ (m : ℕ × List ℕ). IsMessage octets m.0 m.1) (same_Some _ _ tested.1) (record {
      spelled = ap (λ (k : ℕ). k ∷ b ∷ c ∷ d ∷ rest) kind ∙ ap (λ (n : List ℕ). 129 ∷ b ∷ n ++ rest) len;
      fits = omega (arith, fits 2, fits 3);
    })

forwarded_takes : (function : ℕ) (content : List ℕ) (carried : PeerData × List ℕ) → AreOctets content → function ≡ 0x04 → forwarded_at content ≡ Some carried → IsForwarded function content carried.0 carried.1
unfolding forwarded_at
forwarded_takes function [] carried fits named e = absurd cc
forwarded_takes function (a ∷ []) carried fits named e = absurd cc
forwarded_takes function (a ∷ b ∷ []) carried fits named e = absurd cc
forwarded_takes function (a ∷ b ∷ c ∷ []) carried fits named e = absurd cc
forwarded_takes function (a ∷ b ∷ c ∷ d ∷ []) carried fits named e = absurd cc
forwarded_takes function (a ∷ b ∷ c ∷ d ∷ x ∷ []) carried fits named e = absurd cc
forwarded_takes function (a ∷ b ∷ c ∷ d ∷ x ∷ y ∷ npdu) carried fits named e =
    let content = a ∷ b ∷ c ∷ d ∷ x ∷ y ∷ npdu in
    let guard = guard_some (ltb (length content) 6) _ carried e in
    let ip : a ∷ b ∷ c ∷ d ∷ [] ≡ bytes_high_first 4 (big_number 4 content) = octets_of_four a b c d (big_number 4 content) (x ∷ y ∷ npdu) (fits 0) (fits 1) (fits 2) (fits 3) refl in
    let port : x ∷ y ∷ [] ≡ bytes_high_first 2 (big_number 2 (x ∷ y ∷ npdu)) = octets_of_two x y (big_number 2 (x ∷ y ∷ npdu)) npdu (fits 4) (fits 5) refl in
    subst (λ (s : PeerData × List ℕ). IsForwarded function content s.0 s.1) (same_Some _ _ guard.1) (record {
      named = named;
      local = (refl, refl);
      spelled = ap (λ (n : List ℕ). n ++ (x ∷ y ∷ npdu)) ip ∙ ap (λ (n : List ℕ). bytes_high_first 4 (big_number 4 content) ++ (n ++ npdu)) port;
      fits = (omega (arith, fits 0, fits 1, fits 2, fits 3), omega (arith, fits 4, fits 5));
    })

origin_takes : (sender : PeerData) (function : ℕ) (content : List ℕ) (carried : PeerData × List ℕ) → AreOctets content → origin_at sender function content ≡ Some carried → IsCarried sender function content carried.0 carried.1
unfolding origin_at
origin_takes sender function content carried fits e =
    let original : (function ≡ 0x0a) ⊎ (function ≡ 0x0b) → Some (sender, content) ≡ Some carried → IsCarried sender function content carried.0 carried.1 =
    λ named same. subst (λ (s : PeerData × List ℕ). IsCarried sender function content s.0 s.1) (same_Some _ _ same) (inl (record { named = named; from = refl; spelled = refl })) in
    elim (branch_taken (eqb function 10) _ _ _ e) [
      | inl unicast ↦ original (inl (eqb-true _ _ unicast.0)) unicast.1
      | inr others ↦ elim (branch_taken (eqb function 11) _ _ _ others.1) [
        | inl broadcast ↦ original (inr (eqb-true _ _ broadcast.0)) broadcast.1
        | inr rest ↦
            let forwarded = test_some (eqb function 4) (forwarded_at content) carried rest.1 in
            inr (forwarded_takes function content carried fits (eqb-true _ _ forwarded.0) forwarded.1)
      ]
    ]

past_takes : (count : ℕ) (octets rest : List ℕ) → past count octets ≡ Some rest → (count ≤ length octets) × (octets ≡ take count octets ++ rest)
past_takes count octets rest e =
    let guard = guard_some (ltb (length octets) count) (Some (drop count octets)) rest e in
    (ltb-false _ _ guard.0, sym (take-append-drop count octets) ∙ ap (λ (r : List ℕ). take count octets ++ r) (same_Some _ _ guard.1))

global_broadcast_takes : (octets rest : List ℕ) → AreOctets octets → after_global_broadcast octets ≡ Some rest → (destination : List ℕ) × IsGlobalBroadcast destination × (octets ≡ destination ++ rest)
unfolding after_global_broadcast
global_broadcast_takes [] rest fits e = absurd cc
global_broadcast_takes (a ∷ []) rest fits e = absurd cc
global_broadcast_takes (a ∷ b ∷ []) rest fits e = absurd cc
global_broadcast_takes (a ∷ b ∷ size ∷ more) rest fits e =
    let guard = guard_some (ltb (length (a ∷ b ∷ size ∷ more)) 3) _ rest e in
    let tested = test_some (eqb (big_number 2 (a ∷ b ∷ size ∷ more)) 65535) (past size more) rest guard.1 in
    let split = past_takes size more rest tested.1 in
    let net : a ∷ b ∷ [] ≡ bytes_high_first 2 0xffff = octets_of_two a b 65535 (size ∷ more) (fits 0) (fits 1) (eqb-true _ _ tested.0) in
    let len : length (take size more) ≡ size = length-take-le size more split.0 in
    (a ∷ b ∷ size ∷ take size more, (take size more, ap (λ (n : List ℕ). n ++ (size ∷ take size more)) net ∙ ap (λ (k : ℕ). bytes_high_first 2 0xffff ++ (k ∷ take size more)) (sym len)), ap (λ (r : List ℕ). a ∷ b ∷ size ∷ r) split.1)

destination_takes : (b : Bool) (octets rest : List ℕ) → AreOctets octets → cond b (after_global_broadcast octets) (Some octets) ≡ Some rest → (destination : List ℕ) × MatchBool b (IsGlobalBroadcast destination) (destination ≡ []) × (octets ≡ destination ++ rest)
destination_takes true octets rest fits e = global_broadcast_takes octets rest fits e
destination_takes false octets rest fits e = ([], refl, same_Some _ _ e)

station_takes : (octets : List ℕ) (station : ℕ × List ℕ × List ℕ) → AreOctets octets → station_at octets ≡ Some station → (source : List ℕ) × IsStation source station.0 station.1 × (octets ≡ source ++ station.2)
unfolding station_at
station_takes [] station fits e = absurd cc
station_takes (a ∷ []) station fits e = absurd cc
station_takes (a ∷ b ∷ []) station fits e = absurd cc
station_takes (a ∷ b ∷ size ∷ more) station fits e =
    let net = big_number 2 (a ∷ b ∷ size ∷ more) in
    let long = guard_some (ltb (length (a ∷ b ∷ size ∷ more)) 3) _ station e in
    let remote = guard_some (eqb net 0) _ station long.1 in
    let some = guard_some (eqb size 0) _ station remote.1 in
    let short = guard_some (ltb 7 size) _ station some.1 in
    let whole = guard_some (ltb (length more) size) _ station short.1 in
    let number : a ∷ b ∷ [] ≡ bytes_high_first 2 net = octets_of_two a b net (size ∷ more) (fits 0) (fits 1) refl in
    let len : length (take size more) ≡ size = length-take-le size more (ltb-false _ _ whole.0) in
    let not_zero : net ≡ 0 → ⊥ = eqb-false _ _ remote.0 in
    let not_empty : size ≡ 0 → ⊥ = eqb-false _ _ some.0 in
    let at_most : size ≤ 7 = ltb-false _ _ short.0 in
    subst (λ (s : ℕ × List ℕ × List ℕ). (source : List ℕ) × IsStation source s.0 s.1 × (a ∷ b ∷ size ∷ more ≡ source ++ s.2)) (same_Some _ _ whole.1) (
      a ∷ b ∷ size ∷ take size more,
      record {
        spelled = ap (λ (n : List ℕ). n ++ (size ∷ take size more)) number ∙ ap (λ (k : ℕ). bytes_high_first 2 net ++ (k ∷ take size more)) (sym len);
        remote = (omega arith, omega (arith, fits 0, fits 1));
        short = (omega arith, omega arith);
      },
      ap (λ (r : List ℕ). a ∷ b ∷ size ∷ r) (sym (take-append-drop size more)),
    )

source_takes : (b : Bool) (origin : PeerData) (octets : List ℕ) (found : PeerData × List ℕ) → AreOctets octets
    → cond b (station_at octets >>= λ s. Some (record origin { net = s.0; mac = s.1 }, s.2)) (Some (origin, octets)) ≡ Some found
    → (source : List ℕ) × MatchBool b ((net : ℕ) × (mac : List ℕ) × IsStation source net mac × (found.0 ≡ record origin { net = net; mac = mac })) ((source ≡ []) × (found.0 ≡ origin)) × (octets ≡ source ++ found.1)
source_takes true origin octets found fits e =
    let station = bind_some (station_at octets) (λ s. Some (record origin { net = s.0; mac = s.1 }, s.2)) found e in
    let taken = station_takes octets station.0 fits station.1 in
    let same = same_Some _ _ station.2 in
    (taken.0, (station.0.0, station.0.1, taken.1, ap (λ (s : PeerData × List ℕ). s.0) (sym same)), taken.2 ∙ ap (λ (s : PeerData × List ℕ). taken.0 ++ s.1) same)
source_takes false origin octets found fits e =
    let same = same_Some _ _ e in
    ([], (refl, ap (λ (s : PeerData × List ℕ). s.0) (sym same)), ap (λ (s : PeerData × List ℕ). s.1) same)

hop_count_takes : (b : Bool) (octets rest : List ℕ) → cond b (past 1 octets) (Some octets) ≡ Some rest → (hops : List ℕ) × MatchBool b (length hops ≡ 1) (hops ≡ []) × (octets ≡ hops ++ rest)
hop_count_takes true octets rest e =
    let split = past_takes 1 octets rest e in
    (take 1 octets, length-take-le 1 octets split.0, split.1)
hop_count_takes false octets rest e = ([], refl, same_Some _ _ e)

-- the parts behind the control octet, one after the other, make an NPDU
parts_taken : (control : ℕ) (origin peer : PeerData) (octets destination after source behind hops apdu : List ℕ) → has_bit control 7 ≡ false
    → IsDestination control destination → octets ≡ destination ++ after
    → IsSource control source origin peer → after ≡ source ++ behind
    → IsHopCount control hops → behind ≡ hops ++ apdu
    → IsNpdu (1 ∷ control ∷ octets) origin peer apdu
parts_taken control origin peer octets destination after source behind hops apdu plain d d_is s s_is h h_is = record {
  control = control;
  destination = destination;
  source = source;
  hops = hops;
  spelled = rw (d_is, s_is, h_is) refl;
  carries_apdu = plain;
  goes_to = d;
  comes_from = s;
  counts = h;
}

addressed_takes : (origin : PeerData) (control : ℕ) (octets : List ℕ) (found : PeerData × List ℕ) → AreOctets octets → has_bit control 7 ≡ false → addressed_at origin control octets ≡ Some found
    → IsNpdu (1 ∷ control ∷ octets) origin found.0 found.1
unfolding addressed_at after_destination source_at after_hop_count
addressed_takes origin control octets found fits plain e =
    let after = bind_some (after_destination control octets) (λ rest. source_at control origin rest >>= λ source. after_hop_count control source.1 >>= λ apdu. Some (source.0, apdu)) found e in
    let from = bind_some (source_at control origin after.0) (λ source. after_hop_count control source.1 >>= λ apdu. Some (source.0, apdu)) found after.2 in
    let last = bind_some (after_hop_count control from.0.1) (λ apdu. Some (from.0.0, apdu)) found from.2 in
    let d = destination_takes (has_bit control 5) octets after.0 fits after.1 in
    let s = source_takes (has_bit control 3) origin after.0 from.0 (AreOctets-behind d.0 after.0 (subst AreOctets d.2 fits)) from.1 in
    let h = hop_count_takes (has_bit control 5) from.0.1 last.0 last.1 in
    subst (λ (f : PeerData × List ℕ). IsNpdu (1 ∷ control ∷ octets) origin f.0 f.1) (same_Some _ _ last.2)
    (parts_taken control origin from.0.0 octets d.0 after.0 s.0 from.0.1 h.0 last.0 plain d.1 d.2 s.1 s.2 h.1 h.2)

npdu_takes : (origin : PeerData) (octets : List ℕ) (found : PeerData × List ℕ) → AreOctets octets → npdu_at origin octets ≡ Some found → IsNpdu octets origin found.0 found.1
unfolding npdu_at
npdu_takes origin [] found fits e = absurd cc
npdu_takes origin (a ∷ []) found fits e = absurd cc
npdu_takes origin (version ∷ control ∷ rest) found fits e =
    let guard = guard_some (ltb (length (version ∷ control ∷ rest)) 2) _ found e in
    let tested = test_some (eqb version 1 && not (has_bit control 7)) (addressed_at origin control rest) found guard.1 in
    let both = and_parts (eqb version 1) (not (has_bit control 7)) tested.0 in
    let taken = addressed_takes origin control rest found (λ i. fits (suc (suc i))) (not-true _ both.1) tested.1 in
    subst (λ (k : ℕ). IsNpdu (k ∷ control ∷ rest) origin found.0 found.1) (sym (eqb-true version 1 both.0)) taken

-- the octets that a message carries stand at its end
content_fits : (octets : List ℕ) (function : ℕ) (content : List ℕ) → AreOctets octets → IsMessage octets function content → AreOctets content
content_fits octets function content fits m = AreOctets-behind (0x81 ∷ function ∷ bytes_high_first 2 (length octets)) content (subst AreOctets m.spelled fits)

npdu_fits : (sender : PeerData) (function : ℕ) (content : List ℕ) (origin : PeerData) (npdu : List ℕ) → AreOctets content → IsCarried sender function content origin npdu → AreOctets npdu
npdu_fits sender function content origin npdu fits (inl o) = subst AreOctets o.spelled fits
npdu_fits sender function content origin npdu fits (inr f) = AreOctets-behind (bytes_high_first 4 origin.ip ++ bytes_high_first 2 origin.port) npdu (subst AreOctets f.spelled fits)

-- what is read is a frame
pub frame_takes : (sender : PeerData) (octets : List ℕ) (found : PeerData × List ℕ) → AreOctets octets → frame_at sender octets ≡ Some found → IsFrame sender octets found.0 found.1
unfolding frame_at
frame_takes sender octets found fits e =
    let message = bind_some (message_at octets) (λ m. origin_at sender m.0 m.1 >>= λ c. npdu_at c.0 c.1 >>= λ f. cond (eqb f.0.port 0) None (Some f)) found e in
    let carried = bind_some (origin_at sender message.0.0 message.0.1) (λ c. npdu_at c.0 c.1 >>= λ f. cond (eqb f.0.port 0) None (Some f)) found message.2 in
    let last = bind_some (npdu_at carried.0.0 carried.0.1) (λ f. cond (eqb f.0.port 0) None (Some f)) found carried.2 in
    let answered = guard_some (eqb last.0.0.port 0) (Some last.0) found last.2 in
    let m = message_takes octets message.0 fits message.1 in
    let content = content_fits octets message.0.0 message.0.1 fits m in
    let c = origin_takes sender message.0.0 message.0.1 carried.0 content carried.1 in
    let n = npdu_takes carried.0.0 carried.0.1 last.0 (npdu_fits sender message.0.0 message.0.1 carried.0.0 carried.0.1 content c) last.1 in
    let not_zero : last.0.0.port ≡ 0 → ⊥ = eqb-false _ _ answered.0 in
    subst (λ (f : PeerData × List ℕ). IsFrame sender octets f.0 f.1) (same_Some _ _ answered.1) (record {
      function = message.0.0;
      content = message.0.1;
      origin = carried.0.0;
      npdu = carried.0.1;
      message = m;
      carried = c;
      network = n;
      answerable = omega arith;
    })
