-- Octets, numbers, flags, identifiers and peers: each is read exactly as it is written.
use Rattle.std.proofs.Common.{◌≡◌, ℕ, zero, suc, ◌+◌, ◌-◌, ◌*◌, ◌/◌, ◌%◌, ◌^◌, ◌<◌, ◌≤◌, Bool, true, false, not, cond, eqb, ltb, leb, ◌&&◌, ◌||◌, List, [], ◌∷◌, ◌++◌, length, take, drop, replicate, Some, None, refl, sym, ap, subst, ◌∙◌, arith, inl, inr}
use Rattle.std.specs.Int.{Width, w16, w32, w64, byte_len, from_be_bytes, to_be_bytes}
use Rattle.std.specs.List.{list_all}
use Rattle.std.proofs.lemmas.Bool.{cases_lt, ltb-false, ltb-true, le-ltb, leb-true, le-leb, eqb-true, false_from_ne_true}
use Rattle.std.proofs.lemmas.List.{take_at, drop_at, take-append-drop, length-append, length-take, length-drop, length-replicate, get_or-drop, get_or-take, get_or_past, nil_from_length}
use Rattle.std.proofs.lemmas.Nat.{be_bytes_2, be_bytes_4, be_bytes_8, from_be_bytes-to_be_bytes_2, from_be_bytes-to_be_bytes_4, from_be_bytes-to_be_bytes_8}
use Rattle.std.proofs.lemmas.Option.{cond_some}
use Rattle.bac_values.specs.Address.{PeerData, padded}
use Rattle.bac_values.specs.BitString.{flags_number, three_flags}
use Rattle.bac_values.specs.Identifier.{IsIdentifier, ObjectIdData}
use Rattle.state_codec.specs.Records.{written_flag, written_flags, written_object, written_station, written_peer, IsPeer}
use Rattle.state_codec.specs.ReadingSteps.{then_at, last_at, octet_at, octets_at, number_at, flag_of, flag_at, flags_of, flags_at, object_of, object_at, station_of, station_at, peer_of, peer_at}
use Rattle.state_codec.proofs.Behind.{AreOctets, Takes, Reads, some_is, both_true, reads_then, reads_last}

pub AreOctets-drop : (n : ℕ) (octets : List ℕ) → AreOctets octets → AreOctets (drop n octets)
AreOctets-drop n octets are i = rw get_or-drop (are (n + i))

AreOctets-take : (n : ℕ) (octets : List ℕ) → AreOctets octets → AreOctets (take n octets)
AreOctets-take n octets are i =
    elim (cases_lt i n) [
      | inl lt ↦ rw (get_or-take n octets i 0 lt) (are i)
      | inr le ↦ rw (get_or_past (take n octets) i 0 (omega (arith, length-take n octets))) (omega arith)
    ]

-- ---- octets

abbrev pub written_octet : ℕ → List ℕ
written_octet octet = octet ∷ []

abbrev pub IsOctet : ℕ → Type 0
IsOctet octet = octet < 256

pub octet_reads : Reads octet_at written_octet IsOctet
unfolding octet_at
octet_reads = record { takes = taking; again = λ octet rest lt. refl }
  where
    taking : (octets : List ℕ) (octet : ℕ) (rest : List ℕ) → AreOctets octets → octet_at octets ≡ Some (octet, rest) → Takes octets (octet ∷ []) rest × (octet < 256)
    taking [] octet rest are e = absurd cc
    taking (first ∷ others) octet rest are e =
        subst (λ (x : ℕ × List ℕ). Takes (first ∷ others) (x.0 ∷ []) x.1 × (x.0 < 256)) (some_is (first, others) (octet, rest) e) (record { parts = refl; rest_are = λ i. are (suc i) }, are 0)

abbrev pub as_they_are : List ℕ → List ℕ
as_they_are octets = octets

abbrev pub HasLength : ℕ → List ℕ → Type 0
HasLength count octets = length octets ≡ count

-- where there are enough, those at the front and those behind them
enough : {A : Type 0} (b : Bool) (x y : A) → cond b None (Some x) ≡ Some y → (b ≡ false) × (x ≡ y)
enough true x y e = absurd cc
enough false x y e = (refl, cc)

pub octets_reads : (count : ℕ) → Reads (octets_at count) as_they_are (HasLength count)
unfolding octets_at
octets_reads count = record {
  takes = λ octets front rest are e.
      let g = enough (ltb (length octets) count) (take count octets, drop count octets) (front, rest) e in
      let long : count ≤ length octets = ltb-false _ _ g.0 in
      subst (λ (x : List ℕ × List ℕ). Takes octets x.0 x.1 × (length x.0 ≡ count)) g.1 (record { parts = sym (take-append-drop count octets); rest_are = AreOctets-drop count octets are }, omega (arith, length-take count octets));
  again = λ front rest long.
      let some : ltb (length (front ++ rest)) count ≡ false = le-ltb _ _ (omega (arith, length-append front rest, long)) in
      rw (some, take_at front rest count long, drop_at front rest count long) refl;
}

-- ---- numbers

pub record IsWide (w : Width) (limit : ℕ) : Type 0 where
  pub len : (n : ℕ) → length (to_be_bytes w n) ≡ byte_len w
  pub back : (octets : List ℕ) → length octets ≡ byte_len w → AreOctets octets → to_be_bytes w (from_be_bytes w octets) ≡ octets
  pub again : (n : ℕ) → n < limit → from_be_bytes w (to_be_bytes w n) ≡ n
  pub below : (octets : List ℕ) → AreOctets octets → from_be_bytes w octets < limit

wide16 : IsWide w16 (2 ^ 16)
wide16 = record {
  len = λ n. refl;
  back = λ octets len are. be_bytes_2 octets _ len are refl;
  again = λ n lt. from_be_bytes-to_be_bytes_2 n lt;
  below = λ octets are. omega (arith, are 0, are 1);
}

wide32 : IsWide w32 (2 ^ 32)
wide32 = record {
  len = λ n. refl;
  back = λ octets len are. be_bytes_4 octets _ len are refl;
  again = λ n lt. from_be_bytes-to_be_bytes_4 n lt;
  below = λ octets are. omega (arith, are 0, are 1, are 2, are 3);
}

wide64 : IsWide w64 (2 ^ 64)
wide64 = record {
  len = λ n. refl;
  back = λ octets len are. be_bytes_8 octets _ len are refl;
  again = λ n lt. from_be_bytes-to_be_bytes_8 n lt;
  below = λ octets are. omega (arith, are 0, are 1, are 2, are 3, are 4, are 5, are 6, are 7);
}

abbrev pub IsBelow : ℕ → ℕ → Type 0
IsBelow limit n = n < limit

number_reads : (w : Width) (limit : ℕ) → IsWide w limit → Reads (number_at w) (to_be_bytes w) (IsBelow limit)
unfolding number_at
number_reads w limit wide = record {
  takes = λ octets n rest are e.
      let g = enough (ltb (length octets) (byte_len w)) (from_be_bytes w (take (byte_len w) octets), drop (byte_len w) octets) (n, rest) e in
      let long : byte_len w ≤ length octets = ltb-false _ _ g.0 in
      let front : to_be_bytes w (from_be_bytes w (take (byte_len w) octets)) ≡ take (byte_len w) octets = wide.back (take (byte_len w) octets) (omega (arith, length-take (byte_len w) octets)) (AreOctets-take (byte_len w) octets are) in
      subst (λ (x : ℕ × List ℕ). Takes octets (to_be_bytes w x.0) x.1 × (x.0 < limit)) g.1
      (record { parts = sym (take-append-drop (byte_len w) octets) ∙ ap (λ (t : List ℕ). t ++ drop (byte_len w) octets) (sym front); rest_are = AreOctets-drop (byte_len w) octets are }, wide.below (take (byte_len w) octets) (AreOctets-take (byte_len w) octets are));
  again = λ n rest lt.
      let long : ltb (length (to_be_bytes w n ++ rest)) (byte_len w) ≡ false = le-ltb _ _ (omega (arith, length-append (to_be_bytes w n) rest, wide.len n)) in
      rw (long, take_at (to_be_bytes w n) rest (byte_len w) (wide.len n), drop_at (to_be_bytes w n) rest (byte_len w) (wide.len n), wide.again n lt) refl;
}

pub u16_reads : Reads (number_at w16) (to_be_bytes w16) (IsBelow (2 ^ 16))
u16_reads = number_reads w16 (2 ^ 16) wide16

pub u32_reads : Reads (number_at w32) (to_be_bytes w32) (IsBelow (2 ^ 32))
u32_reads = number_reads w32 (2 ^ 32) wide32

pub u64_reads : Reads (number_at w64) (to_be_bytes w64) (IsBelow (2 ^ 64))
u64_reads = number_reads w64 (2 ^ 64) wide64

-- ---- flags

abbrev pub IsAny : {X : Type 0} → X → Type 0
IsAny x = Unit {0}

flag_forth : (octet : ℕ) (flag : Bool) → octet < 256 → flag_of octet ≡ Some flag → Unit {0} × (written_flag flag ≡ octet ∷ [])
flag_forth zero flag lt e = subst (λ (f : Bool). Unit {0} × (written_flag f ≡ 0 ∷ [])) (some_is false flag e) (tt, refl)
flag_forth (suc zero) flag lt e = subst (λ (f : Bool). Unit {0} × (written_flag f ≡ 1 ∷ [])) (some_is true flag e) (tt, refl)
flag_forth (suc (suc octet)) flag lt e = absurd cc

flag_back : (flag : Bool) → Unit {0} → (octet : ℕ) × (octet < 256) × (flag_of octet ≡ Some flag) × (written_flag flag ≡ octet ∷ [])
flag_back false f = (0, omega arith, refl, refl)
flag_back true f = (1, omega arith, refl, refl)

pub flag_reads : Reads flag_at written_flag IsAny
unfolding flag_at
flag_reads = reads_last octet_at flag_of written_octet IsOctet written_flag IsAny octet_reads flag_forth flag_back

-- three of them
abbrev pub AreThree : List Bool → Type 0
AreThree flags = length flags ≡ 3

flags_in : (octet : ℕ) → octet < 8 → (length (three_flags (record { size = 3; bits = octet })) ≡ 3) × (flags_number (three_flags (record { size = 3; bits = octet })) ≡ octet)
flags_in zero lt = (refl, refl)
flags_in (suc zero) lt = (refl, refl)
flags_in (suc (suc zero)) lt = (refl, refl)
flags_in (suc (suc (suc zero))) lt = (refl, refl)
flags_in (suc (suc (suc (suc zero)))) lt = (refl, refl)
flags_in (suc (suc (suc (suc (suc zero))))) lt = (refl, refl)
flags_in (suc (suc (suc (suc (suc (suc zero)))))) lt = (refl, refl)
flags_in (suc (suc (suc (suc (suc (suc (suc zero))))))) lt = (refl, refl)
flags_in (suc (suc (suc (suc (suc (suc (suc (suc n)))))))) lt = absurd (omega arith)

flags_forth : (octet : ℕ) (flags : List Bool) → octet < 256 → flags_of octet ≡ Some flags → (length flags ≡ 3) × (written_flags flags ≡ octet ∷ [])
flags_forth octet flags lt e =
    let g = cond_some (ltb octet 8) (three_flags (record { size = 3; bits = octet })) flags e in
    let is = flags_in octet (ltb-true _ _ g.0) in
    subst (λ (f : List Bool). (length f ≡ 3) × (written_flags f ≡ octet ∷ [])) g.1 (is.0, ap (λ (n : ℕ). n ∷ []) is.1)

flags_back : (flags : List Bool) → length flags ≡ 3 → (octet : ℕ) × (octet < 256) × (flags_of octet ≡ Some flags) × (written_flags flags ≡ octet ∷ [])
flags_back (false ∷ false ∷ false ∷ []) e = (0, omega arith, refl, refl)
flags_back (true ∷ false ∷ false ∷ []) e = (1, omega arith, refl, refl)
flags_back (false ∷ true ∷ false ∷ []) e = (2, omega arith, refl, refl)
flags_back (true ∷ true ∷ false ∷ []) e = (3, omega arith, refl, refl)
flags_back (false ∷ false ∷ true ∷ []) e = (4, omega arith, refl, refl)
flags_back (true ∷ false ∷ true ∷ []) e = (5, omega arith, refl, refl)
flags_back (false ∷ true ∷ true ∷ []) e = (6, omega arith, refl, refl)
flags_back (true ∷ true ∷ true ∷ []) e = (7, omega arith, refl, refl)
flags_back [] e = absurd (omega (arith, e))
flags_back (a ∷ []) e = absurd (omega (arith, e))
flags_back (a ∷ b ∷ []) e = absurd (omega (arith, e))
flags_back (a ∷ b ∷ c ∷ d ∷ rest) e = absurd (omega (arith, e))

pub flags_reads : Reads flags_at written_flags AreThree
unfolding flags_at
flags_reads = reads_last octet_at flags_of written_octet IsOctet written_flags AreThree octet_reads flags_forth flags_back

-- ---- identifiers

abbrev pub IsObject : ObjectIdData → Type 0
IsObject object = IsIdentifier object.number object.instance

abbrev identifier : ℕ → ℕ → ObjectIdData
identifier number instance = record { number = number; instance = instance }

object_forth : (number : ℕ) (object : ObjectIdData) → number < 2 ^ 32 → object_of number ≡ Some object → IsObject object × (written_object object ≡ to_be_bytes w32 number)
object_forth number object lt e =
    let whole : number / 4194304 * 4194304 + number % 4194304 ≡ number = omega arith in
    subst (λ (o : ObjectIdData). IsObject o × (written_object o ≡ to_be_bytes w32 number)) (some_is (identifier (number / 2 ^ 22) (number % 2 ^ 22)) object e)
    ((omega arith, omega arith), ap (to_be_bytes w32) whole)

object_back : (object : ObjectIdData) → IsObject object → (number : ℕ) × (number < 2 ^ 32) × (object_of number ≡ Some object) × (written_object object ≡ to_be_bytes w32 number)
object_back object is =
    let number : ℕ = object.number * 4194304 + object.instance in
    let high : (object.number * 4194304 + object.instance) / 4194304 ≡ object.number = omega (arith, is.0, is.1) in
    let low : (object.number * 4194304 + object.instance) % 4194304 ≡ object.instance = omega (arith, is.0, is.1) in
    (object.number * 4194304 + object.instance, omega (arith, is.0, is.1), ap (λ (n : ℕ). Some (identifier n ((object.number * 4194304 + object.instance) % 4194304))) high ∙ ap (λ (n : ℕ). Some (identifier object.number n)) low, refl)

pub object_reads : Reads object_at written_object IsObject
unfolding object_at
object_reads = reads_last (number_at w32) object_of (to_be_bytes w32) (IsBelow (2 ^ 32)) written_object IsObject u32_reads object_forth object_back

-- ---- stations and peers

abbrev pub IsStation : List ℕ → Type 0
IsStation mac = length mac ≤ 7

zeros : (octets : List ℕ) → list_all (λ octet. eqb octet 0) octets ≡ true → octets ≡ replicate (length octets) 0
zeros [] e = refl
zeros (octet ∷ octets) e =
    let g = both_true (eqb octet 0) (list_all (λ o. eqb o 0) octets) e in
    ap (λ (o : ℕ). o ∷ octets) (eqb-true _ _ g.0) ∙ ap (λ (os : List ℕ). 0 ∷ os) (zeros octets g.1)

are_zeros : (n : ℕ) → list_all (λ octet. eqb octet 0) (replicate n 0) ≡ true
are_zeros zero = refl
are_zeros (suc n) = are_zeros n

station_forth : (size : ℕ) (places mac : List ℕ) → length places ≡ 7 → station_of size places ≡ Some mac → ((length mac ≤ 7) × (length mac ≡ size)) × (padded mac ≡ places)
station_forth size places mac whole e =
    let g = cond_some (leb size 7 && list_all (λ octet. eqb octet 0) (drop size places)) (take size places) mac e in
    let t = both_true (leb size 7) (list_all (λ octet. eqb octet 0) (drop size places)) g.0 in
    let short : size ≤ 7 = leb-true _ _ t.0 in
    let long : length (take size places) ≡ size = omega (arith, length-take size places, whole) in
    let behind : length (drop size places) ≡ 7 - length (take size places) = omega (arith, length-drop size places, whole, long) in
    let padding : drop size places ≡ replicate (7 - length (take size places)) 0 = zeros (drop size places) t.1 ∙ ap (λ (n : ℕ). replicate n 0) behind in
    subst (λ (m : List ℕ). ((length m ≤ 7) × (length m ≡ size)) × (padded m ≡ places)) g.1
    ((omega (arith, long), long), ap (λ (t : List ℕ). take size places ++ t) (sym padding) ∙ take-append-drop size places)

station_back : (size : ℕ) (mac : List ℕ) → (length mac ≤ 7) × (length mac ≡ size) → (places : List ℕ) × (length places ≡ 7) × (station_of size places ≡ Some mac) × (padded mac ≡ places)
station_back size mac is =
    let n : ℕ = 7 - length mac in
    let whole : length (padded mac) ≡ 7 = omega (arith, length-append mac (replicate (7 - length mac) 0), length-replicate {A = ℕ} (7 - length mac) 0, is.0) in
    let short : leb size 7 ≡ true = le-leb _ _ (omega (arith, is.0, is.1)) in
    let padding : drop size (padded mac) ≡ replicate (7 - length mac) 0 = drop_at mac (replicate (7 - length mac) 0) size is.1 in
    let front : take size (padded mac) ≡ mac = take_at mac (replicate (7 - length mac) 0) size is.1 in
    (padded mac, whole, rw (short, padding, are_zeros (7 - length mac), front) refl, refl)

pub station_reads : Reads station_at written_station IsStation
unfolding station_at
station_reads =
    reads_then octet_at (λ size. last_at (octets_at 7) (station_of size)) written_octet IsOctet (λ mac. length mac) padded IsStation octet_reads (λ mac short. omega (arith, short))
    (λ size lt. reads_last (octets_at 7) (station_of size) as_they_are (HasLength 7) padded (λ mac. IsStation mac × (length mac ≡ size)) (octets_reads 7) (station_forth size) (station_back size))

abbrev peer : ℕ → ℕ → ℕ → List ℕ → PeerData
peer ip port net mac = record { ip = ip; port = port; net = net; mac = mac }

local_station : (net : ℕ) (mac : List ℕ) → (not (eqb net 0) || eqb (length mac) 0) ≡ true → net ≡ 0 → mac ≡ []
local_station zero mac e zero_is = nil_from_length mac (eqb-true _ _ e)
local_station (suc net) mac e zero_is = absurd (omega (arith, zero_is))

station_allowed : (net : ℕ) (mac : List ℕ) → (net ≡ 0 → mac ≡ []) → (not (eqb net 0) || eqb (length mac) 0) ≡ true
station_allowed zero mac local = rw (local refl) refl
station_allowed (suc net) mac local =
    let other : eqb (suc net) 0 ≡ false = false_from_ne_true (eqb (suc net) 0) (λ e. omega (arith, eqb-true _ _ e)) in
    rw other refl

peer_forth : (ip port net : ℕ) → ip < 2 ^ 32 → port < 2 ^ 16 → net < 2 ^ 16 → (mac : List ℕ) (found : PeerData) → length mac ≤ 7 → peer_of ip port net mac ≡ Some found
    → (((IsPeer found × (found.ip ≡ ip)) × (found.port ≡ port)) × (found.net ≡ net)) × (written_station found.mac ≡ written_station mac)
peer_forth ip port net ip_lt port_lt net_lt mac found short e =
    let g = cond_some (not (eqb net 0) || eqb (length mac) 0) (peer ip port net mac) found e in
    subst (λ (p : PeerData). (((IsPeer p × (p.ip ≡ ip)) × (p.port ≡ port)) × (p.net ≡ net)) × (written_station p.mac ≡ written_station mac)) g.1
    ((((record { ip = ip_lt; port = port_lt; net = net_lt; station = short; local = local_station net mac g.0 }, refl), refl), refl), refl)

peer_back : (ip port net : ℕ) (found : PeerData) → ((IsPeer found × (found.ip ≡ ip)) × (found.port ≡ port)) × (found.net ≡ net)
    → (mac : List ℕ) × (length mac ≤ 7) × (peer_of ip port net mac ≡ Some found) × (written_station found.mac ≡ written_station mac)
peer_back ip port net found is =
    let p = is.0.0.0 in
    let allowed : peer_of found.ip found.port found.net found.mac ≡ Some found = ap (λ (b : Bool). cond b (Some found) None) (station_allowed found.net found.mac p.local) in
    let with_ip : peer_of ip found.port found.net found.mac ≡ Some found = subst (λ (i : ℕ). peer_of i found.port found.net found.mac ≡ Some found) is.0.0.1 allowed in
    let with_port : peer_of ip port found.net found.mac ≡ Some found = subst (λ (i : ℕ). peer_of ip i found.net found.mac ≡ Some found) is.0.1 with_ip in
    let with_net : peer_of ip port net found.mac ≡ Some found = subst (λ (i : ℕ). peer_of ip port i found.mac ≡ Some found) is.1 with_port in
    (found.mac, p.station, with_net, refl)

pub peer_reads : Reads peer_at written_peer IsPeer
unfolding peer_at
peer_reads =
    reads_then (number_at w32) (λ ip. then_at (number_at w16) λ port. then_at (number_at w16) λ net. last_at station_at (peer_of ip port net)) (to_be_bytes w32) (IsBelow (2 ^ 32)) (λ p. p.ip) (λ p. to_be_bytes w16 p.port ++ (to_be_bytes w16 p.net ++ written_station p.mac)) IsPeer u32_reads (λ p f. f.ip)
    (λ ip ip_lt. reads_then (number_at w16) (λ port. then_at (number_at w16) λ net. last_at station_at (peer_of ip port net)) (to_be_bytes w16) (IsBelow (2 ^ 16)) (λ p. p.port) (λ p. to_be_bytes w16 p.net ++ written_station p.mac) (λ p. IsPeer p × (p.ip ≡ ip)) u16_reads (λ p f. f.0.port)
    (λ port port_lt. reads_then (number_at w16) (λ net. last_at station_at (peer_of ip port net)) (to_be_bytes w16) (IsBelow (2 ^ 16)) (λ p. p.net) (λ p. written_station p.mac) (λ p. (IsPeer p × (p.ip ≡ ip)) × (p.port ≡ port)) u16_reads (λ p f. f.0.0.net)
    (λ net net_lt. reads_last station_at (peer_of ip port net) written_station IsStation (λ p. written_station p.mac) (λ p. ((IsPeer p × (p.ip ≡ ip)) × (p.port ≡ port)) × (p.net ≡ net)) station_reads (peer_forth ip port net ip_lt port_lt net_lt) (peer_back ip port net))))
