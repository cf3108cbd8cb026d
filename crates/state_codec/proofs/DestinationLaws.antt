-- Recipients: each is read exactly as it is written, and so are lists of them.
use Rattle.bac_values.specs.Limits.{most_destinations}
use Rattle.std.proofs.Common.{◌≡◌, ℕ, zero, suc, ◌^◌, ◌<◌, Bool, true, false, ltb, leb, ◌&&◌, List, [], ◌∷◌, ◌++◌, length, All, Option, Some, refl, sym, ap, subst, ◌∙◌, append_assoc, arith}
use Rattle.std.specs.Int.{w32, to_be_bytes}
use Rattle.std.specs.List.{flat_map}
use Rattle.std.proofs.lemmas.Bool.{ltb-true, lt-ltb, leb-true, le-leb}
use Rattle.std.proofs.lemmas.List.Concat.{flat_map-cons}
use Rattle.std.proofs.lemmas.List.Elements.{All-nil, All-cons, All-head, All-tail}
use Rattle.std.proofs.lemmas.Option.{cond_some}
use Rattle.bac_values.specs.Address.{PeerData}
use Rattle.notify_class.specs.Recipients.{DestinationData}
use Rattle.state_codec.specs.Records.{written_flag, written_flags, written_peer, written_destination, written_destinations, IsPeer, IsDestination, AreDestinations}
use Rattle.state_codec.specs.ReadingSteps.{◌>>=◌, either_at, nothing_at, octet_at, number_at, flag_at, flags_at, peer_at, destination_of, destination_at, list_at, destinations_at}
use Rattle.state_codec.proofs.Behind.{AreOctets, Takes, Reads, bind_some, some_is, both_true, reads_then, reads_last}
use Rattle.state_codec.proofs.PartLaws.{written_octet, IsOctet, IsBelow, IsAny, AreThree, octet_reads, u32_reads, flag_reads, flags_reads, peer_reads}

abbrev recipient : ℕ → ℕ → ℕ → PeerData → ℕ → Bool → List Bool → DestinationData
recipient days from to peer process confirmed transitions = record { days = days; from = from; to = to; peer = peer; process = process; confirmed = confirmed; transitions = transitions }

-- a recipient whose first fields are these
abbrev HasFields : ℕ → ℕ → ℕ → PeerData → ℕ → Bool → DestinationData → Type 0
HasFields days from to peer process confirmed it =
    (((((IsDestination it × (it.days ≡ days)) × (it.from ≡ from)) × (it.to ≡ to)) × (it.peer ≡ peer)) × (it.process ≡ process)) × (it.confirmed ≡ confirmed)

destination_forth : (days from to : ℕ) (peer : PeerData) (process : ℕ) (confirmed : Bool) → IsPeer peer → process < 2 ^ 32 → (transitions : List Bool) (it : DestinationData) → length transitions ≡ 3
    → destination_of days from to peer process confirmed transitions ≡ Some it → HasFields days from to peer process confirmed it × (written_flags it.transitions ≡ written_flags transitions)
destination_forth days from to peer process confirmed is_peer below transitions it three e =
    let g = cond_some (ltb days 128 && ltb from 8640000 && ltb to 8640000) (recipient days from to peer process confirmed transitions) it e in
    let t = both_true (ltb days 128 && ltb from 8640000) (ltb to 8640000) g.0 in
    let u = both_true (ltb days 128) (ltb from 8640000) t.0 in
    subst (λ (x : DestinationData). HasFields days from to peer process confirmed x × (written_flags x.transitions ≡ written_flags transitions)) g.1
    (((((((record { listed = (ltb-true _ _ u.0, ltb-true _ _ u.1, ltb-true _ _ t.1); peer = is_peer; process = below; transitions = three }, refl), refl), refl), refl), refl), refl), refl)

destination_back : (days from to : ℕ) (peer : PeerData) (process : ℕ) (confirmed : Bool) (it : DestinationData) → HasFields days from to peer process confirmed it
    → (transitions : List Bool) × (length transitions ≡ 3) × (destination_of days from to peer process confirmed transitions ≡ Some it) × (written_flags it.transitions ≡ written_flags transitions)
destination_back days from to peer process confirmed it is =
    let own : IsDestination it = is.0.0.0.0.0.0 in
    let same : destination_of it.days it.from it.to it.peer it.process it.confirmed it.transitions ≡ Some it = rw (lt-ltb _ _ own.listed.0, lt-ltb _ _ own.listed.1, lt-ltb _ _ own.listed.2) refl in
    let days_is = subst (λ (x : ℕ). destination_of x it.from it.to it.peer it.process it.confirmed it.transitions ≡ Some it) is.0.0.0.0.0.1 same in
    let from_is = subst (λ (x : ℕ). destination_of days x it.to it.peer it.process it.confirmed it.transitions ≡ Some it) is.0.0.0.0.1 days_is in
    let to_is = subst (λ (x : ℕ). destination_of days from x it.peer it.process it.confirmed it.transitions ≡ Some it) is.0.0.0.1 from_is in
    let peer_is = subst (λ (x : PeerData). destination_of days from to x it.process it.confirmed it.transitions ≡ Some it) is.0.0.1 to_is in
    let process_is = subst (λ (x : ℕ). destination_of days from to peer x it.confirmed it.transitions ≡ Some it) is.0.1 peer_is in
    let confirmed_is = subst (λ (x : Bool). destination_of days from to peer process x it.transitions ≡ Some it) is.1 process_is in
    (it.transitions, own.transitions, confirmed_is, refl)

pub destination_reads : Reads destination_at written_destination IsDestination
unfolding destination_at
destination_reads =
    reads_then octet_at _ written_octet IsOctet (λ it. it.days) (λ it. to_be_bytes w32 it.from ++ (to_be_bytes w32 it.to ++ (written_peer it.peer ++ (to_be_bytes w32 it.process ++ (written_flag it.confirmed ++ written_flags it.transitions))))) IsDestination octet_reads (λ it is. omega (arith, is.listed.0))
    (λ days days_lt. reads_then (number_at w32) _ (to_be_bytes w32) (IsBelow (2 ^ 32)) (λ it. it.from) (λ it. to_be_bytes w32 it.to ++ (written_peer it.peer ++ (to_be_bytes w32 it.process ++ (written_flag it.confirmed ++ written_flags it.transitions)))) (λ it. IsDestination it × (it.days ≡ days)) u32_reads (λ it is. omega (arith, is.0.listed.1))
    (λ from from_lt. reads_then (number_at w32) _ (to_be_bytes w32) (IsBelow (2 ^ 32)) (λ it. it.to) (λ it. written_peer it.peer ++ (to_be_bytes w32 it.process ++ (written_flag it.confirmed ++ written_flags it.transitions))) (λ it. (IsDestination it × (it.days ≡ days)) × (it.from ≡ from)) u32_reads (λ it is. omega (arith, is.0.0.listed.2))
    (λ to to_lt. reads_then peer_at _ written_peer IsPeer (λ it. it.peer) (λ it. to_be_bytes w32 it.process ++ (written_flag it.confirmed ++ written_flags it.transitions)) (λ it. ((IsDestination it × (it.days ≡ days)) × (it.from ≡ from)) × (it.to ≡ to)) peer_reads (λ it is. is.0.0.0.peer)
    (λ peer is_peer. reads_then (number_at w32) _ (to_be_bytes w32) (IsBelow (2 ^ 32)) (λ it. it.process) (λ it. written_flag it.confirmed ++ written_flags it.transitions) (λ it. (((IsDestination it × (it.days ≡ days)) × (it.from ≡ from)) × (it.to ≡ to)) × (it.peer ≡ peer)) u32_reads (λ it is. is.0.0.0.0.process)
    (λ process below. reads_then flag_at _ written_flag IsAny (λ it. it.confirmed) (λ it. written_flags it.transitions) (λ it. ((((IsDestination it × (it.days ≡ days)) × (it.from ≡ from)) × (it.to ≡ to)) × (it.peer ≡ peer)) × (it.process ≡ process)) flag_reads (λ it is. tt)
    (λ confirmed any. reads_last flags_at (destination_of days from to peer process confirmed) written_flags AreThree (λ it. written_flags it.transitions) (HasFields days from to peer process confirmed) flags_reads (destination_forth days from to peer process confirmed is_peer below) (destination_back days from to peer process confirmed)))))))

-- ---- lists

abbrev pub AreSoMany : ℕ → List DestinationData → Type 0
AreSoMany count recipients = All IsDestination recipients × (length recipients ≡ count)

list_takes : (count : ℕ) (octets : List ℕ) (recipients : List DestinationData) (rest : List ℕ) → AreOctets octets → list_at count octets ≡ Some (recipients, rest) → Takes octets (flat_map written_destination recipients) rest × AreSoMany count recipients
unfolding list_at
list_takes zero octets recipients rest are e =
    subst (λ (x : List DestinationData × List ℕ). Takes octets (flat_map written_destination x.0) x.1 × AreSoMany 0 x.0) (some_is ([], octets) (recipients, rest) e) (record { parts = refl; rest_are = are }, (All-nil IsDestination, refl))
list_takes (suc count) octets recipients rest are e =
    let a = bind_some (destination_at octets) (λ first. list_at count first.1 >>= λ others. Some (first.0 ∷ others.0, others.1)) (recipients, rest) e in
    let b = bind_some (list_at count a.0.1) (λ others. Some (a.0.0 ∷ others.0, others.1)) (recipients, rest) a.2 in
    let one = destination_reads.takes octets a.0.0 a.0.1 are a.1 in
    let two = list_takes count a.0.1 b.0.0 b.0.1 one.0.rest_are b.1 in
    let whole : octets ≡ flat_map written_destination (a.0.0 ∷ b.0.0) ++ b.0.1 =
    one.0.parts ∙ ap (λ (t : List ℕ). written_destination a.0.0 ++ t) two.0.parts ∙ sym (append_assoc (written_destination a.0.0) (flat_map written_destination b.0.0) b.0.1) ∙ ap (λ (t : List ℕ). t ++ b.0.1) (sym (flat_map-cons written_destination a.0.0 b.0.0)) in
    subst (λ (x : List DestinationData × List ℕ). Takes octets (flat_map written_destination x.0) x.1 × AreSoMany (suc count) x.0) (some_is (a.0.0 ∷ b.0.0, b.0.1) (recipients, rest) b.2)
    (record { parts = whole; rest_are = two.0.rest_are }, (All-cons IsDestination a.0.0 b.0.0 one.1 two.1.0, ap suc two.1.1))

list_again : (recipients : List DestinationData) (rest : List ℕ) → All IsDestination recipients → list_at (length recipients) (flat_map written_destination recipients ++ rest) ≡ Some (recipients, rest)
unfolding list_at
list_again [] rest is = refl
list_again (first ∷ others) rest is =
    let regrouped : flat_map written_destination (first ∷ others) ++ rest ≡ written_destination first ++ (flat_map written_destination others ++ rest) = ap (λ (x : List ℕ). x ++ rest) (flat_map-cons written_destination first others) ∙ append_assoc (written_destination first) (flat_map written_destination others) rest in
    let one = destination_reads.again first (flat_map written_destination others ++ rest) (All-head IsDestination first others is) in
    let two = list_again others rest (All-tail IsDestination first others is) in
    ap (list_at (suc (length others))) regrouped
    ∙ ap (λ (o : Option (DestinationData × List ℕ)). o >>= λ x. list_at (length others) x.1 >>= λ y. Some (x.0 ∷ y.0, y.1)) one
    ∙ ap (λ (o : Option (List DestinationData × List ℕ)). o >>= λ y. Some (first ∷ y.0, y.1)) two

-- where a test holds
pub reads_if : {C : Type 0} (test : Bool) (read : List ℕ → Option (C × List ℕ)) (w : C → List ℕ) (F G : C → Type 0) → (test ≡ true → Reads read w F) → ((c : C) → G c → (test ≡ true) × F c) → ((c : C) → test ≡ true → F c → G c)
    → Reads (either_at test read nothing_at) w G
reads_if true read w F G reads split join = record {
  takes = λ octets c rest are e. let t = (reads refl).takes octets c rest are e in (t.0, join c refl t.1);
  again = λ c rest g. (reads refl).again c rest (split c g).1;
}
reads_if false read w F G reads split join = record {
  takes = λ octets c rest are e. absurd cc;
  again = λ c rest g. absurd (let no = (split c g).0 in cc);
}

list_reads : (count : ℕ) → Reads (list_at count) (flat_map written_destination) (AreSoMany count)
list_reads count = record {
  takes = list_takes count;
  again = λ recipients rest are. ap (λ (n : ℕ). list_at n (flat_map written_destination recipients ++ rest)) (sym are.1) ∙ list_again recipients rest are.0;
}

pub destinations_reads : Reads destinations_at written_destinations AreDestinations
unfolding destinations_at
destinations_reads =
    reads_then octet_at (λ count. either_at (leb count most_destinations) (list_at count) nothing_at) written_octet IsOctet (λ recipients. length recipients) (flat_map written_destination) AreDestinations octet_reads (λ recipients are. omega (arith, are.0))
    (λ count lt. reads_if (leb count most_destinations) (list_at count) (flat_map written_destination) (AreSoMany count) (λ recipients. AreDestinations recipients × (length recipients ≡ count)) (λ few. list_reads count)
    (λ recipients are. (le-leb _ _ (omega (arith, are.0.0, are.1)), (are.0.1, are.1)))
    (λ recipients few are. ((omega (arith, leb-true _ _ few, are.1), are.0), are.1)))
