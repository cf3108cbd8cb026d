-- All that a leader offers until it has nothing more: there is one list of packets, and each of them is part of every history that it has.
use Rattle.std.proofs.Common.{◌≡◌, ◌⊎◌, inl, inr, ℕ, zero, suc, ◌+◌, ◌-◌, ◌<◌, ◌≤◌, ltb, List, [], ◌∷◌, All, Option, Some, None, length, get_or, refl, ap, ◌∙◌, sym, subst, arith}
use Rattle.std.proofs.lemmas.Bool.{cases_lt, cond_both, ltb-true}
use Rattle.std.proofs.lemmas.List.Elements.{All-cons, All-nil}
use Rattle.std.proofs.lemmas.Option.{none-some}
use Rattle.alarm_core.specs.declared.event.Event.{Event}
use Rattle.alarm_core.specs.declared.site.Site.{Site}
use Rattle.state_codec.specs.Laws.{RecordsAreShort, SnapshotsAreShort}
use Rattle.state_codec.proofs.Behind.{some_is}
use Rattle.standby.specs.Offers.{AreAsManyAsFit, AreEnds, IsLeader, LeaderState, LeadsFor, NextPiece, NextRecords, NothingMore, OffersNext, behind_piece, left_of, piece_from, records_packet, start_of}
use Rattle.standby.specs.Packets.{PieceData, most_packet_octets, written_piece}
use Rattle.standby.specs.Reaches.{HasPackets, OffersAll}
use Rattle.standby.specs.Runs.{IsOffered}
use Rattle.standby.proofs.Endings.{fit_up_to, length_between, rises}
use Rattle.standby.proofs.Offered.{leads_on, less, offered, still_leads}

-- ---- one way to go on

-- no two numbers of records are as many as fit
no_fewer : (leader : LeaderState) (few many : ℕ) → AreEnds leader.records leader.ends → AreAsManyAsFit leader few → AreAsManyAsFit leader many → few < many → ⊥
no_fewer leader few many so first second fewer =
    let next : ℕ = leader.next in
    omega (
      arith,
      fewer,
      second.there,
      second.fit,
      first.no_more (omega (arith, fewer, second.there)),
      length_between leader so next (next + few + 1) (omega arith) (omega (arith, fewer, second.there)),
      length_between leader so next (next + many) (omega arith) second.there,
      rises leader.records leader.ends so (next + few + 1) (next + many) (omega (arith, fewer)) second.there,
    )

one_count : (leader : LeaderState) (first second : ℕ) → AreEnds leader.records leader.ends → AreAsManyAsFit leader first → AreAsManyAsFit leader second → first ≡ second
one_count leader first second so one two = by (cases_lt first second) (cases_lt second first)
  where
    by : (first < second) ⊎ (second ≤ first) → (second < first) ⊎ (first ≤ second) → first ≡ second
    by (inl less) other = absurd (no_fewer leader first second so one two less)
    by (inr more) (inl less) = absurd (no_fewer leader second first so two one less)
    by (inr more) (inr also) = omega (arith, more, also)

-- a leader goes on in one way
pub next_once : (leader new other : LeaderState) (first second : Option (List ℕ)) → AreEnds leader.records leader.ends → OffersNext leader first new → OffersNext leader second other → (first ≡ second) × (new ≡ other)
next_once leader new other first second so (NextPiece place is packet_is new_is) (NextPiece place' is' packet_is' new_is') =
    let same : place ≡ place' = some_is place place' (sym is ∙ is') in
    (packet_is ∙ (ap (λ (n : ℕ). Some (written_piece (piece_from leader n))) same ∙ sym packet_is'), new_is ∙ (ap (λ (n : ℕ). behind_piece leader n) same ∙ sym new_is'))
next_once leader new other first second so (NextPiece place is packet_is new_is) (NextRecords count is' fit packet_is' new_is') = absurd (none-some place (sym is' ∙ is))
next_once leader new other first second so (NextPiece place is packet_is new_is) (NothingMore is' all packet_is' new_is') = absurd (none-some place (sym is' ∙ is))
next_once leader new other first second so (NextRecords count is fit packet_is new_is) (NextPiece place is' packet_is' new_is') = absurd (none-some place (sym is ∙ is'))
next_once leader new other first second so (NextRecords count is fit packet_is new_is) (NextRecords count' is' fit' packet_is' new_is') =
    let same : count ≡ count' = one_count leader count count' so fit fit' in (
      packet_is ∙ (ap (λ (n : ℕ). Some (records_packet leader n)) same ∙ sym packet_is'),
      new_is ∙ (ap (λ (n : ℕ). record leader { next = leader.next + n }) same ∙ sym new_is'),
    )
next_once leader new other first second so (NextRecords count is fit packet_is new_is) (NothingMore is' all packet_is' new_is') = absurd (omega (arith, fit.some, fit.there, all))
next_once leader new other first second so (NothingMore is all packet_is new_is) (NextPiece place is' packet_is' new_is') = absurd (none-some place (sym is ∙ is'))
next_once leader new other first second so (NothingMore is all packet_is new_is) (NextRecords count is' fit packet_is' new_is') = absurd (omega (arith, fit.some, fit.there, all))
next_once leader new other first second so (NothingMore is all packet_is new_is) (NothingMore is' all' packet_is' new_is') = (packet_is ∙ sym packet_is', new_is ∙ sym new_is')

-- and stays a leader
pub stays : (leader new : LeaderState) (octets : List ℕ) → IsLeader leader → OffersNext leader (Some octets) new → IsLeader new
stays leader new octets so (NextPiece place is packet_is new_is) =
    subst IsLeader (sym new_is)
    (cond_both (ltb (place + most_packet_octets) (length leader.snapshot)) (Some (place + most_packet_octets)) None (λ (o : Option ℕ). IsLeader (record leader { place = o }))
    (λ more. still_leads leader (Some (place + most_packet_octets)) leader.next so (ltb-true _ _ more))
    (λ none. still_leads leader None leader.next so tt))
stays leader new octets so (NextRecords count is fit packet_is new_is) = subst IsLeader (sym new_is) (still_leads leader leader.place (leader.next + count) so so.within)
stays leader new octets so (NothingMore is all packet_is new_is) = absurd (none-some octets (sym packet_is))

-- ---- there is one

-- where the records up to one fit, and this one too, those up to the next one do
fit_more : (leader : LeaderState) (last : ℕ) → ((k : ℕ) → leader.next ≤ k → k < last → get_or leader.ends k 0 ≤ start_of leader.ends leader.next + most_packet_octets)
    → get_or leader.ends last 0 ≤ start_of leader.ends leader.next + most_packet_octets → (k : ℕ) → leader.next ≤ k → k < last + 1 → get_or leader.ends k 0 ≤ start_of leader.ends leader.next + most_packet_octets
fit_more leader last fit fits k low high = by (cases_lt k last)
  where
    by : (k < last) ⊎ (last ≤ k) → get_or leader.ends k 0 ≤ start_of leader.ends leader.next + most_packet_octets
    by (inl before) = fit k low before
    by (inr behind) =
        let same : last ≡ k = omega (arith, high, behind) in
        subst (λ (n : ℕ). get_or leader.ends n 0 ≤ start_of leader.ends leader.next + most_packet_octets) same fits

-- the records up to the first that ends too far behind, looked for from one of them on
find_count : (fuel last : ℕ) (leader : LeaderState) → RecordsAreShort → AreEnds leader.records leader.ends → leader.next < length leader.ends → last + fuel ≡ length leader.ends → leader.next ≤ last
    → ((k : ℕ) → leader.next ≤ k → k < last → get_or leader.ends k 0 ≤ start_of leader.ends leader.next + most_packet_octets)
    → (start_of leader.ends leader.next + most_packet_octets < get_or leader.ends last 0) ⊎ (get_or leader.ends last 0 ≤ start_of leader.ends leader.next + most_packet_octets) → (count : ℕ) × AreAsManyAsFit leader count
find_count zero last leader short so more is from fit either = (last - leader.next, fit_up_to leader last short so more from (omega (arith, is)) fit (λ low. absurd (omega (arith, low, is))))
find_count (suc fuel) last leader short so more is from fit (inl beyond) = (last - leader.next, fit_up_to leader last short so more from (omega (arith, is)) fit (λ low. beyond))
find_count (suc fuel) last leader short so more is from fit (inr fits) =
    find_count fuel (last + 1) leader short so more (omega (arith, is)) (omega (arith, from)) (fit_more leader last fit fits) (cases_lt (start_of leader.ends leader.next + most_packet_octets) (get_or leader.ends (last + 1) 0))

-- a leader has a next packet, or nothing more
abbrev GoesOnOrEnds : LeaderState → Type 0
GoesOnOrEnds leader = OffersNext leader None leader ⊎ ((packet : List ℕ) × (new : LeaderState) × OffersNext leader (Some packet) new)

goes_on : (leader : LeaderState) (place : Option ℕ) → RecordsAreShort → AreEnds leader.records leader.ends → leader.place ≡ place → GoesOnOrEnds leader
goes_on leader (Some place) short so is = inr (written_piece (piece_from leader place), behind_piece leader place, NextPiece place is refl refl)
goes_on leader None short so is = by (cases_lt leader.next (length leader.ends))
  where
    by : (leader.next < length leader.ends) ⊎ (length leader.ends ≤ leader.next) → GoesOnOrEnds leader
    by (inl more) =
        let (count, fit) = find_count (length leader.ends - leader.next) leader.next leader short so more (omega (arith, more)) (omega arith) (λ k low high. absurd (omega (arith, low, high)))
        (cases_lt (start_of leader.ends leader.next + most_packet_octets) (get_or leader.ends leader.next 0)) in
        inr (records_packet leader count, record leader { next = leader.next + count }, NextRecords count is fit refl refl)
    by (inr all) = inl (NothingMore is all refl refl)

-- packets until nothing is left
all_from : (fuel : ℕ) (leader : LeaderState) → RecordsAreShort → IsLeader leader → left_of leader ≤ fuel → GoesOnOrEnds leader → (packets : List (List ℕ)) × OffersAll leader packets
all_from fuel leader short so few (inl none) = ([], none)
all_from zero leader short so few (inr (packet, new, offers)) = absurd (omega (arith, few, less leader new packet so offers))
all_from (suc fuel) leader short so few (inr (packet, new, offers)) =
    let still : IsLeader new = stays leader new packet so offers in
    let (packets, all) = all_from fuel new short still (omega (arith, few, less leader new packet so offers)) (goes_on new new.place short still.ends refl) in
    (packet ∷ packets, (new, offers, all))

-- ---- and no other

pub only : (leader : LeaderState) (packets others : List (List ℕ)) → IsLeader leader → OffersAll leader packets → OffersAll leader others → others ≡ packets
only leader [] [] so all also = refl
only leader [] (other ∷ others) so all (new, offers, also) = absurd (none-some other (next_once leader leader new None (Some other) so.ends all offers).0)
only leader (packet ∷ packets) [] so (new, offers, all) also = absurd (none-some packet (next_once leader leader new None (Some packet) so.ends also offers).0)
only leader (packet ∷ packets) (other ∷ others) so (new, offers, all) (next, offers', also) =
    let same = next_once leader new next (Some packet) (Some other) so.ends offers offers' in
    let packet_is : packet ≡ other = some_is packet other same.0 in
    let on : others ≡ packets = only new packets others (stays leader new packet so offers) all (subst (λ (s : LeaderState). OffersAll s others) (sym same.1) also) in
    ap (λ (p : List ℕ). p ∷ others) (sym packet_is) ∙ ap (λ (ps : List (List ℕ)). packet ∷ ps) on

-- ---- each is part of the history

pub each : SnapshotsAreShort → (site : Site) (history : List Event) (leader : LeaderState) (packets : List (List ℕ)) → IsLeader leader → LeadsFor site history leader → OffersAll leader packets → All (IsOffered site history) packets
each short site history leader [] so leads all = All-nil (IsOffered site history)
each short site history leader (packet ∷ packets) so leads (new, offers, all) =
    All-cons (IsOffered site history) packet packets (offered short site history leader new packet so leads offers)
    (each short site history new packets (stays leader new packet so offers) (leads_on site history leader new (Some packet) leads offers) all)

pub has_packets : RecordsAreShort → SnapshotsAreShort → (leader : LeaderState) → IsLeader leader → HasPackets leader
has_packets records snapshots leader so =
    let (packets, all) = all_from (left_of leader) leader records so (omega arith) (goes_on leader leader.place records so.ends refl) in
    record {
      packets = packets;
      all = all;
      only = λ others also. only leader packets others so all also;
      offered = λ site history leads. each snapshots site history leader packets so leads all;
    }
