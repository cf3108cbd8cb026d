-- What a leader offers is part of the history that it has, and each packet leaves less.
use Rattle.std.proofs.Common.{◌≡◌, ℕ, ◌+◌, ◌-◌, ◌^◌, ◌<◌, ◌≤◌, ltb, List, [], ◌∷◌, ◌++◌, Option, Some, None, length, take, drop, reverse, min, refl, ap, ◌∙◌, sym, subst, arith}
use Rattle.std.specs.Prelude.{IfSome}
use Rattle.std.proofs.lemmas.Bool.{cond_both, ltb-true}
use Rattle.std.proofs.lemmas.List.{length-append, length-drop, length-reverse, length-take, take_min}
use Rattle.std.proofs.lemmas.List.Elements.{All-drop, All-take}
use Rattle.std.proofs.lemmas.Option.{none-some}
use Rattle.alarm_core.specs.declared.event.Event.{Event}
use Rattle.alarm_core.specs.declared.site.Site.{Site}
use Rattle.alarm_core.specs.State.{state_of}
use Rattle.state_codec.specs.Contents.{IsSnapshotAfter, SpellsEvents, records_of}
use Rattle.state_codec.specs.Laws.{SnapshotsAreShort}
use Rattle.state_codec.specs.Records.{HasRecord}
use Rattle.state_codec.specs.Sizes.{snapshot_bound}
use Rattle.state_codec.specs.Spelled.{SpellsState}
use Rattle.state_codec.proofs.Behind.{some_is}
use Rattle.state_codec.proofs.Recovered.{one_list}
use Rattle.standby.specs.Offers.{AreAsManyAsFit, AreEnds, IsLeader, LeaderState, LeadsFor, NextPiece, NextRecords, NothingMore, OffersNext, behind_piece, ends_from, heard_by, left_of, piece_from, records_between, records_packet}
use Rattle.standby.specs.Packets.{PieceData, SpellsPiece, SpellsRecords, most_packet_octets, written_piece, written_records}
use Rattle.standby.specs.Runs.{AsPiece, AsRecords, GoesBackTo, IsOffered, OffersPiece, OffersRecords}
use Rattle.standby.proofs.Endings.{as_many, between}
use Rattle.standby.proofs.Fronts.{parted}

-- ---- a piece

-- so many of the first octets are as many as there are of them
cut : (count : ℕ) (octets : List ℕ) → take count octets ≡ take (length (take count octets)) octets
cut count octets = sym (ap (λ (n : ℕ). take n octets) (length-take count octets) ∙ take_min count octets)

-- a snapshot that is there is that of the state
pub snapshot_there : (site : Site) (older : List Event) (snapshot : List ℕ) → 0 < length snapshot → IsSnapshotAfter site older snapshot → SpellsState site snapshot (state_of site older)
snapshot_there site older [] some is = absurd (omega (arith, some))
snapshot_there site older (octet ∷ snapshot) some is = is

pub piece_spelled : SnapshotsAreShort → (site : Site) (history : List Event) (leader : LeaderState) (place : ℕ) → LeadsFor site history leader → leader.events < 2 ^ 64 → place < length leader.snapshot
    → SpellsPiece (snapshot_bound site) (written_piece (piece_from leader place)) (piece_from leader place)
piece_spelled short site history leader place leads number within =
    let spells : SpellsState site leader.snapshot (state_of site leads.older) = snapshot_there site leads.older leader.snapshot (omega (arith, within)) leads.snapshot in
    let rest : List ℕ = drop place leader.snapshot in
    record {
      octets_are = refl;
      number = number;
      bounded = omega (arith, short.most site (state_of site leads.older) spells.own spells.fits, ap (λ (l : List ℕ). length l) spells.octets_are);
      within = omega (arith, within, length-take most_packet_octets rest, length-drop place leader.snapshot);
      short = omega (arith, length-take most_packet_octets rest);
    }

piece_offered : SnapshotsAreShort → (site : Site) (history : List Event) (leader : LeaderState) (place : ℕ) → LeadsFor site history leader → leader.events < 2 ^ 64 → place < length leader.snapshot
    → OffersPiece site history (written_piece (piece_from leader place))
piece_offered short site history leader place leads number within = record {
  older = leads.older;
  there = (reverse leads.later, leads.together);
  snapshot = leader.snapshot;
  spells = snapshot_there site leads.older leader.snapshot (omega (arith, within)) leads.snapshot;
  piece = piece_from leader place;
  packet = piece_spelled short site history leader place leads number within;
  events = leads.events;
  whole = refl;
  part = cut most_packet_octets (drop place leader.snapshot);
}

-- what the piece is made of
pub piece_is : (leader : LeaderState) (place end : ℕ) (octets : List ℕ) → octets ≡ leader.snapshot → end ≡ min (length octets) (place + most_packet_octets)
    → ◌≡◌ {A = PieceData} (record { events = leader.events; whole = length octets; place = place; octets = take (end - place) (drop place octets) }) (piece_from leader place)
piece_is leader place end octets is end_is =
    let rest : List ℕ = drop place octets in
    let long : end - place ≡ min most_packet_octets (length rest) = omega (arith, end_is, length-drop place octets) in
    let cut_so : take (end - place) rest ≡ take most_packet_octets rest = ap (λ (n : ℕ). take n rest) long ∙ take_min most_packet_octets rest in
    let first : ◌≡◌ {A = PieceData} (record { events = leader.events; whole = length octets; place = place; octets = take (end - place) rest }) (record { events = leader.events; whole = length octets; place = place; octets = take most_packet_octets rest }) =
    ap (λ (l : List ℕ). record { events = leader.events; whole = length octets; place = place; octets = l }) cut_so in
    first ∙ ap (λ (l : List ℕ). record { events = leader.events; whole = length l; place = place; octets = take most_packet_octets (drop place l) }) is

-- ---- records

-- the ends of a leader's records
abbrev pub ends_of : (site : Site) (history : List Event) (leader : LeaderState) → LeadsFor site history leader → AreEnds leader.records leader.ends
ends_of site history leader leads = record { events = leads.later; spells = leads.records; ends_are = leads.ends }

-- the history up to the next record
abbrev pub past_of : List Event → List Event → ℕ → List Event
past_of older later next = reverse (take next later) ++ older

-- the events of a packet of records
abbrev pub events_from : List Event → ℕ → ℕ → List Event
events_from later next count = take count (drop next later)

pub past_length : (older later : List Event) (next : ℕ) → next ≤ length later → length (past_of older later next) ≡ length older + next
past_length older later next low = omega (arith, low, length-append (reverse (take next later)) older, length-reverse (take next later), length-take next later)

-- a packet of a leader's records is that of the events
pub records_spelled : (site : Site) (history : List Event) (leader : LeaderState) (count : ℕ) (leads : LeadsFor site history leader) → leader.events + leader.next < 2 ^ 64 → AreAsManyAsFit leader count
    → leader.next + count ≤ length leads.later × SpellsRecords (records_packet leader count) (length (past_of leads.older leads.later leader.next)) (events_from leads.later leader.next count)
records_spelled site history leader count leads number fit =
    let next : ℕ = leader.next in
    let later : List Event = leads.later in
    let events : List Event = events_from later next count in
    let so : AreEnds leader.records leader.ends = ends_of site history leader leads in
    let octets : List ℕ = records_between leader next (next + count) in
    let octets_are : octets ≡ records_of events = between leader so next count fit.there in
    let low : next + count ≤ length later = omega (arith, fit.there, as_many leader.records leader.ends so) in
    let many : count ≡ length events = omega (arith, low, length-take count (drop next later), length-drop next later) in
    let before : leader.events + next ≡ length (past_of leads.older later next) = omega (arith, past_length leads.older later next (omega (arith, low)), leads.events) in (
      low,
      record {
        octets_are = ap (λ (n : ℕ). written_records n count octets) before ∙ (ap (λ (n : ℕ). written_records (length (past_of leads.older later next)) n octets) many
            ∙ ap (λ (l : List ℕ). written_records (length (past_of leads.older later next)) (length events) l) octets_are);
        number = omega (arith, number, before);
        some = omega (arith, many, fit.some);
        short = omega (arith, fit.fit, ap (λ (l : List ℕ). length l) octets_are);
        have = All-take HasRecord count (drop next later) (All-drop HasRecord next later leads.records.have);
      },
    )

-- and the history goes back to them
pub past_there : (history older later : List Event) (next count : ℕ) → history ≡ reverse later ++ older → GoesBackTo history (reverse (events_from later next count) ++ past_of older later next)
past_there history older later next count together =
    (reverse (drop count (drop next later)), together ∙ (parted later older next ∙ parted (drop next later) (past_of older later next) count))

records_offered : (site : Site) (history : List Event) (leader : LeaderState) (count : ℕ) → LeadsFor site history leader → leader.events + leader.next < 2 ^ 64 → AreAsManyAsFit leader count
    → OffersRecords history (records_packet leader count)
records_offered site history leader count leads number fit =
    let spelled = records_spelled site history leader count leads number fit in
    record {
      older = past_of leads.older leads.later leader.next;
      events = events_from leads.later leader.next count;
      there = past_there history leads.older leads.later leader.next count leads.together;
      packet = spelled.1;
    }

-- ---- the next packet

pub within_at : (leader : LeaderState) (place : ℕ) → leader.place ≡ Some place → IfSome leader.place (λ at. at < length leader.snapshot) → place < length leader.snapshot
within_at leader place is within = subst (λ (o : Option ℕ). IfSome o (λ at. at < length leader.snapshot)) is within

pub offered : SnapshotsAreShort → (site : Site) (history : List Event) (leader new : LeaderState) (octets : List ℕ) → IsLeader leader → LeadsFor site history leader → OffersNext leader (Some octets) new
    → IsOffered site history octets
offered short site history leader new octets so leads (NextPiece place is packet_is new_is) =
    let e : octets ≡ written_piece (piece_from leader place) = some_is octets (written_piece (piece_from leader place)) packet_is in
    AsPiece (subst (λ (l : List ℕ). OffersPiece site history l) (sym e) (piece_offered short site history leader place leads (omega (arith, so.number)) (within_at leader place is so.within)))
offered short site history leader new octets so leads (NextRecords count is fit packet_is new_is) =
    let e : octets ≡ records_packet leader count = some_is octets (records_packet leader count) packet_is in
    AsRecords (subst (λ (l : List ℕ). OffersRecords history l) (sym e) (records_offered site history leader count leads (omega (arith, so.number, fit.some, fit.there)) fit))
offered short site history leader new octets so leads (NothingMore is all packet_is new_is) = absurd (none-some octets (sym packet_is))

-- what a leader has stays
abbrev pub leads_further : (site : Site) (history : List Event) (leader : LeaderState) (place : Option ℕ) (next : ℕ) → LeadsFor site history leader → LeadsFor site history (record leader { place = place; next = next })
leads_further site history leader place next leads = record { older = leads.older; later = leads.later; together = leads.together; events = leads.events; snapshot = leads.snapshot; records = leads.records; ends = leads.ends }

pub leads_heard : (site : Site) (history : List Event) (leader : LeaderState) (known : ℕ) → LeadsFor site history leader → LeadsFor site history (heard_by known leader)
leads_heard site history leader known leads =
    cond_both (ltb known leader.events) (record leader { place = Some 0; next = 0 }) (record leader { place = None; next = known - leader.events }) (LeadsFor site history)
    (λ fewer. leads_further site history leader (Some 0) 0 leads)
    (λ all. leads_further site history leader None (known - leader.events) leads)

pub leads_on : (site : Site) (history : List Event) (leader new : LeaderState) (packet : Option (List ℕ)) → LeadsFor site history leader → OffersNext leader packet new → LeadsFor site history new
leads_on site history leader new packet leads (NextPiece place is packet_is new_is) =
    subst (λ (s : LeaderState). LeadsFor site history s) (sym new_is) (leads_further site history leader (behind_piece leader place).place leader.next leads)
leads_on site history leader new packet leads (NextRecords count is fit packet_is new_is) =
    subst (λ (s : LeaderState). LeadsFor site history s) (sym new_is) (leads_further site history leader leader.place (leader.next + count) leads)
leads_on site history leader new packet leads (NothingMore is all packet_is new_is) = subst (λ (s : LeaderState). LeadsFor site history s) (sym new_is) leads

-- whole records and a snapshot stand for a history, and a leader of them has it
pub leads_begun : (site : Site) (older later : List Event) (leader : LeaderState) → leader.events ≡ length older → IsSnapshotAfter site older leader.snapshot → SpellsEvents leader.records later → AreEnds leader.records leader.ends
    → LeadsFor site (reverse later ++ older) leader
leads_begun site older later leader count is spells so = record {
  older = older;
  later = later;
  together = refl;
  events = count;
  snapshot = is;
  records = spells;
  ends = so.ends_are ∙ ap (λ (l : List Event). ends_from 0 l) (one_list leader.records so.events later so.spells spells);
}

-- ---- a leader stays one

-- where events come before the records, a first piece is there
pub piece_there : (leader : LeaderState) (known : ℕ) → IsLeader leader → known < leader.events → 0 < length leader.snapshot
piece_there leader known so less = by leader.snapshot refl
  where
    by : (octets : List ℕ) → leader.snapshot ≡ octets → 0 < length leader.snapshot
    by [] none = absurd (omega (arith, so.some none, less))
    by (octet ∷ octets) is = omega (arith, ap (λ (l : List ℕ). length l) is)

pub still_leads : (leader : LeaderState) (place : Option ℕ) (next : ℕ) → IsLeader leader → IfSome place (λ at. at < length leader.snapshot) → IsLeader (record leader { place = place; next = next })
still_leads leader place next so within = record { ends = so.ends; number = so.number; whole = so.whole; some = so.some; within = within }

-- ---- less is left

less_behind : (leader : LeaderState) (place : ℕ) → leader.place ≡ Some place → place < length leader.snapshot → left_of (behind_piece leader place) < left_of leader
less_behind leader place is within =
    let now : left_of leader ≡ (length leader.snapshot - place) + (length leader.ends - leader.next) = ap (λ (o : Option ℕ). left_of (record leader { place = o })) is in
    cond_both (ltb (place + most_packet_octets) (length leader.snapshot)) (Some (place + most_packet_octets)) None (λ (o : Option ℕ). left_of (record leader { place = o }) < left_of leader)
    (λ more. omega (arith, now, within, ltb-true _ _ more))
    (λ none. omega (arith, now, within))

pub less : (leader new : LeaderState) (octets : List ℕ) → IsLeader leader → OffersNext leader (Some octets) new → left_of new < left_of leader
less leader new octets so (NextPiece place is packet_is new_is) =
    subst (λ (s : LeaderState). left_of s < left_of leader) (sym new_is) (less_behind leader place is (within_at leader place is so.within))
less leader new octets so (NextRecords count is fit packet_is new_is) =
    subst (λ (s : LeaderState). left_of s < left_of leader) (sym new_is) (omega (arith, fit.some, fit.there))
less leader new octets so (NothingMore is all packet_is new_is) = absurd (none-some octets (sym packet_is))
