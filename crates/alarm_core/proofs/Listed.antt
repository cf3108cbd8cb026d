-- The known peers are just those that are listed, ascending.
use Rattle.std.proofs.Common.{◌≡◌, ◌↔◌, Bool, true, false, ◌||◌, List, [], ◌∷◌, ◌++◌, refl, sym, ap, ◌∙◌, arith}
use Rattle.std.specs.Prelude.{Contains}
use Rattle.std.specs.List.{flat_map}
use Rattle.std.proofs.lemmas.List.{get_or_default}
use Rattle.std.proofs.lemmas.List.Folds.{Any-from_list_any, list_any_at, list_any-append}
use Rattle.bac_values.specs.Address.{PeerData}
use Rattle.bac_values.specs.Orders.{IsAscending, is_among, is_same}
use Rattle.bac_values.proofs.Inserting.{ascends_with_all}
use Rattle.bac_values.proofs.OrderLemmas.{same_is_equivalence, tied}
use Rattle.notify_class.specs.Edits.{recipient_peers}
use Rattle.alarm_core.specs.declared.event.Act.{Act}
use Rattle.alarm_core.specs.declared.event.Act.TheVariants.{Tick, Write, Ack, Pump, Answer, Edit}
use Rattle.alarm_core.specs.declared.event.Event.{Event}
use Rattle.alarm_core.specs.declared.site.Site.{Site}
use Rattle.alarm_core.specs.Classes.{first_classes, known_peers_of, learned_with, listed_peers, peers_by, peers_in}
use Rattle.alarm_core.specs.Laws.{KnowsListedPeers}
use Rattle.alarm_core.proofs.KnownPeers.{known_more}

-- ---- a peer that a list contains is among its peers

among : (peers : List PeerData) (peer : PeerData) → Contains peers peer → is_among peers peer ≡ true
among peers peer there =
    list_any_at (λ other. is_same other peer) peers there.0 peer there.1 (ap (λ other. is_same other peer) there.2 ∙ same_is_equivalence.refl peer)

contained : (peers : List PeerData) (peer : PeerData) → is_among peers peer ≡ true → Contains peers peer
contained peers peer h =
    let found = Any-from_list_any (λ other. is_same other peer) peers h in
    (found.0, found.2, get_or_default peers found.0 peer found.1 found.2 ∙ (found.3 ∙ tied found.1 peer found.4))

-- ---- the peers of every edit

or_none : (a : Bool) → a ≡ (a || false)
or_none true = refl
or_none false = refl

or_turned : (a b c : Bool) → ((a || b) || c) ≡ (a || (c || b))
or_turned true b c = refl
or_turned false true true = refl
or_turned false true false = refl
or_turned false false true = refl
or_turned false false false = refl

-- the peers of the lists of all edits
abbrev edited_peers : List Event → List PeerData
edited_peers history = flat_map (λ (event : Event). peers_by event.act) history

learned_among : (act : Act) (known edited : List PeerData) (first : Bool) (peer : PeerData) → is_among known peer ≡ (first || is_among edited peer) →
    is_among (learned_with act known) peer ≡ (first || is_among (peers_by act ++ edited) peer)
learned_among (Edit number recipients) known edited first peer e =
    known_more (recipient_peers recipients) known peer
    ∙ (ap (λ b. b || is_among (recipient_peers recipients) peer) e
    ∙ (or_turned first (is_among edited peer) (is_among (recipient_peers recipients) peer)
    ∙ ap (λ b. first || b) (sym (list_any-append (λ other. is_same other peer) (recipient_peers recipients) edited))))
learned_among Tick known edited first peer e = e
learned_among (Write change) known edited first peer e = e
learned_among (Ack object transition named) known edited first peer e = e
learned_among Pump known edited first peer e = e
learned_among (Answer other invoke kind) known edited first peer e = e

known_among : (site : Site) (history : List Event) (peer : PeerData) →
    is_among (known_peers_of site history) peer ≡ (is_among (peers_in (first_classes site)) peer || is_among (edited_peers history) peer)
known_among site [] peer = known_more (peers_in (first_classes site)) [] peer ∙ or_none (is_among (peers_in (first_classes site)) peer)
known_among site (event ∷ older) peer =
    learned_among event.act (known_peers_of site older) (edited_peers older) (is_among (peers_in (first_classes site)) peer) peer (known_among site older peer)

same_among : (site : Site) (history : List Event) (peer : PeerData) → is_among (known_peers_of site history) peer ≡ is_among (listed_peers site history) peer
same_among site history peer =
    known_among site history peer ∙ sym (list_any-append (λ other. is_same other peer) (peers_in (first_classes site)) (edited_peers history))

known_listed : (site : Site) (history : List Event) (peer : PeerData) → Contains (known_peers_of site history) peer ↔ Contains (listed_peers site history) peer
known_listed site history peer = (
  λ there. contained (listed_peers site history) peer (sym (same_among site history peer) ∙ among (known_peers_of site history) peer there),
  λ there. contained (known_peers_of site history) peer (same_among site history peer ∙ among (listed_peers site history) peer there),
)

-- ---- each stands there once

none_ascend : IsAscending []
none_ascend i j d low within = absurd (omega (arith, within))

learned_ascend : (act : Act) (known : List PeerData) → IsAscending known → IsAscending (learned_with act known)
learned_ascend (Edit number recipients) known ascending = ascends_with_all (recipient_peers recipients) known ascending
learned_ascend Tick known ascending = ascending
learned_ascend (Write change) known ascending = ascending
learned_ascend (Ack object transition named) known ascending = ascending
learned_ascend Pump known ascending = ascending
learned_ascend (Answer peer invoke kind) known ascending = ascending

pub known_ascend : (site : Site) (history : List Event) → IsAscending (known_peers_of site history)
known_ascend site [] = ascends_with_all (peers_in (first_classes site)) [] none_ascend
known_ascend site (event ∷ older) = learned_ascend event.act (known_peers_of site older) (known_ascend site older)

pub knows_listed_peers : KnowsListedPeers
knows_listed_peers = record { known = known_listed; ascending = known_ascend }
