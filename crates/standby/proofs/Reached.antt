-- A leader's packets bring a follower to the leader's whole history: while the snapshot is offered what the follower gathers is its front, unless it has those events, and with each packet of records behind it the follower has these.
use Rattle.std.proofs.Common.{◌≡◌, ◌⊎◌, inl, inr, ℕ, ◌+◌, ◌-◌, ◌<◌, ◌≤◌, Bool, true, false, cond, ltb, eqb, ◌&&◌, List, [], ◌∷◌, ◌++◌, Option, Some, None, length, take, drop, reverse, refl, ap, ◌∙◌, sym, subst, arith}
use Rattle.std.proofs.lemmas.Bool.{and_from, cases_lt, cond-false, cond-true, eq-eqb, eqb-true, le-ltb, lt-ltb, ltb-false, ltb-true}
use Rattle.std.proofs.lemmas.List.{length-append, length-drop, length-reverse, length-take, take_all}
use Rattle.std.proofs.lemmas.List.Elements.{All-head}
use Rattle.std.proofs.lemmas.Option.{none-some}
use Rattle.ground_io.specs.Disk.{octets_at}
use Rattle.alarm_core.specs.declared.event.Event.{Event}
use Rattle.alarm_core.specs.declared.site.Site.{Site}
use Rattle.alarm_core.specs.Fits.{FitsSite}
use Rattle.alarm_core.specs.Sites.{IsSite}
use Rattle.alarm_core.specs.State.{CoreState, state_of}
use Rattle.state_codec.specs.Contents.{IsSnapshotAfter}
use Rattle.state_codec.specs.Laws.{BoundsAreLow, OneSnapshot, SnapshotsAreShort}
use Rattle.state_codec.specs.Sizes.{snapshot_bound}
use Rattle.state_codec.specs.Spelled.{SpellsState}
use Rattle.state_codec.proofs.Behind.{some_is}
use Rattle.standby.specs.Leads.{MayBe}
use Rattle.standby.specs.Offers.{LeaderState, LeadsFor, NextPiece, NextRecords, NothingMore, OffersNext, behind_piece, piece_from, records_packet}
use Rattle.standby.specs.Packets.{PieceData, SpellsPiece, SpellsRecords, most_packet_octets, written_piece}
use Rattle.standby.specs.Reaches.{OffersAll, ReachesAll, TakesAll}
use Rattle.standby.specs.Runs.{GoesBackTo}
use Rattle.standby.specs.Takes.{Following, Gathering, OfNoPacket, OfPiece, OfRecords, Takes, TakesPiece, TakesRecords, following, gathered, gathered_by, gathered_on, gathering_of}
use Rattle.standby.specs.declared.took.Took.{Took}
use Rattle.standby.specs.declared.took.Took.TheVariants.{Malformed, Gap, Repeat, Part, Taken}
use Rattle.standby.proofs.Endings.{as_many}
use Rattle.standby.proofs.Fronts.{one_older, take_on}
use Rattle.standby.proofs.Offered.{ends_of, events_from, leads_further, past_length, past_of, past_there, piece_spelled, records_spelled, snapshot_there}
use Rattle.standby.proofs.Spelling.{not_both, one_piece, one_records}
use Rattle.standby.proofs.Steps.{bound_low, by_records, never_refused}

-- ---- what is offered

-- nothing is offered only where all was
all_offered : (leader new : LeaderState) → OffersNext leader None new → (leader.place ≡ None) × (length leader.ends ≤ leader.next)
all_offered leader new (NextPiece place is packet_is new_is) = absurd (none-some (written_piece (piece_from leader place)) packet_is)
all_offered leader new (NextRecords count is fit packet_is new_is) = absurd (none-some (records_packet leader count) packet_is)
all_offered leader new (NothingMore is all packet_is new_is) = (is, all)

-- a history goes back to none as long as itself but itself
whole_past : (history past : List Event) → GoesBackTo history past → length history ≤ length past → past ≡ history
whole_past history past there long =
    one_older history past history there ([], refl) (omega (arith, long, ap (λ (h : List Event). length h) there.1, length-append there.0 past))

-- where events come before the records there is a snapshot
snapshot_some : (site : Site) (older : List Event) (snapshot : List ℕ) → 0 < length older → IsSnapshotAfter site older snapshot → 0 < length snapshot
snapshot_some site older [] some is = absurd (omega (arith, some, ap (λ (l : List Event). length l) is))
snapshot_some site older (octet ∷ snapshot) some is = omega arith

-- ---- what is gathered

-- before the first piece anything may be gathered, and before every other one the front of the snapshot up to its place is
abbrev IsReady : LeaderState → ℕ → Option Gathering → Type 0
IsReady leader place gathering = (place ≡ 0) ⊎ (gathering ≡ Some (record { events = leader.events; whole = length leader.snapshot; octets = take place leader.snapshot }))

begun : (leader : LeaderState) (place : ℕ) → place ≡ 0 → octets_at place most_packet_octets leader.snapshot ≡ take (place + most_packet_octets) leader.snapshot
begun leader place zero_is =
    let same : most_packet_octets ≡ place + most_packet_octets = omega (arith, zero_is) in
    ap (λ (n : ℕ). octets_at n most_packet_octets leader.snapshot) zero_is ∙ ap (λ (n : ℕ). take n leader.snapshot) same

on_from : (leader : LeaderState) (place : ℕ) → place ≤ length leader.snapshot
    → gathered_on (record { events = leader.events; whole = length leader.snapshot; octets = take place leader.snapshot }) (piece_from leader place) ≡ Some (take (place + most_packet_octets) leader.snapshot)
on_from leader place within =
    let front : List ℕ = take place leader.snapshot in
    let here : length front ≡ place = omega (arith, within, length-take place leader.snapshot) in
    let same : (eqb leader.events leader.events && (eqb (length leader.snapshot) (length leader.snapshot) && eqb (length front) place)) ≡ true =
    and_from (eqb leader.events leader.events) (eqb (length leader.snapshot) (length leader.snapshot) && eqb (length front) place) (eq-eqb _ _ refl)
    (and_from (eqb (length leader.snapshot) (length leader.snapshot)) (eqb (length front) place) (eq-eqb _ _ refl) (eq-eqb _ _ here)) in
    cond-true _ (Some (front ++ octets_at place most_packet_octets leader.snapshot)) None same ∙ ap (λ (l : List ℕ). Some l) (take_on place most_packet_octets leader.snapshot)

gathers_by : (first : Bool) (leader : LeaderState) (place : ℕ) (gathering : Option Gathering) → place ≤ length leader.snapshot → IsReady leader place gathering → eqb place 0 ≡ first
    → cond first (Some (octets_at place most_packet_octets leader.snapshot)) (gathered_by gathering (piece_from leader place)) ≡ Some (take (place + most_packet_octets) leader.snapshot)
gathers_by true leader place gathering within ready is = ap (λ (l : List ℕ). Some l) (begun leader place (eqb-true place 0 is))
gathers_by false leader place gathering within (inl zero_is) is = absurd (let e : eqb place 0 ≡ true = eq-eqb place 0 zero_is in let no : true ≡ false = sym e ∙ is in cc)
gathers_by false leader place gathering within (inr so) is = ap (λ (g : Option Gathering). gathered_by g (piece_from leader place)) so ∙ on_from leader place within

gathers : (leader : LeaderState) (place : ℕ) (gathering : Option Gathering) → place ≤ length leader.snapshot → IsReady leader place gathering
    → gathered gathering (piece_from leader place) ≡ Some (take (place + most_packet_octets) leader.snapshot)
gathers leader place gathering within ready = gathers_by (eqb place 0) leader place gathering within ready refl

either_way : {A B C : Type 0} → (A → C) → (B → C) → A ⊎ B → C
either_way first second (inl a) = first a
either_way first second (inr b) = second b

-- a piece that isn't the last one leaves the follower where it was, and the last one brings it to the state of the snapshot
abbrev Goes : Site → List Event → LeaderState → ℕ → Following → Following → Type 0
Goes site older leader place old now =
    ((place + most_packet_octets < length leader.snapshot) × (now ≡ following old.core (gathering_of (piece_from leader place) (take (place + most_packet_octets) leader.snapshot))))
    ⊎ ((length leader.snapshot ≤ place + most_packet_octets) × (now ≡ following (state_of site older) None))

-- a follower stands for an older part of a history, and has so many events at least
pub record Has (site : Site) (history : List Event) (many : ℕ) (now : Following) : Type 0 where
  pub past : List Event
  pub there : GoesBackTo history past
  pub state : now.core ≡ state_of site past
  pub least : many ≤ length past

module _ (site : Site) (is_site : IsSite site) (typed : FitsSite site) (one : OneSnapshot) (low : BoundsAreLow) (short : SnapshotsAreShort) where
  -- ---- records

  -- what a follower takes of records doesn't depend on what it gathers
  gathers_none : (older events : List Event) (old now : Following) (took : Took) → TakesRecords old (length older) events took now → TakesRecords (following old.core None) (length older) events took (following now.core None)
  gathers_none older events old now (Gap known) took = (took.0, took.1, ap (λ (f : Following). following f.core None) took.2)
  gathers_none older events old now (Repeat known) took = (took.0, took.1, ap (λ (f : Following). following f.core None) took.2)
  gathers_none older events old now Malformed took = (took.0, took.1, ap (λ (f : Following). following f.core None) took.2)
  gathers_none older events old now (Taken known) (goes, known_is, (base, tried, allowed, now_is)) = (goes, known_is, (base, tried, allowed, ap (λ (f : Following). following f.core None) now_is))
  gathers_none older events old now (Part place) took = absurd took

  -- a follower that had the events before some records has these too
  records_taken : (history older events : List Event) (old now : Following) (took : Took) → MayBe site history → GoesBackTo history (reverse events ++ older) → Has site history (length older) old
      → TakesRecords old (length older) events took now → Has site history (length older + length events) now
  records_taken history older events old now (Gap known) may there has took = absurd (omega (arith, took.0, took.1, has.least, ap (λ (s : CoreState). s.events) has.state))
  records_taken history older events old now (Repeat known) may there has took =
      record { past = has.past; there = has.there; state = ap (λ (f : Following). f.core) took.2 ∙ has.state; least = omega (arith, took.0, took.1, ap (λ (s : CoreState). s.events) has.state) }
  records_taken history older events old now Malformed may there has took =
      absurd (never_refused site is_site typed one low history has.past (following old.core None) (following now.core None) events older may (record { there = has.there; state = has.state; gathers = tt }) there (gathers_none older events old now Malformed took))
  records_taken history older events old now (Taken known) may there has took =
      let next = by_records site is_site typed one low history has.past (following old.core None) (following now.core None) [] (Taken known) events older may (record { there = has.there; state = has.state; gathers = tt }) there (gathers_none older events old now (Taken known) took) in
      record { past = next.next; there = next.follows.there; state = next.follows.state; least = omega (arith, took.1, All-head (λ n. n ≤ length next.next) known [] next.covers) }
  records_taken history older events old now (Part place) may there has took = absurd took

  packet_taken : (history older events : List Event) (old now : Following) (octets : List ℕ) (took : Took) → MayBe site history → GoesBackTo history (reverse events ++ older) → SpellsRecords octets (length older) events
      → Has site history (length older) old → Takes old octets took now → Has site history (length older + length events) now
  packet_taken history older events old now octets took may there spells has (OfNoPacket none malformed same) = absurd (none.records (length older) events spells)
  packet_taken history older events old now octets took may there spells has (OfRecords before others other_spells takes) =
      let is = one_records octets before (length older) others events other_spells spells in
      records_taken history older events old now took may there has
      (subst (λ (l : List Event). TakesRecords old (length older) l took now) is.events_are (subst (λ (n : ℕ). TakesRecords old n others took now) is.before_is takes))
  packet_taken history older events old now octets took may there spells has (OfPiece piece piece_spells takes) =
      absurd (not_both (snapshot_bound old.core.site) octets (length older) events piece spells piece_spells)

  -- the numbers of a leader's events fit
  history_length : (history : List Event) (leader : LeaderState) (leads : LeadsFor site history leader) → length history ≡ leader.events + length leads.later
  history_length history leader leads =
      omega (arith, ap (λ (h : List Event). length h) leads.together, length-append (reverse leads.later) leads.older, length-reverse leads.later, leads.events)

  behind_snapshot : (packets : List (List ℕ)) (history : List Event) (leader : LeaderState) (old last : Following) → MayBe site history → (leads : LeadsFor site history leader) → leader.place ≡ None
      → Has site history (leader.events + leader.next) old → OffersAll leader packets → TakesAll old packets last → last.core ≡ state_of site history
  behind_snapshot [] history leader old last may leads none has offers takes =
      let all : length leads.later ≤ leader.next = omega (arith, (all_offered leader leader offers).1, as_many leader.records leader.ends (ends_of site history leader leads)) in
      let whole : has.past ≡ history = whole_past history has.past has.there (omega (arith, all, has.least, history_length history leader leads)) in
      ap (λ (f : Following). f.core) takes ∙ (has.state ∙ ap (λ (h : List Event). state_of site h) whole)
  behind_snapshot (packet ∷ packets) history leader old last may leads none has (after, NextPiece place is packet_is after_is, more) takes = absurd (none-some place (sym none ∙ is))
  behind_snapshot (packet ∷ packets) history leader old last may leads none has (after, NothingMore is all packet_is after_is, more) takes = absurd (none-some packet (sym packet_is))
  behind_snapshot (packet ∷ packets) history leader old last may leads none has (after, NextRecords count is fit packet_is after_is, more) (took, now, taken, others) =
      let next : ℕ = leader.next in
      let past : List Event = past_of leads.older leads.later next in
      let events : List Event = events_from leads.later next count in
      let there : next + count ≤ length leads.later = omega (arith, fit.there, as_many leader.records leader.ends (ends_of site history leader leads)) in
      let spelled = records_spelled site history leader count leads (omega (arith, may.few, there, history_length history leader leads)) fit in
      let spells : SpellsRecords packet (length past) events = subst (λ (l : List ℕ). SpellsRecords l (length past) events) (sym (some_is packet (records_packet leader count) packet_is)) spelled.1 in
      let before : length past ≡ leader.events + next = omega (arith, past_length leads.older leads.later next (omega (arith, there)), leads.events) in
      let many : length events ≡ count = omega (arith, there, length-take count (drop next leads.later), length-drop next leads.later) in
      let had : Has site history (length past) old = record { past = has.past; there = has.there; state = has.state; least = omega (arith, has.least, before) } in
      let has_now = packet_taken history past events old now packet took may (past_there history leads.older leads.later next count leads.together) spells had taken in
      behind_snapshot packets history (record leader { next = next + count }) now last may (leads_further site history leader leader.place (next + count) leads) none
      (record { past = has_now.past; there = has_now.there; state = has_now.state; least = omega (arith, has_now.least, before, many) }) (subst (λ (s : LeaderState). OffersAll s packets) after_is more) others

  -- ---- pieces

  piece_taken : (history : List Event) (leader : LeaderState) (place : ℕ) (old now : Following) (took : Took) (leads : LeadsFor site history leader) → place < length leader.snapshot → old.core.site ≡ site → old.core.events < leader.events
      → IsReady leader place old.gathering → TakesPiece old (piece_from leader place) took now → Goes site leads.older leader place old now
  piece_taken history leader place old now (Gap known) leads within site_is fewer ready took =
      absurd (none-some (take (place + most_packet_octets) leader.snapshot) (sym took.2 ∙ gathers leader place old.gathering (omega (arith, within)) ready))
  piece_taken history leader place old now (Repeat known) leads within site_is fewer ready took = absurd (omega (arith, took.0, took.1, fewer))
  piece_taken history leader place old now (Part part) leads within site_is fewer ready (more, (octets, gathered_is, less, part_is, now_is)) =
      let front : List ℕ = take (place + most_packet_octets) leader.snapshot in
      let same : octets ≡ front = some_is octets front (sym gathered_is ∙ gathers leader place old.gathering (omega (arith, within)) ready) in
      inl (omega (arith, less, ap (λ (l : List ℕ). length l) same, length-take (place + most_packet_octets) leader.snapshot), now_is ∙ ap (λ (l : List ℕ). following old.core (gathering_of (piece_from leader place) l)) same)
  piece_taken history leader place old now Malformed leads within site_is fewer ready (more, (octets, gathered_is, whole, none, now_is)) =
      let front : List ℕ = take (place + most_packet_octets) leader.snapshot in
      let same : octets ≡ front = some_is octets front (sym gathered_is ∙ gathers leader place old.gathering (omega (arith, within)) ready) in
      let all : length leader.snapshot ≤ place + most_packet_octets = omega (arith, whole, ap (λ (l : List ℕ). length l) same, length-take (place + most_packet_octets) leader.snapshot) in
      let octets_are : octets ≡ leader.snapshot = same ∙ take_all (place + most_packet_octets) leader.snapshot all in
      let spells : SpellsState site leader.snapshot (state_of site leads.older) = snapshot_there site leads.older leader.snapshot (omega (arith, within)) leads.snapshot in
      absurd (none (state_of site leads.older) (subst (λ (l : List ℕ). SpellsState old.core.site l (state_of site leads.older)) (sym octets_are) (subst (λ (s : Site). SpellsState s leader.snapshot (state_of site leads.older)) (sym site_is) spells)) (sym leads.events))
  piece_taken history leader place old now (Taken known) leads within site_is fewer ready (more, known_is, (octets, state, gathered_is, whole, spelled, events, now_is)) =
      let front : List ℕ = take (place + most_packet_octets) leader.snapshot in
      let same : octets ≡ front = some_is octets front (sym gathered_is ∙ gathers leader place old.gathering (omega (arith, within)) ready) in
      let all : length leader.snapshot ≤ place + most_packet_octets = omega (arith, whole, ap (λ (l : List ℕ). length l) same, length-take (place + most_packet_octets) leader.snapshot) in
      let octets_are : octets ≡ leader.snapshot = same ∙ take_all (place + most_packet_octets) leader.snapshot all in
      let spells : SpellsState site leader.snapshot (state_of site leads.older) = snapshot_there site leads.older leader.snapshot (omega (arith, within)) leads.snapshot in
      let also : SpellsState site leader.snapshot state = subst (λ (l : List ℕ). SpellsState site l state) octets_are (subst (λ (s : Site). SpellsState s octets state) site_is spelled) in
      inr (all, now_is ∙ ap (λ (s : CoreState). following s None) (one.state site leader.snapshot state (state_of site leads.older) is_site also spells))

  -- a follower that has the events of the snapshot stays as it is
  piece_known : (leader : LeaderState) (place : ℕ) (old now : Following) (took : Took) → leader.events ≤ old.core.events → TakesPiece old (piece_from leader place) took now → now ≡ old
  piece_known leader place old now (Gap known) known_all took = absurd (omega (arith, took.0, took.1, known_all))
  piece_known leader place old now (Repeat known) known_all took = took.2
  piece_known leader place old now (Part part) known_all took = absurd (omega (arith, took.0, known_all))
  piece_known leader place old now Malformed known_all took = absurd (omega (arith, took.0, known_all))
  piece_known leader place old now (Taken known) known_all took = absurd (omega (arith, took.0, known_all))

  as_piece : (leader : LeaderState) (place : ℕ) (old now : Following) (octets : List ℕ) (took : Took) → old.core.site ≡ site → SpellsPiece (snapshot_bound site) octets (piece_from leader place) → Takes old octets took now
      → TakesPiece old (piece_from leader place) took now
  as_piece leader place old now octets took site_is spells (OfNoPacket none malformed same) =
      absurd (none.piece (piece_from leader place) (subst (λ (s : Site). SpellsPiece (snapshot_bound s) octets (piece_from leader place)) (sym site_is) spells))
  as_piece leader place old now octets took site_is spells (OfRecords before events records_spells takes) = absurd (not_both (snapshot_bound site) octets before events (piece_from leader place) records_spells spells)
  as_piece leader place old now octets took site_is spells (OfPiece piece piece_spells takes) =
      let spells_so : SpellsPiece (snapshot_bound site) octets piece = subst (λ (s : Site). SpellsPiece (snapshot_bound s) octets piece) site_is piece_spells in
      subst (λ (p : PieceData). TakesPiece old p took now) (one_piece (snapshot_bound site) octets piece (piece_from leader place) (bound_low site is_site typed one low) spells_so spells) takes

  -- the leader behind a piece, which is the last one or isn't
  behind_part : (leader : LeaderState) (place : ℕ) → place + most_packet_octets < length leader.snapshot → behind_piece leader place ≡ record leader { place = Some (place + most_packet_octets) }
  behind_part leader place less = ap (λ (o : Option ℕ). record leader { place = o }) (cond-true _ (Some (place + most_packet_octets)) None (lt-ltb _ _ less))

  behind_last : (leader : LeaderState) (place : ℕ) → length leader.snapshot ≤ place + most_packet_octets → behind_piece leader place ≡ record leader { place = None }
  behind_last leader place all = ap (λ (o : Option ℕ). record leader { place = o }) (cond-false _ (Some (place + most_packet_octets)) None (le-ltb _ _ all))

  -- what one piece is, and where the leader is then
  record Pieces (history : List Event) (leader after : LeaderState) (place : ℕ) (packet : List ℕ) : Type 0 where
    spells : SpellsPiece (snapshot_bound site) packet (piece_from leader place)
    after_is : after ≡ behind_piece leader place

  a_piece : (history : List Event) (leader after : LeaderState) (place : ℕ) (packet : List ℕ) → MayBe site history → (leads : LeadsFor site history leader) → leader.place ≡ Some place → place < length leader.snapshot
      → OffersNext leader (Some packet) after → Pieces history leader after place packet
  a_piece history leader after place packet may leads here within (NextRecords count is fit packet_is after_is) = absurd (none-some place (sym is ∙ here))
  a_piece history leader after place packet may leads here within (NothingMore is all packet_is after_is) = absurd (none-some packet (sym packet_is))
  a_piece history leader after place packet may leads here within (NextPiece at is packet_is after_is) =
      let at_is : at ≡ place = some_is at place (sym is ∙ here) in
      let packet_so : packet ≡ written_piece (piece_from leader place) = some_is packet (written_piece (piece_from leader at)) packet_is ∙ ap (λ (n : ℕ). written_piece (piece_from leader n)) at_is in
      record {
        spells = subst (λ (l : List ℕ). SpellsPiece (snapshot_bound site) l (piece_from leader place)) (sym packet_so)
            (piece_spelled short site history leader place leads (omega (arith, may.few, history_length history leader leads)) within);
        after_is = after_is ∙ ap (λ (n : ℕ). behind_piece leader n) at_is;
      }

  within_snapshot : (packets : List (List ℕ)) (history behind : List Event) (leader : LeaderState) (place : ℕ) (old last : Following) → MayBe site history → (leads : LeadsFor site history leader) → leader.place ≡ Some place → leader.next ≡ 0
      → place < length leader.snapshot → old.core ≡ state_of site behind → length behind < leader.events → IsReady leader place old.gathering → OffersAll leader packets → TakesAll old packets last → last.core ≡ state_of site history
  within_snapshot [] history behind leader place old last may leads here first within state fewer ready offers takes = absurd (none-some place (sym (all_offered leader leader offers).0 ∙ here))
  within_snapshot (packet ∷ packets) history behind leader place old last may leads here first within state fewer ready (after, offered, more) (took, now, taken, others) =
      let piece = a_piece history leader after place packet may leads here within offered in
      let site_is : old.core.site ≡ site = ap (λ (s : CoreState). s.site) state in
      let goes : Goes site leads.older leader place old now =
      piece_taken history leader place old now took leads within site_is (omega (arith, fewer, ap (λ (s : CoreState). s.events) state)) ready (as_piece leader place old now packet took site_is piece.spells taken) in
      either_way
      (λ (less, now_is).
      within_snapshot packets history behind (record leader { place = Some (place + most_packet_octets) }) (place + most_packet_octets) now last may
      (leads_further site history leader (Some (place + most_packet_octets)) leader.next leads) refl first less (ap (λ (f : Following). f.core) now_is ∙ state) fewer (inr (ap (λ (f : Following). f.gathering) now_is))
      (subst (λ (s : LeaderState). OffersAll s packets) (piece.after_is ∙ behind_part leader place less) more) others)
      (λ (all, now_is).
      behind_snapshot packets history (record leader { place = None }) now last may (leads_further site history leader None leader.next leads) refl
      (record { past = leads.older; there = (reverse leads.later, leads.together); state = ap (λ (f : Following). f.core) now_is; least = omega (arith, leads.events, first) })
      (subst (λ (s : LeaderState). OffersAll s packets) (piece.after_is ∙ behind_last leader place all) more) others)
      goes

  known_snapshot : (packets : List (List ℕ)) (history : List Event) (leader : LeaderState) (place : ℕ) (old last : Following) → MayBe site history → (leads : LeadsFor site history leader) → leader.place ≡ Some place → leader.next ≡ 0
      → place < length leader.snapshot → Has site history leader.events old → OffersAll leader packets → TakesAll old packets last → last.core ≡ state_of site history
  known_snapshot [] history leader place old last may leads here first within has offers takes = absurd (none-some place (sym (all_offered leader leader offers).0 ∙ here))
  known_snapshot (packet ∷ packets) history leader place old last may leads here first within has (after, offered, more) (took, now, taken, others) =
      let piece = a_piece history leader after place packet may leads here within offered in
      let events_are : old.core.events ≡ length has.past = ap (λ (s : CoreState). s.events) has.state in
      let site_is : old.core.site ≡ site = ap (λ (s : CoreState). s.site) has.state in
      let now_is : now ≡ old = piece_known leader place old now took (omega (arith, has.least, events_are)) (as_piece leader place old now packet took site_is piece.spells taken) in
      let state : now.core ≡ state_of site has.past = ap (λ (f : Following). f.core) now_is ∙ has.state in
      either_way
      (λ less.
      known_snapshot packets history (record leader { place = Some (place + most_packet_octets) }) (place + most_packet_octets) now last may (leads_further site history leader (Some (place + most_packet_octets)) leader.next leads) refl first less
      (record { past = has.past; there = has.there; state = state; least = has.least }) (subst (λ (s : LeaderState). OffersAll s packets) (piece.after_is ∙ behind_part leader place less) more) others)
      (λ all.
      behind_snapshot packets history (record leader { place = None }) now last may (leads_further site history leader None leader.next leads) refl
      (record { past = has.past; there = has.there; state = state; least = omega (arith, has.least, first) }) (subst (λ (s : LeaderState). OffersAll s packets) (piece.after_is ∙ behind_last leader place all) more) others)
      (cases_lt (place + most_packet_octets) (length leader.snapshot))

  -- ---- all of it

  reached_by : (fewer : Bool) (history older : List Event) (known : ℕ) (leader : LeaderState) (gathering : Option Gathering) (packets : List (List ℕ)) (last : Following) → MayBe site history → GoesBackTo history older → known ≤ length older
      → LeadsFor site history leader → ltb known leader.events ≡ fewer
      → OffersAll (cond fewer (record leader { place = Some 0; next = 0 }) (record leader { place = None; next = known - leader.events })) packets → TakesAll (following (state_of site older) gathering) packets last
      → last.core ≡ state_of site history
  reached_by true history older known leader gathering packets last may there heard leads is offers takes =
      let first : LeaderState = record leader { place = Some 0; next = 0 } in
      let leads_first : LeadsFor site history first = leads_further site history leader (Some 0) 0 leads in
      let some : 0 < length leader.snapshot = snapshot_some site leads.older leader.snapshot (omega (arith, ltb-true _ _ is, leads.events)) leads.snapshot in
      either_way
      (λ less. within_snapshot packets history older first 0 (following (state_of site older) gathering) last may leads_first refl refl some refl less (inl refl) offers takes)
      (λ all. known_snapshot packets history first 0 (following (state_of site older) gathering) last may leads_first refl refl some (record { past = older; there = there; state = refl; least = all }) offers takes)
      (cases_lt (length older) leader.events)
  reached_by false history older known leader gathering packets last may there heard leads is offers takes =
      behind_snapshot packets history (record leader { place = None; next = known - leader.events }) (following (state_of site older) gathering) last may (leads_further site history leader None (known - leader.events) leads) refl
      (record { past = older; there = there; state = refl; least = omega (arith, heard, ltb-false _ _ is) }) offers takes

pub reaches_all : OneSnapshot → SnapshotsAreShort → BoundsAreLow → ReachesAll
reaches_all one short low site is_site typed history older known leader gathering packets last may there heard leads offers takes =
    reached_by site is_site typed one low short (ltb known leader.events) history older known leader gathering packets last may there heard leads refl offers takes
