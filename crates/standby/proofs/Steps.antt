-- One packet that a leader offered: the follower's state stays that of a history from which the leader's goes on.
use Rattle.std.proofs.Common.{◌≡◌, ℕ, ◌-◌, ◌^◌, ◌<◌, ◌≤◌, Bool, true, false, eqb, ◌&&◌, cond, All, List, [], ◌∷◌, ◌++◌, length, take, drop, reverse, Option, Some, None, refl, sym, ap, subst, ◌∙◌, arith}
use Rattle.std.proofs.lemmas.Bool.{eqb-true}
use Rattle.std.proofs.lemmas.List.{length-append, take_all}
use Rattle.std.proofs.lemmas.List.Elements.{All-nil, All-cons, All-tail}
use Rattle.std.proofs.lemmas.Option.{cond_some, none-some}
use Rattle.ground_io.specs.Disk.{octets_at}
use Rattle.alarm_core.specs.declared.event.Event.{Event}
use Rattle.alarm_core.specs.declared.site.Site.{Site}
use Rattle.alarm_core.specs.Allowed.{IsHistory, Represents}
use Rattle.alarm_core.specs.Fits.{FitsEvent, FitsSite}
use Rattle.alarm_core.specs.Following.{AreAllowed, state_over}
use Rattle.alarm_core.specs.Sites.{IsSite}
use Rattle.alarm_core.specs.SiteStates.{IsStateOf}
use Rattle.alarm_core.specs.State.{CoreState, state_of}
use Rattle.alarm_core.proofs.KeptSites.{keeps_to_its_site}
use Rattle.alarm_core.proofs.Following.{stands_over_events}
use Rattle.state_codec.specs.Laws.{BoundsAreLow, OneSnapshot}
use Rattle.state_codec.specs.Sizes.{snapshot_bound}
use Rattle.state_codec.specs.Spelled.{SpellsState}
use Rattle.state_codec.proofs.Behind.{both_true, some_is}
use Rattle.state_codec.proofs.Recovered.{follows_older, over_site}
use Rattle.standby.specs.Packets.{PieceData, SpellsPiece}
use Rattle.standby.specs.Takes.{Following, Gathering, Takes, OfNoPacket, OfPiece, OfRecords, TakesPiece, TakesRecords, fresh_events, gathered, gathered_by, gathered_on}
use Rattle.standby.specs.Leads.{MayBe}
use Rattle.standby.specs.Runs.{AsPiece, AsRecords, GoesBackTo, IsOffered, OffersPiece, acknowledged_by}
use Rattle.standby.specs.declared.took.Took.{Took}
use Rattle.standby.specs.declared.took.Took.TheVariants.{Malformed, Gap, Repeat, Part, Taken}
use Rattle.standby.proofs.Fronts.{among, goes_on, one_older, take_on}
use Rattle.standby.proofs.Spelling.{not_both, one_piece, one_records}

-- ---- what holds of a follower all the time

-- what is gathered is the front of the snapshot of the state after some events of the leader's history
pub record IsGathered (site : Site) (history : List Event) (gathering : Gathering) : Type 0 where
  pub past : List Event
  pub there : GoesBackTo history past
  pub snapshot : List ℕ
  pub spells : SpellsState site snapshot (state_of site past)
  pub events : gathering.events ≡ length past
  pub whole : gathering.whole ≡ length snapshot
  pub front : gathering.octets ≡ take (length gathering.octets) snapshot

abbrev pub IsGatheredIf : Site → List Event → Option Gathering → Type 0
IsGatheredIf site history None = Unit {0}
IsGatheredIf site history (Some gathering) = IsGathered site history gathering

pub record Follows (site : Site) (history older : List Event) (now : Following) : Type 0 where
  pub there : GoesBackTo history older
  pub state : now.core ≡ state_of site older
  pub gathers : IsGatheredIf site history now.gathering

-- the leader's history may grow
gathers_on : (site : Site) (history events : List Event) (gathering : Option Gathering) → IsGatheredIf site history gathering → IsGatheredIf site (events ++ history) gathering
gathers_on site history events None is = tt
gathers_on site history events (Some gathering) is = record {
  past = is.past;
  there = goes_on history is.past events is.there;
  snapshot = is.snapshot;
  spells = is.spells;
  events = is.events;
  whole = is.whole;
  front = is.front;
}

pub follows_on : (site : Site) (history older events : List Event) (now : Following) → Follows site history older now → Follows site (events ++ history) older now
follows_on site history older events now so = record { there = goes_on history older events so.there; state = so.state; gathers = gathers_on site history events now.gathering so.gathers }

pub offered_on : (site : Site) (history events : List Event) (octets : List ℕ) → IsOffered site history octets → IsOffered site (events ++ history) octets
offered_on site history events octets (AsRecords so) = AsRecords (record { older = so.older; events = so.events; there = goes_on history (reverse so.events ++ so.older) events so.there; packet = so.packet })
offered_on site history events octets (AsPiece so) = AsPiece (record { older = so.older; there = goes_on history so.older events so.there; snapshot = so.snapshot; spells = so.spells; piece = so.piece; packet = so.packet; events = so.events; whole = so.whole; part = so.part })

-- ---- what comes of one packet

-- the follower's next history, no shorter than the one before, and at least as long as the number that is acknowledged
pub record FollowsBy (site : Site) (history older : List Event) (took : Took) (new : Following) : Type 0 where
  pub next : List Event
  pub follows : Follows site history next new
  pub no_shorter : length older ≤ length next
  pub covers : All (λ known. known ≤ length next) (acknowledged_by took)

module _ (site : Site) (is_site : IsSite site) (typed : FitsSite site) (one : OneSnapshot) (low : BoundsAreLow) where
  -- a history that the leader's goes back to is one too
  older_history : (newer older : List Event) → IsHistory site (newer ++ older) → IsHistory site older
  older_history [] older is = is
  older_history (event ∷ newer) older is = older_history newer older is.4

  older_fit : (newer older : List Event) → All FitsEvent (newer ++ older) → All FitsEvent older
  older_fit [] older fit = fit
  older_fit (event ∷ newer) older fit = older_fit newer older (All-tail FitsEvent event (newer ++ older) fit)

  pub may_be : (history older : List Event) → GoesBackTo history older → MayBe site history → MayBe site older
  may_be history older there may = record {
    is_history = older_history there.0 older (subst (λ (h : List Event). IsHistory site h) there.1 may.is_history);
    fit = older_fit there.0 older (subst (λ (h : List Event). All FitsEvent h) there.1 may.fit);
    few = omega (arith, may.few, ap (λ (h : List Event). length h) there.1, length-append there.0 older);
  }

  represents : (older : List Event) → MayBe site older → Represents (state_of site older) older
  represents older may = record { is_history = may.is_history; shows = refl }

  pub own_state : (older : List Event) → MayBe site older → IsStateOf site (state_of site older)
  own_state older may = keeps_to_its_site.keeps site is_site typed older may.is_history may.fit may.few

  stays : (history older : List Event) (old new : Following) → Follows site history older old → new ≡ old → Follows site history older new
  stays history older old new so same = subst (λ (f : Following). Follows site history older f) (sym same) so

  -- ---- records

  -- events that come next take the state of a history to that of the longer one
  pub over_events : (older events : List Event) → MayBe site older → AreAllowed (state_of site older) events → state_over (state_of site older) events ≡ state_of site (reverse events ++ older)
  over_events older events may allowed =
      let all : Represents (state_over (state_of site older) events) (reverse events ++ older) = stands_over_events (state_of site older) older events is_site (represents older may) allowed in
      all.shows ∙ ap (λ (s : Site). state_of s (reverse events ++ older)) (over_site events (state_of site older))

  pub by_records : (history older : List Event) (old new : Following) (octets : List ℕ) (took : Took) (events oldest : List Event) → MayBe site history → Follows site history older old
      → GoesBackTo history (reverse events ++ oldest) → TakesRecords old (length oldest) events took new → FollowsBy site history older took new
  by_records history older old new octets (Gap known) events oldest may so there took =
      record { next = older; follows = stays history older old new so took.2; no_shorter = omega arith; covers = All-nil (λ n. n ≤ length older) }
  by_records history older old new octets (Repeat known) events oldest may so there took =
      let known_is : known ≡ length older = took.0 ∙ ap (λ (s : CoreState). s.events) so.state in
      record { next = older; follows = stays history older old new so took.2; no_shorter = omega arith; covers = All-cons (λ n. n ≤ length older) known [] (omega (arith, known_is)) (All-nil (λ n. n ≤ length older)) }
  by_records history older old new octets Malformed events oldest may so there took =
      record { next = older; follows = stays history older old new so took.2; no_shorter = omega arith; covers = All-nil (λ n. n ≤ length older) }
  by_records history older old new octets (Taken known) events oldest may so there (goes, known_is, (base, tried, allowed, new_is)) =
      let its : MayBe site older = may_be history older so.there may in
      let events_are : old.core.events ≡ length older = ap (λ (s : CoreState). s.events) so.state in
      let own : IsStateOf old.core.site old.core = subst (λ (s : CoreState). IsStateOf s.site s) (sym so.state) (own_state older its) in
      let base_is : base ≡ state_of site older = tried.own own ∙ so.state in
      let fresh : List Event = drop (length older - length oldest) events in
      let fresh_is : fresh_events old.core.events (length oldest) events ≡ fresh = ap (λ (n : ℕ). drop (n - length oldest) events) events_are in
      let allowed_so : AreAllowed (state_of site older) fresh = subst (λ (s : CoreState). AreAllowed s fresh) base_is (subst (λ (l : List Event). AreAllowed base l) fresh_is allowed) in
      let parts = among history older oldest events so.there there (omega (arith, events_are, goes.0)) (omega (arith, events_are, goes.1)) in
      let next : List Event = reverse fresh ++ older in
      let core_is : state_over base (fresh_events old.core.events (length oldest) events) ≡ state_of site next =
      ap (λ (l : List Event). state_over base l) fresh_is ∙ (ap (λ (s : CoreState). state_over s fresh) base_is ∙ over_events older fresh its allowed_so) in
      record {
        next = next;
        follows = record { there = parts.next; state = ap (λ (f : Following). f.core) new_is ∙ core_is; gathers = subst (λ (f : Following). IsGatheredIf site history f.gathering) (sym new_is) so.gathers };
        no_shorter = omega (arith, length-append (reverse fresh) older);
        covers = All-cons (λ n. n ≤ length next) known [] (omega (arith, known_is, parts.long)) (All-nil (λ n. n ≤ length next));
      }
  by_records history older old new octets (Part place) events oldest may so there took = absurd took

  -- what a leader offers may come next
  pub never_refused : (history older : List Event) (old new : Following) (events oldest : List Event) → MayBe site history → Follows site history older old
      → GoesBackTo history (reverse events ++ oldest) → TakesRecords old (length oldest) events Malformed new → ⊥
  never_refused history older old new events oldest may so there (goes, (base, tried, refused), same) =
      let its : MayBe site older = may_be history older so.there may in
      let events_are : old.core.events ≡ length older = ap (λ (s : CoreState). s.events) so.state in
      let own : IsStateOf old.core.site old.core = subst (λ (s : CoreState). IsStateOf s.site s) (sym so.state) (own_state older its) in
      let base_is : base ≡ state_of site older = tried.own own ∙ so.state in
      let fresh : List Event = drop (length older - length oldest) events in
      let fresh_is : fresh_events old.core.events (length oldest) events ≡ fresh = ap (λ (n : ℕ). drop (n - length oldest) events) events_are in
      let parts = among history older oldest events so.there there (omega (arith, events_are, goes.0)) (omega (arith, events_are, goes.1)) in
      let longer : MayBe site (reverse fresh ++ older) = may_be history (reverse fresh ++ older) parts.next may in
      let allowed : AreAllowed (state_of site older) fresh = follows_older site older fresh is_site longer.is_history in
      refused (subst (λ (l : List Event). AreAllowed base l) (sym fresh_is) (subst (λ (s : CoreState). AreAllowed s fresh) (sym base_is) allowed))

  -- ---- pieces

  -- a piece of a leader's snapshot
  pub record IsPieceOf (history : List Event) (piece : PieceData) : Type 0 where
    pub past : List Event
    pub there : GoesBackTo history past
    pub snapshot : List ℕ
    pub spells : SpellsState site snapshot (state_of site past)
    pub events : piece.events ≡ length past
    pub whole : piece.whole ≡ length snapshot
    pub part : piece.octets ≡ octets_at piece.place (length piece.octets) snapshot

  -- what is gathered with it is a front of the snapshot
  anew : (history : List Event) (piece : PieceData) (part : IsPieceOf history piece) → piece.place ≡ 0 → piece.octets ≡ take (length piece.octets) part.snapshot
  anew history piece part zero_is = part.part ∙ ap (λ (n : ℕ). octets_at n (length piece.octets) part.snapshot) zero_is

  further : (history : List Event) (piece : PieceData) (gathering : Gathering) (part : IsPieceOf history piece) → IsGathered site history gathering
      → gathering.events ≡ piece.events → length gathering.octets ≡ piece.place → gathering.octets ++ piece.octets ≡ take (length (gathering.octets ++ piece.octets)) part.snapshot
  further history piece gathering part so same_events same_place =
      let past_is : so.past ≡ part.past = one_older history so.past part.past so.there part.there (sym so.events ∙ (same_events ∙ part.events)) in
      let snapshot_is : so.snapshot ≡ part.snapshot = one.octets site so.snapshot part.snapshot (state_of site part.past) (subst (λ (h : List Event). SpellsState site so.snapshot (state_of site h)) past_is so.spells) part.spells in
      let first : gathering.octets ≡ take (length gathering.octets) part.snapshot = so.front ∙ ap (λ (l : List ℕ). take (length gathering.octets) l) snapshot_is in
      let second : piece.octets ≡ take (length piece.octets) (drop (length gathering.octets) part.snapshot) = part.part ∙ ap (λ (n : ℕ). take (length piece.octets) (drop n part.snapshot)) (sym same_place) in
      ap (λ (l : List ℕ). l ++ piece.octets) first ∙ (ap (λ (l : List ℕ). take (length gathering.octets) part.snapshot ++ l) second
      ∙ (take_on (length gathering.octets) (length piece.octets) part.snapshot ∙ ap (λ (n : ℕ). take n part.snapshot) (sym (length-append gathering.octets piece.octets))))

  goes_on_by : (history : List Event) (piece : PieceData) (gathering : Gathering) (part : IsPieceOf history piece) (octets : List ℕ) → IsGathered site history gathering
      → gathered_on gathering piece ≡ Some octets → octets ≡ take (length octets) part.snapshot
  goes_on_by history piece gathering part octets so e =
      let g = cond_some (eqb gathering.events piece.events && (eqb gathering.whole piece.whole && eqb (length gathering.octets) piece.place)) (gathering.octets ++ piece.octets) octets e in
      let t = both_true (eqb gathering.events piece.events) (eqb gathering.whole piece.whole && eqb (length gathering.octets) piece.place) g.0 in
      let u = both_true (eqb gathering.whole piece.whole) (eqb (length gathering.octets) piece.place) t.1 in
      subst (λ (l : List ℕ). l ≡ take (length l) part.snapshot) g.1 (further history piece gathering part so (eqb-true _ _ t.0) (eqb-true _ _ u.1))

  front_by : (history : List Event) (piece : PieceData) (gathering : Option Gathering) (part : IsPieceOf history piece) (octets : List ℕ) → IsGatheredIf site history gathering
      → gathered_by gathering piece ≡ Some octets → octets ≡ take (length octets) part.snapshot
  front_by history piece None part octets so e = absurd (none-some octets e)
  front_by history piece (Some gathering) part octets so e = goes_on_by history piece gathering part octets so e

  front_at : (anew_too : Bool) (history : List Event) (piece : PieceData) (gathering : Option Gathering) (part : IsPieceOf history piece) (octets : List ℕ) → IsGatheredIf site history gathering
      → eqb piece.place 0 ≡ anew_too → cond anew_too (Some piece.octets) (gathered_by gathering piece) ≡ Some octets → octets ≡ take (length octets) part.snapshot
  front_at true history piece gathering part octets so zero_is e =
      subst (λ (l : List ℕ). l ≡ take (length l) part.snapshot) (some_is piece.octets octets e) (anew history piece part (eqb-true _ _ zero_is))
  front_at false history piece gathering part octets so zero_is e = front_by history piece gathering part octets so e

  front : (history : List Event) (piece : PieceData) (gathering : Option Gathering) (part : IsPieceOf history piece) (octets : List ℕ) → IsGatheredIf site history gathering
      → gathered gathering piece ≡ Some octets → octets ≡ take (length octets) part.snapshot
  front history piece gathering part octets so e = front_at (eqb piece.place 0) history piece gathering part octets so refl e

  pub by_piece : (history older : List Event) (old new : Following) (took : Took) (piece : PieceData) → MayBe site history → Follows site history older old
      → IsPieceOf history piece → TakesPiece old piece took new → FollowsBy site history older took new
  by_piece history older old new (Gap known) piece may so part took =
      record { next = older; follows = stays history older old new so took.3; no_shorter = omega arith; covers = All-nil (λ n. n ≤ length older) }
  by_piece history older old new (Repeat known) piece may so part took =
      let known_is : known ≡ length older = took.0 ∙ ap (λ (s : CoreState). s.events) so.state in
      record { next = older; follows = stays history older old new so took.2; no_shorter = omega arith; covers = All-cons (λ n. n ≤ length older) known [] (omega (arith, known_is)) (All-nil (λ n. n ≤ length older)) }
  by_piece history older old new (Part place) piece may so part (more, (octets, gathers, short, place_is, new_is)) = record {
    next = older;
    follows = record {
      there = so.there;
      state = ap (λ (f : Following). f.core) new_is ∙ so.state;
      gathers = subst (λ (f : Following). IsGatheredIf site history f.gathering) (sym new_is)
          (record { past = part.past; there = part.there; snapshot = part.snapshot; spells = part.spells; events = part.events; whole = part.whole; front = front history piece old.gathering part octets so.gathers gathers });
    };
    no_shorter = omega arith;
    covers = All-nil (λ n. n ≤ length older);
  }
  by_piece history older old new Malformed piece may so part (more, (octets, gathers, whole, none, new_is)) = record {
    next = older;
    follows = record { there = so.there; state = ap (λ (f : Following). f.core) new_is ∙ so.state; gathers = subst (λ (f : Following). IsGatheredIf site history f.gathering) (sym new_is) tt };
    no_shorter = omega arith;
    covers = All-nil (λ n. n ≤ length older);
  }
  by_piece history older old new (Taken known) piece may so part (more, known_is, (octets, state, gathers, whole, spells, events, new_is)) =
      let octets_are : octets ≡ part.snapshot = front history piece old.gathering part octets so.gathers gathers ∙ take_all (length octets) part.snapshot (omega (arith, whole, part.whole)) in
      let site_is : old.core.site ≡ site = ap (λ (s : CoreState). s.site) so.state in
      let spells_so : SpellsState site part.snapshot state = subst (λ (l : List ℕ). SpellsState site l state) octets_are (subst (λ (s : Site). SpellsState s octets state) site_is spells) in
      let state_is : state ≡ state_of site part.past = one.state site part.snapshot state (state_of site part.past) is_site spells_so part.spells in
      let shorter : old.core.events ≡ length older = ap (λ (s : CoreState). s.events) so.state in
      record {
        next = part.past;
        follows = record { there = part.there; state = ap (λ (f : Following). f.core) new_is ∙ state_is; gathers = subst (λ (f : Following). IsGatheredIf site history f.gathering) (sym new_is) tt };
        no_shorter = omega (arith, shorter, more, part.events);
        covers = All-cons (λ n. n ≤ length part.past) known [] (omega (arith, known_is, part.events)) (All-nil (λ n. n ≤ length part.past));
      }

  -- a whole snapshot of a leader is one
  pub never_broken : (history older : List Event) (old new : Following) (piece : PieceData) → Follows site history older old → IsPieceOf history piece → TakesPiece old piece Malformed new → ⊥
  never_broken history older old new piece so part (more, (octets, gathers, whole, none, new_is)) =
      let octets_are : octets ≡ part.snapshot = front history piece old.gathering part octets so.gathers gathers ∙ take_all (length octets) part.snapshot (omega (arith, whole, part.whole)) in
      let site_is : old.core.site ≡ site = ap (λ (s : CoreState). s.site) so.state in
      none (state_of site part.past) (subst (λ (l : List ℕ). SpellsState old.core.site l (state_of site part.past)) (sym octets_are) (subst (λ (s : Site). SpellsState s part.snapshot (state_of site part.past)) (sym site_is) part.spells)) (sym part.events)

  -- ---- packets

  piece_of : (history : List Event) (octets : List ℕ) (offers : OffersPiece site history octets) → IsPieceOf history offers.piece
  piece_of history octets offers = record { past = offers.older; there = offers.there; snapshot = offers.snapshot; spells = offers.spells; events = offers.events; whole = offers.whole; part = offers.part }

  pub bound_low : snapshot_bound site < 2 ^ 32
  bound_low = omega (arith, low.snapshot site is_site)

  pub by_packet : (history older : List Event) (old new : Following) (octets : List ℕ) (took : Took) → MayBe site history → Follows site history older old
      → IsOffered site history octets → Takes old octets took new → FollowsBy site history older took new
  by_packet history older old new octets took may so (AsRecords offers) (OfNoPacket none malformed same) = absurd (none.records (length offers.older) offers.events offers.packet)
  by_packet history older old new octets took may so (AsRecords offers) (OfRecords before events spells takes) =
      let is = one_records octets before (length offers.older) events offers.events spells offers.packet in
      by_records history older old new octets took offers.events offers.older may so offers.there
      (subst (λ (l : List Event). TakesRecords old (length offers.older) l took new) is.events_are (subst (λ (n : ℕ). TakesRecords old n events took new) is.before_is takes))
  by_packet history older old new octets took may so (AsRecords offers) (OfPiece piece spells takes) = absurd (not_both (snapshot_bound old.core.site) octets (length offers.older) offers.events piece offers.packet spells)
  by_packet history older old new octets took may so (AsPiece offers) (OfNoPacket none malformed same) =
      let site_is : old.core.site ≡ site = ap (λ (s : CoreState). s.site) so.state in
      absurd (none.piece offers.piece (subst (λ (s : Site). SpellsPiece (snapshot_bound s) octets offers.piece) (sym site_is) offers.packet))
  by_packet history older old new octets took may so (AsPiece offers) (OfRecords before events spells takes) = absurd (not_both (snapshot_bound site) octets before events offers.piece spells offers.packet)
  by_packet history older old new octets took may so (AsPiece offers) (OfPiece piece spells takes) =
      let site_is : old.core.site ≡ site = ap (λ (s : CoreState). s.site) so.state in
      let spells_so : SpellsPiece (snapshot_bound site) octets piece = subst (λ (s : Site). SpellsPiece (snapshot_bound s) octets piece) site_is spells in
      let is : piece ≡ offers.piece = one_piece (snapshot_bound site) octets piece offers.piece bound_low spells_so offers.packet in
      by_piece history older old new took offers.piece may so (piece_of history octets offers) (subst (λ (p : PieceData). TakesPiece old p took new) is takes)

  pub not_malformed : (history older : List Event) (old new : Following) (octets : List ℕ) → MayBe site history → Follows site history older old
      → IsOffered site history octets → Takes old octets Malformed new → ⊥
  not_malformed history older old new octets may so (AsRecords offers) (OfNoPacket none malformed same) = none.records (length offers.older) offers.events offers.packet
  not_malformed history older old new octets may so (AsRecords offers) (OfRecords before events spells takes) =
      let is = one_records octets before (length offers.older) events offers.events spells offers.packet in
      never_refused history older old new offers.events offers.older may so offers.there
      (subst (λ (l : List Event). TakesRecords old (length offers.older) l Malformed new) is.events_are (subst (λ (n : ℕ). TakesRecords old n events Malformed new) is.before_is takes))
  not_malformed history older old new octets may so (AsRecords offers) (OfPiece piece spells takes) = not_both (snapshot_bound old.core.site) octets (length offers.older) offers.events piece offers.packet spells
  not_malformed history older old new octets may so (AsPiece offers) (OfNoPacket none malformed same) =
      let site_is : old.core.site ≡ site = ap (λ (s : CoreState). s.site) so.state in
      none.piece offers.piece (subst (λ (s : Site). SpellsPiece (snapshot_bound s) octets offers.piece) (sym site_is) offers.packet)
  not_malformed history older old new octets may so (AsPiece offers) (OfRecords before events spells takes) = not_both (snapshot_bound site) octets before events offers.piece spells offers.packet
  not_malformed history older old new octets may so (AsPiece offers) (OfPiece piece spells takes) =
      let site_is : old.core.site ≡ site = ap (λ (s : CoreState). s.site) so.state in
      let spells_so : SpellsPiece (snapshot_bound site) octets piece = subst (λ (s : Site). SpellsPiece (snapshot_bound s) octets piece) site_is spells in
      let is : piece ≡ offers.piece = one_piece (snapshot_bound site) octets piece offers.piece bound_low spells_so offers.packet in
      never_broken history older old new offers.piece so (piece_of history octets offers) (subst (λ (p : PieceData). TakesPiece old p Malformed new) is takes)
