-- A packet that a leader offered leads a follower from one history to which the leader's goes back to another.
use Rattle.std.proofs.Common.{◌≡◌, ℕ, ◌-◌, ◌≤◌, List, [], ◌++◌, length, drop, reverse, refl, sym, ap, subst, ◌∙◌, inl, inr, arith}
use Rattle.std.proofs.lemmas.List.{length-append}
use Rattle.std.proofs.lemmas.List.Elements.{All-cons, All-nil}
use Rattle.alarm_core.specs.declared.event.Event.{Event}
use Rattle.alarm_core.specs.declared.site.Site.{Site}
use Rattle.alarm_core.specs.Allowed.{Represents}
use Rattle.alarm_core.specs.Fits.{FitsSite}
use Rattle.alarm_core.specs.Following.{AreAllowed, state_over}
use Rattle.alarm_core.specs.SiteStates.{IsStateOf}
use Rattle.alarm_core.specs.Sites.{IsSite}
use Rattle.alarm_core.specs.State.{CoreState, state_of}
use Rattle.state_codec.specs.Laws.{BoundsAreLow, OneSnapshot}
use Rattle.state_codec.specs.Sizes.{snapshot_bound}
use Rattle.standby.specs.Leads.{LeadsOn, MayBe}
use Rattle.standby.specs.Packets.{PieceData, SpellsPiece, SpellsRecords}
use Rattle.standby.specs.Runs.{AsPiece, AsRecords, GoesBackTo, IsOffered}
use Rattle.standby.specs.Takes.{Following, OfNoPacket, OfPiece, OfRecords, Takes, TakesPiece, TakesRecords, fresh_events}
use Rattle.standby.specs.declared.took.Took.{Took}
use Rattle.standby.specs.declared.took.Took.TheVariants.{Malformed, Gap, Repeat, Part, Taken}
use Rattle.standby.proofs.Fronts.{among, one_older}
use Rattle.standby.proofs.Spelling.{not_both, one_piece, one_records}
use Rattle.standby.proofs.Steps.{Follows, FollowsBy, IsGatheredIf, IsPieceOf, bound_low, by_piece, by_records, may_be, over_events, own_state}

-- the follower's next history, and that the packet leads to it
pub record Led (site : Site) (history older : List Event) (old : Following) (octets : List ℕ) (took : Took) (new : Following) : Type 0 where
  pub by : FollowsBy site history older took new
  pub on : LeadsOn old octets took new older by.next

module _ (site : Site) (is_site : IsSite site) (typed : FitsSite site) (one : OneSnapshot) (low : BoundsAreLow) where
  -- the state that a follower has come to represents the history
  pub represents : (history older : List Event) (now : Following) → MayBe site history → Follows site history older now → Represents now.core older
  represents history older now may so =
      subst (λ (s : CoreState). Represents s older) (sym so.state) (record { is_history = (may_be site is_site typed one low history older so.there may).is_history; shows = refl })

  -- where the core stays as it is, so does the history
  same_history : (history older : List Event) (old new : Following) (took : Took) → Follows site history older old → (by : FollowsBy site history older took new) → new.core ≡ old.core → by.next ≡ older
  same_history history older old new took so by same =
      one_older history by.next older by.follows.there so.there (ap (λ (s : CoreState). s.events) (sym by.follows.state ∙ (same ∙ so.state)))

  -- records lead to the history with those that are new
  taken_records : (history older : List Event) (old new : Following) (octets : List ℕ) (known : ℕ) (events oldest : List Event) → MayBe site history → Follows site history older old
      → GoesBackTo history (reverse events ++ oldest) → SpellsRecords octets (length oldest) events → TakesRecords old (length oldest) events (Taken known) new → Led site history older old octets (Taken known) new
  taken_records history older old new octets known events oldest may so there spells (goes, known_is, (base, tried, allowed, new_is)) =
      let its : MayBe site older = may_be site is_site typed one low history older so.there may in
      let events_are : old.core.events ≡ length older = ap (λ (s : CoreState). s.events) so.state in
      let own : IsStateOf old.core.site old.core = subst (λ (s : CoreState). IsStateOf s.site s) (sym so.state) (own_state site is_site typed one low older its) in
      let base_is : base ≡ state_of site older = tried.own own ∙ so.state in
      let fresh : List Event = drop (length older - length oldest) events in
      let fresh_is : fresh_events old.core.events (length oldest) events ≡ fresh = ap (λ (n : ℕ). drop (n - length oldest) events) events_are in
      let allowed_so : AreAllowed (state_of site older) fresh = subst (λ (s : CoreState). AreAllowed s fresh) base_is (subst (λ (l : List Event). AreAllowed base l) fresh_is allowed) in
      let parts = among history older oldest events so.there there (omega (arith, events_are, goes.0)) (omega (arith, events_are, goes.1)) in
      let next : List Event = reverse fresh ++ older in
      let core_is : state_over base (fresh_events old.core.events (length oldest) events) ≡ state_of site next =
      ap (λ (l : List Event). state_over base l) fresh_is ∙ (ap (λ (s : CoreState). state_over s fresh) base_is ∙ over_events site is_site typed one low older fresh its allowed_so) in
      record {
        by = record {
          next = next;
          follows = record { there = parts.next; state = ap (λ (f : Following). f.core) new_is ∙ core_is; gathers = subst (λ (f : Following). IsGatheredIf site history f.gathering) (sym new_is) so.gathers };
          no_shorter = omega (arith, length-append (reverse fresh) older);
          covers = All-cons (λ (n : ℕ). n ≤ length next) known [] (omega (arith, known_is, parts.long)) (All-nil (λ (n : ℕ). n ≤ length next));
        };
        on = inl (record { first = length oldest; events = events; packet = spells; longer = ap (λ (n : ℕ). reverse (drop (n - length oldest) events) ++ older) (sym events_are) });
      }

  records_led : (history older : List Event) (old new : Following) (octets : List ℕ) (took : Took) (events oldest : List Event) → MayBe site history → Follows site history older old
      → GoesBackTo history (reverse events ++ oldest) → SpellsRecords octets (length oldest) events → TakesRecords old (length oldest) events took new → Led site history older old octets took new
  records_led history older old new octets (Gap known) events oldest may so there spells took =
      let by = by_records site is_site typed one low history older old new octets (Gap known) events oldest may so there took in
      record { by = by; on = same_history history older old new (Gap known) so by (ap (λ (f : Following). f.core) took.2) }
  records_led history older old new octets (Repeat known) events oldest may so there spells took =
      let by = by_records site is_site typed one low history older old new octets (Repeat known) events oldest may so there took in
      record { by = by; on = same_history history older old new (Repeat known) so by (ap (λ (f : Following). f.core) took.2) }
  records_led history older old new octets Malformed events oldest may so there spells took =
      let by = by_records site is_site typed one low history older old new octets Malformed events oldest may so there took in
      record { by = by; on = same_history history older old new Malformed so by (ap (λ (f : Following). f.core) took.2) }
  records_led history older old new octets (Taken known) events oldest may so there spells took = taken_records history older old new octets known events oldest may so there spells took
  records_led history older old new octets (Part place) events oldest may so there spells took = absurd took

  piece_led : (history older : List Event) (old new : Following) (octets : List ℕ) (took : Took) (piece : PieceData) → MayBe site history → Follows site history older old
      → IsPieceOf site is_site typed one low history piece → SpellsPiece (snapshot_bound old.core.site) octets piece → TakesPiece old piece took new → Led site history older old octets took new
  piece_led history older old new octets (Gap known) piece may so part spells took =
      let by = by_piece site is_site typed one low history older old new (Gap known) piece may so part took in
      record { by = by; on = same_history history older old new (Gap known) so by (ap (λ (f : Following). f.core) took.3) }
  piece_led history older old new octets (Repeat known) piece may so part spells took =
      let by = by_piece site is_site typed one low history older old new (Repeat known) piece may so part took in
      record { by = by; on = same_history history older old new (Repeat known) so by (ap (λ (f : Following). f.core) took.2) }
  piece_led history older old new octets (Part place) piece may so part spells (more, (pieces, gathers, short, place_is, new_is)) =
      let by = by_piece site is_site typed one low history older old new (Part place) piece may so part (more, (pieces, gathers, short, place_is, new_is)) in
      record { by = by; on = same_history history older old new (Part place) so by (ap (λ (f : Following). f.core) new_is) }
  piece_led history older old new octets Malformed piece may so part spells (more, (pieces, gathers, whole, none, new_is)) =
      let by = by_piece site is_site typed one low history older old new Malformed piece may so part (more, (pieces, gathers, whole, none, new_is)) in
      record { by = by; on = same_history history older old new Malformed so by (ap (λ (f : Following). f.core) new_is) }
  piece_led history older old new octets (Taken known) piece may so part spells took =
      let by : FollowsBy site history older (Taken known) new = by_piece site is_site typed one low history older old new (Taken known) piece may so part took in
      record { by = by; on = inr (record { piece = piece; packet = spells; stands = represents history by.next new may by.follows }) }

  pub led_by_packet : (history older : List Event) (old new : Following) (octets : List ℕ) (took : Took) → MayBe site history → Follows site history older old
      → IsOffered site history octets → Takes old octets took new → Led site history older old octets took new
  led_by_packet history older old new octets took may so (AsRecords offers) (OfNoPacket none malformed same) = absurd (none.records (length offers.older) offers.events offers.packet)
  led_by_packet history older old new octets took may so (AsRecords offers) (OfRecords before events spells takes) =
      let is = one_records octets before (length offers.older) events offers.events spells offers.packet in
      records_led history older old new octets took offers.events offers.older may so offers.there offers.packet
      (subst (λ (l : List Event). TakesRecords old (length offers.older) l took new) is.events_are (subst (λ (n : ℕ). TakesRecords old n events took new) is.before_is takes))
  led_by_packet history older old new octets took may so (AsRecords offers) (OfPiece piece spells takes) = absurd (not_both (snapshot_bound old.core.site) octets (length offers.older) offers.events piece offers.packet spells)
  led_by_packet history older old new octets took may so (AsPiece offers) (OfNoPacket none malformed same) =
      let site_is : old.core.site ≡ site = ap (λ (s : CoreState). s.site) so.state in
      absurd (none.piece offers.piece (subst (λ (s : Site). SpellsPiece (snapshot_bound s) octets offers.piece) (sym site_is) offers.packet))
  led_by_packet history older old new octets took may so (AsPiece offers) (OfRecords before events spells takes) = absurd (not_both (snapshot_bound site) octets before events offers.piece spells offers.packet)
  led_by_packet history older old new octets took may so (AsPiece offers) (OfPiece piece spells takes) =
      let site_is : old.core.site ≡ site = ap (λ (s : CoreState). s.site) so.state in
      let spells_so : SpellsPiece (snapshot_bound site) octets piece = subst (λ (s : Site). SpellsPiece (snapshot_bound s) octets piece) site_is spells in
      let is : piece ≡ offers.piece = one_piece (snapshot_bound site) octets piece offers.piece (bound_low site is_site typed one low) spells_so offers.packet in
      let part : IsPieceOf site is_site typed one low history offers.piece = record { past = offers.older; there = offers.there; snapshot = offers.snapshot; spells = offers.spells; events = offers.events; whole = offers.whole; part = offers.part } in
      piece_led history older old new octets took offers.piece may so part
      (subst (λ (p : PieceData). SpellsPiece (snapshot_bound old.core.site) octets p) is spells) (subst (λ (p : PieceData). TakesPiece old p took new) is takes)
