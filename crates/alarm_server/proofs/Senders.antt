-- Of each sender of packets: which histories a follower of them may have, and to which one a packet leads it.
use Rattle.std.proofs.Common.{◌≡◌, ℕ, ◌+◌, ◌-◌, ◌<◌, ◌≤◌, ◌^◌, All, List, [], ◌++◌, length, drop, reverse, None, refl, sym, ap, subst, ◌∙◌, inl, arith}
use Rattle.std.proofs.lemmas.List.{length-append, length-drop, length-reverse}
use Rattle.std.proofs.lemmas.List.Elements.{All-append, All-cons, All-drop, All-nil}
use Rattle.alarm_core.specs.declared.event.Event.{Event}
use Rattle.alarm_core.specs.declared.site.Site.{Site}
use Rattle.alarm_core.specs.Allowed.{IsHistory, Represents}
use Rattle.alarm_core.specs.Fits.{FitsEvent, FitsSite}
use Rattle.alarm_core.specs.Following.{AreAllowed, state_over}
use Rattle.alarm_core.specs.SiteStates.{IsStateOf}
use Rattle.alarm_core.specs.Sites.{IsSite}
use Rattle.alarm_core.specs.State.{CoreState, state_of}
use Rattle.alarm_core.proofs.Following.{stands_over_events}
use Rattle.state_codec.specs.Laws.{BoundsAreLow, OneSnapshot}
use Rattle.state_codec.specs.Sizes.{snapshot_bound}
use Rattle.state_codec.proofs.DamageLaws.{all_fit}
use Rattle.state_codec.proofs.Recovered.{over_site}
use Rattle.state_codec.proofs.Works.{All-reverse}
use Rattle.standby.specs.Leads.{LeadsOn, MayBe}
use Rattle.standby.specs.Packets.{SpellsPiece, SpellsRecords}
use Rattle.standby.specs.Runs.{GoesBackTo, IsOffered, acknowledged_by}
use Rattle.standby.specs.Takes.{Following, OfNoPacket, OfPiece, OfRecords, Takes, TakesRecords, following}
use Rattle.standby.specs.declared.took.Took.{Took}
use Rattle.standby.specs.declared.took.Took.TheVariants.{Malformed, Gap, Repeat, Part, Taken}
use Rattle.standby.proofs.Fronts.{goes_on}
use Rattle.standby.proofs.Steps as steps
use Rattle.standby.proofs.Steps.{may_be, over_events, own_state}
use Rattle.alarm_server.specs.Following.{Anybody, BringsEvents, Leader, MayBegin, MayReach, MaySend, Sender}
use Rattle.alarm_server.proofs.Led.{led_by_packet, represents}

-- a history of the follower's own: it goes on from the one with which the follower began
pub record IsOwn (site : Site) (begun older : List Event) (now : Following) : Type 0 where
  pub there : GoesBackTo older begun
  pub may : MayBe site older
  pub state : now.core ≡ state_of site older

-- a follower has this history
abbrev pub IsWith : Site → Sender → List Event → List Event → Following → Type 0
IsWith site (Leader history) begun older now = steps.Follows site history older now
IsWith site Anybody begun older now = IsOwn site begun older now

-- that with which it begins
pub reaches_at_once : (site : Site) (sender : Sender) (begun : List Event) → MayBegin site sender begun → MayReach sender begun begun
reaches_at_once site (Leader history) begun begins = begins.1
reaches_at_once site Anybody begun begins = ([], refl)

pub with_at_once : (site : Site) (sender : Sender) (begun : List Event) (core : CoreState) → MayBegin site sender begun → core ≡ state_of site begun → IsWith site sender begun begun (following core None)
with_at_once site (Leader history) begun core begins state = record { there = begins.1; state = state; gathers = tt }
with_at_once site Anybody begun core begins state = record { there = ([], refl); may = begins; state = state }

-- the follower's next history, no shorter than the one before, and at least as long as the number that is acknowledged
pub record LedTo (site : Site) (sender : Sender) (begun older : List Event) (now : Following) (octets : List ℕ) (took : Took) (next : Following) : Type 0 where
  pub after : List Event
  pub there : MayReach sender begun after
  pub follows : IsWith site sender begun after next
  pub no_shorter : length older ≤ length after
  pub covers : All (λ (known : ℕ). known ≤ length after) (acknowledged_by took)
  pub on : LeadsOn now octets took next older after
  pub stands : Represents now.core older
  pub may : MayBe site older
  pub may_after : MayBe site after

module _ (site : Site) (is_site : IsSite site) (typed : FitsSite site) (one : OneSnapshot) (low : BoundsAreLow) where
  -- ---- of a leader

  by_leader : (history begun older : List Event) (now next : Following) (octets : List ℕ) (took : Took) → MayBe site history → steps.Follows site history older now → IsOffered site history octets → Takes now octets took next
      → LedTo site (Leader history) begun older now octets took next
  by_leader history begun older now next octets took may so offered takes =
      let led = led_by_packet site is_site typed one low history older now next octets took may so offered takes in
      record {
        after = led.by.next;
        there = led.by.follows.there;
        follows = led.by.follows;
        no_shorter = led.by.no_shorter;
        covers = led.by.covers;
        on = led.on;
        stands = represents site is_site typed one low history older now may so;
        may = may_be site is_site typed one low history older so.there may;
        may_after = may_be site is_site typed one low history led.by.next led.by.follows.there may;
      }

  -- ---- of anybody

  own_stands : (begun older : List Event) (now : Following) → IsOwn site begun older now → Represents now.core older
  own_stands begun older now so = subst (λ (s : CoreState). Represents s older) (sym so.state) (record { is_history = so.may.is_history; shows = refl })

  -- where the core stays as it is, so does the history
  own_stays : (begun older : List Event) (now next : Following) (octets : List ℕ) (took : Took) → IsOwn site begun older now → next.core ≡ now.core → All (λ (known : ℕ). known ≤ length older) (acknowledged_by took) → LeadsOn now octets took next older older
      → LedTo site Anybody begun older now octets took next
  own_stays begun older now next octets took so same covers on = record {
    after = older;
    there = so.there;
    follows = record { there = so.there; may = so.may; state = same ∙ so.state };
    no_shorter = omega arith;
    covers = covers;
    on = on;
    stands = own_stands begun older now so;
    may = so.may;
    may_after = so.may;
  }

  -- events that may come next make a history that the program can hold
  longer : (older fresh : List Event) → MayBe site older → AreAllowed (state_of site older) fresh → All FitsEvent fresh → length (reverse fresh ++ older) < 2 ^ 63 → MayBe site (reverse fresh ++ older)
  longer older fresh may allowed fit few =
      let over : Represents (state_over (state_of site older) fresh) (reverse fresh ++ older) = stands_over_events (state_of site older) older fresh is_site (record { is_history = may.is_history; shows = refl }) allowed in
      record {
        is_history = subst (λ (s : Site). IsHistory s (reverse fresh ++ older)) (over_site fresh (state_of site older)) over.is_history;
        fit = All-append FitsEvent (reverse fresh) older (All-reverse FitsEvent fresh fit) may.fit;
        few = few;
      }

  own_taken : (begun older : List Event) (now next : Following) (octets : List ℕ) (known before : ℕ) (events : List Event) → IsOwn site begun older now → BringsEvents site octets → SpellsRecords octets before events → TakesRecords now before events (Taken known) next
      → LedTo site Anybody begun older now octets (Taken known) next
  own_taken begun older now next octets known before events so brings spells (goes, known_is, (base, tried, allowed, next_is)) =
      let events_are : now.core.events ≡ length older = ap (λ (s : CoreState). s.events) so.state in
      let own : IsStateOf now.core.site now.core = subst (λ (s : CoreState). IsStateOf s.site s) (sym so.state) (own_state site is_site typed one low older so.may) in
      let base_is : base ≡ state_of site older = tried.own own ∙ so.state in
      let fresh : List Event = drop (now.core.events - before) events in
      let allowed_so : AreAllowed (state_of site older) fresh = subst (λ (s : CoreState). AreAllowed s fresh) base_is allowed in
      let after : List Event = reverse fresh ++ older in
      let long : length after ≡ before + length events = omega (arith, goes.0, goes.1, events_are, length-append (reverse fresh) older, length-reverse fresh, length-drop (now.core.events - before) events) in
      let fit : All FitsEvent fresh = All-drop FitsEvent (now.core.events - before) events (all_fit events spells.have) in
      let may_after : MayBe site after = longer older fresh so.may allowed_so fit (omega (arith, long, brings.few before events spells)) in
      let core_is : state_over base fresh ≡ state_of site after = ap (λ (s : CoreState). state_over s fresh) base_is ∙ over_events site is_site typed one low older fresh so.may allowed_so in
      record {
        after = after;
        there = goes_on older begun (reverse fresh) so.there;
        follows = record { there = goes_on older begun (reverse fresh) so.there; may = may_after; state = ap (λ (f : Following). f.core) next_is ∙ core_is };
        no_shorter = omega (arith, length-append (reverse fresh) older);
        covers = All-cons (λ (n : ℕ). n ≤ length after) known [] (omega (arith, known_is, long)) (All-nil (λ (n : ℕ). n ≤ length after));
        on = inl (record { first = before; events = events; packet = spells; longer = refl });
        stands = own_stands begun older now so;
        may = so.may;
        may_after = may_after;
      }

  own_records : (begun older : List Event) (now next : Following) (octets : List ℕ) (took : Took) (before : ℕ) (events : List Event) → IsOwn site begun older now → BringsEvents site octets → SpellsRecords octets before events → TakesRecords now before events took next
      → LedTo site Anybody begun older now octets took next
  own_records begun older now next octets (Gap known) before events so brings spells took =
      own_stays begun older now next octets (Gap known) so (ap (λ (f : Following). f.core) took.2) (All-nil (λ (n : ℕ). n ≤ length older)) refl
  own_records begun older now next octets (Repeat known) before events so brings spells took =
      let known_is : known ≡ length older = took.0 ∙ ap (λ (s : CoreState). s.events) so.state in
      own_stays begun older now next octets (Repeat known) so (ap (λ (f : Following). f.core) took.2) (All-cons (λ (n : ℕ). n ≤ length older) known [] (omega (arith, known_is)) (All-nil (λ (n : ℕ). n ≤ length older))) refl
  own_records begun older now next octets Malformed before events so brings spells took =
      own_stays begun older now next octets Malformed so (ap (λ (f : Following). f.core) took.2) (All-nil (λ (n : ℕ). n ≤ length older)) refl
  own_records begun older now next octets (Taken known) before events so brings spells took = own_taken begun older now next octets known before events so brings spells took
  own_records begun older now next octets (Part place) before events so brings spells took = absurd took

  by_own : (begun older : List Event) (now next : Following) (octets : List ℕ) (took : Took) → IsOwn site begun older now → BringsEvents site octets → Takes now octets took next → LedTo site Anybody begun older now octets took next
  by_own begun older now next octets took so brings (OfNoPacket none malformed same) =
      subst (λ (t : Took). LedTo site Anybody begun older now octets t next) (sym malformed)
      (own_stays begun older now next octets Malformed so (ap (λ (f : Following). f.core) same) (All-nil (λ (n : ℕ). n ≤ length older)) refl)
  by_own begun older now next octets took so brings (OfRecords before events spells takes) = own_records begun older now next octets took before events so brings spells takes
  by_own begun older now next octets took so brings (OfPiece piece spells takes) =
      let site_is : now.core.site ≡ site = ap (λ (s : CoreState). s.site) so.state in
      absurd (brings.no_piece piece (subst (λ (s : Site). SpellsPiece (snapshot_bound s) octets piece) site_is spells))

  -- ---- of each

  pub led_to : (sender : Sender) (begun older : List Event) (now next : Following) (octets : List ℕ) (took : Took) → MayBegin site sender begun → IsWith site sender begun older now → MaySend site sender octets → Takes now octets took next
      → LedTo site sender begun older now octets took next
  led_to (Leader history) begun older now next octets took begins so sends takes = by_leader history begun older now next octets took begins.0 so sends takes
  led_to Anybody begun older now next octets took begins so sends takes = by_own begun older now next octets took so sends takes
