-- What was opened leads to one state or is damaged, and damage is told by histories too.
use Rattle.std.proofs.Common.{◌≡◌, ℕ, ◌+◌, List, [], ◌∷◌, ◌++◌, All, length, take, drop, reverse, refl, ap, ◌∙◌, sym, subst, inl, inr, arith, append_assoc}
use Rattle.std.proofs.lemmas.List.{append-nil}
use Rattle.std.proofs.lemmas.List.Elements.{All-append, All-cons, All-nil, All-head, All-tail}
use Rattle.bac_values.specs.declared.value.Value.{Value}
use Rattle.bac_values.specs.declared.value.Value.TheVariants as values
use Rattle.object_table.specs.declared.change.What.{What}
use Rattle.object_table.specs.declared.change.What.TheVariants.{Property, FieldFault}
use Rattle.alarm_core.specs.Allowed.{IsHistory, Represents}
use Rattle.alarm_core.specs.Fits.{FitsAct, FitsEvent, FitsValue, FitsWhat}
use Rattle.alarm_core.specs.Following.{AreAllowed, MayFollow, state_over}
use Rattle.alarm_core.specs.Sites.{IsSite}
use Rattle.alarm_core.specs.State.{CoreState, state_of}
use Rattle.alarm_core.specs.declared.event.Act.{Act}
use Rattle.alarm_core.specs.declared.event.Act.TheVariants.{Tick, Write, Ack, Pump, Answer, Edit}
use Rattle.alarm_core.specs.declared.event.Event.{Event}
use Rattle.alarm_core.specs.declared.site.Site.{Site}
use Rattle.alarm_core.proofs.Following.{represents_next, stands_over_events}
use Rattle.alarm_core.proofs.Standing.{stands}
use Rattle.alarm_journal.specs.Journal.{Content}
use Rattle.alarm_journal.specs.Opened.{content_in, pieces, sum_of}
use Rattle.alarm_journal.specs.declared.opened.Opened.{Opened}
use Rattle.state_codec.specs.Contents.{IsSnapshotAfter, SpellEvents, SpellsEvents, StandsForHistory}
use Rattle.state_codec.specs.Damage.{BodiesLeadTo, ContentLeadsTo, IsDamagedAt, IsDamagedBehind, IsDamagedIn, IsDamagedSnapshot, Tells}
use Rattle.state_codec.specs.Laws.{DamageByHistories, LeadsOnce, OneSnapshot}
use Rattle.state_codec.specs.Records.{HasRecord, IsRecorded, IsRecordedAct, IsRecordedWhat}
use Rattle.state_codec.specs.Spelled.{SpellsState}
use Rattle.state_codec.proofs.Following.{lead_on, over-append}
use Rattle.state_codec.proofs.Recovered.{allowed_behind, allowed_front, follows_older, may_follow_so, not_damaged, older_is_history, one_order, over_site}
use Rattle.state_codec.proofs.Works.{All-reverse}

-- ---- one state, or damage

module _ (law : OneSnapshot) (site : Site) (is_site : IsSite site) where
  -- a snapshot tells one state
  tells_one : (octets : List ℕ) (x y : CoreState) → Tells site octets x → Tells site octets y → x ≡ y
  tells_one [] x y first second = first ∙ sym second
  tells_one (octet ∷ octets) x y first second = law.state site (octet ∷ octets) x y is_site first second

  one_lead : (content : Content) (x y : CoreState) → ContentLeadsTo site content x → ContentLeadsTo site content y → x ≡ y
  one_lead content x y first second =
      let begun : first.begun ≡ second.begun = tells_one content.snapshot first.begun second.begun first.tells second.tells in
      let same : first.lead.events ≡ second.lead.events = one_order content.bodies first.lead.events second.lead.events first.lead.spell second.lead.spell in
      first.lead.reached ∙ (ap (λ (s : CoreState). state_over s first.lead.events) begun ∙ (ap (λ (l : List Event). state_over second.begun l) same ∙ sym second.lead.reached))

  -- a snapshot that tells a state is that of one
  no_snapshot : (opened : Opened) (state : CoreState) (at : ℕ) → Tells site opened.snapshot state → IsDamagedSnapshot site opened at → ⊥
  no_snapshot opened state at tells damaged = by opened.snapshot refl tells
    where
      by : (octets : List ℕ) → opened.snapshot ≡ octets → Tells site octets state → ⊥
      by [] e first = absurd (omega (arith, damaged.some, ap (λ (l : List ℕ). length l) e))
      by (octet ∷ octets) e spells = damaged.none state (subst (λ (l : List ℕ). SpellsState site l state) (sym e) spells)

  never_both : (opened : Opened) (state : CoreState) (at : ℕ) → ContentLeadsTo site (content_in opened) state → IsDamagedAt site opened at → ⊥
  never_both opened state at leads (inl damaged) = no_snapshot opened leads.begun at leads.tells damaged
  never_both opened state at leads (inr (begun, tells, damaged)) =
      let same : leads.begun ≡ begun = tells_one opened.snapshot leads.begun begun leads.tells tells in
      not_damaged begun opened.bodies opened.batches at leads.lead.events leads.lead.spell (subst (λ (s : CoreState). AreAllowed s leads.lead.events) same leads.lead.follow) damaged

pub leads_once : OneSnapshot → LeadsOnce
leads_once law = record {
  state = λ site content x y is first second. one_lead law site is content x y first second;
  never_both = λ site opened state at is leads damaged. never_both law site is opened state at leads damaged;
}

-- ---- what has a record fits its types

value_fits : (value : Value) → IsRecorded value → FitsValue value
value_fits (values.Bool flag) is = tt
value_fits (values.Unsigned number) is = is
value_fits (values.Signed number) is = is
value_fits (values.Text text) is = is.0
value_fits (values.Bits string) is = is.0
value_fits (values.Enumerated number) is = tt
value_fits values.Null is = absurd is
value_fits (values.Object object) is = absurd is
value_fits (values.DateTime stamp) is = absurd is
value_fits (values.Opaque tag why) is = absurd is

what_fits : (what : What) → IsRecordedWhat what → FitsWhat what
what_fits (Property property value) is = value_fits value is.1
what_fits (FieldFault reliability) is = tt

act_fits : (act : Act) → IsRecordedAct act → FitsAct act
act_fits Tick is = tt
act_fits (Write change) is = what_fits change.what is.1
act_fits (Ack object transition state) is = tt
act_fits Pump is = tt
act_fits (Answer peer invoke kind) is = tt
act_fits (Edit number recipients) is = tt

pub all_fit : (events : List Event) → All HasRecord events → All FitsEvent events
all_fit [] have = All-nil FitsEvent
all_fit (event ∷ events) have = All-cons FitsEvent event events (act_fits event.act (All-head HasRecord event events have).act) (all_fit events (All-tail HasRecord event events have))

-- the events of bodies have records
have_records : (bodies : List (List ℕ)) (events : List Event) → SpellEvents bodies events → All HasRecord events
have_records [] events none = subst (λ (l : List Event). All HasRecord l) (sym none) (All-nil HasRecord)
have_records (body ∷ bodies) events (first, later, is, spells, others) = subst (λ (l : List Event). All HasRecord l) (sym is) (All-append HasRecord first later spells.have (have_records bodies later others))

-- those of the last body are the last ones
record Parted (bodies : List (List ℕ)) (body : List ℕ) (events : List Event) : Type 0 where
  pub first : List Event
  pub last : List Event
  pub events_are : events ≡ first ++ last
  pub before : SpellEvents bodies first
  pub spells : SpellsEvents body last

parted : (bodies : List (List ℕ)) (body : List ℕ) (events : List Event) → SpellEvents (bodies ++ body ∷ []) events → Parted bodies body events
parted [] body events (here, later, is, spells, none) =
    record { first = []; last = here; events_are = is ∙ (ap (λ (l : List Event). here ++ l) none ∙ append-nil here); before = refl; spells = spells }
parted (other ∷ bodies) body events (its, later, is, spells, others) =
    let so = parted bodies body later others in
    record {
      first = its ++ so.first;
      last = so.last;
      events_are = is ∙ (ap (λ (l : List Event). its ++ l) so.events_are ∙ sym (append_assoc its so.first so.last));
      before = (its, so.first, refl, spells, so.before);
      spells = so.spells;
    }

-- ---- damage by histories

module _ (law : OneSnapshot) (site : Site) (is_site : IsSite site) where
  -- the state after a history is the one that its snapshot tells
  tells_after : (older : List Event) (octets : List ℕ) → IsSnapshotAfter site older octets → Tells site octets (state_of site older)
  tells_after older [] none = ap (λ (h : List Event). state_of site h) none ∙ sym (stands.starts site)
  tells_after older (octet ∷ octets) spells = spells

  -- an event that may come next in a history may follow its state, and the other way round
  may_follow : (history : List Event) (event : Event) → IsHistory site (event ∷ history) → MayFollow event (state_of site history)
  may_follow history event is = (follows_older site history (event ∷ []) is_site is).0

  comes_next : (history : List Event) (event : Event) → IsHistory site history → MayFollow event (state_of site history) → IsHistory site (event ∷ history)
  comes_next history event is may = (represents_next (state_of site history) event history is_site (record { is_history = is; shows = refl }) may).is_history

  by_histories : (opened : Opened) (older : List Event) (at : ℕ) → IsHistory site older → All FitsEvent older → IsSnapshotAfter site older opened.snapshot → IsDamagedAt site opened at
      → (history : List Event) × IsDamagedBehind site opened history at
  by_histories opened older at is fit after (inl damaged) = absurd (no_snapshot law site is_site opened (state_of site older) at (tells_after older opened.snapshot after) damaged)
  by_histories opened older at is fit after (inr (state, tells, damaged)) = (
    history,
    record {
      before = damaged.before;
      body = damaged.body;
      behind = damaged.behind;
      bodies_are = damaged.bodies_are;
      front = here.front;
      rest = here.rest;
      octets = here.octets;
      stands = record {
        is_history = is_history;
        fit = All-append FitsEvent (reverse lead.events) older (All-reverse FitsEvent lead.events (all_fit lead.events (have_records bodies lead.events lead.spell))) fit;
        older = older;
        later = lead.events;
        together = refl;
        snapshot = after;
        records = lead.spell;
      };
      some = here.some;
      none = λ event first more e spells comes. here.none event first more e spells (subst (λ (s : CoreState). MayFollow event s) (sym reached) (may_follow history event comes));
      place = damaged.place ∙ ap (λ (n : ℕ). damaged.body.place + n) here.place;
    },
  )
    where
      here : IsDamagedIn damaged.reached (take damaged.body.length (drop (sum_of damaged.before) opened.batches)) damaged.offset
      here = damaged.damaged

      bodies : List (List ℕ)
      bodies = pieces damaged.before opened.batches ++ here.front ∷ []

      lead : BodiesLeadTo state bodies here.reached
      lead = lead_on state damaged.reached here.reached (pieces damaged.before opened.batches) here.front damaged.lead here.leads

      history : List Event
      history = reverse lead.events ++ older

      begun : state ≡ state_of site older
      begun = tells_one law site is_site opened.snapshot state (state_of site older) tells (tells_after older opened.snapshot after)

      over : Represents (state_over (state_of site older) lead.events) history
      over = stands_over_events (state_of site older) older lead.events is_site (record { is_history = is; shows = refl }) (subst (λ (s : CoreState). AreAllowed s lead.events) begun lead.follow)

      same_site : (state_over (state_of site older) lead.events).site ≡ site
      same_site = over_site lead.events (state_of site older)

      is_history : IsHistory site history
      is_history = subst (λ (s : Site). IsHistory s history) same_site over.is_history

      reached : here.reached ≡ state_of site history
      reached = lead.reached ∙ (ap (λ (s : CoreState). state_over s lead.events) begun ∙ (over.shows ∙ ap (λ (s : Site). state_of s history) same_site))

  by_states : (opened : Opened) (history : List Event) (at : ℕ) → IsDamagedBehind site opened history at → IsDamagedAt site opened at
  by_states opened history at damaged = inr (
    begun,
    tells_after stood.older opened.snapshot stood.snapshot,
    record {
      before = damaged.before;
      body = damaged.body;
      behind = damaged.behind;
      bodies_are = damaged.bodies_are;
      reached = state_over begun so.first;
      lead = record { events = so.first; spell = so.before; follow = allowed_front so.first so.last begun allowed; reached = refl };
      offset = length damaged.front;
      damaged = record {
        front = damaged.front;
        rest = damaged.rest;
        octets = damaged.octets;
        reached = state_over (state_over begun so.first) so.last;
        leads = record { events = so.last; spells = so.spells; follow = allowed_behind so.first so.last begun allowed; reached = refl };
        some = damaged.some;
        none = λ event first more e spells may. damaged.none event first more e spells (comes_next history event stood.is_history (subst (λ (s : CoreState). MayFollow event s) reached may));
        place = refl;
      };
      place = damaged.place;
    },
  )
    where
      front : Content
      front = record { snapshot = opened.snapshot; bodies = pieces damaged.before opened.batches ++ damaged.front ∷ [] }

      stood : StandsForHistory site front history
      stood = damaged.stands

      begun : CoreState
      begun = state_of site stood.older

      so : Parted (pieces damaged.before opened.batches) damaged.front stood.later
      so = parted (pieces damaged.before opened.batches) damaged.front stood.later stood.records

      follow : AreAllowed begun stood.later
      follow = may_follow_so site front history is_site stood

      allowed : AreAllowed begun (so.first ++ so.last)
      allowed = subst (λ (l : List Event). AreAllowed begun l) so.events_are follow

      together : IsHistory site (reverse stood.later ++ stood.older)
      together = subst (λ (h : List Event). IsHistory site h) stood.together stood.is_history

      over : Represents (state_over begun stood.later) (reverse stood.later ++ stood.older)
      over = stands_over_events begun stood.older stood.later is_site (record { is_history = older_is_history site (reverse stood.later) stood.older together; shows = refl }) follow

      reached : state_over (state_over begun so.first) so.last ≡ state_of site history
      reached =
          sym (over-append so.first so.last begun)
          ∙ (ap (λ (l : List Event). state_over begun l) (sym so.events_are)
          ∙ (over.shows ∙ (ap (λ (s : Site). state_of s (reverse stood.later ++ stood.older)) (over_site stood.later begun) ∙ ap (λ (h : List Event). state_of site h) (sym stood.together))))

pub damage_by_histories : OneSnapshot → DamageByHistories
damage_by_histories law site opened older at is_site is fit after =
    (λ damaged. by_histories law site is_site opened older at is fit after damaged, λ (history, damaged). by_states law site is_site opened history at damaged)
