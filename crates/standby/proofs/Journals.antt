-- What is so of a leader of what was opened: the bodies are one row of records, and lead on from the state that the snapshot tells.
use Rattle.std.proofs.Common.{◌≡◌, ℕ, zero, suc, get_or, ◌+◌, ◌-◌, ◌^◌, ◌<◌, ◌≤◌, List, [], ◌∷◌, ◌++◌, All, length, take, drop, min, refl, ap, ◌∙◌, sym, subst, arith}
use Rattle.std.specs.List.{flat_map}
use Rattle.std.proofs.lemmas.List.{take_min}
use Rattle.std.proofs.lemmas.List.Elements.{All-append, All-head, All-nil}
use Rattle.std.proofs.lemmas.Grind.{flat_map-append}
use Rattle.alarm_core.specs.declared.event.Event.{Event}
use Rattle.alarm_core.specs.declared.site.Site.{Site}
use Rattle.alarm_core.specs.CoreSteps.{next_state}
use Rattle.alarm_core.specs.Following.{state_over}
use Rattle.alarm_core.specs.Sites.{IsSite}
use Rattle.alarm_core.specs.State.{CoreState, state_of}
use Rattle.alarm_journal.specs.Journal.{Content, batches_of}
use Rattle.alarm_journal.specs.Opened.{content_in, pieces, sum_of}
use Rattle.alarm_journal.specs.declared.body.Body.{Body}
use Rattle.alarm_journal.specs.declared.opened.Opened.{Opened}
use Rattle.state_codec.specs.Contents.{SpellEvents, SpellsEvents, StandsForHistory, records_of}
use Rattle.state_codec.specs.Damage.{ContentLeadsTo, Tells}
use Rattle.state_codec.specs.Laws.{BoundsAreLow, OneSnapshot, SnapshotsAreShort}
use Rattle.state_codec.specs.Records.{HasRecord, written_event}
use Rattle.state_codec.specs.Spelled.{SpellsState}
use Rattle.state_codec.proofs.Recovered.{begins_with, begun_so, one_list}
use Rattle.standby.specs.Offers.{AreEnds, IsCutAt, ends_from}
use Rattle.standby.proofs.Endings.{as_many, take_both}

-- ---- bodies, one behind the other

-- they are the first of the octets in which they stand
pieces_are : (bodies : List Body) (octets : List ℕ) → flat_map (λ (body : List ℕ). body) (pieces bodies octets) ≡ take (sum_of bodies) octets
pieces_are [] octets = refl
pieces_are (body ∷ bodies) octets = ap (λ (l : List ℕ). take body.length octets ++ l) (pieces_are bodies (drop body.length octets)) ∙ take_both body.length (sum_of bodies) octets

-- with one more body they are longer by it
pub sum_more : (bodies : List Body) (index : ℕ) (none : Body) → index < length bodies → sum_of (take (suc index) bodies) ≡ sum_of (take index bodies) + (get_or bodies index none).length
sum_more [] index none low = absurd (omega (arith, low))
sum_more (body ∷ bodies) zero none low = omega arith
sum_more (body ∷ bodies) (suc index) none low = omega (arith, sum_more bodies index none (omega (arith, low)))

-- of which no more are taken than there are
pub batches_are : (opened : Opened) (many : ℕ) → many ≡ min (sum_of opened.bodies) (length opened.batches) → take many opened.batches ≡ batches_of (content_in opened)
batches_are opened many is = ap (λ (n : ℕ). take n opened.batches) is ∙ (take_min (sum_of opened.bodies) opened.batches ∙ sym (pieces_are opened.bodies opened.batches))

-- where each body is the records of events, they are one row of records
pub one_row : (bodies : List (List ℕ)) (events : List Event) → SpellEvents bodies events → SpellsEvents (flat_map (λ (body : List ℕ). body) bodies) events
one_row [] events none = subst (λ (l : List Event). SpellsEvents [] l) (sym none) (record { octets_are = refl; have = All-nil HasRecord })
one_row (body ∷ bodies) events (first, later, is, spells, others) =
    let behind = one_row bodies later others in
    record {
      octets_are = ap (λ (l : List ℕ). l ++ flat_map (λ (b : List ℕ). b) bodies) spells.octets_are
          ∙ (ap (λ (l : List ℕ). records_of first ++ l) behind.octets_are ∙ (sym (flat_map-append written_event first later) ∙ ap (λ (l : List Event). records_of l) (sym is)));
      have = subst (λ (l : List Event). All HasRecord l) (sym is) (All-append HasRecord first later spells.have behind.have);
    }

-- a row of records is cut nowhere
pub not_cut : (octets : List ℕ) (events : List Event) (at : ℕ) → SpellsEvents octets events → IsCutAt octets at → ⊥
not_cut octets events at spells cut =
    let so = begins_with cut.events events cut.rest cut.spells.have spells.have (ap (λ (l : List ℕ). l ++ cut.rest) (sym cut.spells.octets_are) ∙ (sym cut.octets_are ∙ spells.octets_are)) in
    by so.more so.have so.rest_is
  where
    by : (more : List Event) → All HasRecord more → cut.rest ≡ records_of more → ⊥
    by [] have is = omega (arith, cut.some, ap (λ (l : List ℕ). length l) is)
    by (event ∷ more) have is = cut.none event (written_event event) (records_of more) is (refl, All-head HasRecord event more have)

-- ---- the events

-- each of them is one more
counted : (state : CoreState) (events : List Event) → (state_over state events).events ≡ state.events + length events
counted state [] = omega arith
counted state (event ∷ later) = omega (arith, counted (next_state event state) later)

-- where there is no snapshot there was no event
none_told : (site : Site) (snapshot : List ℕ) (state : CoreState) → Tells site snapshot state → snapshot ≡ [] → state.events ≡ 0
none_told site [] state tells none = ap (λ (s : CoreState). s.events) tells
none_told site (octet ∷ snapshot) state tells none = absurd (omega (arith, ap (λ (l : List ℕ). length l) none))

-- a snapshot is short
short_told : (site : Site) (snapshot : List ℕ) (state : CoreState) → SnapshotsAreShort → BoundsAreLow → IsSite site → Tells site snapshot state → length snapshot < 2 ^ 32
short_told site [] state short low is_site tells = omega arith
short_told site (octet ∷ snapshot) state short low is_site tells =
    omega (arith, ap (λ (l : List ℕ). length l) tells.octets_are, short.most site state tells.own tells.fits, low.snapshot site is_site)

module _ (opened : Opened) (core : CoreState) (lead : ContentLeadsTo core.site (content_in opened) core) (records ends : List ℕ) (records_are : records ≡ batches_of (content_in opened)) where
  pub spelled : SpellsEvents records lead.lead.events
  spelled = subst (λ (l : List ℕ). SpellsEvents l lead.lead.events) (sym records_are) (one_row (content_in opened).bodies lead.lead.events lead.lead.spell)

  pub whole_records : (at : ℕ) → IsCutAt records at → ⊥
  whole_records at cut = not_cut records lead.lead.events at spelled cut

  -- those of the snapshot and those of the records are all
  pub events_are : AreEnds records ends → lead.begun.events + length ends ≡ core.events
  events_are so =
      omega (
        arith,
        as_many records ends so,
        ap (λ (l : List Event). length l) (one_list records so.events lead.lead.events so.spells spelled),
        counted lead.begun lead.lead.events,
        ap (λ (s : CoreState). s.events) lead.lead.reached,
      )

  pub begun_is : AreEnds records ends → core.events - length ends ≡ lead.begun.events
  begun_is so = omega (arith, events_are so)

  pub none_before : AreEnds records ends → opened.snapshot ≡ [] → core.events - length ends ≡ 0
  none_before so none = omega (arith, events_are so, none_told core.site opened.snapshot lead.begun lead.tells none)

  pub short_snapshot : SnapshotsAreShort → BoundsAreLow → IsSite core.site → length opened.snapshot < 2 ^ 32
  short_snapshot short low is_site = short_told core.site opened.snapshot lead.begun short low is_site lead.tells

  -- a history for which all of it stands has the events of the snapshot, and behind them those of the records
  pub older_are : (history : List Event) → OneSnapshot → SnapshotsAreShort → IsSite core.site → AreEnds records ends → (stood : StandsForHistory core.site (content_in opened) history) → core.events - length ends ≡ length stood.older
  older_are history one short is_site so stood =
      begun_is so ∙ ap (λ (s : CoreState). s.events) (begun_so core.site (content_in opened) history lead.begun stood (λ other spells. told opened.snapshot lead.begun other lead.tells spells) lead.tells)
    where
      told : (snapshot : List ℕ) (state other : CoreState) → Tells core.site snapshot state → SpellsState core.site snapshot other → state ≡ other
      told [] state other tells spells = absurd (omega (arith, short.some other, ap (λ (l : List ℕ). length l) spells.octets_are))
      told (octet ∷ snapshot) state other tells spells = one.state core.site (octet ∷ snapshot) state other is_site tells spells

  pub later_are : (history : List Event) → (stood : StandsForHistory core.site (content_in opened) history) → SpellsEvents records stood.later
  later_are history stood = subst (λ (l : List ℕ). SpellsEvents l stood.later) (sym records_are) (one_row (content_in opened).bodies stood.later stood.records)
