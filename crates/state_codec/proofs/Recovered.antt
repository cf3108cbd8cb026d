-- A journal that holds a history of its site is followed to its end, and the state reached is the one that the history leaves.
use Rattle.std.proofs.Common.{◌≡◌, ℕ, ◌+◌, ◌≤◌, List, [], ◌∷◌, ◌++◌, ◌&&◌, nat_lt, Bool, true, false, if◌then◌else◌, length, take, drop, reverse, All, refl, ap, ◌∙◌, sym, subst, arith, append_assoc, Ok, Err}
use Rattle.std.specs.Int.{w64, to_be_bytes}
use Rattle.std.proofs.lemmas.List.{append-nil, append_cancel_left, drop-drop, length-append, reverse-append}
use Rattle.std.proofs.lemmas.List.Elements.{All-head, All-tail}
use Rattle.alarm_core.specs.declared.event.Event.{Event}
use Rattle.alarm_core.specs.declared.event.StepFault.TheVariants.{Full}
use Rattle.alarm_core.specs.declared.site.Site.{Site}
use Rattle.alarm_core.specs.Allowed.{Comes, IsHistory, Represents}
use Rattle.alarm_core.specs.CoreSteps.{next_notes, next_state}
use Rattle.alarm_core.specs.Deliveries.{outbox_after}
use Rattle.alarm_core.specs.Following.{AreAllowed, MayFollow, state_over}
use Rattle.alarm_core.specs.Sites.{IsSite}
use Rattle.alarm_core.specs.State.{CoreState, state_of}
use Rattle.alarm_core.specs.Verdicts.{queue_verdict}
use Rattle.alarm_core.proofs.Counting.{counts_the_longer_history}
use Rattle.alarm_core.proofs.Following.{stands_over_events}
use Rattle.alarm_core.proofs.Standing.{stands}
use Rattle.outbox.specs.Outboxes.{OutboxState, unfinished_in}
use Rattle.bac_values.specs.declared.note.Note.{Note}
use Rattle.alarm_journal.specs.Journal.{Content}
use Rattle.alarm_journal.specs.Opened.{content_in, pieces, sum_of}
use Rattle.alarm_journal.specs.declared.body.Body.{Body}
use Rattle.alarm_journal.specs.declared.opened.Opened.{Opened}
use Rattle.state_codec.specs.Contents.{IsSnapshotAfter, SpellEvents, SpellsEvents, StandsForHistory, records_of}
use Rattle.state_codec.specs.Damage.{BodiesLeadTo, IsDamagedIn, IsDamagedRecord, IsDamagedSnapshot, Tells}
use Rattle.state_codec.specs.Records.{HasRecord, written_act, written_event}
use Rattle.state_codec.specs.Spelled.{SpellsState}
use Rattle.state_codec.proofs.EventLaws.{one_spelling}

-- ---- a history's later events may follow

pub older_is_history : (site : Site) (newer older : List Event) → IsHistory site (newer ++ older) → IsHistory site older
older_is_history site [] older is = is
older_is_history site (event ∷ newer) older is = older_is_history site newer older is.4

-- a verdict that is no refusal as full is a good one
not_full : (notes : List Note) (outbox : OutboxState) → ((would limit : ℕ) → queue_verdict notes outbox ≡ Err (Full would limit) → ⊥) → queue_verdict notes outbox ≡ Ok tt
not_full notes outbox never = by (nat_lt 0 (length notes) && nat_lt outbox.limit (unfinished_in outbox.posts + length notes)) refl
  where
    by : (more : Bool) → (nat_lt 0 (length notes) && nat_lt outbox.limit (unfinished_in outbox.posts + length notes)) ≡ more → queue_verdict notes outbox ≡ Ok tt
    by true e = absurd (never (unfinished_in outbox.posts + length notes) outbox.limit (ap (λ (b : Bool). if b then Err (Full (unfinished_in outbox.posts + length notes) outbox.limit) else Ok tt) e))
    by false e = ap (λ (b : Bool). if b then Err (Full (unfinished_in outbox.posts + length notes) outbox.limit) else Ok tt) e

-- the next event of a history may follow the state of those before it
may_come : (site : Site) (event : Event) (older : List Event) → IsSite site → IsHistory site (event ∷ older) → MayFollow event (state_of site older)
may_come site event older is_site is =
    let comes : Comes site event older = record { is_site = is_site; is_history = is.4; not_before = is.0 } in
    record {
      not_before = is.0;
      moment = is.1;
      allowed = is.2;
      fits = not_full (next_notes event (state_of site older)) (outbox_after site older) (λ would limit e.
          let full = (counts_the_longer_history.full site event older comes would limit).0 e in
          omega (arith, full.0, full.1, full.2, is.3));
    }

pub follows_older : (site : Site) (older later : List Event) → IsSite site → IsHistory site (reverse later ++ older) → AreAllowed (state_of site older) later
follows_older site older [] is_site is = tt
follows_older site older (event ∷ later) is_site is =
    let order : reverse (event ∷ later) ++ older ≡ reverse later ++ (event ∷ older) = ap (λ (l : List Event). l ++ older) (reverse-append (event ∷ []) later) ∙ append_assoc (reverse later) (event ∷ []) older in
    let whole : IsHistory site (reverse later ++ (event ∷ older)) = subst (λ (h : List Event). IsHistory site h) order is in
    let next : IsHistory site (event ∷ older) = older_is_history site (reverse later) (event ∷ older) whole in
    let comes : Comes site event older = record { is_site = is_site; is_history = next.4; not_before = next.0 } in
    let state : next_state event (state_of site older) ≡ state_of site (event ∷ older) = stands.state site event older comes in
    (may_come site event older is_site next, subst (λ (s : CoreState). AreAllowed s later) (sym state) (follows_older site (event ∷ older) later is_site whole))

-- ---- records of events are those of no others

record_is_some : (event : Event) → 8 ≤ length (written_event event)
record_is_some event = omega (arith, length-append (to_be_bytes w64 event.moment) (written_act event.act))

-- Octets that begin with the records of some events, and are those of others: these begin with the same events, and what is behind is the records of the rest.
pub record Begins (first whole : List Event) (rest : List ℕ) : Type 0 where
  pub more : List Event
  pub whole_is : whole ≡ first ++ more
  pub rest_is : rest ≡ records_of more
  pub have : All HasRecord more

pub begins_with : (first whole : List Event) (rest : List ℕ) → All HasRecord first → All HasRecord whole → records_of first ++ rest ≡ records_of whole → Begins first whole rest
begins_with [] whole rest have_first have e = record { more = whole; whole_is = refl; rest_is = e; have = have }
begins_with (event ∷ first) [] rest have_first have e =
    absurd (omega (arith, record_is_some event, ap (λ (l : List ℕ). length l) e, length-append (written_event event ++ records_of first) rest, length-append (written_event event) (records_of first)))
begins_with (event ∷ first) (other ∷ whole) rest have_first have e =
    let whole_e : written_event event ++ (records_of first ++ rest) ≡ written_event other ++ records_of whole = sym (append_assoc (written_event event) (records_of first) rest) ∙ e in
    let one = one_spelling (written_event event) (written_event other) (records_of first ++ rest) (records_of whole) event other (refl, All-head HasRecord event first have_first) (refl, All-head HasRecord other whole have) whole_e in
    let behind : records_of first ++ rest ≡ records_of whole = append_cancel_left (written_event other) (records_of first ++ rest) (records_of whole) (ap (λ (l : List ℕ). l ++ (records_of first ++ rest)) (sym one.0) ∙ whole_e) in
    let so = begins_with first whole rest (All-tail HasRecord event first have_first) (All-tail HasRecord other whole have) behind in
    record { more = so.more; whole_is = ap (λ (x : Event). x ∷ whole) (sym one.1) ∙ ap (λ (l : List Event). event ∷ l) so.whole_is; rest_is = so.rest_is; have = so.have }

records_are_some : (events : List Event) → records_of events ≡ [] → events ≡ []
records_are_some [] e = refl
records_are_some (event ∷ events) e = absurd (omega (arith, record_is_some event, ap (λ (l : List ℕ). length l) e, length-append (written_event event) (records_of events)))

-- octets are the records of one list of events
pub one_list : (octets : List ℕ) (first second : List Event) → SpellsEvents octets first → SpellsEvents octets second → first ≡ second
one_list octets first second one two =
    let so = begins_with first second [] one.have two.have (append-nil (records_of first) ∙ (sym one.octets_are ∙ two.octets_are)) in
    let none : so.more ≡ [] = records_are_some so.more (sym so.rest_is) in
    sym (so.whole_is ∙ (ap (λ (l : List Event). first ++ l) none ∙ append-nil first))

pub one_order : (bodies : List (List ℕ)) (first second : List Event) → SpellEvents bodies first → SpellEvents bodies second → first ≡ second
one_order [] first second one two = one ∙ sym two
one_order (body ∷ bodies) first second (first_here, first_later, first_is, first_spells, first_others) (second_here, second_later, second_is, second_spells, second_others) =
    let here : first_here ≡ second_here = one_list body first_here second_here first_spells second_spells in
    let later : first_later ≡ second_later = one_order bodies first_later second_later first_others second_others in
    first_is ∙ (ap (λ (l : List Event). l ++ first_later) here ∙ (ap (λ (l : List Event). second_here ++ l) later ∙ sym second_is))

-- the events of one body among others
pub record Among (before : List (List ℕ)) (body : List ℕ) (events : List Event) : Type 0 where
  pub first : List Event
  pub here : List Event
  pub later : List Event
  pub events_are : events ≡ first ++ (here ++ later)
  pub before_them : SpellEvents before first
  pub spells : SpellsEvents body here

pub among : (before : List (List ℕ)) (body : List ℕ) (behind : List (List ℕ)) (events : List Event) → SpellEvents (before ++ body ∷ behind) events → Among before body events
among [] body behind events (here, later, is, spells, others) = record { first = []; here = here; later = later; events_are = is; before_them = refl; spells = spells }
among (other ∷ before) body behind events (its, later, is, spells, others) =
    let so = among before body behind later others in
    record {
      first = its ++ so.first;
      here = so.here;
      later = so.later;
      events_are = is ∙ (ap (λ (l : List Event). its ++ l) so.events_are ∙ sym (append_assoc its so.first (so.here ++ so.later)));
      before_them = (its, so.first, refl, spells, so.before_them);
      spells = so.spells;
    }

-- the pieces of some bodies, one of them by itself
pub pieces_among : (before : List Body) (body : Body) (behind : List Body) (octets : List ℕ) → (rest : List (List ℕ)) × (pieces (before ++ body ∷ behind) octets ≡ pieces before octets ++ take body.length (drop (sum_of before) octets) ∷ rest)
pieces_among [] body behind octets = (pieces behind (drop body.length octets), refl)
pieces_among (first ∷ before) body behind octets =
    let (rest, e) = pieces_among before body behind (drop first.length octets) in
    (rest, ap (λ (ps : List (List ℕ)). take first.length octets ∷ ps) e ∙ ap (λ (l : List ℕ). take first.length octets ∷ (pieces before (drop first.length octets) ++ take body.length l ∷ rest)) (drop-drop (sum_of before) first.length octets))

-- ---- what follows in order

pub allowed_behind : (first later : List Event) (state : CoreState) → AreAllowed state (first ++ later) → AreAllowed (state_over state first) later
allowed_behind [] later state are = are
allowed_behind (event ∷ first) later state are = allowed_behind first later (next_state event state) are.1

pub allowed_front : (first later : List Event) (state : CoreState) → AreAllowed state (first ++ later) → AreAllowed state first
allowed_front [] later state are = tt
allowed_front (event ∷ first) later state are = (are.0, allowed_front first later (next_state event state) are.1)

-- in a body whose events may follow nothing is damaged
pub not_damaged_in : (state : CoreState) (body : List ℕ) (offset : ℕ) (events : List Event) → SpellsEvents body events → AreAllowed state events → IsDamagedIn state body offset → ⊥
not_damaged_in state body offset events spells may damaged =
    let leads = damaged.leads in
    let e : records_of leads.events ++ damaged.rest ≡ records_of events = ap (λ (l : List ℕ). l ++ damaged.rest) (sym leads.spells.octets_are) ∙ (sym damaged.octets ∙ spells.octets_are) in
    let so = begins_with leads.events events damaged.rest leads.spells.have spells.have e in
    let left : AreAllowed damaged.reached so.more = subst (λ (s : CoreState). AreAllowed s so.more) (sym leads.reached) (allowed_behind leads.events so.more state (subst (λ (l : List Event). AreAllowed state l) so.whole_is may)) in
    by so.more so.rest_is so.have left
  where
    by : (more : List Event) → damaged.rest ≡ records_of more → All HasRecord more → AreAllowed damaged.reached more → ⊥
    by [] is have may = absurd (omega (arith, damaged.some, ap (λ (l : List ℕ). length l) is))
    by (event ∷ more) is have may = damaged.none event (written_event event) (records_of more) is (refl, All-head HasRecord event more have) may.0

-- in bodies whose events may follow nothing is damaged
pub not_damaged : (state : CoreState) (bodies : List Body) (octets : List ℕ) (at : ℕ) (events : List Event) → SpellEvents (pieces bodies octets) events → AreAllowed state events → IsDamagedRecord state bodies octets at → ⊥
not_damaged state bodies octets at events spell may damaged =
    let body : List ℕ = take damaged.body.length (drop (sum_of damaged.before) octets) in
    let (rest, e) = pieces_among damaged.before damaged.body damaged.behind octets in
    let spell_so : SpellEvents (pieces damaged.before octets ++ body ∷ rest) events = subst (λ (ps : List (List ℕ)). SpellEvents ps events) (ap (λ (bs : List Body). pieces bs octets) damaged.bodies_are ∙ e) spell in
    let so = among (pieces damaged.before octets) body rest events spell_so in
    let same : damaged.lead.events ≡ so.first = one_order (pieces damaged.before octets) damaged.lead.events so.first damaged.lead.spell so.before_them in
    let whole : AreAllowed state (so.first ++ (so.here ++ so.later)) = subst (λ (l : List Event). AreAllowed state l) so.events_are may in
    let reached : damaged.reached ≡ state_over state so.first = damaged.lead.reached ∙ ap (λ (l : List Event). state_over state l) same in
    let here : AreAllowed (state_over state so.first) so.here = allowed_front so.here so.later (state_over state so.first) (allowed_behind so.first (so.here ++ so.later) state whole) in
    not_damaged_in damaged.reached body damaged.offset so.here so.spells (subst (λ (s : CoreState). AreAllowed s so.here) (sym reached) here) damaged.damaged

-- ---- all that a journal holds

-- a snapshot tells one state
one_state : (site : Site) (octets : List ℕ) (state : CoreState) (older : List Event) → ((other : CoreState) → SpellsState site octets other → state ≡ other) → IsSnapshotAfter site older octets → Tells site octets state → state ≡ state_of site older
one_state site [] state older only none tells = tells ∙ (stands.starts site ∙ ap (λ (h : List Event). state_of site h) (sym none))
one_state site (octet ∷ octets) state older only spells tells = only (state_of site older) spells

-- The first state, or that of the snapshot, is the one after the older events of a history that the content stands for.
pub begun_so : (site : Site) (content : Content) (history : List Event) (state : CoreState) → (stood : StandsForHistory site content history)
    → ((other : CoreState) → SpellsState site content.snapshot other → state ≡ other) → Tells site content.snapshot state → state ≡ state_of site stood.older
begun_so site content history state stood only tells = one_state site content.snapshot state stood.older only stood.snapshot tells

-- the events of the bodies may follow it
pub may_follow_so : (site : Site) (content : Content) (history : List Event) → IsSite site → (stood : StandsForHistory site content history) → AreAllowed (state_of site stood.older) stood.later
may_follow_so site content history is_site stood = follows_older site stood.older stood.later is_site (subst (λ (h : List Event). IsHistory site h) stood.together stood.is_history)

-- the state that the bodies lead to is that of the history
pub recovered : (site : Site) (content : Content) (history : List Event) (begun reached : CoreState) → IsSite site → (stood : StandsForHistory site content history)
    → begun ≡ state_of site stood.older → BodiesLeadTo begun content.bodies reached → Represents reached history
recovered site content history begun reached is_site stood is_begun lead =
    let together : IsHistory site (reverse stood.later ++ stood.older) = subst (λ (h : List Event). IsHistory site h) stood.together stood.is_history in
    let older : Represents (state_of site stood.older) stood.older = record { is_history = older_is_history site (reverse stood.later) stood.older together; shows = refl } in
    let all : Represents (state_over (state_of site stood.older) stood.later) (reverse stood.later ++ stood.older) = stands_over_events (state_of site stood.older) stood.older stood.later is_site older (may_follow_so site content history is_site stood) in
    let same : lead.events ≡ stood.later = one_order content.bodies lead.events stood.later lead.spell stood.records in
    let state : reached ≡ state_over (state_of site stood.older) stood.later = lead.reached ∙ (ap (λ (s : CoreState). state_over s lead.events) is_begun ∙ ap (λ (l : List Event). state_over (state_of site stood.older) l) same) in
    subst (λ (h : List Event). Represents reached h) (sym stood.together) (subst (λ (s : CoreState). Represents s (reverse stood.later ++ stood.older)) (sym state) all)

-- nothing is damaged where the content stands for a history
pub not_damaged_so : (site : Site) (opened : Opened) (history : List Event) (begun : CoreState) (at : ℕ) → IsSite site → (stood : StandsForHistory site (content_in opened) history)
    → begun ≡ state_of site stood.older → IsDamagedRecord begun opened.bodies opened.batches at → ⊥
not_damaged_so site opened history begun at is_site stood is_begun damaged =
    not_damaged begun opened.bodies opened.batches at stood.later stood.records (subst (λ (s : CoreState). AreAllowed s stood.later) (sym is_begun) (may_follow_so site (content_in opened) history is_site stood)) damaged

pub no_damaged_snapshot : (site : Site) (opened : Opened) (history : List Event) (at : ℕ) → StandsForHistory site (content_in opened) history → IsDamagedSnapshot site opened at → ⊥
no_damaged_snapshot site opened history at stood damaged = by opened.snapshot refl stood.snapshot
  where
    by : (octets : List ℕ) → opened.snapshot ≡ octets → IsSnapshotAfter site stood.older octets → ⊥
    by [] e none = absurd (omega (arith, damaged.some, ap (λ (l : List ℕ). length l) e))
    by (octet ∷ octets) e spells = damaged.none (state_of site stood.older) (subst (λ (l : List ℕ). SpellsState site l (state_of site stood.older)) (sym e) spells)

-- the site of the state stays
pub over_site : (events : List Event) (state : CoreState) → (state_over state events).site ≡ state.site
over_site [] state = refl
over_site (event ∷ events) state = over_site events (next_state event state)

pub led_site : (before : CoreState) (bodies : List (List ℕ)) (after : CoreState) → BodiesLeadTo before bodies after → after.site ≡ before.site
led_site before bodies after lead = ap (λ (s : CoreState). s.site) lead.reached ∙ over_site lead.events before
