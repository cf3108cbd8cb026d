-- Events that follow a state, and the records of which they are read.
use Rattle.std.proofs.Common.{◌≡◌, ℕ, ◌+◌, ◌≤◌, ◌<◌, List, [], ◌∷◌, ◌++◌, length, take, drop, get_or, refl, ap, ◌∙◌, sym, subst, arith, append_assoc, Result, Ok, Err, ◌⊎◌, inl, inr}
use Rattle.std.specs.Int.{w64, to_be_bytes}
use Rattle.std.proofs.lemmas.List.{append-nil, drop-drop, drop_more, length-append, length-drop, length-take, take_all, take-append-drop}
use Rattle.std.proofs.Math.Seq.{take-append_seam}
use Rattle.std.proofs.lemmas.List.Elements.{All-append, All-cons, All-nil}
use Rattle.std.proofs.lemmas.Grind.{flat_map-append}
use Rattle.bac_tags.specs.Places.{IsSpelledAt}
use Rattle.alarm_core.specs.declared.event.Event.{Event}
use Rattle.alarm_core.specs.CoreSteps.{next_state}
use Rattle.alarm_core.specs.State.{CoreState}
use Rattle.state_codec.specs.Contents.{SpellsEvents, SpellEvents}
use Rattle.alarm_journal.specs.Opened.{pieces, sum_of}
use Rattle.alarm_journal.specs.declared.body.Body.{Body}
use Rattle.state_codec.specs.Damage.{LeadsTo, BodiesLeadTo, IsDamagedIn, IsDamagedRecord}
use Rattle.alarm_core.specs.Following.{AreAllowed, MayFollow, state_over}
use Rattle.state_codec.specs.Records.{SpellsEvent, HasRecord, written_act}
use Rattle.state_codec.specs.declared.fault.CodecFault.{CodecFault}
use Rattle.state_codec.specs.declared.fault.CodecFault.TheVariants as faults

pub over-none : (state : CoreState) → state_over state [] ≡ state
over-none state = refl

pub over-append : (first later : List Event) (state : CoreState) → state_over state (first ++ later) ≡ state_over (state_over state first) later
over-append [] later state = refl
over-append (event ∷ first) later state = over-append first later (next_state event state)

pub follow-none : (state : CoreState) → AreAllowed state []
follow-none state = tt

pub follow-append : (first later : List Event) (state : CoreState) → AreAllowed state first → AreAllowed (state_over state first) later → AreAllowed state (first ++ later)
follow-append [] later state one two = two
follow-append (event ∷ first) later state one two = (one.0, follow-append first later (next_state event state) one.1 two)

pub follow-one : (state : CoreState) (event : Event) → MayFollow event state → AreAllowed state (event ∷ [])
follow-one state event may = (may, tt)

pub over-one : (state : CoreState) (event : Event) → state_over state (event ∷ []) ≡ next_state event state
over-one state event = refl

-- ---- the records of a body

pub leads_nowhere : (state : CoreState) → LeadsTo state [] state
leads_nowhere state = record {
  events = [];
  spells = record { octets_are = refl; have = All-nil HasRecord };
  follow = follow-none state;
  reached = sym (over-none state);
}

spells_more : (octets record_of : List ℕ) (events : List Event) (event : Event) → SpellsEvents octets events → SpellsEvent record_of event → SpellsEvents (octets ++ record_of) (events ++ event ∷ [])
spells_more octets record_of events event many one = record {
  octets_are = rw (many.octets_are, one.0, flat_map-append, append-nil) refl;
  have = All-append HasRecord events (event ∷ []) many.have (All-cons HasRecord event [] one.1 (All-nil HasRecord));
}

pub leads_on : (before between : CoreState) (octets record_of : List ℕ) (event : Event) → LeadsTo before octets between → SpellsEvent record_of event → MayFollow event between → LeadsTo before (octets ++ record_of) (next_state event between)
leads_on before between octets record_of event leads spelled may = record {
  events = leads.events ++ event ∷ [];
  spells = spells_more octets record_of leads.events event leads.spells spelled;
  follow = follow-append leads.events (event ∷ []) before leads.follow (subst (λ s. AreAllowed s (event ∷ [])) leads.reached (follow-one between event may));
  reached = sym (over-append leads.events (event ∷ []) before ∙ (ap (λ s. state_over s (event ∷ [])) (sym leads.reached) ∙ over-one between event));
}

-- up to the end of a record that is spelled at a place
pub taken_to : (body : List ℕ) (at end : ℕ) (event : Event) → (spelled : IsSpelledAt SpellsEvent body at event end) → at ≤ length body → take end body ≡ take at body ++ spelled.octets
taken_to body at end event spelled within =
    let whole : body ≡ take at body ++ (spelled.octets ++ spelled.rest) = sym (take-append-drop at body) ∙ ap (λ l. take at body ++ l) spelled.there in
    let front : length (take at body ++ spelled.octets) ≡ end = omega (arith, spelled.ends, length-append (take at body) spelled.octets, length-take at body, within) in
    ap (λ l. take end l) (whole ∙ sym (append_assoc (take at body) spelled.octets spelled.rest))
    ∙ (ap (λ n. take n ((take at body ++ spelled.octets) ++ spelled.rest)) (sym front) ∙ take-append_seam (take at body ++ spelled.octets) spelled.rest)

-- the next record of a body leads on
pub leads_next : (before between after : CoreState) (body : List ℕ) (at end : ℕ) (event : Event) → at ≤ length body → LeadsTo before (take at body) between
    → (spelled : IsSpelledAt SpellsEvent body at event end) → MayFollow event between → after ≡ next_state event between → LeadsTo before (take end body) after
leads_next before between after body at end event within leads spelled may is =
    subst (λ s. LeadsTo before (take end body) s) (sym is)
    (subst (λ l. LeadsTo before l (next_state event between)) (sym (taken_to body at end event spelled within)) (leads_on before between (take at body) spelled.octets event leads spelled.spelled may))

-- behind a record there is less
pub ends_later : (body : List ℕ) (at end : ℕ) (event : Event) → IsSpelledAt SpellsEvent body at event end → at ≤ length body → (at < end) × (end ≤ length body)
ends_later body at end event spelled within =
    let long : length spelled.octets ≡ 8 + length (written_act event.act) = ap length spelled.spelled.0 ∙ length-append (to_be_bytes w64 event.moment) (written_act event.act) in
    let behind : length (drop at body) ≡ length spelled.octets + length spelled.rest = ap length spelled.there ∙ length-append spelled.octets spelled.rest in
    (omega (arith, long, spelled.ends), omega (arith, behind, spelled.ends, length-drop at body, within))

-- at the first record that can't be there
pub damaged_here : (before between : CoreState) (body : List ℕ) (at : ℕ) → at < length body → LeadsTo before (take at body) between
    → ((event : Event) (end : ℕ) → IsSpelledAt SpellsEvent body at event end → MayFollow event between → ⊥) → IsDamagedIn before body at
damaged_here before between body at within leads none = record {
  front = take at body;
  rest = drop at body;
  octets = sym (take-append-drop at body);
  reached = between;
  leads = leads;
  some = omega (arith, length-drop at body, within);
  none = λ event first more there spelled may. none event (at + length first) (record { octets = first; rest = more; spelled = spelled; there = there; ends = refl }) may;
  place = omega (arith, length-take at body, within);
}

-- a whole body
pub leads_whole : (before after : CoreState) (body : List ℕ) (at : ℕ) → length body ≤ at → LeadsTo before (take at body) after → LeadsTo before body after
leads_whole before after body at all leads = subst (λ l. LeadsTo before l after) (take_all at body all) leads

-- what is read is the one thing that is there
pub only_this : (r : Result (Event × ℕ) CodecFault) (event read : Event) (end n : ℕ) → (r ≡ Ok (event, end)) ⊎ (r ≡ Err faults.NoMemory) → r ≡ Ok (read, n) → event ≡ read
only_this r event read end n (inl this) is = let both : (event, end) ≡ (read, n) = cc in ap (λ (p : Event × ℕ). p.0) both
only_this r event read end n (inr none) is = absurd cc

-- ---- bodies

pub lead_nowhere : (state : CoreState) → BodiesLeadTo state [] state
lead_nowhere state = record { events = []; spell = refl; follow = follow-none state; reached = sym (over-none state) }

pub spell_more : (bodies : List (List ℕ)) (events : List Event) (body : List ℕ) (more : List Event) → SpellEvents bodies events → SpellsEvents body more → SpellEvents (bodies ++ body ∷ []) (events ++ more)
spell_more [] events body more none spells = (more, [], ap (λ l. l ++ more) none ∙ sym (append-nil more), spells, refl)
spell_more (here ∷ bodies) events body more (first, later, whole, spelled, others) spells =
    (first, later ++ more, ap (λ l. l ++ more) whole ∙ append_assoc first later more, spelled, spell_more bodies later body more others spells)

pub lead_on : (before between after : CoreState) (bodies : List (List ℕ)) (body : List ℕ) → BodiesLeadTo before bodies between → LeadsTo between body after → BodiesLeadTo before (bodies ++ body ∷ []) after
lead_on before between after bodies body lead leads = record {
  events = lead.events ++ leads.events;
  spell = spell_more bodies lead.events body leads.events lead.spell leads.spells;
  follow = follow-append lead.events leads.events before lead.follow (subst (λ s. AreAllowed s leads.events) lead.reached leads.follow);
  reached = leads.reached ∙ (ap (λ s. state_over s leads.events) lead.reached ∙ sym (over-append lead.events leads.events before));
}

pieces-behind : (bodies : List Body) (body : Body) (octets : List ℕ) → pieces (bodies ++ body ∷ []) octets ≡ pieces bodies octets ++ take body.length (drop (sum_of bodies) octets) ∷ []
pieces-behind [] body octets = refl
pieces-behind (first ∷ bodies) body octets =
    ap (λ ps. take first.length octets ∷ ps) (pieces-behind bodies body (drop first.length octets) ∙ ap (λ l. pieces bodies (drop first.length octets) ++ take body.length l ∷ []) (drop-drop (sum_of bodies) first.length octets))

sum-behind : (bodies : List Body) (body : Body) → sum_of (bodies ++ body ∷ []) ≡ sum_of bodies + body.length
sum-behind [] body = omega arith
sum-behind (first ∷ bodies) body = omega (arith, sum-behind bodies body)

-- So far these bodies were read, and the octets behind them are left.
pub record IsBehind (before : CoreState) (bodies : List Body) (octets rest : List ℕ) (reached : CoreState) : Type 0 where
  pub lead : BodiesLeadTo before (pieces bodies octets) reached
  pub left : rest ≡ drop (sum_of bodies) octets

pub behind_none : (before : CoreState) (octets : List ℕ) → IsBehind before [] octets octets before
behind_none before octets = record { lead = lead_nowhere before; left = refl }

pub behind_more : (before between after : CoreState) (bodies : List Body) (body : Body) (octets rest front behind : List ℕ)
    → IsBehind before bodies octets rest between → front ≡ take body.length rest → behind ≡ drop body.length rest → LeadsTo between front after
    → IsBehind before (bodies ++ body ∷ []) octets behind after
behind_more before between after bodies body octets rest front behind so is_front is_behind leads = record {
  lead = subst (λ ps. BodiesLeadTo before ps after) (ap (λ l. pieces bodies octets ++ l ∷ []) (is_front ∙ ap (take body.length) so.left) ∙ sym (pieces-behind bodies body octets)) (lead_on before between after (pieces bodies octets) front so.lead leads);
  left = is_behind ∙ (ap (drop body.length) so.left ∙ (drop-drop body.length (sum_of bodies) octets ∙ ap (λ n. drop n octets) (sym (sum-behind bodies body))));
}

pub damaged_in : (before between : CoreState) (all bodies behind : List Body) (body : Body) (octets rest front : List ℕ) (offset at : ℕ)
    → all ≡ bodies ++ body ∷ behind → IsBehind before bodies octets rest between → front ≡ take body.length rest → IsDamagedIn between front offset → at ≡ body.place + offset
    → IsDamagedRecord before all octets at
damaged_in before between all bodies behind body octets rest front offset at whole so is_front damaged place = record {
  before = bodies;
  body = body;
  behind = behind;
  bodies_are = whole;
  reached = between;
  lead = so.lead;
  offset = offset;
  damaged = subst (λ l. IsDamagedIn between l offset) (is_front ∙ ap (take body.length) so.left) damaged;
  place = place;
}

sum-append : (first later : List Body) → sum_of (first ++ later) ≡ sum_of first + sum_of later
sum-append [] later = omega arith
sum-append (body ∷ first) later = omega (arith, sum-append first later)

-- the next body isn't longer than the octets that are left
pub next_fits : (all bodies behind : List Body) (body : Body) (octets rest : List ℕ) → all ≡ bodies ++ body ∷ behind → sum_of all ≡ length octets → rest ≡ drop (sum_of bodies) octets → body.length ≤ length rest
next_fits all bodies behind body octets rest is whole left =
    omega (arith, ap (λ (bs : List Body). sum_of bs) is, sum-append bodies (body ∷ behind), whole, ap (λ (l : List ℕ). length l) left, length-drop (sum_of bodies) octets)

-- the bodies before one of them, it, and those behind it
pub around : (bodies : List Body) (index : ℕ) (none : Body) → index < length bodies → bodies ≡ take index bodies ++ get_or bodies index none ∷ drop (index + 1) bodies
around bodies index none within = sym (take-append-drop index bodies) ∙ ap (λ (l : List Body). take index bodies ++ l) (drop_more bodies index none within)

-- what is damaged lies within the body
pub damaged_within : (state : CoreState) (body : List ℕ) (offset : ℕ) → IsDamagedIn state body offset → offset < length body
damaged_within state body offset damaged = omega (arith, damaged.some, damaged.place, ap (λ (l : List ℕ). length l) damaged.octets, length-append damaged.front damaged.rest)
