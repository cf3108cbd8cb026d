-- The clauses of the reader of GetEnrollmentSummary.
use Rattle.std.proofs.Common.{◌≡◌, ℕ, ◌+◌, ◌<◌, ◌≤◌, Option, Some, None, List, [], ◌++◌, length, drop, Result, Ok, refl, sym, ap, subst, ◌∙◌, append_assoc, arith, inl, inr}
use Rattle.std.specs.Prelude.{◌⊎◌}
use Rattle.std.proofs.lemmas.List.{append-nil, drop_all, length-append}
use Rattle.bac_tags.specs.declared.fault.TagFault.{TagFault}
use Rattle.bac_tags.specs.declared.malformed.Malformed.{Malformed}
use Rattle.bac_tags.specs.Contents.{SpellsUnsigned}
use Rattle.bac_tags.specs.EnclosingSteps.{enclosed_at}
use Rattle.bac_tags.specs.EnclosingTags.{SpellsEnclosed, opening}
use Rattle.bac_tags.specs.Elements.{element_tag}
use Rattle.bac_tags.specs.Tags.{SpellsTag}
use Rattle.bac_tags.specs.declared.tag.Tag.{Tag}
use Rattle.bac_tags.specs.ParameterReadingSteps.{optional}
use Rattle.bac_tags.specs.Parameters.{IsAbsent, IsOptionalAt, SpellsIfGiven}
use Rattle.bac_tags.specs.Places.{IsSpelledAt}
use Rattle.bac_tags.specs.ReadingSteps.{◌>>=◌, unsigned_at}
use Rattle.bac_tags.specs.Refusals.{Behind, RefusesOptional, RefusesRequired}
use Rattle.bac_tags.proofs.Answered.{Spelled}
use Rattle.bac_tags.proofs.ElementAnswers.{Element, begins_before, ends_within, optional_ends, unsigned_optional}
use Rattle.bac_tags.proofs.ElementReaders.{Reader, enclosed_reader, spelled_from, object_reader, spelled_to, tag_some, unsigned_reader}
use Rattle.bac_tags.proofs.ParameterAnswers.{Answers, Both, Made, Whole, at_end, ended, mapped, said, then, whole_said}
use Rattle.bac_tags.proofs.Standing.{IsBytes, Stands, Stands-back, Stands-front, Stands-then, Stands-within}
use Rattle.bac_tags.proofs.Steps.{bind_ok, ok_is}
use Rattle.recipients.specs.Recipients.{OfAddress, OfDevice, RecipientData, SpellsRecipient}
use Rattle.recipients.specs.RecipientSteps.{recipient_at}
use Rattle.recipients.proofs.AddressReaders.{of_short}
use Rattle.recipients.proofs.RecipientReaders.{SpellsShortRecipient, recipient_again, recipient_found, short_recipient}
use Rattle.summaries.specs.declared.filter.Asked.{Asked}
use Rattle.summaries.specs.declared.filter.Filter.{Filter}
use Rattle.summaries.specs.declared.filter.Who.{Who}
use Rattle.summaries.specs.Requests.{SpellsAsked, SpellsFilter, SpellsListed, SpellsPriorities, who_of}
use Rattle.summaries.specs.Refusals.{IsEnclosedAt, IsFilterAt, IsNoneOpened, RefusesEnclosed, RefusesEnrollmentRequest, RefusesFilter}
use Rattle.summaries.specs.RequestSteps.{any_listed_at, asked_at, asked_of, enclosed_if_given, enrollment_request_of, filter_at, filter_of, listed_at, priorities_at}
use Rattle.summaries.proofs.Narrowed.{any_listed_answers, listed_answers}
use Rattle.summaries.proofs.Enclosed.{enclosed_answers}

-- ---- what stands between tags

element_of : {X : Type 0} (Spells : List ℕ → X → Type 0) (read : List ℕ → ℕ → Result (X × ℕ) TagFault) → Reader Spells read → (input : List ℕ) (place : ℕ) → IsBytes input → place ≤ length input → Element Spells input place (read input place)
element_of Spells read r input place bytes le =
    record {
      found = λ x e. spelled_to Spells input place x.0 x.1 (r.found input place x bytes le e);
      only = λ x end s. let p = spelled_from Spells input place x end s in r.again input place p.octets x end le p.spells p.stands;
      some = λ x end s. let some = r.some s.octets x s.spelled in begins_before input place s.octets s.rest s.there (omega (arith, some));
    }

-- what is inside is spelled otherwise too
enclosed_as : {X : Type 0} (number : ℕ) (Spells Others : List ℕ → X → Type 0) (input : List ℕ) (place : ℕ) (octets : List ℕ) (x : X) (end : ℕ) → SpellsEnclosed number Spells octets x → Stands input place octets end
    → ((start : ℕ) (inside : List ℕ) (stop : ℕ) → Stands input start inside stop → Spells inside x → Others inside x) → SpellsEnclosed number Others octets x
enclosed_as number Spells Others input place octets x end s p other =
    let parts : Stands input place (s.front ++ (s.inside ++ s.back)) end = subst (λ (o : List ℕ). Stands input place o end) s.parts p in
    let later = Stands-back input place s.front (s.inside ++ s.back) end parts in
    let inside = Stands-front input (place + length s.front) s.inside s.back end later in
    record { front = s.front; inside = s.inside; back = s.back; parts = s.parts; opened = s.opened; spelled = other (place + length s.front) s.inside (place + length s.front + length s.inside) inside s.spelled; closed = s.closed }

-- ---- a recipient, short enough for a tag, and its process

recipient_some : (octets : List ℕ) (x : RecipientData) → SpellsShortRecipient octets x → 1 ≤ length octets
recipient_some octets (OfDevice object) s = (object_reader 0).some octets object s
recipient_some octets (OfAddress address) s = omega (arith, ap length s.parts, length-append s.front (s.inside ++ s.back), tag_some s.front (opening 1) s.opened)

short_reader : Reader SpellsShortRecipient recipient_at
short_reader = record {
  found = λ input place x bytes le e.
      let s = recipient_found input place x bytes le e in
      record { octets = s.octets; stands = s.stands; spells = short_recipient input place s.octets x.0 x.1 bytes s.spells s.stands };
  again = λ input place octets x end le s p. recipient_again input place octets x end le s p;
  some = λ octets x s. recipient_some octets x s;
}

enclosed_recipient_reader : Reader (SpellsEnclosed 0 SpellsShortRecipient) (enclosed_at recipient_at 0)
enclosed_recipient_reader = enclosed_reader SpellsShortRecipient recipient_at 0 short_reader

record SpellsShortAsked (octets : List ℕ) (asked : Asked) : Type 0 where
  recipient_octets : List ℕ
  process_octets : List ℕ
  recipient : RecipientData
  parts : octets ≡ recipient_octets ++ process_octets
  spelled : SpellsEnclosed 0 SpellsShortRecipient recipient_octets recipient
  who : asked.who ≡ who_of recipient
  process : SpellsUnsigned (Some 1) process_octets asked.process

abbrev after_process : RecipientData → ℕ × ℕ → Result (Asked × ℕ) TagFault
after_process recipient process = Ok (asked_of recipient process.0, process.1)

abbrev after_recipient : List ℕ → RecipientData × ℕ → Result (Asked × ℕ) TagFault
after_recipient input recipient = unsigned_at input recipient.1 (Some 1) >>= after_process recipient.0

asked_found : (input : List ℕ) (place : ℕ) (x : Asked × ℕ) → IsBytes input → place ≤ length input → asked_at input place ≡ Ok x → Spelled SpellsShortAsked input place x.0 x.1
unfolding asked_at
asked_found input place x bytes le e =
    let a = bind_ok (enclosed_at recipient_at 0 input place) (after_recipient input) x e in
    let first = enclosed_recipient_reader.found input place a.0 bytes le a.1 in
    let within = Stands-within input place first.octets a.0.1 le first.stands in
    let b = bind_ok (unsigned_at input a.0.1 (Some 1)) (after_process a.0.0) x a.2 in
    let second = (unsigned_reader 1).found input a.0.1 b.0 bytes within b.1 in
    subst (λ (y : Asked × ℕ). Spelled SpellsShortAsked input place y.0 y.1) (ok_is (asked_of a.0.0 b.0.0, b.0.1) x b.2) (record {
      octets = first.octets ++ second.octets;
      stands = Stands-then input place first.octets a.0.1 second.octets b.0.1 first.stands second.stands;
      spells = record { recipient_octets = first.octets; process_octets = second.octets; recipient = a.0.0; parts = refl; spelled = first.spells; who = refl; process = second.spells };
    })

asked_again : (input : List ℕ) (place : ℕ) (octets : List ℕ) (x : Asked) (end : ℕ) → place ≤ length input → SpellsShortAsked octets x → Stands input place octets end → asked_at input place ≡ Ok (x, end)
unfolding asked_at
asked_again input place octets x end le s p =
    let parts : Stands input place (s.recipient_octets ++ s.process_octets) end = subst (λ (o : List ℕ). Stands input place o end) s.parts p in
    let front = Stands-front input place s.recipient_octets s.process_octets end parts in
    let back = Stands-back input place s.recipient_octets s.process_octets end parts in
    let process_at = place + length s.recipient_octets in
    let within = Stands-within input place s.recipient_octets process_at le front in
    let recipient = enclosed_recipient_reader.again input place s.recipient_octets s.recipient process_at le s.spelled front in
    let process = (unsigned_reader 1).again input process_at s.process_octets x.process end within s.process back in
    let same : asked_of s.recipient x.process ≡ x = ap (λ (who : Who). asked who x.process) (sym s.who) in
    rw (recipient, process) (ap (λ (y : Asked). Ok (y, end)) same)
  where
    asked : Who → ℕ → Asked
    asked who process = record { who = who; process = process }

asked_reader : Reader SpellsShortAsked asked_at
asked_reader = record {
  found = λ input place x bytes le e. asked_found input place x bytes le e;
  again = λ input place octets x end le s p. asked_again input place octets x end le s p;
  some = λ octets x s. omega (arith, ap length s.parts, length-append s.recipient_octets s.process_octets, enclosed_recipient_reader.some s.recipient_octets s.recipient s.spelled);
}

enclosed_asked_reader : Reader (SpellsEnclosed 1 SpellsShortAsked) (enclosed_at asked_at 1)
enclosed_asked_reader = enclosed_reader SpellsShortAsked asked_at 1 asked_reader

-- the recipient inside, however long its station, and short enough since it stands among octets
long_asked : (octets : List ℕ) (x : Asked) → SpellsShortAsked octets x → SpellsAsked octets x
long_asked octets x s =
    record {
      recipient_octets = s.recipient_octets;
      process_octets = s.process_octets;
      recipient = s.recipient;
      parts = s.parts;
      spelled = record { front = s.spelled.front; inside = s.spelled.inside; back = s.spelled.back; parts = s.spelled.parts; opened = s.spelled.opened; spelled = long_recipient s.spelled.inside s.recipient s.spelled.spelled; closed = s.spelled.closed };
      who = s.who;
      process = s.process;
    }
  where
    long_recipient : (octets : List ℕ) (x : RecipientData) → SpellsShortRecipient octets x → SpellsRecipient octets x
    long_recipient octets (OfDevice object) s = s
    long_recipient octets (OfAddress address) s = of_short octets address s

short_asked : (input : List ℕ) → IsBytes input → (start : ℕ) (inside : List ℕ) (stop : ℕ) (x : Asked) → Stands input start inside stop → SpellsAsked inside x → SpellsShortAsked inside x
short_asked input bytes start inside stop x p s =
    let parts : Stands input start (s.recipient_octets ++ s.process_octets) stop = subst (λ (o : List ℕ). Stands input start o stop) s.parts p in
    let front = Stands-front input start s.recipient_octets s.process_octets stop parts in
    record {
      recipient_octets = s.recipient_octets;
      process_octets = s.process_octets;
      recipient = s.recipient;
      parts = s.parts;
      spelled = enclosed_as 0 SpellsRecipient SpellsShortRecipient input start s.recipient_octets s.recipient (start + length s.recipient_octets) s.spelled front (λ from octets to q r. short_recipient input from octets s.recipient to bytes r q);
      who = s.who;
      process = s.process;
    }

enclosed_asked : (input : List ℕ) (place : ℕ) → IsBytes input → place ≤ length input → Element (SpellsEnclosed 1 SpellsAsked) input place (enclosed_at asked_at 1 input place)
enclosed_asked input place bytes le =
    record {
      found = λ x e.
          let s = enclosed_asked_reader.found input place x bytes le e in
          spelled_to (SpellsEnclosed 1 SpellsAsked) input place x.0 x.1 (record { octets = s.octets; stands = s.stands; spells = enclosed_as 1 SpellsShortAsked SpellsAsked input place s.octets x.0 x.1 s.spells s.stands (λ from octets to q r. long_asked octets x.0 r) });
      only = λ x end s.
          let p = spelled_from (SpellsEnclosed 1 SpellsAsked) input place x end s in
          enclosed_asked_reader.again input place p.octets x end le (enclosed_as 1 SpellsAsked SpellsShortAsked input place p.octets x end p.spells p.stands (λ from octets to q r. short_asked input bytes from octets to x q r)) p.stands;
      some = λ x end s.
          begins_before input place s.octets s.rest s.there (omega (arith, ap length s.spelled.parts, length-append s.spelled.front (s.spelled.inside ++ s.spelled.back), tag_some s.spelled.front (opening 1) s.spelled.opened));
    }

-- ---- priorities

abbrev after_greatest : ℕ → ℕ × ℕ → Result ((ℕ × ℕ) × ℕ) TagFault
after_greatest least greatest = Ok ((least, greatest.0), greatest.1)

abbrev after_least : List ℕ → ℕ × ℕ → Result ((ℕ × ℕ) × ℕ) TagFault
after_least input least = unsigned_at input least.1 (Some 1) >>= after_greatest least.0

priorities_found : (input : List ℕ) (place : ℕ) (x : (ℕ × ℕ) × ℕ) → IsBytes input → place ≤ length input → priorities_at input place ≡ Ok x → Spelled SpellsPriorities input place x.0 x.1
unfolding priorities_at
priorities_found input place x bytes le e =
    let a = bind_ok (unsigned_at input place (Some 0)) (after_least input) x e in
    let first = (unsigned_reader 0).found input place a.0 bytes le a.1 in
    let within = Stands-within input place first.octets a.0.1 le first.stands in
    let b = bind_ok (unsigned_at input a.0.1 (Some 1)) (after_greatest a.0.0) x a.2 in
    let second = (unsigned_reader 1).found input a.0.1 b.0 bytes within b.1 in
    subst (λ (y : (ℕ × ℕ) × ℕ). Spelled SpellsPriorities input place y.0 y.1) (ok_is ((a.0.0, b.0.0), b.0.1) x b.2) (record {
      octets = first.octets ++ second.octets;
      stands = Stands-then input place first.octets a.0.1 second.octets b.0.1 first.stands second.stands;
      spells = record { least_octets = first.octets; greatest_octets = second.octets; parts = refl; least = first.spells; greatest = second.spells };
    })

priorities_again : (input : List ℕ) (place : ℕ) (octets : List ℕ) (x : ℕ × ℕ) (end : ℕ) → place ≤ length input → SpellsPriorities octets x → Stands input place octets end → priorities_at input place ≡ Ok (x, end)
unfolding priorities_at
priorities_again input place octets x end le s p =
    let parts : Stands input place (s.least_octets ++ s.greatest_octets) end = subst (λ (o : List ℕ). Stands input place o end) s.parts p in
    let front = Stands-front input place s.least_octets s.greatest_octets end parts in
    let back = Stands-back input place s.least_octets s.greatest_octets end parts in
    let middle = place + length s.least_octets in
    let within = Stands-within input place s.least_octets middle le front in
    let least = (unsigned_reader 0).again input place s.least_octets x.0 middle le s.least front in
    let greatest = (unsigned_reader 1).again input middle s.greatest_octets x.1 end within s.greatest back in
    rw (least, greatest) refl

priorities_reader : Reader SpellsPriorities priorities_at
priorities_reader = record {
  found = λ input place x bytes le e. priorities_found input place x bytes le e;
  again = λ input place octets x end le s p. priorities_again input place octets x end le s p;
  some = λ octets x s. omega (arith, ap length s.parts, length-append s.least_octets s.greatest_octets, (unsigned_reader 0).some s.least_octets x.0 s.least);
}

enclosed_priorities : (input : List ℕ) (place : ℕ) → IsBytes input → place ≤ length input → Element (SpellsEnclosed 4 SpellsPriorities) input place (enclosed_at priorities_at 4 input place)
enclosed_priorities = element_of (SpellsEnclosed 4 SpellsPriorities) (enclosed_at priorities_at 4) (enclosed_reader SpellsPriorities priorities_at 4 priorities_reader)

-- ---- one parameter behind another

enclosed_ends : {X : Type 0} (Spells : List ℕ → X → Type 0) (number : ℕ) (input : List ℕ) (place : ℕ) (x : Option X) (end : ℕ) → place ≤ length input → IsEnclosedAt Spells number input place x end → end ≤ length input
enclosed_ends Spells number input place None end le h = omega (arith, le, h.0)
enclosed_ends Spells number input place (Some x) end le h = ends_within (SpellsEnclosed number Spells) input place x end le h

abbrev Acked : List ℕ → ℕ → Type 0
Acked = SpellsListed 0 2

abbrev State : List ℕ → ℕ → Type 0
State = SpellsListed 2 4

abbrev Number : ℕ → List ℕ → ℕ → Type 0
Number number = SpellsUnsigned (Some number)

module _ (input : List ℕ) (bytes : IsBytes input) where
  abbrev IsClass : ℕ → Option Asked → Option ℕ → Option ℕ → Option (ℕ × ℕ) → ℕ → Filter → ℕ → Type 0
  IsClass acked recipient state event_type priorities place = Made (IsOptionalAt (Number 5) 5 input place) (filter_of acked recipient state event_type priorities)

  class_answers : (acked : ℕ) (recipient : Option Asked) (state event_type : Option ℕ) (priorities : Option (ℕ × ℕ)) (place : ℕ) → place ≤ length input
      → Answers (IsClass acked recipient state event_type priorities place) (RefusesOptional (Number 5) 5 input place) (optional input place (unsigned_at input place (Some 5)) >>= at_end (filter_of acked recipient state event_type priorities))
  class_answers acked recipient state event_type priorities place le =
      mapped (IsOptionalAt (Number 5) 5 input place) (RefusesOptional (Number 5) 5 input place) (optional input place (unsigned_at input place (Some 5))) (filter_of acked recipient state event_type priorities) (unsigned_optional input place 5 bytes le)

  abbrev next_class : ℕ → Option Asked → Option ℕ → Option ℕ → Option (ℕ × ℕ) × ℕ → Result (Filter × ℕ) Malformed
  next_class acked recipient state event_type priorities = optional input priorities.1 (unsigned_at input priorities.1 (Some 5)) >>= at_end (filter_of acked recipient state event_type priorities.0)

  abbrev IsPriorities : ℕ → Option Asked → Option ℕ → Option ℕ → ℕ → Filter → ℕ → Type 0
  IsPriorities acked recipient state event_type place = Both (IsEnclosedAt SpellsPriorities 4 input place) (IsClass acked recipient state event_type)

  abbrev RefusesPriorities : ℕ → Malformed → Type 0
  RefusesPriorities place fault = RefusesEnclosed SpellsPriorities 4 input place fault ⊎ Behind (IsEnclosedAt SpellsPriorities 4 input place) (λ priorities place. RefusesOptional (Number 5) 5 input place fault)

  abbrev next_priorities : ℕ → Option Asked → Option ℕ → Option ℕ × ℕ → Result (Filter × ℕ) Malformed
  next_priorities acked recipient state event_type = enclosed_if_given priorities_at 4 input event_type.1 >>= next_class acked recipient state event_type.0

  priorities_answers : (acked : ℕ) (recipient : Option Asked) (state event_type : Option ℕ) (place : ℕ) → place ≤ length input
      → Answers (IsPriorities acked recipient state event_type place) (RefusesPriorities place) (next_priorities acked recipient state (event_type, place))
  priorities_answers acked recipient state event_type place le =
      then (IsEnclosedAt SpellsPriorities 4 input place) (RefusesEnclosed SpellsPriorities 4 input place) (enclosed_if_given priorities_at 4 input place)
      (IsClass acked recipient state event_type) (λ priorities place. RefusesOptional (Number 5) 5 input place) (next_class acked recipient state event_type)
      (enclosed_answers input place 4 bytes le SpellsPriorities priorities_at (enclosed_priorities input place bytes le))
      (λ priorities end there. class_answers acked recipient state event_type priorities end (enclosed_ends SpellsPriorities 4 input place priorities end le there))

  abbrev IsType : ℕ → Option Asked → Option ℕ → ℕ → Filter → ℕ → Type 0
  IsType acked recipient state place = Both (IsOptionalAt (Number 3) 3 input place) (IsPriorities acked recipient state)

  abbrev RefusesType : ℕ → Malformed → Type 0
  RefusesType place fault = RefusesOptional (Number 3) 3 input place fault ⊎ Behind (IsOptionalAt (Number 3) 3 input place) (λ event_type place. RefusesPriorities place fault)

  abbrev next_type : ℕ → Option Asked → Option ℕ × ℕ → Result (Filter × ℕ) Malformed
  next_type acked recipient state = optional input state.1 (unsigned_at input state.1 (Some 3)) >>= next_priorities acked recipient state.0

  type_answers : (acked : ℕ) (recipient : Option Asked) (state : Option ℕ) (place : ℕ) → place ≤ length input → Answers (IsType acked recipient state place) (RefusesType place) (next_type acked recipient (state, place))
  type_answers acked recipient state place le =
      then (IsOptionalAt (Number 3) 3 input place) (RefusesOptional (Number 3) 3 input place) (optional input place (unsigned_at input place (Some 3)))
      (IsPriorities acked recipient state) (λ event_type place. RefusesPriorities place) (next_priorities acked recipient state)
      (unsigned_optional input place 3 bytes le)
      (λ event_type end there. priorities_answers acked recipient state event_type end (optional_ends (Number 3) 3 input place event_type end le there))

  abbrev IsState : ℕ → Option Asked → ℕ → Filter → ℕ → Type 0
  IsState acked recipient place = Both (IsOptionalAt State 2 input place) (IsType acked recipient)

  abbrev RefusesState : ℕ → Malformed → Type 0
  RefusesState place fault = RefusesOptional State 2 input place fault ⊎ Behind (IsOptionalAt State 2 input place) (λ state place. RefusesType place fault)

  abbrev next_state : ℕ → Option Asked × ℕ → Result (Filter × ℕ) Malformed
  next_state acked recipient = any_listed_at input recipient.1 2 4 >>= next_type acked recipient.0

  state_answers : (acked : ℕ) (recipient : Option Asked) (place : ℕ) → place ≤ length input → Answers (IsState acked recipient place) (RefusesState place) (next_state acked (recipient, place))
  state_answers acked recipient place le =
      then (IsOptionalAt State 2 input place) (RefusesOptional State 2 input place) (any_listed_at input place 2 4)
      (IsType acked recipient) (λ state place. RefusesType place) (next_type acked recipient)
      (any_listed_answers input place 2 4 bytes le)
      (λ state end there. type_answers acked recipient state end (optional_ends State 2 input place state end le there))

  abbrev IsRecipient : ℕ → ℕ → Filter → ℕ → Type 0
  IsRecipient acked place = Both (IsEnclosedAt SpellsAsked 1 input place) (IsState acked)

  abbrev RefusesRecipient : ℕ → Malformed → Type 0
  RefusesRecipient place fault = RefusesEnclosed SpellsAsked 1 input place fault ⊎ Behind (IsEnclosedAt SpellsAsked 1 input place) (λ recipient place. RefusesState place fault)

  abbrev next_recipient : ℕ × ℕ → Result (Filter × ℕ) Malformed
  next_recipient acked = enclosed_if_given asked_at 1 input acked.1 >>= next_state acked.0

  recipient_answers : (acked place : ℕ) → place ≤ length input → Answers (IsRecipient acked place) (RefusesRecipient place) (next_recipient (acked, place))
  recipient_answers acked place le =
      then (IsEnclosedAt SpellsAsked 1 input place) (RefusesEnclosed SpellsAsked 1 input place) (enclosed_if_given asked_at 1 input place)
      (IsState acked) (λ recipient place. RefusesState place) (next_state acked)
      (enclosed_answers input place 1 bytes le SpellsAsked asked_at (enclosed_asked input place bytes le))
      (λ recipient end there. state_answers acked recipient end (enclosed_ends SpellsAsked 1 input place recipient end le there))

  abbrev IsChain : Filter → ℕ → Type 0
  IsChain = Both (IsSpelledAt Acked input 0) IsRecipient

  chained : Answers IsChain (RefusesFilter input) (filter_at input)
  unfolding filter_at
  chained =
      then (IsSpelledAt Acked input 0) (RefusesRequired Acked input 0) (listed_at input 0 0 2)
      IsRecipient (λ acked place. RefusesRecipient place) next_recipient
      (listed_answers input 0 0 2 bytes (omega arith))
      (λ acked end there. recipient_answers acked end (ends_within Acked input 0 acked end (omega arith) there))

  to_filter : (x : Filter) (end : ℕ) → IsChain x end → IsFilterAt input x end
  to_filter x end h =
      let last = h.is_next.is_next.is_next.is_next.is_next in
      subst (λ (y : Filter). IsFilterAt input y end) last.made (record {
        recipient_at = h.place;
        state_at = h.is_next.place;
        type_at = h.is_next.is_next.place;
        priorities_at = h.is_next.is_next.is_next.place;
        class_at = h.is_next.is_next.is_next.is_next.place;
        acked = h.is_first;
        recipient = h.is_next.is_first;
        state = h.is_next.is_next.is_first;
        event_type = h.is_next.is_next.is_next.is_first;
        priorities = h.is_next.is_next.is_next.is_next.is_first;
        class = last.is;
      })

  from_filter : (x : Filter) (end : ℕ) → IsFilterAt input x end → IsChain x end
  from_filter x end h =
      record {
        first = x.acked;
        place = h.recipient_at;
        is_first = h.acked;
        is_next = record {
          first = x.recipient;
          place = h.state_at;
          is_first = h.recipient;
          is_next = record {
            first = x.state;
            place = h.type_at;
            is_first = h.state;
            is_next = record {
              first = x.event_type;
              place = h.priorities_at;
              is_first = h.event_type;
              is_next = record { first = x.priorities; place = h.class_at; is_first = h.priorities; is_next = record { value = x.class; is = h.class; made = refl } };
            };
          };
        };
      }

  filter_answers : Answers (IsFilterAt input) (RefusesFilter input) (filter_at input)
  filter_answers = said IsChain (IsFilterAt input) (RefusesFilter input) (RefusesFilter input) (filter_at input) chained to_filter from_filter (λ fault h. h) (λ fault h. h)

  filter_within : (x : Filter) (end : ℕ) → IsFilterAt input x end → end ≤ length input
  filter_within x end h =
      let acked = ends_within Acked input 0 x.acked h.recipient_at (omega arith) h.acked in
      let recipient = enclosed_ends SpellsAsked 1 input h.recipient_at x.recipient h.state_at acked h.recipient in
      let state = optional_ends State 2 input h.state_at x.state h.type_at recipient h.state in
      let event_type = optional_ends (Number 3) 3 input h.type_at x.event_type h.priorities_at state h.event_type in
      let priorities = enclosed_ends SpellsPriorities 4 input h.priorities_at x.priorities h.class_at event_type h.priorities in
      optional_ends (Number 5) 5 input h.class_at x.class end priorities h.class

-- ---- as octets one after the other

-- an element begins there whose number is above this one, or nothing does
record Tagged (number : ℕ) (octets : List ℕ) : Type 0 where
  header : List ℕ
  rest : List ℕ
  tag : Tag
  parts : octets ≡ header ++ rest
  tagged : SpellsTag header tag
  above : number < tag.number

abbrev Later : ℕ → List ℕ → Type 0
Later number octets = (octets ≡ []) ⊎ Tagged number octets

later_given : {X : Type 0} (Spells : List ℕ → X → Type 0) (number : ℕ) → ((octets : List ℕ) (x : X) → Spells octets x → Tagged number octets) → (octets rest : List ℕ) (x : Option X) → SpellsIfGiven Spells octets x → Later number rest → Later number (octets ++ rest)
later_given Spells number begins octets rest None none later = subst (λ (o : List ℕ). Later number (o ++ rest)) (sym none) later
later_given Spells number begins octets rest (Some x) s later =
    let first = begins octets x s in
    inr (record { header = first.header; rest = first.rest ++ rest; tag = first.tag; parts = ap (λ (o : List ℕ). o ++ rest) first.parts ∙ append_assoc first.header first.rest rest; tagged = first.tagged; above = first.above })

number_begins : (below number : ℕ) → below < number → (octets : List ℕ) (x : ℕ) → SpellsUnsigned (Some number) octets x → Tagged below octets
number_begins below number less octets x s = record { header = s.header; rest = s.content; tag = element_tag 2 (Some number) (length s.content); parts = s.parts; tagged = s.tagged; above = less }

enclosed_begins : {X : Type 0} (Spells : List ℕ → X → Type 0) (below number : ℕ) → below < number → (octets : List ℕ) (x : X) → SpellsEnclosed number Spells octets x → Tagged below octets
enclosed_begins Spells below number less octets x s = record { header = s.front; rest = s.inside ++ s.back; tag = opening number; parts = s.parts; tagged = s.opened; above = less }

-- octets that spell something, or none, stand at the place
record Given {X : Type 0} (Spells : List ℕ → X → Type 0) (input : List ℕ) (place : ℕ) (x : Option X) (end : ℕ) : Type 0 where
  octets : List ℕ
  stands : Stands input place octets end
  spelled : SpellsIfGiven Spells octets x

given_none : {X : Type 0} (Spells : List ℕ → X → Type 0) (input : List ℕ) (place end : ℕ) → end ≡ place → Given Spells input place None end
given_none Spells input place end same = record { octets = []; stands = record { parts = ap (λ (n : ℕ). drop n input) (sym same); ends = omega (arith, same) }; spelled = refl }

given_some : {X : Type 0} (Spells : List ℕ → X → Type 0) (input : List ℕ) (place : ℕ) (x : X) (end : ℕ) → IsSpelledAt Spells input place x end → Given Spells input place (Some x) end
given_some Spells input place x end s = let p = spelled_from Spells input place x end s in record { octets = p.octets; stands = p.stands; spelled = p.spells }

optional_given : {X : Type 0} (Spells : List ℕ → X → Type 0) (number : ℕ) (input : List ℕ) (place : ℕ) (x : Option X) (end : ℕ) → IsOptionalAt Spells number input place x end → Given Spells input place x end
optional_given Spells number input place None end h = given_none Spells input place end h.0
optional_given Spells number input place (Some x) end h = given_some Spells input place x end h

enclosed_given : {X : Type 0} (Spells : List ℕ → X → Type 0) (number : ℕ) (input : List ℕ) (place : ℕ) (x : Option X) (end : ℕ) → IsEnclosedAt Spells number input place x end → Given (SpellsEnclosed number Spells) input place x end
enclosed_given Spells number input place None end h = given_none (SpellsEnclosed number Spells) input place end h.0
enclosed_given Spells number input place (Some x) end h = given_some (SpellsEnclosed number Spells) input place x end h

module _ (input : List ℕ) where
  -- the octets to the end
  abbrev Rest : ℕ → List ℕ → Type 0
  Rest place octets = Stands input place octets (length input)

  all_stand : Rest 0 input
  all_stand = record { parts = sym (ap (λ (o : List ℕ). input ++ o) (drop_all (length input) input (omega arith)) ∙ append-nil input); ends = omega arith }

  all_of : (octets : List ℕ) → Rest 0 octets → input ≡ octets
  all_of octets p = p.parts ∙ ap (λ (o : List ℕ). octets ++ o) (drop_all (length input) input (omega arith)) ∙ append-nil octets

  -- what begins with a greater number isn't the parameter
  other_number : (number place : ℕ) (octets : List ℕ) → Rest place octets → (t : Tagged number octets) → drop place input ≡ t.header ++ (t.rest ++ drop (length input) input)
  other_number number place octets p t = p.parts ∙ (ap (λ (o : List ℕ). o ++ drop (length input) input) t.parts ∙ append_assoc t.header t.rest (drop (length input) input))

  absent : (number place : ℕ) (octets : List ℕ) → Rest place octets → Later number octets → IsAbsent number input place
  absent number place octets p (inl none) = inl (let long = ap length none in omega (arith, p.ends, long))
  absent number place octets p (inr t) =
      inr (record { header = t.header; rest = t.rest ++ drop (length input) input; tag = t.tag; parts = other_number number place octets p t; tagged = t.tagged; other = λ n e. let same = ap (λ (tag : Tag). tag.number) e in absurd (omega (arith, t.above, same)) })

  none_opened : (number place : ℕ) (octets : List ℕ) → Rest place octets → Later number octets → IsNoneOpened number input place
  none_opened number place octets p (inl none) = inl (let long = ap length none in omega (arith, p.ends, long))
  none_opened number place octets p (inr t) =
      inr (record { header = t.header; rest = t.rest ++ drop (length input) input; found = t.tag; parts = other_number number place octets p t; tagged = t.tagged; other = λ e. let same = ap (λ (tag : Tag). tag.number) e in absurd (omega (arith, t.above, same)) })

  -- a parameter in front of others
  spelled_front : {X : Type 0} (Spells : List ℕ → X → Type 0) (place : ℕ) (octets rest : List ℕ) (x : X) → Spells octets x → Rest place (octets ++ rest) → IsSpelledAt Spells input place x (place + length octets)
  spelled_front Spells place octets rest x s p = let front = Stands-front input place octets rest (length input) p in record { octets = octets; rest = drop (place + length octets) input; spelled = s; there = front.parts; ends = refl }

  none_front : (place : ℕ) (octets rest : List ℕ) → octets ≡ [] → Rest place (octets ++ rest) → (place + length octets ≡ place) × Rest place rest
  none_front place octets rest none p = (let long = ap length none in omega (arith, long), subst (λ (o : List ℕ). Rest place (o ++ rest)) none p)

  optional_front : {X : Type 0} (Spells : List ℕ → X → Type 0) (number place : ℕ) (octets rest : List ℕ) (x : Option X) → SpellsIfGiven Spells octets x → Rest place (octets ++ rest) → Later number rest → IsOptionalAt Spells number input place x (place + length octets)
  optional_front Spells number place octets rest None none p later = let here = none_front place octets rest none p in (here.0, absent number place rest here.1 later)
  optional_front Spells number place octets rest (Some x) s p later = spelled_front Spells place octets rest x s p

  enclosed_front : {X : Type 0} (Spells : List ℕ → X → Type 0) (number place : ℕ) (octets rest : List ℕ) (x : Option X) → SpellsIfGiven (SpellsEnclosed number Spells) octets x → Rest place (octets ++ rest) → Later number rest → IsEnclosedAt Spells number input place x (place + length octets)
  enclosed_front Spells number place octets rest None none p later = let here = none_front place octets rest none p in (here.0, none_opened number place rest here.1 later)
  enclosed_front Spells number place octets rest (Some x) s p later = spelled_front (SpellsEnclosed number Spells) place octets rest x s p

  to_whole : (x : Filter) → IsFilterAt input x (length input) → SpellsFilter input x
  to_whole x h =
      let acked = spelled_from Acked input 0 x.acked h.recipient_at h.acked in
      let recipient = enclosed_given SpellsAsked 1 input h.recipient_at x.recipient h.state_at h.recipient in
      let state = optional_given State 2 input h.state_at x.state h.type_at h.state in
      let event_type = optional_given (Number 3) 3 input h.type_at x.event_type h.priorities_at h.event_type in
      let priorities = enclosed_given SpellsPriorities 4 input h.priorities_at x.priorities h.class_at h.priorities in
      let class = optional_given (Number 5) 5 input h.class_at x.class (length input) h.class in
      let last = Stands-then input h.priorities_at priorities.octets h.class_at class.octets (length input) priorities.stands class.stands in
      let later = Stands-then input h.type_at event_type.octets h.priorities_at (priorities.octets ++ class.octets) (length input) event_type.stands last in
      let middle = Stands-then input h.state_at state.octets h.type_at (event_type.octets ++ (priorities.octets ++ class.octets)) (length input) state.stands later in
      let early = Stands-then input h.recipient_at recipient.octets h.state_at (state.octets ++ (event_type.octets ++ (priorities.octets ++ class.octets))) (length input) recipient.stands middle in
      let all = Stands-then input 0 acked.octets h.recipient_at (recipient.octets ++ (state.octets ++ (event_type.octets ++ (priorities.octets ++ class.octets)))) (length input) acked.stands early in
      record {
        acked_octets = acked.octets;
        recipient_octets = recipient.octets;
        state_octets = state.octets;
        type_octets = event_type.octets;
        priority_octets = priorities.octets;
        class_octets = class.octets;
        parts = all_of (acked.octets ++ (recipient.octets ++ (state.octets ++ (event_type.octets ++ (priorities.octets ++ class.octets))))) all;
        acked = acked.spells;
        recipient = recipient.spelled;
        state = state.spelled;
        event_type = event_type.spelled;
        priorities = priorities.spelled;
        class = class.spelled;
      }

  from_whole : (x : Filter) → SpellsFilter input x → IsFilterAt input x (length input)
  from_whole x s =
      let five = s.class_octets in
      let four = s.priority_octets ++ five in
      let three = s.type_octets ++ four in
      let two = s.state_octets ++ three in
      let one = s.recipient_octets ++ two in
      let all : Rest 0 (s.acked_octets ++ one) = subst (λ (o : List ℕ). Rest 0 o) s.parts all_stand in
      let a = 0 + length s.acked_octets in
      let at_one : Rest a one = Stands-back input 0 s.acked_octets one (length input) all in
      let b = a + length s.recipient_octets in
      let at_two : Rest b two = Stands-back input a s.recipient_octets two (length input) at_one in
      let c = b + length s.state_octets in
      let at_three : Rest c three = Stands-back input b s.state_octets three (length input) at_two in
      let d = c + length s.type_octets in
      let at_four : Rest d four = Stands-back input c s.type_octets four (length input) at_three in
      let e = d + length s.priority_octets in
      let at_five : Rest e five = Stands-back input d s.priority_octets five (length input) at_four in
      record {
        recipient_at = a;
        state_at = b;
        type_at = c;
        priorities_at = d;
        class_at = e;
        acked = spelled_front Acked 0 s.acked_octets one x.acked s.acked all;
        recipient = enclosed_front SpellsAsked 1 a s.recipient_octets two x.recipient s.recipient at_one (in_two 1 (omega arith));
        state = optional_front State 2 b s.state_octets three x.state s.state at_two (in_three 2 (omega arith));
        event_type = optional_front (Number 3) 3 c s.type_octets four x.event_type s.event_type at_three (in_four 3 (omega arith));
        priorities = enclosed_front SpellsPriorities 4 d s.priority_octets five x.priorities s.priorities at_four (in_five 4 (omega arith));
        class = subst (λ (n : ℕ). IsOptionalAt (Number 5) 5 input e x.class n) (sym at_five.ends) (optional_front (Number 5) 5 e five [] x.class s.class (subst (λ (o : List ℕ). Rest e o) (sym (append-nil five)) at_five) (inl refl));
      }
    where
      in_five : (below : ℕ) → below < 5 → Later below s.class_octets
      in_five below less = subst (λ (o : List ℕ). Later below o) (append-nil s.class_octets) (later_given (Number 5) below (number_begins below 5 less) s.class_octets [] x.class s.class (inl refl))

      in_four : (below : ℕ) → below < 4 → Later below (s.priority_octets ++ s.class_octets)
      in_four below less = later_given (SpellsEnclosed 4 SpellsPriorities) below (enclosed_begins SpellsPriorities below 4 less) s.priority_octets s.class_octets x.priorities s.priorities (in_five below (omega (arith, less)))

      in_three : (below : ℕ) → below < 3 → Later below (s.type_octets ++ (s.priority_octets ++ s.class_octets))
      in_three below less = later_given (Number 3) below (number_begins below 3 less) s.type_octets (s.priority_octets ++ s.class_octets) x.event_type s.event_type (in_four below (omega (arith, less)))

      in_two : (below : ℕ) → below < 2 → Later below (s.state_octets ++ (s.type_octets ++ (s.priority_octets ++ s.class_octets)))
      in_two below less = later_given State below (λ octets y t. number_begins below 2 less octets y t.0) s.state_octets (s.type_octets ++ (s.priority_octets ++ s.class_octets)) x.state s.state (in_three below (omega (arith, less)))

pub request_answers : (input : List ℕ) → IsBytes input → Whole (SpellsFilter input) (RefusesEnrollmentRequest input) (enrollment_request_of input)
request_answers input bytes =
    whole_said (λ x. IsFilterAt input x (length input)) (SpellsFilter input) (RefusesEnrollmentRequest input) (enrollment_request_of input) (ended input (IsFilterAt input) (RefusesFilter input) (filter_at input) (filter_answers input bytes) (filter_within input bytes)) (to_whole input) (from_whole input)
