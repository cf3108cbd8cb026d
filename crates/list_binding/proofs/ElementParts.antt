-- An element that is read stands there, and one that stands there is read.
use Rattle.std.proofs.Common.{◌≡◌, ℕ, ◌+◌, ◌≤◌, Bool, Option, None, List, ◌++◌, length, Result, Ok, refl, ap, subst, arith}
use Rattle.std.proofs.lemmas.List.{length-append}
use Rattle.bac_values.specs.BitString.{BitsData}
use Rattle.bac_tags.specs.declared.fault.TagFault.{TagFault}
use Rattle.bac_tags.specs.Contents.{IsAnyBits, SpellsAnyBits, SpellsBoolean}
use Rattle.bac_tags.specs.Elements.{longest_content}
use Rattle.bac_tags.specs.ReadingSteps.{◌>>=◌, any_bits_at, any_bits_of, boolean_at, content_at, time_at, unsigned_at}
use Rattle.bac_tags.specs.Stamps.{IsFour, SpellsTime}
use Rattle.bac_tags.proofs.Answered.{Spelled}
use Rattle.bac_tags.proofs.Booleans.{ReadsBoolean, reads_boolean}
use Rattle.bac_tags.proofs.ElementReaders.{element_some, read_found, spelled_to}
use Rattle.bac_tags.proofs.LongReaders.{IsShort, any_bits_forms, as_it_is, number_reader, reads_any_bits}
use Rattle.bac_tags.proofs.Numbers.{four_values}
use Rattle.bac_tags.proofs.Readers.{Reads, ReadsForm, reads, reads_form}
use Rattle.bac_tags.proofs.Standing.{IsBytes, Stands, Stands-back, Stands-front, Stands-then, Stands-within}
use Rattle.bac_tags.proofs.Steps.{bind_ok, ok_is}
use Rattle.recipients.specs.Recipients.{RecipientData, SpellsRecipient}
use Rattle.recipients.specs.RecipientSteps.{recipient_at}
use Rattle.recipients.proofs.RecipientReaders.{recipient_again, recipient_found, short_recipient}
use Rattle.list_binding.specs.Elements.{ElementData, SpellsDestination}
use Rattle.list_binding.specs.EditSteps.{element_at}

module _ (input : List ℕ) (bytes : IsBytes input) where
  -- ---- the parts

  bits_reads : (place : ℕ) → place ≤ length input → ReadsForm 8 None 1 longest_content IsAnyBits input place (any_bits_at input place)
  unfolding any_bits_at
  bits_reads place le =
      reads_any_bits input place (any_bits_at input place) bytes (reads_form 8 None 1 longest_content any_bits_of (IsShort IsAnyBits) any_bits_forms input place (any_bits_at input place) bytes le refl)

  bits_found : (place : ℕ) (x : Option BitsData × ℕ) → place ≤ length input → any_bits_at input place ≡ Ok x → Spelled SpellsAnyBits input place x.0 x.1
  bits_found place x le e = read_found SpellsAnyBits input place (any_bits_at input place) x e (bits_reads place le).found

  bits_again : (place : ℕ) (octets : List ℕ) (x : Option BitsData) (end : ℕ) → place ≤ length input → SpellsAnyBits octets x → Stands input place octets end → any_bits_at input place ≡ Ok (x, end)
  bits_again place octets x end le s p = (bits_reads place le).only x end (spelled_to SpellsAnyBits input place x end (record { octets = octets; stands = p; spells = s }))

  time_reads : (place : ℕ) → place ≤ length input → Reads 11 None 4 4 IsFour input place (time_at input place)
  unfolding time_at
  time_reads place le = reads 11 None 4 4 (λ octets. octets) IsFour four_values input place (time_at input place) bytes le (as_it_is (content_at input place 11 None 4 4))

  time_found : (place : ℕ) (x : List ℕ × ℕ) → place ≤ length input → time_at input place ≡ Ok x → Spelled SpellsTime input place x.0 x.1
  time_found place x le e = read_found SpellsTime input place (time_at input place) x e (time_reads place le).found

  time_again : (place : ℕ) (octets : List ℕ) (x : List ℕ) (end : ℕ) → place ≤ length input → SpellsTime octets x → Stands input place octets end → time_at input place ≡ Ok (x, end)
  time_again place octets x end le s p = (time_reads place le).only x end (spelled_to SpellsTime input place x end (record { octets = octets; stands = p; spells = s }))

  truth_reads : (place : ℕ) → place ≤ length input → ReadsBoolean None input place (boolean_at input place None)
  truth_reads place le = reads_boolean None input place (boolean_at input place None) bytes le refl

  truth_found : (place : ℕ) (x : Bool × ℕ) → place ≤ length input → boolean_at input place None ≡ Ok x → Spelled (SpellsBoolean None) input place x.0 x.1
  truth_found place x le e = read_found (SpellsBoolean None) input place (boolean_at input place None) x e (truth_reads place le).found

  truth_again : (place : ℕ) (octets : List ℕ) (x : Bool) (end : ℕ) → place ≤ length input → SpellsBoolean None octets x → Stands input place octets end → boolean_at input place None ≡ Ok (x, end)
  truth_again place octets x end le s p = (truth_reads place le).only x end (spelled_to (SpellsBoolean None) input place x end (record { octets = octets; stands = p; spells = s }))

  who_again : (place : ℕ) (octets : List ℕ) (x : RecipientData) (end : ℕ) → place ≤ length input → SpellsRecipient octets x → Stands input place octets end → recipient_at input place ≡ Ok (x, end)
  who_again place octets x end le s p = recipient_again input place octets x end le (short_recipient input place octets x end bytes s p) p

  -- ---- the element

  abbrev made : Option BitsData → List ℕ → List ℕ → RecipientData → ℕ → Bool → Option BitsData → ElementData
  made days from to recipient process confirmed transitions = record { days = days; from = from; to = to; recipient = recipient; process = process; confirmed = confirmed; transitions = transitions }

  abbrev with_transitions : Option BitsData → List ℕ → List ℕ → RecipientData → ℕ → Bool → Option BitsData × ℕ → Result (ElementData × ℕ) TagFault
  with_transitions days from to recipient process confirmed transitions = Ok (made days from to recipient process confirmed transitions.0, transitions.1)

  abbrev with_confirmed : Option BitsData → List ℕ → List ℕ → RecipientData → ℕ → Bool × ℕ → Result (ElementData × ℕ) TagFault
  with_confirmed days from to recipient process confirmed = any_bits_at input confirmed.1 >>= with_transitions days from to recipient process confirmed.0

  abbrev with_process : Option BitsData → List ℕ → List ℕ → RecipientData → ℕ × ℕ → Result (ElementData × ℕ) TagFault
  with_process days from to recipient process = boolean_at input process.1 None >>= with_confirmed days from to recipient process.0

  abbrev with_recipient : Option BitsData → List ℕ → List ℕ → RecipientData × ℕ → Result (ElementData × ℕ) TagFault
  with_recipient days from to recipient = unsigned_at input recipient.1 None >>= with_process days from to recipient.0

  abbrev with_to : Option BitsData → List ℕ → List ℕ × ℕ → Result (ElementData × ℕ) TagFault
  with_to days from to = recipient_at input to.1 >>= with_recipient days from to.0

  abbrev with_from : Option BitsData → List ℕ × ℕ → Result (ElementData × ℕ) TagFault
  with_from days from = time_at input from.1 >>= with_to days from.0

  abbrev with_days : Option BitsData × ℕ → Result (ElementData × ℕ) TagFault
  with_days days = time_at input days.1 >>= with_from days.0

  pub element_found : (place : ℕ) (x : ElementData × ℕ) → place ≤ length input → element_at input place ≡ Ok x → Spelled SpellsDestination input place x.0 x.1
  unfolding element_at
  element_found place x le e =
      let a = bind_ok (any_bits_at input place) with_days x e in
      let days = bits_found place a.0 le a.1 in
      let le = Stands-within input place days.octets a.0.1 le days.stands in
      let b = bind_ok (time_at input a.0.1) (with_from a.0.0) x a.2 in
      let from = time_found a.0.1 b.0 le b.1 in
      let le = Stands-within input a.0.1 from.octets b.0.1 le from.stands in
      let c = bind_ok (time_at input b.0.1) (with_to a.0.0 b.0.0) x b.2 in
      let to = time_found b.0.1 c.0 le c.1 in
      let le = Stands-within input b.0.1 to.octets c.0.1 le to.stands in
      let d = bind_ok (recipient_at input c.0.1) (with_recipient a.0.0 b.0.0 c.0.0) x c.2 in
      let recipient = recipient_found input c.0.1 d.0 bytes le d.1 in
      let le = Stands-within input c.0.1 recipient.octets d.0.1 le recipient.stands in
      let f = bind_ok (unsigned_at input d.0.1 None) (with_process a.0.0 b.0.0 c.0.0 d.0.0) x d.2 in
      let process = number_reader.found input d.0.1 f.0 bytes le f.1 in
      let le = Stands-within input d.0.1 process.octets f.0.1 le process.stands in
      let g = bind_ok (boolean_at input f.0.1 None) (with_confirmed a.0.0 b.0.0 c.0.0 d.0.0 f.0.0) x f.2 in
      let confirmed = truth_found f.0.1 g.0 le g.1 in
      let le = Stands-within input f.0.1 confirmed.octets g.0.1 le confirmed.stands in
      let h = bind_ok (any_bits_at input g.0.1) (with_transitions a.0.0 b.0.0 c.0.0 d.0.0 f.0.0 g.0.0) x g.2 in
      let transitions = bits_found g.0.1 h.0 le h.1 in
      let last = confirmed.octets ++ transitions.octets in
      let later = process.octets ++ last in
      let behind = recipient.octets ++ later in
      let window = to.octets ++ behind in
      let all =
      Stands-then input place days.octets a.0.1 (from.octets ++ window) h.0.1 days.stands (Stands-then input a.0.1 from.octets b.0.1 window h.0.1 from.stands
      (Stands-then input b.0.1 to.octets c.0.1 behind h.0.1 to.stands (Stands-then input c.0.1 recipient.octets d.0.1 later h.0.1 recipient.stands
      (Stands-then input d.0.1 process.octets f.0.1 last h.0.1 process.stands (Stands-then input f.0.1 confirmed.octets g.0.1 transitions.octets h.0.1 confirmed.stands transitions.stands))))) in
      subst (λ (y : ElementData × ℕ). Spelled SpellsDestination input place y.0 y.1) (ok_is (made a.0.0 b.0.0 c.0.0 d.0.0 f.0.0 g.0.0 h.0.0, h.0.1) x h.2) (record {
        octets = days.octets ++ (from.octets ++ window);
        stands = all;
        spells = record {
          days_octets = days.octets;
          from_octets = from.octets;
          to_octets = to.octets;
          recipient_octets = recipient.octets;
          process_octets = process.octets;
          confirmed_octets = confirmed.octets;
          transitions_octets = transitions.octets;
          parts = refl;
          days = days.spells;
          from = from.spells;
          to = to.spells;
          recipient = recipient.spells;
          process = process.spells;
          confirmed = confirmed.spells;
          transitions = transitions.spells;
        };
      })

  pub element_again : (place : ℕ) (octets : List ℕ) (x : ElementData) (end : ℕ) → place ≤ length input → SpellsDestination octets x → Stands input place octets end → element_at input place ≡ Ok (x, end)
  unfolding element_at
  element_again place octets x end le s p =
      let last = s.confirmed_octets ++ s.transitions_octets in
      let later = s.process_octets ++ last in
      let behind = s.recipient_octets ++ later in
      let window = s.to_octets ++ behind in
      let all : Stands input place (s.days_octets ++ (s.from_octets ++ window)) end = subst (λ (o : List ℕ). Stands input place o end) s.parts p in
      let from_at = place + length s.days_octets in
      let days_stand = Stands-front input place s.days_octets (s.from_octets ++ window) end all in
      let all = Stands-back input place s.days_octets (s.from_octets ++ window) end all in
      let days = bits_again place s.days_octets x.days from_at le s.days days_stand in
      let le = Stands-within input place s.days_octets from_at le days_stand in
      let to_at = from_at + length s.from_octets in
      let from_stand = Stands-front input from_at s.from_octets window end all in
      let all = Stands-back input from_at s.from_octets window end all in
      let from = time_again from_at s.from_octets x.from to_at le s.from from_stand in
      let le = Stands-within input from_at s.from_octets to_at le from_stand in
      let recipient_place = to_at + length s.to_octets in
      let to_stand = Stands-front input to_at s.to_octets behind end all in
      let all = Stands-back input to_at s.to_octets behind end all in
      let to = time_again to_at s.to_octets x.to recipient_place le s.to to_stand in
      let le = Stands-within input to_at s.to_octets recipient_place le to_stand in
      let process_at = recipient_place + length s.recipient_octets in
      let recipient_stand = Stands-front input recipient_place s.recipient_octets later end all in
      let all = Stands-back input recipient_place s.recipient_octets later end all in
      let recipient = who_again recipient_place s.recipient_octets x.recipient process_at le s.recipient recipient_stand in
      let le = Stands-within input recipient_place s.recipient_octets process_at le recipient_stand in
      let confirmed_at = process_at + length s.process_octets in
      let process_stand = Stands-front input process_at s.process_octets last end all in
      let all = Stands-back input process_at s.process_octets last end all in
      let process = number_reader.again input process_at s.process_octets x.process confirmed_at le s.process process_stand in
      let le = Stands-within input process_at s.process_octets confirmed_at le process_stand in
      let transitions_at = confirmed_at + length s.confirmed_octets in
      let confirmed_stand = Stands-front input confirmed_at s.confirmed_octets s.transitions_octets end all in
      let all = Stands-back input confirmed_at s.confirmed_octets s.transitions_octets end all in
      let confirmed = truth_again confirmed_at s.confirmed_octets x.confirmed transitions_at le s.confirmed confirmed_stand in
      let le = Stands-within input confirmed_at s.confirmed_octets transitions_at le confirmed_stand in
      let transitions = bits_again transitions_at s.transitions_octets x.transitions end le s.transitions all in
      rw (days, from, to, recipient, process, confirmed, transitions) refl

  -- it has some octets
  pub element_grows : (octets : List ℕ) (x : ElementData) → SpellsDestination octets x → 1 ≤ length octets
  element_grows octets x s =
      omega (arith, ap length s.parts, length-append s.days_octets (s.from_octets ++ (s.to_octets ++ (s.recipient_octets ++ (s.process_octets ++ (s.confirmed_octets ++ s.transitions_octets))))), element_some 8 None IsAnyBits s.days_octets x.days s.days)
