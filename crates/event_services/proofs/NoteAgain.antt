-- A notification that is spelled is read, whichever of its parameters are absent.
use Rattle.std.proofs.Common.{◌≡◌, ◌≢◌, ℕ, ◌+◌, ◌<◌, ◌≤◌, Bool, Option, Some, None, List, [], ◌++◌, length, drop, Ok, Err, refl, sym, ap, subst, ◌∙◌, append_assoc, arith}
use Rattle.std.proofs.lemmas.List.{append-nil}
use Rattle.bac_values.specs.Identifier.{ObjectIdData}
use Rattle.bac_values.specs.declared.event_state.EventState.{EventState}
use Rattle.bac_values.specs.declared.stamp.Stamp.{Stamp}
use Rattle.bac_tags.specs.declared.fault.TagFault.TheVariants.{WrongTag}
use Rattle.bac_tags.specs.declared.tag.Tag.{Tag}
use Rattle.bac_tags.specs.Tags.{SpellsTag}
use Rattle.bac_tags.specs.Elements.{element_tag, SpellsElement, HasOtherTag}
use Rattle.bac_tags.specs.Contents.{IsUnsigned, SpellsObject, SpellsBoolean}
use Rattle.bac_tags.specs.ReadingSteps.{content_at, unsigned_at, object_at, boolean_at}
use Rattle.bac_tags.proofs.Standing.{Stands, Stands-front, Stands-back, Stands-within}
use Rattle.bac_tags.proofs.ElementLaws.{header_other}
use Rattle.bac_tags.specs.ParameterReadingSteps.{optional}
use Rattle.bac_tags.proofs.ElementReaders.{Reader, object_reader, boolean_reader}
use Rattle.bac_tags.proofs.Sequences.{required_again, nothing_none}
use Rattle.bac_tags.proofs.OptionalReaders.{optional_again, optional_none}
use Rattle.event_services.specs.declared.notification.Notification.{Notification}
use Rattle.event_services.specs.NoteReadingSteps.{Reads, number_at, octet_number_at, state_at, text_at, moment_at, values_at}
use Rattle.event_services.specs.NoteServiceSteps.{source_at, kind_at, states_at, notification_of}
use Rattle.event_services.specs.NoteGrammar.{SpellsNumber, SpellsOctetNumber, SpellsState, SpellsText, SpellsMoment, SpellsValuesOf, SpellsNotification}
use Rattle.bac_tags.specs.Parameters.{SpellsIfGiven}
use Rattle.event_services.proofs.AckLaws.{from_start}
use Rattle.event_services.proofs.NoteReaders.{number_reader, octet_number_reader, state_reader, text_reader, moment_reader}
use Rattle.event_services.proofs.ToldReaders.{values_reader}

-- ---- where another parameter stands

-- a whole tag with this number stands there
record Ahead (number : ℕ) (input : List ℕ) (place : ℕ) : Type 0 where
  header : List ℕ
  rest : List ℕ
  tag : Tag
  parts : drop place input ≡ header ++ rest
  tagged : SpellsTag header tag
  numbered : tag.number ≡ number

ahead : {X : Type 0} (number type : ℕ) (IsContent : List ℕ → X → Type 0) (input : List ℕ) (place : ℕ) (octets : List ℕ) (x : X) (end : ℕ) → SpellsElement type (Some number) IsContent octets x → Stands input place octets end → Ahead number input place
ahead number type IsContent input place octets x end s p = record {
  header = s.header;
  rest = s.content ++ drop end input;
  tag = element_tag type (Some number) (length s.content);
  parts = p.parts ∙ ap (λ (o : List ℕ). o ++ drop end input) s.parts ∙ append_assoc s.header s.content (drop end input);
  tagged = s.tagged;
  numbered = refl;
}

other : (there number type : ℕ) (input : List ℕ) (place : ℕ) → there ≢ number → Ahead there input place → HasOtherTag type (Some number) (drop place input)
other there number type input place differ a = record { header = a.header; rest = a.rest; tag = a.tag; parts = a.parts; tagged = a.tagged; other = λ n same. differ (sym a.numbered ∙ ap (λ (t : Tag). t.number) same) }

content_other : (input : List ℕ) (place type number least most : ℕ) → HasOtherTag type (Some number) (drop place input) → content_at input place type (Some number) least most ≡ Err (WrongTag place)
unfolding content_at
content_other input place type number least most h = rw (header_other input place type (Some number) h) refl

state_other : (input : List ℕ) (place number : ℕ) → HasOtherTag 2 (Some number) (drop place input) → state_at number input place ≡ Err (WrongTag place)
unfolding state_at unsigned_at
state_other input place number h = rw (content_other input place 2 number 1 4 h) refl

text_other : (input : List ℕ) (place number : ℕ) → HasOtherTag 0 (Some number) (drop place input) → text_at number input place ≡ Err (WrongTag place)
unfolding text_at
text_other input place number h = rw (content_other input place 0 number 1 257 h) refl

boolean_other : (input : List ℕ) (place number : ℕ) → HasOtherTag 1 (Some number) (drop place input) → boolean_at input place (Some number) ≡ Err (WrongTag place)
unfolding boolean_at
boolean_other input place number h = rw (content_other input place 1 number 1 1 h) refl

-- ---- an optional parameter, there or not

allowed_again : {X : Type 0} (Spells : List ℕ → X → Type 0) (read : Reads X) → Reader Spells read → (input : List ℕ) (place : ℕ) (octets : List ℕ) (x : Option X) (end : ℕ) → place ≤ length input → SpellsIfGiven Spells octets x → Stands input place octets end
    → (end ≡ place → place < length input → read input place ≡ Err (WrongTag place)) → optional input place (read input place) ≡ Ok (x, end)
allowed_again Spells read r input place octets (Some x) end le s p absent = optional_again Spells read r input place octets x end le s p
allowed_again Spells read r input place octets None end le s p absent =
    let same : end ≡ place = omega (arith, p.ends, ap length s) in
    rw same (optional_none input place (read input place) (absent same))

-- ---- the groups of parameters

source_again : (input : List ℕ) (a b c d : List ℕ) (end : ℕ) (process : ℕ) (device object : ObjectIdData) (stamp : Stamp) → SpellsNumber 0 a process → SpellsObject (Some 1) b device → SpellsObject (Some 2) c object → SpellsMoment 3 d stamp
    → Stands input 0 (a ++ (b ++ (c ++ d))) end → source_at input ≡ Ok ((process, device, object, stamp), end)
unfolding source_at
source_again input a b c d end process device object stamp sa sb sc sd p =
    let q1 = Stands-front input 0 a (b ++ (c ++ d)) end p in
    let p1 = Stands-back input 0 a (b ++ (c ++ d)) end p in
    let e1 = 0 + length a in
    let l1 : e1 ≤ length input = Stands-within input 0 a e1 (omega arith) q1 in
    let q2 = Stands-front input e1 b (c ++ d) end p1 in
    let p2 = Stands-back input e1 b (c ++ d) end p1 in
    let e2 = e1 + length b in
    let l2 : e2 ≤ length input = Stands-within input e1 b e2 l1 q2 in
    let q3 = Stands-front input e2 c d end p2 in
    let p3 = Stands-back input e2 c d end p2 in
    let e3 = e2 + length c in
    let l3 : e3 ≤ length input = Stands-within input e2 c e3 l2 q3 in
    rw (
      required_again (SpellsNumber 0) (number_at 0) (number_reader 0) input 0 a process e1 (omega arith) sa q1,
      required_again (SpellsObject (Some 1)) (λ input place. object_at input place (Some 1)) (object_reader 1) input e1 b device e2 l1 sb q2,
      required_again (SpellsObject (Some 2)) (λ input place. object_at input place (Some 2)) (object_reader 2) input e2 c object e3 l2 sc q3,
      required_again (SpellsMoment 3) (moment_at 3) (moment_reader 3) input e3 d stamp end l3 sd p3,
    )
    refl

kind_again : (input : List ℕ) (place : ℕ) (a b c : List ℕ) (end : ℕ) (class priority type : ℕ) → place ≤ length input → SpellsNumber 4 a class → SpellsOctetNumber 5 b priority → SpellsOctetNumber 6 c type → Stands input place (a ++ (b ++ c)) end
    → kind_at input place ≡ Ok ((class, priority, type), end)
unfolding kind_at
kind_again input place a b c end class priority type le sa sb sc p =
    let q1 = Stands-front input place a (b ++ c) end p in
    let p1 = Stands-back input place a (b ++ c) end p in
    let e1 = place + length a in
    let l1 : e1 ≤ length input = Stands-within input place a e1 le q1 in
    let q2 = Stands-front input e1 b c end p1 in
    let p2 = Stands-back input e1 b c end p1 in
    let e2 = e1 + length b in
    let l2 : e2 ≤ length input = Stands-within input e1 b e2 l1 q2 in
    rw (
      required_again (SpellsNumber 4) (number_at 4) (number_reader 4) input place a class e1 le sa q1,
      required_again (SpellsOctetNumber 5) (octet_number_at 5) (octet_number_reader 5) input e1 b priority e2 l1 sb q2,
      required_again (SpellsOctetNumber 6) (octet_number_at 6) (octet_number_reader 6) input e2 c type end l2 sc p2,
    )
    refl

-- what stands behind a notify type: the state before, or the state after
behind_notify : (input : List ℕ) (place : ℕ) (c d : List ℕ) (end : ℕ) (from : Option EventState) (to : EventState) → SpellsIfGiven (SpellsState 10) c from → SpellsState 11 d to → Stands input place (c ++ d) end → HasOtherTag 1 (Some 9) (drop place input)
behind_notify input place c d end (Some state) to sc sd p = other 10 9 1 input place (λ e. omega (arith, e)) (ahead 10 2 IsUnsigned input place c _ (place + length c) sc (Stands-front input place c d end p))
behind_notify input place c d end None to sc sd p = other 11 9 1 input place (λ e. omega (arith, e)) (ahead 11 2 IsUnsigned input place d _ end sd (subst (λ (o : List ℕ). Stands input place (o ++ d) end) sc p))

states_again : (input : List ℕ) (place : ℕ) (a b c d : List ℕ) (end notify : ℕ) (ack : Option Bool) (from : Option EventState) (to : EventState) → place ≤ length input
    → SpellsOctetNumber 8 a notify → SpellsIfGiven (SpellsBoolean (Some 9)) b ack → SpellsIfGiven (SpellsState 10) c from → SpellsState 11 d to → Stands input place (a ++ (b ++ (c ++ d))) end → states_at input place ≡ Ok ((notify, ack, from, to), end)
unfolding states_at
states_again input place a b c d end notify ack from to le sa sb sc sd p =
    let q1 = Stands-front input place a (b ++ (c ++ d)) end p in
    let p1 = Stands-back input place a (b ++ (c ++ d)) end p in
    let e1 = place + length a in
    let l1 : e1 ≤ length input = Stands-within input place a e1 le q1 in
    let q2 = Stands-front input e1 b (c ++ d) end p1 in
    let p2 = Stands-back input e1 b (c ++ d) end p1 in
    let e2 = e1 + length b in
    let l2 : e2 ≤ length input = Stands-within input e1 b e2 l1 q2 in
    let q3 = Stands-front input e2 c d end p2 in
    let p3 = Stands-back input e2 c d end p2 in
    let e3 = e2 + length c in
    let l3 : e3 ≤ length input = Stands-within input e2 c e3 l2 q3 in
    rw (
      required_again (SpellsOctetNumber 8) (octet_number_at 8) (octet_number_reader 8) input place a notify e1 le sa q1,
      allowed_again (SpellsBoolean (Some 9)) (λ input place. boolean_at input place (Some 9)) (boolean_reader 9) input e1 b ack e2 l1 sb q2 (λ same lt. boolean_other input e1 9 (subst (λ (k : ℕ). HasOtherTag 1 (Some 9) (drop k input)) same (behind_notify input e2 c d end from to sc sd p2))),
      allowed_again (SpellsState 10) (state_at 10) (state_reader 10) input e2 c from e3 l2 sc q3 (λ same lt. state_other input e2 10 (subst (λ (k : ℕ). HasOtherTag 2 (Some 10) (drop k input)) same (other 11 10 2 input e3 (λ e. omega (arith, e)) (ahead 11 2 IsUnsigned input e3 d _ end sd p3)))),
      required_again (SpellsState 11) (state_at 11) (state_reader 11) input e3 d to end l3 sd p3,
    )
    refl

-- ---- the whole

pub note_again : (input : List ℕ) (note : Notification) → SpellsNotification input note → notification_of input ≡ Ok note
unfolding notification_of
note_again input note s =
    let a = s.process ++ (s.device ++ (s.object ++ s.stamp)) in
    let b = s.class ++ (s.priority ++ s.type) in
    let d = s.notify ++ (s.ack ++ (s.from ++ s.to)) in
    let whole = from_start input (a ++ (b ++ (s.text ++ (d ++ s.values)))) [] (s.parts ∙ sym (append-nil (a ++ (b ++ (s.text ++ (d ++ s.values)))))) in
    let end = length (a ++ (b ++ (s.text ++ (d ++ s.values)))) in
    let q1 = Stands-front input 0 a (b ++ (s.text ++ (d ++ s.values))) end whole in
    let p1 = Stands-back input 0 a (b ++ (s.text ++ (d ++ s.values))) end whole in
    let e1 = 0 + length a in
    let l1 : e1 ≤ length input = Stands-within input 0 a e1 (omega arith) q1 in
    let q2 = Stands-front input e1 b (s.text ++ (d ++ s.values)) end p1 in
    let p2 = Stands-back input e1 b (s.text ++ (d ++ s.values)) end p1 in
    let e2 = e1 + length b in
    let l2 : e2 ≤ length input = Stands-within input e1 b e2 l1 q2 in
    let q3 = Stands-front input e2 s.text (d ++ s.values) end p2 in
    let p3 = Stands-back input e2 s.text (d ++ s.values) end p2 in
    let e3 = e2 + length s.text in
    let l3 : e3 ≤ length input = Stands-within input e2 s.text e3 l2 q3 in
    let q4 = Stands-front input e3 d s.values end p3 in
    let p4 = Stands-back input e3 d s.values end p3 in
    let e4 = e3 + length d in
    let l4 : e4 ≤ length input = Stands-within input e3 d e4 l3 q4 in
    let past : length input ≤ end = omega (arith, ap length s.parts) in
    let first = Stands-front input e3 s.notify (s.ack ++ (s.from ++ s.to)) e4 q4 in
    rw (
      source_again input s.process s.device s.object s.stamp e1 note.process note.device note.object note.stamp s.named_process s.named_device s.named_object s.stamped q1,
      kind_again input e1 s.class s.priority s.type e2 note.class note.priority note.event_type l1 s.classed s.ranked s.typed q2,
      allowed_again (SpellsText 7) (text_at 7) (text_reader 7) input e2 s.text note.text e3 l2 s.worded q3 (λ same lt. text_other input e2 7 (subst (λ (k : ℕ). HasOtherTag 0 (Some 7) (drop k input)) same (other 8 7 0 input e3 (λ e. omega (arith, e)) (ahead 8 2 IsUnsigned input e3 s.notify note.notify (e3 + length s.notify) s.notified.0 first)))),
      states_again input e3 s.notify s.ack s.from s.to e4 note.notify note.ack_required note.from note.to l3 s.notified s.required s.left s.entered q4,
      allowed_again (SpellsValuesOf note.event_type) (values_at note.event_type) (values_reader note.event_type) input e4 s.values note.values end l4 s.told p4 (λ same lt. absurd (omega (arith, same, lt, past))),
      nothing_none input end past,
    )
    refl
