-- What is written of a notification spells it.
use Rattle.std.proofs.Common.{◌≡◌, ℕ, ◌^◌, ◌<◌, ◌≤◌, Bool, true, false, Option, Some, None, List, ◌∷◌, ◌++◌, length, Ok, refl, subst, append_assoc, arith}
use Rattle.std.specs.Int.{from_bool}
use Rattle.bac_values.specs.EventStates.{number_of_state}
use Rattle.bac_values.specs.Reliabilities.{number_of_reliability}
use Rattle.bac_values.specs.declared.event_state.EventState.{EventState}
use Rattle.bac_values.specs.declared.event_state.EventState.TheVariants as states
use Rattle.bac_values.specs.declared.reliability.Reliability.{Reliability as Reliable}
use Rattle.bac_values.specs.declared.reliability.Reliability.TheVariants as reliabilities
use Rattle.bac_values.specs.declared.stamp.Stamp.{Stamp}
use Rattle.bac_values.specs.declared.status_flags.StatusFlags.{StatusFlags}
use Rattle.bac_values.specs.declared.value.Value.{Value}
use Rattle.bac_tags.specs.Contents.{SpellsBoolean}
use Rattle.bac_tags.specs.Stamps.{SpellsStamp}
use Rattle.bac_tags.specs.Values.{SpellsValue, IsOneElement}
use Rattle.bac_tags.specs.Writing.{written_tag, written_unsigned, written_signed, written_object, written_boolean, written_bits, written_stamp, written_value}
use Rattle.bac_tags.proofs.Written.{tag_written}
use Rattle.bac_tags.proofs.WrittenElements.{element_written, unsigned_written, signed_written, object_written, boolean_written, bits_written, stamp_written, value_written}
use Rattle.bac_tags.specs.EnclosingTags.{opening, closing, SpellsEnclosed}
use Rattle.event_services.specs.declared.notification.Notification.{Notification}
use Rattle.event_services.specs.declared.notification.EventValues.{EventValues}
use Rattle.event_services.specs.declared.notification.EventValues.TheVariants.{Bitstring, State, Command, UnsignedRange, SignedOutOfRange, UnsignedOutOfRange, Characterstring, Reliability}
use Rattle.event_services.specs.Notifications.{type_of_values, written_text_in, bits_of_flags, written_flags, state_number, written_property, written_told, written_values, written_notification}
use Rattle.bac_tags.specs.ParameterWriting.{written_enclosed, written_if_given}
use Rattle.event_services.specs.NoteServiceSteps.{notification_of}
use Rattle.event_services.specs.NoteGrammar.{SpellsBoth, SpellsNumber, SpellsOctetNumber, SpellsState, SpellsReliability, SpellsFlags, IsTextContent, SpellsText, SpellsMoment, SpellsPropertyState, SpellsPropertyList, SpellsTold, SpellsToldOf, SpellsValuesOf, SpellsNotification}
use Rattle.bac_tags.specs.Parameters.{SpellsIfGiven}
use Rattle.event_services.specs.NoteRanges.{IsLong, IsText, IfAny, IsInRange, IsNotable}
use Rattle.event_services.proofs.NoteAgain.{note_again}

enclosed_written : {X : Type 0} (Spells : List ℕ → X → Type 0) (number : ℕ) (inside : List ℕ) (x : X) → Spells inside x → SpellsEnclosed number Spells (written_enclosed number inside) x
enclosed_written Spells number inside x s = record {
  front = written_tag (opening number);
  inside = inside;
  back = written_tag (closing number);
  parts = append_assoc (written_tag (opening number)) inside (written_tag (closing number));
  opened = tag_written (opening number) tt;
  spelled = s;
  closed = tag_written (closing number) tt;
}

both_written : {X Y : Type 0} (First : List ℕ → X → Type 0) (Second : List ℕ → Y → Type 0) (a b : List ℕ) (x : X) (y : Y) → First a x → Second b y → SpellsBoth First Second (a ++ b) (x, y)
both_written First Second a b x y s t = record { front = a; back = b; parts = refl; first = s; second = t }

three_written : {X Y Z : Type 0} (First : List ℕ → X → Type 0) (Second : List ℕ → Y → Type 0) (Third : List ℕ → Z → Type 0) (a b c : List ℕ) (x : X) (y : Y) (z : Z) → First a x → Second b y → Third c z
    → SpellsBoth First (SpellsBoth Second Third) (a ++ b ++ c) (x, (y, z))
three_written First Second Third a b c x y z s t u =
    record { front = a; back = b ++ c; parts = append_assoc a b c; first = s; second = both_written Second Third b c y z t u }

four_written : {X Y Z W : Type 0} (First : List ℕ → X → Type 0) (Second : List ℕ → Y → Type 0) (Third : List ℕ → Z → Type 0) (Fourth : List ℕ → W → Type 0) (a b c d : List ℕ) (x : X) (y : Y) (z : Z) (w : W) → First a x → Second b y → Third c z → Fourth d w
    → SpellsBoth First (SpellsBoth Second (SpellsBoth Third Fourth)) (a ++ b ++ c ++ d) (x, (y, (z, w)))
four_written First Second Third Fourth a b c d x y z w s t u v =
    record { front = a; back = b ++ (c ++ d); parts = simp append_assoc; first = s; second = record { front = b; back = c ++ d; parts = refl; first = t; second = both_written Third Fourth c d z w u v } }

number_written : (number n : ℕ) → IsLong n → SpellsNumber number (written_unsigned (Some number) n) n
number_written number n fits = unsigned_written (Some number) n fits

octet_written : (number n : ℕ) → n < 256 → SpellsOctetNumber number (written_unsigned (Some number) n) n
octet_written number n lt = (unsigned_written (Some number) n (omega arith), lt)

state_small : (state : EventState) → number_of_state state < 2 ^ 32
state_small states.Normal = omega arith
state_small states.Fault = omega arith
state_small states.Offnormal = omega arith
state_small states.HighLimit = omega arith
state_small states.LowLimit = omega arith

reliability_small : (reliability : Reliable) → number_of_reliability reliability < 2 ^ 32
reliability_small reliabilities.NoFaultDetected = omega arith
reliability_small reliabilities.OverRange = omega arith
reliability_small reliabilities.UnderRange = omega arith
reliability_small reliabilities.UnreliableOther = omega arith
reliability_small reliabilities.MultiStateFault = omega arith
reliability_small reliabilities.CommunicationFailure = omega arith
reliability_small reliabilities.MonitoredObjectFault = omega arith

bit_small : (b : Bool) → from_bool b ≤ 1
bit_small true = omega arith
bit_small false = omega arith

flags_written : (flags : StatusFlags) → SpellsFlags (written_flags flags) flags
flags_written flags =
    bits_written (Some 1) (bits_of_flags flags) (omega arith, omega (arith, bit_small flags.in_alarm, bit_small flags.fault, bit_small flags.overridden, bit_small flags.out_of_service))

text_written : (number : ℕ) (text : List ℕ) → IsText text → SpellsText number (written_text_in number text) text
text_written number text h = let s = element_written 7 (Some number) IsTextContent (0 ∷ text) text (long text h.0) (refl, h.0, h.1) in record { header = s.header; content = s.content; parts = s.parts; tagged = s.tagged; is = s.is }
  where
    long : (text : List ℕ) → length text ≤ 256 → length (0 ∷ text) < 2 ^ 32
    long text le = omega arith

moment_written : (number : ℕ) (stamp : Stamp) → length stamp.octets ≡ 8 → SpellsMoment number (written_enclosed number (written_enclosed 2 (written_stamp stamp))) stamp
moment_written number stamp eight =
    enclosed_written (SpellsEnclosed 2 SpellsStamp) number (written_enclosed 2 (written_stamp stamp)) stamp (enclosed_written SpellsStamp 2 (written_stamp stamp) stamp (stamp_written stamp eight))

held_written : (number : ℕ) (value : Value) → IsOneElement value → SpellsEnclosed number SpellsValue (written_enclosed number (written_value value)) value
held_written number value h = enclosed_written SpellsValue number (written_value value) value (value_written value h)

property_state_written : (binary : Bool) (number : ℕ) → IsLong number → SpellsPropertyState (written_unsigned (Some (state_number binary)) number) (binary, number)
property_state_written binary number fits = number_written (state_number binary) number fits

properties_written : (property : Option Value) → IfAny IsOneElement property → SpellsPropertyList (written_property property) property
properties_written None h = refl
properties_written (Some value) h =
    record { front = written_unsigned (Some 0) 85; back = written_enclosed 2 (written_value value); parts = refl; first = number_written 0 85 (omega arith); second = held_written 2 value h }

told_written : (told : EventValues) → IsInRange told → SpellsTold (written_told told) told
told_written (Bitstring referenced flags) h = record { front = written_bits (Some 0) referenced; back = written_flags flags; parts = refl; first = bits_written (Some 0) referenced h; second = flags_written flags }
told_written (State binary number flags) h =
    both_written (SpellsEnclosed 0 SpellsPropertyState) SpellsFlags (written_enclosed 0 (written_unsigned (Some (state_number binary)) number)) (written_flags flags) (binary, number) flags (enclosed_written SpellsPropertyState 0 (written_unsigned (Some (state_number binary)) number) (binary, number) (property_state_written binary number h)) (flags_written flags)
told_written (Command command flags feedback) h =
    three_written (SpellsEnclosed 0 SpellsValue) SpellsFlags (SpellsEnclosed 2 SpellsValue) (written_enclosed 0 (written_value command)) (written_flags flags) (written_enclosed 2 (written_value feedback)) command flags feedback (held_written 0 command h.0) (flags_written flags) (held_written 2 feedback h.1)
told_written (UnsignedRange value flags limit) h =
    three_written (SpellsNumber 0) SpellsFlags (SpellsNumber 2) (written_unsigned (Some 0) value) (written_flags flags) (written_unsigned (Some 2) limit) value flags limit (number_written 0 value h.0) (flags_written flags) (number_written 2 limit h.1)
told_written (SignedOutOfRange value flags deadband limit) h =
    four_written _ SpellsFlags (SpellsNumber 2) _ (written_signed (Some 0) value) (written_flags flags) (written_unsigned (Some 2) deadband) (written_signed (Some 3) limit) value flags deadband limit (signed_written (Some 0) value h.0) (flags_written flags) (number_written 2 deadband h.1) (signed_written (Some 3) limit h.2)
told_written (UnsignedOutOfRange value flags deadband limit) h =
    four_written (SpellsNumber 0) SpellsFlags (SpellsNumber 2) (SpellsNumber 3) (written_unsigned (Some 0) value) (written_flags flags) (written_unsigned (Some 2) deadband) (written_unsigned (Some 3) limit) value flags deadband limit (number_written 0 value h.0) (flags_written flags) (number_written 2 deadband h.1) (number_written 3 limit h.2)
told_written (Characterstring changed flags alarm) h =
    three_written (SpellsText 0) SpellsFlags (SpellsText 2) (written_text_in 0 changed) (written_flags flags) (written_text_in 2 alarm) changed flags alarm (text_written 0 changed h.0) (flags_written flags) (text_written 2 alarm h.1)
told_written (Reliability reliability flags property) h =
    three_written (SpellsReliability 0) SpellsFlags (SpellsEnclosed 2 SpellsPropertyList) (written_unsigned (Some 0) (number_of_reliability reliability)) (written_flags flags) (written_enclosed 2 (written_property property)) reliability flags property (number_written 0 (number_of_reliability reliability) (reliability_small reliability)) (flags_written flags)
    (enclosed_written SpellsPropertyList 2 (written_property property) property (properties_written property h))

values_written : (type : ℕ) (told : EventValues) → (type_of_values told ≡ type) × IsInRange told → SpellsValuesOf type (written_values told) told
values_written type told h =
    subst (λ (n : ℕ). SpellsEnclosed 12 (SpellsEnclosed n (SpellsToldOf n)) (written_values told) told) h.0
    (enclosed_written (SpellsEnclosed (type_of_values told) (SpellsToldOf (type_of_values told))) 12 (written_enclosed (type_of_values told) (written_told told)) told (enclosed_written (SpellsToldOf (type_of_values told)) (type_of_values told) (written_told told) told (told_written told h.1, refl)))

-- ---- parameters that may be absent

if_text : (text : Option (List ℕ)) → IfAny IsText text → SpellsIfGiven (SpellsText 7) (written_if_given (written_text_in 7) text) text
if_text None h = refl
if_text (Some text) h = text_written 7 text h

if_required : (required : Option Bool) → SpellsIfGiven (SpellsBoolean (Some 9)) (written_if_given (written_boolean (Some 9)) required) required
if_required None = refl
if_required (Some required) = boolean_written (Some 9) required

if_from : (from : Option EventState) → SpellsIfGiven (SpellsState 10) (written_if_given (λ state. written_unsigned (Some 10) (number_of_state state)) from) from
if_from None = refl
if_from (Some state) = number_written 10 (number_of_state state) (state_small state)

if_values : (type : ℕ) (values : Option EventValues) → IfAny (λ told. (type_of_values told ≡ type) × IsInRange told) values → SpellsIfGiven (SpellsValuesOf type) (written_if_given written_values values) values
if_values type None h = refl
if_values type (Some told) h = values_written type told h

-- ---- the whole

grouped : (p d o s c r t w n a f e v : List ℕ) → (p ++ d ++ o ++ s ++ (c ++ r ++ t)) ++ w ++ (n ++ a ++ f ++ e) ++ v ≡ (p ++ (d ++ (o ++ s))) ++ ((c ++ (r ++ t)) ++ (w ++ ((n ++ (a ++ (f ++ e))) ++ v)))
grouped p d o s c r t w n a f e v = simp append_assoc

pub note_written : (note : Notification) → IsNotable note → SpellsNotification (written_notification note) note
unfolding written_notification
note_written note h = record {
  process = written_unsigned (Some 0) note.process;
  device = written_object (Some 1) note.device;
  object = written_object (Some 2) note.object;
  stamp = written_enclosed 3 (written_enclosed 2 (written_stamp note.stamp));
  class = written_unsigned (Some 4) note.class;
  priority = written_unsigned (Some 5) note.priority;
  type = written_unsigned (Some 6) note.event_type;
  text = written_if_given (written_text_in 7) note.text;
  notify = written_unsigned (Some 8) note.notify;
  ack = written_if_given (written_boolean (Some 9)) note.ack_required;
  from = written_if_given (λ state. written_unsigned (Some 10) (number_of_state state)) note.from;
  to = written_unsigned (Some 11) (number_of_state note.to);
  values = written_if_given written_values note.values;
  parts =
      grouped (written_unsigned (Some 0) note.process) (written_object (Some 1) note.device) (written_object (Some 2) note.object) (written_enclosed 3 (written_enclosed 2 (written_stamp note.stamp))) (written_unsigned (Some 4) note.class) (written_unsigned (Some 5) note.priority) (written_unsigned (Some 6) note.event_type)
      (written_if_given (written_text_in 7) note.text) (written_unsigned (Some 8) note.notify) (written_if_given (written_boolean (Some 9)) note.ack_required) (written_if_given (λ state. written_unsigned (Some 10) (number_of_state state)) note.from) (written_unsigned (Some 11) (number_of_state note.to)) (written_if_given written_values note.values);
  named_process = number_written 0 note.process h.process;
  named_device = object_written (Some 1) note.device h.device;
  named_object = object_written (Some 2) note.object h.object;
  stamped = moment_written 3 note.stamp h.stamp;
  classed = number_written 4 note.class h.class;
  ranked = octet_written 5 note.priority h.priority;
  typed = octet_written 6 note.event_type h.type;
  worded = if_text note.text h.text;
  notified = octet_written 8 note.notify h.notify;
  required = if_required note.ack_required;
  left = if_from note.from;
  entered = number_written 11 (number_of_state note.to) (state_small note.to);
  told = if_values note.event_type note.values h.values;
}

pub note_back : (note : Notification) → IsNotable note → notification_of (written_notification note) ≡ Ok note
note_back note h = note_again (written_notification note) note (note_written note h)
