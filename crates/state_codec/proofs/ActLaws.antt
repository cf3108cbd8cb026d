-- What happens: it is read exactly as it is written.
use Rattle.std.proofs.Common.{◌≡◌, ℕ, zero, suc, ◌^◌, ◌<◌, Bool, true, false, cond, eqb, List, [], ◌∷◌, ◌++◌, find, Option, Some, refl, sym, ap, subst, ◌∙◌, arith}
use Rattle.std.specs.Int.{w32, to_be_bytes}
use Rattle.std.proofs.lemmas.Bool.{eqb-true}
use Rattle.bac_values.specs.Address.{PeerData}
use Rattle.bac_values.specs.EventStates.{number_of_state, state_of_number, event_states, place_of_transition}
use Rattle.bac_values.specs.Identifier.{ObjectIdData}
use Rattle.bac_values.specs.declared.event_state.EventState.{EventState}
use Rattle.bac_values.specs.declared.event_state.EventState.TheVariants.{Normal, Fault, Offnormal, HighLimit, LowLimit}
use Rattle.bac_values.specs.declared.transition.Transition.{Transition}
use Rattle.bac_values.specs.declared.transition.Transition.TheVariants.{ToOffnormal, ToFault, ToNormal}
use Rattle.bac_values.specs.declared.value.Value.{Value}
use Rattle.notify_class.specs.Recipients.{DestinationData}
use Rattle.object_table.specs.declared.change.Change.{Change}
use Rattle.object_table.specs.declared.change.What.{What}
use Rattle.object_table.specs.declared.change.What.TheVariants.{Property, FieldFault}
use Rattle.alarm_core.specs.declared.event.Act.{Act}
use Rattle.alarm_core.specs.declared.event.Act.TheVariants.{Tick, Write, Ack, Pump, Answer, Edit}
use Rattle.state_codec.specs.Records.{written_object, written_peer, written_value, written_destinations, written_what, written_act, tick_number, property_number, field_fault_number, acknowledgement_number, pump_number, answer_number, edit_number, IsPeer, IsRecorded, IsRecordedWhat, IsRecordedAct, AreDestinations}
use Rattle.state_codec.specs.ReadingSteps.{◌>>=◌, then_at, last_at, done_at, octet_at, number_at, object_at, peer_at, value_at, destinations_at, property_change, field_fault, property_change_at, field_fault_at, transition_of, transition_at, state_at, acknowledgement_at, answer_at, edit_at, fields_at, act_at}
use Rattle.state_codec.proofs.Behind.{Takes, Reads, some_is, reads_then, reads_last, reads_behind, takes_either, takes_last, takes_none, TakesBehind}
use Rattle.state_codec.proofs.PartLaws.{written_octet, IsOctet, IsBelow, IsAny, IsObject, octet_reads, u32_reads, object_reads, peer_reads}
use Rattle.state_codec.proofs.ValueLaws.{behind, value_reads}
use Rattle.state_codec.proofs.DestinationLaws.{destinations_reads}

-- ---- two parts, and three

reads_two : {A B : Type 0} (ra : List ℕ → Option (A × List ℕ)) (rb : List ℕ → Option (B × List ℕ)) (wa : A → List ℕ) (wb : B → List ℕ) (Fa : A → Type 0) (Fb : B → Type 0)
    → Reads ra wa Fa → Reads rb wb Fb → Reads {X = A × B} (then_at ra λ a. last_at rb λ b. Some (a, b)) (λ x. wa x.0 ++ wb x.1) (λ x. Fa x.0 × Fb x.1)
reads_two {A = A} {B = B} ra rb wa wb Fa Fb first second =
    reads_then ra (λ a. last_at rb λ b. Some (a, b)) wa Fa (λ (x : A × B). x.0) (λ x. wb x.1) (λ x. Fa x.0 × Fb x.1) first (λ x f. f.0)
    (λ a fa. reads_last rb (λ b. Some (a, b)) wb Fb (λ (x : A × B). wb x.1) (λ x. (Fa x.0 × Fb x.1) × (x.0 ≡ a)) second
    (λ b x fb e. subst (λ (y : A × B). ((Fa y.0 × Fb y.1) × (y.0 ≡ a)) × (wb y.1 ≡ wb b)) (some_is (a, b) x e) (((fa, fb), refl), refl))
    (λ x f. (x.1, f.0.1, ap (λ (o : A). Some (o, x.1)) (sym f.1), refl)))

reads_three : {A B C : Type 0} (ra : List ℕ → Option (A × List ℕ)) (rb : List ℕ → Option (B × List ℕ)) (rc : List ℕ → Option (C × List ℕ)) (wa : A → List ℕ) (wb : B → List ℕ) (wc : C → List ℕ) (Fa : A → Type 0) (Fb : B → Type 0) (Fc : C → Type 0)
    → Reads ra wa Fa → Reads rb wb Fb → Reads rc wc Fc
    → Reads {X = A × B × C} (then_at ra λ a. then_at rb λ b. last_at rc λ c. Some (a, b, c)) (λ x. wa x.0 ++ (wb x.1 ++ wc x.2)) (λ x. Fa x.0 × Fb x.1 × Fc x.2)
reads_three {A = A} {B = B} {C = C} ra rb rc wa wb wc Fa Fb Fc first second third =
    reads_then ra (λ a. then_at rb λ b. last_at rc λ c. Some (a, b, c)) wa Fa (λ (x : A × B × C). x.0) (λ x. wb x.1 ++ wc x.2) (λ x. Fa x.0 × Fb x.1 × Fc x.2) first (λ x f. f.0)
    (λ a fa. reads_then rb (λ b. last_at rc λ c. Some (a, b, c)) wb Fb (λ (x : A × B × C). x.1) (λ x. wc x.2) (λ x. (Fa x.0 × Fb x.1 × Fc x.2) × (x.0 ≡ a)) second (λ x f. f.0.1)
    (λ b fb. reads_last rc (λ c. Some (a, b, c)) wc Fc (λ (x : A × B × C). wc x.2) (λ x. ((Fa x.0 × Fb x.1 × Fc x.2) × (x.0 ≡ a)) × (x.1 ≡ b)) third
    (λ c x fc e. subst (λ (y : A × B × C). (((Fa y.0 × Fb y.1 × Fc y.2) × (y.0 ≡ a)) × (y.1 ≡ b)) × (wc y.2 ≡ wc c)) (some_is (a, b, c) x e) ((((fa, fb, fc), refl), refl), refl))
    (λ x f. (x.2, f.0.0.2, ap (λ (o : A). Some (o, b, x.2)) (sym f.0.1) ∙ ap (λ (o : B). Some (x.0, o, x.2)) (sym f.1), refl))))

-- ---- transitions and event states

abbrev written_transition : Transition → List ℕ
written_transition transition = place_of_transition transition ∷ []

transition_forth : (octet : ℕ) (transition : Transition) → octet < 256 → transition_of octet ≡ Some transition → Unit {0} × (written_transition transition ≡ octet ∷ [])
transition_forth zero transition lt e = subst (λ (t : Transition). Unit {0} × (written_transition t ≡ 0 ∷ [])) (some_is ToOffnormal transition e) (tt, refl)
transition_forth (suc zero) transition lt e = subst (λ (t : Transition). Unit {0} × (written_transition t ≡ 1 ∷ [])) (some_is ToFault transition e) (tt, refl)
transition_forth (suc (suc zero)) transition lt e = subst (λ (t : Transition). Unit {0} × (written_transition t ≡ 2 ∷ [])) (some_is ToNormal transition e) (tt, refl)
transition_forth (suc (suc (suc octet))) transition lt e = absurd cc

transition_back : (transition : Transition) → Unit {0} → (octet : ℕ) × (octet < 256) × (transition_of octet ≡ Some transition) × (written_transition transition ≡ octet ∷ [])
transition_back ToOffnormal f = (0, omega arith, refl, refl)
transition_back ToFault f = (1, omega arith, refl, refl)
transition_back ToNormal f = (2, omega arith, refl, refl)

transition_reads : Reads transition_at written_transition IsAny
unfolding transition_at
transition_reads = reads_last octet_at transition_of written_octet IsOctet written_transition IsAny octet_reads transition_forth transition_back

abbrev pub written_state : EventState → List ℕ
written_state state = number_of_state state ∷ []

passes_or_later : {X : Type 0} (test : X → Bool) (y x : X) (first : Bool) (others : Option X) → test y ≡ first → (others ≡ Some x → test x ≡ true) → cond first (Some y) others ≡ Some x → test x ≡ true
passes_or_later test y x true others is later e = ap test (sym (some_is y x e)) ∙ is
passes_or_later test y x false others is later e = later e

pub found_passes : {X : Type 0} (test : X → Bool) (xs : List X) (x : X) → find test xs ≡ Some x → test x ≡ true
found_passes test [] x e = absurd cc
found_passes test (y ∷ ys) x e = passes_or_later test y x (test y) (find test ys) refl (λ later. found_passes test ys x later) e

state_forth : (octet : ℕ) (state : EventState) → octet < 256 → state_of_number octet ≡ Some state → Unit {0} × (written_state state ≡ octet ∷ [])
state_forth octet state lt e = (tt, ap (λ (n : ℕ). n ∷ []) (eqb-true _ _ (found_passes (λ s. eqb (number_of_state s) octet) event_states state e)))

state_back : (state : EventState) → Unit {0} → (octet : ℕ) × (octet < 256) × (state_of_number octet ≡ Some state) × (written_state state ≡ octet ∷ [])
state_back Normal f = (0, omega arith, refl, refl)
state_back Fault f = (1, omega arith, refl, refl)
state_back Offnormal f = (2, omega arith, refl, refl)
state_back HighLimit f = (3, omega arith, refl, refl)
state_back LowLimit f = (4, omega arith, refl, refl)

pub state_reads : Reads state_at written_state IsAny
unfolding state_at
state_reads = reads_last octet_at state_of_number written_octet IsOctet written_state IsAny octet_reads state_forth state_back

-- ---- fields

abbrev written_property_change : ObjectIdData × ℕ × Value → List ℕ
written_property_change x = written_object x.0 ++ (to_be_bytes w32 x.1 ++ written_value x.2)

abbrev IsPropertyChange : ObjectIdData × ℕ × Value → Type 0
IsPropertyChange x = IsObject x.0 × (x.1 < 2 ^ 32) × IsRecorded x.2

property_change_reads : Reads property_change_at written_property_change IsPropertyChange
unfolding property_change_at
property_change_reads = reads_three object_at (number_at w32) value_at written_object (to_be_bytes w32) written_value IsObject (IsBelow (2 ^ 32)) IsRecorded object_reads u32_reads value_reads

abbrev written_field_fault : ObjectIdData × ℕ → List ℕ
written_field_fault x = written_object x.0 ++ (x.1 ∷ [])

abbrev IsFieldFault : ObjectIdData × ℕ → Type 0
IsFieldFault x = IsObject x.0 × (x.1 < 256)

field_fault_reads : Reads field_fault_at written_field_fault IsFieldFault
unfolding field_fault_at
field_fault_reads = reads_two object_at octet_at written_object written_octet IsObject IsOctet object_reads octet_reads

abbrev written_acknowledgement : ObjectIdData × Transition × EventState → List ℕ
written_acknowledgement x = written_object x.0 ++ (place_of_transition x.1 ∷ (number_of_state x.2 ∷ []))

abbrev IsAcknowledgement : ObjectIdData × Transition × EventState → Type 0
IsAcknowledgement x = IsObject x.0 × Unit {0} × Unit {0}

acknowledgement_reads : Reads acknowledgement_at written_acknowledgement IsAcknowledgement
unfolding acknowledgement_at
acknowledgement_reads = reads_three object_at transition_at state_at written_object written_transition written_state IsObject IsAny IsAny object_reads transition_reads state_reads

abbrev written_answer : PeerData × ℕ × ℕ → List ℕ
written_answer x = written_peer x.0 ++ (x.1 ∷ (x.2 ∷ []))

abbrev IsAnswer : PeerData × ℕ × ℕ → Type 0
IsAnswer x = IsPeer x.0 × (x.1 < 256) × (x.2 < 256)

answer_reads : Reads answer_at written_answer IsAnswer
unfolding answer_at
answer_reads = reads_three peer_at octet_at octet_at written_peer written_octet written_octet IsPeer IsOctet IsOctet peer_reads octet_reads octet_reads

abbrev written_edit : ℕ × List DestinationData → List ℕ
written_edit x = to_be_bytes w32 x.0 ++ written_destinations x.1

abbrev IsEdit : ℕ × List DestinationData → Type 0
IsEdit x = (x.0 < 2 ^ 32) × AreDestinations x.1

edit_reads : Reads edit_at written_edit IsEdit
unfolding edit_at
edit_reads = reads_two (number_at w32) destinations_at (to_be_bytes w32) written_destinations (IsBelow (2 ^ 32)) AreDestinations u32_reads destinations_reads

-- ---- what happens

takes_done : (number tag : ℕ) (act : Act) → eqb tag number ≡ true → IsRecordedAct act → written_act act ≡ number ∷ [] → TakesBehind written_act IsRecordedAct tag (done_at act)
takes_done number tag act is recorded written octets found rest are e =
    subst (λ (x : Act × List ℕ). Takes (tag ∷ octets) (written_act x.0) x.1 × IsRecordedAct x.0) (some_is (act, octets) (found, rest) e)
    (record { parts = sym (behind tag number octets is) ∙ ap (λ (t : List ℕ). t ++ octets) (sym written); rest_are = are }, recorded)

act_takes : (tag : ℕ) → TakesBehind written_act IsRecordedAct tag (fields_at tag)
unfolding fields_at
act_takes tag =
    takes_either written_act IsRecordedAct tag (eqb tag tick_number) _ _ (λ is. takes_done tick_number tag Tick is tt refl)
    (takes_either written_act IsRecordedAct tag (eqb tag property_number) _ _ (λ is. takes_last written_act IsRecordedAct tag property_change_at (λ x. Write (property_change x.0 x.1 x.2)) written_property_change IsPropertyChange property_change_reads (λ x f. ((f.0, (f.1, f.2)), behind tag property_number (written_property_change x) is)))
    (takes_either written_act IsRecordedAct tag (eqb tag field_fault_number) _ _ (λ is. takes_last written_act IsRecordedAct tag field_fault_at (λ x. Write (field_fault x.0 x.1)) written_field_fault IsFieldFault field_fault_reads (λ x f. ((f.0, f.1), behind tag field_fault_number (written_field_fault x) is)))
    (takes_either written_act IsRecordedAct tag (eqb tag acknowledgement_number) _ _ (λ is. takes_last written_act IsRecordedAct tag acknowledgement_at (λ x. Ack x.0 x.1 x.2) written_acknowledgement IsAcknowledgement acknowledgement_reads (λ x f. (f.0, behind tag acknowledgement_number (written_acknowledgement x) is)))
    (takes_either written_act IsRecordedAct tag (eqb tag pump_number) _ _ (λ is. takes_done pump_number tag Pump is tt refl)
    (takes_either written_act IsRecordedAct tag (eqb tag answer_number) _ _ (λ is. takes_last written_act IsRecordedAct tag answer_at (λ x. Answer x.0 x.1 x.2) written_answer IsAnswer answer_reads (λ x f. (f, behind tag answer_number (written_answer x) is)))
    (takes_either written_act IsRecordedAct tag (eqb tag edit_number) _ _ (λ is. takes_last written_act IsRecordedAct tag edit_at (λ x. Edit x.0 x.1) written_edit IsEdit edit_reads (λ x f. (f, behind tag edit_number (written_edit x) is)))
    (takes_none written_act IsRecordedAct tag)))))))

abbrev change_of : ObjectIdData → What → Change
change_of object what = record { object = object; what = what }

what_again : (object : ObjectIdData) (what : What) (rest : List ℕ) → IsObject object → IsRecordedWhat what → then_at octet_at fields_at (written_what object what ++ rest) ≡ Some (Write (change_of object what), rest)
unfolding octet_at fields_at
what_again object (Property property value) rest is f =
    ap (λ (o : Option ((ObjectIdData × ℕ × Value) × List ℕ)). o >>= λ found. Some (Write (property_change found.0.0 found.0.1 found.0.2), found.1)) (property_change_reads.again (object, property.0, value) rest (is, f.0, f.1))
what_again object (FieldFault reliability) rest is f =
    ap (λ (o : Option ((ObjectIdData × ℕ) × List ℕ)). o >>= λ found. Some (Write (field_fault found.0.0 found.0.1), found.1)) (field_fault_reads.again (object, reliability) rest (is, f))

act_again : (act : Act) (rest : List ℕ) → IsRecordedAct act → then_at octet_at fields_at (written_act act ++ rest) ≡ Some (act, rest)
unfolding octet_at fields_at
act_again Tick rest f = refl
act_again (Write change) rest f = what_again change.object change.what rest f.0 f.1
act_again (Ack object transition state) rest f =
    ap (λ (o : Option ((ObjectIdData × Transition × EventState) × List ℕ)). o >>= λ found. Some (Ack found.0.0 found.0.1 found.0.2, found.1)) (acknowledgement_reads.again (object, transition, state) rest (f, tt, tt))
act_again Pump rest f = refl
act_again (Answer peer invoke kind) rest f =
    ap (λ (o : Option ((PeerData × ℕ × ℕ) × List ℕ)). o >>= λ found. Some (Answer found.0.0 found.0.1 found.0.2, found.1)) (answer_reads.again (peer, invoke, kind) rest f)
act_again (Edit number recipients) rest f =
    ap (λ (o : Option ((ℕ × List DestinationData) × List ℕ)). o >>= λ found. Some (Edit found.0.0 found.0.1, found.1)) (edit_reads.again (number, recipients) rest f)

pub act_reads : Reads act_at written_act IsRecordedAct
unfolding act_at
act_reads = reads_behind written_act IsRecordedAct fields_at act_takes act_again
