-- How long records are.
use Rattle.std.proofs.Common.{◌≡◌, ℕ, ◌+◌, ◌-◌, ◌*◌, ◌≤◌, List, [], ◌∷◌, ◌++◌, length, replicate, All, refl, ap, ◌∙◌, arith}
use Rattle.std.specs.Int.{w32, to_be_bytes}
use Rattle.std.specs.List.{flat_map}
use Rattle.std.proofs.lemmas.List.{length-append, length-replicate}
use Rattle.std.proofs.lemmas.List.Concat.{flat_map-cons}
use Rattle.std.proofs.lemmas.List.Elements.{All-head, All-tail}
use Rattle.bac_values.specs.Address.{PeerData, padded}
use Rattle.bac_values.specs.Identifier.{ObjectIdData}
use Rattle.bac_values.specs.declared.value.Value.{Value}
use Rattle.bac_values.specs.declared.value.Value.TheVariants as values
use Rattle.notify_class.specs.Recipients.{DestinationData}
use Rattle.object_table.specs.declared.change.What.{What}
use Rattle.object_table.specs.declared.change.What.TheVariants.{Property, FieldFault}
use Rattle.alarm_core.specs.declared.event.Act.{Act}
use Rattle.alarm_core.specs.declared.event.Act.TheVariants.{Tick, Write, Ack, Pump, Answer, Edit}
use Rattle.alarm_core.specs.declared.event.Event.{Event}
use Rattle.state_codec.specs.Records.{written_flag, written_flags, written_peer, written_value, written_destination, written_what, written_act, written_event, IsPeer, IsRecorded, IsRecordedWhat, IsDestination, IsRecordedAct, HasRecord}

padded_length : (mac : List ℕ) → length mac ≤ 7 → length (padded mac) ≡ 7
padded_length mac short = omega (arith, length-append mac (replicate (7 - length mac) 0), length-replicate {A = ℕ} (7 - length mac) 0)

pub peer_length : (peer : PeerData) → IsPeer peer → length (written_peer peer) ≡ 16
peer_length peer is = omega (arith, padded_length peer.mac is.station)

destination_length : (it : DestinationData) → IsDestination it → length (written_destination it) ≡ 31
destination_length it is =
    omega (arith, peer_length it.peer is.peer, length-append (written_peer it.peer) (to_be_bytes w32 it.process ++ (written_flag it.confirmed ++ written_flags it.transitions)))

pub list_length : (recipients : List DestinationData) → All IsDestination recipients → length (flat_map written_destination recipients) ≡ 31 * length recipients
list_length [] are = refl
list_length (it ∷ others) are =
    let first : length (written_destination it) ≡ 31 = destination_length it (All-head IsDestination it others are) in
    let rest : length (flat_map written_destination others) ≡ 31 * length others = list_length others (All-tail IsDestination it others are) in
    let whole : length (flat_map written_destination (it ∷ others)) ≡ length (written_destination it) + length (flat_map written_destination others) = ap (λ (t : List ℕ). length t) (flat_map-cons written_destination it others) ∙ length-append (written_destination it) (flat_map written_destination others) in
    omega (arith, first, rest, whole)

pub value_length : (value : Value) → IsRecorded value → length (written_value value) ≤ 259
value_length (values.Bool flag) f = omega arith
value_length (values.Unsigned number) f = omega arith
value_length (values.Signed number) f = omega arith
value_length (values.Text text) f = omega (arith, f.0)
value_length (values.Bits string) f = omega arith
value_length (values.Enumerated number) f = omega arith
value_length values.Null f = absurd f
value_length (values.Object object) f = absurd f
value_length (values.DateTime stamp) f = absurd f
value_length (values.Opaque tag why) f = absurd f

what_length : (object : ObjectIdData) (what : What) → IsRecordedWhat what → length (written_what object what) ≤ 268
what_length object (Property property value) f = omega (arith, value_length value f.1)
what_length object (FieldFault reliability) f = omega arith

act_length : (act : Act) → IsRecordedAct act → length (written_act act) ≤ 998
act_length Tick f = omega arith
act_length (Write change) f = omega (arith, what_length change.object change.what f.1)
act_length (Ack object transition state) f = omega arith
act_length Pump f = omega arith
act_length (Answer peer invoke kind) f = omega (arith, peer_length peer f.0, length-append (written_peer peer) (invoke ∷ (kind ∷ [])))
act_length (Edit number recipients) f = omega (arith, f.1.0, list_length recipients f.1.1)

pub event_length : (event : Event) → HasRecord event → length (written_event event) ≤ 1006
event_length event has = omega (arith, act_length event.act has.act)
