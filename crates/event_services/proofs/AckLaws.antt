-- What the reader of AcknowledgeAlarm promises.
use Rattle.std.proofs.Common.{◌≡◌, ◌≢◌, ℕ, ◌+◌, ◌<◌, ◌≤◌, Bool, true, false, cond, ltb, Some, List, [], ◌∷◌, ◌++◌, length, drop, Result, Ok, Err, refl, sym, ap, subst, ◌∙◌, arith, inl, inr}
use Rattle.std.specs.Prelude.{◌↔◌, ◌⊎◌, IfOk, IfErr}
use Rattle.std.proofs.lemmas.List.{length-append, length-drop, drop_all, drop_at, append-nil}
use Rattle.bac_values.specs.Identifier.{ObjectIdData}
use Rattle.bac_tags.specs.declared.fault.TagFault.{TagFault}
use Rattle.bac_tags.specs.Contents.{SpellsUnsigned, SpellsObject}
use Rattle.bac_tags.specs.ReadingSteps.{valued, content_at, unsigned_at, object_at, ◌>>=◌}
use Rattle.bac_tags.proofs.Standing.{IsBytes, Stands, Stands-from, Stands-then, Stands-front, Stands-back, Stands-within}
use Rattle.bac_tags.specs.declared.malformed.Malformed.{Malformed}
use Rattle.bac_tags.specs.Refusals.{invalid_tag, missing_parameter, too_many_arguments}
use Rattle.bac_tags.specs.ParameterReadingSteps.{or_invalid, required, nothing_follows}
use Rattle.bac_tags.specs.EnclosingSteps.{enclosed_at}
use Rattle.bac_tags.proofs.Reasons.{five_four, five_seven, four_seven}
use Rattle.bac_tags.proofs.Steps.{bind_ok, ok_is, err_is}
use Rattle.bac_tags.proofs.ElementReaders.{Reader, whole, unsigned_reader, object_reader, octets_reader}
use Rattle.bac_tags.proofs.Sequences.{required_ok, required_again, nothing_ok, nothing_err, nothing_more, nothing_none}
use Rattle.event_services.specs.declared.acknowledge.AckRequest.{AckRequest}
use Rattle.event_services.specs.declared.time_stamp.AckStamp.{AckStamp}
use Rattle.event_services.specs.TimeStampSteps.{time_stamp_at}
use Rattle.event_services.specs.Acknowledgements.{SpellsSource, SpellsStampOf, SpellsAcknowledgement, SpellsParameters, LacksParameter, HasMore, HasInvalidParameter}
use Rattle.event_services.specs.AcknowledgementSteps.{skipped, acknowledge_request_of}
use Rattle.event_services.proofs.StampReaders.{stamp_of_reader}
use Rattle.event_services.proofs.AckSteps.{place_of, source_at, step, step_laws, as_unsigned, as_enumerated, run, cause, run_fails, run_ends}

-- ---- the chain of the definition, from its end

abbrev content : List ℕ → ℕ → Result (List ℕ × ℕ) TagFault
content input place = content_at input place 0 (Some 4) 1 4294967295

abbrev finish : List ℕ → ℕ → ObjectIdData → ℕ → AckStamp → AckStamp × ℕ → Result AckRequest Malformed
finish input process object state stamp time = nothing_follows input time.1 >>= λ nothing. Ok (record { process = process; object = object; state = state; stamp = stamp })

abbrev from_source : List ℕ → ℕ → ObjectIdData → ℕ → AckStamp → ℕ → Result AckRequest Malformed
from_source input process object state stamp source = required input source (enclosed_at time_stamp_at 5 input source) >>= finish input process object state stamp

abbrev from_stamp : List ℕ → ℕ → ObjectIdData → ℕ → AckStamp × ℕ → Result AckRequest Malformed
from_stamp input process object state stamp = required input stamp.1 (skipped (content input stamp.1)) >>= from_source input process object state stamp.0

abbrev from_state : List ℕ → ℕ → ObjectIdData → ℕ × ℕ → Result AckRequest Malformed
from_state input process object state = required input state.1 (enclosed_at time_stamp_at 3 input state.1) >>= from_stamp input process object state.0

abbrev from_object : List ℕ → ℕ → ObjectIdData × ℕ → Result AckRequest Malformed
from_object input process object = required input object.1 (unsigned_at input object.1 (Some 2)) >>= from_state input process object.0

abbrev from_process : List ℕ → ℕ × ℕ → Result AckRequest Malformed
from_process input process = required input process.1 (object_at input process.1 (Some 1)) >>= from_object input process.0

abbrev pub chain : List ℕ → Result AckRequest Malformed
chain input = required input 0 (unsigned_at input 0 (Some 0)) >>= from_process input

pub is_chain : (input : List ℕ) → acknowledge_request_of input ≡ chain input
unfolding acknowledge_request_of
is_chain input = refl

-- ---- the source is read over

skip_test : (place : ℕ) (m : Malformed) (b : Bool) (c : Result (List ℕ × ℕ) TagFault) → cond b (or_invalid place (skipped c)) (Err m) ≡ place_of (cond b (or_invalid place (valued whole c)) (Err m))
skip_test place m true (Ok x) = refl
skip_test place m true (Err e) = refl
skip_test place m false c = refl

skipped_valued : (input : List ℕ) (place : ℕ) (c : Result (List ℕ × ℕ) TagFault) → required input place (skipped c) ≡ place_of (required input place (valued whole c))
skipped_valued input place c = skip_test place (missing_parameter (length input)) (ltb place (length input)) c

place_found : {X : Type 0} (r : Result (X × ℕ) Malformed) (end : ℕ) → place_of r ≡ Ok end → (x : X × ℕ) × (r ≡ Ok x) × (x.1 ≡ end)
place_found (Ok x) end e = (x, refl, ok_is x.1 end e)
place_found (Err d) end e = absurd cc

-- ---- the same refusals as those of the parameters without their values

abbrev forget : {X : Type 0} → Result X Malformed → Result (Unit {0}) Malformed
forget (Ok x) = Ok tt
forget (Err e) = Err e

forget_bind : {X Y : Type 0} (r : Result (X × ℕ) Malformed) (f : X × ℕ → Result Y Malformed) (g : ℕ → Result (Unit {0}) Malformed) → ((x : X × ℕ) → forget (f x) ≡ g x.1) → forget (r >>= f) ≡ (place_of r >>= g)
forget_bind (Ok x) f g h = h x
forget_bind (Err e) f g h = refl

forget_place : {Y : Type 0} (r : Result ℕ Malformed) (f : ℕ → Result Y Malformed) (g : ℕ → Result (Unit {0}) Malformed) → ((n : ℕ) → forget (f n) ≡ g n) → forget (r >>= f) ≡ (r >>= g)
forget_place (Ok x) f g h = h x
forget_place (Err e) f g h = refl

forget_last : {Y : Type 0} (r : Result (Unit {0}) Malformed) (y : Y) → forget (r >>= λ nothing. Ok y) ≡ r
forget_last (Ok x) y = refl
forget_last (Err e) y = refl

forget_err : {X : Type 0} (r : Result X Malformed) (e : Malformed) → (forget r ≡ Err e) ↔ (r ≡ Err e)
forget_err (Ok x) e = (λ h. absurd cc, λ h. absurd cc)
forget_err (Err d) e = (λ h. ap Err (err_is {A = Unit {0}} d e h), λ h. ap forget h)

chain_runs : (input : List ℕ) → forget (chain input) ≡ run 6 0 input 0
chain_runs input =
    forget_bind (required input 0 (unsigned_at input 0 (Some 0))) (from_process input) (run 5 1 input) (λ process.
    forget_bind (required input process.1 (object_at input process.1 (Some 1))) (from_object input process.0) (run 4 2 input) (λ object.
    forget_bind (required input object.1 (unsigned_at input object.1 (Some 2))) (from_state input process.0 object.0) (run 3 3 input) (λ state.
    forget_bind (required input state.1 (enclosed_at time_stamp_at 3 input state.1)) (from_stamp input process.0 object.0 state.0) (run 2 4 input) (λ stamp.
    forget_place (required input stamp.1 (skipped (content input stamp.1))) (from_source input process.0 object.0 state.0 stamp.0) (run 1 5 input) (λ source.
    forget_bind (required input source (enclosed_at time_stamp_at 5 input source)) (finish input process.0 object.0 state.0 stamp.0) (nothing_follows input) (λ time.
    forget_last (nothing_follows input time.1) (record { process = process.0; object = object.0; state = state.0; stamp = stamp.0 })))
    ∙ ap (λ (r : Result ℕ Malformed). r >>= run 1 5 input) (skipped_valued input stamp.1 (content input stamp.1))))))

same_refusal : (input : List ℕ) (e : Malformed) → (acknowledge_request_of input ≡ Err e) ↔ (run 6 0 input 0 ≡ Err e)
same_refusal input e =
    let f = forget_err (acknowledge_request_of input) e in
    let same : forget (acknowledge_request_of input) ≡ run 6 0 input 0 = ap forget (is_chain input) ∙ chain_runs input in
    (λ h. sym same ∙ f.1 h, λ h. f.0 (same ∙ h))

-- ---- what is read is spelled so

pub all_there : (input octets : List ℕ) (end : ℕ) → length input ≤ end → Stands input 0 octets end → input ≡ octets
all_there input octets end past p = p.parts ∙ ap (λ (r : List ℕ). octets ++ r) (drop_all end input past) ∙ append-nil octets

-- a parameter that is read, and what is read behind it
record Part {X : Type 0} (Spells : List ℕ → X → Type 0) (input : List ℕ) (place : ℕ) (Behind : X → ℕ → Type 0) : Type 0 where
  octets : List ℕ
  value : X
  end : ℕ
  within : end ≤ length input
  stands : Stands input place octets end
  spells : Spells octets value
  behind : Behind value end

part : {X : Type 0} (Spells : List ℕ → X → Type 0) (read : List ℕ → ℕ → Result (X × ℕ) TagFault) → Reader Spells read → (input : List ℕ) (place : ℕ) (x : X × ℕ) (Behind : X → ℕ → Type 0) → IsBytes input → place ≤ length input
    → required input place (read input place) ≡ Ok x → (x.1 ≤ length input → Behind x.0 x.1) → Part Spells input place Behind
part Spells read r input place x Behind bytes le e f =
    let s = required_ok Spells read r input place x bytes le e in
    let within : x.1 ≤ length input = Stands-within input place s.octets x.1 le s.stands in
    record { octets = s.octets; value = x.0; end = x.1; within = within; stands = s.stands; spells = s.spells; behind = f within }

abbrev request_is : AckRequest → ℕ → ObjectIdData → ℕ → AckStamp → Type 0
request_is request process object state stamp = record { process = process; object = object; state = state; stamp = stamp } ≡ request

abbrev Finished : List ℕ → AckRequest → ℕ → ObjectIdData → ℕ → AckStamp → AckStamp → ℕ → Type 0
Finished input request process object state stamp acknowledged end = (length input ≤ end) × request_is request process object state stamp

abbrev BehindSource : List ℕ → AckRequest → ℕ → ObjectIdData → ℕ → AckStamp → List ℕ → ℕ → Type 0
BehindSource input request process object state stamp source place = Part (SpellsStampOf 5) input place (Finished input request process object state stamp)

abbrev BehindStamp : List ℕ → AckRequest → ℕ → ObjectIdData → ℕ → AckStamp → ℕ → Type 0
BehindStamp input request process object state stamp place = Part SpellsSource input place (BehindSource input request process object state stamp)

abbrev BehindState : List ℕ → AckRequest → ℕ → ObjectIdData → ℕ → ℕ → Type 0
BehindState input request process object state place = Part (SpellsStampOf 3) input place (BehindStamp input request process object state)

abbrev BehindObject : List ℕ → AckRequest → ℕ → ObjectIdData → ℕ → Type 0
BehindObject input request process object place = Part (SpellsUnsigned (Some 2)) input place (BehindState input request process object)

abbrev BehindProcess : List ℕ → AckRequest → ℕ → ℕ → Type 0
BehindProcess input request process place = Part (SpellsObject (Some 1)) input place (BehindObject input request process)

abbrev All : List ℕ → AckRequest → Type 0
All input request = Part (SpellsUnsigned (Some 0)) input 0 (BehindProcess input request)

abbrev given : ℕ → ObjectIdData → ℕ → AckStamp → Unit {0} → Result AckRequest Malformed
given process object state stamp nothing = Ok (record { process = process; object = object; state = state; stamp = stamp })

find_end : (input : List ℕ) (request : AckRequest) (process : ℕ) (object : ObjectIdData) (state : ℕ) (stamp : AckStamp) (time : AckStamp × ℕ) → finish input process object state stamp time ≡ Ok request → Finished input request process object state stamp time.0 time.1
find_end input request process object state stamp time e =
    let b = bind_ok (nothing_follows input time.1) (given process object state stamp) request e in
    (nothing_ok input time.1 b.0 b.1, ok_is (record { process = process; object = object; state = state; stamp = stamp }) request b.2)

find_time : (input : List ℕ) (request : AckRequest) (process : ℕ) (object : ObjectIdData) (state : ℕ) (stamp : AckStamp) (source : List ℕ) (place : ℕ) → IsBytes input → place ≤ length input → from_source input process object state stamp place ≡ Ok request
    → BehindSource input request process object state stamp source place
find_time input request process object state stamp source place bytes le e =
    let b = bind_ok (required input place (enclosed_at time_stamp_at 5 input place)) (finish input process object state stamp) request e in
    part (SpellsStampOf 5) (enclosed_at time_stamp_at 5) (stamp_of_reader 5) input place b.0 (Finished input request process object state stamp) bytes le b.1 (λ within. find_end input request process object state stamp b.0 b.2)

find_source : (input : List ℕ) (request : AckRequest) (process : ℕ) (object : ObjectIdData) (state : ℕ) (stamp : AckStamp × ℕ) → IsBytes input → stamp.1 ≤ length input → from_stamp input process object state stamp ≡ Ok request
    → BehindStamp input request process object state stamp.0 stamp.1
find_source input request process object state stamp bytes le e =
    let b = bind_ok (required input stamp.1 (skipped (content input stamp.1))) (from_source input process object state stamp.0) request e in
    let g = place_found (required input stamp.1 (source_at input stamp.1)) b.0 (sym (skipped_valued input stamp.1 (content input stamp.1)) ∙ b.1) in
    part SpellsSource source_at (octets_reader 4 1 4294967295) input stamp.1 g.0 (BehindSource input request process object state stamp.0) bytes le g.1 (λ within. find_time input request process object state stamp.0 g.0.0 g.0.1 bytes within (ap (from_source input process object state stamp.0) g.2 ∙ b.2))

find_stamp : (input : List ℕ) (request : AckRequest) (process : ℕ) (object : ObjectIdData) (state : ℕ × ℕ) → IsBytes input → state.1 ≤ length input → from_state input process object state ≡ Ok request → BehindState input request process object state.0 state.1
find_stamp input request process object state bytes le e =
    let b = bind_ok (required input state.1 (enclosed_at time_stamp_at 3 input state.1)) (from_stamp input process object state.0) request e in
    part (SpellsStampOf 3) (enclosed_at time_stamp_at 3) (stamp_of_reader 3) input state.1 b.0 (BehindStamp input request process object state.0) bytes le b.1 (λ within. find_source input request process object state.0 b.0 bytes within b.2)

find_state : (input : List ℕ) (request : AckRequest) (process : ℕ) (object : ObjectIdData × ℕ) → IsBytes input → object.1 ≤ length input → from_object input process object ≡ Ok request → BehindObject input request process object.0 object.1
find_state input request process object bytes le e =
    let b = bind_ok (required input object.1 (unsigned_at input object.1 (Some 2))) (from_state input process object.0) request e in
    part (SpellsUnsigned (Some 2)) (λ input place. unsigned_at input place (Some 2)) (unsigned_reader 2) input object.1 b.0 (BehindState input request process object.0) bytes le b.1 (λ within. find_stamp input request process object.0 b.0 bytes within b.2)

find_object : (input : List ℕ) (request : AckRequest) (process : ℕ × ℕ) → IsBytes input → process.1 ≤ length input → from_process input process ≡ Ok request → BehindProcess input request process.0 process.1
find_object input request process bytes le e =
    let b = bind_ok (required input process.1 (object_at input process.1 (Some 1))) (from_object input process.0) request e in
    part (SpellsObject (Some 1)) (λ input place. object_at input place (Some 1)) (object_reader 1) input process.1 b.0 (BehindObject input request process.0) bytes le b.1 (λ within. find_state input request process.0 b.0 bytes within b.2)

find_all : (input : List ℕ) (request : AckRequest) → IsBytes input → chain input ≡ Ok request → All input request
find_all input request bytes e =
    let b = bind_ok (required input 0 (unsigned_at input 0 (Some 0))) (from_process input) request e in
    part (SpellsUnsigned (Some 0)) (λ input place. unsigned_at input place (Some 0)) (unsigned_reader 0) input 0 b.0 (BehindProcess input request) bytes (omega arith) b.1 (λ within. find_object input request b.0 bytes within b.2)

assemble : (input : List ℕ) (request : AckRequest) → All input request → SpellsAcknowledgement input request
assemble input request a =
    let b = a.behind in
    let c = b.behind in
    let d = c.behind in
    let f = d.behind in
    let g = f.behind in
    let five = Stands-then input d.end f.octets f.end g.octets g.end f.stands g.stands in
    let four = Stands-then input c.end d.octets d.end (f.octets ++ g.octets) g.end d.stands five in
    let three = Stands-then input b.end c.octets c.end (d.octets ++ (f.octets ++ g.octets)) g.end c.stands four in
    let two = Stands-then input a.end b.octets b.end (c.octets ++ (d.octets ++ (f.octets ++ g.octets))) g.end b.stands three in
    let one = Stands-then input 0 a.octets a.end (b.octets ++ (c.octets ++ (d.octets ++ (f.octets ++ g.octets)))) g.end a.stands two in
    subst (SpellsAcknowledgement input) g.behind.1 (record {
      process = a.octets;
      object = b.octets;
      state = c.octets;
      stamp = d.octets;
      source = f.octets;
      time = g.octets;
      parts = all_there input (a.octets ++ (b.octets ++ (c.octets ++ (d.octets ++ (f.octets ++ g.octets))))) g.end g.behind.0 one;
      named_process = a.spells;
      named_object = b.spells;
      named_state = as_enumerated c.octets c.value c.spells;
      stamped = d.spells;
      sourced = (f.value, f.spells);
      timed = (g.value, g.spells);
    })

-- ---- what is spelled so is read

ack_again : (input : List ℕ) (request : AckRequest) → SpellsAcknowledgement input request → chain input ≡ Ok request
ack_again input request s =
    let r1 = s.object ++ (s.state ++ (s.stamp ++ (s.source ++ s.time))) in
    let r2 = s.state ++ (s.stamp ++ (s.source ++ s.time)) in
    let r3 = s.stamp ++ (s.source ++ s.time) in
    let r4 = s.source ++ s.time in
    let end = length (s.process ++ r1) in
    let p0 : Stands input 0 (s.process ++ r1) (0 + end) = Stands-from input 0 (s.process ++ r1) [] (s.parts ∙ sym (append-nil (s.process ++ r1))) in
    let q0 = Stands-front input 0 s.process r1 (0 + end) p0 in
    let e0 = 0 + length s.process in
    let l0 : e0 ≤ length input = Stands-within input 0 s.process e0 (omega arith) q0 in
    let p1 = Stands-back input 0 s.process r1 (0 + end) p0 in
    let q1 = Stands-front input e0 s.object r2 (0 + end) p1 in
    let e1 = e0 + length s.object in
    let l1 : e1 ≤ length input = Stands-within input e0 s.object e1 l0 q1 in
    let p2 = Stands-back input e0 s.object r2 (0 + end) p1 in
    let q2 = Stands-front input e1 s.state r3 (0 + end) p2 in
    let e2 = e1 + length s.state in
    let l2 : e2 ≤ length input = Stands-within input e1 s.state e2 l1 q2 in
    let p3 = Stands-back input e1 s.state r3 (0 + end) p2 in
    let q3 = Stands-front input e2 s.stamp r4 (0 + end) p3 in
    let e3 = e2 + length s.stamp in
    let l3 : e3 ≤ length input = Stands-within input e2 s.stamp e3 l2 q3 in
    let p4 = Stands-back input e2 s.stamp r4 (0 + end) p3 in
    let q4 = Stands-front input e3 s.source s.time (0 + end) p4 in
    let e4 = e3 + length s.source in
    let l4 : e4 ≤ length input = Stands-within input e3 s.source e4 l3 q4 in
    let p5 = Stands-back input e3 s.source s.time (0 + end) p4 in
    let past : length input ≤ 0 + end = omega (arith, ap length s.parts) in
    rw (
      required_again (SpellsUnsigned (Some 0)) (λ input place. unsigned_at input place (Some 0)) (unsigned_reader 0) input 0 s.process request.process e0 (omega arith) s.named_process q0,
      required_again (SpellsObject (Some 1)) (λ input place. object_at input place (Some 1)) (object_reader 1) input e0 s.object request.object e1 l0 s.named_object q1,
      required_again (SpellsUnsigned (Some 2)) (λ input place. unsigned_at input place (Some 2)) (unsigned_reader 2) input e1 s.state request.state e2 l1 (as_unsigned s.state request.state s.named_state) q2,
      required_again (SpellsStampOf 3) (enclosed_at time_stamp_at 3) (stamp_of_reader 3) input e2 s.stamp request.stamp e3 l2 s.stamped q3,
      skipped_valued input e3 (content input e3),
      required_again SpellsSource source_at (octets_reader 4 1 4294967295) input e3 s.source s.sourced.0 e4 l3 s.sourced.1 q4,
      required_again (SpellsStampOf 5) (enclosed_at time_stamp_at 5) (stamp_of_reader 5) input e4 s.time s.timed.0 (0 + end) l4 s.timed.1 p5,
      nothing_none input (0 + end) past,
    )
    refl

-- ---- the refusals

-- what was there, and which of the three refusals it is
pub record Refused (input : List ℕ) (e : Malformed) : Type 0 where
  pub n : ℕ
  pub octets : List ℕ
  pub end : ℕ
  pub stands : Stands input 0 octets end
  pub spelled : SpellsParameters 0 n octets
  pub why : ((n < 6) × (end ≡ length input) × (e ≡ missing_parameter (length input))) ⊎ (((n < 6) × (end < length input) × (e ≡ invalid_tag end) × (step n input end ≡ Err e)) ⊎ ((n ≡ 6) × (end < length input) × (e ≡ too_many_arguments end)))

refused : (input : List ℕ) (e : Malformed) → IsBytes input → acknowledge_request_of input ≡ Err e → Refused input e
refused input e bytes h =
    let c = cause 6 0 input 0 e (omega arith) bytes (omega arith) ((same_refusal input e).0 h) in
    let le : c.end ≤ length input = Stands-within input 0 c.octets c.end (omega arith) c.stands in
    let here : 0 + c.n ≡ c.n = omega arith in
    record {
      n = c.n;
      octets = c.octets;
      end = c.end;
      stands = c.stands;
      spelled = c.spelled;
      why = elim c.why [
        | inl w ↦
            let at : step c.n input c.end ≡ Err e = ap (λ (j : ℕ). step j input c.end) (sym here) ∙ w.1 in
            elim ((step_laws c.n w.0).err input c.end e le at) [
              | inl m ↦ inl (w.0, m.0, m.1)
              | inr i ↦ inr (inl (w.0, i.0, i.1, at))
            ]
        | inr w ↦ let m = nothing_err input c.end e w.1 in inr (inr (w.0, m.0, m.1))
      ];
    }

-- where octets stand from the first place on
pub split : (input octets : List ℕ) (end : ℕ) → Stands input 0 octets end → (input ≡ octets ++ drop end input) × (end ≡ length octets)
split input octets end p = (p.parts, omega (arith, p.ends))

pub some_left : (input : List ℕ) (end : ℕ) → end < length input → drop end input ≢ []
some_left input end lt e = omega (arith, ap length e, length-drop end input)

pub from_start : (input front more : List ℕ) → input ≡ front ++ more → Stands input 0 front (length front)
from_start input front more e =
    let same : 0 + length front ≡ length front = omega arith in
    subst (Stands input 0 front) same (Stands-from input 0 front more e)

pub more_left : (front more input : List ℕ) → input ≡ front ++ more → more ≢ [] → length front < length input
more_left front [] input e some = absurd (some refl)
more_left front (x ∷ more) input e some = omega (arith, ap length e, length-append front (x ∷ more))

step_err : (r : Result ℕ Malformed) → ((end : ℕ) → r ≡ Ok end → ⊥) → (e : Malformed) × (r ≡ Err e)
step_err (Ok end) never = absurd (never end refl)
step_err (Err e) never = (e, refl)

-- all that the clauses say
pub record Acknowledges (input : List ℕ) (answer : Result AckRequest Malformed) : Type 0 where
  pub found : IfOk answer (λ request. SpellsAcknowledgement input request)
  pub only : (request : AckRequest) → SpellsAcknowledgement input request → answer ≡ Ok request
  pub missing : (answer ≡ Err (missing_parameter (length input))) ↔ LacksParameter input
  pub too_many : (place : ℕ) → (answer ≡ Err (too_many_arguments place)) ↔ HasMore input place
  pub invalid : (place : ℕ) → (answer ≡ Err (invalid_tag place)) ↔ HasInvalidParameter input place
  pub refusals : IfErr answer (λ why. (why ≡ missing_parameter (length input)) ⊎ ((why ≡ too_many_arguments why.at) ⊎ (why ≡ invalid_tag why.at)))

missing_there : (input : List ℕ) → IsBytes input → acknowledge_request_of input ≡ Err (missing_parameter (length input)) → LacksParameter input
missing_there input bytes h =
    let r = refused input (missing_parameter (length input)) bytes h in
    elim r.why [
      | inl w ↦ record { there = r.n; few = w.0; spelled = subst (SpellsParameters 0 r.n) (sym (all_there input r.octets r.end (omega (arith, w.1)) r.stands)) r.spelled }
      | inr rest ↦ elim rest [ inl w ↦ absurd (five_four (length input) r.end w.2) | inr w ↦ absurd (five_seven (length input) r.end w.2) ]
    ]

missing_back : (input : List ℕ) → LacksParameter input → acknowledge_request_of input ≡ Err (missing_parameter (length input))
missing_back input l =
    let here : 0 + l.there ≡ l.there = omega arith in
    (same_refusal input (missing_parameter (length input))).1 (run_fails 6 0 l.there input 0 input (length input) (missing_parameter (length input)) l.few (omega arith) (omega arith) l.spelled (from_start input input [] (sym (append-nil input))) (ap (λ (j : ℕ). step j input (length input)) here ∙ (step_laws l.there l.few).outside input (length input) (omega arith)))

too_many_there : (input : List ℕ) (place : ℕ) → IsBytes input → acknowledge_request_of input ≡ Err (too_many_arguments place) → HasMore input place
too_many_there input place bytes h =
    let r = refused input (too_many_arguments place) bytes h in
    elim r.why [
      | inl w ↦ absurd (five_seven (length input) place (sym w.2))
      | inr rest ↦
          elim rest [
            | inl w ↦ absurd (four_seven r.end place (sym w.2))
            | inr w ↦
                let s = split input r.octets r.end r.stands in
                let at : place ≡ r.end = ap (λ (m : Malformed). m.at) w.2 in
                record { front = r.octets; more = drop r.end input; parts = s.0; spelled = subst (λ (n : ℕ). SpellsParameters 0 n r.octets) w.0 r.spelled; some = some_left input r.end w.1; ends = at ∙ s.1 }
          ]
    ]

too_many_back : (input : List ℕ) (place : ℕ) → HasMore input place → acknowledge_request_of input ≡ Err (too_many_arguments place)
too_many_back input place m =
    let lt = more_left m.front m.more input m.parts m.some in
    let ends = run_ends 6 0 input 0 m.front (length m.front) (omega arith) (omega arith) m.spelled (from_start input m.front m.more m.parts) in
    (same_refusal input (too_many_arguments place)).1 (ends ∙ nothing_more input (length m.front) lt ∙ ap (λ (p : ℕ). Err (too_many_arguments p)) (sym m.ends))

invalid_there : (input : List ℕ) (place : ℕ) → IsBytes input → acknowledge_request_of input ≡ Err (invalid_tag place) → HasInvalidParameter input place
invalid_there input place bytes h =
    let r = refused input (invalid_tag place) bytes h in
    elim r.why [
      | inl w ↦ absurd (five_four (length input) place (sym w.2))
      | inr rest ↦
          elim rest [
            | inl w ↦
                let s = split input r.octets r.end r.stands in
                let at : place ≡ r.end = ap (λ (m : Malformed). m.at) w.2 in
                record {
                  there = r.n;
                  few = w.0;
                  front = r.octets;
                  more = drop r.end input;
                  parts = s.0;
                  spelled = r.spelled;
                  some = some_left input r.end w.1;
                  ends = at ∙ s.1;
                  other = λ next back e p. let ok = (step_laws r.n w.0).again input r.end next (r.end + length next) (omega (arith, w.1)) p (Stands-from input r.end next back e) in let bad = sym ok ∙ w.3 in cc;
                }
            | inr w ↦ absurd (four_seven place r.end w.2)
          ]
    ]

invalid_back : (input : List ℕ) (place : ℕ) → IsBytes input → HasInvalidParameter input place → acknowledge_request_of input ≡ Err (invalid_tag place)
invalid_back input place bytes v =
    let lt = more_left v.front v.more input v.parts v.some in
    let p = from_start input v.front v.more v.parts in
    let left : drop (length v.front) input ≡ v.more = more_is input v.front v.more v.parts in
    let laws = step_laws v.there v.few in
    let failed = step_err (step v.there input (length v.front)) (λ end ok. let s = laws.ok input (length v.front) end bytes (omega (arith, lt)) ok in v.other s.octets (drop end input) (sym left ∙ s.stands.parts) s.spells) in
    let is : failed.0 ≡ invalid_tag place = elim (laws.err input (length v.front) failed.0 (omega (arith, lt)) failed.1) [
      | inl m ↦ absurd (omega (arith, lt, m.0))
      | inr i ↦ i.1 ∙ ap invalid_tag (sym v.ends)
    ] in
    let here : 0 + v.there ≡ v.there = omega arith in
    (same_refusal input (invalid_tag place)).1 (run_fails 6 0 v.there input 0 v.front (length v.front) (invalid_tag place) v.few (omega arith) (omega arith) v.spelled p (ap (λ (j : ℕ). step j input (length v.front)) here ∙ failed.1 ∙ ap Err is))
  where
    more_is : (input front more : List ℕ) → input ≡ front ++ more → drop (length front) input ≡ more
    more_is input front more e = ap (drop (length front)) e ∙ drop_at front more (length front) refl

pub acknowledges : (input : List ℕ) (answer : Result AckRequest Malformed) → IsBytes input → answer ≡ acknowledge_request_of input → Acknowledges input answer
acknowledges input answer bytes e = record {
  found = found answer (acknowledge_request_of input) e (λ request h. assemble input request (find_all input request bytes (sym (is_chain input) ∙ h)));
  only = λ request s. e ∙ is_chain input ∙ ack_again input request s;
  missing = (λ h. missing_there input bytes (sym e ∙ h), λ l. e ∙ missing_back input l);
  too_many = λ place. (λ h. too_many_there input place bytes (sym e ∙ h), λ m. e ∙ too_many_back input place m);
  invalid = λ place. (λ h. invalid_there input place bytes (sym e ∙ h), λ v. e ∙ invalid_back input place bytes v);
  refusals = refusals answer (acknowledge_request_of input) e (λ why h. reason why (refused input why bytes h));
}
  where
    found : (r read : Result AckRequest Malformed) → r ≡ read → ((x : AckRequest) → read ≡ Ok x → SpellsAcknowledgement input x) → IfOk r (λ request. SpellsAcknowledgement input request)
    found (Ok x) read same f = f x (sym same)
    found (Err d) read same f = tt

    refusals : {Why : Malformed → Type 0} (r read : Result AckRequest Malformed) → r ≡ read → ((x : Malformed) → read ≡ Err x → Why x) → IfErr r Why
    refusals (Ok x) read same f = tt
    refusals (Err d) read same f = f d (sym same)

    reason : (why : Malformed) → Refused input why → (why ≡ missing_parameter (length input)) ⊎ ((why ≡ too_many_arguments why.at) ⊎ (why ≡ invalid_tag why.at))
    reason why r = elim r.why [
      | inl w ↦ inl w.2
      | inr rest ↦ elim rest [
        | inl w ↦ inr (inr (w.2 ∙ ap invalid_tag (sym (ap (λ (m : Malformed). m.at) w.2))))
        | inr w ↦ inr (inl (w.2 ∙ ap too_many_arguments (sym (ap (λ (m : Malformed). m.at) w.2))))
      ]
    ]
