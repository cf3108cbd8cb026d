-- A tick, an acknowledgement and a write, step by step.
use Rattle.std.proofs.Common.{◌≡◌, ℕ, Result, Ok, Err, List, [], ◌∷◌, ◌++◌, map, refl, ap, sym, ◌∙◌}
use Rattle.std.proofs.Math.Path.{fun_ext}
use Rattle.std.proofs.lemmas.List.{append-nil}
use Rattle.std.specs.List.{flat_map}
use Rattle.std.specs.Prelude.{IfOk, OnOk}
use Rattle.bac_values.specs.Identifier.{ObjectIdData}
use Rattle.bac_values.specs.declared.event_state.EventState.{EventState}
use Rattle.bac_values.specs.declared.note.Note.{Note}
use Rattle.bac_values.specs.declared.moved.Moved.{Moved}
use Rattle.bac_values.specs.declared.transition.Transition.{Transition}
use Rattle.bac_values.specs.declared.peer.Peer.{Peer}
use Rattle.notify_class.specs.declared.destination.Destination.{Destination}
use Rattle.notify_class.specs.Edits.{recipient_peers}
use Rattle.object_table.specs.declared.change.Change.{Change}
use Rattle.outbox.specs.Outboxes.{OutboxState, answered, learned, pumped, queued}
use Rattle.enrollment.specs.Objects.{ObjectsState, written}
use Rattle.alarm_core.specs.declared.event.Act.TheVariants.{Tick, Write, Ack, Pump, Answer, Edit}
use Rattle.alarm_core.specs.Classes.{edited}
use Rattle.alarm_core.specs.Evaluations.{site_moment}
use Rattle.alarm_core.specs.History.{StateTransition, event_at, moved_by, tick_at}
use Rattle.alarm_core.specs.Logs.{call_of_change, calls_by, records_of, SiteLogState}
use Rattle.alarm_core.specs.Notes.{notes_of_transition, notes_of_transitions}
use Rattle.alarm_core.specs.CoreSteps.{acked, acted, after_calls, evaluated_all, next_notes, next_transitions, transitions_all, transitions_by}
use Rattle.alarm_core.specs.declared.step.Done.{Done}
use Rattle.alarm_core.specs.declared.transition.ObjectTransition.{ObjectTransition}
use Rattle.civil_stamp.specs.LocalTime.{LocalMomentData}
use Rattle.alarm_core.specs.DueSteps.{all_once, detections_of, due_count, due_of, dues_of, touched_by}
use Rattle.alarm_core.specs.State.{DetectedObjectState, CoreState}
use Rattle.alarm_core.specs.ViewSteps.{seen_in}
use Rattle.alarm_core.specs.Verdicts.{queue_verdict, step_verdict}
use Rattle.alarm_core.proofs.MovesTold.{each_of_one_look, each_of_two_looks, of_two_looks}

-- where an answer gives two facts, it gives what follows from both
pub on_both : {A E P Q R : Type 0} (result : Result A E) → (P → Q → R) → OnOk result P → OnOk result Q → OnOk result R
on_both (Ok done) f p q = f p q
on_both (Err fault) f p q = p

-- what follows from the fact that it gives
pub on_ok : {A E P Q : Type 0} (result : Result A E) → (P → Q) → OnOk result P → OnOk result Q
on_ok (Ok done) f p = f p
on_ok (Err fault) f p = p

-- moves that are the same
pub if_ok_same : {E : Type 0} (result : Result Done E) (some all : List Moved) → some ≡ all → IfOk result (λ done. done.moves.items ≡ some) → IfOk result (λ done. done.moves.items ≡ all)
if_ok_same (Ok done) some all e p = p ∙ e
if_ok_same (Err fault) some all e p = p

-- logs with no calls stay as they are
no_calls : (logs : List SiteLogState) → logs ≡ map (λ (kept : SiteLogState). record kept { log = after_calls [] kept.log }) logs
no_calls [] = refl
no_calls (kept ∷ logs) = ap (λ later. kept ∷ later) (no_calls logs)

module _ (old : CoreState) (moment : ℕ) where
  pub ticked : (new : CoreState) (alarms : List DetectedObjectState) (notes : List Note) (outbox : OutboxState) (logs : List SiteLogState) → new ≡ record old { alarms = alarms; outbox = outbox; logs = logs } →
      let look = site_moment old.site moment in
      alarms ≡ evaluated_all look old.values old.alarms → outbox ≡ queued notes old.outbox →
      notes ≡ notes_of_transitions old.site old.classes (transitions_all look old.values old.alarms) →
      logs ≡ map (λ (kept : SiteLogState). record kept { log = after_calls (records_of old.site old.classes kept.site (transitions_all look old.values old.alarms)) kept.log }) old.logs →
      new ≡ acted (tick_at moment) old
  ticked new alarms notes outbox logs n a o t l =
      let transitions = transitions_all (site_moment old.site moment) old.values old.alarms in
      let told = t ∙ each_of_one_look (notes_of_transition old.site old.classes) transitions in
      let recorded = λ (kept : SiteLogState). record kept { log = after_calls (records_of old.site old.classes kept.site transitions) kept.log } in
      let called = λ (kept : SiteLogState). record kept { log = after_calls (calls_by old.site old.classes kept.site Tick (transitions ∷ [])) kept.log } in
      let same : recorded ≡ called =
      fun_ext (λ (kept : SiteLogState). ap (λ calls. record kept { log = after_calls calls kept.log }) (sym (append-nil (records_of old.site old.classes kept.site transitions)))) in
      n ∙ (λ k. record old { alarms = a k; outbox = (o ∙ ap (λ ns. queued ns old.outbox) told) k; logs = (l ∙ ap (λ f. map f old.logs) same) k })

  pub pumped_state : (new : CoreState) → new ≡ record old { outbox = pumped moment old.outbox } → new ≡ acted (event_at moment Pump) old
  pumped_state new n = n ∙ (λ k. record old { outbox = pumped moment old.outbox; logs = no_calls old.logs k })

  pub answered_state : (peer : Peer) (invoke kind : ℕ) (new : CoreState) → new ≡ record old { outbox = answered peer invoke old.outbox } → new ≡ acted (event_at moment (Answer peer invoke kind)) old
  answered_state peer invoke kind new n = n ∙ (λ k. record old { outbox = answered peer invoke old.outbox; logs = no_calls old.logs k })

  pub edited_state : (class : ℕ) (destinations : List Destination) (new : CoreState) →
      new ≡ record old { classes = map (edited class destinations) old.classes; outbox = learned (recipient_peers destinations) old.outbox } → new ≡ acted (event_at moment (Edit class destinations)) old
  edited_state class destinations new n =
      n ∙ (λ k. record old { classes = map (edited class destinations) old.classes; outbox = learned (recipient_peers destinations) old.outbox; logs = no_calls old.logs k })

  pub acknowledged_state : (object : ObjectIdData) (transition : Transition) (named : EventState) (new : CoreState) (alarms : List DetectedObjectState) (notes : List Note) (outbox : OutboxState) →
      new ≡ record old { alarms = alarms; outbox = outbox } → alarms ≡ map (acked object transition) old.alarms → outbox ≡ queued notes old.outbox →
      notes ≡ next_notes (event_at moment (Ack object transition named)) old → new ≡ acted (event_at moment (Ack object transition named)) old
  acknowledged_state object transition named new alarms notes outbox n a o t =
      n ∙ (λ k. record old { alarms = a k; outbox = (o ∙ ap (λ ns. queued ns old.outbox) t) k; logs = no_calls old.logs k })

-- a write of an object, or of a log, which leaves the objects' properties as they are
module _ (old : CoreState) (moment : ℕ) (change : Change) (values : ObjectsState) (values_are : values ≡ written change old.values)
    (before : List DetectedObjectState) (before_is : before ≡ evaluated_all (site_moment old.site moment) old.values old.alarms)
    (notes : List Note) (notes_are : notes ≡ notes_of_transitions old.site old.classes (transitions_all (site_moment old.site moment) old.values old.alarms)) where
  -- the transitions of the first look, and of the second
  first_ones : List StateTransition
  first_ones = transitions_all (site_moment old.site moment) old.values old.alarms

  second_ones : ObjectsState → List DetectedObjectState → List StateTransition
  second_ones now alarms = transitions_all (site_moment old.site moment) now alarms

  all_notes : ObjectsState → List DetectedObjectState → List Note → List Note
  all_notes now alarms first = first ++ notes_of_transitions old.site old.classes (second_ones now alarms)

  after_both : ObjectsState → List DetectedObjectState → List Note → List SiteLogState → CoreState
  after_both now alarms first logs = record old { values = now; alarms = evaluated_all (site_moment old.site moment) now alarms; outbox = queued first old.outbox; logs = logs }

  -- the records of the first look, the change, and the records of the second
  all_logs : List StateTransition → List SiteLogState
  all_logs second = map (λ (kept : SiteLogState). record kept {
    log = after_calls (records_of old.site old.classes kept.site first_ones ++ (call_of_change kept.site change ++ records_of old.site old.classes kept.site second)) kept.log;
  }) old.logs

  same_notes : all_notes values before notes ≡ next_notes (event_at moment (Write change)) old
  unfolding all_notes first_ones second_ones
  same_notes =
      let after = evaluated_all (site_moment old.site moment) old.values old.alarms in
      (λ k. all_notes (values_are k) (before_is k) (notes_are k)) ∙ each_of_two_looks (notes_of_transition old.site old.classes) first_ones (second_ones (written change old.values) after)

  same_logs : all_logs (second_ones values before) ≡ (acted (event_at moment (Write change)) old).logs
  unfolding all_logs first_ones second_ones
  same_logs =
      let after = evaluated_all (site_moment old.site moment) old.values old.alarms in
      (λ k. all_logs (second_ones (values_are k) (before_is k))) ∙ ap all_logs (sym (append-nil (second_ones (written change old.values) after)))

  pub written_state : (new : CoreState) (logs : List SiteLogState) →
      let look = site_moment old.site moment in
      new ≡ record old {
        values = values;
        alarms = evaluated_all look values before;
        outbox = queued (notes ++ notes_of_transitions old.site old.classes (transitions_all look values before)) old.outbox;
        logs = logs;
      } →
      logs ≡ map (λ (kept : SiteLogState). record kept {
        log = after_calls (records_of old.site old.classes kept.site (transitions_all look old.values old.alarms)
            ++ (call_of_change kept.site change ++ records_of old.site old.classes kept.site (transitions_all look values before))) kept.log;
      }) old.logs →
      new ≡ acted (event_at moment (Write change)) old
  unfolding after_both all_notes all_logs first_ones second_ones
  written_state new logs e l = e ∙ (λ k. after_both (values_are k) (before_is k) (same_notes k) ((l ∙ same_logs) k))

  pub written_verdict : queue_verdict (notes ++ notes_of_transitions old.site old.classes (transitions_all (site_moment old.site moment) values before)) old.outbox
      ≡ step_verdict (event_at moment (Write change)) old
  unfolding all_notes second_ones
  written_verdict = ap (λ ns. queue_verdict ns old.outbox) same_notes

  pub written_moves : (moves : List Moved) → moves ≡ map moved_by (transitions_all (site_moment old.site moment) old.values old.alarms) →
      moves ++ map moved_by (transitions_all (site_moment old.site moment) values before) ≡ map moved_by (next_transitions (event_at moment (Write change)) old)
  unfolding first_ones second_ones
  written_moves moves m =
      let after = evaluated_all (site_moment old.site moment) old.values old.alarms in
      (λ k. m k ++ map moved_by (second_ones (values_are k) (before_is k))) ∙ of_two_looks moved_by first_ones (second_ones (written change old.values) after)

-- the second look of a write, behind the first
pub record SecondLook (old now : CoreState) (moment : ℕ) (change : Change) (transitions : List ObjectTransition) : Type 0 where
  pub state : now ≡ record old {
    values = written change old.values;
    alarms = evaluated_all (site_moment old.site moment) (written change old.values) (evaluated_all (site_moment old.site moment) old.values old.alarms);
  }
  pub seen : seen_in moment now transitions ≡ transitions_all (site_moment old.site moment) (written change old.values) (evaluated_all (site_moment old.site moment) old.values old.alarms)

pub second_look : (old between now : CoreState) (moment : ℕ) (change : Change) (transitions : List ObjectTransition) →
    between ≡ record old { alarms = between.alarms } → between.alarms ≡ evaluated_all (site_moment old.site moment) old.values old.alarms →
    now ≡ record between { values = now.values; alarms = now.alarms } → now.values ≡ written change between.values →
    now.alarms ≡ evaluated_all (site_moment between.site moment) (written change between.values) between.alarms →
    transitions ≡ flat_map (transitions_by (site_moment between.site moment) (written change between.values)) between.alarms → SecondLook old now moment change transitions
second_look old between now moment change transitions b e n v a t =
    let first : between ≡ record old { alarms = evaluated_all (site_moment old.site moment) old.values old.alarms } = b ∙ (λ k. record old { alarms = e k }) in
    let values = v ∙ ap (λ (s : CoreState). written change s.values) first in
    let alarms = a ∙ ap (λ (s : CoreState). evaluated_all (site_moment s.site moment) (written change s.values) s.alarms) first in
    let made = t ∙ ap (λ (s : CoreState). flat_map (transitions_by (site_moment s.site moment) (written change s.values)) s.alarms) first in
    let second = n ∙ (λ k. record (first k) { values = values k; alarms = alarms k }) in
    record { state = second; seen = λ k. seen_in moment (second k) (made k) }

-- as many looks are due at the second one as after the first one of a core whose view this is
pub second_steps : (old between : CoreState) (at : LocalMomentData) (object : ObjectIdData) → between ≡ record old { alarms = between.alarms } →
    between.alarms ≡ evaluated_all (site_moment old.site at.moment) old.values old.alarms → at ≡ site_moment old.site at.moment →
    due_count at.moment (all_once (touched_by object between.values) between.alarms (dues_of (detections_of between)))
    ≡ due_count at.moment (all_once (touched_by object old.values) (evaluated_all at old.values old.alarms) (map (due_of old.values) (evaluated_all at old.values old.alarms)))
second_steps old between at object b e here =
    let alarms = e ∙ ap (λ a. evaluated_all a old.values old.alarms) (sym here) in
    ap (λ (s : CoreState). due_count at.moment (all_once (touched_by object s.values) s.alarms (dues_of (detections_of s)))) (b ∙ (λ k. record old { alarms = alarms k }))
