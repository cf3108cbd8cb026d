use Rattle.std.proofs.Common.{◌≡◌, ◌∙◌, ◌∷◌, List, Option, ℕ, map, refl, sym, subst, ap, arith}
use Rattle.bac_values.specs.Identifier.{ObjectIdData}
use Rattle.enrollment.specs.Objects.{ObjectsState, written}
use Rattle.enrollment.specs.Watchers.{referrers_in, watchers}
use Rattle.alarm_core.specs.State.{DetectedObjectState}
use Rattle.alarm_core.specs.DueSteps.{AreEarly, DetectionsState, LeadsBack, Undoes, all_once, due_of, object_of, restored, start_of, touched_by}
use Rattle.alarm_core.proofs.Places.{as_many_objects, ascend_still}
use Rattle.alarm_core.proofs.Undoing.{leads_nowhere, undoes_here}
use Rattle.alarm_core.proofs.Untouched.{early_touched}
use Rattle.alarm_core.proofs.detections.Detections.write.Goals as goal

pub put_back-requires : goal.put_back-requires
put_back-requires g c =
    let inside = c.self.inside in
    let formers = c.args.round.now.formers.items in
    let led = subst (λ (s : DetectionsState). LeadsBack formers (start_of formers s) s) (sym c.self.view_is) c.requires.undoes in
    let start : DetectionsState = record { values = inside.objects; alarms = restored formers inside.timed.alarms.items } in
    let first = subst (λ (timers : List (Option ℕ)). Undoes formers start inside.timed.alarms.items timers) (sym c.self.invariant.timers) led.undoes in
    record { undoes = undoes_here c.touch_all-touched.new.round.formers.items start inside.objects c.touch_all-touched.new.timed.alarms.items c.touch_all-touched.new.timed.timers refl (c.touch_all-touched.ensures.undoes start first) }

pub invariant_of-self : goal.invariant_of-self
invariant_of-self g c =
    let inside = c.self.inside in
    let formers = c.args.round.now.formers.items in
    let led = subst (λ (s : DetectionsState). LeadsBack formers (start_of formers s) s) (sym c.self.view_is) c.requires.undoes in
    let start : DetectionsState = record { values = inside.objects; alarms = restored formers inside.timed.alarms.items } in
    let first = subst (λ (timers : List (Option ℕ)). Undoes formers start inside.timed.alarms.items timers) (sym c.self.invariant.timers) led.undoes in
    let touched = c.touch_all-touched.ensures.undoes start first in
    let objects = ap (map object_of) (c.put_back.ensures.alarms ∙ touched.puts_back) ∙ led.objects in
    record {
      timers = c.put_back.ensures.timers;
      few = omega (arith, as_many_objects inside.timed.alarms.items c.put_back.new.timed.alarms.items objects, c.self.invariant.few);
      ascending = ascend_still inside.timed.alarms.items c.put_back.new.timed.alarms.items objects c.self.invariant.ascending;
    }

pub returns-in-Err-clause-undoes : goal.returns-in-Err-clause-undoes
returns-in-Err-clause-undoes g c =
    let inside = c.self.inside in
    let formers = c.args.round.now.formers.items in
    let led = subst (λ (s : DetectionsState). LeadsBack formers (start_of formers s) s) (sym c.self.view_is) c.requires.undoes in
    let start : DetectionsState = record { values = inside.objects; alarms = restored formers inside.timed.alarms.items } in
    let first = subst (λ (timers : List (Option ℕ)). Undoes formers start inside.timed.alarms.items timers) (sym c.self.invariant.timers) led.undoes in
    let touched = c.touch_all-touched.ensures.undoes start first in
    let back : start ≡ record { values = inside.objects; alarms = c.put_back.new.timed.alarms.items } =
    ap (λ ds. record { values = inside.objects; alarms = ds }) (sym (c.put_back.ensures.alarms ∙ touched.puts_back)) in
    leads_nowhere c.put_back.new.formers.items (start_of formers c.args.self.now) _ c.put_back.ensures.none (ap (start_of formers) (sym c.self.view_is) ∙ back)

pub evaluate_due-requires-clause-early : goal.evaluate_due-requires-clause-early
evaluate_due-requires-clause-early g c =
    let inside = c.self.inside in
    let alarms = inside.timed.alarms.items in
    let change = c.args.change in
    let touched = c.touch_all-touched in
    let quiet = c.in_default.ensures in
    let values : c.apply-undo.new.self ≡ written change inside.objects = c.apply-undo.ensures.objects in
    let sites : c.watchers_of-watchers.result.now ≡ watchers change.object (referrers_in inside.objects) = c.watchers_of-watchers.ensures.watchers in
    let timers : touched.new.timed.timers ≡ all_once (touched_by change.object inside.objects) alarms (map (due_of inside.objects) alarms) =
    quiet.timers ∙ (ap (λ (objects : List ObjectIdData). all_once (change.object ∷ objects) alarms inside.timed.timers) sites ∙ ap (all_once (touched_by change.object inside.objects) alarms) c.self.invariant.timers) in
    subst (λ (vs : ObjectsState). AreEarly vs touched.new.timed.alarms.items touched.new.timed.timers) (sym values)
    (subst (λ (ds : List DetectedObjectState). AreEarly (written change inside.objects) ds touched.new.timed.timers) (sym quiet.alarms)
    (subst (AreEarly (written change inside.objects) alarms) (sym timers) (early_touched change inside.objects alarms)))

pub put_back-requires-in-Err-evaluate_due : goal.put_back-requires-in-Err-evaluate_due
put_back-requires-in-Err-evaluate_due g c =
    let inside = c.self.inside in
    let formers = c.args.round.now.formers.items in
    let led = subst (λ (s : DetectionsState). LeadsBack formers (start_of formers s) s) (sym c.self.view_is) c.requires.undoes in
    let start : DetectionsState = record { values = inside.objects; alarms = restored formers inside.timed.alarms.items } in
    let first = subst (λ (timers : List (Option ℕ)). Undoes formers start inside.timed.alarms.items timers) (sym c.self.invariant.timers) led.undoes in
    let second = c.evaluate_due.ensures.undoes start (c.touch_all-touched.ensures.undoes start first) in
    let values : c.take_back.new.objects ≡ inside.objects = c.take_back.ensures.objects ∙ c.apply-undo.ensures.undo in
    record { undoes = undoes_here c.evaluate_due.new.round.formers.items start c.take_back.new.objects c.evaluate_due.new.timed.alarms.items c.evaluate_due.new.timed.timers values second }

pub invariant_of-self-in-Err-evaluate_due : goal.invariant_of-self-in-Err-evaluate_due
invariant_of-self-in-Err-evaluate_due g c =
    let inside = c.self.inside in
    let formers = c.args.round.now.formers.items in
    let led = subst (λ (s : DetectionsState). LeadsBack formers (start_of formers s) s) (sym c.self.view_is) c.requires.undoes in
    let start : DetectionsState = record { values = inside.objects; alarms = restored formers inside.timed.alarms.items } in
    let first = subst (λ (timers : List (Option ℕ)). Undoes formers start inside.timed.alarms.items timers) (sym c.self.invariant.timers) led.undoes in
    let second = c.evaluate_due.ensures.undoes start (c.touch_all-touched.ensures.undoes start first) in
    let objects = ap (map object_of) (c.put_back-in-Err-evaluate_due.ensures.alarms ∙ second.puts_back) ∙ led.objects in
    record {
      timers = c.put_back-in-Err-evaluate_due.ensures.timers;
      few = omega (arith, as_many_objects inside.timed.alarms.items c.put_back-in-Err-evaluate_due.new.timed.alarms.items objects, c.self.invariant.few);
      ascending = ascend_still inside.timed.alarms.items c.put_back-in-Err-evaluate_due.new.timed.alarms.items objects c.self.invariant.ascending;
    }

pub returns-in-Ok-clause-undoes : goal.returns-in-Ok-clause-undoes
returns-in-Ok-clause-undoes g c =
    let inside = c.self.inside in
    let formers = c.args.round.now.formers.items in
    let led = subst (λ (s : DetectionsState). LeadsBack formers (start_of formers s) s) (sym c.self.view_is) c.requires.undoes in
    let start : DetectionsState = record { values = inside.objects; alarms = restored formers inside.timed.alarms.items } in
    let first = subst (λ (timers : List (Option ℕ)). Undoes formers start inside.timed.alarms.items timers) (sym c.self.invariant.timers) led.undoes in
    let second = c.evaluate_due.ensures.undoes start (c.touch_all-touched.ensures.undoes start first) in
    let objects = c.evaluate_due.ensures.objects ∙ ap (map object_of) c.touch_all-touched.ensures.alarms in
    subst (λ (s : DetectionsState). LeadsBack c.evaluate_due.new.round.formers.items (start_of formers s) (record { values = c.apply-undo.new.self; alarms = c.evaluate_due.new.timed.alarms.items })) c.self.view_is
    (record {
      undoes = subst (Undoes c.evaluate_due.new.round.formers.items start c.evaluate_due.new.timed.alarms.items) c.in-Ok.ensures.timers second;
      objects = led.objects ∙ sym objects;
    })

pub returns-in-Err-evaluate_due-clause-undoes : goal.returns-in-Err-evaluate_due-clause-undoes
returns-in-Err-evaluate_due-clause-undoes g c =
    let inside = c.self.inside in
    let formers = c.args.round.now.formers.items in
    let led = subst (λ (s : DetectionsState). LeadsBack formers (start_of formers s) s) (sym c.self.view_is) c.requires.undoes in
    let start : DetectionsState = record { values = inside.objects; alarms = restored formers inside.timed.alarms.items } in
    let first = subst (λ (timers : List (Option ℕ)). Undoes formers start inside.timed.alarms.items timers) (sym c.self.invariant.timers) led.undoes in
    let second = c.evaluate_due.ensures.undoes start (c.touch_all-touched.ensures.undoes start first) in
    let values : c.take_back.new.objects ≡ inside.objects = c.take_back.ensures.objects ∙ c.apply-undo.ensures.undo in
    let alarms = c.put_back-in-Err-evaluate_due.ensures.alarms ∙ second.puts_back in
    let back : start ≡ record { values = c.take_back.new.objects; alarms = c.put_back-in-Err-evaluate_due.new.timed.alarms.items } = λ k. record { values = sym values k; alarms = sym alarms k } in
    leads_nowhere c.put_back-in-Err-evaluate_due.new.formers.items (start_of formers c.args.self.now) _ c.put_back-in-Err-evaluate_due.ensures.none (ap (start_of formers) (sym c.self.view_is) ∙ back)
