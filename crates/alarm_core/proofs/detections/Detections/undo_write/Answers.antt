use Rattle.std.proofs.Common.{◌≡◌, ◌∙◌, List, Option, ℕ, length, map, sym, subst, ap, arith, rules}
use Rattle.enrollment.specs.Objects.{ObjectsState, written}
use Rattle.alarm_core.specs.DueSteps.{DetectionsState, LeadsBack, Undoes, object_of, restored, start_of}
use Rattle.alarm_core.proofs.Places.{ascend_still}
use Rattle.alarm_core.proofs.Rounds.{as_long}
use Rattle.alarm_core.proofs.detections.Detections.undo_write.Goals as goal

pub put_back-requires : goal.put_back-requires
put_back-requires c =
    let inside = c.self.inside in
    let formers = c.args.round.now.formers.items in
    let alarms = restored formers inside.timed.alarms.items in
    let led = subst (λ (s : DetectionsState). LeadsBack formers (record (start_of formers s) { values = written c.args.undo s.values }) s) (sym c.self.view_is) c.requires.undoes in
    let timed = subst (λ (timers : List (Option ℕ)). Undoes formers (record { values = written c.args.undo inside.objects; alarms = alarms }) inside.timed.alarms.items timers) (sym c.self.invariant.timers) led.undoes in
    let values : c.take_back.new.objects ≡ written c.args.undo inside.objects = search rules in
    record { undoes = subst (λ (values : ObjectsState). Undoes formers (record { values = values; alarms = alarms }) inside.timed.alarms.items inside.timed.timers) (sym values) timed }

pub invariant_of-self : goal.invariant_of-self
invariant_of-self c =
    let inside = c.self.inside in
    let formers = c.args.round.now.formers.items in
    let led = subst (λ (s : DetectionsState). LeadsBack formers (record (start_of formers s) { values = written c.args.undo s.values }) s) (sym c.self.view_is) c.requires.undoes in
    record {
      timers = c.put_back.ensures.timers;
      few = omega (arith, ap length c.put_back.ensures.alarms, as_long formers inside.timed.alarms.items, c.self.invariant.few);
      ascending = ascend_still inside.timed.alarms.items _ (ap (map object_of) c.put_back.ensures.alarms ∙ led.objects) c.self.invariant.ascending;
    }
