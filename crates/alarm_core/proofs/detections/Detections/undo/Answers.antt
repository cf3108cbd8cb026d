use Rattle.std.proofs.Common.{◌∙◌, List, Option, ℕ, length, map, sym, subst, ap, arith}
use Rattle.alarm_core.specs.DueSteps.{DetectionsState, LeadsBack, Undoes, object_of, restored, start_of}
use Rattle.alarm_core.proofs.Places.{ascend_still}
use Rattle.alarm_core.proofs.Rounds.{as_long}
use Rattle.alarm_core.proofs.detections.Detections.undo.Goals as goal

pub put_back-requires : goal.put_back-requires
put_back-requires c =
    let inside = c.self.inside in
    let formers = c.args.round.now.formers.items in
    let led = subst (λ (s : DetectionsState). LeadsBack formers (start_of formers s) s) (sym c.self.view_is) c.requires.undoes in
    record {
      undoes = subst (λ (timers : List (Option ℕ)). Undoes formers (record { values = inside.objects; alarms = restored formers inside.timed.alarms.items }) inside.timed.alarms.items timers)
          (sym c.self.invariant.timers) led.undoes;
    }

pub invariant_of-self : goal.invariant_of-self
invariant_of-self c =
    let inside = c.self.inside in
    let formers = c.args.round.now.formers.items in
    let led = subst (λ (s : DetectionsState). LeadsBack formers (start_of formers s) s) (sym c.self.view_is) c.requires.undoes in
    record {
      timers = c.put_back.ensures.timers;
      few = omega (arith, ap length c.put_back.ensures.alarms, as_long formers inside.timed.alarms.items, c.self.invariant.few);
      ascending = ascend_still inside.timed.alarms.items _ (ap (map object_of) c.put_back.ensures.alarms ∙ led.objects) c.self.invariant.ascending;
    }
