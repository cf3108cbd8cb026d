use Rattle.std.proofs.Common.{◌≡◌, ◌<◌, ◌+◌, ◌-◌, [], length, map, refl, sym, subst, ap, ◌∙◌, IsTrue, true, false, arith}
use Rattle.std.specs.List.{flat_map}
use Rattle.std.proofs.lemmas.List.{length-map}
use Rattle.alarm_core.specs.History.{object_transition}
use Rattle.alarm_core.specs.CoreSteps.{change_at, transitions_by}
use Rattle.alarm_core.specs.DueSteps.{due_of}
use Rattle.alarm_core.proofs.Still.{flat_map-none, map-none}
use Rattle.alarm_core.proofs.Rounds.{next_mover, nobody_moves, none_yet}
use Rattle.alarm_core.proofs.due_looks.are_still.Goals as goal

pub due_from-requires : goal.due_from-requires
due_from-requires g c =
    let timed = c.args.timed.now in
    record { within = omega (arith, c.loop-index.invariant.within, ap length c.requires.exact, length-map timed.alarms.items (due_of c.args.objects.now)) }

pub index-requires : goal.index-requires
index-requires g c =
    let timed = c.args.timed.now in
    let next = next_mover c.args.at.now c.args.objects.now c.moment-moment.result c.loop-index.from c.in-Some.index timed.alarms.items timed.timers c.moment-moment.ensures.moment c.requires.exact c.in-Some.ensures.first in
    omega (arith, next.within)

pub returns-then-not-is_still-clause-still : goal.returns-then-not-is_still-clause-still
returns-then-not-is_still-clause-still g c =
    let timed = c.args.timed.now in
    let at = c.args.at.now in
    let values = c.args.objects.now in
    let made = transitions_by at values in
    let detected = c.index.result.now in
    let next = next_mover at values c.moment-moment.result c.loop-index.from c.in-Some.index timed.alarms.items timed.timers c.moment-moment.ensures.moment c.requires.exact c.in-Some.ensures.first in
    let one = λ (e : flat_map made timed.alarms.items ≡ []).
    map-none (object_transition detected.object detected.alarm.cause) (change_at at values detected).moves
    (ap made c.index.ensures ∙ flat_map-none made timed.alarms.items c.in-Some.index detected next.within e) in
    (λ f. let e : false ≡ true = f in cc, λ e. subst IsTrue c.if-not-is_still.true (c.is_still.ensures.still.1 (one e)))

pub overflow_add-from : goal.overflow_add-from
overflow_add-from g c =
    let timed = c.args.timed.now in
    let next = next_mover c.args.at.now c.args.objects.now c.moment-moment.result c.loop-index.from c.in-Some.index timed.alarms.items timed.timers c.moment-moment.ensures.moment c.requires.exact c.in-Some.ensures.first in
    omega (arith, next.within, c.requires.few)

pub loop-index-preserved : goal.loop-index-preserved
loop-index-preserved g c =
    let timed = c.args.timed.now in
    let at = c.args.at.now in
    let values = c.args.objects.now in
    let detected = c.index.result.now in
    let next = next_mover at values c.moment-moment.result c.loop-index.from c.in-Some.index timed.alarms.items timed.timers c.moment-moment.ensures.moment c.requires.exact c.in-Some.ensures.first in
    let none = ap (λ moves. map (object_transition detected.object detected.alarm.cause) moves) (c.is_still.ensures.still.0 c.if-not-is_still.false) in
    record {
      within = omega (arith, next.within);
      none = none_yet at values c.in-Some.index timed.alarms.items detected next.within c.index.ensures (next.same ∙ c.loop-index.invariant.none) none;
      grows = omega (arith, c.loop-index.invariant.grows, c.is_still.ensures.grows);
      first = λ moves. absurd (moves c.in-Some.index detected next.within (next.due detected) (ap (transitions_by at values) (sym c.index.ensures) ∙ none));
    }

pub loop-index-smaller : goal.loop-index-smaller
loop-index-smaller g c =
    let timed = c.args.timed.now in
    let next = next_mover c.args.at.now c.args.objects.now c.moment-moment.result c.loop-index.from c.in-Some.index timed.alarms.items timed.timers c.moment-moment.ensures.moment c.requires.exact c.in-Some.ensures.first in
    let less : length timed.alarms.items - (c.in-Some.index + 1) < length timed.alarms.items - c.loop-index.from = omega (arith, next.low, next.within) in
    less

pub returns-clause-still : goal.returns-clause-still
returns-clause-still g c =
    let timed = c.args.timed.now in
    let none = nobody_moves c.args.at.now c.args.objects.now c.moment-moment.result c.loop-index.from timed.alarms.items timed.timers c.moment-moment.ensures.moment c.requires.exact (sym c.in_default.ensures.first) c.loop-index.invariant.none in
    (λ t. none, λ e. refl)
