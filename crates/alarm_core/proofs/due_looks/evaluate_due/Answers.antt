use Rattle.std.proofs.Common.{◌<◌, ◌+◌, ◌-◌, ◌++◌, None, length, map, set, take, refl, sym, ap, ◌∙◌, append-nil, arith}
use Rattle.std.proofs.Math.Seq.{map-set_same}
use Rattle.alarm_core.specs.CoreSteps.{evaluated, transitions_by}
use Rattle.alarm_core.specs.DueSteps.{due_of, object_of}
use Rattle.alarm_core.proofs.DueCounts.{count_take, counts_on}
use Rattle.alarm_core.proofs.Rounds.{as_many, comes_first, exact_more, joined_more, made_of, next_due, round_over, steps_on, undoes_on, undoes_same}
use Rattle.alarm_core.proofs.due_looks.evaluate_due.Goals as goal

pub loop-index-init : goal.loop-index-init
loop-index-init g c =
    let timed = c.args.timed.now in
    let come = comes_first c.args.at.now c.args.objects.now timed.alarms.items timed.timers c.requires.early in
    let many = as_many c.args.at.now c.args.objects.now 0 timed.alarms.items timed.alarms.items timed.timers come in
    record {
      come = come;
      within = omega arith;
      few = omega (arith, many, c.requires.few);
      made = sym (append-nil c.args.round.now.transitions.items);
      undoes = λ before undoes. undoes;
      exact = λ exact. exact;
      same = refl;
      waits = refl;
      steps = omega arith;
    }

pub index-requires : goal.index-requires
index-requires g c =
    let l = c.loop-index in
    let next = next_due c.args.at.now c.args.objects.now c.moment-moment.result l.from c.in-Some.index c.args.timed.now.alarms.items l.timed.alarms.items l.timed.timers
    c.moment-moment.ensures.moment l.invariant.come c.in-Some.ensures.first in
    omega (arith, next.there)

pub evaluate_at-requires-clause-within : goal.evaluate_at-requires-clause-within
evaluate_at-requires-clause-within g c =
    let l = c.loop-index in
    let next = next_due c.args.at.now c.args.objects.now c.moment-moment.result l.from c.in-Some.index c.args.timed.now.alarms.items l.timed.alarms.items l.timed.timers
    c.moment-moment.ensures.moment l.invariant.come c.in-Some.ensures.first in
    next.there

pub evaluate_at-requires-clause-timed : goal.evaluate_at-requires-clause-timed
evaluate_at-requires-clause-timed g c =
    let l = c.loop-index in
    as_many c.args.at.now c.args.objects.now l.from c.args.timed.now.alarms.items l.timed.alarms.items l.timed.timers l.invariant.come

pub returns-in_err-evaluate_at-clause-undoes : goal.returns-in_err-evaluate_at-clause-undoes
returns-in_err-evaluate_at-clause-undoes g c =
    let l = c.loop-index in
    λ before undoes.
    undoes_same l.round.formers.items c.evaluate_at.new.round.formers.items before l.timed.alarms.items c.evaluate_at.new.timed.alarms.items l.timed.timers c.evaluate_at.new.timed.timers
    c.in_err-evaluate_at.ensures.same_formers c.in_err-evaluate_at.ensures.same_alarms c.in_err-evaluate_at.ensures.same_timers (l.invariant.undoes before undoes)

pub overflow_add-from : goal.overflow_add-from
overflow_add-from g c =
    let l = c.loop-index in
    let next = next_due c.args.at.now c.args.objects.now c.moment-moment.result l.from c.in-Some.index c.args.timed.now.alarms.items l.timed.alarms.items l.timed.timers
    c.moment-moment.ensures.moment l.invariant.come c.in-Some.ensures.first in
    omega (arith, next.within, l.invariant.few)

pub loop-index-preserved : goal.loop-index-preserved
loop-index-preserved g c =
    let l = c.loop-index in
    let at = c.args.at.now in
    let values = c.args.objects.now in
    let all = c.args.timed.now.alarms.items in
    let x = c.index.result.now in
    let next = next_due at values c.moment-moment.result l.from c.in-Some.index all l.timed.alarms.items l.timed.timers c.moment-moment.ensures.moment l.invariant.come c.in-Some.ensures.first in
    let looked = c.in_ok-evaluate_at.ensures in
    let on = steps_on at values c.in-Some.index x all l.timed.alarms.items c.evaluate_at.new.timed.alarms.items l.timed.timers c.evaluate_at.new.timed.timers next.come next.there c.index.ensures looked.alarms looked.timers in
    let counts = counts_on c.moment-moment.result at.moment l.from c.in-Some.index c.args.timed.now.timers l.timed.timers c.evaluate_at.new.timed.timers (due_of values (evaluated at values x))
    c.moment-moment.ensures.moment c.in-Some.ensures.first l.invariant.waits looked.timers in
    record {
      come = on.come;
      within = omega (arith, on.many, next.within);
      few = omega (arith, on.many, l.invariant.few);
      made = joined_more c.args.round.now.transitions.items (made_of at values (take l.from all)) (transitions_by at values x) l.round.transitions.items c.evaluate_at.new.round.transitions.items
          (made_of at values (take (c.in-Some.index + 1) all)) looked.transitions l.invariant.made (on.made ∙ ap (λ made. made ++ transitions_by at values x) next.same);
      undoes = λ before undoes.
          undoes_on l.round.formers.items (record { index = c.in-Some.index; detected = x }) before l.timed.alarms.items l.timed.timers (evaluated at values x) (due_of values (evaluated at values x))
          c.evaluate_at.new.round.formers.items c.evaluate_at.new.timed.alarms.items c.evaluate_at.new.timed.timers (l.invariant.undoes before undoes) next.there c.index.ensures looked.formers looked.alarms looked.timers;
      same = ap (map object_of) looked.alarms ∙ (map-set_same object_of l.timed.alarms.items c.in-Some.index (evaluated at values x) x (ap object_of c.index.ensures) ∙ l.invariant.same);
      waits = counts.waits;
      steps = omega (arith, looked.step, l.invariant.steps, counts.more);
      exact = λ exact. exact_more values c.in-Some.index l.timed.alarms.items c.evaluate_at.new.timed.alarms.items l.timed.timers c.evaluate_at.new.timed.timers (evaluated at values x) looked.alarms looked.timers (l.invariant.exact exact);
    }

pub loop-index-smaller : goal.loop-index-smaller
loop-index-smaller g c =
    let l = c.loop-index in
    let at = c.args.at.now in
    let values = c.args.objects.now in
    let all = c.args.timed.now.alarms.items in
    let x = c.index.result.now in
    let next = next_due at values c.moment-moment.result l.from c.in-Some.index all l.timed.alarms.items l.timed.timers c.moment-moment.ensures.moment l.invariant.come c.in-Some.ensures.first in
    let looked = c.in_ok-evaluate_at.ensures in
    let on = steps_on at values c.in-Some.index x all l.timed.alarms.items c.evaluate_at.new.timed.alarms.items l.timed.timers c.evaluate_at.new.timed.timers next.come next.there c.index.ensures looked.alarms looked.timers in
    let less : length c.evaluate_at.new.timed.timers - (c.in-Some.index + 1) < length l.timed.timers - l.from = omega (arith, on.many, next.low, next.within) in
    less

pub returns-clause-alarms : goal.returns-clause-alarms
returns-clause-alarms g c =
    let l = c.loop-index in
    let over = round_over c.args.at.now c.args.objects.now c.moment-moment.result l.from c.args.timed.now.alarms.items l.timed.alarms.items l.timed.timers c.moment-moment.ensures.moment l.invariant.come (sym c.in_default.ensures.first) in
    over.alarms

pub returns-clause-timers : goal.returns-clause-timers
returns-clause-timers g c =
    let l = c.loop-index in
    let over = round_over c.args.at.now c.args.objects.now c.moment-moment.result l.from c.args.timed.now.alarms.items l.timed.alarms.items l.timed.timers c.moment-moment.ensures.moment l.invariant.come (sym c.in_default.ensures.first) in
    over.dues

pub returns-clause-transitions : goal.returns-clause-transitions
returns-clause-transitions g c =
    let l = c.loop-index in
    let over = round_over c.args.at.now c.args.objects.now c.moment-moment.result l.from c.args.timed.now.alarms.items l.timed.alarms.items l.timed.timers c.moment-moment.ensures.moment l.invariant.come (sym c.in_default.ensures.first) in
    l.invariant.made ∙ ap (λ made. c.args.round.now.transitions.items ++ made) (sym over.made)

pub returns-in_err-evaluate_at-clause-exact : goal.returns-in_err-evaluate_at-clause-exact
returns-in_err-evaluate_at-clause-exact g c =
    let l = c.loop-index in
    let failed = c.in_err-evaluate_at.ensures in
    λ exact. failed.same_timers ∙ (l.invariant.exact exact ∙ ap (map (due_of c.args.objects.now)) (sym failed.same_alarms))

pub returns-in_err-evaluate_at-clause-objects : goal.returns-in_err-evaluate_at-clause-objects
returns-in_err-evaluate_at-clause-objects g c = ap (map object_of) c.in_err-evaluate_at.ensures.same_alarms ∙ c.loop-index.invariant.same

pub returns-in_err-evaluate_at-clause-steps : goal.returns-in_err-evaluate_at-clause-steps
returns-in_err-evaluate_at-clause-steps g c =
    let l = c.loop-index in
    let first = c.args.timed.now.timers in
    let counts = counts_on c.moment-moment.result c.args.at.now.moment l.from c.in-Some.index first l.timed.timers (set l.timed.timers c.in-Some.index None) None
    c.moment-moment.ensures.moment c.in-Some.ensures.first l.invariant.waits refl in
    let all = count_take c.args.at.now.moment (c.in-Some.index + 1) first in
    omega (arith, c.in_err-evaluate_at.ensures.step, l.invariant.steps, counts.more, all)

pub returns-clause-steps : goal.returns-clause-steps
returns-clause-steps g c =
    let l = c.loop-index in
    let all = count_take c.args.at.now.moment l.from c.args.timed.now.timers in
    omega (arith, l.invariant.steps, all)
