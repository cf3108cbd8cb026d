use Rattle.std.proofs.Common.{◌≡◌, ◌∙◌, ◌+◌, ◌≤◌, ◌++◌, ℕ, length, length-append, ap, sym, subst, arith}
use Rattle.outbox.specs.Outboxes.{unfinished_in}
use Rattle.alarm_core.specs.Notes.{notes_of_transitions}
use Rattle.alarm_core.specs.State.{CoreState}
use Rattle.alarm_core.specs.Verdicts.{Answers, queue_verdict}
use Rattle.alarm_core.specs.ViewSteps.{HasRoom, seen_in}
use Rattle.alarm_core.proofs.Written.{on_ok}
use Rattle.alarm_core.proofs.state.Core.see_room.Goals as goal

fewer : (waiting others more count limit : ℕ) → count ≡ others + more → waiting + count ≤ limit → waiting + others ≤ limit
fewer waiting others more count limit counted room = omega (arith, counted, room)

pub returns : goal.returns
returns c =
    let old = c.args.self.now in
    let later = notes_of_transitions old.site old.classes (seen_in c.args.at.now.moment old c.args.transitions.now) in
    let counted : c.in_ok-count.count ≡ c.args.others + length later = c.in_ok-count.ensures.count in
    record {
      verdict = λ notes many.
          let all : length (notes ++ later) ≡ c.in_ok-count.count = length-append notes later ∙ ap (λ n. n + length later) many ∙ sym counted in
          subst (λ (s : CoreState). Answers c.see_room.result (queue_verdict (notes ++ later) s.outbox)) c.self.view_is (c.see_room.ensures.verdict (notes ++ later) all);
      room = on_ok c.see_room.result
          (λ room. subst (λ (s : CoreState). HasRoom c.args.others s.outbox) c.self.view_is (fewer (unfinished_in c.self.inside.outbox.posts) c.args.others (length later) c.in_ok-count.count c.self.inside.outbox.limit counted room))
          c.see_room.ensures.room;
    }
