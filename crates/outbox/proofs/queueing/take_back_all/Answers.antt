use Rattle.std.proofs.Common.{◌≡◌, ◌∙◌, ◌+◌, ◌-◌, ◌<◌, ◌++◌, List, length, take, drop, map, get_or, set, ap, sym, subst, arith}
use Rattle.bac_values.specs.declared.note.Note.{Note}
use Rattle.bac_values.specs.Orders.{IsAscending}
use Rattle.outbox.specs.Outboxes.{with_notes, without_body}
use Rattle.outbox.proofs.QueueLemmas.{step_posts, moved_at, put_back, moved_long, known_after, no_notes}
use Rattle.outbox.proofs.queueing.take_back_all.Goals as goal

pub loop-place-preserved : goal.loop-place-preserved
loop-place-preserved c = record {
  within = omega arith;
  ascending = subst IsAscending (sym c.take_back.ensures.peers) c.loop-place.invariant.ascending;
  back = λ posts whole known first second.
      let p = c.loop-place.place - 1 in
      let at = c.loop-place.invariant.back posts whole known first second in
      let size = ap length second ∙ moved_long whole c.args.count in
      let within : p < length whole = omega (arith, size) in
      let next : c.loop-place.place ≡ p + 1 = omega arith in
      let d = c.index-notes-place.result in
      let n = get_or whole p d in
      let before = map (with_notes (take p whole)) posts in
      let same = at.0 ∙ ap (λ k. map (with_notes (take k whole)) posts) next ∙ step_posts whole p within d posts in
      let notes_now = at.1 ∙ ap (λ k. map without_body (take k whole) ++ drop k whole) next in
      let left = ap (λ (ns : List Note). get_or ns p d) notes_now ∙ moved_at whole p within d d in
      let back = c.take_back.ensures.back before n (known_after (take p whole) posts n.peer ∙ known p d within) same left in
      (back.0, ap (λ (m : Note). set c.loop-place.notes p m) back.1 ∙ ap (λ (ns : List Note). set ns p n) notes_now ∙ put_back whole p within d);
}

pub returns : goal.returns
returns c = record {
  back = λ posts whole known first second.
      let at = c.loop-place.invariant.back posts whole known first second in
      let zero : c.loop-place.place ≡ 0 = omega arith in
      (at.0 ∙ ap (λ k. map (with_notes (take k whole)) posts) zero ∙ no_notes posts, at.1 ∙ ap (λ k. map without_body (take k whole) ++ drop k whole) zero);
}
