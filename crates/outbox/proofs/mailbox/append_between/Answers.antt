use Rattle.std.proofs.Common.{◌-◌, ◌++◌, ◌∷◌, [], ◌∙◌, ap, sym, arith, map, take, drop, append_assoc}
use Rattle.outbox.specs.Notifying.{datagram_of}
use Rattle.outbox.proofs.Fronts.{one_more, same_front}
use Rattle.outbox.proofs.mailbox.append_between.Goals as goal

pub loop-place-preserved : goal.loop-place-preserved
loop-place-preserved c =
    let notes = c.args.notes.now.items in
    let old = c.args.sends.now.items in
    let f = datagram_of c.args.peer.now c.args.invoke in
    let front = map f (take (c.loop-place.place - c.args.places.start) (drop c.args.places.start notes)) in
    let send = c.in_ok-send.send in
    let size = c.args.notes.now.ok.0 in
    record {
      near = omega arith;
      appended = c.in_ok-push.ensures.added ∙ ap (λ xs. xs ++ send ∷ []) c.loop-place.invariant.appended ∙ append_assoc old front (send ∷ [])
          ∙ ap (λ s. old ++ (front ++ s ∷ [])) c.in_ok-send.ensures.datagram
          ∙ ap (λ xs. old ++ xs) (sym (one_more f notes c.args.places.start c.loop-place.place c.index.result.now (omega arith) (omega arith) c.index.ensures));
    }

pub returns : goal.returns
returns c =
    let notes = c.args.notes.now.items in
    let f = datagram_of c.args.peer.now c.args.invoke in
    record {
      appended = c.loop-place.invariant.appended ∙ ap (λ xs. c.args.sends.now.items ++ map f xs) (same_front notes c.args.places.start c.args.places.end c.loop-place.place c.len.result (omega (arith, c.args.notes.now.ok)) (omega arith) (omega arith) (omega arith));
    }
