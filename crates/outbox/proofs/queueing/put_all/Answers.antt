use Rattle.std.proofs.Common.{◌≡◌, ◌∙◌, ◌<◌, [], ◌∷◌, ◌++◌, List, length, take, map, get_or, refl, ap, sym, arith}
use Rattle.std.proofs.lemmas.List.{take_more}
use Rattle.bac_values.specs.declared.note.Note.{Note}
use Rattle.outbox.specs.Outboxes.{with_notes, without_body, is_known}
use Rattle.outbox.proofs.Going.{unchanged_here, changed_here}
use Rattle.outbox.proofs.QueueLemmas.{no_notes, rising_still, known_after, more_notes, on_ok, on_err}
use Rattle.outbox.proofs.queueing.put_all.Goals as goal

pub loop-place-init : goal.loop-place-init
loop-place-init c = record { put = sym (no_notes c.args.mailboxes.now); left = refl }

pub put-requires-clause-ascending : goal.put-requires-clause-ascending
put-requires-clause-ascending c = rising_still (take c.loop-place.place c.args.notes.items) c.args.mailboxes.now c.loop-place.mailboxes c.loop-place.invariant.put c.requires.ascending

pub put-requires-clause-known : goal.put-requires-clause-known
put-requires-clause-known c =
    let notes = c.args.notes.items in
    let posts = c.args.mailboxes.now in
    let p = c.loop-place.place in
    let note = c.index_mut.result.now in
    let within : p < length notes = omega (arith, c.args.notes.ok.0) in
    let is : note ≡ get_or notes p note = c.index_mut.ensures.value ∙ unchanged_here without_body notes c.loop-place.notes.items p c.loop-place.invariant.left within note in
    ap (λ (n : Note). is_known n.peer c.loop-place.mailboxes) is ∙ ap (is_known (get_or notes p note).peer) c.loop-place.invariant.put ∙ known_after (take p notes) posts (get_or notes p note).peer ∙ c.requires.known p note within

pub take_back_all-requires-clause-ascending : goal.take_back_all-requires-clause-ascending
take_back_all-requires-clause-ascending c =
    rising_still (take c.loop-place.place c.args.notes.items) c.args.mailboxes.now c.put.new.mailboxes (on_err c.put.result (sym c.is_err.ensures.value ∙ c.if-is_err.true) c.put.ensures.refused ∙ c.loop-place.invariant.put) c.requires.ascending

pub loop-place-preserved : goal.loop-place-preserved
loop-place-preserved c =
    let notes = c.args.notes.items in
    let posts = c.args.mailboxes.now in
    let p = c.loop-place.place in
    let note = c.index_mut.result.now in
    let within : p < length notes = omega (arith, c.args.notes.ok.0) in
    let is : note ≡ get_or notes p note = c.index_mut.ensures.value ∙ unchanged_here without_body notes c.loop-place.notes.items p c.loop-place.invariant.left within note in
    let fine = sym c.is_err.ensures.value ∙ c.if-is_err.false in
    record {
      put = on_ok c.put.result fine c.put.ensures.put ∙ ap (map (with_notes (note ∷ []))) c.loop-place.invariant.put ∙ more_notes (take p notes) (note ∷ []) posts
          ∙ ap (λ (ns : List Note). map (with_notes ns) posts) (ap (λ (n : Note). take p notes ++ n ∷ []) is ∙ sym (take_more notes p note within));
      left = changed_here without_body notes c.loop-place.notes.items p c.loop-place.invariant.left within note c.put.new.note (on_ok c.put.result fine c.put.ensures.left ∙ ap without_body c.index_mut.ensures.value);
    }
