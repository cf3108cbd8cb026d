use Rattle.std.proofs.Common.{◌≡◌, ◌∙◌, [], ◌∷◌, List, map, get_or, set, ap, subst}
use Rattle.bac_values.specs.Address.{PeerData}
use Rattle.bac_values.specs.declared.note.Note.{Note}
use Rattle.bac_values.specs.Orders.{IsAscending}
use Rattle.outbox.specs.Posts.{with_note, MailboxState}
use Rattle.outbox.specs.Outboxes.{peers_of, with_notes}
use Rattle.outbox.specs.Places.{IsPlaceOf, IsGapFor}
use Rattle.outbox.proofs.QueueLemmas.{had_one, taken_one, known_nowhere, known_after, peers_set}
use Rattle.outbox.proofs.queueing.take_back.Goals as goal

pub returns-clause-peers : goal.returns-clause-peers
returns-clause-peers c = peers_set c.args.mailboxes.now c.in-Ok.place c.take_back.new.self c.index-mailboxes-place.result c.take_back.ensures.peer

pub returns-clause-back : goal.returns-clause-back
returns-clause-back c = λ posts whole known same left.
    let place = c.in-Ok.place in
    let old = c.index-mailboxes-place.result in
    let new = c.take_back.new.self in
    let before = get_or posts place old in
    let peer : c.args.note.now.peer ≡ whole.peer = ap (λ (n : Note). n.peer) left in
    let seen = subst (λ (p : PeerData). IsPlaceOf p c.args.mailboxes.now place) peer c.in-Ok.ensures.searched in
    let there = subst (λ (ps : List MailboxState). IsPlaceOf whole.peer ps place) same seen in
    let rises = subst (λ (ps : List MailboxState). IsAscending (peers_of ps)) same c.requires.ascending in
    let was : get_or c.args.mailboxes.now place old ≡ with_note whole before = ap (λ (ps : List MailboxState). get_or ps place old) same ∙ had_one whole posts place old there in
    let back = c.take_back.ensures.back before.notes whole (ap (λ (p : MailboxState). p.notes) was) in
    let is : new ≡ before = back.0 ∙ ap (λ (p : MailboxState). record p { notes = before.notes }) was in
    (ap (λ (ps : List MailboxState). set ps place new) same ∙ taken_one whole posts place new old rises there is, back.1)

pub returns-in_default-clause-back : goal.returns-in_default-clause-back
returns-in_default-clause-back c = λ posts whole known same left.
    let place = c.in_default.field-0 in
    let peer : c.args.note.now.peer ≡ whole.peer = ap (λ (n : Note). n.peer) left in
    let seen = subst (λ (p : PeerData). IsGapFor p c.args.mailboxes.now place) peer c.in_default.ensures.searched in
    let gap = subst (λ (ps : List MailboxState). IsGapFor whole.peer ps place) same seen in
    absurd (known_nowhere whole.peer (map (with_notes (whole ∷ [])) posts) place (known_after (whole ∷ []) posts whole.peer ∙ known) gap)
