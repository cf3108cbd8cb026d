-- Notes are queued where they fit, and the peers stay.
use Rattle.std.proofs.Common.{◌≡◌, ◌↔◌, ℕ, ◌+◌, ◌<◌, Bool, true, false, true≢false, ◌&&◌, nat_lt, List, length, map, Result, Ok, Err, refl, sym, ap, ◌∙◌, subst, inl, inr, arith}
use Rattle.std.specs.Result.{IsErrOf}
use Rattle.std.proofs.lemmas.Bool.{cases_Bool, ltb-false, ltb-true}
use Rattle.bac_values.specs.declared.note.Note.{Note}
use Rattle.outbox.specs.Outboxes.{OutboxState, answered_by, peers_of, timing_of, unfinished_in, with_notes}
use Rattle.bac_values.specs.Address.{PeerData}
use Rattle.outbox.specs.Posts.{post_pumped, MailboxState}
use Rattle.outbox.specs.declared.answers.QueueFault.{QueueFault}
use Rattle.outbox.specs.declared.answers.QueueFault.TheVariants as faults
use Rattle.outbox.proofs.Standing.{answered_peer, peers_stay, pumped_peer}
use Rattle.alarm_core.specs.declared.event.StepFault.TheVariants.{Full}
use Rattle.alarm_core.specs.Verdicts.{Answers, queue_verdict, refusal_of}

pub is_above_both : (added limit would : ℕ) → 0 < added → limit < would → (nat_lt 0 added && nat_lt limit would) ≡ true
is_above_both added limit would some above = by_tests (nat_lt 0 added) (nat_lt limit would) refl refl
  where
    by_tests : (a b : Bool) → nat_lt 0 added ≡ a → nat_lt limit would ≡ b → (a && b) ≡ true
    by_tests true true f g = refl
    by_tests true false f g = let e = ltb-false limit would g in absurd (omega (arith, e))
    by_tests false b f g = let e = ltb-false 0 added f in absurd (omega (arith, e))

both_true : (a b : Bool) → (a && b) ≡ true → (a ≡ true) × (b ≡ true)
both_true true b e = (refl, e)
both_true false b e = absurd (true≢false (sym e))

pub is_above : (added would limit : ℕ) → (nat_lt 0 added && nat_lt limit would) ≡ true → (0 < added) × (limit < would)
is_above added would limit e = let both = both_true (nat_lt 0 added) (nat_lt limit would) e in (ltb-true 0 added both.0, ltb-true limit would both.1)

abbrev pub IsOver : List Note → OutboxState → Type 0
IsOver notes outbox = (0 < length notes) × (outbox.limit < unfinished_in outbox.posts + length notes)

pub within_verdict : (notes : List Note) (outbox : OutboxState) → (IsOver notes outbox → ⊥) → queue_verdict notes outbox ≡ Ok tt
within_verdict notes outbox fits = elim (cases_Bool (nat_lt 0 (length notes) && nat_lt outbox.limit (unfinished_in outbox.posts + length notes))) [
  | inl full ↦ absurd (fits (is_above (length notes) (unfinished_in outbox.posts + length notes) outbox.limit full))
  | inr room ↦ rw room refl
]

pub above_verdict : (notes : List Note) (outbox : OutboxState) → IsOver notes outbox → queue_verdict notes outbox ≡ Err (Full (unfinished_in outbox.posts + length notes) outbox.limit)
above_verdict notes outbox over =
    let full = is_above_both (length notes) outbox.limit (unfinished_in outbox.posts + length notes) over.0 over.1 in
    rw full refl

-- what an outbox says of notes that are more than may wait
abbrev pub TellsFull : Result (Unit {0}) QueueFault → List Note → OutboxState → Type 0
TellsFull result notes outbox = (would limit : ℕ) (back : List Note) → IsErrOf result (faults.Full would limit back)
    ↔ ((would ≡ unfinished_in outbox.posts + length notes) × (limit ≡ outbox.limit) × (back ≡ notes) × (0 < length notes) × (limit < would))

ok_is_not_full : (would limit : ℕ) (back : List Note) → IsErrOf {T = Unit {0}} {E = QueueFault} (Ok tt) (faults.Full would limit back) → ⊥
ok_is_not_full would limit back h = cc

pub queued_verdict : (notes : List Note) (outbox : OutboxState) → TellsFull (Ok tt) notes outbox → queue_verdict notes outbox ≡ Ok tt
queued_verdict notes outbox full =
    let would = unfinished_in outbox.posts + length notes in
    within_verdict notes outbox (λ over. ok_is_not_full would outbox.limit notes ((full would outbox.limit notes).1 (refl, refl, refl, over.0, over.1)))

pub refused_verdict : (notes : List Note) (outbox : OutboxState) (fault : QueueFault) → TellsFull (Err fault) notes outbox →
    Answers {A = Unit {0}} (Err (refusal_of fault)) (queue_verdict notes outbox)
refused_verdict notes outbox (faults.Full would limit back) full =
    let over = (full would limit back).0 refl in
    above_verdict notes outbox (over.3, subst (λ n. n < unfinished_in outbox.posts + length notes) over.1 (subst (λ n. limit < n) over.0 over.4))
    ∙ (ap (λ n. Err (Full n outbox.limit)) (sym over.0) ∙ ap (λ n. Err (Full would n)) (sym over.1))
refused_verdict notes outbox (faults.NoMemory back) full = tt

pub queued_peers : (notes : List Note) (posts : List MailboxState) → peers_of (map (with_notes notes) posts) ≡ peers_of posts
queued_peers notes posts = peers_stay (with_notes notes) (λ post. refl) posts

pub pumped_peers : (moment : ℕ) (outbox : OutboxState) → peers_of (map (post_pumped (timing_of outbox) moment) outbox.posts) ≡ peers_of outbox.posts
pumped_peers moment outbox = peers_stay (post_pumped (timing_of outbox) moment) (pumped_peer (timing_of outbox) moment) outbox.posts

pub answered_peers : (peer : PeerData) (invoke : ℕ) (posts : List MailboxState) → peers_of (map (answered_by peer invoke) posts) ≡ peers_of posts
answered_peers peer invoke posts = peers_stay (answered_by peer invoke) (answered_peer peer invoke) posts
