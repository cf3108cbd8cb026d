-- What a refusal counts is what would be unfinished after the longer history.
use Rattle.std.proofs.Common.{◌≡◌, ◌↔◌, ℕ, ◌+◌, ◌<◌, ◌≤◌, Bool, true, false, true≢false, ◌&&◌, nat_lt, IsTrue, List, [], ◌∷◌, length, Result, Ok, Err, refl, sym, ap, ◌∙◌, subst, inl, inr, arith}
use Rattle.std.proofs.lemmas.Bool.{cases_Bool}
use Rattle.bac_values.specs.declared.note.Note.{Note}
use Rattle.bac_values.specs.Orders.{IsAscending}
use Rattle.notify_class.specs.Edits.{recipient_peers}
use Rattle.outbox.specs.Outboxes.{AreKnown, OutboxState, answered_by, peers_of, timing_of, unfinished_in}
use Rattle.outbox.specs.Posts.{post_pumped}
use Rattle.outbox.proofs.Keeping.{answered_fewer, fewer_in_all, pumped_fewer}
use Rattle.outbox.proofs.Learning.{unfinished_with_all}
use Rattle.outbox.proofs.Making.{none_unfinished}
use Rattle.outbox.proofs.QueueKeeping.{all_longer}
use Rattle.alarm_core.specs.declared.event.Act.{Act}
use Rattle.alarm_core.specs.declared.event.Act.TheVariants.{Tick, Write, Ack, Pump, Answer, Edit}
use Rattle.alarm_core.specs.declared.event.Event.{Event}
use Rattle.alarm_core.specs.declared.event.StepFault.{StepFault}
use Rattle.alarm_core.specs.declared.event.StepFault.TheVariants.{Full}
use Rattle.alarm_core.specs.declared.site.Site.{Site}
use Rattle.alarm_core.specs.Allowed.{Comes, IsHistory}
use Rattle.alarm_core.specs.Classes.{known_peers_of}
use Rattle.alarm_core.specs.Deliveries.{event_notes, outbox_after}
use Rattle.alarm_core.specs.Laws.{CountsTheLongerHistory, may_notify}
use Rattle.alarm_core.specs.CoreSteps.{next_notes, outbox_with}
use Rattle.alarm_core.specs.State.{state_of}
use Rattle.alarm_core.specs.Verdicts.{queue_verdict, step_verdict}
use Rattle.alarm_core.proofs.Delivering.{are_known, first_outbox, outbox_more, peers_kept}
use Rattle.alarm_core.proofs.Listed.{known_ascend}
use Rattle.alarm_core.proofs.NotesGo.{notes_known}
use Rattle.alarm_core.proofs.Queued.{above_verdict, is_above, is_above_both, within_verdict}
use Rattle.alarm_core.proofs.Standing.{same_notes}

-- ---- an act and the notifications that are queued

module _ (moment : ℕ) (notes : List Note) (outbox : OutboxState) where
  now_unfinished : Act → ℕ
  now_unfinished act = unfinished_in (outbox_with moment act notes outbox).posts

  adds_all : (act : Act) → IsTrue (may_notify act) → IsAscending (peers_of outbox.posts) → AreKnown notes outbox.posts → now_unfinished act ≡ unfinished_in outbox.posts + length notes
  unfolding now_unfinished
  adds_all Tick may ascending known = all_longer notes outbox.posts ascending known
  adds_all (Write change) may ascending known = all_longer notes outbox.posts ascending known
  adds_all (Ack object transition named) may ascending known = all_longer notes outbox.posts ascending known
  adds_all Pump may ascending known = absurd (true≢false (sym may))
  adds_all (Answer peer invoke kind) may ascending known = absurd (true≢false (sym may))
  adds_all (Edit number recipients) may ascending known = absurd (true≢false (sym may))

  -- nothing else adds any
  adds_none : (act : Act) → may_notify act ≡ false → now_unfinished act ≤ unfinished_in outbox.posts
  unfolding now_unfinished
  adds_none Tick not = absurd (true≢false not)
  adds_none (Write change) not = absurd (true≢false not)
  adds_none (Ack object transition named) not = absurd (true≢false not)
  adds_none Pump not = fewer_in_all (post_pumped (timing_of outbox) moment) (pumped_fewer (timing_of outbox) moment) outbox.posts
  adds_none (Answer peer invoke kind) not = fewer_in_all (answered_by peer invoke) (answered_fewer peer invoke) outbox.posts
  adds_none (Edit number recipients) not = let same = unfinished_with_all (recipient_peers recipients) outbox.posts in omega (arith, same)

-- ---- over a history

-- how many notifications are unfinished
abbrev unfinished : Site → List Event → ℕ
unfinished site history = unfinished_in (outbox_after site history).posts

module _ (site : Site) (event : Event) (history : List Event) where
  ascending : IsAscending (peers_of (outbox_after site history).posts)
  ascending = subst IsAscending (sym (peers_kept site history (known_peers_of site history))) (known_ascend site history)

  known : AreKnown (event_notes site event history) (outbox_after site history).posts
  known = are_known site history (event_notes site event history) (notes_known site event history)

  longer : now_unfinished event.moment (event_notes site event history) (outbox_after site history) event.act ≡ unfinished site (event ∷ history)
  unfolding now_unfinished
  longer = ap (λ (outbox : OutboxState). unfinished_in outbox.posts) (outbox_more site event history)

  adds_notes : IsTrue (may_notify event.act) → unfinished site (event ∷ history) ≡ unfinished site history + length (event_notes site event history)
  adds_notes may = sym longer ∙ adds_all event.moment (event_notes site event history) (outbox_after site history) event.act may ascending known

  no_more : may_notify event.act ≡ false → unfinished site (event ∷ history) ≤ unfinished site history
  no_more not =
      let fewer = adds_none event.moment (event_notes site event history) (outbox_after site history) event.act not in
      subst (λ n. n ≤ unfinished site history) longer fewer

  adds : Comes site event history → IsTrue (may_notify event.act) → unfinished site (event ∷ history) ≡ unfinished site history + length (next_notes event (state_of site history))
  adds comes may = adds_notes may ∙ ap (λ (notes : List Note). unfinished site history + length notes) (sym (same_notes site event history comes))

-- an act that gives no notifications
no_notes : (site : Site) (moment : ℕ) (act : Act) (history : List Event) → may_notify act ≡ false → length (event_notes site (record { moment = moment; act = act }) history) ≡ 0
no_notes site moment Tick history not = absurd (true≢false not)
no_notes site moment (Write change) history not = absurd (true≢false not)
no_notes site moment (Ack object transition named) history not = absurd (true≢false not)
no_notes site moment Pump history not = refl
no_notes site moment (Answer peer invoke kind) history not = refl
no_notes site moment (Edit number recipients) history not = refl

-- never more wait than there may
within : (site : Site) (history : List Event) → IsHistory site history → unfinished site history ≤ site.device.outbox
within site [] is =
    let none = none_unfinished (known_peers_of site []) in
    let first = ap (λ (outbox : OutboxState). unfinished_in outbox.posts) (first_outbox site) in
    omega (arith, none, first)
within site (event ∷ older) is = is.3

-- ---- a refusal

would_of : Result (Unit {0}) StepFault → ℕ
would_of (Err (Full would limit)) = would
would_of answer = 0

limit_of : Result (Unit {0}) StepFault → ℕ
limit_of (Err (Full would limit)) = limit
limit_of answer = 0

is_refusal : Result (Unit {0}) StepFault → Bool
is_refusal (Err fault) = true
is_refusal (Ok taken) = false

-- what a refusal says of the notifications that it refuses
record Refuses (notes : List Note) (outbox : OutboxState) (would limit : ℕ) : Type 0 where
  some : 0 < length notes
  would_is : would ≡ unfinished_in outbox.posts + length notes
  limit_is : limit ≡ outbox.limit
  above : outbox.limit < unfinished_in outbox.posts + length notes

refuses : (notes : List Note) (outbox : OutboxState) (would limit : ℕ) → queue_verdict notes outbox ≡ Err (Full would limit) → Refuses notes outbox would limit
unfolding would_of limit_of is_refusal
refuses notes outbox would limit e = elim (cases_Bool (nat_lt 0 (length notes) && nat_lt outbox.limit (unfinished_in outbox.posts + length notes))) [
  | inl over ↦
      let both = is_above (length notes) (unfinished_in outbox.posts + length notes) outbox.limit over in
      let same = sym e ∙ above_verdict notes outbox both in
      record { some = both.0; would_is = ap would_of same; limit_is = ap limit_of same; above = both.1 }
  | inr room ↦
      let fits = within_verdict notes outbox (λ over. true≢false (sym (is_above_both (length notes) outbox.limit (unfinished_in outbox.posts + length notes) over.0 over.1) ∙ room)) in
      absurd (true≢false (ap is_refusal (sym e ∙ fits)))
]

module _ (site : Site) (event : Event) (history : List Event) (comes : Comes site event history) (would limit : ℕ) where
  -- more would be unfinished than may be
  abbrev IsFull : Type 0
  IsFull = (would ≡ unfinished site (event ∷ history)) × (limit ≡ site.device.outbox) × (limit < would)

  refused_by : (may : Bool) → may_notify event.act ≡ may → Refuses (event_notes site event history) (outbox_after site history) would limit → IsFull
  refused_by true e refused =
      let longer = adds_notes site event history e in
      (refused.would_is ∙ sym longer, refused.limit_is, omega (arith, refused.would_is, refused.limit_is, refused.above))
  refused_by false e refused =
      let none = no_notes site event.moment event.act history e in
      absurd (omega (arith, none, refused.some))

  full_by : (may : Bool) → may_notify event.act ≡ may → IsFull → queue_verdict (event_notes site event history) (outbox_after site history) ≡ Err (Full would limit)
  full_by true e full =
      let longer = adds_notes site event history e in
      let before = within site history comes.is_history in
      let many = full.0 ∙ longer in
      above_verdict (event_notes site event history) (outbox_after site history) (omega (arith, many, full.1, full.2, before), omega (arith, many, full.1, full.2))
      ∙ (ap (λ n. Err (Full n site.device.outbox)) (sym many) ∙ ap (λ n. Err (Full would n)) (sym full.1))
  full_by false e full =
      let fewer = no_more site event history e in
      let before = within site history comes.is_history in
      absurd (omega (arith, fewer, before, full.0, full.1, full.2))

  verdict_is : step_verdict event (state_of site history) ≡ queue_verdict (event_notes site event history) (outbox_after site history)
  verdict_is = ap (λ notes. queue_verdict notes (outbox_after site history)) (same_notes site event history comes)

  full : (step_verdict event (state_of site history) ≡ Err (Full would limit)) ↔ IsFull
  full = (
    λ e. refused_by (may_notify event.act) refl (refuses (event_notes site event history) (outbox_after site history) would limit (sym verdict_is ∙ e)),
    λ h. verdict_is ∙ full_by (may_notify event.act) refl h,
  )

pub counts_the_longer_history : CountsTheLongerHistory
counts_the_longer_history = record { adds = adds; full = full }
