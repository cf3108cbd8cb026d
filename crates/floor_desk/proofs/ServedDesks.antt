-- A desk that was served, closed, and settled.
use Rattle.std.proofs.Common.{◌≡◌, ℕ, ◌+◌, IsTrue, Bool, List, ◌++◌, length, Result, ap, ◌∙◌, subst}
use Rattle.std.specs.Prelude.{Option, replicate, reverse}
use Rattle.ground_io.specs.Trace.{Told}
use Rattle.bac_values.specs.declared.note.Send.{Send}
use Rattle.turnstile.specs.Passes.{Known}
use Rattle.alarm_core.specs.State.{CoreState}
use Rattle.alarm_journal.specs.Press.{PressState}
use Rattle.floor_desk.specs.declared.entry.Entry.{Entry}
use Rattle.floor_desk.specs.declared.entry.Entry.TheVariants.{Looked}
use Rattle.floor_desk.specs.declared.entry.Look.TheVariants.{Closing}
use Rattle.floor_desk.specs.declared.entry.Ticket.{Ticket}
use Rattle.floor_desk.specs.declared.faults.CommitFault.{CommitFault}
use Rattle.floor_desk.specs.declared.faults.EnterFault.{EnterFault}
use Rattle.floor_desk.specs.Accounts.{account}
use Rattle.floor_desk.specs.Ending.{IsClosed, IsLastCommit}
use Rattle.floor_desk.specs.Moves.{IsGroundOf}
use Rattle.floor_desk.specs.Prefixes.{capped}
use Rattle.floor_desk.specs.Standing.{FloorStands}
use Rattle.floor_desk.specs.States.{FloorState}
use Rattle.floor_desk.specs.declared.receiver.Ends.{Ends}
use Rattle.floor_desk.specs.declared.serve.Closed.{Closed}
use Rattle.floor_desk.specs.LookingBack.{IsLookedBack}
use Rattle.floor_desk.specs.Serving.{WasAnswered, Serves, Workings}
use Rattle.floor_desk.specs.ServingSteps.{EndsAccount, HasEnded, IsEndBy, WorkedTogether}
use Rattle.floor_desk.proofs.LookingBack.{end_by_list, looks_back}
use Rattle.floor_desk.proofs.ClosedHistories.{closes, settles}
use Rattle.floor_desk.proofs.Emissions.{ground_counts}
use Rattle.floor_desk.proofs.LastCommits.{ends_so}

module _ {G : Type 0} (told : G → Option Told) (size disk_faults emit_faults : G → ℕ) where
  pub served : (shows : ℕ → Type 0) (old new : Option (List Send)) (origin : CoreState × PressState G) (p q : Known (Entry G) (CoreState × PressState G)) (ends : Ends) (tick pump : Result Ticket EnterFault) (floor after : FloorState G) (answer : Result ℕ CommitFault) (answered : Bool) (device : G) (closed : Closed)
      → WorkedTogether shows old new p ends → HasEnded shows p q tick pump → (k : IsClosed told size disk_faults emit_faults q floor) → floor.origin ≡ origin
      → ((h : List (ℕ × Entry G)) (n : ℕ) → floor.next ≡ length h + 1 → FloorStands told size disk_faults emit_faults floor h → IsLastCommit told size disk_faults emit_faults floor after h n answer) → after.origin ≡ floor.origin → IsGroundOf after.spot device
      → (IsTrue answered → WasAnswered tick × WasAnswered pump) → IsEndBy ends answered answer closed.end
      → closed.received ≡ ends.received → closed.events ≡ after.core.events → closed.durable ≡ after.durable → closed.lost ≡ capped (after.lost + ends.lost)
      → Serves told size disk_faults emit_faults shows old new origin device closed
  served shows old new origin p q ends tick pump floor after answer answered device closed w e k from settled same ground answers is_end received events durable lost =
      let h = k.last.seen in
      let v : Workings G = record w.workings { last = e.entries ++ replicate k.waited.count (Looked Closing) } in
      let s : IsLastCommit told size disk_faults emit_faults floor after h v.server answer = settled h v.server k.next k.stands in
      let g = settles shows old new h s.entries v w.attempts tick pump (account floor.origin h) answer s.are (closes shows old new told size disk_faults emit_faults p q ends tick pump floor w e k) in
      let whole : after.origin ≡ origin = same ∙ from in
      let all : List (ℕ × Entry G) = h ++ s.entries in
      let back : IsLookedBack origin (reverse all) (account origin all) = looks_back origin all in record {
        history = h ++ s.entries;
        workings = g.workings;
        attempts = w.attempts;
        tick = tick;
        pump = pump;
        floor = after;
        from = whole;
        stands = s.stands;
        ground = ground;
        all = g.stays.all;
        are = g.stays.are;
        ends = g.stays.ends;
        received = received ∙ w.count;
        events = events ∙ (ap (λ (c : CoreState). c.events) s.stands.shows.core ∙ ap (λ (o : CoreState × PressState G). (account o (h ++ s.entries)).state.events) whole) ∙ ap (λ (c : CoreState). c.events) back.state;
        durable = durable ∙ (s.stands.shows.durable ∙ ap (λ (o : CoreState × PressState G). (account o (h ++ s.entries)).durable) whole) ∙ back.durable;
        lost = lost ∙ ap (λ z. capped (after.lost + z)) w.lost;
        counted = (ground_counts told size disk_faults emit_faults origin after (h ++ s.entries) device s.stands whole ground).1;
        ended = end_by_list origin (reverse all) (account origin all) back w.attempts tick pump closed.end
            (subst (λ (o : CoreState × PressState G). EndsAccount (account o (h ++ s.entries)) w.attempts tick pump closed.end) from
            (ends_so told size disk_faults emit_faults floor after h v.server answer w.attempts tick pump ends answered closed.end k.stands s same w.tried answers is_end));
      }
