use Rattle.std.proofs.Common.{◌≡◌, ◌+◌, ◌++◌, ◌∙◌, List, ◌∷◌, ℕ, Ok, Err, true, false, is_some, ap, subst, sym}
use Rattle.std.proofs.lemmas.List.{append-nil}
use Rattle.std.specs.List.{flat_map}
use Rattle.bac_values.specs.declared.note.Send.{Send}
use Rattle.alarm_core.specs.Allowed.{Represents}
use Rattle.alarm_core.specs.CoreSteps.{next_sends, next_state}
use Rattle.alarm_core.specs.History.{raised}
use Rattle.alarm_core.specs.Verdicts.{Answers, step_verdict}
use Rattle.alarm_core.specs.declared.event.Event.{Event}
use Rattle.alarm_core.specs.declared.event.StepFault.{StepFault}
use Rattle.alarm_core.specs.declared.event.StepFault.TheVariants as faults
use Rattle.service_desk.specs.Answers.{entering, if_owed}
use Rattle.state_codec.specs.Records.{written_event}
use Rattle.floor_desk.specs.declared.faults.EnterFault.TheVariants as enters
use Rattle.floor_desk.specs.MovesSteps.{CameOf}
use Rattle.floor_desk.specs.Owed.{sends_of}
use Rattle.floor_desk.specs.declared.pending.Owed.{Owed}
use Rattle.floor_desk.specs.declared.pending.Owed.TheVariants.{Several}
use Rattle.floor_desk.specs.States.{FloorState}
use Rattle.floor_desk.proofs.Inputs.{comes_entered, comes_full, counted_none, counted_some, none_owed, one_more, two_more, with_parts}
use Rattle.floor_desk.proofs.floor.Floor.enter_with.Goals as goal

pub returns-in-Ok : goal.returns-in-Ok
returns-in-Ok g c = record {
  comes = λ reply full owed owed_full told.
      let inside = c.self.inside in
      let view : FloorState _ = record {
        core = inside.core;
        records = inside.pending.records.items;
        sends = flat_map sends_of inside.pending.sends.items;
        calls = inside.pending.calls;
        lost = inside.lost;
        durable = inside.durable;
        spot = inside.spot;
        next = inside.next;
        origin = (inside.opened.0.value, inside.opened.1.value);
      } in
      let event = c.args.event.now in
      let same_event : raised view.core.last_moment event ≡ event = subst (λ (floor : FloorState _). raised floor.core.last_moment event ≡ event) (sym c.self.view_is) c.requires.raised in
      let room = c.make_room.new.self in
      let add = c.add_entered.new.pending in
      let same = c.make_room.ensures.same in
      let sent = c.in-Ok.ensures.sends ∙ ap (λ (e : Event). next_sends e view.core) same_event in
      let verdict : step_verdict event view.core ≡ Ok tt = subst (λ (e : Event). step_verdict e view.core ≡ Ok tt) same_event c.in-Ok.ensures.verdict in
      let state : c.take.new.self ≡ next_state event view.core = c.in-Ok.ensures.state ∙ ap (λ (e : Event). next_state e view.core) same_event in
      let represents = λ (history : List Event) (before : Represents view.core history). subst (λ (e : Event). Represents c.take.new.self (e ∷ history)) same_event (c.in-Ok.ensures.represents history before) in
      let records : add.records.items ≡ view.records ++ written_event event = c.add_entered.ensures.records ∙ (λ i. same.0 i ++ c.requires.written i) in
      let sends : flat_map sends_of add.sends.items ≡ view.sends ++ (next_sends event view.core ++ if_owed reply) =
      ap (λ (l : List Owed). flat_map sends_of l) c.add_entered.ensures.sends
      ∙ (two_more room.sends.items (Several c.in-Ok.outcome.sends) c.args.parts.reply ∙ (λ i. flat_map sends_of (same.1 i) ++ (sent i ++ owed i))) in
      let calls : add.calls ≡ view.calls + 1 = c.add_entered.ensures.calls ∙ ap (λ (n : ℕ). n + 1) same.2 in
      let new : FloorState _ = with_parts view c.take.new.self add.records.items (flat_map sends_of add.sends.items) add.calls in
      subst (λ (old : FloorState _). CameOf old new (entering event reply full (step_verdict event old.core)) (Ok c.ticket.result)) c.self.view_is
      (comes_entered view event reply full (step_verdict event view.core) c.take.new.self add.records.items (flat_map sends_of add.sends.items) add.calls c.ticket.result
      verdict c.requires.record c.requires.fits represents state records sends calls c.ticket.ensures.ticket);
}

pub returns-else-told : goal.returns-else-told
returns-else-told g c = record {
  comes = λ reply full owed owed_full told.
      let inside = c.self.inside in
      let view : FloorState _ = record {
        core = inside.core;
        records = inside.pending.records.items;
        sends = flat_map sends_of inside.pending.sends.items;
        calls = inside.pending.calls;
        lost = inside.lost;
        durable = inside.durable;
        spot = inside.spot;
        next = inside.next;
        origin = (inside.opened.0.value, inside.opened.1.value);
      } in
      let event = c.args.event.now in
      let same_event : raised view.core.last_moment event ≡ event = subst (λ (floor : FloorState _). raised floor.core.last_moment event ≡ event) (sym c.self.view_is) c.requires.raised in
      let would = c.in-Err-Full.would in
      let limit = c.in-Err-Full.limit in
      let room = c.make_room.new.self in
      let same = c.make_room.ensures.same in
      let none : is_some full ≡ false = sym told ∙ c.if-told.false in
      let verdict : step_verdict event view.core ≡ Err (faults.Full would limit) = subst (λ (e : Event). step_verdict e view.core ≡ Err (faults.Full would limit)) same_event
      (subst (λ (fault : StepFault). Answers {A = Unit {0}} (Err fault) (step_verdict (raised view.core.last_moment event) view.core)) c.in-Err-Full.field-0-is c.in-Err-Full.ensures.verdict) in
      let sends : flat_map sends_of room.sends.items ≡ view.sends ++ if_owed full =
      ap (λ (l : List Owed). flat_map sends_of l) same.1 ∙ (sym (append-nil view.sends) ∙ ap (λ (l : List Send). view.sends ++ l) (sym (none_owed full none))) in
      let new : FloorState _ = with_parts view c.take.new.self room.records.items (flat_map sends_of room.sends.items) room.calls in
      subst (λ (old : FloorState _). CameOf old new (entering event reply full (step_verdict event old.core)) (Err (enters.Full would limit))) c.self.view_is
      (comes_full view event reply full (step_verdict event view.core) would limit c.take.new.self room.records.items (flat_map sends_of room.sends.items) room.calls
      verdict c.in-Err-Full.ensures.same same.0 sends (counted_none full view.calls room.calls none same.2));
}

pub returns-then-told : goal.returns-then-told
returns-then-told g c = record {
  comes = λ reply full owed owed_full told.
      let inside = c.self.inside in
      let view : FloorState _ = record {
        core = inside.core;
        records = inside.pending.records.items;
        sends = flat_map sends_of inside.pending.sends.items;
        calls = inside.pending.calls;
        lost = inside.lost;
        durable = inside.durable;
        spot = inside.spot;
        next = inside.next;
        origin = (inside.opened.0.value, inside.opened.1.value);
      } in
      let event = c.args.event.now in
      let same_event : raised view.core.last_moment event ≡ event = subst (λ (floor : FloorState _). raised floor.core.last_moment event ≡ event) (sym c.self.view_is) c.requires.raised in
      let would = c.in-Err-Full.would in
      let limit = c.in-Err-Full.limit in
      let room = c.make_room.new.self in
      let add = c.add_full.new.pending in
      let same = c.make_room.ensures.same in
      let some : is_some full ≡ true = sym told ∙ c.if-told.true in
      let verdict : step_verdict event view.core ≡ Err (faults.Full would limit) = subst (λ (e : Event). step_verdict e view.core ≡ Err (faults.Full would limit)) same_event
      (subst (λ (fault : StepFault). Answers {A = Unit {0}} (Err fault) (step_verdict (raised view.core.last_moment event) view.core)) c.in-Err-Full.field-0-is c.in-Err-Full.ensures.verdict) in
      let sends : flat_map sends_of add.sends.items ≡ view.sends ++ if_owed full =
      ap (λ (l : List Owed). flat_map sends_of l) c.add_full.ensures.sends ∙ (one_more room.sends.items c.args.parts.full ∙ (λ i. flat_map sends_of (same.1 i) ++ owed_full i)) in
      let calls : add.calls ≡ view.calls + 1 = c.add_full.ensures.calls ∙ ap (λ (n : ℕ). n + 1) same.2 in
      let new : FloorState _ = with_parts view c.take.new.self add.records.items (flat_map sends_of add.sends.items) add.calls in
      subst (λ (old : FloorState _). CameOf old new (entering event reply full (step_verdict event old.core)) (Err (enters.Full would limit))) c.self.view_is
      (comes_full view event reply full (step_verdict event view.core) would limit c.take.new.self add.records.items (flat_map sends_of add.sends.items) add.calls
      verdict c.in-Err-Full.ensures.same (c.add_full.ensures.records ∙ same.0) sends (counted_some full view.calls add.calls some calls));
}
