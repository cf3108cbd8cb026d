use Rattle.bac_values.specs.Limits.{most_note_octets}
use Rattle.std.proofs.Common.{◌≡◌, ◌≤◌, List, length, All, Contains, ap, sym, subst, ◌∙◌}
use Rattle.std.proofs.lemmas.List.Elements.{All-push}
use Rattle.bac_values.specs.declared.note.Note.{Note}
use Rattle.notify_class.specs.Edits.{recipient_peers}
use Rattle.note_maker.proofs.NoteLaws.{notified, passed_over, all_to_recipients}
use Rattle.note_maker.proofs.making.notes_of.Goals as goal
use Rattle.note_maker.proofs.making.notes_of.Goals.{then-uses_at+in_ok-note_to+in_ok-push, else-uses_at}

IsShortNote : Note → Type 0
IsShortNote note = length note.body ≤ most_note_octets

pub loop-destination-preserved : goal.loop-destination-preserved
unfolding IsShortNote
loop-destination-preserved c =
    elim c.if-uses_at.branch [
      | then-uses_at+in_ok-note_to+in_ok-push w ↦
          let now : c.if-uses_at.notes.items ≡ w.push.new.items.items = ap (λ v. v.items) w.notes-is in
          record {
            made = now ∙ notified c.args.facts.now c.as_slice-destination-items.result.now c.args.transition c.args.at.now.moment c.args.at.now.zone c.loop-destination.destination-index c.destination-item.result w.in_ok-note_to.field-0 c.loop-destination.notes.items w.push.new.items.items
                c.loop-destination-test.true c.destination-item.is (sym c.uses_at.ensures.test ∙ w.if-uses_at.true) w.in_ok-note_to.ensures.note c.loop-destination.invariant.made w.in_ok-push.ensures.added;
            short = subst (All IsShortNote) (sym (now ∙ w.in_ok-push.ensures.added)) (All-push IsShortNote c.loop-destination.notes.items w.in_ok-note_to.field-0 c.loop-destination.invariant.short w.in_ok-note_to.ensures.short);
          }
      | else-uses_at w ↦
          let now : c.if-uses_at.notes.items ≡ c.loop-destination.notes.items = ap (λ v. v.items) w.notes-is in
          record {
            made = now ∙ passed_over c.args.facts.now c.as_slice-destination-items.result.now c.args.transition c.args.at.now.moment c.args.at.now.zone c.loop-destination.destination-index c.destination-item.result c.loop-destination.notes.items
                c.loop-destination-test.true c.destination-item.is (sym c.uses_at.ensures.test ∙ w.if-uses_at.false) c.loop-destination.invariant.made;
            short = subst (All IsShortNote) (sym now) c.loop-destination.invariant.short;
          }
    ]

pub returns-clause-peers : goal.returns-clause-peers
returns-clause-peers c =
    all_to_recipients c.args.facts.now c.as_slice-destination-items.result.now c.args.class.now.destinations c.args.transition c.args.at.now.moment c.args.at.now.zone c.loop-destination.destination-index c.loop-destination.notes.items
    c.as_slice-destination-items.ensures.same c.loop-destination-test.false c.loop-destination.invariant.made
