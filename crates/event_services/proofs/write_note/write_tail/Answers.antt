use Rattle.event_services.proofs.NoteLengthLaws.{parts_octets}
use Rattle.event_services.proofs.write_note.write_tail.Goals as goal

pub returns-clause-room : goal.returns-clause-room
returns-clause-room c =
    parts_octets c.args.note.now c.new-out.result.items c.write_event.new.out.items c.write_message.new.out.items c.write_states.new.out.items c.write_values.new.out.items
    c.new-out.ensures.items c.in_ok-write_event.ensures.written c.in_ok-write_message.ensures.written c.in_ok-write_states.ensures c.in_ok-write_values.ensures.written
    c.in_ok-write_event.ensures.whole c.in_ok-write_message.ensures.short c.in_ok-write_values.ensures.short
