use Rattle.std.proofs.Common.{arith}
use Rattle.event_services.specs.NoteServiceSteps.{notification_of}
use Rattle.event_services.specs.NoteGrammar.{SpellsNotification}
use Rattle.event_services.specs.NoteRefusals.{RefusesNotification}
use Rattle.event_services.proofs.NoteChain.{answered, same_answer, refused, wanted_memory}
use Rattle.event_services.proofs.NoteExact.{note_exactly}
use Rattle.event_services.proofs.NoteMissing.{missing_of}
use Rattle.event_services.proofs.NoteLaws.{note_found}
use Rattle.event_services.proofs.NoteAgain.{note_again}
use Rattle.event_services.proofs.read_note.read_notification.Goals as goal

pub returns-clause-found : goal.returns-clause-found
returns-clause-found c =
    answered c.args.bytes.now (SpellsNotification c.args.bytes.now) c.notification_of.result (notification_of c.args.bytes.now) c.notification_of.ensures.exact (λ note e. note_found c.args.bytes.now note (λ i. omega (arith, c.type_inv.bytes i)) e)

pub returns-clause-only : goal.returns-clause-only
returns-clause-only c = λ note s.
    same_answer c.args.bytes.now c.notification_of.result (notification_of c.args.bytes.now) note c.notification_of.ensures.exact (note_again c.args.bytes.now note s)

pub returns-clause-refused : goal.returns-clause-refused
returns-clause-refused c =
    refused c.args.bytes.now (RefusesNotification c.args.bytes.now) c.notification_of.result (notification_of c.args.bytes.now) c.notification_of.ensures.exact (note_exactly c.args.bytes.now (λ i. omega (arith, c.type_inv.bytes i)))

pub returns-clause-missing : goal.returns-clause-missing
returns-clause-missing c =
    missing_of c.args.bytes.now c.notification_of.result (refused c.args.bytes.now (RefusesNotification c.args.bytes.now) c.notification_of.result (notification_of c.args.bytes.now) c.notification_of.ensures.exact (note_exactly c.args.bytes.now (λ i. omega (arith, c.type_inv.bytes i))))

pub returns-clause-no_memory : goal.returns-clause-no_memory
returns-clause-no_memory c = wanted_memory c.args.bytes.now c.notification_of.result (notification_of c.args.bytes.now) c.notification_of.ensures.exact
