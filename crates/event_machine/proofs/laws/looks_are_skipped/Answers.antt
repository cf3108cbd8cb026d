use Rattle.event_machine.proofs.Settling.{looks_are_skipped}
use Rattle.event_machine.proofs.laws.looks_are_skipped.Goals as goal

pub returns : goal.returns
returns c = record { law = looks_are_skipped }
