use Rattle.scarce_calls.proofs.play.recorded.Goals as goal

pub returns-clause-record : goal.returns-clause-record
returns-clause-record c = c.allowed_event_has_record.ensures.allowed c.requires.allowed.0 c.requires.range c.requires.allowed.1
