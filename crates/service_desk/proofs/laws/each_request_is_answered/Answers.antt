use Rattle.service_desk.proofs.Answered.{each_answered}
use Rattle.service_desk.proofs.laws.each_request_is_answered.Goals as goal

pub returns : goal.returns
returns c = record { answered = each_answered }
