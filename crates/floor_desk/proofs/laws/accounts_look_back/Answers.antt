use Rattle.floor_desk.proofs.LookingBack.{looks_back}
use Rattle.floor_desk.proofs.laws.accounts_look_back.Goals as goal

pub returns : goal.returns
returns g c = record { law = looks_back }
