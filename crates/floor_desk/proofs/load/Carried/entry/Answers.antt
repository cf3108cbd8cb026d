use Rattle.std.proofs.Common.{refl}
use Rattle.floor_desk.proofs.load.Carried.entry.Goals as goal

pub returns-in-Home : goal.returns-in-Home
returns-in-Home g c = rw c.in-Home.is (record { tells = (c.noted_of-memo.result, c.noted_of-memo.ensures.kept, refl) })

pub returns-in-Broken : goal.returns-in-Broken
returns-in-Broken g c = rw c.in-Broken.is (record { tells = (c.noted_of-memo-in-Broken.result, c.noted_of-memo-in-Broken.ensures.kept, refl) })
