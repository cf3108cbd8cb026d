use Rattle.floor_desk.proofs.heap_floor.HeapFloor.lend.Goals as goal

pub returns-clause-lent : goal.returns-clause-lent
returns-clause-lent g c = rw (c.deref_mut.ensures.value, c.self.view_is) at c.lend.ensures.lent
