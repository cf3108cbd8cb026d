use Rattle.object_table.proofs.Places.{taken_at, taken_after, written_row, written_back, table_after}
use Rattle.object_table.proofs.table.Table.apply.Goals as goal

pub put-requires-clause-taken : goal.put-requires-clause-taken
put-requires-clause-taken c =
    let value = rw c.self.view_is at c.index_mut.ensures.value in
    taken_at c.args.change c.args.self.now c.in-Ok.place c.in-Ok.ensures.found c.index_mut.result.now value c.requires.taken

pub invariant_of-self : goal.invariant_of-self
invariant_of-self c =
    let stands = rw (← c.self.view_is) at c.in-Ok.ensures.found in
    table_after c.args.change _ _ stands c.index_mut.result.now c.put.new.row c.index_mut.ensures.value c.put.ensures.object c.self.invariant c.put.ensures.allowed

pub returns-clause-rows : goal.returns-clause-rows
returns-clause-rows c =
    let value = rw c.self.view_is at c.index_mut.ensures.value in
    rw c.self.view_is (written_row c.args.change c.args.self.now c.in-Ok.place c.in-Ok.ensures.found c.index_mut.result.now c.put.new.row value c.put.ensures.row)

pub returns-clause-undo : goal.returns-clause-undo
returns-clause-undo c =
    let value = rw c.self.view_is at c.index_mut.ensures.value in
    rw c.self.view_is (written_back c.args.change c.args.self.now c.in-Ok.place c.in-Ok.ensures.found c.index_mut.result.now c.put.new.row c.put.result value c.put.ensures.object c.put.ensures.undo)

pub returns-clause-takes : goal.returns-clause-takes
returns-clause-takes c =
    let value = rw c.self.view_is at c.index_mut.ensures.value in
    rw c.self.view_is (taken_after c.args.change c.args.self.now c.in-Ok.place c.in-Ok.ensures.found c.index_mut.result.now c.put.new.row c.put.result value c.put.ensures.object c.put.ensures.takes)
