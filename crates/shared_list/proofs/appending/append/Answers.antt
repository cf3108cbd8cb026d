use Rattle.std.proofs.Common.{sym, ◌∙◌, append-nil}
use Rattle.shared_list.specs.declared.list.Call.TheVariants.{Appended, Refused}
use Rattle.shared_list.proofs.Histories.{stands_after}
use Rattle.shared_list.proofs.appending.append.Goals as goal

pub give-requires-clause-value : goal.give-requires-clause-value
give-requires-clause-value g c =
    let turn = c.take-turn.result in stands_after turn.value c.push.new.self turn.pass.seen turn.pass.number (Appended c.args.entry) c.take-turn.ensures.value c.in-Ok.ensures.ok

pub give-requires-in-Err-clause-value : goal.give-requires-in-Err-clause-value
give-requires-in-Err-clause-value g c =
    let turn = c.take-turn.result in stands_after turn.value c.push.new.self turn.pass.seen turn.pass.number Refused c.take-turn.ensures.value (c.in-Err.ensures.refused ∙ sym (append-nil turn.value))
