use Rattle.std.proofs.Common.{rules, ◌≡◌, ◌++◌, length, ap}
use Rattle.alarm_core.specs.Parts.{kept_by}
use Rattle.alarm_core.proofs.Restored.{none_told}
use Rattle.alarm_core.proofs.restoring.add_log.Goals as goal

pub returns-in-None : goal.returns-in-None
returns-in-None c =
    let told = c.args.told.now.rest.items in
    let left = c.next.new.self.rest.items in
    let none : length told ≡ 0 = search rules in
    let still : length left ≡ 0 = search rules in
    record { added = λ behind. ap (λ kept. c.args.logs.now.items ++ kept) (none_told kept_by c.args.site.now behind told left none still) }
