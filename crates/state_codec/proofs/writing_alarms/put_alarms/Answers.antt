use Rattle.std.proofs.Common.{◌++◌, ap, ◌∙◌, rules}
use Rattle.state_codec.proofs.WithClass.{with_class}
use Rattle.state_codec.proofs.Written.{on_ok}
use Rattle.state_codec.proofs.writing_alarms.put_alarms.Goals as goal

pub returns : goal.returns
returns c =
    let state = c.args.core.now in
    record { written = on_ok c.put_subjects.result _ _ (λ e. e ∙ ap (λ t. c.args.out.now.items ++ t) (search (rules, with_class))) c.put_subjects.ensures.written }
