use Rattle.state_codec.proofs.Numbers.{numbered_if}
use Rattle.state_codec.proofs.reading_logs.take_records.Goals as goal

pub returns : goal.returns
returns c = record {
  exact = c.take_entries.ensures.exact;
  numbered = numbered_if (λ x. x.items) c.take_entries.new.bytes.now c.take_entries.result c.args.has_rule c.args.zone.now c.args.total c.args.count c.args.bytes.now.now c.take_entries.ensures.exact;
}
