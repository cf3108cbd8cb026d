use Rattle.toml.proofs.Views.{table_get}
use Rattle.toml_items.proofs.members.member_at.Goals as goal

pub returns : goal.returns
returns c = record { member = table_get c.get.result c.args.key.now c.args.table.now.entries c.get.ensures.value }
