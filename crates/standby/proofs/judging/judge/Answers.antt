use Rattle.std.proofs.Common.{◌∙◌, Err, ap}
use Rattle.state_codec.specs.Sizes.{snapshot_bound}
use Rattle.state_codec.specs.declared.reading.ReadFault.{ReadFault}
use Rattle.standby.proofs.Judged.{malformed, no_packet}
use Rattle.standby.proofs.judging.judge.Goals as goal

pub returns-in-Err-NothingThere-read_piece-clause-comes : goal.returns-in-Err-NothingThere-read_piece-clause-comes
returns-in-Err-NothingThere-read_piece-clause-comes g c =
    let core = c.args.core.now in
    let packet = c.args.packet.now in
    malformed core packet c.args.gathering.now (no_packet (snapshot_bound core.site) packet c.bound_is_low.ensures.low (c.read_records.ensures.only (c.in-Err-NothingThere.is ∙ ap (λ (f : ReadFault). Err f) c.in-Err-NothingThere.field-0-is)) (c.read_piece.ensures.only (c.in-Err-NothingThere-read_piece.is ∙ ap (λ (f : ReadFault). Err f) c.in-Err-NothingThere-read_piece.field-0-is)))
