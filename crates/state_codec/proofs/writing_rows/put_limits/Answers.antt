use Rattle.std.proofs.Common.{w32}
use Rattle.std.specs.Int.{cast_unsigned, to_be_bytes}
use Rattle.state_codec.specs.Records.{written_flags}
use Rattle.state_codec.proofs.Written.{four_parts, on_ok}
use Rattle.state_codec.proofs.writing_rows.put_limits.Goals as goal

pub returns : goal.returns
returns c =
    let site = c.args.site.now in
    record { written = on_ok c.put_two_flags.result _ _ (λ e. four_parts c.args.out.now.items (to_be_bytes w32 (cast_unsigned w32 site.high)) (to_be_bytes w32 (cast_unsigned w32 site.low)) (to_be_bytes w32 site.deadband) (written_flags site.limit_enable) _ _ _ _ c.in_ok-put_limit.ensures.written c.in_ok-put_limit-2.ensures.written c.in_ok-put_word.ensures.written e) c.put_two_flags.ensures.written }
