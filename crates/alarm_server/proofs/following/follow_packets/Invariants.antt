use Rattle.std.proofs.Common.{◌≡◌, ◌-◌, true}
use Rattle.std.specs.Io.KnownBytes.{IsAtEnd}
use Rattle.script_lines.specs.declared.line.Grammar.TheVariants.{Packets}
use Rattle.script_lines.specs.Reading.{octets_to_come}
use Rattle.alarm_core.specs.Fits.{FitsSite}
use Rattle.alarm_core.specs.Sites.{IsSite}
use Rattle.state_codec.specs.Laws.{BoundsAreLow, OneSnapshot}
use Rattle.standby.specs.Followers.{following_of}
use Rattle.alarm_server.proofs.Followed.{Progress}
use Rattle.alarm_server.proofs.following.follow_packets.Given as goal

-- the packets so far were taken, and their lines went out; no fault was counted
abbrev pub invariant-loop-packet : goal.invariant-loop-packet
invariant-loop-packet g l = record {
  goes : Progress l.fn.core (g.T.Source.left l.fn.script) (octets_to_come l.lines (g.T.Source.left l.script)) l.fn.press.layout l.follower.press.layout (g.G.Ground.told l.fn.press.device) (g.G.Ground.told l.follower.press.device) l.lines.number l.lines.ended (following_of l.follower);
  site : l.follower.core.site ≡ l.fn.core.site;
  is_site : IsSite l.fn.core.site;
  fits : FitsSite l.fn.core.site;
  spelling : OneSnapshot;
  low : BoundsAreLow;
  grammar : l.lines.grammar ≡ Packets;
  source : l.lines.ended ≡ true → IsAtEnd (g.T.Source.left l.script);
  size : g.G.Ground.size l.follower.press.device ≡ g.G.Ground.size l.fn.press.device;
  disk : g.G.Ground.disk_faults l.follower.press.device ≡ g.G.Ground.disk_faults l.fn.press.device;
  read : g.T.Source.faults l.script ≡ g.T.Source.faults l.fn.script;
  emitted : g.G.Ground.emit_faults l.follower.press.device ≡ g.G.Ground.emit_faults l.fn.press.device;
}

abbrev pub decreases-loop-packet : goal.decreases-loop-packet
decreases-loop-packet g l = 1000000 - l.lines.number
