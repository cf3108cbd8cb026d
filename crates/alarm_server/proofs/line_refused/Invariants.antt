use Rattle.std.proofs.Common.{[]}
use Rattle.alarm_server.proofs.line_refused.Given as goal

abbrev pub ghost-new : goal.ghost-new
ghost-new g = []
