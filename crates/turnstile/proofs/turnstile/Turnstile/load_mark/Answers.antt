use Rattle.std.proofs.Common.{rules}
use Rattle.turnstile.proofs.Keeps.{loads}
use Rattle.turnstile.proofs.turnstile.Turnstile.load_mark.Goals as goal

pub load-mark-requires : goal.load-mark-requires
load-mark-requires g c = (search rules, search rules, loads _ _ _ _ _ _ _)
