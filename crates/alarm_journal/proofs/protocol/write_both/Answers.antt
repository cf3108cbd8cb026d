use Rattle.std.proofs.Common.{[], ◌∷◌}
use Rattle.std.proofs.lemmas.Result.{on_err_weaker, on_ok_weaker}
use Rattle.ground_io.specs.declared.entry.Entry.TheVariants.{Wrote, Synced}
use Rattle.ground_io.proofs.Crashes.{adds_both}
use Rattle.alarm_journal.proofs.TwoWrites.{cut_second}
use Rattle.alarm_journal.proofs.protocol.write_both.Goals as goal

pub returns-clause-wrote : goal.returns-clause-wrote
returns-clause-wrote g c =
    let told = g.G.Ground.told in
    on_ok_weaker c.write_down-2.result
    (λ second. adds_both (told c.args.device.now) (told c.write_down.new.device) (told c.write_down-2.new.device) (Wrote c.args.first c.args.octets.now ∷ Synced ∷ []) (Wrote c.args.second (c.args.gate ∷ []) ∷ Synced ∷ []) c.in_ok-write_down.ensures.wrote second) c.write_down-2.ensures.wrote

pub returns-clause-cut_short : goal.returns-clause-cut_short
returns-clause-cut_short g c =
    let told = g.G.Ground.told in
    on_err_weaker c.write_down-2.result (λ short. cut_second c.args.first c.args.octets.now c.args.second (c.args.gate ∷ []) (told c.args.device.now) (told c.write_down.new.device) (told c.write_down-2.new.device) c.in_ok-write_down.ensures.wrote short) c.write_down-2.ensures.cut_short
