use Rattle.std.proofs.Common.{◌≡◌, rules, subst, All, Bool}
use Rattle.state_codec.specs.SnapshotLaws.{FitsRow}
use Rattle.state_codec.specs.Snapshots.{has_rule}
use Rattle.state_codec.specs.Spelled.{FitsClass, FitsDetected, FitsLog}
use Rattle.state_codec.proofs.state_types.state_fits.Goals as goal

pub returns : goal.returns
returns c =
    let state = c.args.core.now in
    let rows : c.rows.result.now ≡ state.values.rows = search rules in
    let rule : c.has_rule.result ≡ has_rule state.site = search rules in
    record {
      fits = record {
        rows = subst (All FitsRow) rows c.rows_fit.ensures.fit;
        alarms = subst (All FitsDetected) c.alarms.ensures.alarms c.alarms_fit.ensures.fit;
        classes = subst (All FitsClass) c.classes.ensures.classes c.classes_fit.ensures.fit;
        logs = subst (λ (r : Bool). All (FitsLog r) state.logs) rule (subst (All (FitsLog c.has_rule.result)) c.logs.ensures.logs c.logs_fit.ensures.fit);
        posts = c.in_ok-outbox_fits.ensures.fit;
      };
    }
