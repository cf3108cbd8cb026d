use Rattle.alarm_core.proofs.evaluation_count.none_counted.Given as goal

abbrev pub ghost-picked : goal.ghost-picked
ghost-picked a = 0
