use Rattle.alarm_core.proofs.evaluation_count.counted_in.Given as goal

abbrev pub ghost-picked : goal.ghost-picked
ghost-picked g a = a.about.now
