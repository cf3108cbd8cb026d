use Rattle.alarm_core.proofs.state.Core.idle_tick_counted.Given as goal

abbrev pub ghosts-is_still_alone : goal.ghosts-is_still_alone
ghosts-is_still_alone a = record { name = a.blank.name; parts = a.blank.parts }
