use Rattle.std.proofs.Common.{◌≡◌, length}
use Rattle.object_table.specs.Properties.{kind_in}
use Rattle.object_table.proofs.FlagLemmas.{two_flags-string_of_flags, three_flags-string_of_flags}
use Rattle.object_table.proofs.Keeping.{two_flags_of, three_flags_of, alarm_written}
use Rattle.object_table.proofs.settings.put_known.Goals as goal

pub returns-in-LimitEnable-clause-undo : goal.returns-in-LimitEnable-clause-undo
returns-in-LimitEnable-clause-undo c =
    let old = c.args.site.now in
    let size : length old.limit_enable ≡ 2 = two_flags_of (kind_in old) old c.requires.allowed in
    rw (c.in-LimitEnable.is, c.put_two_flags.ensures.old) (rw (two_flags-string_of_flags old.limit_enable size))

pub returns-in-Some-alarm_value-clause-allowed : goal.returns-in-Some-alarm_value-clause-allowed
returns-in-Some-alarm_value-clause-allowed c =
    rw c.replace-in-Some-alarm_value.ensures.after (alarm_written c.args.site.now c.args.property c.args.value c.in-AlarmValue.is c.requires.taken c.requires.allowed)

pub returns-in-EventEnable-clause-undo : goal.returns-in-EventEnable-clause-undo
returns-in-EventEnable-clause-undo c =
    let old = c.args.site.now in
    let size : length old.enable ≡ 3 = three_flags_of (kind_in old) old c.requires.allowed in
    rw (c.in-EventEnable.is, c.put_three_flags.ensures.old) (rw (three_flags-string_of_flags old.enable size))
