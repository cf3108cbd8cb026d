use Rattle.object_table.proofs.FlagLemmas.{three_flags-string_of_flags}
use Rattle.enrollment.proofs.settings.put_known.Goals as goal

pub returns-in-EventEnable-Bits-clause-undo : goal.returns-in-EventEnable-Bits-clause-undo
returns-in-EventEnable-Bits-clause-undo c =
    let old = c.args.site.now in
    rw (c.in-EventEnable-Bits.is-0, c.of_flags.ensures.string, c.replace-old.ensures.value) (rw (three_flags-string_of_flags old.enable c.requires.allowed.enable))
