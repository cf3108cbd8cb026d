use Rattle.std.proofs.Common.{◌∙◌, Some, sym, ap}
use Rattle.alarm_core.proofs.class_search.class_among.Goals as goal

pub returns-in-Ok : goal.returns-in-Ok
returns-in-Ok c =
    let x = c.index-classes-place.result in
    record { class = sym (c.in-Ok.ensures.found.1 x ∙ ap Some (sym c.index-classes-place.is)) }
