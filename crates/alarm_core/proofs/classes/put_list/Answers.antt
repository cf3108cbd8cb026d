use Rattle.std.proofs.Common.{◌≡◌, ◌==◌, ◌∙◌, List, None, set, sym, ap, subst}
use Rattle.notify_class.specs.declared.class.Class.{Class}
use Rattle.alarm_core.specs.Classes.{class_in}
use Rattle.alarm_core.specs.Places.{IsAt}
use Rattle.alarm_core.proofs.Halving.{changed_at, none_changed}
use Rattle.alarm_core.proofs.classes.put_list.Goals as goal

pub returns-in-Ok : goal.returns-in-Ok
returns-in-Ok c =
    let classes = c.args.classes.now.items in
    let place = c.in-Ok.place in
    let x = c.index_mut.result.now in
    let test = λ (class : Class). class.instance == c.args.instance in
    let give = λ (class : Class). record class { destinations = c.args.destinations } in
    let found : IsAt test classes place = subst (λ (list : List Class). IsAt test list place) c.deref.ensures.value c.in-Ok.ensures.stands in
    record { classes = ap (λ (class : Class). set classes place (give class)) c.index_mut.ensures.value ∙ sym (changed_at test give classes place x found) }

pub returns-in_default : goal.returns-in_default
returns-in_default c =
    let classes = c.args.classes.now.items in
    let absent : class_in c.args.instance classes ≡ None = subst (λ (list : List Class). class_in c.args.instance list ≡ None) c.deref.ensures.value c.in_default.ensures.absent in
    record { classes = sym (none_changed (λ (class : Class). class.instance == c.args.instance) (λ (class : Class). record class { destinations = c.args.destinations }) classes absent) }
