use Rattle.std.proofs.Common.{◌≡◌, ◌∙◌, ◌<◌, ℕ, List, length, get_or, sym, ap, subst}
use Rattle.notify_class.specs.declared.class.Class.{Class}
use Rattle.alarm_core.specs.Room.{members_at}
use Rattle.alarm_core.specs.State.{CoreState}
use Rattle.alarm_core.proofs.MemberCounts.{counted_at}
use Rattle.alarm_core.proofs.state.Core.members.Goals as goal

pub returns-in-Ok : goal.returns-in-Ok
returns-in-Ok c =
    let core = c.self.inside in
    let place = c.in-Ok.place in
    let classes : c.classes.result.now ≡ core.classes.items = c.classes.ensures.classes ∙ sym (ap (λ (s : CoreState). s.classes) c.self.view_is) in
    let within : place < length core.classes.items = subst (λ (cs : List Class). place < length cs) classes c.in-Ok.ensures.found.0 in
    let number : (d : Class) → (get_or core.classes.items place d).instance ≡ c.args.class =
    subst (λ (cs : List Class). (d : Class) → (get_or cs place d).instance ≡ c.args.class) classes c.in-Ok.ensures.number in
    let shown = c.index.result.now in
    record {
      members = c.index.ensures ∙ (ap (λ (ms : List ℕ). get_or ms place shown) c.self.invariant.members
          ∙ (counted_at core.site core.classes.items place c.args.class shown within number ∙ ap (λ (s : CoreState). members_at s.site c.args.class) c.self.view_is));
    }
