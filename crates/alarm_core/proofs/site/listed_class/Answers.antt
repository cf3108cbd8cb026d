use Rattle.std.proofs.Common.{◌≡◌, ◌==◌, ◌∙◌, ℕ, true, false, find, Some, sym, ap, subst}
use Rattle.std.proofs.lemmas.Bool.{eq-eqb, ne_eqb}
use Rattle.notify_class.specs.declared.class_site.ClassSite.{ClassSite}
use Rattle.alarm_core.specs.Sites.{HasInstance}
use Rattle.alarm_core.proofs.Halving.{found_alike, found_there, never_found}
use Rattle.alarm_core.proofs.site.listed_class.Goals as goal

pub returns-in-Ok-clause-class : goal.returns-in-Ok-clause-class
returns-in-Ok-clause-class c =
    let classes = c.args.classes.now in
    let object = c.args.object in
    let x = c.index-classes-place.result in
    let with_instance = λ (n : ℕ). find (λ (listed : ClassSite). listed.class.instance == n) classes in
    let kind : (15 == object.number) ≡ true = eq-eqb 15 object.number (sym (sym c.number.ensures.number ∙ (c.if-number.false ∙ c.number-2.ensures.number))) in
    sym (found_alike (15 == object.number) (λ (listed : ClassSite). listed.class.instance == object.instance) classes kind
    ∙ (sym (ap with_instance c.instance.ensures.instance)
    ∙ (found_there (λ (listed : ClassSite). listed.class.instance == c.instance.result) classes c.in-Ok.place x c.in-Ok.ensures.found ∙ ap Some (sym c.index-classes-place.is))))

pub returns-in-Ok-clause-instance : goal.returns-in-Ok-clause-instance
returns-in-Ok-clause-instance c = subst HasInstance (sym c.index-classes-place.is) (c.requires.instances c.in-Ok.place c.index-classes-place.result c.in-Ok.ensures.found.within)

pub returns-then-number-clause-class : goal.returns-then-number-clause-class
returns-then-number-clause-class c =
    let object = c.args.object in
    let other : (15 == object.number) ≡ false = ne_eqb 15 object.number (λ same. c.if-number.true (c.number.ensures.number ∙ (sym same ∙ sym c.number-2.ensures.number))) in
    sym (never_found (15 == object.number) (λ (listed : ClassSite). listed.class.instance == object.instance) c.args.classes.now other)
