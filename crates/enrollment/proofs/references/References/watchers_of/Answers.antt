use Rattle.enrollment.proofs.Ordered.{watchers_of_stretch}
use Rattle.enrollment.proofs.references.References.watchers_of.Goals as goal

pub returns : goal.returns
returns c =
    let stretch = rw c.deref.ensures.value at c.stretch_to-start.ensures.stretch in
    record { watchers = rw (c.deref-2.ensures.value, ← c.self.view_is) (watchers_of_stretch c.args.object c.self.inside.references.items c.self.inside.watchers.items c.stretch_to-start.result.0 c.stretch_to-start.result.1 c.self.invariant.watchers stretch) }
