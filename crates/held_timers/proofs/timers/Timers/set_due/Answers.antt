use Rattle.std.proofs.Common.{◌<◌, ℕ, length, take, drop, set, ap, ◌∙◌, arith}
use Rattle.std.proofs.Math.Seq.{take-set-lt}
use Rattle.std.proofs.lemmas.List.{length-take, with_items_is}
use Rattle.held_timers.proofs.timers.Timers.set_due.Goals as goal

pub returns : goal.returns
returns c =
    let count : ℕ = c.self.inside.count in
    let leaf : ℕ = c.self.inside.leaves in
    let leaves = drop leaf c.self.inside.nodes.items in
    let within : c.args.index < count = omega (arith, c.requires.within, ap length c.self.view_is, length-take count leaves) in
    record {
      set = ap (λ nodes. take count (drop leaf nodes)) (with_items_is c.self.inside.nodes c.replace.new.nodes (c.replace.auto.nodes ∙ c.deref_mut.ensures.len))
          ∙ ap (take count) c.replace.ensures.leaves
          ∙ ap (λ nodes. take count (set (drop leaf nodes) c.args.index c.args.due)) c.deref_mut.ensures.value
          ∙ take-set-lt count leaves c.args.index c.args.due within
          ∙ ap (λ dues. set dues c.args.index c.args.due) c.self.view_is;
    }
