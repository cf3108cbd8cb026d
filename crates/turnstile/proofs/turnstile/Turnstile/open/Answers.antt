use Rattle.std.proofs.Common.{rules, ◌≡◌, ◌∷◌, [], ap, sym}
use Rattle.turnstile.specs.declared.view.Place.TheVariants.{Held}
use Rattle.turnstile.proofs.Seats.{opens}
use Rattle.turnstile.proofs.turnstile.Turnstile.open.Goals as goal

pub new-requires : goal.new-requires
new-requires g c = let e : c.push_reserved.new.self.items ≡ Held c.args.value ∷ [] = search rules in
    rw e (opens _ _ _ _ c.args.value c.requires (ap g.T.Chronicle.origin (sym c.noted_of-about.ensures.kept)))
