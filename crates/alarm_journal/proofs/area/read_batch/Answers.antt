use Rattle.std.proofs.Common.{rules, ◌≡◌, ◌≤◌, ◌+◌, ◌-◌, inl, inr, ⊎_elim, [], ◌∷◌, ◌++◌, length, arith, subst, sym, List, ℕ, Option, MatchOption, IfSome}
use Rattle.std.proofs.lemmas.Result.{err_from_is_err_and}
use Rattle.ground_io.specs.Disk.{octets_at}
use Rattle.alarm_journal.specs.Areas.{IsDamage, IsEnd, IsHead, IsSoFar, IsWithin, so_far}
use Rattle.alarm_journal.specs.Journal.{LeavesAt}
use Rattle.alarm_journal.specs.Opened.{Shows}
use Rattle.alarm_journal.specs.declared.body.Body.{Body}
use Rattle.alarm_journal.specs.declared.open_fault.OpenFault.{OpenFault}
use Rattle.alarm_journal.proofs.Areas.{damage_so_far, more_so_far, more_within}
use Rattle.alarm_journal.proofs.Showing.{kept}
use Rattle.alarm_journal.proofs.area.read_batch.Goals as goal

pub returns-in_err-length-clause-damaged : goal.returns-in_err-length-clause-damaged
returns-in_err-length-clause-damaged g c =
    let area = c.args.area.now in
    let told = g.G.Ground.told c.read_head.new.device in
    let fault : OpenFault = c.in_err-length.field-0.0 in
    let room : area.start + area.half ≤ g.G.Ground.size c.read_head.new.device = omega (arith, c.in_err-length.ensures.same, c.requires.inside) in
    let p = err_from_is_err_and c.from_residual.result c.from_residual.ensures.1 in
    rw p.1 (subst (λ (f : OpenFault). IsDamage told (λ at image. LeavesAt area.start (octets_at area.start area.half image) at) f) (sym p.2)
    (damage_so_far area.start area.half area.next (g.G.Ground.size c.read_head.new.device) area.snapshot.items area.batches.items area.bodies.items fault _ _ c.requires.so_far c.in_err-length.ensures.told (g.G.Ground.sized c.read_head.new.device) room c.in_err-length.ensures.damaged))

pub returns-in_default-clause-end : goal.returns-in_default-clause-end
returns-in_default-clause-end g c = λ _.
    let area = c.args.area.now in
    let told = g.G.Ground.told c.read_head.new.device in
    subst (λ (o : Option ℕ). MatchOption o (Shows told (IsEnd (area.start + area.next) (area.half - area.next))) (λ size. Shows told (IsHead (area.start + area.next) size))) c.in_default.is c.in_ok-length.ensures.head

pub returns-in_default-clause-so_far : goal.returns-in_default-clause-so_far
returns-in_default-clause-so_far g c = kept (so_far c.args.area.now) _ _ c.in_ok-length.ensures.told c.requires.so_far

pub returns-in_err-body-clause-damaged : goal.returns-in_err-body-clause-damaged
returns-in_err-body-clause-damaged g c =
    let area = c.args.area.now in
    let told = g.G.Ground.told c.read_piece.new.device in
    let P : OpenFault → Type 0 = λ f. IsDamage told (λ at image. LeavesAt area.start (octets_at area.start area.half image) at) f in
    let p = err_from_is_err_and c.from_residual-in_err-body.result c.from_residual-in_err-body.ensures.1 in
    rw p.1 (subst P (sym p.2) (⊎_elim {C = P c.in_err-body.field-0.0} (λ disk. inl disk) (λ memory. inr (inl memory)) c.in_err-body.ensures.faults))

pub returns-clause-within : goal.returns-clause-within
returns-clause-within g c =
    let area = c.args.area.now in
    let size : ℕ = c.in-Some.length in
    let body : List ℕ = c.in_ok-body.body.items in
    let here : Body = record { place = area.start + area.next + 5; length = size } in
    let fits : 5 + size ≤ area.half - area.next = subst (λ (o : Option ℕ). IfSome o (λ n. 5 + n ≤ area.half - area.next)) c.in-Some.is c.in_ok-length.ensures.fits in
    let long : length body ≡ size = c.in_ok-body.ensures.length in
    let batches : c.extend_from_slice.new.self.items ≡ area.batches.items ++ body = search rules in
    let bodies : c.push.new.self.items ≡ area.bodies.items ++ here ∷ [] = search rules in
    let same : c.from.result ≡ size = search rules in
    subst (λ (n : ℕ). IsWithin area.start area.half area.snapshot.items c.extend_from_slice.new.self.items c.push.new.self.items (area.next + (5 + n))) (sym same)
    (subst (λ (l : List Body). IsWithin area.start area.half area.snapshot.items c.extend_from_slice.new.self.items l (area.next + (5 + size))) (sym bodies)
    (subst (λ (l : List ℕ). IsWithin area.start area.half area.snapshot.items l (area.bodies.items ++ here ∷ []) (area.next + (5 + size))) (sym batches)
    (more_within area.start area.half area.next size area.snapshot.items area.batches.items body area.bodies.items c.requires.within long fits)))

pub returns-clause-so_far : goal.returns-clause-so_far
returns-clause-so_far g c =
    let area = c.args.area.now in
    let told = g.G.Ground.told c.read_piece.new.device in
    let whole : ℕ = g.G.Ground.size c.read_piece.new.device in
    let size : ℕ = c.in-Some.length in
    let body : List ℕ = c.in_ok-body.body.items in
    let here : Body = record { place = area.start + area.next + 5; length = size } in
    let fits : 5 + size ≤ area.half - area.next = subst (λ (o : Option ℕ). IfSome o (λ n. 5 + n ≤ area.half - area.next)) c.in-Some.is c.in_ok-length.ensures.fits in
    let head : Shows (g.G.Ground.told c.read_head.new.device) (IsHead (area.start + area.next) size) =
    subst (λ (o : Option ℕ). MatchOption o (Shows (g.G.Ground.told c.read_head.new.device) (IsEnd (area.start + area.next) (area.half - area.next))) (λ n. Shows (g.G.Ground.told c.read_head.new.device) (IsHead (area.start + area.next) n))) c.in-Some.is c.in_ok-length.ensures.head in
    let long : length body ≡ size = c.in_ok-body.ensures.length in
    let room : area.start + area.next + 5 + size ≤ whole = omega (arith, fits, c.in_ok-length.ensures.same, c.in_ok-body.ensures.same, c.requires.inside, c.requires.within.within) in
    let batches : c.extend_from_slice.new.self.items ≡ area.batches.items ++ body = search rules in
    let bodies : c.push.new.self.items ≡ area.bodies.items ++ here ∷ [] = search rules in
    let same : c.from.result ≡ size = search rules in
    subst (λ (n : ℕ). Shows told (IsSoFar area.start area.snapshot.items c.extend_from_slice.new.self.items c.push.new.self.items (area.next + (5 + n)))) (sym same)
    (subst (λ (l : List Body). Shows told (IsSoFar area.start area.snapshot.items c.extend_from_slice.new.self.items l (area.next + (5 + size)))) (sym bodies)
    (subst (λ (l : List ℕ). Shows told (IsSoFar area.start area.snapshot.items l (area.bodies.items ++ here ∷ []) (area.next + (5 + size)))) (sym batches)
    (more_so_far area.start area.half area.next size whole area.snapshot.items area.batches.items body area.bodies.items _ _ _ c.requires.so_far c.in_ok-length.ensures.told head c.in_ok-body.ensures.told c.in_ok-body.ensures.octets
    (g.G.Ground.sized c.read_piece.new.device) c.requires.within long room)))
