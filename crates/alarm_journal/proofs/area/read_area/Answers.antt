use Rattle.std.proofs.Common.{◌≡◌, ◌<◌, ◌≤◌, ◌+◌, inl, inr, ⊎_elim, [], length, arith, subst, sym, List, ℕ, refl}
use Rattle.std.proofs.lemmas.Result.{err_from_is_err_and}
use Rattle.ground_io.specs.Disk.{octets_at}
use Rattle.alarm_journal.specs.Areas.{IsDamage, IsLaid, IsRead, IsSoFar, IsWithin}
use Rattle.alarm_journal.specs.Journal.{Content}
use Rattle.alarm_journal.specs.Journal.{LeavesAt}
use Rattle.alarm_journal.specs.Opened.{Shows, content_in}
use Rattle.alarm_journal.specs.declared.body.Body.{Body}
use Rattle.alarm_journal.specs.declared.open_fault.OpenFault.{OpenFault}
use Rattle.alarm_journal.proofs.Areas.{area_laid, area_read, area_stands, begun_so_far, opened_content, snapshot_damage}
use Rattle.alarm_journal.proofs.area.read_area.Goals as goal

pub returns-then-from-half-clause-damaged : goal.returns-then-from-half-clause-damaged
returns-then-from-half-clause-damaged g c =
    let whole : ℕ = g.G.Ground.size c.read_word.new.device in
    let room : c.args.start + c.args.half ≤ whole = omega (arith, c.in_ok-count.ensures.same, c.requires.inside) in
    let over : c.args.half < 4 + c.in_ok-count.count = omega (arith, c.if-from-half.true, c.from.ensures, c.requires.some) in
    inr (inr (c.args.start, refl, snapshot_damage c.args.start c.args.half c.in_ok-count.count whole _ c.in_ok-count.ensures.word (g.G.Ground.sized c.read_word.new.device) room c.requires.some over))

pub returns-in_err-snapshot-clause-damaged : goal.returns-in_err-snapshot-clause-damaged
returns-in_err-snapshot-clause-damaged g c =
    let told = g.G.Ground.told c.read_piece.new.device in
    let P : OpenFault → Type 0 = λ f. IsDamage told (λ at image. LeavesAt c.args.start (octets_at c.args.start c.args.half image) at) f in
    let p = err_from_is_err_and c.from_residual-in_err-snapshot.result c.from_residual-in_err-snapshot.ensures.1 in
    rw p.1 (subst P (sym p.2) (⊎_elim {C = P c.in_err-snapshot.field-0.0} (λ disk. inl disk) (λ memory. inr (inl memory)) c.in_err-snapshot.ensures.faults))

pub read_batches-requires-clause-within : goal.read_batches-requires-clause-within
read_batches-requires-clause-within g c =
    let start : ℕ = c.args.start in
    let half : ℕ = c.args.half in
    let count : ℕ = c.in_ok-count.count in
    let snapshot : List ℕ = c.in_ok-snapshot.snapshot.items in
    let long : length snapshot ≡ count = c.in_ok-snapshot.ensures.length in
    let base : IsWithin start half snapshot [] [] (4 + count) = record {
      behind = omega arith;
      within = omega (arith, c.if-from-half.false, c.from.ensures, c.requires.some);
      lie = omega (arith, long);
      whole = refl;
    } in
    subst (λ (n : ℕ). IsWithin start half snapshot c.new.result.items c.new-2.result.items (4 + n)) (sym c.from-2.ensures)
    (subst (λ (l : List Body). IsWithin start half snapshot c.new.result.items l (4 + count)) (sym c.new-2.ensures.items)
    (subst (λ (l : List ℕ). IsWithin start half snapshot l [] (4 + count)) (sym c.new.ensures.items) base))

pub read_batches-requires-clause-so_far : goal.read_batches-requires-clause-so_far
read_batches-requires-clause-so_far g c =
    let start : ℕ = c.args.start in
    let count : ℕ = c.in_ok-count.count in
    let told = g.G.Ground.told c.read_piece.new.device in
    let whole : ℕ = g.G.Ground.size c.read_piece.new.device in
    let snapshot : List ℕ = c.in_ok-snapshot.snapshot.items in
    let fits : start + 4 + count ≤ whole = omega (arith, c.if-from-half.false, c.from.ensures, c.requires.some, c.requires.inside, c.in_ok-count.ensures.same, c.in_ok-snapshot.ensures.same) in
    let base : Shows told (IsSoFar start snapshot [] [] (4 + count)) =
    begun_so_far start c.args.half count whole snapshot _ _ c.in_ok-count.ensures.word c.in_ok-snapshot.ensures.told c.in_ok-snapshot.ensures.octets c.in_ok-snapshot.ensures.length (g.G.Ground.sized c.read_piece.new.device) fits in
    subst (λ (n : ℕ). Shows told (IsSoFar start snapshot c.new.result.items c.new-2.result.items (4 + n))) (sym c.from-2.ensures)
    (subst (λ (l : List Body). Shows told (IsSoFar start snapshot c.new.result.items l (4 + count))) (sym c.new-2.ensures.items)
    (subst (λ (l : List ℕ). Shows told (IsSoFar start snapshot l [] (4 + count))) (sym c.new.ensures.items) base))

pub returns-in_err-read_batches-clause-damaged : goal.returns-in_err-read_batches-clause-damaged
returns-in_err-read_batches-clause-damaged g c =
    let told = g.G.Ground.told c.read_batches.new.device in
    let p = err_from_is_err_and c.from_residual-in_err-read_batches.result c.from_residual-in_err-read_batches.ensures.1 in
    rw p.1 (subst (λ (f : OpenFault). IsDamage told (λ at image. LeavesAt c.args.start (octets_at c.args.start c.args.half image) at) f) (sym p.2) c.in_err-read_batches.ensures.damaged)

pub returns-clause-read : goal.returns-clause-read
returns-clause-read g c =
    let told = g.G.Ground.told c.read_batches.new.device in
    let area = c.read_batches.new.area in
    let e = c.in_ok-read_batches.ensures in
    let o = c.opened_of.ensures in
    let content = content_in c.opened_of.result.0 in
    subst (λ (s : ℕ). Shows told (IsRead s c.args.half c.opened_of.result.1 content)) e.stays.0
    (subst (λ (h : ℕ). Shows told (IsRead area.start h c.opened_of.result.1 content)) e.stays.1.0
    (subst (λ (n : ℕ). Shows told (IsRead area.start area.half n content)) (sym o.next)
    (subst (λ (k : Content). Shows told (IsRead area.start area.half area.next k)) (opened_content area.snapshot.items area.batches.items area.bodies.items c.opened_of.result.0 o.snapshot o.batches o.bodies)
    (area_read area.start area.half area.next area.snapshot.items area.batches.items area.bodies.items _ e.so_far e.end))))

pub returns-clause-stand : goal.returns-clause-stand
returns-clause-stand g c =
    let area = c.read_batches.new.area in
    let e = c.in_ok-read_batches.ensures in
    let o = c.opened_of.ensures in
    area_stands area.start area.next area.snapshot.items area.batches.items area.bodies.items c.opened_of.result.0 _ e.so_far o.snapshot o.place o.batches o.bodies

pub returns-clause-laid : goal.returns-clause-laid
returns-clause-laid g c =
    let area = c.read_batches.new.area in
    let e = c.in_ok-read_batches.ensures in
    let o = c.opened_of.ensures in
    subst (λ (s : ℕ). IsLaid s (s + c.opened_of.result.1) c.opened_of.result.0) e.stays.0
    (subst (λ (n : ℕ). IsLaid area.start (area.start + n) c.opened_of.result.0) (sym o.next)
    (area_laid area.start area.half area.next area.snapshot.items area.batches.items area.bodies.items c.opened_of.result.0 e.within o.snapshot o.place o.batches o.bodies))

pub returns-clause-within : goal.returns-clause-within
returns-clause-within g c =
    let e = c.in_ok-read_batches.ensures in
    let o = c.opened_of.ensures in
    (omega (arith, o.next, e.within.behind), omega (arith, o.next, e.within.within, e.stays.1.0))
