use Rattle.std.proofs.Common.{◌≡◌, ◌+◌, [], ◌∷◌, length, arith, ap, subst, sym, ◌∙◌, List, ℕ, Ok, Err, IsTrue, Bool, false, true, inl, inr, refl, ◌≤◌}
use Rattle.std.proofs.lemmas.Result.{err_from_is_err_and}
use Rattle.ground_io.specs.Trace.{HasSize}
use Rattle.ground_io.specs.declared.entry.Entry.TheVariants.{Synced}
use Rattle.ground_io.specs.Disk.{octets_at}
use Rattle.ground_io.proofs.Crashes.{adds_both}
use Rattle.alarm_journal.specs.Journal.{Site, Content, nothing}
use Rattle.alarm_journal.specs.Opened.{StandsAt, LieBetween, content_in, found_at, pieces, sum_of}
use Rattle.alarm_journal.specs.declared.body.Body.{Body}
use Rattle.alarm_journal.specs.declared.opened.Opened.{Opened}
use Rattle.alarm_journal.proofs.Showing.{always_so}
use Rattle.alarm_journal.specs.Press.{Answers, Settled, Blank, Begun, IsOpening, start_of, WasBlank}
use Rattle.alarm_journal.specs.Protocol.{AddsSome}
use Rattle.alarm_journal.specs.declared.open_fault.OpenFault.{OpenFault}
use Rattle.alarm_journal.proofs.Reopening.{reopens, stays, blank_now, begun_now, formatting, small_answer, answers_then, answers_read, answers_blank, was_begun, was_blank, opening_cut, adds_those, at_most, may_format}
use Rattle.alarm_journal.proofs.open.open_device.Goals as goal

not_true : IsTrue false → ⊥
not_true is = cc

pub returns-in_err-size-clause-any_moment : goal.returns-in_err-size-clause-any_moment
returns-in_err-size-clause-any_moment g c =
    let site : Site = record { text = c.args.text.now; need = c.args.need } in
    let az = adds_both (g.G.Ground.told c.args.device.now) (g.G.Ground.told c.sync.new.self) (g.G.Ground.told c.size.new.self) (Synced ∷ []) [] c.in_ok-sync.ensures.synced c.in_err-size.ensures.told in
    let p = err_from_is_err_and c.from_residual-in_err-size.result c.from_residual-in_err-size.ensures.1 in
    rw p.1 (reopens site (g.G.Ground.told c.args.device.now) (g.G.Ground.told c.size.new.self) (stays site (g.G.Ground.told c.args.device.now) (g.G.Ground.told c.size.new.self) az))

pub returns-then-size-need-clause-answer : goal.returns-then-size-need-clause-answer
returns-then-size-need-clause-answer g c =
    let site : Site = record { text = c.args.text.now; need = c.args.need } in
    let az = adds_both (g.G.Ground.told c.args.device.now) (g.G.Ground.told c.sync.new.self) (g.G.Ground.told c.size.new.self) (Synced ∷ []) [] c.in_ok-sync.ensures.synced c.in_ok-size.ensures.told in
    let size_is : c.in_ok-size.size ≡ g.G.Ground.size c.args.device.now = c.in_ok-size.ensures.answer ∙ c.in_ok-sync.ensures.same in
    let whole : HasSize c.in_ok-size.size (g.G.Ground.told c.args.device.now) = subst (λ (n : ℕ). HasSize n (g.G.Ground.told c.args.device.now)) (sym size_is) (g.G.Ground.sized c.args.device.now) in
    small_answer site c.in_ok-size.size (g.G.Ground.told c.args.device.now) (g.G.Ground.told c.size.new.self) whole c.if-size-need.true az

pub returns-then-size-need-clause-any_moment : goal.returns-then-size-need-clause-any_moment
returns-then-size-need-clause-any_moment g c =
    let site : Site = record { text = c.args.text.now; need = c.args.need } in
    let az = adds_both (g.G.Ground.told c.args.device.now) (g.G.Ground.told c.sync.new.self) (g.G.Ground.told c.size.new.self) (Synced ∷ []) [] c.in_ok-sync.ensures.synced c.in_ok-size.ensures.told in
    reopens site (g.G.Ground.told c.args.device.now) (g.G.Ground.told c.size.new.self) (stays site (g.G.Ground.told c.args.device.now) (g.G.Ground.told c.size.new.self) az)

pub returns-in_err-begun-clause-any_moment : goal.returns-in_err-begun-clause-any_moment
returns-in_err-begun-clause-any_moment g c =
    let site : Site = record { text = c.args.text.now; need = c.args.need } in
    let az = adds_both (g.G.Ground.told c.args.device.now) (g.G.Ground.told c.sync.new.self) (g.G.Ground.told c.size.new.self) (Synced ∷ []) [] c.in_ok-sync.ensures.synced c.in_ok-size.ensures.told in
    let ar = adds_both (g.G.Ground.told c.args.device.now) (g.G.Ground.told c.size.new.self) (g.G.Ground.told c.read_gate.new.device) (Synced ∷ []) [] az c.in_err-begun.ensures.told in
    let p = err_from_is_err_and c.from_residual-in_err-begun.result c.from_residual-in_err-begun.ensures.1 in
    rw p.1 (reopens site (g.G.Ground.told c.args.device.now) (g.G.Ground.told c.read_gate.new.device) (stays site (g.G.Ground.told c.args.device.now) (g.G.Ground.told c.read_gate.new.device) ar))

pub returns-in_err-layout-clause-any_moment : goal.returns-in_err-layout-clause-any_moment
returns-in_err-layout-clause-any_moment g c =
    let site : Site = record { text = c.args.text.now; need = c.args.need } in
    let az = adds_both (g.G.Ground.told c.args.device.now) (g.G.Ground.told c.sync.new.self) (g.G.Ground.told c.size.new.self) (Synced ∷ []) [] c.in_ok-sync.ensures.synced c.in_ok-size.ensures.told in
    let ar = adds_both (g.G.Ground.told c.args.device.now) (g.G.Ground.told c.size.new.self) (g.G.Ground.told c.read_gate.new.device) (Synced ∷ []) [] az c.in_ok-begun.ensures.told in
    let ad = adds_both (g.G.Ground.told c.args.device.now) (g.G.Ground.told c.read_gate.new.device) (g.G.Ground.told c.read_journal.new.device) (Synced ∷ []) [] ar c.in_err-layout.ensures.told in
    let p = err_from_is_err_and c.from_residual-in_err-layout.result c.from_residual-in_err-layout.ensures.1 in
    rw p.1 (reopens site (g.G.Ground.told c.args.device.now) (g.G.Ground.told c.read_journal.new.device) (stays site (g.G.Ground.told c.args.device.now) (g.G.Ground.told c.read_journal.new.device) ad))

pub returns-in_err-layout-clause-answer : goal.returns-in_err-layout-clause-answer
returns-in_err-layout-clause-answer g c =
    let site : Site = record { text = c.args.text.now; need = c.args.need } in
    let az = adds_both (g.G.Ground.told c.args.device.now) (g.G.Ground.told c.sync.new.self) (g.G.Ground.told c.size.new.self) (Synced ∷ []) [] c.in_ok-sync.ensures.synced c.in_ok-size.ensures.told in
    let ar = adds_both (g.G.Ground.told c.args.device.now) (g.G.Ground.told c.size.new.self) (g.G.Ground.told c.read_gate.new.device) (Synced ∷ []) [] az c.in_ok-begun.ensures.told in
    let begun : Begun (g.G.Ground.told c.read_gate.new.device) = begun_now (g.G.Ground.told c.args.device.now) (g.G.Ground.told c.size.new.self) (g.G.Ground.told c.read_gate.new.device) _ az c.in_ok-begun.ensures.told c.in_ok-begun.ensures.open c.if-begun.true in
    let p = err_from_is_err_and c.from_residual-in_err-layout.result c.from_residual-in_err-layout.ensures.1 in
    rw p.1 (subst (λ (f : OpenFault). Answers site (g.G.Ground.told c.args.device.now) (g.G.Ground.told c.read_journal.new.device) (Err f)) (sym p.2) (answers_then site (g.G.Ground.told c.args.device.now) (g.G.Ground.told c.read_gate.new.device) (g.G.Ground.told c.read_journal.new.device) (Err c.in_err-layout.field-0.0) ar (c.in_err-layout.ensures.answer begun)))

pub returns-then-begun-clause-settled : goal.returns-then-begun-clause-settled
returns-then-begun-clause-settled g c =
    let az = adds_both (g.G.Ground.told c.args.device.now) (g.G.Ground.told c.sync.new.self) (g.G.Ground.told c.size.new.self) (Synced ∷ []) [] c.in_ok-sync.ensures.synced c.in_ok-size.ensures.told in
    let begun : Begun (g.G.Ground.told c.read_gate.new.device) = begun_now (g.G.Ground.told c.args.device.now) (g.G.Ground.told c.size.new.self) (g.G.Ground.told c.read_gate.new.device) _ az c.in_ok-begun.ensures.told c.in_ok-begun.ensures.open c.if-begun.true in
    c.in_ok-layout.ensures.settled begun

pub returns-then-begun-clause-answer : goal.returns-then-begun-clause-answer
returns-then-begun-clause-answer g c =
    let site : Site = record { text = c.args.text.now; need = c.args.need } in
    let az = adds_both (g.G.Ground.told c.args.device.now) (g.G.Ground.told c.sync.new.self) (g.G.Ground.told c.size.new.self) (Synced ∷ []) [] c.in_ok-sync.ensures.synced c.in_ok-size.ensures.told in
    let ar = adds_both (g.G.Ground.told c.args.device.now) (g.G.Ground.told c.size.new.self) (g.G.Ground.told c.read_gate.new.device) (Synced ∷ []) [] az c.in_ok-begun.ensures.told in
    let ad = adds_both (g.G.Ground.told c.args.device.now) (g.G.Ground.told c.read_gate.new.device) (g.G.Ground.told c.read_journal.new.device) (Synced ∷ []) [] ar c.in_ok-layout.ensures.told in
    let begun : Begun (g.G.Ground.told c.read_gate.new.device) = begun_now (g.G.Ground.told c.args.device.now) (g.G.Ground.told c.size.new.self) (g.G.Ground.told c.read_gate.new.device) _ az c.in_ok-begun.ensures.told c.in_ok-begun.ensures.open c.if-begun.true in
    answers_read site c.in_ok-layout.layout (g.G.Ground.size c.read_journal.new.device) (content_in c.in_ok-layout.opened) (g.G.Ground.told c.args.device.now) (g.G.Ground.told c.read_journal.new.device) c.in_ok-layout.ensures.sound ad (c.in_ok-layout.ensures.settled begun)

pub returns-then-begun-clause-fresh : goal.returns-then-begun-clause-fresh
returns-then-begun-clause-fresh g c =
    let az = adds_both (g.G.Ground.told c.args.device.now) (g.G.Ground.told c.sync.new.self) (g.G.Ground.told c.size.new.self) (Synced ∷ []) [] c.in_ok-sync.ensures.synced c.in_ok-size.ensures.told in
    let ar = adds_both (g.G.Ground.told c.args.device.now) (g.G.Ground.told c.size.new.self) (g.G.Ground.told c.read_gate.new.device) (Synced ∷ []) [] az c.in_ok-begun.ensures.told in
    let begun : Begun (g.G.Ground.told c.read_gate.new.device) = begun_now (g.G.Ground.told c.args.device.now) (g.G.Ground.told c.size.new.self) (g.G.Ground.told c.read_gate.new.device) _ az c.in_ok-begun.ensures.told c.in_ok-begun.ensures.open c.if-begun.true in
    subst (λ (b : Bool). WasBlank (g.G.Ground.told c.args.device.now) (g.G.Ground.told c.read_journal.new.device) b) (sym c.in_ok-layout.ensures.fresh)
    (was_begun (g.G.Ground.told c.args.device.now) (g.G.Ground.told c.read_gate.new.device) (g.G.Ground.told c.read_journal.new.device) ar begun c.in_ok-layout.ensures.told)

pub returns-then-begun-clause-any_moment : goal.returns-then-begun-clause-any_moment
returns-then-begun-clause-any_moment g c =
    let site : Site = record { text = c.args.text.now; need = c.args.need } in
    let az = adds_both (g.G.Ground.told c.args.device.now) (g.G.Ground.told c.sync.new.self) (g.G.Ground.told c.size.new.self) (Synced ∷ []) [] c.in_ok-sync.ensures.synced c.in_ok-size.ensures.told in
    let ar = adds_both (g.G.Ground.told c.args.device.now) (g.G.Ground.told c.size.new.self) (g.G.Ground.told c.read_gate.new.device) (Synced ∷ []) [] az c.in_ok-begun.ensures.told in
    let ad = adds_both (g.G.Ground.told c.args.device.now) (g.G.Ground.told c.read_gate.new.device) (g.G.Ground.told c.read_journal.new.device) (Synced ∷ []) [] ar c.in_ok-layout.ensures.told in
    stays site (g.G.Ground.told c.args.device.now) (g.G.Ground.told c.read_journal.new.device) ad

pub returns-in_err-layout-2-clause-any_moment : goal.returns-in_err-layout-2-clause-any_moment
returns-in_err-layout-2-clause-any_moment g c =
    let site : Site = record { text = c.args.text.now; need = c.args.need } in
    let az = adds_both (g.G.Ground.told c.args.device.now) (g.G.Ground.told c.sync.new.self) (g.G.Ground.told c.size.new.self) (Synced ∷ []) [] c.in_ok-sync.ensures.synced c.in_ok-size.ensures.told in
    let ar = adds_both (g.G.Ground.told c.args.device.now) (g.G.Ground.told c.size.new.self) (g.G.Ground.told c.read_gate.new.device) (Synced ∷ []) [] az c.in_ok-begun.ensures.told in
    let blank : Blank (g.G.Ground.told c.read_gate.new.device) = blank_now (g.G.Ground.told c.args.device.now) (g.G.Ground.told c.size.new.self) (g.G.Ground.told c.read_gate.new.device) _ az c.in_ok-begun.ensures.told c.in_ok-begun.ensures.open (λ is. not_true (sym c.if-begun.false ∙ is)) in
    let size_is : c.in_ok-size.size ≡ g.G.Ground.size c.args.device.now = c.in_ok-size.ensures.answer ∙ c.in_ok-sync.ensures.same in
    let whole : HasSize c.in_ok-size.size (g.G.Ground.told c.args.device.now) = subst (λ (n : ℕ). HasSize n (g.G.Ground.told c.args.device.now)) (sym size_is) (g.G.Ground.sized c.args.device.now) in
    let p = err_from_is_err_and c.from_residual-in_err-layout-2.result c.from_residual-in_err-layout-2.ensures.1 in
    rw p.1 (reopens site (g.G.Ground.told c.args.device.now) (g.G.Ground.told c.format.new.device) (formatting site c.in_ok-size.size (g.G.Ground.told c.args.device.now) (g.G.Ground.told c.read_gate.new.device) (g.G.Ground.told c.format.new.device) whole c.if-size-need.false ar blank (c.in_err-layout-2.ensures.any_moment blank)))

pub returns-in_err-layout-2-clause-writes : goal.returns-in_err-layout-2-clause-writes
returns-in_err-layout-2-clause-writes g c =
    let az = adds_both (g.G.Ground.told c.args.device.now) (g.G.Ground.told c.sync.new.self) (g.G.Ground.told c.size.new.self) (Synced ∷ []) [] c.in_ok-sync.ensures.synced c.in_ok-size.ensures.told in
    let ar = adds_both (g.G.Ground.told c.args.device.now) (g.G.Ground.told c.size.new.self) (g.G.Ground.told c.read_gate.new.device) (Synced ∷ []) [] az c.in_ok-begun.ensures.told in
    let size_is : c.in_ok-size.size ≡ g.G.Ground.size c.args.device.now = c.in_ok-size.ensures.answer ∙ c.in_ok-sync.ensures.same in
    let whole : HasSize c.in_ok-size.size (g.G.Ground.told c.args.device.now) = subst (λ (n : ℕ). HasSize n (g.G.Ground.told c.args.device.now)) (sym size_is) (g.G.Ground.sized c.args.device.now) in
    subst (λ (n : ℕ). AddsSome (IsOpening c.args.text.now n) (g.G.Ground.told c.args.device.now) (g.G.Ground.told c.format.new.device)) size_is (opening_cut c.args.text.now c.in_ok-size.size (g.G.Ground.told c.args.device.now) (g.G.Ground.told c.read_gate.new.device) (g.G.Ground.told c.format.new.device) ar c.in_err-layout-2.ensures.cut_short)

pub returns-clause-settled : goal.returns-clause-settled
returns-clause-settled g c =
    let site : Site = record { text = c.args.text.now; need = c.args.need } in
    let az = adds_both (g.G.Ground.told c.args.device.now) (g.G.Ground.told c.sync.new.self) (g.G.Ground.told c.size.new.self) (Synced ∷ []) [] c.in_ok-sync.ensures.synced c.in_ok-size.ensures.told in
    let blank : Blank (g.G.Ground.told c.read_gate.new.device) = blank_now (g.G.Ground.told c.args.device.now) (g.G.Ground.told c.size.new.self) (g.G.Ground.told c.read_gate.new.device) _ az c.in_ok-begun.ensures.told c.in_ok-begun.ensures.open (λ is. not_true (sym c.if-begun.false ∙ is)) in
    let none : (let k : Content = record { snapshot = c.of.result; bodies = pieces c.of-3.result c.of-2.result } in k) ≡ nothing = λ i. record { snapshot = (c.of.ensures.same ∙ c.new.ensures.items) i; bodies = pieces ((c.of-3.ensures.same ∙ c.new-3.ensures.items) i) c.of-2.result } in
    subst (λ (k : Content). Settled site c.in_ok-layout-2.layout (g.G.Ground.told c.format.new.device) k) (sym none) (c.in_ok-layout-2.ensures.formatted blank)

pub returns-clause-answer : goal.returns-clause-answer
returns-clause-answer g c =
    let site : Site = record { text = c.args.text.now; need = c.args.need } in
    let az = adds_both (g.G.Ground.told c.args.device.now) (g.G.Ground.told c.sync.new.self) (g.G.Ground.told c.size.new.self) (Synced ∷ []) [] c.in_ok-sync.ensures.synced c.in_ok-size.ensures.told in
    let ar = adds_both (g.G.Ground.told c.args.device.now) (g.G.Ground.told c.size.new.self) (g.G.Ground.told c.read_gate.new.device) (Synced ∷ []) [] az c.in_ok-begun.ensures.told in
    let blank : Blank (g.G.Ground.told c.read_gate.new.device) = blank_now (g.G.Ground.told c.args.device.now) (g.G.Ground.told c.size.new.self) (g.G.Ground.told c.read_gate.new.device) _ az c.in_ok-begun.ensures.told c.in_ok-begun.ensures.open (λ is. not_true (sym c.if-begun.false ∙ is)) in
    let size_is : c.in_ok-size.size ≡ g.G.Ground.size c.args.device.now = c.in_ok-size.ensures.answer ∙ c.in_ok-sync.ensures.same in
    let whole : HasSize c.in_ok-size.size (g.G.Ground.told c.args.device.now) = subst (λ (n : ℕ). HasSize n (g.G.Ground.told c.args.device.now)) (sym size_is) (g.G.Ground.sized c.args.device.now) in
    let none : (let k : Content = record { snapshot = c.of.result; bodies = pieces c.of-3.result c.of-2.result } in k) ≡ nothing = λ i. record { snapshot = (c.of.ensures.same ∙ c.new.ensures.items) i; bodies = pieces ((c.of-3.ensures.same ∙ c.new-3.ensures.items) i) c.of-2.result } in
    subst (λ (k : Content). Answers site (g.G.Ground.told c.args.device.now) (g.G.Ground.told c.format.new.device) (Ok k)) (sym none) (answers_blank site c.in_ok-size.size (g.G.Ground.told c.args.device.now) (g.G.Ground.told c.read_gate.new.device) (g.G.Ground.told c.format.new.device) _ whole c.if-size-need.false ar blank c.in_ok-layout-2.ensures.wrote)

pub returns-clause-fresh : goal.returns-clause-fresh
returns-clause-fresh g c =
    let az = adds_both (g.G.Ground.told c.args.device.now) (g.G.Ground.told c.sync.new.self) (g.G.Ground.told c.size.new.self) (Synced ∷ []) [] c.in_ok-sync.ensures.synced c.in_ok-size.ensures.told in
    let ar = adds_both (g.G.Ground.told c.args.device.now) (g.G.Ground.told c.size.new.self) (g.G.Ground.told c.read_gate.new.device) (Synced ∷ []) [] az c.in_ok-begun.ensures.told in
    let blank : Blank (g.G.Ground.told c.read_gate.new.device) = blank_now (g.G.Ground.told c.args.device.now) (g.G.Ground.told c.size.new.self) (g.G.Ground.told c.read_gate.new.device) _ az c.in_ok-begun.ensures.told c.in_ok-begun.ensures.open (λ is. not_true (sym c.if-begun.false ∙ is)) in
    was_blank (g.G.Ground.told c.args.device.now) (g.G.Ground.told c.read_gate.new.device) (g.G.Ground.told c.format.new.device) _ ar blank c.in_ok-layout-2.ensures.wrote

pub returns-clause-any_moment : goal.returns-clause-any_moment
returns-clause-any_moment g c =
    let site : Site = record { text = c.args.text.now; need = c.args.need } in
    let az = adds_both (g.G.Ground.told c.args.device.now) (g.G.Ground.told c.sync.new.self) (g.G.Ground.told c.size.new.self) (Synced ∷ []) [] c.in_ok-sync.ensures.synced c.in_ok-size.ensures.told in
    let ar = adds_both (g.G.Ground.told c.args.device.now) (g.G.Ground.told c.size.new.self) (g.G.Ground.told c.read_gate.new.device) (Synced ∷ []) [] az c.in_ok-begun.ensures.told in
    let blank : Blank (g.G.Ground.told c.read_gate.new.device) = blank_now (g.G.Ground.told c.args.device.now) (g.G.Ground.told c.size.new.self) (g.G.Ground.told c.read_gate.new.device) _ az c.in_ok-begun.ensures.told c.in_ok-begun.ensures.open (λ is. not_true (sym c.if-begun.false ∙ is)) in
    let size_is : c.in_ok-size.size ≡ g.G.Ground.size c.args.device.now = c.in_ok-size.ensures.answer ∙ c.in_ok-sync.ensures.same in
    let whole : HasSize c.in_ok-size.size (g.G.Ground.told c.args.device.now) = subst (λ (n : ℕ). HasSize n (g.G.Ground.told c.args.device.now)) (sym size_is) (g.G.Ground.sized c.args.device.now) in
    formatting site c.in_ok-size.size (g.G.Ground.told c.args.device.now) (g.G.Ground.told c.read_gate.new.device) (g.G.Ground.told c.format.new.device) whole c.if-size-need.false ar blank (c.in_ok-layout-2.ensures.any_moment blank)

pub returns-clause-empty : goal.returns-clause-empty
returns-clause-empty g c = λ _. λ i. record { snapshot = (c.of.ensures.same ∙ c.new.ensures.items) i; bodies = pieces ((c.of-3.ensures.same ∙ c.new-3.ensures.items) i) c.of-2.result }

pub returns-clause-laid : goal.returns-clause-laid
returns-clause-laid g c =
    let none : c.of.result ≡ [] = c.of.ensures.same ∙ c.new.ensures.items in
    let no_octets : c.of-2.result ≡ [] = c.of-2.ensures.same ∙ c.new-2.ensures.items in
    let no_bodies : c.of-3.result ≡ [] = c.of-3.ensures.same ∙ c.new-3.ensures.items in
    let next = c.in_ok-layout-2.ensures.next in
    record {
      snapshot = next;
      bodies = subst (λ (l : List Body). LieBetween (start_of c.in_ok-layout-2.layout + 4 + length c.of.result) l c.in_ok-layout-2.layout.next) (sym no_bodies) (omega (arith, next, ap length none));
      whole = ap sum_of no_bodies ∙ ap length (sym no_octets);
    }

pub returns-clause-stand : goal.returns-clause-stand
returns-clause-stand g c =
    let none : c.of.result ≡ [] = c.of.ensures.same ∙ c.new.ensures.items in
    let no_bodies : c.of-3.result ≡ [] = c.of-3.ensures.same ∙ c.new-3.ensures.items in
    let opened : Opened = record { fresh = true; snapshot = c.of.result; snapshot_place = c.in_ok-layout-2.layout.next; batches = c.of-2.result; bodies = c.of-3.result } in
    always_so (StandsAt opened) _ (λ image. record {
      snapshot = ap (λ (l : List ℕ). octets_at c.in_ok-layout-2.layout.next (length l) image) none ∙ sym none;
      bodies = ap (found_at image) no_bodies ∙ ap (λ (l : List Body). pieces l c.of-2.result) (sym no_bodies);
    })

pub returns-in_err-size-clause-formats : goal.returns-in_err-size-clause-formats
returns-in_err-size-clause-formats g c =
    let az = adds_both (g.G.Ground.told c.args.device.now) (g.G.Ground.told c.sync.new.self) (g.G.Ground.told c.size.new.self) (Synced ∷ []) [] c.in_ok-sync.ensures.synced c.in_err-size.ensures.told in
    inr (at_most (Synced ∷ []) (g.G.Ground.told c.args.device.now) (g.G.Ground.told c.size.new.self) (inr refl) az)

pub returns-then-size-need-clause-formats : goal.returns-then-size-need-clause-formats
returns-then-size-need-clause-formats g c =
    let az = adds_both (g.G.Ground.told c.args.device.now) (g.G.Ground.told c.sync.new.self) (g.G.Ground.told c.size.new.self) (Synced ∷ []) [] c.in_ok-sync.ensures.synced c.in_ok-size.ensures.told in
    inr (at_most (Synced ∷ []) (g.G.Ground.told c.args.device.now) (g.G.Ground.told c.size.new.self) (inr refl) az)

pub returns-then-size-need-clause-refused : goal.returns-then-size-need-clause-refused
returns-then-size-need-clause-refused g c =
    let az = adds_both (g.G.Ground.told c.args.device.now) (g.G.Ground.told c.sync.new.self) (g.G.Ground.told c.size.new.self) (Synced ∷ []) [] c.in_ok-sync.ensures.synced c.in_ok-size.ensures.told in
    λ _. az

pub returns-in_err-begun-clause-formats : goal.returns-in_err-begun-clause-formats
returns-in_err-begun-clause-formats g c =
    let az = adds_both (g.G.Ground.told c.args.device.now) (g.G.Ground.told c.sync.new.self) (g.G.Ground.told c.size.new.self) (Synced ∷ []) [] c.in_ok-sync.ensures.synced c.in_ok-size.ensures.told in
    let ar = adds_both (g.G.Ground.told c.args.device.now) (g.G.Ground.told c.size.new.self) (g.G.Ground.told c.read_gate.new.device) (Synced ∷ []) [] az c.in_err-begun.ensures.told in
    inr (at_most (Synced ∷ []) (g.G.Ground.told c.args.device.now) (g.G.Ground.told c.read_gate.new.device) (inr refl) ar)

pub returns-in_err-layout-clause-formats : goal.returns-in_err-layout-clause-formats
returns-in_err-layout-clause-formats g c =
    let az = adds_both (g.G.Ground.told c.args.device.now) (g.G.Ground.told c.sync.new.self) (g.G.Ground.told c.size.new.self) (Synced ∷ []) [] c.in_ok-sync.ensures.synced c.in_ok-size.ensures.told in
    let ar = adds_both (g.G.Ground.told c.args.device.now) (g.G.Ground.told c.size.new.self) (g.G.Ground.told c.read_gate.new.device) (Synced ∷ []) [] az c.in_ok-begun.ensures.told in
    let ad = adds_both (g.G.Ground.told c.args.device.now) (g.G.Ground.told c.read_gate.new.device) (g.G.Ground.told c.read_journal.new.device) (Synced ∷ []) [] ar c.in_err-layout.ensures.told in
    inr (at_most (Synced ∷ []) (g.G.Ground.told c.args.device.now) (g.G.Ground.told c.read_journal.new.device) (inr refl) ad)

pub returns-then-begun-clause-formats : goal.returns-then-begun-clause-formats
returns-then-begun-clause-formats g c =
    let az = adds_both (g.G.Ground.told c.args.device.now) (g.G.Ground.told c.sync.new.self) (g.G.Ground.told c.size.new.self) (Synced ∷ []) [] c.in_ok-sync.ensures.synced c.in_ok-size.ensures.told in
    let ar = adds_both (g.G.Ground.told c.args.device.now) (g.G.Ground.told c.size.new.self) (g.G.Ground.told c.read_gate.new.device) (Synced ∷ []) [] az c.in_ok-begun.ensures.told in
    let ad = adds_both (g.G.Ground.told c.args.device.now) (g.G.Ground.told c.read_gate.new.device) (g.G.Ground.told c.read_journal.new.device) (Synced ∷ []) [] ar c.in_ok-layout.ensures.told in
    inr (at_most (Synced ∷ []) (g.G.Ground.told c.args.device.now) (g.G.Ground.told c.read_journal.new.device) (inr refl) ad)

pub returns-then-begun-clause-begun : goal.returns-then-begun-clause-begun
returns-then-begun-clause-begun g c =
    let az = adds_both (g.G.Ground.told c.args.device.now) (g.G.Ground.told c.sync.new.self) (g.G.Ground.told c.size.new.self) (Synced ∷ []) [] c.in_ok-sync.ensures.synced c.in_ok-size.ensures.told in
    let ar = adds_both (g.G.Ground.told c.args.device.now) (g.G.Ground.told c.size.new.self) (g.G.Ground.told c.read_gate.new.device) (Synced ∷ []) [] az c.in_ok-begun.ensures.told in
    let ad = adds_both (g.G.Ground.told c.args.device.now) (g.G.Ground.told c.read_gate.new.device) (g.G.Ground.told c.read_journal.new.device) (Synced ∷ []) [] ar c.in_ok-layout.ensures.told in
    λ _. ad

pub returns-in_err-layout-clause-refused : goal.returns-in_err-layout-clause-refused
returns-in_err-layout-clause-refused g c =
    let az = adds_both (g.G.Ground.told c.args.device.now) (g.G.Ground.told c.sync.new.self) (g.G.Ground.told c.size.new.self) (Synced ∷ []) [] c.in_ok-sync.ensures.synced c.in_ok-size.ensures.told in
    let ar = adds_both (g.G.Ground.told c.args.device.now) (g.G.Ground.told c.size.new.self) (g.G.Ground.told c.read_gate.new.device) (Synced ∷ []) [] az c.in_ok-begun.ensures.told in
    let ad = adds_both (g.G.Ground.told c.args.device.now) (g.G.Ground.told c.read_gate.new.device) (g.G.Ground.told c.read_journal.new.device) (Synced ∷ []) [] ar c.in_err-layout.ensures.told in
    let p = err_from_is_err_and c.from_residual-in_err-layout.result c.from_residual-in_err-layout.ensures.1 in
    rw p.1 (λ _. ad)

pub returns-in_err-layout-2-clause-formats : goal.returns-in_err-layout-2-clause-formats
returns-in_err-layout-2-clause-formats g c =
    let az = adds_both (g.G.Ground.told c.args.device.now) (g.G.Ground.told c.sync.new.self) (g.G.Ground.told c.size.new.self) (Synced ∷ []) [] c.in_ok-sync.ensures.synced c.in_ok-size.ensures.told in
    let ar = adds_both (g.G.Ground.told c.args.device.now) (g.G.Ground.told c.size.new.self) (g.G.Ground.told c.read_gate.new.device) (Synced ∷ []) [] az c.in_ok-begun.ensures.told in
    let blank : Blank (g.G.Ground.told c.read_gate.new.device) = blank_now (g.G.Ground.told c.args.device.now) (g.G.Ground.told c.size.new.self) (g.G.Ground.told c.read_gate.new.device) _ az c.in_ok-begun.ensures.told c.in_ok-begun.ensures.open (λ is. not_true (sym c.if-begun.false ∙ is)) in
    let size_is : c.in_ok-size.size ≡ g.G.Ground.size c.args.device.now = c.in_ok-size.ensures.answer ∙ c.in_ok-sync.ensures.same in
    let fits : c.args.need ≤ g.G.Ground.size c.args.device.now = omega (arith, c.if-size-need.false, size_is) in
    inl (may_format _ c.args.need _ (g.G.Ground.told c.args.device.now) (g.G.Ground.told c.read_gate.new.device) (g.G.Ground.told c.format.new.device) fits ar blank c.in_err-layout-2.ensures.cut_short)

pub returns-clause-formats : goal.returns-clause-formats
returns-clause-formats g c =
    let az = adds_both (g.G.Ground.told c.args.device.now) (g.G.Ground.told c.sync.new.self) (g.G.Ground.told c.size.new.self) (Synced ∷ []) [] c.in_ok-sync.ensures.synced c.in_ok-size.ensures.told in
    let ar = adds_both (g.G.Ground.told c.args.device.now) (g.G.Ground.told c.size.new.self) (g.G.Ground.told c.read_gate.new.device) (Synced ∷ []) [] az c.in_ok-begun.ensures.told in
    let blank : Blank (g.G.Ground.told c.read_gate.new.device) = blank_now (g.G.Ground.told c.args.device.now) (g.G.Ground.told c.size.new.self) (g.G.Ground.told c.read_gate.new.device) _ az c.in_ok-begun.ensures.told c.in_ok-begun.ensures.open (λ is. not_true (sym c.if-begun.false ∙ is)) in
    let size_is : c.in_ok-size.size ≡ g.G.Ground.size c.args.device.now = c.in_ok-size.ensures.answer ∙ c.in_ok-sync.ensures.same in
    let fits : c.args.need ≤ g.G.Ground.size c.args.device.now = omega (arith, c.if-size-need.false, size_is) in
    inl (may_format _ c.args.need (λ _. Unit {0}) (g.G.Ground.told c.args.device.now) (g.G.Ground.told c.read_gate.new.device) (g.G.Ground.told c.format.new.device) fits ar blank (adds_those _ (g.G.Ground.told c.read_gate.new.device) (g.G.Ground.told c.format.new.device) c.in_ok-layout-2.ensures.wrote))
