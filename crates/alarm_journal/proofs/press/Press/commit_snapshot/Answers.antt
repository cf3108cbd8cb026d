use Rattle.std.proofs.Common.{◌≡◌, ◌+◌, ◌-◌, ◌<◌, ◌≤◌, ◌^◌, ◌∷◌, [], length, arith, ap, subst, sym, ◌∙◌, List, ℕ}
use Rattle.ground_io.specs.Trace.{Adds}
use Rattle.alarm_journal.specs.Journal.{Site, Content, framed, only_snapshot}
use Rattle.alarm_journal.specs.Press.{Settled, Between, IsSound, behind_snapshot, other_of, selector_of, PressState}
use Rattle.alarm_journal.specs.Protocol.{AddsSome, IsTwoCutShort, two_writes}
use Rattle.alarm_journal.specs.Underway.{MayWrite, MayWriteBehind}
use Rattle.alarm_journal.specs.declared.change.Change.{Change}
use Rattle.alarm_journal.specs.declared.change.Change.TheVariants.{Snapshot}
use Rattle.alarm_journal.specs.declared.layout.Layout.{Layout}
use Rattle.alarm_journal.proofs.Rest.{lasts, sound_snapshot}
use Rattle.alarm_journal.proofs.TwoWrites.{cut_short, done, ended}
use Rattle.alarm_journal.proofs.Snapshots.{ready, committed}
use Rattle.alarm_journal.proofs.Underways.{snapshot_first, snapshot_second}
use Rattle.alarm_journal.proofs.press.Press.commit_snapshot.Goals as goal

few : (n : ℕ) → n < 36000000 → n < 2 ^ 32
few n h = omega arith

pub write_both-requires-clause-underway : goal.write_both-requires-clause-underway
write_both-requires-clause-underway g c =
    let x = c.self.inside in
    let fits : length c.args.job.now + 5 ≤ x.layout.half = subst (λ (s : PressState _). length c.args.job.now + 5 ≤ s.layout.half) (sym c.self.view_is) c.requires.fits in
    let small = few (length c.args.job.now) c.framed-octets.ensures.few in
    let told = g.G.Ground.told x.device in
    subst (λ (change : Change). MayWrite change c.other_start-place.result c.framed-octets.result.now told) (sym c.snapshot-change.ensures.made)
    (subst (λ (p : ℕ). MayWrite (Snapshot x.layout c.args.job) p c.framed-octets.result.now told) (sym c.other_start-place.ensures.start)
    (subst (λ (l : List ℕ). MayWrite (Snapshot x.layout c.args.job) (other_of x.layout) l told) (sym c.framed-octets.ensures.framed)
    (snapshot_first x.layout c.args.job (g.G.Ground.size x.device) c.self.invariant small fits told (g.G.Ground.sized x.device))))

pub write_both-requires-clause-behind : goal.write_both-requires-clause-behind
write_both-requires-clause-behind g c =
    let x = c.self.inside in
    let fits : length c.args.job.now + 5 ≤ x.layout.half = subst (λ (s : PressState _). length c.args.job.now + 5 ≤ s.layout.half) (sym c.self.view_is) c.requires.fits in
    let small = few (length c.args.job.now) c.framed-octets.ensures.few in
    let told = g.G.Ground.told x.device in
    let P : ℕ → List ℕ → ℕ → Type 0 = λ p l s. MayWriteBehind (Snapshot x.layout c.args.job) p l (x.layout.areas - 1) (s ∷ []) told in
    subst (λ (change : Change). MayWriteBehind change c.other_start-place.result c.framed-octets.result.now (x.layout.areas - 1) (c.other_selector-selector.result ∷ []) told) (sym c.snapshot-change.ensures.made)
    (subst (λ (p : ℕ). P p c.framed-octets.result.now c.other_selector-selector.result) (sym c.other_start-place.ensures.start)
    (subst (λ (l : List ℕ). P (other_of x.layout) l c.other_selector-selector.result) (sym c.framed-octets.ensures.framed)
    (subst (λ (s : ℕ). P (other_of x.layout) (framed c.args.job.now) s) (sym c.other_selector-selector.ensures.selector)
    (snapshot_second x.layout c.args.job (g.G.Ground.size x.device) c.self.invariant small fits told (g.G.Ground.sized x.device)))))

pub returns-in-Err-clause-any_moment : goal.returns-in-Err-clause-any_moment
returns-in-Err-clause-any_moment g c =
    let x = c.self.inside in
    let body : List ℕ = c.args.job.now in
    let fits : length body + 5 ≤ x.layout.half = subst (λ (s : PressState _). length body + 5 ≤ s.layout.half) (sym c.self.view_is) c.requires.fits in
    let small = few (length body) c.framed-octets.ensures.few in
    let P : ℕ → List ℕ → ℕ → Type 0 = λ p l s. AddsSome (IsTwoCutShort p l (x.layout.areas - 1) (s ∷ [])) (g.G.Ground.told x.device) (g.G.Ground.told c.write_both.new.device) in
    let cut : P (other_of x.layout) (framed body) (selector_of x.layout) =
    subst (P (other_of x.layout) (framed body)) c.other_selector-selector.ensures.selector (subst (λ (p : ℕ). P p (framed body) c.other_selector-selector.result) c.other_start-place.ensures.start
    (subst (λ (l : List ℕ). P c.other_start-place.result l c.other_selector-selector.result) c.framed-octets.ensures.framed c.in-Err.ensures.cut_short)) in
    subst (λ (s : PressState _). (site : Site) (content : Content) → Settled site s.layout (g.G.Ground.told s.device) content → Between site content (only_snapshot body) (g.G.Ground.told s.device) (g.G.Ground.told c.write_both.new.device)) c.self.view_is
    (λ site content settled. cut_short _ (other_of x.layout) (framed body) (x.layout.areas - 1) (selector_of x.layout ∷ []) _ _ (ready site x.layout content body (g.G.Ground.size x.device) c.self.invariant small fits _ (g.G.Ground.sized x.device) settled) cut)

pub returns-clause-any_moment : goal.returns-clause-any_moment
returns-clause-any_moment g c =
    let x = c.self.inside in
    let body : List ℕ = c.args.job.now in
    let fits : length body + 5 ≤ x.layout.half = subst (λ (s : PressState _). length body + 5 ≤ s.layout.half) (sym c.self.view_is) c.requires.fits in
    let small = few (length body) c.framed-octets.ensures.few in
    let P : ℕ → List ℕ → ℕ → Type 0 = λ p l s. Adds (g.G.Ground.told x.device) (g.G.Ground.told c.write_both.new.device) (two_writes p l (x.layout.areas - 1) (s ∷ [])) in
    let wrote : P (other_of x.layout) (framed body) (selector_of x.layout) =
    subst (P (other_of x.layout) (framed body)) c.other_selector-selector.ensures.selector (subst (λ (p : ℕ). P p (framed body) c.other_selector-selector.result) c.other_start-place.ensures.start
    (subst (λ (l : List ℕ). P c.other_start-place.result l c.other_selector-selector.result) c.framed-octets.ensures.framed c.in_default.ensures.wrote)) in
    subst (λ (s : PressState _). (site : Site) (content : Content) → Settled site s.layout (g.G.Ground.told s.device) content → Between site content (only_snapshot body) (g.G.Ground.told s.device) (g.G.Ground.told c.write_both.new.device)) c.self.view_is
    (λ site content settled. done _ (other_of x.layout) (framed body) (x.layout.areas - 1) (selector_of x.layout ∷ []) _ _ (ready site x.layout content body (g.G.Ground.size x.device) c.self.invariant small fits _ (g.G.Ground.sized x.device) settled) wrote)

pub returns-clause-settled : goal.returns-clause-settled
returns-clause-settled g c =
    let x = c.self.inside in
    let body : List ℕ = c.args.job.now in
    let fits : length body + 5 ≤ x.layout.half = subst (λ (s : PressState _). length body + 5 ≤ s.layout.half) (sym c.self.view_is) c.requires.fits in
    let small = few (length body) c.framed-octets.ensures.few in
    let P : ℕ → List ℕ → ℕ → Type 0 = λ p l s. Adds (g.G.Ground.told x.device) (g.G.Ground.told c.write_both.new.device) (two_writes p l (x.layout.areas - 1) (s ∷ [])) in
    let wrote : P (other_of x.layout) (framed body) (selector_of x.layout) =
    subst (P (other_of x.layout) (framed body)) c.other_selector-selector.ensures.selector (subst (λ (p : ℕ). P p (framed body) c.other_selector-selector.result) c.other_start-place.ensures.start
    (subst (λ (l : List ℕ). P c.other_start-place.result l c.other_selector-selector.result) c.framed-octets.ensures.framed c.in_default.ensures.wrote)) in
    let count : length c.framed-octets.result.now - 5 ≡ length body = omega (arith, c.framed-octets.ensures.length) in
    let layout : c.behind_snapshot-layout.result ≡ behind_snapshot x.layout (length body) = c.behind_snapshot-layout.ensures.behind ∙ ap (behind_snapshot x.layout) count in
    subst (λ (s : PressState _). (site : Site) (content : Content) → Settled site s.layout (g.G.Ground.told s.device) content → Settled site c.behind_snapshot-layout.result (g.G.Ground.told c.write_both.new.device) (only_snapshot body)) c.self.view_is
    (λ site content settled. subst (λ (l : Layout). Settled site l (g.G.Ground.told c.write_both.new.device) (only_snapshot body)) (sym layout)
    (committed site x.layout content body (g.G.Ground.size x.device) c.self.invariant small fits _ _ (g.G.Ground.sized x.device) (ended (λ _. ⊥) (other_of x.layout) (framed body) (x.layout.areas - 1) (selector_of x.layout ∷ []) _ _ wrote) settled))

pub returns-clause-lasts : goal.returns-clause-lasts
returns-clause-lasts g c =
    let x = c.self.inside in
    let body : List ℕ = c.args.job.now in
    let fits : length body + 5 ≤ x.layout.half = subst (λ (s : PressState _). length body + 5 ≤ s.layout.half) (sym c.self.view_is) c.requires.fits in
    let count : length c.framed-octets.result.now - 5 ≡ length body = omega (arith, c.framed-octets.ensures.length) in
    let layout : c.behind_snapshot-layout.result ≡ behind_snapshot x.layout (length body) = c.behind_snapshot-layout.ensures.behind ∙ ap (behind_snapshot x.layout) count in
    let sound = subst (λ (l : Layout). IsSound (g.G.Ground.size x.device) l) (sym layout) (sound_snapshot (g.G.Ground.size x.device) x.layout (length body) c.self.invariant fits) in
    λ site content settled. lasts site c.behind_snapshot-layout.result _ (only_snapshot body) (g.G.Ground.size x.device) sound (returns-clause-settled g c site content settled)
