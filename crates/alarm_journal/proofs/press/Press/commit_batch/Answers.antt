use Rattle.std.proofs.Common.{◌≡◌, ◌+◌, ◌-◌, ◌<◌, ◌≤◌, ◌^◌, ◌∷◌, [], length, arith, ap, subst, sym, ◌∙◌, List, ℕ}
use Rattle.ground_io.specs.Trace.{Adds}
use Rattle.alarm_journal.specs.Journal.{Site, Content, framed, with_batch}
use Rattle.alarm_journal.specs.Press.{Settled, Between, IsSound, behind_batch, end_of, room_of, PressState}
use Rattle.alarm_journal.specs.Protocol.{AddsSome, IsTwoCutShort, two_writes}
use Rattle.alarm_journal.specs.Underway.{MayWrite, MayWriteBehind}
use Rattle.alarm_journal.specs.declared.change.Change.{Change}
use Rattle.alarm_journal.specs.declared.change.Change.TheVariants.{Batch}
use Rattle.alarm_journal.specs.declared.layout.Layout.{Layout}
use Rattle.alarm_journal.proofs.Rest.{lasts, sound_batch}
use Rattle.alarm_journal.proofs.TwoWrites.{cut_short, done, ended}
use Rattle.alarm_journal.proofs.Committing.{ready, committed}
use Rattle.alarm_journal.proofs.Underways.{batch_first, batch_second}
use Rattle.alarm_journal.proofs.press.Press.commit_batch.Goals as goal

few : (n : ℕ) → n < 36000000 → n < 2 ^ 32
few n h = omega arith

room : (n next end : ℕ) → 0 < n → n ≤ end - next - 6 → next + n + 6 ≤ end
room n next end some fits = omega arith

pub write_both-requires-clause-underway : goal.write_both-requires-clause-underway
write_both-requires-clause-underway g c =
    let x = c.self.inside in
    let fits : length c.args.job.now ≤ room_of x.layout = subst (λ (s : PressState _). length c.args.job.now ≤ room_of s.layout) (sym c.self.view_is) c.requires.fits in
    let fit = room (length c.args.job.now) x.layout.next (end_of x.layout) c.requires.some fits in
    let small = few (length c.args.job.now) c.framed-octets.ensures.few in
    subst (λ (change : Change). MayWrite change (x.layout.next + 1) c.framed-octets.result.now (g.G.Ground.told x.device)) (sym c.batch-change.ensures.made)
    (subst (λ (l : List ℕ). MayWrite (Batch x.layout c.args.job) (x.layout.next + 1) l (g.G.Ground.told x.device)) (sym c.framed-octets.ensures.framed)
    (batch_first x.layout c.args.job (g.G.Ground.size x.device) c.self.invariant small fit _ (g.G.Ground.sized x.device)))

pub write_both-requires-clause-behind : goal.write_both-requires-clause-behind
write_both-requires-clause-behind g c =
    let x = c.self.inside in
    let fits : length c.args.job.now ≤ room_of x.layout = subst (λ (s : PressState _). length c.args.job.now ≤ room_of s.layout) (sym c.self.view_is) c.requires.fits in
    let fit = room (length c.args.job.now) x.layout.next (end_of x.layout) c.requires.some fits in
    let small = few (length c.args.job.now) c.framed-octets.ensures.few in
    subst (λ (change : Change). MayWriteBehind change (x.layout.next + 1) c.framed-octets.result.now x.layout.next (1 ∷ []) (g.G.Ground.told x.device)) (sym c.batch-change.ensures.made)
    (subst (λ (l : List ℕ). MayWriteBehind (Batch x.layout c.args.job) (x.layout.next + 1) l x.layout.next (1 ∷ []) (g.G.Ground.told x.device)) (sym c.framed-octets.ensures.framed)
    (batch_second x.layout c.args.job (g.G.Ground.size x.device) c.self.invariant small fit _ (g.G.Ground.sized x.device)))

pub returns-in-Err-clause-any_moment : goal.returns-in-Err-clause-any_moment
returns-in-Err-clause-any_moment g c =
    let x = c.self.inside in
    let body : List ℕ = c.args.job.now in
    let fits : length body ≤ room_of x.layout = subst (λ (s : PressState _). length body ≤ room_of s.layout) (sym c.self.view_is) c.requires.fits in
    let fit = room (length body) x.layout.next (end_of x.layout) c.requires.some fits in
    let small = few (length body) c.framed-octets.ensures.few in
    let cut = subst (λ (l : List ℕ). AddsSome (IsTwoCutShort (x.layout.next + 1) l x.layout.next (1 ∷ [])) (g.G.Ground.told x.device) (g.G.Ground.told c.write_both.new.device)) c.framed-octets.ensures.framed c.in-Err.ensures.cut_short in
    subst (λ (s : PressState _). (site : Site) (content : Content) → Settled site s.layout (g.G.Ground.told s.device) content → Between site content (with_batch content body) (g.G.Ground.told s.device) (g.G.Ground.told c.write_both.new.device)) c.self.view_is
    (λ site content settled. cut_short _ (x.layout.next + 1) (framed body) x.layout.next (1 ∷ []) _ _ (ready site x.layout content body (g.G.Ground.size x.device) c.self.invariant small fit _ (g.G.Ground.sized x.device) settled) cut)

pub returns-clause-any_moment : goal.returns-clause-any_moment
returns-clause-any_moment g c =
    let x = c.self.inside in
    let body : List ℕ = c.args.job.now in
    let fits : length body ≤ room_of x.layout = subst (λ (s : PressState _). length body ≤ room_of s.layout) (sym c.self.view_is) c.requires.fits in
    let fit = room (length body) x.layout.next (end_of x.layout) c.requires.some fits in
    let small = few (length body) c.framed-octets.ensures.few in
    let wrote = subst (λ (l : List ℕ). Adds (g.G.Ground.told x.device) (g.G.Ground.told c.write_both.new.device) (two_writes (x.layout.next + 1) l x.layout.next (1 ∷ []))) c.framed-octets.ensures.framed c.in_default.ensures.wrote in
    subst (λ (s : PressState _). (site : Site) (content : Content) → Settled site s.layout (g.G.Ground.told s.device) content → Between site content (with_batch content body) (g.G.Ground.told s.device) (g.G.Ground.told c.write_both.new.device)) c.self.view_is
    (λ site content settled. done _ (x.layout.next + 1) (framed body) x.layout.next (1 ∷ []) _ _ (ready site x.layout content body (g.G.Ground.size x.device) c.self.invariant small fit _ (g.G.Ground.sized x.device) settled) wrote)

pub returns-clause-settled : goal.returns-clause-settled
returns-clause-settled g c =
    let x = c.self.inside in
    let body : List ℕ = c.args.job.now in
    let fits : length body ≤ room_of x.layout = subst (λ (s : PressState _). length body ≤ room_of s.layout) (sym c.self.view_is) c.requires.fits in
    let fit = room (length body) x.layout.next (end_of x.layout) c.requires.some fits in
    let small = few (length body) c.framed-octets.ensures.few in
    let wrote = subst (λ (l : List ℕ). Adds (g.G.Ground.told x.device) (g.G.Ground.told c.write_both.new.device) (two_writes (x.layout.next + 1) l x.layout.next (1 ∷ []))) c.framed-octets.ensures.framed c.in_default.ensures.wrote in
    let count : length c.framed-octets.result.now - 5 ≡ length body = omega (arith, c.framed-octets.ensures.length) in
    let layout : c.behind_batch-layout.result ≡ behind_batch x.layout (length body) = c.behind_batch-layout.ensures.behind ∙ ap (behind_batch x.layout) count in
    subst (λ (s : PressState _). (site : Site) (content : Content) → Settled site s.layout (g.G.Ground.told s.device) content → Settled site c.behind_batch-layout.result (g.G.Ground.told c.write_both.new.device) (with_batch content body)) c.self.view_is
    (λ site content settled. subst (λ (l : Layout). Settled site l (g.G.Ground.told c.write_both.new.device) (with_batch content body)) (sym layout)
    (committed site x.layout content body (g.G.Ground.size x.device) c.self.invariant small fit _ _ (g.G.Ground.sized x.device) (ended (λ _. ⊥) (x.layout.next + 1) (framed body) x.layout.next (1 ∷ []) _ _ wrote) settled))

pub returns-clause-lasts : goal.returns-clause-lasts
returns-clause-lasts g c =
    let x = c.self.inside in
    let body : List ℕ = c.args.job.now in
    let fits : length body ≤ room_of x.layout = subst (λ (s : PressState _). length body ≤ room_of s.layout) (sym c.self.view_is) c.requires.fits in
    let fit = room (length body) x.layout.next (end_of x.layout) c.requires.some fits in
    let count : length c.framed-octets.result.now - 5 ≡ length body = omega (arith, c.framed-octets.ensures.length) in
    let layout : c.behind_batch-layout.result ≡ behind_batch x.layout (length body) = c.behind_batch-layout.ensures.behind ∙ ap (behind_batch x.layout) count in
    let sound = subst (λ (l : Layout). IsSound (g.G.Ground.size x.device) l) (sym layout) (sound_batch (g.G.Ground.size x.device) x.layout (length body) c.self.invariant fit) in
    λ site content settled. lasts site c.behind_batch-layout.result _ (with_batch content body) (g.G.Ground.size x.device) sound (returns-clause-settled g c site content settled)
