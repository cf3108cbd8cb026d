use Rattle.std.proofs.Common.{◌≡◌, ◌∷◌, ◌⊎◌, inr, [], arith, subst, sym, ◌∙◌, List, ℕ}
use Rattle.std.proofs.lemmas.Result.{err_from_is_err_and}
use Rattle.ground_io.specs.Trace.{Adds, HasSize}
use Rattle.ground_io.specs.declared.entry.Entry.{Entry}
use Rattle.ground_io.proofs.Crashes.{adds_none}
use Rattle.alarm_journal.specs.Journal.{Site, heading}
use Rattle.alarm_journal.specs.Protocol.{AddsSome, IsTwoCutShort, two_writes}
use Rattle.alarm_journal.proofs.Formatting.{ready, settled}
use Rattle.alarm_journal.proofs.TwoWrites.{none_done, cut_short, done, ended, some_weaker}
use Rattle.alarm_journal.specs.Underway.{MayWrite, MayWriteBehind}
use Rattle.alarm_journal.specs.declared.change.Change.{Change}
use Rattle.alarm_journal.specs.declared.change.Change.TheVariants.{Beginning}
use Rattle.alarm_journal.proofs.Underways.{beginning_first, beginning_second}
use Rattle.alarm_journal.proofs.open.format.Goals as goal

pub returns-in_err-octets-clause-any_moment : goal.returns-in_err-octets-clause-any_moment
returns-in_err-octets-clause-any_moment g c = λ blank.
    let site : Site = record { text = c.args.text.now; need = c.args.need } in
    let whole : HasSize c.args.size (g.G.Ground.told c.args.device.now) = subst (λ (n : ℕ). HasSize n (g.G.Ground.told c.args.device.now)) (sym c.requires.size) (g.G.Ground.sized c.args.device.now) in
    none_done _ 1 (heading c.args.text.now c.args.size) 0 (1 ∷ []) _ _ (ready site c.args.size c.requires.few c.requires.needed c.requires.room (omega (arith, c.ranges.size.fits)) _ whole blank) (adds_none _)

pub write_both-requires-clause-underway : goal.write_both-requires-clause-underway
write_both-requires-clause-underway g c =
    let told = g.G.Ground.told c.args.device.now in
    let whole : HasSize c.args.size told = subst (λ (n : ℕ). HasSize n told) (sym c.requires.size) (g.G.Ground.sized c.args.device.now) in
    let same : c.deref.result.now ≡ heading c.args.text.now c.args.size = c.deref.ensures.value ∙ c.in_ok-octets.ensures.heading in
    subst (λ (change : Change). MayWrite change 1 c.deref.result.now told) (sym c.beginning-change.ensures.made)
    (subst (λ (l : List ℕ). MayWrite (Beginning c.args.text c.args.need) 1 l told) (sym same)
    (beginning_first c.args.text c.args.need c.args.size c.requires.few c.requires.needed c.requires.room (omega (arith, c.ranges.size.fits)) told whole))

pub write_both-requires-clause-behind : goal.write_both-requires-clause-behind
write_both-requires-clause-behind g c =
    let told = g.G.Ground.told c.args.device.now in
    let whole : HasSize c.args.size told = subst (λ (n : ℕ). HasSize n told) (sym c.requires.size) (g.G.Ground.sized c.args.device.now) in
    let same : c.deref.result.now ≡ heading c.args.text.now c.args.size = c.deref.ensures.value ∙ c.in_ok-octets.ensures.heading in
    subst (λ (change : Change). MayWriteBehind change 1 c.deref.result.now 0 (1 ∷ []) told) (sym c.beginning-change.ensures.made)
    (subst (λ (l : List ℕ). MayWriteBehind (Beginning c.args.text c.args.need) 1 l 0 (1 ∷ []) told) (sym same)
    (beginning_second c.args.text c.args.need c.args.size c.requires.few c.requires.needed c.requires.room (omega (arith, c.ranges.size.fits)) told whole))

pub returns-in_err-write_both-clause-cut_short : goal.returns-in_err-write_both-clause-cut_short
returns-in_err-write_both-clause-cut_short g c =
    let same : c.deref.result.now ≡ heading c.args.text.now c.args.size = c.deref.ensures.value ∙ c.in_ok-octets.ensures.heading in
    let cut = subst (λ (l : List ℕ). AddsSome (IsTwoCutShort 1 l 0 (1 ∷ [])) (g.G.Ground.told c.args.device.now) (g.G.Ground.told c.write_both.new.device)) same c.in_err-write_both.ensures.cut_short in
    let p = err_from_is_err_and c.from_residual-in_err-write_both.result c.from_residual-in_err-write_both.ensures.1 in
    rw p.1 (some_weaker (IsTwoCutShort 1 (heading c.args.text.now c.args.size) 0 (1 ∷ [])) (λ (entries : List Entry). (entries ≡ []) ⊎ IsTwoCutShort 1 (heading c.args.text.now c.args.size) 0 (1 ∷ []) entries) _ _ (λ entries short. inr short) cut)

pub returns-in_err-write_both-clause-any_moment : goal.returns-in_err-write_both-clause-any_moment
returns-in_err-write_both-clause-any_moment g c = λ blank.
    let site : Site = record { text = c.args.text.now; need = c.args.need } in
    let whole : HasSize c.args.size (g.G.Ground.told c.args.device.now) = subst (λ (n : ℕ). HasSize n (g.G.Ground.told c.args.device.now)) (sym c.requires.size) (g.G.Ground.sized c.args.device.now) in
    let same : c.deref.result.now ≡ heading c.args.text.now c.args.size = c.deref.ensures.value ∙ c.in_ok-octets.ensures.heading in
    let cut = subst (λ (l : List ℕ). AddsSome (IsTwoCutShort 1 l 0 (1 ∷ [])) (g.G.Ground.told c.args.device.now) (g.G.Ground.told c.write_both.new.device)) same c.in_err-write_both.ensures.cut_short in
    cut_short _ 1 (heading c.args.text.now c.args.size) 0 (1 ∷ []) _ _ (ready site c.args.size c.requires.few c.requires.needed c.requires.room (omega (arith, c.ranges.size.fits)) _ whole blank) cut

pub returns-clause-wrote : goal.returns-clause-wrote
returns-clause-wrote g c =
    let same : c.deref.result.now ≡ heading c.args.text.now c.args.size = c.deref.ensures.value ∙ c.in_ok-octets.ensures.heading in
    subst (λ (l : List ℕ). Adds (g.G.Ground.told c.args.device.now) (g.G.Ground.told c.write_both.new.device) (two_writes 1 l 0 (1 ∷ []))) same c.in_ok-write_both.ensures.wrote

pub returns-clause-any_moment : goal.returns-clause-any_moment
returns-clause-any_moment g c = λ blank.
    let site : Site = record { text = c.args.text.now; need = c.args.need } in
    let whole : HasSize c.args.size (g.G.Ground.told c.args.device.now) = subst (λ (n : ℕ). HasSize n (g.G.Ground.told c.args.device.now)) (sym c.requires.size) (g.G.Ground.sized c.args.device.now) in
    done _ 1 (heading c.args.text.now c.args.size) 0 (1 ∷ []) _ _ (ready site c.args.size c.requires.few c.requires.needed c.requires.room (omega (arith, c.ranges.size.fits)) _ whole blank) (returns-clause-wrote g c)

pub returns-clause-formatted : goal.returns-clause-formatted
returns-clause-formatted g c = λ blank.
    let site : Site = record { text = c.args.text.now; need = c.args.need } in
    let whole : HasSize c.args.size (g.G.Ground.told c.args.device.now) = subst (λ (n : ℕ). HasSize n (g.G.Ground.told c.args.device.now)) (sym c.requires.size) (g.G.Ground.sized c.args.device.now) in
    settled site c.args.size c.requires.few c.requires.needed c.requires.room (omega (arith, c.ranges.size.fits)) _ _ whole blank (ended (λ _. ⊥) 1 (heading c.args.text.now c.args.size) 0 (1 ∷ []) _ _ (returns-clause-wrote g c))
