use Rattle.std.proofs.Common.{◌≡◌, ℕ, List, sym, ap, ◌∙◌, subst, Result, Err}
use Rattle.std.proofs.lemmas.Result.{err_from_is_err_and}
use Rattle.alarm_journal.specs.Opened.{content_in, pieces}
use Rattle.alarm_journal.specs.declared.body.Body.{Body}
use Rattle.alarm_core.specs.State.{state_of}
use Rattle.state_codec.specs.Damage.{BodiesLeadTo, IsDamagedRecord}
use Rattle.state_codec.specs.declared.recovering.RecoverFault.TheVariants.{Damaged}
use Rattle.state_codec.proofs.Recovered.{begun_so, led_site, no_damaged_snapshot, not_damaged_so, recovered}
use Rattle.state_codec.proofs.recovering.recover.Goals as goal

-- what an error tells is one
err_is : {A E : Type 0} (x y : E) → ◌≡◌ {A = Result A E} (Err x) (Err y) → x ≡ y
err_is x y h = cc

pub returns-in_err-core-clause-stands : goal.returns-in_err-core-clause-stands
returns-in_err-core-clause-stands c = λ history stood at e.
    let p = err_from_is_err_and c.from_residual.result c.from_residual.ensures.1 in
    let was : c.begin.result ≡ Err c.in_err-core.field-0.0 = c.in_err-core.was in
    let is : c.begin.result ≡ Err (Damaged at) = was ∙ ap Err (sym p.2 ∙ err_is p.0 (Damaged at) (sym p.1 ∙ e)) in
    no_damaged_snapshot c.args.site.now c.args.opened.now history at stood (c.begin.ensures.damaged at is)

pub returns-in_err-follow_bodies-clause-stands : goal.returns-in_err-follow_bodies-clause-stands
returns-in_err-follow_bodies-clause-stands c = λ history stood at e.
    let site = c.args.site.now in
    let opened = c.args.opened.now in
    let core = c.in_ok-core.core in
    let p = err_from_is_err_and c.from_residual-in_err-follow_bodies.result c.from_residual-in_err-follow_bodies.ensures.1 in
    let was : c.follow_bodies.result ≡ Err c.in_err-follow_bodies.field-0.0 = c.in_err-follow_bodies.was in
    let is : c.follow_bodies.result ≡ Err (Damaged at) = was ∙ ap Err (sym p.2 ∙ err_is p.0 (Damaged at) (sym p.1 ∙ e)) in
    let begun : core ≡ state_of site stood.older = begun_so site (content_in opened) history core stood (λ other spells. c.in_ok-core.ensures.only other spells) c.in_ok-core.ensures.tells in
    let damaged : IsDamagedRecord core opened.bodies opened.batches at =
    subst (λ (bodies : List Body). IsDamagedRecord core bodies opened.batches at) c.as_slice.ensures.same (subst (λ (octets : List ℕ). IsDamagedRecord core c.as_slice.result.now octets at) c.as_slice-2.ensures.same (c.follow_bodies.ensures.damaged at is)) in
    not_damaged_so site opened history core at c.requires.site stood begun damaged

pub returns-clause-site : goal.returns-clause-site
returns-clause-site c = led_site c.in_ok-core.core (pieces c.as_slice.result.now c.as_slice-2.result.now) c.follow_bodies.new.core c.in_ok-follow_bodies.ensures.followed ∙ c.in_ok-core.ensures.site

pub returns-clause-represents : goal.returns-clause-represents
returns-clause-represents c = λ history stood.
    let site = c.args.site.now in
    let opened = c.args.opened.now in
    let core = c.in_ok-core.core in
    let reached = c.follow_bodies.new.core in
    let begun : core ≡ state_of site stood.older = begun_so site (content_in opened) history core stood (λ other spells. c.in_ok-core.ensures.only other spells) c.in_ok-core.ensures.tells in
    let lead : BodiesLeadTo core (pieces opened.bodies opened.batches) reached =
    subst (λ (bodies : List Body). BodiesLeadTo core (pieces bodies opened.batches) reached) c.as_slice.ensures.same (subst (λ (octets : List ℕ). BodiesLeadTo core (pieces c.as_slice.result.now octets) reached) c.as_slice-2.ensures.same c.in_ok-follow_bodies.ensures.followed) in
    recovered site (content_in opened) history core reached c.requires.site stood begun lead
