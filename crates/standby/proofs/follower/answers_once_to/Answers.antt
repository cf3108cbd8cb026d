use Rattle.std.proofs.Common.{subst}
use Rattle.alarm_core.specs.Fits.{FitsSite}
use Rattle.alarm_core.specs.declared.site.Site.{Site}
use Rattle.standby.specs.Takes.{following}
use Rattle.standby.proofs.Judged.{own_state}
use Rattle.standby.proofs.follower.answers_once_to.Goals as goal

pub returns : goal.returns
returns c = record {
  once = λ history represents may gathering octets took other new also one two.
      let core = c.args.core.now in
      let typed : FitsSite core.site = subst (λ (s : Site). FitsSite s) c.site.ensures.site c.site_fits.ensures.fits in
      c.answers_once.ensures.law (following core gathering) octets took other new also c.site.ensures.keeps (own_state core c.site.ensures.keeps typed history represents may) one two;
}
