use Rattle.std.proofs.Common.{◌∙◌, ℕ, List, refl, subst, rules}
use Rattle.alarm_core.specs.declared.site.Site.{Site}
use Rattle.state_codec.specs.Snapshots.{written_state}
use Rattle.state_codec.specs.Spelled.{SpellsState}
use Rattle.standby.proofs.copying.copy_of.Goals as goal

pub returns-in-Ok : goal.returns-in-Ok
returns-in-Ok c =
    let core = c.args.core.now in
    let copy = c.in-Ok.copy in
    let spells : SpellsState core.site (written_state core) copy =
    subst (λ (l : List ℕ). SpellsState core.site l copy) (c.as_slice.ensures.value ∙ c.in_ok-octets.ensures.written)
    (subst (λ (s : Site). SpellsState s c.as_slice.result.now copy) c.site.ensures.site c.in-Ok.ensures.found) in
    record {
      tried = record {
        snapshot = spells;
        events = search rules;
        own = λ is. c.snapshots_have_one_spelling.ensures.spelling.state core.site (written_state core) copy core c.site.ensures.keeps spells (record { octets_are = refl; own = is; fits = c.in_ok-octets.ensures.fits });
      };
    }
