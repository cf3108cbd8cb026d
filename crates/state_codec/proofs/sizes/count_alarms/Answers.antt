use Rattle.std.proofs.Common.{◌≡◌, take, count_by, ap, ◌∙◌, take_all, length-take-le, arith}
use Rattle.std.proofs.lemmas.List.Sums.{count_by-le-length}
use Rattle.state_codec.specs.Sizes.{has_alarm}
use Rattle.state_codec.proofs.SizeLaws.{count_more}
use Rattle.state_codec.proofs.sizes.count_alarms.Goals as goal

pub overflow_add-count : goal.overflow_add-count
overflow_add-count c =
    let few = count_by-le-length has_alarm (take c.loop-site.site-index c.args.objects.now) in
    let short = length-take-le c.loop-site.site-index c.args.objects.now in
    grind (arith, few, short, c.loop-site.invariant)

pub loop-site-preserved : goal.loop-site-preserved
loop-site-preserved c =
    let more = count_more c.args.objects.now c.loop-site.site-index c.site-item.result (omega arith) in
    grind (arith, more, c.site-item.is, c.loop-site.invariant)

pub returns : goal.returns
returns c =
    let objects = c.args.objects.now in
    let whole : take c.loop-site.site-index objects ≡ objects = take_all c.loop-site.site-index objects (omega arith) in
    let count : c.loop-site.count ≡ count_by has_alarm objects = c.loop-site.invariant ∙ ap (λ t. count_by has_alarm t) whole in
    record { count = count; few = grind (arith, count, count_by-le-length has_alarm objects) }
