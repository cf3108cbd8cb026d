use Rattle.std.proofs.Common.{rules, refl, take, take_all, sym, arith}
use Rattle.std.proofs.lemmas.List.Elements.{All-same}
use Rattle.state_codec.specs.Spelled.{FitsEntry}
use Rattle.state_codec.proofs.StateTypes.{some_more}
use Rattle.state_codec.proofs.state_types.items_fit.Goals as goal

pub loop-place-preserved : goal.loop-place-preserved
loop-place-preserved c =
    some_more (FitsEntry c.args.rule) c.args.log.now.records c.loop-place.place (search (arith, rules)) c.loop-place.invariant c.item_fits.ensures.fits

pub returns : goal.returns
returns c =
    let all = c.args.log.now.records in
    let i = c.loop-place.place in
    record { fit = All-same (FitsEntry c.args.rule) all (take i all) (sym (take_all i all (search (arith, rules)))) c.loop-place.invariant; always = refl }
