use Rattle.std.proofs.Common.{◌∙◌, None, Some}
use Rattle.std.proofs.lemmas.Result.{err_from_is_err_and}
use Rattle.standby.specs.Offers.{OffersNext}
use Rattle.alarm_server.proofs.Shipped.{not_shipped, shipped_all, shipped_on}
use Rattle.alarm_server.proofs.ship.ship_all.Goals as goal

pub returns-in_err-ship_packet-clause-sends : goal.returns-in_err-ship_packet-clause-sends
returns-in_err-ship_packet-clause-sends g c = λ packets all.
    let p = err_from_is_err_and c.from_residual-in_err-ship_packet.result c.from_residual-in_err-ship_packet.ensures.1 in
    let here = c.loop-packet in
    let next = c.offer.new.self in
    let old = g.G.Ground.told c.args.device.now in
    let mid = g.G.Ground.told here.device in
    let new = g.G.Ground.told c.ship_packet.new.device in
    let packet = c.in-Some.packet.items in
    let offers : OffersNext here.leader (Some packet) next = rw c.in-Some.is at c.in_ok-packet.ensures.next in
    rw (p.1, p.2)
    (not_shipped c.args.leader.now here.leader here.packets old mid here.invariant.shipping c.in_err-ship_packet.field-0.0 next packet c.args.events new c.offers_all.ensures.all c.offers_all-in-Some.ensures.all offers c.in_err-ship_packet.ensures.sends packets all)

pub loop-packet-preserved : goal.loop-packet-preserved
loop-packet-preserved g c =
    let here = c.loop-packet in
    let next = c.offer.new.self in
    let old = g.G.Ground.told c.args.device.now in
    let mid = g.G.Ground.told here.device in
    let new = g.G.Ground.told c.ship_packet.new.device in
    let packet = c.in-Some.packet.items in
    let offers : OffersNext here.leader (Some packet) next = rw c.in-Some.is at c.in_ok-packet.ensures.next in
    record {
      shipping = shipped_on c.args.leader.now here.leader here.packets old mid here.invariant.shipping next packet new offers c.offers_all-in-Some.ensures.all (rw c.in-Some.is at c.in_ok-packet.ensures.less) c.in_ok-ship_packet.ensures.sends;
      few = here.invariant.few;
      size = c.ship_packet.ensures.size ∙ here.invariant.size;
      disk = c.ship_packet.ensures.disk ∙ here.invariant.disk;
      emitted = c.in_ok-ship_packet.ensures.uncounted ∙ here.invariant.emitted;
    }

pub returns-clause-sends : goal.returns-clause-sends
returns-clause-sends g c = λ packets all.
    let here = c.loop-packet in
    let next = c.offer.new.self in
    let old = g.G.Ground.told c.args.device.now in
    let mid = g.G.Ground.told here.device in
    let new = g.G.Ground.told c.end_shipping.new.device in
    let offers : OffersNext here.leader None next = rw c.in_default.is at c.in_ok-packet.ensures.next in
    shipped_all c.args.leader.now here.leader here.packets old mid here.invariant.shipping c.end_shipping.result next c.args.events new c.offers_all.ensures.all offers c.end_shipping.ensures.sends packets all
