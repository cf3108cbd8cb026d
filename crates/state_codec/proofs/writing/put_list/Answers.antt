use Rattle.std.proofs.Common.{◌≡◌, ◌+◌, ◌++◌, ◌∷◌, [], take, sym, ap, ◌∙◌, arith}
use Rattle.std.specs.List.{flat_map}
use Rattle.std.proofs.lemmas.List.{take_more, flat_map_more}
use Rattle.notify_class.specs.Recipients.{DestinationData}
use Rattle.state_codec.specs.Records.{written_destination}
use Rattle.state_codec.proofs.writing.put_list.Goals as goal

pub loop-recipient-preserved : goal.loop-recipient-preserved
loop-recipient-preserved c =
    let it : DestinationData = c.recipient-item.result in
    let i = c.loop-recipient.recipient-index in
    let all = c.args.recipients.now in
    let old = c.args.out.now.items in
    let taken : take (i + 1) all ≡ take i all ++ it ∷ [] = take_more all i it (omega arith) ∙ ap (λ (x : DestinationData). take i all ++ x ∷ []) (sym c.recipient-item.is) in
    c.in_ok-put_destination.ensures.written
    ∙ ap (λ t. t ++ written_destination it) c.loop-recipient.invariant
    ∙ flat_map_more written_destination old (take i all) it
    ∙ ap (λ t. old ++ flat_map written_destination t) (sym taken)
