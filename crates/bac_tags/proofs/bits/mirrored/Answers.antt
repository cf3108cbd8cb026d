use Rattle.std.proofs.Common.{◌≡◌, ◌/◌, ◌^◌, ◌-◌, ◌<◌, sym, ap, subst, ◌∙◌}
use Rattle.bac_tags.specs.Contents.{mirrored}
use Rattle.bac_tags.proofs.Mirror.{mirrored_none, mirrored_small, reversed_is}
use Rattle.bac_tags.proofs.bits.mirrored.Goals as goal

nothing : (c : goal.Then-size-eq0) → 0 ≡ mirrored c.args.size c.args.number
nothing c = sym (ap (λ k. mirrored k c.args.number) c.if-size-eq0.true ∙ mirrored_none c.args.number)

pub returns-then-size-eq0 : goal.returns-then-size-eq0
returns-then-size-eq0 c =
    record { value = nothing c; small = subst (λ n. n < 2 ^ c.args.size) (sym (nothing c)) (mirrored_small c.args.size c.args.number) }

turned : (c : goal.After-reverse_bits) → c.reverse_bits.result / 2 ^ (64 - c.args.size) ≡ mirrored c.args.size c.args.number
turned c = ap (λ n. n / 2 ^ (64 - c.args.size)) c.reverse_bits.ensures ∙ reversed_is c.args.size c.args.number c.requires.most c.requires.fits

pub returns : goal.returns
returns c =
    record { value = turned c; small = subst (λ n. n < 2 ^ c.args.size) (sym (turned c)) (mirrored_small c.args.size c.args.number) }
