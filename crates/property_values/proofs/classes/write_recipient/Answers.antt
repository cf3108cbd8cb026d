use Rattle.std.proofs.Common.{◌≡◌, List, ◌++◌, None, OnOk, Result, Ok, Err, append_assoc, ap, rules, subst, ◌∙◌}
use Rattle.bac_tags.specs.Writing.{written_bits, written_boolean, written_unsigned}
use Rattle.bac_values.specs.BitString.{string_of_flags, BitsData}
use Rattle.property_values.specs.ClassProperties.{days_of, written_clock}
use Rattle.recipients.specs.Recipients.{written_peer}
use Rattle.property_values.proofs.classes.write_recipient.Goals as goal

on_ok : {T E : Type 0} (r : Result T E) (P Q : Type 0) → (P → Q) → OnOk r P → OnOk r Q
on_ok (Ok x) P Q f h = f h
on_ok (Err fault) P Q f h = tt

-- seven parts, one behind the other
gathered : {X : Type 0} (start a b c d e f g u v w x y z end : List X) →
    u ≡ start ++ a → v ≡ u ++ b → w ≡ v ++ c → x ≡ w ++ d → y ≡ x ++ e → z ≡ y ++ f → end ≡ z ++ g →
    end ≡ start ++ (a ++ (b ++ (c ++ (d ++ (e ++ (f ++ g))))))
gathered start a b c d e f g u v w x y z end m n o p q r s =
    let whole : end ≡ ((((((start ++ a) ++ b) ++ c) ++ d) ++ e) ++ f) ++ g = cc in
    let right : ((((((start ++ a) ++ b) ++ c) ++ d) ++ e) ++ f) ++ g ≡ start ++ (a ++ (b ++ (c ++ (d ++ (e ++ (f ++ g)))))) = simp append_assoc in
    cc

pub returns : goal.returns
returns c =
    let recipient = c.args.recipient.now in
    let start = c.args.out.now.items in
    let days : c.write_bits.new.out.items ≡ start ++ written_bits None (days_of recipient) =
    c.in_ok-write_bits.ensures.written ∙ ap (λ (string : BitsData). start ++ written_bits None string) c.days_of.ensures.days in
    let from : c.write_clock.new.out.items ≡ c.write_bits.new.out.items ++ written_clock recipient.from = search rules in
    let to : c.write_clock-2.new.out.items ≡ c.write_clock.new.out.items ++ written_clock recipient.to = search rules in
    let peer : c.write_peer.new.out.items ≡ c.write_clock-2.new.out.items ++ written_peer recipient.peer = search rules in
    let process : c.write_unsigned.new.out.items ≡ c.write_peer.new.out.items ++ written_unsigned None recipient.process = search rules in
    let confirmed : c.write_bool.new.out.items ≡ c.write_unsigned.new.out.items ++ written_boolean None recipient.confirmed = search rules in
    let string : c.of_flags.result ≡ string_of_flags recipient.transitions = search rules in
    let last : OnOk c.write_bits-2.result (c.write_bits-2.new.out.items ≡ c.write_bool.new.out.items ++ written_bits None (string_of_flags recipient.transitions)) =
    subst (λ (bits : BitsData). OnOk c.write_bits-2.result (c.write_bits-2.new.out.items ≡ c.write_bool.new.out.items ++ written_bits None bits)) string c.write_bits-2.ensures.written in
    record { written = on_ok c.write_bits-2.result _ _ (λ g. gathered start _ _ _ _ _ _ _ _ _ _ _ _ _ _ days from to peer process confirmed g) last }
