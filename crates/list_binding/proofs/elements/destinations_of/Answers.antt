use Rattle.std.proofs.Common.{rules, ◌≡◌, ◌+◌, ◌-◌, ◌++◌, ℕ, suc, List, [], ◌∷◌, length, length-append, Ok, Err, sym, ap, subst, ◌∙◌, arith, Vec, Global}
use Rattle.std.proofs.lemmas.Result.{err_from_is_err_and}
use Rattle.notify_class.specs.Recipients.{DestinationData}
use Rattle.notify_class.specs.declared.destination.Destination.{Destination}
use Rattle.list_binding.specs.Edits.{Tells}
use Rattle.list_binding.specs.EditSteps.{destination_at, destinations_of, destinations_within}
use Rattle.list_binding.proofs.Readings.{all_read, more_told, prefixed, refused_told}
use Rattle.list_binding.proofs.elements.destinations_of.Goals as goal

abbrev items : Vec Destination Global → List DestinationData
items left = left.items

pub returns-in_err-destination-clause-exact : goal.returns-in_err-destination-clause-exact
returns-in_err-destination-clause-exact c =
    let input = c.args.input.now in
    let read = c.loop-at.read.items in
    let all = destinations_of c.args.bindings.now input in
    let fault = c.in_err-destination.field-0.0 in
    let same : c.len.result ≡ length read = search rules in
    let fuel : length input - length read ≡ suc (length input - (length read + 1)) = omega (arith, c.loop-at-test.true, c.loop-at.invariant.few) in
    let exact = subst (λ (n : ℕ). Tells (λ (x : DestinationData × ℕ). x) (λ answer. answer ≡ destination_at c.args.bindings.now input (n + 1) c.loop-at.at) (Err fault)) same c.in_err-destination.ensures.exact in
    let told = refused_told items c.args.bindings.now input all read (length input - (length read + 1)) (length input - length read) (length read + 1) c.loop-at.at fault c.loop-at.invariant.left fuel c.loop-at-test.true exact in
    let p = err_from_is_err_and c.from_residual.result c.from_residual.ensures.1 in
    rw (p.1, p.2) told

pub loop-at-preserved : goal.loop-at-preserved
loop-at-preserved c =
    let input = c.args.input.now in
    let read = c.loop-at.read.items in
    let destination = c.in_ok-destination.destination in
    let end = c.in_ok-destination.end in
    let all = destinations_of c.args.bindings.now input in
    let same : c.len.result ≡ length read = search rules in
    let fuel : length input - length read ≡ suc (length input - (length read + 1)) = omega (arith, c.loop-at-test.true, c.loop-at.invariant.few) in
    let exact = subst (λ (n : ℕ). Ok (destination, end) ≡ destination_at c.args.bindings.now input (n + 1) c.loop-at.at) same c.in_ok-destination.ensures.exact in
    let on = more_told c.args.bindings.now input all read (length input - (length read + 1)) (length input - length read) (length read + 1) c.loop-at.at end destination c.loop-at.invariant.left fuel c.loop-at-test.true exact in
    let longer : c.push.new.items.items ≡ read ++ destination ∷ [] = search rules in
    let size : length c.push.new.items.items ≡ length read + 1 = ap length longer ∙ length-append read (destination ∷ []) in
    let number : suc (length read + 1) ≡ length c.push.new.items.items + 1 = omega (arith, size) in
    record {
      within = c.in_ok-destination.ensures.within.1;
      few = omega (arith, size, c.loop-at.invariant.few, c.in_ok-destination.ensures.within.0);
      left = on ∙ (ap (λ (l : List DestinationData). prefixed l (destinations_within (length input - (length read + 1)) c.args.bindings.now input (suc (length read + 1)) end)) (sym longer)
          ∙ (ap (λ (n : ℕ). prefixed c.push.new.items.items (destinations_within (length input - (length read + 1)) c.args.bindings.now input n end)) number
          ∙ ap (λ (n : ℕ). prefixed c.push.new.items.items (destinations_within (length input - n) c.args.bindings.now input (length c.push.new.items.items + 1) end)) (sym size)));
    }

pub returns-clause-exact : goal.returns-clause-exact
returns-clause-exact c =
    let input = c.args.input.now in
    let read = c.loop-at.read.items in
    sym (all_read c.args.bindings.now input (destinations_of c.args.bindings.now input) read (length input - length read) (length read + 1) c.loop-at.at c.loop-at.invariant.left (omega (arith, c.loop-at-test.false)))
