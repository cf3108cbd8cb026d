use Rattle.std.proofs.Common.{rules, ◌≡◌, ◌++◌, ◌≤◌, true, false, [], ◌∷◌, length, sym, arith}
use Rattle.list_binding.specs.Edits.{is_in, limits_of}
use Rattle.list_binding.specs.EditSteps.{has_room}
use Rattle.list_binding.proofs.Changes.{begins, ends, goes_on, goes_there, stops}
use Rattle.list_binding.proofs.adding.list_with.Goals as goal
use Rattle.list_binding.proofs.adding.list_with.Goals.{then-not-is_in+in_ok-push+else-not-has_room, else-not-is_in}

pub loop-place-init : goal.loop-place-init
loop-place-init c = record { goes = begins (limits_of c.args.limits.now) c.args.list.now c.args.elements.now c.in_ok-left.left.items (search rules) }

pub returns-then-not-has_room : goal.returns-then-not-has_room
returns-then-not-has_room c =
    let limits = limits_of c.args.limits.now in
    let so_far = c.loop-place.left.items in
    let element = c.index-elements-place.result in
    let new : is_in so_far element ≡ false = search rules in
    let longer : c.push.new.items.items ≡ so_far ++ element ∷ [] = search rules in
    let full : has_room limits c.push.new.items.items ≡ false = search rules in
    let told = stops limits c.args.list.now c.args.elements.now so_far c.loop-place.place element c.loop-place-test.true c.index-elements-place.is c.loop-place.invariant.goes c.push.new.items.items new longer full in
    record { exact = rw c.at_element.ensures.refusal (sym told) }

pub loop-place-preserved : goal.loop-place-preserved
loop-place-preserved c =
    let limits = limits_of c.args.limits.now in
    let so_far = c.loop-place.left.items in
    let element = c.index-elements-place.result in
    elim c.if-not-is_in.branch [
      | then-not-is_in+in_ok-push+else-not-has_room w ↦
          let new : is_in so_far element ≡ false = search rules in
          let longer : w.push.new.items.items ≡ so_far ++ element ∷ [] = search rules in
          let free : has_room limits w.push.new.items.items ≡ true = search rules in
          let on = goes_on limits c.args.list.now c.args.elements.now so_far c.loop-place.place element c.loop-place-test.true c.index-elements-place.is c.loop-place.invariant.goes w.push.new.items.items new longer free in
          record { goes = rw w.left-is on }
      | else-not-is_in w ↦
          let there : is_in so_far element ≡ true = search rules in
          let on = goes_there limits c.args.list.now c.args.elements.now so_far c.loop-place.place element c.loop-place-test.true c.index-elements-place.is c.loop-place.invariant.goes there in
          record { goes = rw w.left-is on }
    ]

pub returns : goal.returns
returns c =
    let past : length c.args.elements.now ≤ c.loop-place.place = omega (arith, c.loop-place-test.false) in
    record { exact = sym (ends (limits_of c.args.limits.now) c.args.list.now c.args.elements.now c.loop-place.left.items c.loop-place.place past c.loop-place.invariant.goes) }
