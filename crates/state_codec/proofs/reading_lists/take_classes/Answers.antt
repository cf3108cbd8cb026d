use Rattle.std.proofs.Common.{◌≡◌, ◌+◌, ◌++◌, ◌∷◌, [], drop, arith}
use Rattle.std.proofs.lemmas.List.{length-drop, nil_from_length}
use Rattle.std.proofs.lemmas.Result.{err_from_is_err_and}
use Rattle.notify_class.specs.declared.class_site.ClassSite.{ClassSite}
use Rattle.state_codec.specs.SnapshotSteps.{classes_at, listed_class_at}
use Rattle.state_codec.proofs.Loops.{splits_at, each_goes_on, each_ends, each_is_done}
use Rattle.state_codec.proofs.reading_lists.take_classes.Goals as goal

pub returns-in_err-class : goal.returns-in_err-class
returns-in_err-class c =
    let all = c.args.sites.now in
    let i = c.loop-listed.listed-index in
    let it : ClassSite = c.listed-item.result in
    let split : drop i all ≡ it ∷ drop (i + 1) all = splits_at all i it c.loop-listed-test.true c.listed-item.is in
    let p = err_from_is_err_and c.from_residual.result c.from_residual.ensures.1 in
    record { exact = rw (p.1, p.2) (each_ends listed_class_at c.in_err-class.field-0.0 c.loop-listed.classes.items (drop i all) it (drop (i + 1) all) c.loop-listed.bytes.now (classes_at all c.args.bytes.now.now) split c.in_err-class.ensures.exact c.loop-listed.invariant) }

pub loop-listed-preserved : goal.loop-listed-preserved
loop-listed-preserved c =
    let all = c.args.sites.now in
    let i = c.loop-listed.listed-index in
    let it : ClassSite = c.listed-item.result in
    let split : drop i all ≡ it ∷ drop (i + 1) all = splits_at all i it c.loop-listed-test.true c.listed-item.is in
    let e : c.push.new.items.items ≡ c.loop-listed.classes.items ++ c.in_ok-class.class ∷ [] = c.in_ok-push.ensures.added in
    rw e (each_goes_on listed_class_at c.loop-listed.classes.items (drop i all) it (drop (i + 1) all) c.loop-listed.bytes.now c.in_ok-class.class c.take_class.new.bytes.now (classes_at all c.args.bytes.now.now) split c.in_ok-class.ensures.exact c.loop-listed.invariant)

pub returns : goal.returns
returns c =
    let all = c.args.sites.now in
    let i = c.loop-listed.listed-index in
    let none : drop i all ≡ [] = nil_from_length (drop i all) (omega (arith, c.loop-listed-test.false, length-drop i all)) in
    record { exact = each_is_done listed_class_at c.loop-listed.classes.items (drop i all) c.loop-listed.bytes.now (classes_at all c.args.bytes.now.now) none c.loop-listed.invariant }
