use Rattle.std.proofs.Common.{◌≡◌, ◌+◌, ◌-◌, ◌≤◌, suc, Ok, Err, List, [], ◌∷◌, ◌++◌, length, sym, ap, ◌∙◌, arith, inl, inr}
use Rattle.std.proofs.lemmas.List.{length-append}
use Rattle.std.proofs.lemmas.Result.{err_from_is_err_and}
use Rattle.bac_tags.specs.declared.malformed.Malformed.{Malformed}
use Rattle.summaries.specs.declared.requested.PropertyAsked.{PropertyAsked}
use Rattle.summaries.specs.ManySteps.{closes_at, each_within, property_at, seen}
use Rattle.summaries.proofs.Counting.{behind, none_listed, no_more, none_left, one_more, one_refused, refused_listed, seen_before, seen_here, some_listed}
use Rattle.summaries.proofs.many_request.properties_at.Goals as goal
use Rattle.summaries.proofs.many_request.properties_at.Goals.{then-passed-index, else-passed-index}

pub returns-then-at-start-clause-exact : goal.returns-then-at-start-clause-exact
returns-then-at-start-clause-exact c =
    let input = c.args.input.now in
    let h = c.loop.invariant.counted in
    let left : length input - c.loop.counter ≡ suc (length input - (c.loop.counter + 1)) = omega (arith, c.loop-test.true) in
    let so_far = h.1 ∙ ap (λ n. behind h.0 (each_within (closes_at input) (property_at input) n c.loop.at)) left in
    let all = no_more (closes_at input) (property_at input) (length input) c.args.start _ c.loop.at h.0 c.in-Some.end so_far (sym c.closes_at.ensures.exact ∙ c.in-Some.is) in
    let none : h.0 ≡ [] = elim h.4 [ inl empty ↦ empty.0 | inr some ↦ absurd (omega (arith, some.1, c.if-at-start.true)) ] in
    ap (λ (f : Malformed). Err f) c.missing_parameter.ensures ∙ sym (none_listed input c.args.start c.args.before c.args.index c.in-Some.end (all ∙ ap (λ (xs : List PropertyAsked). Ok (xs, c.in-Some.end)) none))

pub returns-in-Some-clause-exact : goal.returns-in-Some-clause-exact
returns-in-Some-clause-exact c =
    let input = c.args.input.now in
    let h = c.loop.invariant.counted in
    let left : length input - c.loop.counter ≡ suc (length input - (c.loop.counter + 1)) = omega (arith, c.loop-test.true) in
    let so_far = h.1 ∙ ap (λ n. behind h.0 (each_within (closes_at input) (property_at input) n c.loop.at)) left in
    let all = no_more (closes_at input) (property_at input) (length input) c.args.start _ c.loop.at h.0 c.in-Some.end so_far (sym c.closes_at.ensures.exact ∙ c.in-Some.is) in
    let some : 1 ≤ length h.0 = elim h.4 [ inl empty ↦ absurd (c.if-at-start.false empty.1) | inr some ↦ some.0 ] in
    rw (h.2, h.3) (sym (some_listed input c.args.start c.args.before c.args.index h.0 c.in-Some.end some all))

pub returns-in_err-asked-clause-exact : goal.returns-in_err-asked-clause-exact
returns-in_err-asked-clause-exact c =
    let input = c.args.input.now in
    let h = c.loop.invariant.counted in
    let left : length input - c.loop.counter ≡ suc (length input - (c.loop.counter + 1)) = omega (arith, c.loop-test.true) in
    let so_far = h.1 ∙ ap (λ n. behind h.0 (each_within (closes_at input) (property_at input) n c.loop.at)) left in
    let none = sym c.closes_at.ensures.exact ∙ c.in_default.is in
    let fault = c.in_err-asked.field-0.0 in
    let refused = one_refused (closes_at input) (property_at input) (length input) c.args.start _ c.loop.at h.0 fault so_far none (sym c.property_at.ensures.exact ∙ c.in_err-asked.was) in
    let p = err_from_is_err_and c.from_residual.result c.from_residual.ensures.1 in
    p.1 ∙ (ap (λ (f : Malformed). Err f) p.2 ∙ sym (refused_listed input c.args.start c.args.before c.args.index fault refused))

pub loop-preserved : goal.loop-preserved
loop-preserved c =
    let input = c.args.input.now in
    let h = c.loop.invariant.counted in
    let left : length input - c.loop.counter ≡ suc (length input - (c.loop.counter + 1)) = omega (arith, c.loop-test.true) in
    let so_far = h.1 ∙ ap (λ n. behind h.0 (each_within (closes_at input) (property_at input) n c.loop.at)) left in
    let none = sym c.closes_at.ensures.exact ∙ c.in_default.is in
    let asked = c.in_ok-asked.asked in
    let next = c.in_ok-asked.next in
    let more = one_more (closes_at input) (property_at input) (length input) c.args.start _ c.loop.at h.0 asked next so_far none (sym c.property_at.ensures.exact ∙ c.in_ok-asked.was) in
    let within = c.in_ok-asked.ensures.within in
    let kept : c.if-passed-index.found ≡ seen c.args.before (h.0 ++ asked ∷ []) c.args.index =
    elim c.if-passed-index.branch [
      | then-passed-index w ↦ w.found-is ∙ sym (seen_here c.args.before h.0 asked c.args.index c.loop.passed h.3 w.if-passed-index.true)
      | else-passed-index w ↦ w.found-is ∙ (h.2 ∙ sym (seen_before c.args.before h.0 asked c.args.index c.loop.passed h.3 w.if-passed-index.false))
    ] in
    let longer : length (h.0 ++ asked ∷ []) ≡ length h.0 + 1 = length-append h.0 (asked ∷ []) in
    record {
      within = within.1;
      fewer = omega (arith, c.loop.invariant.fewer, within.0);
      counted = (h.0 ++ asked ∷ [], more, kept, omega (arith, h.3, longer), inr (omega (arith, longer), elim h.4 [ inl empty ↦ omega (arith, empty.1, within.0) | inr some ↦ omega (arith, some.1, within.0) ]));
    }

pub returns-clause-exact : goal.returns-clause-exact
returns-clause-exact c =
    let input = c.args.input.now in
    let h = c.loop.invariant.counted in
    let left : length input - c.loop.counter ≡ 0 = omega (arith, c.loop-test.false, c.loop.auto.counter-end) in
    let so_far = h.1 ∙ ap (λ n. behind h.0 (each_within (closes_at input) (property_at input) n c.loop.at)) left in
    ap (λ (f : Malformed). Err f) c.invalid_tag.ensures
    ∙ sym (refused_listed input c.args.start c.args.before c.args.index _ (so_far ∙ ap (behind h.0) (none_left (closes_at input) (property_at input) c.loop.at)))
