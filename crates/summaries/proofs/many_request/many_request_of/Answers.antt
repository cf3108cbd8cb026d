use Rattle.std.proofs.Common.{◌≡◌, ◌+◌, ◌-◌, ◌<◌, suc, Option, Ok, Err, List, [], ◌∷◌, ◌++◌, length, sym, ap, ap₂, ◌∙◌, arith}
use Rattle.std.proofs.lemmas.Result.{err_from_is_err_and}
use Rattle.bac_tags.specs.declared.malformed.Malformed.{Malformed}
use Rattle.summaries.specs.declared.requested.Spec.{Spec}
use Rattle.summaries.specs.ManyRequests.{specs_in, specs_of}
use Rattle.summaries.specs.ManySteps.{each_within, ends_at, further_at, group_at, or_before, seen}
use Rattle.summaries.proofs.Counting.{all_passed, behind, behind_none, ends_there, first_count, first_refused, goes_there, later_refused, no_more, none_left, one_more, one_refused, passed_group, refused_group, seen_all, specs_count, specs_seen}
use Rattle.summaries.proofs.many_request.many_request_of.Goals as goal

pub returns-in_err-found : goal.returns-in_err-found
returns-in_err-found c =
    let input = c.args.bytes.now in
    let fault = c.in_err-found.field-0.0 in
    let refused = refused_group 0 c.args.index (group_at input 0) fault (sym c.group_at.ensures.exact ∙ c.in_err-found.was) in
    let p = err_from_is_err_and c.from_residual.result c.from_residual.ensures.1 in
    record { exact = p.1 ∙ (ap (λ (f : Malformed). Err f) p.2 ∙ sym (first_refused input c.args.index fault refused)) }

pub loop-init : goal.loop-init
loop-init c =
    let input = c.args.bytes.now in
    let x = c.in_ok-found in
    let g = passed_group 0 c.args.index (group_at input 0) x.found x.passed x.at (sym c.group_at.ensures.exact ∙ x.was) in
    let within = x.ensures.within in
    let one = first_count g.group in
    let none : length input ≡ length input - 0 = omega arith in
    record {
      within = within.1;
      fewer = omega (arith, within.0);
      counted = (g.group, x.at, [], g.is, behind_none (each_within (ends_at input) (further_at input) (length input) x.at) ∙ ap (λ n. behind [] (each_within (ends_at input) (further_at input) n x.at)) none, g.seen_in ∙ ap (λ (specs : List Spec). seen 0 specs c.args.index) (sym one), omega (arith, g.count, ap length one));
    }

pub returns-then-at-bytes : goal.returns-then-at-bytes
returns-then-at-bytes c =
    let input = c.args.bytes.now in
    let h = c.loop.invariant.counted in
    let left : length input - c.loop.counter ≡ suc (length input - (c.loop.counter + 1)) = omega (arith, c.loop-test.true) in
    let so_far = h.4 ∙ ap (λ n. behind h.2 (each_within (ends_at input) (further_at input) n c.loop.at)) left in
    let all = no_more (ends_at input) (further_at input) (length input) h.1 _ c.loop.at h.2 c.loop.at so_far (ends_there input c.loop.at c.if-at-bytes.true) in
    record { exact = ap (λ (spec : Option Spec). Ok spec) (h.5 ∙ seen_all (specs_in (h.0 ∷ h.2)) c.args.index) ∙ sym (all_passed input c.args.index h.0 h.1 h.2 c.loop.at h.3 all) }

pub returns-in_err-spec : goal.returns-in_err-spec
returns-in_err-spec c =
    let input = c.args.bytes.now in
    let h = c.loop.invariant.counted in
    let left : length input - c.loop.counter ≡ suc (length input - (c.loop.counter + 1)) = omega (arith, c.loop-test.true) in
    let so_far = h.4 ∙ ap (λ n. behind h.2 (each_within (ends_at input) (further_at input) n c.loop.at)) left in
    let here : c.loop.at < length input = omega (arith, c.if-at-bytes.false) in
    let fault = c.in_err-spec.field-0.0 in
    let refused = refused_group c.loop.passed c.args.index (further_at input c.loop.at) fault (sym c.further_at.ensures.exact ∙ c.in_err-spec.was) in
    let all = one_refused (ends_at input) (further_at input) (length input) h.1 _ c.loop.at h.2 fault so_far (goes_there input c.loop.at here) refused in
    let p = err_from_is_err_and c.from_residual-in_err-spec.result c.from_residual-in_err-spec.ensures.1 in
    record { exact = p.1 ∙ (ap (λ (f : Malformed). Err f) p.2 ∙ sym (later_refused input c.args.index h.0 h.1 fault h.3 all)) }

pub loop-preserved : goal.loop-preserved
loop-preserved c =
    let input = c.args.bytes.now in
    let h = c.loop.invariant.counted in
    let left : length input - c.loop.counter ≡ suc (length input - (c.loop.counter + 1)) = omega (arith, c.loop-test.true) in
    let so_far = h.4 ∙ ap (λ n. behind h.2 (each_within (ends_at input) (further_at input) n c.loop.at)) left in
    let here : c.loop.at < length input = omega (arith, c.if-at-bytes.false) in
    let x = c.in_ok-spec in
    let g = passed_group c.loop.passed c.args.index (further_at input c.loop.at) x.spec x.so_far x.end (sym c.further_at.ensures.exact ∙ x.was) in
    let more = one_more (ends_at input) (further_at input) (length input) h.1 _ c.loop.at h.2 g.group x.end so_far (goes_there input c.loop.at here) g.is in
    let within = x.ensures.within in
    record {
      within = within.1;
      fewer = omega (arith, within.0);
      counted = (
        h.0,
        h.1,
        h.2 ++ g.group ∷ [],
        h.3,
        more,
        c.or_before-found.ensures.either ∙ (ap₂ (λ (a b : Option Spec). or_before a b) g.seen_in h.5 ∙ sym (specs_seen h.0 h.2 g.group c.args.index c.loop.passed h.6)),
        g.count ∙ (ap (λ n. n + length (specs_of g.group)) h.6 ∙ sym (specs_count h.0 h.2 g.group)),
      );
    }

pub returns : goal.returns
returns c =
    let input = c.args.bytes.now in
    let h = c.loop.invariant.counted in
    let left : length input - c.loop.counter ≡ 0 = omega (arith, c.loop-test.false, c.loop.auto.counter-end) in
    let so_far = h.4 ∙ ap (λ n. behind h.2 (each_within (ends_at input) (further_at input) n c.loop.at)) left in
    record {
      exact = ap (λ (f : Malformed). Err f) c.invalid_tag.ensures
          ∙ sym (later_refused input c.args.index h.0 h.1 _ h.3 (so_far ∙ ap (behind h.2) (none_left (ends_at input) (further_at input) c.loop.at)));
    }
