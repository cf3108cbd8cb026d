use Rattle.std.proofs.Common.{rules, ◌≡◌, ◌+◌, ◌-◌, ℕ, suc, Ok, List, [], ◌∷◌, ◌++◌, length, sym, ap, ◌∙◌, append_assoc, arith}
use Rattle.std.specs.List.{flat_map}
use Rattle.std.proofs.lemmas.List.{append-nil}
use Rattle.bac_tags.proofs.Steps.{ok_is}
use Rattle.summaries.specs.declared.requested.PropertyAsked.{PropertyAsked}
use Rattle.summaries.specs.Many.{results_of}
use Rattle.summaries.specs.ManySteps.{closes_at, each_within, property_at}
use Rattle.summaries.proofs.Telling.{left_of, list_of, never_none, nothing_left, told_more, told_part}
use Rattle.summaries.proofs.many_answer.write_properties.Goals as goal

pub loop-init : goal.loop-init
loop-init g c =
    let input = c.args.request.now in
    let h = c.requires.listed in
    let none : length input ≡ length input - 0 = omega arith in
    record {
      within = c.requires.within;
      told = ([], h.0, h.1, h.2, ap (λ n. each_within (closes_at input) (property_at input) n c.args.entry.1) (sym none) ∙ list_of input c.args.entry.1 h.0 h.1 h.2, sym (append-nil c.args.out.now.items));
    }

pub closes_at-requires : goal.closes_at-requires
closes_at-requires g c = c.loop.invariant.within

pub returns-in-Some : goal.returns-in-Some
returns-in-Some g c =
    let input = c.args.request.now in
    let f = results_of (g.C.Shown.reads c.args.shown.now) c.args.entry.0 in
    let h = c.loop.invariant.told in
    let left : length input - c.loop.counter ≡ suc (length input - (c.loop.counter + 1)) = omega (arith, c.loop-test.true) in
    let listed = ap (λ n. each_within (closes_at input) (property_at input) n c.loop.at) (sym left) ∙ h.4 in
    let n = nothing_left (closes_at input) (property_at input) _ c.loop.at c.in-Some.end h.1 h.2 listed (sym c.closes_at.ensures.exact ∙ c.in-Some.is) in
    record {
      told = λ properties end e.
          let same = ok_is (h.0 ++ h.1, h.2) (properties, end) (sym h.3 ∙ e) in (
            n.1 ∙ ap (λ (t : List PropertyAsked × ℕ). t.1) same,
            h.5 ∙ ap (λ (xs : List PropertyAsked). c.args.out.now.items ++ flat_map f xs) (sym (append-nil h.0) ∙ (ap (λ (ys : List PropertyAsked). h.0 ++ ys) (sym n.0) ∙ ap (λ (t : List PropertyAsked × ℕ). t.0) same)),
          );
    }

pub property_at-requires : goal.property_at-requires
property_at-requires g c = c.loop.invariant.within

pub unreachable-requires : goal.unreachable-requires
unreachable-requires g c =
    let input = c.args.request.now in
    let h = c.loop.invariant.told in
    let left : length input - c.loop.counter ≡ suc (length input - (c.loop.counter + 1)) = omega (arith, c.loop-test.true) in
    let listed = ap (λ n. each_within (closes_at input) (property_at input) n c.loop.at) (sym left) ∙ h.4 in
    let l = left_of (closes_at input) (property_at input) _ c.loop.at h.1 h.2 listed (sym c.closes_at.ensures.exact ∙ c.in_default.is) in
    let bad = sym l.is ∙ (sym c.property_at.ensures.exact ∙ c.in_default-property_at.is) in
    cc

pub returns-then-len-room : goal.returns-then-len-room
returns-then-len-room g c =
    let input = c.args.request.now in
    let f = results_of (g.C.Shown.reads c.args.shown.now) c.args.entry.0 in
    let old = c.args.out.now.items in
    let h = c.loop.invariant.told in
    let left : length input - c.loop.counter ≡ suc (length input - (c.loop.counter + 1)) = omega (arith, c.loop-test.true) in
    let listed = ap (λ n. each_within (closes_at input) (property_at input) n c.loop.at) (sym left) ∙ h.4 in
    let l = left_of (closes_at input) (property_at input) _ c.loop.at h.1 h.2 listed (sym c.closes_at.ensures.exact ∙ c.in_default.is) in
    let asked = c.in-Ok.asked in
    let one = ok_is (l.first, l.next) (asked, c.in-Ok.next) (sym l.is ∙ (sym c.property_at.ensures.exact ∙ c.in-Ok.is)) in
    let done = h.0 ++ asked ∷ [] in
    let parts : h.0 ++ h.1 ≡ done ++ l.rest =
    ap (λ (ys : List PropertyAsked). h.0 ++ ys) l.parts ∙ (ap (λ (t : PropertyAsked × ℕ). h.0 ++ t.0 ∷ l.rest) one ∙ sym (append_assoc h.0 (asked ∷ []) l.rest)) in
    let more = told_more f h.0 asked old c.loop.out.items c.write_results.new.out.items h.5 c.in_ok-write_results.ensures.written in
    record {
      told = λ properties end e.
          let same = ok_is (h.0 ++ h.1, h.2) (properties, end) (sym h.3 ∙ e) in (
            flat_map f l.rest,
            told_part f done l.rest old c.write_results.new.out.items more ∙ ap (λ (xs : List PropertyAsked). old ++ flat_map f xs) (sym parts ∙ ap (λ (t : List PropertyAsked × ℕ). t.0) same),
            search rules,
          );
    }

pub loop-preserved : goal.loop-preserved
loop-preserved g c =
    let input = c.args.request.now in
    let f = results_of (g.C.Shown.reads c.args.shown.now) c.args.entry.0 in
    let old = c.args.out.now.items in
    let h = c.loop.invariant.told in
    let left : length input - c.loop.counter ≡ suc (length input - (c.loop.counter + 1)) = omega (arith, c.loop-test.true) in
    let listed = ap (λ n. each_within (closes_at input) (property_at input) n c.loop.at) (sym left) ∙ h.4 in
    let l = left_of (closes_at input) (property_at input) _ c.loop.at h.1 h.2 listed (sym c.closes_at.ensures.exact ∙ c.in_default.is) in
    let asked = c.in-Ok.asked in
    let one = ok_is (l.first, l.next) (asked, c.in-Ok.next) (sym l.is ∙ (sym c.property_at.ensures.exact ∙ c.in-Ok.is)) in
    let done = h.0 ++ asked ∷ [] in
    let parts : h.0 ++ h.1 ≡ done ++ l.rest =
    ap (λ (ys : List PropertyAsked). h.0 ++ ys) l.parts ∙ (ap (λ (t : PropertyAsked × ℕ). h.0 ++ t.0 ∷ l.rest) one ∙ sym (append_assoc h.0 (asked ∷ []) l.rest)) in
    record {
      within = c.in-Ok.ensures.within.1;
      told = (
        done,
        l.rest,
        h.2,
        h.3 ∙ ap (λ (xs : List PropertyAsked). Ok (xs, h.2)) parts,
        ap (λ (t : PropertyAsked × ℕ). each_within (closes_at input) (property_at input) (length input - (c.loop.counter + 1)) t.1) (sym one) ∙ l.later,
        told_more f h.0 asked old c.loop.out.items c.write_results.new.out.items h.5 c.in_ok-write_results.ensures.written,
      );
    }

pub unreachable-requires-2 : goal.unreachable-requires-2
unreachable-requires-2 g c =
    let input = c.args.request.now in
    let h = c.loop.invariant.told in
    let left : length input - c.loop.counter ≡ 0 = omega (arith, c.loop-test.false, c.loop.auto.counter-end) in
    never_none (closes_at input) (property_at input) c.loop.at (h.1, h.2) (ap (λ n. each_within (closes_at input) (property_at input) n c.loop.at) (sym left) ∙ h.4)
