use Rattle.std.proofs.Common.{rules, ◌≡◌, ◌++◌, ℕ, Option, List, [], ◌∷◌, length, refl, sym, ap, subst, ◌∙◌, append_assoc, arith}
use Rattle.std.specs.List.{flat_map}
use Rattle.std.proofs.lemmas.List.{append-nil}
use Rattle.bac_tags.proofs.Standing.{IsBytes}
use Rattle.summaries.specs.Many.{IsTold, written_group}
use Rattle.summaries.specs.ManyRefusals.{AreAt, IsGroupAt}
use Rattle.summaries.specs.ManyRequests.{ObjectAsked, SpellsReadMany}
use Rattle.summaries.proofs.Asking.{next_group, none_at_end, same_groups}
use Rattle.summaries.proofs.Grouped.{all_from}
use Rattle.summaries.proofs.Rows.{has_none, has_room}
use Rattle.summaries.proofs.Telling.{told_more, told_part}
use Rattle.summaries.proofs.many_answer.read_many.Goals as goal

pub loop-at-init : goal.loop-at-init
loop-at-init g c =
    let input = c.args.request.now in
    let bytes : IsBytes input = λ i. omega (arith, c.type_inv.request i) in
    let h = c.requires.asked in
    record {
      within = omega arith;
      told = ([], h.0, h.1, (all_from input bytes h.0 h.1).0, c.new-out.ensures.items);
    }

pub write_group-requires-clause-asked : goal.write_group-requires-clause-asked
write_group-requires-clause-asked g c =
    let input = c.args.request.now in
    let h = c.loop-at.invariant.told in
    let n = next_group input (λ i. omega (arith, c.type_inv.request i)) c.loop-at.at h.1 c.loop-at-test.true h.3 in
    (n.first, n.next, n.is)

pub loop-at-smaller : goal.loop-at-smaller
loop-at-smaller g c =
    let input = c.args.request.now in
    let h = c.loop-at.invariant.told in
    let n = next_group input (λ i. omega (arith, c.type_inv.request i)) c.loop-at.at h.1 c.loop-at-test.true h.3 in
    let whole = written_group (g.C.Shown.reads c.args.shown.now) n.first in
    let told = subst (λ (o : Option ℕ). IsTold c.args.room c.loop-at.out.items c.write_group.new.out.items whole n.next o) c.in-Some.is (c.in_ok-end.ensures.told n.first n.next n.is) in
    omega (arith, told.0, n.on, n.within)

pub loop-at-preserved : goal.loop-at-preserved
loop-at-preserved g c =
    let input = c.args.request.now in
    let f = written_group (g.C.Shown.reads c.args.shown.now) in
    let h = c.loop-at.invariant.told in
    let n = next_group input (λ i. omega (arith, c.type_inv.request i)) c.loop-at.at h.1 c.loop-at-test.true h.3 in
    let now = c.write_group.new.out.items in
    let told = subst (λ (o : Option ℕ). IsTold c.args.room c.loop-at.out.items now (f n.first) n.next o) c.in-Some.is (c.in_ok-end.ensures.told n.first n.next n.is) in
    let done = h.0 ++ n.first ∷ [] in
    let parts : h.0 ++ h.1 ≡ done ++ n.rest = ap (λ (ys : List ObjectAsked). h.0 ++ ys) n.parts ∙ sym (append_assoc h.0 (n.first ∷ []) n.rest) in
    record {
      within = omega (arith, told.0, n.within);
      told = (
        done,
        n.rest,
        subst (λ (xs : List ObjectAsked). SpellsReadMany input xs) parts h.2,
        subst (λ (place : ℕ). AreAt (IsGroupAt input) place n.rest (length input)) (sym told.0) n.later,
        told_more f h.0 n.first [] c.loop-at.out.items now h.4 told.1,
      );
    }

pub returns-in-None : goal.returns-in-None
returns-in-None g c =
    let input = c.args.request.now in
    let bytes : IsBytes input = λ i. omega (arith, c.type_inv.request i) in
    let f = written_group (g.C.Shown.reads c.args.shown.now) in
    let h = c.loop-at.invariant.told in
    let n = next_group input bytes c.loop-at.at h.1 c.loop-at-test.true h.3 in
    let out = c.loop-at.out.items in
    let now = c.write_group.new.out.items in
    let part = subst (λ (o : Option ℕ). IsTold c.args.room out now (f n.first) n.next o) c.in-None.is (c.in_ok-end.ensures.told n.first n.next n.is) in
    let done = h.0 ++ n.first ∷ [] in
    let parts : h.0 ++ h.1 ≡ done ++ n.rest = ap (λ (ys : List ObjectAsked). h.0 ++ ys) n.parts ∙ sym (append_assoc h.0 (n.first ∷ []) n.rest) in
    let one = told_more f h.0 n.first [] out (out ++ f n.first) h.4 refl in
    record {
      many = λ groups s.
          let same = same_groups input bytes (h.0 ++ h.1) groups h.2 s in
          let all : now ++ (part.0 ++ flat_map f n.rest) ≡ flat_map f groups =
          sym (append_assoc now part.0 (flat_map f n.rest))
          ∙ (ap (λ (zs : List ℕ). zs ++ flat_map f n.rest) part.1
          ∙ (told_part f done n.rest [] (out ++ f n.first) one
          ∙ ap (flat_map f) (sym parts ∙ same))) in
          has_none c.args.room now (part.0 ++ flat_map f n.rest) (flat_map f groups) all part.2;
    }

pub returns-then-len-room : goal.returns-then-len-room
returns-then-len-room g c =
    let input = c.args.request.now in
    let bytes : IsBytes input = λ i. omega (arith, c.type_inv.request i) in
    let f = written_group (g.C.Shown.reads c.args.shown.now) in
    let h = c.loop-at.invariant.told in
    let out = c.loop-at.out.items in
    let none = none_at_end input bytes c.loop-at.at h.1 (omega (arith, c.loop-at-test.false, c.loop-at.invariant.within)) h.3 in
    record {
      many = λ groups s.
          let same = same_groups input bytes (h.0 ++ h.1) groups h.2 s in
          let all : out ≡ flat_map f groups = h.4 ∙ ap (flat_map f) (sym (append-nil h.0) ∙ (ap (λ (ys : List ObjectAsked). h.0 ++ ys) (sym none) ∙ same)) in
          has_none c.args.room out [] (flat_map f groups) (append-nil out ∙ all) (search rules);
    }

pub returns : goal.returns
returns g c =
    let input = c.args.request.now in
    let bytes : IsBytes input = λ i. omega (arith, c.type_inv.request i) in
    let f = written_group (g.C.Shown.reads c.args.shown.now) in
    let h = c.loop-at.invariant.told in
    let out = c.loop-at.out.items in
    let none = none_at_end input bytes c.loop-at.at h.1 (omega (arith, c.loop-at-test.false, c.loop-at.invariant.within)) h.3 in
    record {
      many = λ groups s.
          let same = same_groups input bytes (h.0 ++ h.1) groups h.2 s in
          let all : out ≡ flat_map f groups = h.4 ∙ ap (flat_map f) (sym (append-nil h.0) ∙ (ap (λ (ys : List ObjectAsked). h.0 ++ ys) (sym none) ∙ same)) in
          has_room c.args.room out (flat_map f groups) all (search rules);
    }
