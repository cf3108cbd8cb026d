use Rattle.std.proofs.Common.{◌≡◌, ◌++◌, ℕ, Option, Some, List, sym, ap, subst, ◌∙◌}
use Rattle.std.specs.List.{flat_map}
use Rattle.bac_values.specs.Identifier.{ObjectIdData}
use Rattle.bac_tags.specs.EnclosingTags.{closing, opening}
use Rattle.bac_tags.specs.Writing.{written_object, written_tag}
use Rattle.bac_tags.proofs.Steps.{ok_is}
use Rattle.summaries.specs.Many.{IsTold, results_of}
use Rattle.summaries.specs.ManySteps.{properties_at}
use Rattle.summaries.proofs.Telling.{group_part, group_parts, group_whole}
use Rattle.summaries.proofs.many_answer.write_group.Goals as goal

pub unreachable-requires : goal.unreachable-requires
unreachable-requires g c =
    let h = c.requires.asked in
    let p = group_parts c.args.request.now c.args.at h.0 h.1 h.2 in
    let bad = sym p.entry ∙ (sym c.entry_at.ensures.exact ∙ c.in_default.is) in
    cc

pub write_properties-requires-clause-listed : goal.write_properties-requires-clause-listed
write_properties-requires-clause-listed g c =
    let input = c.args.request.now in
    let h = c.requires.asked in
    let p = group_parts input c.args.at h.0 h.1 h.2 in
    let one = ok_is (h.0.object, p.start) c.in-Ok.entry (sym p.entry ∙ (sym c.entry_at.ensures.exact ∙ c.in-Ok.is)) in
    (h.0.properties, h.1, ap (λ (t : ObjectIdData × ℕ). properties_at input t.1) (sym one) ∙ p.properties)

pub returns-in_default-2 : goal.returns-in_default-2
returns-in_default-2 g c =
    let input = c.args.request.now in
    let reads = g.C.Shown.reads c.args.shown.now in
    let old = c.args.out.now.items in
    let now = c.write_properties.new.out.items in
    let object = λ (id : ObjectIdData). old ++ written_object (Some 0) id in
    record {
      told = λ group end e.
          let p = group_parts input c.args.at group end e in
          let one = ok_is (group.object, p.start) c.in-Ok.entry (sym p.entry ∙ (sym c.entry_at.ensures.exact ∙ c.in-Ok.is)) in
          let same : c.in-Ok.entry.0 ≡ group.object = ap (λ (t : ObjectIdData × ℕ). t.0) (sym one) in
          let whole = flat_map (results_of reads c.in-Ok.entry.0) group.properties in
          let told = c.in_ok-end.ensures.told group.properties end (ap (λ (t : ObjectIdData × ℕ). properties_at input t.1) (sym one) ∙ p.properties) in
          let part = subst (λ (o : Option ℕ). IsTold c.args.room c.write_opening.new.out.items now whole end o) c.in_default-2.is told in
          let opened = c.in_ok-write_opening.ensures.written ∙ ap (λ (o : List ℕ). o ++ written_tag (opening 1)) (c.in_ok-write_object.ensures.written ∙ ap object same) in
          let all = part.1 ∙ (ap (λ (o : List ℕ). o ++ whole) opened ∙ ap (λ (id : ObjectIdData). (object group.object ++ written_tag (opening 1)) ++ flat_map (results_of reads id) group.properties) same) in (
            part.0 ++ written_tag (closing 1),
            group_part old (written_object (Some 0) group.object) (written_tag (opening 1)) (flat_map (results_of reads group.object) group.properties) (written_tag (closing 1)) now part.0 all,
            part.2,
          );
    }

pub returns : goal.returns
returns g c =
    let input = c.args.request.now in
    let reads = g.C.Shown.reads c.args.shown.now in
    let old = c.args.out.now.items in
    let inner = c.write_properties.new.out.items in
    record {
      told = λ group end e.
          let p = group_parts input c.args.at group end e in
          let one = ok_is (group.object, p.start) c.in-Ok.entry (sym p.entry ∙ (sym c.entry_at.ensures.exact ∙ c.in-Ok.is)) in
          let same : c.in-Ok.entry.0 ≡ group.object = ap (λ (t : ObjectIdData × ℕ). t.0) (sym one) in
          let whole = flat_map (results_of reads c.in-Ok.entry.0) group.properties in
          let told = c.in_ok-end.ensures.told group.properties end (ap (λ (t : ObjectIdData × ℕ). properties_at input t.1) (sym one) ∙ p.properties) in
          let all = subst (λ (o : Option ℕ). IsTold c.args.room c.write_opening.new.out.items inner whole end o) c.in-Some.is told in (
            all.0,
            group_whole old (written_object (Some 0) group.object) (written_tag (opening 1)) (flat_map (results_of reads group.object) group.properties) (written_tag (closing 1))
                c.write_object.new.out.items c.write_opening.new.out.items inner c.write_closing.new.out.items
                (c.in_ok-write_object.ensures.written ∙ ap (λ (id : ObjectIdData). old ++ written_object (Some 0) id) same)
                c.in_ok-write_opening.ensures.written
                (all.1 ∙ ap (λ (id : ObjectIdData). c.write_opening.new.out.items ++ flat_map (results_of reads id) group.properties) same)
                c.in_ok-write_closing.ensures.written,
          );
    }
