use Rattle.std.proofs.Common.{◌≡◌, sym, ◌∙◌}
use Rattle.list_binding.specs.Edits.{are_same}
use Rattle.list_binding.proofs.SameLists.{same_by_pairs, same_decides}
use Rattle.list_binding.proofs.equality.are_same.Goals as goal

told : (c : goal.After-are_pairs) → c.are_pairs.result ≡ are_same c.args.list.now c.args.others.now
told c = c.are_pairs.ensures.pairs ∙ same_by_pairs c.args.list.now c.args.others.now c.if-list-others.true

pub returns-then-list-others-clause-same : goal.returns-then-list-others-clause-same
returns-then-list-others-clause-same c = told c

pub returns-then-list-others-clause-equal : goal.returns-then-list-others-clause-equal
returns-then-list-others-clause-equal c =
    let decides = same_decides c.args.list.now c.args.others.now in (
      λ same. decides.0 (sym (told c) ∙ same),
      λ equal. told c ∙ decides.1 equal,
    )
