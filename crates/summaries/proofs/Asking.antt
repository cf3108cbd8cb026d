-- The objects of a request, one after the other, while they are answered.
use Rattle.std.proofs.Common.{◌≡◌, ℕ, ◌<◌, ◌≤◌, List, [], ◌∷◌, length, Ok, refl, sym, ◌∙◌, arith}
use Rattle.bac_tags.proofs.Standing.{IsBytes}
use Rattle.bac_tags.proofs.Steps.{ok_is}
use Rattle.summaries.specs.ManyRefusals.{AreAt, IsGroupAt}
use Rattle.summaries.specs.ManyRequests.{ObjectAsked, SpellsReadMany}
use Rattle.summaries.specs.ManySteps.{group_at}
use Rattle.summaries.proofs.Grouped.{group_answers, group_grows, read_many_answers}

-- a request spells one list of objects
pub same_groups : (input : List ℕ) (bytes : IsBytes input) (xs ys : List ObjectAsked) → SpellsReadMany input xs → SpellsReadMany input ys → xs ≡ ys
same_groups input bytes xs ys one other =
    let all = read_many_answers input bytes in
    ok_is xs ys (sym (all.only xs one) ∙ all.only ys other)

-- the next object of those that are left
pub record NextGroup (input : List ℕ) (place : ℕ) (left : List ObjectAsked) : Type 0 where
  pub first : ObjectAsked
  pub next : ℕ
  pub rest : List ObjectAsked
  pub parts : left ≡ first ∷ rest
  pub is : group_at input place ≡ Ok (first, next)
  pub on : place < next
  pub within : next ≤ length input
  pub later : AreAt (IsGroupAt input) next rest (length input)

pub next_group : (input : List ℕ) (bytes : IsBytes input) (place : ℕ) (left : List ObjectAsked) → place < length input → AreAt (IsGroupAt input) place left (length input) → NextGroup input place left
next_group input bytes place [] some are = absurd (let same : length input ≡ place = are in omega (arith, same, some))
next_group input bytes place (x ∷ xs) some are =
    let le : place ≤ length input = omega (arith, some) in
    let grows = group_grows input bytes place x are.0 le are.1 in
    record {
      first = x;
      next = are.0;
      rest = xs;
      parts = refl;
      is = (group_answers input bytes place le).only x are.0 are.1;
      on = grows.0;
      within = grows.1;
      later = are.2;
    }

-- none is left where the request ends
pub none_at_end : (input : List ℕ) (bytes : IsBytes input) (place : ℕ) (left : List ObjectAsked) → place ≡ length input → AreAt (IsGroupAt input) place left (length input) → left ≡ []
none_at_end input bytes place [] ends are = refl
none_at_end input bytes place (x ∷ xs) ends are =
    let grows = group_grows input bytes place x are.0 (omega (arith, ends)) are.1 in
    absurd (omega (arith, grows.0, grows.1, ends))
