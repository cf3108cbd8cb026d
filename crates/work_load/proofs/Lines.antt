-- The lines of a script and the objects of a site, one after the other.
use Rattle.std.proofs.Common.{◌≡◌, ℕ, ◌+◌, ◌-◌, ◌<◌, zero, suc, List, [], ◌++◌, refl, ap, ◌∙◌, sym, arith, append_assoc}
use Rattle.std.proofs.lemmas.List.{append-nil}
use Rattle.work_load.specs.Script.{line_text, lines_from, seed_behind}
use Rattle.work_load.specs.Site.{object_text, objects_text}

pub lines-none : (number seed : ℕ) → lines_from number seed 0 ≡ []
unfolding lines_from
lines-none number seed = refl

lines-suc : (number seed more : ℕ) → lines_from number seed (suc more) ≡ line_text number seed ++ lines_from (number + 1) (seed_behind number seed) more
unfolding lines_from
lines-suc number seed more = refl

-- one line, and those behind it
pub lines-first : (number seed left more : ℕ) → left ≡ more + 1 → lines_from number seed left ≡ line_text number seed ++ lines_from (number + 1) (seed_behind number seed) more
lines-first number seed left more e =
    let is : left ≡ suc more = omega arith in
    ap (lines_from number seed) is ∙ lines-suc number seed more

-- what is written and what is to come is all, one line on
pub goes_on : (all written behind : List ℕ) (number number' seed seed' left more : ℕ) → all ≡ written ++ lines_from number seed left → left ≡ more + 1 → number' ≡ number + 1 → seed' ≡ seed_behind number seed → behind ≡ written ++ line_text number seed → all ≡ behind ++ lines_from number' seed' more
goes_on all written behind number number' seed seed' left more e count next drawn grown =
    e
    ∙ (ap (λ l. written ++ l) (lines-first number seed left more count)
    ∙ (sym (append_assoc written (line_text number seed) (lines_from (number + 1) (seed_behind number seed) more))
    ∙ (ap (λ l. l ++ lines_from (number + 1) (seed_behind number seed) more) (sym grown)
    ∙ (ap (λ n. behind ++ lines_from n (seed_behind number seed) more) (sym next)
    ∙ ap (λ s. behind ++ lines_from number' s more) (sym drawn)))))

-- nothing is to come
pub all_written : (all written : List ℕ) (number seed left : ℕ) → all ≡ written ++ lines_from number seed left → left ≡ 0 → written ≡ all
all_written all written number seed left e none =
    sym (e ∙ (ap (λ n. written ++ lines_from number seed n) none ∙ (ap (λ l. written ++ l) (lines-none number seed) ∙ append-nil written)))

pub objects-none : objects_text 0 ≡ []
unfolding objects_text
objects-none = refl

objects-suc : (count : ℕ) → objects_text (suc count) ≡ objects_text count ++ object_text count
unfolding objects_text
objects-suc count = refl

pub objects-next : (count : ℕ) → objects_text (count + 1) ≡ objects_text count ++ object_text count
objects-next count = let is : count + 1 ≡ suc count = omega arith in ap objects_text is ∙ objects-suc count
