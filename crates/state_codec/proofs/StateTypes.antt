-- What the types of a state's parts say, of one more of a list.
use Rattle.std.proofs.Common.{ℕ, ◌+◌, ◌<◌, IfSome, List, [], ◌∷◌, length, take, slice_get, subst, arith}
use Rattle.std.specs.List.{All}
use Rattle.std.proofs.lemmas.Option.{slice_get-get_or}
use Rattle.std.proofs.lemmas.List.Elements.{All-more}

-- the element at a place is one more of those in front
pub some_more : {X : Type 0} (P : X → Type 0) (xs : List X) (i : ℕ) → i < length xs → All P (take i xs) → IfSome (slice_get xs i) P → All P (take (i + 1) xs)
some_more P [] i lt so_far is = let no : ⊥ = omega arith in absurd no
some_more P (first ∷ others) i lt so_far is =
    let xs = first ∷ others in
    All-more P xs i first lt so_far (subst (λ o. IfSome o P) (slice_get-get_or xs i first lt) is)
