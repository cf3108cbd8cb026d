-- Reading parts one after the other, as a loop does.
use Rattle.std.proofs.Common.{◌≡◌, ℕ, zero, suc, ◌-◌, ◌+◌, ◌≤◌, ◌<◌, List, [], ◌∷◌, ◌++◌, get_or, drop, length, Option, Some, None, Result, Ok, Err, IfOk, refl, sym, ap, ◌∙◌, append_assoc, append-nil, arith}
use Rattle.std.proofs.Math.Seq.{drop-cons}
use Rattle.state_codec.specs.declared.reading.ReadFault.{ReadFault}
use Rattle.state_codec.specs.declared.reading.ReadFault.TheVariants as faults
use Rattle.state_codec.specs.ReadingSteps.{◌>>=◌, Fails, Gives}
use Rattle.event_log.specs.Log.{number_back}
use Rattle.state_codec.specs.SnapshotSteps.{each_at, numbers_up_to, times_at}
use Rattle.state_codec.proofs.Behind.{bind_some, some_is}

-- those that were read before, and those that are still read
abbrev pub in_front : {X : Type 0} → List X → Option (List X × List ℕ) → Option (List X × List ℕ)
in_front front read = read >>= λ x. Some (front ++ x.0, x.1)

regroup : {X : Type 0} (front : List X) (first : X) (read : Option (List X × List ℕ)) → in_front front (read >>= λ x. Some (first ∷ x.0, x.1)) ≡ in_front (front ++ first ∷ []) read
regroup {X = X} front first (Some x) = ap (λ (others : List X). Some (others, x.1)) (sym (append_assoc front (first ∷ []) x.0))
regroup front first None = refl

pub nothing_in_front : {X : Type 0} (read : Option (List X × List ℕ)) → in_front [] read ≡ read
nothing_in_front (Some x) = refl
nothing_in_front None = refl

-- ---- a part for each of some guides

-- the guide at a place, and those behind it
pub splits_at : {S : Type 0} (guides : List S) (i : ℕ) (guide : S) → i < length guides → guide ≡ get_or guides i guide → drop i guides ≡ guide ∷ drop (i + 1) guides
splits_at {S = S} guides i guide lt is =
    let next : suc i ≡ i + 1 = omega arith in
    drop-cons guides i guide lt ∙ ap (λ (n : ℕ). get_or guides i guide ∷ drop n guides) next ∙ ap (λ (x : S). x ∷ drop (i + 1) guides) (sym is)

pub each_goes_on : {S X : Type 0} (read : S → List ℕ → Option (X × List ℕ)) (front : List X) (guides : List S) (guide : S) (others : List S) (octets : List ℕ) (first : X) (after : List ℕ) (total : Option (List X × List ℕ))
    → guides ≡ guide ∷ others → read guide octets ≡ Some (first, after) → in_front front (each_at read guides octets) ≡ total → in_front (front ++ first ∷ []) (each_at read others after) ≡ total
unfolding each_at
each_goes_on read front guides guide others octets first after total split is so_far =
    let one : in_front front (each_at read guides octets) ≡ in_front (front ++ first ∷ []) (each_at read others after) = rw (split, is) (regroup front first (each_at read others after)) in
    sym one ∙ so_far

pub each_ends : {S X : Type 0} (read : S → List ℕ → Option (X × List ℕ)) (fault : ReadFault) (front : List X) (guides : List S) (guide : S) (others : List S) (octets : List ℕ) (total : Option (List X × List ℕ))
    → guides ≡ guide ∷ others → Fails fault (read guide octets) → in_front front (each_at read guides octets) ≡ total → Fails fault total
unfolding each_at
each_ends read faults.NoMemory front guides guide others octets total split is so_far = tt
each_ends read faults.NothingThere front guides guide others octets total split is so_far =
    let one : in_front front (each_at read guides octets) ≡ None = rw (split, is) refl in
    sym so_far ∙ one

pub each_is_done : {S X : Type 0} (read : S → List ℕ → Option (X × List ℕ)) (front : List X) (guides : List S) (octets : List ℕ) (total : Option (List X × List ℕ)) → guides ≡ [] → in_front front (each_at read guides octets) ≡ total → total ≡ Some (front, octets)
unfolding each_at
each_is_done {X = X} read front guides octets total none so_far =
    let one : in_front front (each_at read guides octets) ≡ Some (front, octets) = rw none (ap (λ (all : List X). Some (all, octets)) (append-nil front)) in
    sym so_far ∙ one

-- ---- so many alike

pub times_goes_on : {X : Type 0} (read : List ℕ → Option (X × List ℕ)) (front : List X) (count i : ℕ) (octets : List ℕ) (first : X) (after : List ℕ) (total : Option (List X × List ℕ)) → i < count → read octets ≡ Some (first, after)
    → in_front front (times_at read (count - i) octets) ≡ total → in_front (front ++ first ∷ []) (times_at read (count - (i + 1)) after) ≡ total
unfolding times_at
times_goes_on read front count i octets first after total lt is so_far =
    let more : count - i ≡ suc (count - (i + 1)) = omega arith in
    let one : in_front front (times_at read (count - i) octets) ≡ in_front (front ++ first ∷ []) (times_at read (count - (i + 1)) after) = rw (more, is) (regroup front first (times_at read (count - (i + 1)) after)) in
    sym one ∙ so_far

pub times_ends : {X : Type 0} (read : List ℕ → Option (X × List ℕ)) (fault : ReadFault) (front : List X) (count i : ℕ) (octets : List ℕ) (total : Option (List X × List ℕ)) → i < count → Fails fault (read octets)
    → in_front front (times_at read (count - i) octets) ≡ total → Fails fault total
unfolding times_at
times_ends read faults.NoMemory front count i octets total lt is so_far = tt
times_ends read faults.NothingThere front count i octets total lt is so_far =
    let more : count - i ≡ suc (count - (i + 1)) = omega arith in
    let one : in_front front (times_at read (count - i) octets) ≡ None = rw (more, is) refl in
    sym so_far ∙ one

pub times_is_done : {X : Type 0} (read : List ℕ → Option (X × List ℕ)) (front : List X) (count i : ℕ) (octets : List ℕ) (total : Option (List X × List ℕ)) → count ≤ i → in_front front (times_at read (count - i) octets) ≡ total → total ≡ Some (front, octets)
unfolding times_at
times_is_done {X = X} read front count i octets total le so_far =
    let none : count - i ≡ 0 = omega arith in
    let one : in_front front (times_at read (count - i) octets) ≡ Some (front, octets) = rw none (ap (λ (all : List X). Some (all, octets)) (append-nil front)) in
    sym so_far ∙ one

-- ---- numbers of records

pub numbers_split : (total left : ℕ) → 0 < left → numbers_up_to total left ≡ number_back total (left - 1) ∷ numbers_up_to total (left - 1)
numbers_split total zero lt = absurd (omega (arith, lt))
numbers_split total (suc left) lt =
    let one : left ≡ suc left - 1 = omega arith in
    ap (λ (n : ℕ). number_back total n ∷ numbers_up_to total n) one

-- ---- how many there are

long_of : {X : Type 0} (read : List ℕ → Option (X × List ℕ)) (count : ℕ) (octets : List ℕ) (xs : List X) (rest : List ℕ) → times_at read count octets ≡ Some (xs, rest) → length xs ≡ count
unfolding times_at
long_of {X = X} read zero octets xs rest e = ap (λ (p : List X × List ℕ). length p.0) (sym (some_is ([], octets) (xs, rest) e))
long_of {X = X} read (suc count) octets xs rest e =
    let a = bind_some (read octets) (λ first. times_at read count first.1 >>= λ others. Some (first.0 ∷ others.0, others.1)) (xs, rest) e in
    let b = bind_some (times_at read count a.0.1) (λ others. Some (a.0.0 ∷ others.0, others.1)) (xs, rest) a.2 in
    ap (λ (p : List X × List ℕ). length p.0) (sym (some_is (a.0.0 ∷ b.0.0, b.0.1) (xs, rest) b.2)) ∙ ap suc (long_of read count a.0.1 b.0.0 b.0.1 b.1)

pub times_long : {V X : Type 0} (view : V → List X) (after : List ℕ) (r : Result V ReadFault) (read : List ℕ → Option (X × List ℕ)) (count : ℕ) (octets : List ℕ) → Gives (λ x. (view x, after)) r (times_at read count octets) → IfOk r (λ x. length (view x) ≡ count)
times_long view after (Ok x) read count octets given = long_of read count octets (view x) after given
times_long view after (Err fault) read count octets given = tt
