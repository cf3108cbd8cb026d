-- Reading recipients one after the other, as a loop does.
use Rattle.std.proofs.Common.{◌≡◌, ℕ, suc, ◌-◌, ◌+◌, ◌≤◌, ◌<◌, List, [], ◌∷◌, ◌++◌, Option, Some, None, refl, sym, ap, ◌∙◌, append_assoc, append-nil, arith}
use Rattle.notify_class.specs.Recipients.{DestinationData}
use Rattle.state_codec.specs.declared.reading.ReadFault.{ReadFault}
use Rattle.state_codec.specs.declared.reading.ReadFault.TheVariants as faults
use Rattle.state_codec.specs.ReadingSteps.{◌>>=◌, Fails, destination_at, list_at}

-- those that were read before, and those that are still read
abbrev pub with_front : List DestinationData → Option (List DestinationData × List ℕ) → Option (List DestinationData × List ℕ)
with_front front read = read >>= λ x. Some (front ++ x.0, x.1)

regroup : (front : List DestinationData) (first : DestinationData) (read : Option (List DestinationData × List ℕ)) → with_front front (read >>= λ x. Some (first ∷ x.0, x.1)) ≡ with_front (front ++ first ∷ []) read
regroup front first (Some x) = ap (λ (others : List DestinationData). Some (others, x.1)) (sym (append_assoc front (first ∷ []) x.0))
regroup front first None = refl

pub goes_on : (front : List DestinationData) (count i : ℕ) (octets : List ℕ) (first : DestinationData) (after : List ℕ) (total : Option (List DestinationData × List ℕ)) → i < count → destination_at octets ≡ Some (first, after)
    → with_front front (list_at (count - i) octets) ≡ total → with_front (front ++ first ∷ []) (list_at (count - (i + 1)) after) ≡ total
unfolding list_at
goes_on front count i octets first after total lt is so_far =
    let more : count - i ≡ suc (count - (i + 1)) = omega arith in
    let one : with_front front (list_at (count - i) octets) ≡ with_front (front ++ first ∷ []) (list_at (count - (i + 1)) after) = rw (more, is) (regroup front first (list_at (count - (i + 1)) after)) in
    sym one ∙ so_far

pub ends : (fault : ReadFault) (front : List DestinationData) (count i : ℕ) (octets : List ℕ) (total : Option (List DestinationData × List ℕ)) → i < count → Fails fault (destination_at octets)
    → with_front front (list_at (count - i) octets) ≡ total → Fails fault total
unfolding list_at
ends faults.NoMemory front count i octets total lt is so_far = tt
ends faults.NothingThere front count i octets total lt is so_far =
    let more : count - i ≡ suc (count - (i + 1)) = omega arith in
    let one : with_front front (list_at (count - i) octets) ≡ None = rw (more, is) refl in
    sym so_far ∙ one

pub is_done : (front : List DestinationData) (count i : ℕ) (octets : List ℕ) (total : Option (List DestinationData × List ℕ)) → count ≤ i → with_front front (list_at (count - i) octets) ≡ total → total ≡ Some (front, octets)
unfolding list_at
is_done front count i octets total le so_far =
    let none : count - i ≡ 0 = omega arith in
    let one : with_front front (list_at (count - i) octets) ≡ Some (front, octets) = rw none (ap (λ (all : List DestinationData). Some (all, octets)) (append-nil front)) in
    sym so_far ∙ one
