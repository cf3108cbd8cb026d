-- A history of calls that is one call longer.
use Rattle.std.proofs.Common.{◌≡◌, ℕ, List, [], ◌∷◌, ◌++◌, length, refl, sym, ap, ◌∙◌, arith, append_assoc, append-nil, length-append, map}
use Rattle.std.specs.Prelude.{Vec, sum_by}
use Rattle.std.proofs.lemmas.List.Sums.{sum_by-cons}
use Rattle.std.specs.declared.alloc.Global.{Global}
use Rattle.turnstile.specs.Passes.{Known, Sees, IsWhole, all_calls}
use Rattle.shared_list.specs.declared.list.Call.{Call}
use Rattle.shared_list.specs.Calls.{entries_of, appended, calls_of, Stand}
use Rattle.turnstile.proofs.Wholes.{whole_sum}
use Rattle.shared_list.specs.declared.list.Call.TheVariants.{Appended}

-- one more call appends its entries at the end
pub appended-snoc : (history : List (ℕ × Call)) (c : ℕ × Call) → appended (history ++ c ∷ []) ≡ appended history ++ entries_of c.1
appended-snoc [] c = append-nil (entries_of c.1)
appended-snoc (x ∷ history) c = ap (λ z. entries_of x.1 ++ z) (appended-snoc history c) ∙ sym (append_assoc (entries_of x.1) (appended history) (entries_of c.1))

-- a list to which a call's entries were appended is what the history with the call gives
pub stands_after : (list now : List ℕ) (history : List (ℕ × Call)) (number : ℕ) (call : Call) → list ≡ appended history → now ≡ list ++ entries_of call → now ≡ appended (history ++ (number, call) ∷ [])
stands_after list now history number call stood is = is ∙ (ap (λ z. z ++ entries_of call) stood ∙ sym (appended-snoc history (number, call)))

-- at its turn a whole pass sees each of its lists of calls stand in the history, and nothing else
pub stand : (licenses : List (ℕ × Call) → ℕ → Type 0) (p q : Known Call (Unit {0})) (lists : List (List Call)) → Sees licenses p q → IsWhole p → map (λ (c : ℕ × List Call). c.1) (all_calls p) ≡ lists → Stand q.seen lists
stand licenses p q lists sees whole are = record {
  calls = all_calls q;
  are = ap (λ (k : Known Call (Unit {0})). map (λ (c : ℕ × List Call). c.1) (all_calls k)) sees.same ∙ are;
  accounts = sees.accounts;
  once = sees.once;
  only = sees.only whole;
}

abbrev size : Call → ℕ
size c = length (entries_of c)

abbrev size_here : ℕ × Call → ℕ
size_here c = size c.1

abbrev sizes : ℕ × List Call → ℕ
sizes c = sum_by size c.1

abbrev items_in : Vec ℕ Global → ℕ
items_in each = length each.items

-- a list is as long as what its calls append
long : (history : List (ℕ × Call)) → length (appended history) ≡ sum_by size_here history
long [] = refl
long (c ∷ history) = omega (arith, length-append (entries_of c.1) (appended history), sum_by-cons size_here c history, long history)

long_calls : (items : List ℕ) → sum_by size (map Appended items) ≡ length items
long_calls [] = refl
long_calls (x ∷ items) = omega (arith, sum_by-cons size (Appended x) (map Appended items), long_calls items)

long_lists : (calls : List (ℕ × List Call)) (lists : List (Vec ℕ Global)) → map (λ (c : ℕ × List Call). c.1) calls ≡ calls_of lists
    → sum_by sizes calls ≡ sum_by items_in lists
long_lists [] [] are = refl
long_lists [] (l ∷ lists) are = cc
long_lists (c ∷ calls) [] are = cc
long_lists (c ∷ calls) (l ∷ lists) are =
    let first : c.1 ≡ map Appended l.items = cc in let rest : map (λ (d : ℕ × List Call). d.1) calls ≡ calls_of lists = cc in
    let one = ap (sum_by size) first in omega (arith, sum_by-cons sizes c calls, sum_by-cons items_in l lists, long_calls l.items, long_lists calls lists rest)

-- where lists stand in a history and nothing else does, what it appends is as long as they are together
pub long_stand : (history : List (ℕ × Call)) (lists : List (Vec ℕ Global)) → Stand history (calls_of lists) → length (appended history) ≡ sum_by items_in lists
long_stand history lists stood =
    long history ∙ (whole_sum size history stood.calls stood.accounts stood.once stood.only ∙ long_lists stood.calls lists stood.are)
