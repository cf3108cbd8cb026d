-- A list of one thread, and the histories of its calls.
use Rattle.std.specs.Prelude.{◌≡◌, ℕ, List, [], ◌∷◌, ◌++◌, map, Vec}
use Rattle.std.specs.declared.alloc.Global.{Global}
use Rattle.turnstile.specs.Histories.{Accounts, IsOnce, NoOther}
use Rattle.turnstile.specs.Passes.{Known}
use Rattle.shared_list.specs.declared.list.Call.{Call}
use Rattle.shared_list.specs.declared.list.Call.TheVariants.{Appended, Refused}

-- the entries that a call appends
abbrev pub entries_of : Call → List ℕ
entries_of (Appended entry) = entry ∷ []
entries_of Refused = []

-- the list that the calls of a history give, one after the other
abbrev pub appended : List (ℕ × Call) → List ℕ
appended [] = []
appended (c ∷ cs) = entries_of c.1 ++ appended cs

-- the history after a call begins with all that the pass had seen and ends with the call, which is one more of the pass's own
pub record Makes (p q : Known Call (Unit {0})) (call : Call) : Type 0 where
  pub between : List (ℕ × Call)
  pub same : q ≡ record p { mine = p.mine ++ call ∷ []; seen = (p.seen ++ between) ++ (p.number, call) ∷ [] }

-- for each of the lists the calls that append it
abbrev pub calls_of : List (Vec ℕ Global) → List (List Call)
calls_of lists = map (λ list. map Appended list.items) lists

-- each list of calls stands in the history under a number of its own: under that number the history has just these calls, in their order. The history has nothing else
pub record Stand (history : List (ℕ × Call)) (lists : List (List Call)) : Type 0 where
  pub calls : List (ℕ × List Call)
  pub are : map (λ c. c.1) calls ≡ lists
  pub accounts : Accounts history calls
  pub once : IsOnce calls
  pub only : NoOther history calls
