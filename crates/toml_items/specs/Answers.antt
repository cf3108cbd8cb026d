-- One step after the other up to the first fault, and what a call answers that may want memory.
use Rattle.std.specs.Prelude.{◌≡◌, ◌⊎◌, Result, Ok, Err}

-- the next step takes what the one before it gives; a fault ends all
infixl 10 ◌>>=◌
abbrev pub ◌>>=◌ : {A B E : Type 0} → Result A E → (A → Result B E) → Result B E
(Ok x) >>= next = next x
(Err fault) >>= next = Err fault

-- a call gives what is meant, or the fault that is meant, unless memory was refused, which has a fault of its own
abbrev pub Gives : {A E : Type 0} → E → Result A E → Result A E → Type 0
Gives no_memory (Ok x) meant = meant ≡ Ok x
Gives no_memory (Err fault) meant = (fault ≡ no_memory) ⊎ (meant ≡ Err fault)

-- the same of a value that is seen by a function
abbrev pub GivesSeen : {A B E : Type 0} → (A → B) → E → Result A E → Result B E → Type 0
GivesSeen seen no_memory (Ok x) meant = meant ≡ Ok (seen x)
GivesSeen seen no_memory (Err fault) meant = (fault ≡ no_memory) ⊎ (meant ≡ Err fault)
