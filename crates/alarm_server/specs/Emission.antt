-- What goes out of a report: one emission to the console for each piece of it, whose text is given.
use Rattle.std.specs.Prelude.{◌≡◌, ℕ, List, [], ◌∷◌, ◌++◌, map, Option, Result, Ok, Err}
use Rattle.bac_values.specs.Address.{console}
use Rattle.ground_io.specs.declared.entry.Entry.{Entry}
use Rattle.ground_io.specs.declared.entry.Entry.TheVariants as entry
use Rattle.ground_io.specs.Trace.{Told}
use Rattle.alarm_server.specs.declared.emission.Unsent.{Unsent}
use Rattle.alarm_server.specs.declared.emission.Unsent.TheVariants.{Lost, NoMemory}
use Rattle.alarm_server.specs.declared.status.Status.{Status}
use Rattle.alarm_server.specs.declared.status.Status.TheVariants as status

-- How what went out shows in what a ground tells before and after: by `Adds` where nothing else happened to it, by `Emits` where its disk may have been written as well.
abbrev pub Going : Type 1
Going = Option Told → Option Told → List Entry → Type 0

-- pieces that went out
abbrev pub sent : {X : Type 0} → (X → List ℕ) → List X → List Entry
sent text pieces = map (λ piece. entry.Emitted console (text piece)) pieces

-- a piece that may have gone out in part, or not at all
abbrev pub lost : {X : Type 0} → (X → List ℕ) → X → List Entry
lost text piece = entry.Lost console (text piece) ∷ []

-- a front of these pieces went out, and no more of them
abbrev pub SendsFront : {X : Type 0} → Going → (X → List ℕ) → List X → Option Told → Option Told → Type 0
SendsFront {X} Goes text pieces old new = (front : List X) × (back : List X) × (pieces ≡ front ++ back) × Goes old new (sent text front)

-- a front of these pieces went out, and the next one was lost
abbrev pub LosesNext : {X : Type 0} → Going → (X → List ℕ) → List X → Option Told → Option Told → Type 0
LosesNext {X} Goes text pieces old new =
    (front : List X) × (next : X) × (back : List X) × (pieces ≡ front ++ next ∷ back) × Goes old new (sent text front ++ lost text next)

-- these pieces were to go out, and something was in the way
abbrev pub SendsUpTo : {X : Type 0} → Going → (X → List ℕ) → Unsent → List X → Option Told → Option Told → Type 0
SendsUpTo Goes text Lost pieces old new = LosesNext Goes text pieces old new
SendsUpTo Goes text NoMemory pieces old new = SendsFront Goes text pieces old new

-- these pieces were to go out, and they did, or something was in the way
abbrev pub Sends : {X A : Type 0} → Going → (X → List ℕ) → Result A Unsent → List X → Option Told → Option Told → Type 0
Sends Goes text (Ok x) pieces old new = Goes old new (sent text pieces)
Sends Goes text (Err fault) pieces old new = SendsUpTo Goes text fault pieces old new

-- what a program that ended so has emitted of its report
abbrev pub Ends : {X : Type 0} → Going → (X → List ℕ) → Status → List X → Option Told → Option Told → Type 0
Ends Goes text status.Done pieces old new = Goes old new (sent text pieces)
Ends Goes text status.Usage pieces old new = Goes old new []
Ends Goes text (status.SiteRefused fault) pieces old new = Goes old new []
Ends Goes text (status.ScriptRefused line) pieces old new = Goes old new (sent text pieces)
Ends Goes text status.ReadFault pieces old new = SendsFront Goes text pieces old new
Ends Goes text status.EmitFault pieces old new = LosesNext Goes text pieces old new
Ends Goes text status.DiskFault pieces old new = SendsFront Goes text pieces old new
Ends Goes text (status.JournalRefused fault) pieces old new = Goes old new []
Ends Goes text status.LinkFault pieces old new = Goes old new []
Ends Goes text status.NoMemory pieces old new = SendsFront Goes text pieces old new
