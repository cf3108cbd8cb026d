-- Emissions between which the disk may be written.
use Rattle.std.proofs.Common.{◌≡◌, ℕ, Option, List, [], ◌∷◌, ◌++◌, refl, ap, ◌∙◌, sym, append_assoc}
use Rattle.std.proofs.lemmas.List.{append-nil}
use Rattle.bac_values.specs.Address.{console}
use Rattle.ground_io.specs.declared.entry.Entry.{Entry}
use Rattle.ground_io.specs.declared.entry.Entry.TheVariants as entry
use Rattle.ground_io.specs.Sent.{emissions, sent_after, sent_with}
use Rattle.ground_io.specs.Trace.{Told, Adds}
use Rattle.alarm_server.specs.declared.emission.Unsent.{Unsent}
use Rattle.alarm_server.specs.declared.emission.Unsent.TheVariants.{Lost, NoMemory}
use Rattle.state_codec.specs.Emission.{Emits}
use Rattle.alarm_server.specs.Emission.{sent, lost, SendsUpTo}
use Rattle.alarm_server.proofs.Sending.{Composes, adds}

-- ---- the emissions of a stretch, and of one behind it

sent_after-append : (first second sent : List Entry) → sent_after (first ++ second) sent ≡ sent_after second (sent_after first sent)
sent_after-append [] second sent = refl
sent_after-append (entry ∷ first) second sent = sent_after-append first second (sent_with entry sent)

-- what is sent stands behind what was sent before
behind : (one : Entry) (entries sent : List Entry) → sent_after entries (sent ++ one ∷ []) ≡ (sent ++ one ∷ []) ++ emissions entries → sent_after entries (one ∷ []) ≡ (one ∷ []) ++ emissions entries
    → sent_after entries (sent ++ one ∷ []) ≡ sent ++ sent_after entries (one ∷ [])
behind one entries sent more only = more ∙ (append_assoc sent (one ∷ []) (emissions entries) ∙ ap (λ l. sent ++ l) (sym only))

sent_after-behind : (entries sent : List Entry) → sent_after entries sent ≡ sent ++ emissions entries
sent_after-behind [] sent = sym (append-nil sent)
sent_after-behind (entry.Wrote place octets ∷ entries) sent = sent_after-behind entries sent
sent_after-behind (entry.Broke place tried left ∷ entries) sent = sent_after-behind entries sent
sent_after-behind (entry.Synced ∷ entries) sent = sent_after-behind entries sent
sent_after-behind (entry.Emitted peer octets ∷ entries) sent =
    let one = entry.Emitted peer octets in
    behind one entries sent (sent_after-behind entries (sent ++ one ∷ [])) (sent_after-behind entries (one ∷ []))
sent_after-behind (entry.Lost peer octets ∷ entries) sent =
    let one = entry.Lost peer octets in
    behind one entries sent (sent_after-behind entries (sent ++ one ∷ [])) (sent_after-behind entries (one ∷ []))

emissions-append : (first second : List Entry) → emissions (first ++ second) ≡ emissions first ++ emissions second
emissions-append first second = sent_after-append first second [] ∙ sent_after-behind second (emissions first)

-- ---- one step, and another behind it

emits_nothing : (told : Option Told) → Emits told told []
emits_nothing told = ([], adds.nothing told, refl)

emits_then : (a b c : Option Told) (xs ys : List Entry) → Emits a b xs → Emits b c ys → Emits a c (xs ++ ys)
emits_then a b c xs ys (more, first, are) (others, second, too) =
    (more ++ others, adds.followed a b c more others first second, emissions-append more others ∙ (ap (λ l. l ++ emissions others) are ∙ ap (λ l. xs ++ l) too))

pub emits : Composes Emits
emits = record { nothing = emits_nothing; followed = emits_then }

-- ---- of pieces

emissions_sent : {X : Type 0} (text : X → List ℕ) (pieces : List X) → emissions (sent text pieces) ≡ sent text pieces
emissions_sent text [] = refl
emissions_sent text (piece ∷ pieces) =
    let one = entry.Emitted console (text piece) in sent_after-behind (sent text pieces) (one ∷ []) ∙ ap (λ l. one ∷ l) (emissions_sent text pieces)

-- pieces that are all that happens are those emissions
pub emits_sent : {X : Type 0} (text : X → List ℕ) (pieces : List X) (old new : Option Told) → Adds old new (sent text pieces) → Emits old new (sent text pieces)
emits_sent text pieces old new goes = (sent text pieces, goes, emissions_sent text pieces)

pub emits_up_to : {X : Type 0} (text : X → List ℕ) (fault : Unsent) (pieces : List X) (old new : Option Told) → SendsUpTo Adds text fault pieces old new → SendsUpTo Emits text fault pieces old new
emits_up_to text Lost pieces old new (front, next, back, whole, goes) =
    let entries = sent text front ++ lost text next in
    let same = emissions-append (sent text front) (lost text next) ∙ ap (λ l. l ++ lost text next) (emissions_sent text front) in
    (front, next, back, whole, (entries, goes, same))
emits_up_to text NoMemory pieces old new (front, back, whole, goes) = (front, back, whole, emits_sent text front old new goes)
