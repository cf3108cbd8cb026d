-- Emissions one after the other.
use Rattle.std.proofs.Common.{◌≡◌, ℕ, Option, Some, None, Result, Ok, Err, List, [], ◌∷◌, ◌++◌, refl, ap, ◌∙◌, sym, append_assoc}
use Rattle.std.proofs.lemmas.List.{map-append, append-nil}
use Rattle.bac_values.specs.Address.{console, PeerData}
use Rattle.ground_io.specs.declared.entry.Entry.{Entry}
use Rattle.ground_io.specs.declared.entry.Entry.TheVariants as entry
use Rattle.ground_io.specs.Trace.{Told, Adds}
use Rattle.alarm_server.specs.declared.emission.Unsent.{Unsent}
use Rattle.alarm_server.specs.declared.emission.Unsent.TheVariants.{Lost, NoMemory}
use Rattle.alarm_server.specs.Emission.{Going, sent, lost, LosesNext, SendsUpTo, Sends}

-- nothing shows where nothing went out, and what goes out in two steps goes out over both
pub record Composes (Goes : Going) : Type 0 where
  pub nothing : (told : Option Told) → Goes told told []
  pub followed : (a b c : Option Told) (xs ys : List Entry) → Goes a b xs → Goes b c ys → Goes a c (xs ++ ys)

adds_nothing : (told : Option Told) → Adds told told []
adds_nothing None = tt
adds_nothing (Some now) = (refl, sym (append-nil now.trace))

adds_then : (a b c : Option Told) (xs ys : List Entry) → Adds a b xs → Adds b c ys → Adds a c (xs ++ ys)
adds_then a b None xs ys first second = tt
adds_then a None (Some z) xs ys first second = absurd second
adds_then None (Some y) (Some z) xs ys first second = absurd first
adds_then (Some x) (Some y) (Some z) xs ys first second =
    (second.0 ∙ first.0, second.1 ∙ (ap (λ l. l ++ ys) first.1 ∙ append_assoc x.trace xs ys))

pub adds : Composes Adds
adds = record { nothing = adds_nothing; followed = adds_then }

sent-append : {X : Type 0} (text : X → List ℕ) (xs ys : List X) → sent text (xs ++ ys) ≡ sent text xs ++ sent text ys
sent-append text xs ys = map-append (λ line. entry.Emitted console (text line)) xs ys

-- one line that was lost
pub loses_line : {X : Type 0} (text : X → List ℕ) (line : X) (peer : PeerData) (octets : List ℕ) (a b : Option Told) → peer ≡ console → octets ≡ text line → Adds a b (entry.Lost peer octets ∷ []) → LosesNext Adds text (line ∷ []) a b
loses_line text line peer octets a b to_console same adds = ([], line, [], refl, rw (← to_console, ← same) adds)

-- a front of some lines is a front of more
pub front_more : {X : Type 0} (Goes : Going) (text : X → List ℕ) (fault : Unsent) (a b : Option Told) (xs ys : List X) → SendsUpTo Goes text fault xs a b → SendsUpTo Goes text fault (xs ++ ys) a b
front_more Goes text Lost a b xs ys (front, next, back, whole, goes) = (front, next, back ++ ys, ap (λ l. l ++ ys) whole ∙ append_assoc front (next ∷ back) ys, goes)
front_more Goes text NoMemory a b xs ys (front, back, whole, goes) = (front, back ++ ys, ap (λ l. l ++ ys) whole ∙ append_assoc front back ys, goes)

module _ (Goes : Going) (composes : Composes Goes) where
  pub sent_then : {X : Type 0} (text : X → List ℕ) (a b c : Option Told) (xs ys : List X) → Goes a b (sent text xs) → Goes b c (sent text ys) → Goes a c (sent text (xs ++ ys))
  sent_then text a b c xs ys first second = rw (sent-append text xs ys) (composes.followed a b c (sent text xs) (sent text ys) first second)

  -- lines that all went out, and then a front of others
  pub front_then : {X : Type 0} (text : X → List ℕ) (fault : Unsent) (a b c : Option Told) (xs ys : List X) → Goes a b (sent text xs) → SendsUpTo Goes text fault ys b c → SendsUpTo Goes text fault (xs ++ ys) a c
  front_then text Lost a b c xs ys first (front, next, back, whole, goes) = (
    xs ++ front,
    next,
    back,
    ap (λ l. xs ++ l) whole ∙ sym (append_assoc xs front (next ∷ back)),
    rw (sent-append text xs front, append_assoc) (composes.followed a b c (sent text xs) (sent text front ++ lost text next) first goes),
  )
  front_then text NoMemory a b c xs ys first (front, back, whole, goes) =
      (xs ++ front, back, ap (λ l. xs ++ l) whole ∙ sym (append_assoc xs front back), sent_then text a b c xs front first goes)

  -- the lines in front went out, and then those behind or a front of them
  pub sends_then : {X A : Type 0} (text : X → List ℕ) (r : Result A Unsent) (a b c : Option Told) (xs ys : List X) → Goes a b (sent text xs) → Sends Goes text r ys b c → Sends Goes text r (xs ++ ys) a c
  sends_then text (Ok x) a b c xs ys first second = sent_then text a b c xs ys first second
  sends_then text (Err fault) a b c xs ys first second = front_then text fault a b c xs ys first second
