-- Datagrams that a receiver takes and tries, one more each time.
use Rattle.std.proofs.Common.{◌≡◌, ◌≤◌, ℕ, ◌+◌, List, [], ◌∷◌, ◌++◌, arith, refl, sym, ap, ◌∙◌, subst, inl, inr, ⊎_elim, true≢false, append_assoc}
use mathlib.Core.Logic.{dite}
use native.Mathlib.Decide.{dec_le}
use Rattle.std.proofs.Math.Nat.{min-eq_left, min_comm}
use Rattle.std.proofs.lemmas.List.{append-nil, drop-drop, take_all, length-append, map-append}
use Rattle.std.proofs.lemmas.List.Elements.{All-append, All-cons, All-nil}
use Rattle.std.proofs.Math.Seq.{take-add}
use Rattle.std.specs.Prelude.{◌⊎◌, length, take, drop, map, min, Ok, Err, IfSome, IsTrue, false, Option, Some, None, Result}
use Rattle.bac_values.specs.Limits.{most_datagram_octets}
use Rattle.std.specs.List.{All}
use Rattle.bac_values.specs.Address.{PeerData}
use Rattle.bac_values.specs.declared.input.Input.{Input}
use Rattle.bac_values.specs.declared.input.Input.TheVariants.{Datagram as Entered}
use Rattle.ground_io.specs.Link.{Receives}
use Rattle.ground_io.specs.declared.link.Received.TheVariants.{Datagram}
use Rattle.bac_values.specs.declared.note.Send.{Send}
use Rattle.turnstile.specs.Passes.{Known}
use Rattle.alarm_core.specs.State.{CoreState}
use Rattle.alarm_journal.specs.Press.{PressState}
use Rattle.floor_desk.specs.declared.entry.Entry.{Entry}
use Rattle.floor_desk.specs.declared.entry.Entry.TheVariants.{Looked}
use Rattle.floor_desk.specs.declared.entry.Look.TheVariants.{Refused}
use Rattle.floor_desk.specs.declared.faults.CommitFault.TheVariants as commits
use Rattle.floor_desk.specs.declared.entry.Ticket.{Ticket}
use Rattle.floor_desk.specs.declared.faults.EnterFault.{EnterFault}
use Rattle.floor_desk.specs.declared.faults.EnterFault.TheVariants as enters
use Rattle.ground_io.specs.declared.link.Received.{Received}
use Rattle.floor_desk.specs.declared.receiver.Ends.{Ends}
use Rattle.floor_desk.specs.Tries.{AreTried, Attempt, GaveUp, IsAnsweredBehind, IsOfCommit, IsOfInput, IsTried, Try, tries_in}
use Rattle.floor_desk.specs.Workers.{AreTaken, HasReceived, IsDatagram, if_lost, input_of, lost_of}
use Rattle.floor_desk.specs.WorkersSteps.{HasCome, HasTried, IsNext, StaysLeft}
use Rattle.floor_desk.proofs.Working.{tries_append, worked_none, worked_then}

abbrev attempt : Input → Result Ticket EnterFault → Attempt
attempt input last = record { input = input; last = last }

-- one more was tried
pub tried_more : (attempts : List Attempt) (one : Attempt) (tries more : List Try) → AreTried attempts tries → IsTried one.input one.last more → AreTried (attempts ++ one ∷ []) (tries ++ more)
tried_more [] one tries more none tried = (more, [], ap (λ z. z ++ more) none ∙ sym (append-nil more), tried, refl)
tried_more (first ∷ rest) one tries more (front, behind, is, now, later) tried =
    (front, behind ++ more, ap (λ z. z ++ more) is ∙ append_assoc front behind more, now, tried_more rest one behind more later tried)

lost_more : (attempts : List Attempt) (one : Attempt) → lost_of (attempts ++ one ∷ []) ≡ lost_of attempts + if_lost one.last
lost_more [] one = omega arith
lost_more (first ∷ rest) one = let more = lost_more rest one in omega arith

-- as many octets as fit are all that fit
take_cut : (n m : ℕ) (xs : List ℕ) → n ≡ min (length xs) m → take n xs ≡ take m xs
take_cut n m xs is = dite (dec_le (length xs) m)
    (λ short. take_all n xs (let a = is in let b = min-eq_left short in omega arith) ∙ sym (take_all m xs short))
    (λ long. ap (λ k. take k xs) (is ∙ (min_comm (length xs) m ∙ min-eq_left (omega arith))))

-- what came over a link is its next datagram
pub next_of : (E : Type 0) (old new : Option (List Send)) (peer : PeerData) (count : ℕ) (before after : List ℕ) → length before ≡ most_datagram_octets → Receives {E = E} old new (Ok (Datagram peer count)) before after → IsNext old new (Entered peer (take count after))
next_of E old None peer count before after long r = tt
next_of E None (Some new) peer count before after long r = absurd r
next_of E (Some []) (Some new) peer count before after long r = absurd r
next_of E (Some (first ∷ rest)) (Some new) peer count before after long r =
    let cut = r.1 in
    let same : take count after ≡ take most_datagram_octets first.bytes = cut.octets ∙ take_cut count most_datagram_octets first.bytes (cut.cut ∙ ap (λ z. min (length first.bytes) z) long) in
    (r.0, ap (λ z. Entered z (take count after)) cut.sender ∙ ap (λ z. Entered first.peer z) same)

-- if it came
pub next_in : (E : Type 0) (old new : Option (List Send)) (received : Received) (before after : List ℕ) (result : Option Input) → length before ≡ most_datagram_octets → Receives {E = E} old new (Ok received) before after → IfSome result (HasCome received after) → IfSome result (IsNext old new)
next_in E old new received before after None long r h = h
next_in E old new received before after (Some input) long r h =
    subst (λ i. IsNext old new i) (sym h.input_is) (next_of E old new h.peer h.length before after long (subst (λ x. Receives {E = E} old new (Ok x) before after) h.is r))

pub lost_once : (last : Result Ticket EnterFault) → if_lost last ≤ 1
lost_once (Ok ticket) = omega arith
lost_once (Err fault) = omega arith

take_one : (o rest : List Send) (first : Send) (k : ℕ) → drop k o ≡ first ∷ rest → take (k + 1) o ≡ take k o ++ first ∷ []
take_one o rest first k is = take-add k 1 o ∙ ap (λ z. take k o ++ take 1 z) is

drop_one : (o rest : List Send) (first : Send) (k : ℕ) → drop k o ≡ first ∷ rest → drop (k + 1) o ≡ rest
drop_one o rest first k is = sym (drop-drop 1 k o) ∙ ap (λ z. drop 1 z) is

length_more : {A : Type 0} (xs : List A) (x : A) → length (xs ++ x ∷ []) ≡ length xs + 1
length_more xs x = length-append xs (x ∷ [])

told_next : (o m n : List Send) (attempts : List Attempt) (one : Attempt) → AreTaken (Some o) (Some m) attempts → IsNext (Some m) (Some n) one.input → AreTaken (Some o) (Some n) (attempts ++ one ∷ [])
told_next o [] n attempts one taken next = absurd next
told_next o (first ∷ rest) n attempts one taken next =
    let inputs : Attempt → Input = λ (a : Attempt). a.input in
    let long = length_more attempts one in (
      map-append inputs attempts (one ∷ [])
          ∙ (ap (λ (z : List Input). z ++ one.input ∷ []) taken.0
          ∙ (ap (λ (z : Input). map input_of (take (length attempts) o) ++ z ∷ []) next.1
          ∙ (sym (map-append input_of (take (length attempts) o) (first ∷ []))
          ∙ ap (λ (z : List Send). map input_of z) (sym (take_one o rest first (length attempts) (sym taken.1)) ∙ ap (λ k. take k o) (sym long))))),
      next.0 ∙ (sym (drop_one o rest first (length attempts) (sym taken.1)) ∙ ap (λ k. drop k o) (sym long)),
    )

pub taken_more : (old mid new : Option (List Send)) (attempts : List Attempt) (one : Attempt) → AreTaken old mid attempts → IsNext mid new one.input → AreTaken old new (attempts ++ one ∷ [])
taken_more old mid None attempts one taken next = tt
taken_more old None (Some n) attempts one taken next = absurd next
taken_more None (Some m) (Some n) attempts one taken next = absurd taken
taken_more (Some o) (Some m) (Some n) attempts one taken next = told_next o m n attempts one taken next

taken_still : (old mid new : Option (List Send)) (attempts : List Attempt) → AreTaken old mid attempts → StaysLeft mid new → AreTaken old new attempts
taken_still old mid None attempts taken stays = tt
taken_still old None (Some n) attempts taken stays = absurd stays
taken_still None (Some m) (Some n) attempts taken stays = absurd taken
taken_still (Some o) (Some m) (Some n) attempts taken stays = (taken.0, stays ∙ taken.1)

taken_none : (old : Option (List Send)) → AreTaken old old []
taken_none None = tt
taken_none (Some o) = (refl, refl)

-- an answer is that a commit has to come first, or it isn't
behind_or : (last : Result Ticket EnterFault) → IsAnsweredBehind last ⊎ (IsAnsweredBehind last → ⊥)
behind_or (Ok ticket) = inr (λ behind. behind)
behind_or (Err (enters.Stopped at)) = inr (λ behind. behind)
behind_or (Err (enters.Behind pending octets)) = inl tt
behind_or (Err (enters.Full would limit)) = inr (λ behind. behind)
behind_or (Err enters.NoMemory) = inr (λ behind. behind)

module _ {G : Type 0} (shows : ℕ → Type 0) where
  abbrev IsPart : Entry G → Type 0
  IsPart entry = IsOfInput entry ⊎ IsOfCommit entry

  pub received_none : (old : Option (List Send)) (p : Known (Entry G) (CoreState × PressState G)) (ends : Ends) → ends ≡ record { received = 0; lost = 0; link_fault = false; no_memory = false } → HasReceived shows old old p p ends
  received_none old p ends none = record {
    entries = [];
    attempts = [];
    worked = worked_none p;
    received = record { tried = refl; datagrams = All-nil (λ (one : Attempt). IsDatagram one.input); taken = taken_none old; parts = All-nil IsPart; shown = All-nil (λ (one : Try). shows one.moment); gave_up = inl (All-nil (λ (one : Attempt). IsAnsweredBehind one.last → ⊥)) };
    count = ap (λ (e : Ends). e.received) none;
    lost = ap (λ (e : Ends). e.lost) none;
    tried = inr (All-nil (λ (one : Attempt). IsAnsweredBehind one.last → ⊥));
  }

  -- the link gave nothing, and the numbers are as they were; where one says that memory was refused, it may be so
  pub received_still : (old mid new : Option (List Send)) (p q : Known (Entry G) (CoreState × PressState G)) (ends after : Ends) → HasReceived shows old mid p q ends → StaysLeft mid new → after.received ≡ ends.received → after.lost ≡ ends.lost → (IsTrue after.no_memory ⊎ (after.no_memory ≡ ends.no_memory))
      → HasReceived shows old new p q after
  received_still old mid new p q ends after h stays count lost memory = record {
    entries = h.entries;
    attempts = h.attempts;
    worked = h.worked;
    received = record { tried = h.received.tried; datagrams = h.received.datagrams; taken = taken_still old mid new h.attempts h.received.taken stays; parts = h.received.parts; shown = h.received.shown; gave_up = h.received.gave_up };
    count = count ∙ h.count;
    lost = lost ∙ h.lost;
    tried = ⊎_elim inl (λ same. ⊎_elim (λ is. inl (subst IsTrue (sym same) is)) inr h.tried) memory;
  }

  gave_up_more : (entries more : List (Entry G)) → GaveUp more → GaveUp (entries ++ more)
  gave_up_more entries more (front, is) = (entries ++ front, ap (λ z. entries ++ z) is ∙ sym (append_assoc entries front (Looked (Refused commits.NoMemory) ∷ [])))

  -- a datagram more
  pub received_more : (old mid new : Option (List Send)) (p q r : Known (Entry G) (CoreState × PressState G)) (ends after : Ends) (input : Input) (last : Result Ticket EnterFault) → HasReceived shows old mid p q ends → ends.no_memory ≡ false → IsNext mid new input → IsDatagram input → HasTried shows q r input last
      → after.received ≡ ends.received + 1 → after.lost ≡ ends.lost + if_lost last → (IsTrue after.no_memory ⊎ ((ends.no_memory ≡ false) × (IsAnsweredBehind last → ⊥))) → HasReceived shows old new p r after
  received_more old mid new p q r ends after input last h unrefused next is t count lost memory =
      let one = attempt input last in
      let D : Attempt → Type 0 = λ (a : Attempt). IsDatagram a.input in
      let N : Attempt → Type 0 = λ (a : Attempt). IsAnsweredBehind a.last → ⊥ in
      let S : Try → Type 0 = λ (a : Try). shows a.moment in
      let tries = tries_append h.entries t.entries in record {
        entries = h.entries ++ t.entries;
        attempts = h.attempts ++ one ∷ [];
        worked = worked_then p q r h.entries t.entries h.worked t.worked;
        received = record {
          tried = subst (λ z. AreTried (h.attempts ++ one ∷ []) z) (sym tries) (tried_more h.attempts one (tries_in h.entries) (tries_in t.entries) h.received.tried t.tried);
          datagrams = All-append D h.attempts (one ∷ []) h.received.datagrams (All-cons D one [] is (All-nil D));
          taken = taken_more old mid new h.attempts one h.received.taken next;
          parts = All-append IsPart h.entries t.entries h.received.parts t.parts;
          shown = subst (λ z. All S z) (sym tries) (All-append S (tries_in h.entries) (tries_in t.entries) h.received.shown t.shown);
          gave_up =
              let before : All N h.attempts = ⊎_elim (λ was. absurd (true≢false (sym was ∙ unrefused))) (λ all. all) h.tried in
              ⊎_elim (λ behind. inr (gave_up_more h.entries t.entries (t.gave_up behind))) (λ not. inl (All-append N h.attempts (one ∷ []) before (All-cons N one [] not (All-nil N)))) (behind_or last);
        };
        count = count ∙ (ap (λ z. z + 1) h.count ∙ sym (length_more h.attempts one));
        lost = lost ∙ (ap (λ z. z + if_lost last) h.lost ∙ sym (lost_more h.attempts one));
        tried = ⊎_elim inl (λ both. ⊎_elim (λ was. absurd (true≢false (sym was ∙ both.0))) (λ all. inr (All-append N h.attempts (one ∷ []) all (All-cons N one [] both.1 (All-nil N)))) h.tried) memory;
      }
