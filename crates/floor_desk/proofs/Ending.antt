-- What a commit on a closed floor leaves.
use Rattle.std.proofs.Common.{◌≡◌, ℕ, ◌+◌, ◌<◌, ◌^◌, List, [], ◌∷◌, ◌++◌, length, refl, sym, ap, ◌∙◌, subst, arith, append_assoc, length-append}
use Rattle.std.specs.Prelude.{Option, Some, Err, Ok}
use Rattle.ground_io.specs.Trace.{Told}
use Rattle.noted.specs.declared.noted.Noted.{Noted}
use Rattle.alarm_core.specs.State.{CoreState}
use Rattle.alarm_journal.specs.Press.{PressState}
use Rattle.floor_desk.specs.declared.entry.Entry.{Entry}
use Rattle.floor_desk.specs.declared.entry.Entry.TheVariants.{Looked, Taken, Returned, Failed}
use Rattle.floor_desk.specs.declared.entry.Look.TheVariants.{Refused as Denied}
use Rattle.floor_desk.specs.declared.faults.CommitFault.{CommitFault}
use Rattle.floor_desk.specs.declared.faults.CommitFault.TheVariants as commits
use Rattle.floor_desk.specs.declared.load.Carried.{Carried}
use Rattle.floor_desk.specs.declared.load.Carried.TheVariants.{Home as HomeAgain, Broken as Gone}
use Rattle.floor_desk.specs.declared.load.Load.{Load}
use Rattle.floor_desk.specs.declared.floor.Spot.{Spot}
use Rattle.floor_desk.specs.Accounts.{Account, Loan, account, front_of, start, step}
use Rattle.floor_desk.specs.Carrying.{IsCarriedOut, Lends, TellsCarried}
use Rattle.floor_desk.specs.Ending.{IsLastCommit}
use Rattle.floor_desk.specs.Moves.{Hinders, IsNotOut}
use Rattle.floor_desk.specs.Prefixes.{capped}
use Rattle.floor_desk.specs.Standing.{FloorStands}
use Rattle.floor_desk.specs.States.{FloorState}
use Rattle.floor_desk.proofs.Floors.{hinders, stands_at}
use Rattle.floor_desk.proofs.Growing.{carried_at}
use Rattle.floor_desk.proofs.Histories.{account_snoc}

module _ {G : Type 0} (told : G → Option Told) (size disk_faults emit_faults : G → ℕ) where
  -- ---- a commit that is refused

  module _ (old new : FloorState G) (h : List (ℕ × Entry G)) (n place : ℕ) (is : new ≡ record old { next = capped (place + 1) }) (at : place ≡ length h + 1) (f : FloorStands told size disk_faults emit_faults old h) where
    denied : (fault : CommitFault) → Hinders old fault → FloorStands told size disk_faults emit_faults new (h ++ (n, Looked (Denied fault)) ∷ [])
    denied fault why =
        subst (λ (x : FloorState G). FloorStands told size disk_faults emit_faults x (h ++ (n, Looked (Denied fault)) ∷ [])) (sym is)
        (stands_at told size disk_faults emit_faults old (capped (place + 1)) (h ++ (n, Looked (Denied fault)) ∷ []) (hinders told size disk_faults emit_faults old h n fault f why))

    next_is : (entry : ℕ × Entry G) → new.next ≡ capped (length (h ++ entry ∷ []) + 1)
    next_is entry = omega (arith, ap (λ (x : FloorState G). x.next) is, at, length-append h (entry ∷ []))

    pub settled_not : (fault : CommitFault) → IsNotOut old.spot → Hinders old fault → IsLastCommit told size disk_faults emit_faults old new h n (Err fault)
    settled_not (commits.Stopped at) home why = record { entries = (n, Looked (Denied (commits.Stopped at))) ∷ []; are = refl; stands = denied (commits.Stopped at) why; next = next_is (n, Looked (Denied (commits.Stopped at))) }
    settled_not (commits.Busy at upto) home why = absurd (subst (λ (s : Spot G). IsNotOut s) why home)
    settled_not (commits.Nothing upto) home why = record { entries = (n, Looked (Denied (commits.Nothing upto))) ∷ []; are = refl; stands = denied (commits.Nothing upto) why; next = next_is (n, Looked (Denied (commits.Nothing upto))) }
    settled_not commits.NoMemory home why = record { entries = (n, Looked (Denied commits.NoMemory)) ∷ []; are = refl; stands = denied commits.NoMemory why; next = next_is (n, Looked (Denied commits.NoMemory)) }
    settled_not commits.DiskFault home why = absurd why

  -- ---- a commit that was carried out

  module _ (old mid back new : FloorState G) (h : List (ℕ × Entry G)) (n place : ℕ) (load : Load G) (carried : Carried G) (few : place < 2 ^ 63) (same : mid.origin ≡ old.origin) (is : new ≡ record back { next = place + 2 }) (at : place ≡ length h + 1)
      (lends : Lends told old.origin (account old.origin h) load × FloorStands told size disk_faults emit_faults mid (h ++ (n, Taken load.upto) ∷ []))
      (does : (o : CoreState × PressState G) (a : Account G) → Lends told o a load → IsCarriedOut told size disk_faults emit_faults o a load.upto (front_of a) carried)
      (brings : (k : List (ℕ × Entry G)) (loan : Loan) (entry : Entry G) → place + 1 ≡ length k + 1 → TellsCarried carried entry → FloorStands told size disk_faults emit_faults mid k → (account mid.origin k).loan ≡ Some loan
      → IsCarriedOut told size disk_faults emit_faults mid.origin (account mid.origin k) loan.upto (account mid.origin k).taken carried → FloorStands told size disk_faults emit_faults back (k ++ (loan.number, entry) ∷ [])) where
    abbrev a : Account G
    a = account old.origin h

    abbrev left : List (ℕ × Entry G)
    left = h ++ (n, Taken load.upto) ∷ []

    abbrev loan : Loan
    loan = record { number = n; place = a.long + 1; upto = load.upto }

    after : account mid.origin left ≡ step a n (Taken load.upto)
    after = ap (λ (o : CoreState × PressState G). account o left) same ∙ account_snoc (start old.origin) h (n, Taken load.upto)

    came : IsCarriedOut told size disk_faults emit_faults mid.origin (account mid.origin left) load.upto (account mid.origin left).taken carried
    came =
        subst (λ (o : CoreState × PressState G). IsCarriedOut told size disk_faults emit_faults o (account mid.origin left) load.upto (account mid.origin left).taken carried) (sym same)
        (subst (λ (b : Account G). IsCarriedOut told size disk_faults emit_faults old.origin b load.upto b.taken carried) (sym after) (carried_at old.origin told size disk_faults emit_faults a n load.upto carried (does old.origin a lends.0)))

    place_after : place + 1 ≡ length left + 1
    place_after = omega (arith, at, length-append h ((n, Taken load.upto) ∷ []))

    stood : (entry : Entry G) → TellsCarried carried entry → FloorStands told size disk_faults emit_faults new (h ++ (n, Taken load.upto) ∷ (n, entry) ∷ [])
    stood entry tells =
        subst (λ (k : List (ℕ × Entry G)). FloorStands told size disk_faults emit_faults new k) (append_assoc h ((n, Taken load.upto) ∷ []) ((n, entry) ∷ []))
        (subst (λ (x : FloorState G). FloorStands told size disk_faults emit_faults x (left ++ (n, entry) ∷ [])) (sym is)
        (stands_at told size disk_faults emit_faults back (place + 2) (left ++ (n, entry) ∷ []) (brings left loan entry place_after tells lends.1 (ap (λ (b : Account G). b.loan) after) came)))

    next_after : (entry : Entry G) → new.next ≡ capped (length (h ++ (n, Taken load.upto) ∷ (n, entry) ∷ []) + 1)
    next_after entry = omega (arith, ap (λ (x : FloorState G). x.next) is, at, few, length-append h ((n, Taken load.upto) ∷ (n, entry) ∷ []))

    pub settled_home : (press : PressState G) (upto lost : ℕ) → carried ≡ HomeAgain press upto lost → IsLastCommit told size disk_faults emit_faults old new h n (Ok upto)
    settled_home press upto lost home =
        let memo : Noted (PressState G) = record { marker = record {}; value = press } in
        let entry : Entry G = Returned upto memo in
        let tells : TellsCarried carried entry = subst (λ (c : Carried G). TellsCarried c entry) (sym home) (memo, refl, refl) in
        let event : upto ≡ load.upto = (subst (λ (c : Carried G). IsCarriedOut told size disk_faults emit_faults old.origin a load.upto (front_of a) c) home (does old.origin a lends.0)).0 in
        record {
          entries = (n, Taken load.upto) ∷ (n, entry) ∷ [];
          are = (event ∙ lends.0.upto, memo, ap (λ (u : ℕ). (n, Taken u) ∷ (n, entry) ∷ []) (sym event));
          stands = stood entry tells;
          next = next_after entry;
        }

    pub settled_lost : (device : G) (upto : ℕ) → carried ≡ Gone device upto → IsLastCommit told size disk_faults emit_faults old new h n (Err commits.DiskFault)
    settled_lost device upto gone =
        let memo : Noted G = record { marker = record {}; value = device } in
        let entry : Entry G = Failed upto memo in
        let tells : TellsCarried carried entry = subst (λ (c : Carried G). TellsCarried c entry) (sym gone) (memo, refl, refl) in
        let event : upto ≡ load.upto = (subst (λ (c : Carried G). IsCarriedOut told size disk_faults emit_faults old.origin a load.upto (front_of a) c) gone (does old.origin a lends.0)).0 in
        record {
          entries = (n, Taken load.upto) ∷ (n, entry) ∷ [];
          are = (upto, event ∙ lends.0.upto, memo, ap (λ (u : ℕ). (n, Taken u) ∷ (n, entry) ∷ []) (sym event));
          stands = stood entry tells;
          next = next_after entry;
        }
