-- What a crash leaves of a floor, where the order and the dues grow, and stretch by stretch.
use Rattle.std.proofs.Common.{◌≡◌, ◌⊎◌, ℕ, ◌+◌, ◌-◌, ◌^◌, ◌≤◌, Option, Some, None, List, [], ◌∷◌, ◌++◌, length, map, take, drop, reverse, refl, ap, ◌∙◌, sym, subst, inl, inr, arith, append_assoc, length-append, length-drop}
use Rattle.std.proofs.lemmas.List.{append-nil, append_cancel_left, length-map, length-take, take-append-le, take-append-drop, take_all, map-append, reverse-append}
use Rattle.std.proofs.lemmas.List.Elements.{All-take, All-weaker}
use Rattle.ground_io.specs.Disk.{Disk, Always, after_entry}
use Rattle.ground_io.specs.Sent.{Along, emissions, sent_after, sent_with}
use Rattle.ground_io.specs.Trace.{Told, Adds, disk_of}
use Rattle.ground_io.specs.declared.entry.Entry.{Entry}
use Rattle.ground_io.specs.declared.entry.Entry.TheVariants.{Wrote, Broke, Synced, Emitted, Lost}
use Rattle.ground_io.proofs.Crashes.{adds_both, adds_none, always_weaker, disk_adds}
use Rattle.ground_io.proofs.Sendings.{along-append, along_quiet, quiet_sends_nothing}
use Rattle.bac_values.specs.declared.note.Send.{Send}
use Rattle.alarm_core.specs.declared.event.Event.{Event}
use Rattle.alarm_core.specs.declared.site.Site.{Site}
use Rattle.alarm_journal.specs.Emissions.{AreEmissions, EmitsAll}
use Rattle.alarm_journal.specs.Journal.{Content, OpensTo}
use Rattle.alarm_journal.specs.Journal.{Site as Journal}
use Rattle.alarm_journal.specs.Press.{Lasts, Throughout}
use Rattle.state_codec.specs.Contents.{ImageStands, StandsForHistory}
use Rattle.floor_desk.specs.Accounts.{Due}
use Rattle.state_codec.specs.Keeping.{Commits}
use Rattle.floor_desk.specs.Prefixes.{HasLost, KeepsOrder, LeavesPrefix, RestsOn, GoOut, with_first, capped, losses}

-- ---- a history with the events of an order

pub first_none : (history : List Event) (order : List Event) → with_first history 0 order ≡ history
first_none history order = refl

pub first_all : (history order : List Event) → with_first history (length order) order ≡ reverse order ++ history
first_all history order = ap (λ (l : List Event). reverse l ++ history) (take_all (length order) order (omega arith))

-- with later events
pub first_more : (history order more : List Event) → with_first history (length (order ++ more)) (order ++ more) ≡ reverse more ++ with_first history (length order) order
first_more history order more =
    first_all history (order ++ more) ∙ (ap (λ (l : List Event). l ++ history) (reverse-append order more)
    ∙ (append_assoc (reverse more) (reverse order) history ∙ ap (λ (l : List Event). reverse more ++ l) (sym (first_all history order))))

-- the first of them are the same
pub first_of_more : (history order more : List Event) (count : ℕ) → count ≤ length order → with_first history count (order ++ more) ≡ with_first history count order
first_of_more history order more count few = ap (λ (l : List Event). reverse l ++ history) (take-append-le count order more few)

-- the others stand in front of them
pub first_and_rest : (history order : List Event) (count : ℕ) → with_first history (length order) order ≡ reverse (drop count order) ++ with_first history count order
first_and_rest history order count =
    first_all history order ∙ (ap (λ (l : List Event). reverse l ++ history) (sym (take-append-drop count order))
    ∙ (ap (λ (l : List Event). l ++ history) (reverse-append (take count order) (drop count order)) ∙ append_assoc (reverse (drop count order)) (reverse (take count order)) history))

-- ---- along a trace

pub along_weaker : (P Q : List Entry → List ℕ → Type 0) → ((sent : List Entry) (image : List ℕ) → P sent image → Q sent image) → (sent : List Entry) (disk : Disk) (entries : List Entry) → Along P sent disk entries → Along Q sent disk entries
along_weaker P Q to sent disk [] all = λ image may. to sent image (all image may)
along_weaker P Q to sent disk (entry ∷ entries) all = (λ image may. to sent image (all.0 image may), along_weaker P Q to (sent_with entry sent) (after_entry entry disk) entries all.1)

sent_grows : (entry : Entry) (sent : List Entry) → length sent ≤ length (sent_with entry sent)
sent_grows (Wrote place octets) sent = omega arith
sent_grows (Broke place tried left) sent = omega arith
sent_grows Synced sent = omega arith
sent_grows (Emitted peer octets) sent = omega (arith, length-append sent (Emitted peer octets ∷ []))
sent_grows (Lost peer octets) sent = omega (arith, length-append sent (Lost peer octets ∷ []))

sent_grow : (entries sent : List Entry) → length sent ≤ length (sent_after entries sent)
sent_grow [] sent = omega arith
sent_grow (entry ∷ entries) sent = omega (arith, sent_grows entry sent, sent_grow entries (sent_with entry sent))

-- where at most so many are sent in all, it is one about images alone
along_few : (P : List Entry → List ℕ → Type 0) (Q : List ℕ → Type 0) (most : ℕ) → ((sent : List Entry) (image : List ℕ) → length sent ≤ most → Q image → P sent image)
    → (sent : List Entry) (disk : Disk) (entries : List Entry) → length (sent_after entries sent) ≤ most → Always Q disk entries → Along P sent disk entries
along_few P Q most to sent disk [] few all = λ image may. to sent image few (all image may)
along_few P Q most to sent disk (entry ∷ entries) few all =
    (λ image may. to sent image (omega (arith, few, sent_grows entry sent, sent_grow entries (sent_with entry sent))) (all.0 image may), along_few P Q most to (sent_with entry sent) (after_entry entry disk) entries few all.1)

sent-append : (first second sent : List Entry) → sent_after (first ++ second) sent ≡ sent_after second (sent_after first sent)
sent-append [] second sent = refl
sent-append (entry ∷ first) second sent = sent-append first second (sent_with entry sent)

-- the same entries led from one to the other
same_entries : (old new : Told) (first second : List Entry) → Adds (Some old) (Some new) first → Adds (Some old) (Some new) second → first ≡ second
same_entries old new first second one two = append_cancel_left old.trace first second (sym one.1 ∙ two.1)

-- ---- datagrams that were sent or lost

-- entries that are emissions are all sent
all_sent : (sends : List Send) (sent lost : ℕ) (entries before : List Entry) → AreEmissions sends sent lost entries → sent_after entries before ≡ before ++ entries
all_sent [] sent lost [] before are = sym (append-nil before)
all_sent (send ∷ sends) sent lost (Emitted peer octets ∷ entries) before (to, of, (less, count, are)) = all_sent sends less lost entries (before ++ Emitted peer octets ∷ []) are ∙ append_assoc before (Emitted peer octets ∷ []) entries
all_sent (send ∷ sends) sent lost (Lost peer octets ∷ entries) before (to, of, (less, count, are)) = all_sent sends sent less entries (before ++ Lost peer octets ∷ []) are ∙ append_assoc before (Lost peer octets ∷ []) entries
all_sent [] sent lost (entry ∷ entries) before are = absurd are
all_sent (send ∷ sends) sent lost [] before are = absurd are
all_sent (send ∷ sends) sent lost (Wrote place octets ∷ entries) before are = absurd are
all_sent (send ∷ sends) sent lost (Broke place tried left ∷ entries) before are = absurd are
all_sent (send ∷ sends) sent lost (Synced ∷ entries) before are = absurd are

settled_by : (sends : List Send) (sent lost : ℕ) (entries : List Entry) → AreEmissions sends sent lost entries → GoOut sends entries
settled_by [] sent lost [] are = tt
settled_by (send ∷ sends) sent lost (Emitted peer octets ∷ entries) (to, of, (less, count, are)) = ((to, of), settled_by sends less lost entries are)
settled_by (send ∷ sends) sent lost (Lost peer octets ∷ entries) (to, of, (less, count, are)) = ((to, of), settled_by sends sent less entries are)
settled_by [] sent lost (entry ∷ entries) are = absurd are
settled_by (send ∷ sends) sent lost [] are = absurd are
settled_by (send ∷ sends) sent lost (Wrote place octets ∷ entries) are = absurd are
settled_by (send ∷ sends) sent lost (Broke place tried left ∷ entries) are = absurd are
settled_by (send ∷ sends) sent lost (Synced ∷ entries) are = absurd are

lost_by : (sends : List Send) (sent lost : ℕ) (entries : List Entry) → AreEmissions sends sent lost entries → losses entries ≡ lost
lost_by [] sent lost [] are = sym are.1
lost_by (send ∷ sends) sent lost (Emitted peer octets ∷ entries) (to, of, (less, count, are)) = lost_by sends less lost entries are
lost_by (send ∷ sends) sent lost (Lost peer octets ∷ entries) (to, of, (less, count, are)) = omega (arith, lost_by sends sent less entries are, count)
lost_by [] sent lost (entry ∷ entries) are = absurd are
lost_by (send ∷ sends) sent lost [] are = absurd are
lost_by (send ∷ sends) sent lost (Wrote place octets ∷ entries) are = absurd are
lost_by (send ∷ sends) sent lost (Broke place tried left ∷ entries) are = absurd are
lost_by (send ∷ sends) sent lost (Synced ∷ entries) are = absurd are

settled_count : (sends : List Send) (entries : List Entry) → GoOut sends entries → length entries ≡ length sends
settled_count [] [] s = refl
settled_count [] (entry ∷ entries) s = absurd s
settled_count (send ∷ sends) [] s = absurd s
settled_count (send ∷ sends) (entry ∷ entries) s = omega (arith, settled_count sends entries s.1)

settled_both : (first second : List Send) (entries others : List Entry) → GoOut first entries → GoOut second others → GoOut (first ++ second) (entries ++ others)
settled_both [] second [] others one two = two
settled_both [] second (entry ∷ entries) others one two = absurd one
settled_both (send ∷ first) second [] others one two = absurd one
settled_both (send ∷ first) second (entry ∷ entries) others one two = (one.0, settled_both first second entries others one.1 two)

losses-append : (first second : List Entry) → losses (first ++ second) ≡ losses first + losses second
losses-append [] second = omega arith
losses-append (Lost peer octets ∷ first) second = omega (arith, losses-append first second)
losses-append (Emitted peer octets ∷ first) second = losses-append first second
losses-append (Wrote place octets ∷ first) second = losses-append first second
losses-append (Broke place tried left ∷ first) second = losses-append first second
losses-append (Synced ∷ first) second = losses-append first second

losses_with : (entry : Entry) (sent : List Entry) → losses (sent_with entry sent) ≡ losses sent + losses (entry ∷ [])
losses_with (Wrote place octets) sent = omega arith
losses_with (Broke place tried left) sent = omega arith
losses_with Synced sent = omega arith
losses_with (Emitted peer octets) sent = losses-append sent (Emitted peer octets ∷ [])
losses_with (Lost peer octets) sent = losses-append sent (Lost peer octets ∷ [])

losses_after : (entries sent : List Entry) → losses (sent_after entries sent) ≡ losses sent + losses entries
losses_after [] sent = omega arith
losses_after (entry ∷ entries) sent = omega (arith, losses_after entries (sent_with entry sent), losses_with entry sent, losses-append (entry ∷ []) entries)

-- how many were lost, of all entries of a stretch
pub losses_sent : (entries : List Entry) → losses (emissions entries) ≡ losses entries
losses_sent entries = omega (arith, losses_after entries [])

-- ---- how many were lost

pub lost_none : (told : Option Told) → HasLost 0 told told
lost_none None = tt
lost_none (Some told) = ([], adds_none (Some told), refl)

pub lost_both : (l m : ℕ) (a b c : Option Told) → HasLost l a b → HasLost m b c → HasLost (capped (l + m)) a c
lost_both l m a b None one two = tt
lost_both l m a None (Some c) one two = absurd two
lost_both l m None (Some b) (Some c) one two = absurd one
lost_both l m (Some a) (Some b) (Some c) (entries, adds, is) (others, more, same) = (
  entries ++ others,
  adds_both (Some a) (Some b) (Some c) entries others adds more,
  omega (arith, is, same, losses_sent entries, losses_sent others, losses_sent (entries ++ others), losses-append entries others),
)

pub lost_emitting : (sends : List Send) (sent lost : ℕ) (old new : Option Told) → lost ≤ 2 ^ 64 - 1 → EmitsAll sends sent lost old new → HasLost lost old new
lost_emitting sends sent lost old None few emits = tt
lost_emitting sends sent lost None (Some new) few emits = absurd emits
lost_emitting sends sent lost (Some old) (Some new) few emits = (emits.entries, emits.adds, omega (arith, few, losses_sent emits.entries, lost_by sends sent lost emits.entries emits.emissions))

module _ (journal : Journal) (site : Site) (history : List Event) where
  -- ---- a longer order, and more dues

  -- where more is owed and there are more events
  leaves_more : (order more : List Event) (dues owed : List Due) (sent : List Entry) (image : List ℕ) → LeavesPrefix journal site history order dues sent image → LeavesPrefix journal site history (order ++ more) (dues ++ owed) sent image
  leaves_more order more dues owed sent image leaves = record {
    count = leaves.count;
    within = omega (arith, leaves.within, length-append order more);
    owed = omega (arith, leaves.owed, length-append dues owed);
    covers = subst (λ (l : List Due). RestsOn (length history + leaves.count) l) (sym (take-append-le (length sent) dues owed leaves.owed)) leaves.covers;
    stands = subst (λ (h : List Event). ImageStands journal site image h) (sym (first_of_more history order more leaves.count leaves.within)) leaves.stands;
  }

  pub keeps_more : (order more : List Event) (dues owed : List Due) (sent : ℕ) (old new : Option Told) → sent ≤ length dues → KeepsOrder journal site history order dues sent old new → KeepsOrder journal site history (order ++ more) (dues ++ owed) sent old new
  keeps_more order more dues owed sent old None few keeps = tt
  keeps_more order more dues owed sent None (Some new) few keeps = absurd keeps
  keeps_more order more dues owed sent (Some old) (Some new) few (entries, adds, settle, along) = (
    entries,
    adds,
    subst (λ (l : List Due). GoOut (map (λ due. due.send) l) (emissions entries)) (sym (take-append-le sent dues owed few)) settle,
    along_weaker (LeavesPrefix journal site history order dues) (LeavesPrefix journal site history (order ++ more) (dues ++ owed)) (λ s image. leaves_more order more dues owed s image) [] (disk_of old) entries along,
  )

  -- ---- stretches

  -- nothing is done
  pub keeps_now : (order : List Event) (told : Option Told) (content : Content) → StandsForHistory site content history → Lasts journal told content → KeepsOrder journal site history order [] 0 told told
  keeps_now order None content stands lasts = tt
  keeps_now order (Some told) content stands lasts = (
    [],
    adds_none (Some told),
    tt,
    λ image may. record { count = 0; within = omega arith; owed = omega arith; covers = λ k d few. absurd (omega (arith, few)); stands = record { content = content; opens = lasts image may; stands = stands } },
  )

  -- so many were sent
  sent_count : (dues : List Due) (sent : ℕ) (entries : List Entry) → sent ≤ length dues → GoOut (map (λ due. due.send) (take sent dues)) (emissions entries) → length (emissions entries) ≡ sent
  sent_count dues sent entries few settle =
      omega (arith, few, settled_count (map (λ due. due.send) (take sent dues)) (emissions entries) settle, length-map (take sent dues) (λ (due : Due). due.send), length-take sent dues)

  -- a commit of some of the events, of which the first are enough for what was sent
  pub keeps_commit : (order : List Event) (dues : List Due) (sent first second : ℕ) (old mid new : Option Told) → sent ≤ length dues → first ≤ length order → second ≤ length order → first ≤ second → RestsOn (length history + first) (take sent dues)
      → KeepsOrder journal site history order dues sent old mid → Commits journal site (with_first history first order) (with_first history second order) mid new → KeepsOrder journal site history order dues sent old new
  keeps_commit order dues sent first second old mid None few one two less rests keeps commits = tt
  keeps_commit order dues sent first second old None (Some new) few one two less rests keeps commits = absurd commits
  keeps_commit order dues sent first second None (Some mid) (Some new) few one two less rests keeps commits = absurd keeps
  keeps_commit order dues sent first second (Some old) (Some mid) (Some new) few one two less rests (entries, adds, settle, along) commits = (
    entries ++ commits.entries,
    adds_both (Some old) (Some mid) (Some new) entries commits.entries adds commits.adds,
    subst (λ (l : List Entry). GoOut (map (λ due. due.send) (take sent dues)) l) (sym same) settle,
    along-append P [] (disk_of old) entries commits.entries along
        (subst (λ (d : Disk). Along P gone d commits.entries) (disk_adds old mid entries adds) (along_quiet P gone (disk_of mid) commits.entries commits.quiet (always_weaker Q (P gone) to (disk_of mid) commits.entries commits.always))),
  )
    where
      P : List Entry → List ℕ → Type 0
      P = LeavesPrefix journal site history order dues

      Q : List ℕ → Type 0
      Q image = ImageStands journal site image (with_first history first order) ⊎ ImageStands journal site image (with_first history second order)

      gone : List Entry
      gone = sent_after entries []

      same : emissions (entries ++ commits.entries) ≡ emissions entries
      same = sent-append entries commits.entries [] ∙ quiet_sends_nothing gone commits.entries commits.quiet

      count : length gone ≡ sent
      count = sent_count dues sent entries few settle

      covered : (events : ℕ) → first ≤ events → RestsOn (length history + events) (take (length gone) dues)
      covered events more =
          subst (λ (n : ℕ). RestsOn (length history + events) (take n dues)) (sym count) (All-weaker (λ (due : Due). due.after ≤ length history + first) (λ (due : Due). due.after ≤ length history + events) (λ due h. omega (arith, h, more)) (take sent dues) rests)

      to : (image : List ℕ) → Q image → P gone image
      to image (inl stands) = record { count = first; within = one; owed = omega (arith, count, few); covers = covered first (omega arith); stands = stands }
      to image (inr stands) = record { count = second; within = two; owed = omega (arith, count, few); covers = covered second less; stands = stands }

  -- all that is owed besides is emitted, behind events that are enough for it
  pub keeps_emitting : (order : List Event) (dues : List Due) (sent count : ℕ) (old mid new : Option Told) (content : Content) (sends : List Send) (gone lost : ℕ) → sent ≤ length dues → count ≤ length order → RestsOn (length history + count) dues
      → StandsForHistory site content (with_first history count order) → sends ≡ map (λ due. due.send) (drop sent dues)
      → KeepsOrder journal site history order dues sent old mid → EmitsAll sends gone lost mid new → Throughout journal content mid new → KeepsOrder journal site history order dues (length dues) old new
  keeps_emitting order dues sent count old mid None content sends gone lost few within rests stands is keeps emits through = tt
  keeps_emitting order dues sent count old None (Some new) content sends gone lost few within rests stands is keeps emits through = absurd emits
  keeps_emitting order dues sent count None (Some mid) (Some new) content sends gone lost few within rests stands is keeps emits through = absurd keeps
  keeps_emitting order dues sent count (Some old) (Some mid) (Some new) content sends gone lost few within rests stands is (entries, adds, settle, along) emits (others, more, always) = (
    entries ++ emits.entries,
    adds_both (Some old) (Some mid) (Some new) entries emits.entries adds emits.adds,
    subst (λ (l : List Due). GoOut (map (λ due. due.send) l) (emissions (entries ++ emits.entries))) (sym (take_all (length dues) dues (omega arith))) whole,
    along-append P [] (disk_of old) entries emits.entries along
        (subst (λ (d : Disk). Along P before d emits.entries) (disk_adds old mid entries adds) (along_few P Q (length dues) to before (disk_of mid) emits.entries most images)),
  )
    where
      P : List Entry → List ℕ → Type 0
      P = LeavesPrefix journal site history order dues

      Q : List ℕ → Type 0
      Q image = OpensTo journal image content

      before : List Entry
      before = sent_after entries []

      same : others ≡ emits.entries
      same = same_entries mid new others emits.entries more emits.adds

      images : Always Q (disk_of mid) emits.entries
      images = subst (λ (l : List Entry). Always Q (disk_of mid) l) same always

      so_far : length before ≡ sent
      so_far = sent_count dues sent entries few settle

      sent_now : sent_after emits.entries before ≡ before ++ emits.entries
      sent_now = all_sent sends gone lost emits.entries before emits.emissions

      settles : GoOut sends emits.entries
      settles = settled_by sends gone lost emits.entries emits.emissions

      rest : length sends ≡ length dues - sent
      rest = ap (λ (l : List Send). length l) is ∙ (length-map (drop sent dues) (λ (due : Due). due.send) ∙ length-drop sent dues)

      most : length (sent_after emits.entries before) ≤ length dues
      most = omega (arith, few, so_far, rest, settled_count sends emits.entries settles, ap (λ (l : List Entry). length l) sent_now, length-append before emits.entries)

      both : GoOut (map (λ due. due.send) (take sent dues) ++ map (λ due. due.send) (drop sent dues)) (before ++ emits.entries)
      both = settled_both (map (λ due. due.send) (take sent dues)) (map (λ due. due.send) (drop sent dues)) before emits.entries settle (subst (λ (l : List Send). GoOut l emits.entries) is settles)

      together : map (λ due. due.send) (take sent dues) ++ map (λ due. due.send) (drop sent dues) ≡ map (λ due. due.send) dues
      together = sym (map-append (λ (due : Due). due.send) (take sent dues) (drop sent dues)) ∙ ap (λ (l : List Due). map (λ due. due.send) l) (take-append-drop sent dues)

      whole : GoOut (map (λ due. due.send) dues) (emissions (entries ++ emits.entries))
      whole = subst (λ (l : List Entry). GoOut (map (λ due. due.send) dues) l) (sym (sent-append entries emits.entries [] ∙ sent_now)) (subst (λ (l : List Send). GoOut l (before ++ emits.entries)) together both)

      to : (sent : List Entry) (image : List ℕ) → length sent ≤ length dues → Q image → P sent image
      to sent image few opens = record {
        count = count;
        within = within;
        owed = few;
        covers = All-take (λ (due : Due). due.after ≤ length history + count) (length sent) dues rests;
        stands = record { content = content; opens = opens; stands = stands };
      }
