-- How emissions follow each other.
use Rattle.std.proofs.Common.{◌≡◌, ℕ, ◌+◌, List, [], ◌∷◌, ◌++◌, refl, sym, ◌∙◌, ap, subst, Option, Some, None}
use Rattle.bac_values.specs.declared.note.Send.{Send}
use Rattle.ground_io.specs.Disk.{Disk, Each, Always, disk_after}
use Rattle.ground_io.specs.Trace.{Told, Adds, disk_of}
use Rattle.ground_io.specs.declared.entry.Entry.{Entry}
use Rattle.ground_io.specs.declared.entry.Entry.TheVariants.{Wrote, Broke, Synced, Emitted, Lost}
use Rattle.ground_io.proofs.Crashes.{adds_both, adds_none, disk_adds}
use Rattle.alarm_journal.specs.Emissions.{AreEmissions, EmitsAll}
use Rattle.alarm_journal.specs.Journal.{Site, Content, OpensTo}
use Rattle.alarm_journal.specs.Press.{IsSound, Settled, StandsFor, Throughout}
use Rattle.alarm_journal.specs.declared.layout.Layout.{Layout}
use Rattle.alarm_journal.proofs.Rest.{lasts}

push_sent : (sends : List Send) (sent lost : ℕ) (entries : List Entry) (send : Send) (octets : List ℕ) → octets ≡ send.bytes → AreEmissions sends sent lost entries → AreEmissions (sends ++ send ∷ []) (sent + 1) lost (entries ++ Emitted send.peer octets ∷ [])
push_sent [] sent lost [] send octets same are = (refl, same, (0, ap (λ (n : ℕ). n + 1) are.0, (refl, are.1)))
push_sent [] sent lost (e ∷ entries) send octets same are = absurd are
push_sent (s ∷ sends) sent lost [] send octets same are = absurd are
push_sent (s ∷ sends) sent lost (Emitted peer o ∷ entries) send octets same are = (are.0, are.1, (are.2.0 + 1, ap (λ (n : ℕ). n + 1) are.2.1, push_sent sends are.2.0 lost entries send octets same are.2.2))
push_sent (s ∷ sends) sent lost (Lost peer o ∷ entries) send octets same are = (are.0, are.1, (are.2.0, are.2.1, push_sent sends sent are.2.0 entries send octets same are.2.2))
push_sent (s ∷ sends) sent lost (Wrote place o ∷ entries) send octets same are = absurd are
push_sent (s ∷ sends) sent lost (Broke place tried left ∷ entries) send octets same are = absurd are
push_sent (s ∷ sends) sent lost (Synced ∷ entries) send octets same are = absurd are

push_lost : (sends : List Send) (sent lost : ℕ) (entries : List Entry) (send : Send) (octets : List ℕ) → octets ≡ send.bytes → AreEmissions sends sent lost entries → AreEmissions (sends ++ send ∷ []) sent (lost + 1) (entries ++ Lost send.peer octets ∷ [])
push_lost [] sent lost [] send octets same are = (refl, same, (0, ap (λ (n : ℕ). n + 1) are.1, (are.0, refl)))
push_lost [] sent lost (e ∷ entries) send octets same are = absurd are
push_lost (s ∷ sends) sent lost [] send octets same are = absurd are
push_lost (s ∷ sends) sent lost (Emitted peer o ∷ entries) send octets same are = (are.0, are.1, (are.2.0, are.2.1, push_lost sends are.2.0 lost entries send octets same are.2.2))
push_lost (s ∷ sends) sent lost (Lost peer o ∷ entries) send octets same are = (are.0, are.1, (are.2.0 + 1, ap (λ (n : ℕ). n + 1) are.2.1, push_lost sends sent are.2.0 entries send octets same are.2.2))
push_lost (s ∷ sends) sent lost (Wrote place o ∷ entries) send octets same are = absurd are
push_lost (s ∷ sends) sent lost (Broke place tried left ∷ entries) send octets same are = absurd are
push_lost (s ∷ sends) sent lost (Synced ∷ entries) send octets same are = absurd are

pub emits_none : (a : Option Told) → EmitsAll [] 0 0 a a
emits_none None = tt
emits_none (Some a) = record { entries = []; adds = adds_none (Some a); emissions = (refl, refl) }

pub emits_sent : (sends : List Send) (sent lost : ℕ) (send : Send) (octets : List ℕ) (a b c : Option Told) → octets ≡ send.bytes → EmitsAll sends sent lost a b → Adds b c (Emitted send.peer octets ∷ []) → EmitsAll (sends ++ send ∷ []) (sent + 1) lost a c
emits_sent sends sent lost send octets a b None same so_far adds = tt
emits_sent sends sent lost send octets a None (Some c) same so_far adds = absurd adds
emits_sent sends sent lost send octets None (Some b) (Some c) same so_far adds = absurd so_far
emits_sent sends sent lost send octets (Some a) (Some b) (Some c) same so_far adds = record {
  entries = so_far.entries ++ Emitted send.peer octets ∷ [];
  adds = adds_both (Some a) (Some b) (Some c) so_far.entries (Emitted send.peer octets ∷ []) so_far.adds adds;
  emissions = push_sent sends sent lost so_far.entries send octets same so_far.emissions;
}

pub emits_lost : (sends : List Send) (sent lost : ℕ) (send : Send) (octets : List ℕ) (a b c : Option Told) → octets ≡ send.bytes → EmitsAll sends sent lost a b → Adds b c (Lost send.peer octets ∷ []) → EmitsAll (sends ++ send ∷ []) sent (lost + 1) a c
emits_lost sends sent lost send octets a b None same so_far adds = tt
emits_lost sends sent lost send octets a None (Some c) same so_far adds = absurd adds
emits_lost sends sent lost send octets None (Some b) (Some c) same so_far adds = absurd so_far
emits_lost sends sent lost send octets (Some a) (Some b) (Some c) same so_far adds = record {
  entries = so_far.entries ++ Lost send.peer octets ∷ [];
  adds = adds_both (Some a) (Some b) (Some c) so_far.entries (Lost send.peer octets ∷ []) so_far.adds adds;
  emissions = push_lost sends sent lost so_far.entries send octets same so_far.emissions;
}

-- emissions leave the disk as it is
still : (sends : List Send) (sent lost : ℕ) (entries : List Entry) (disk : Disk) → AreEmissions sends sent lost entries → disk_after entries disk ≡ disk
still [] sent lost [] disk are = refl
still [] sent lost (e ∷ entries) disk are = absurd are
still (s ∷ sends) sent lost [] disk are = absurd are
still (s ∷ sends) sent lost (Emitted peer o ∷ entries) disk are = still sends are.2.0 lost entries disk are.2.2
still (s ∷ sends) sent lost (Lost peer o ∷ entries) disk are = still sends sent are.2.0 entries disk are.2.2
still (s ∷ sends) sent lost (Wrote place o ∷ entries) disk are = absurd are
still (s ∷ sends) sent lost (Broke place tried left ∷ entries) disk are = absurd are
still (s ∷ sends) sent lost (Synced ∷ entries) disk are = absurd are

pub settled_still : (site : Site) (layout : Layout) (content : Content) (sends : List Send) (sent lost : ℕ) (a b : Option Told) → EmitsAll sends sent lost a b → Settled site layout a content → Settled site layout b content
settled_still site layout content sends sent lost a None emits settled = tt
settled_still site layout content sends sent lost None (Some b) emits settled = absurd emits
settled_still site layout content sends sent lost (Some a) (Some b) emits settled =
    let same : disk_of b ≡ disk_of a = disk_adds a b emits.entries emits.adds ∙ still sends sent lost emits.entries (disk_of a) emits.emissions in
    record {
      stands = subst (λ (k : Disk). StandsFor site layout k.contents content) (sym same) settled.stands;
      stable = ap (λ (k : Disk). k.loose) same ∙ settled.stable;
    }

-- what is so of each image before emissions is so of each image at each moment of them
always_still : (P : List ℕ → Type 0) (sends : List Send) (sent lost : ℕ) (entries : List Entry) (disk : Disk) → AreEmissions sends sent lost entries → Each P disk → Always P disk entries
always_still P [] sent lost [] disk are each = each
always_still P [] sent lost (e ∷ entries) disk are each = absurd are
always_still P (s ∷ sends) sent lost [] disk are each = absurd are
always_still P (s ∷ sends) sent lost (Emitted peer o ∷ entries) disk are each = (each, always_still P sends are.2.0 lost entries disk are.2.2 each)
always_still P (s ∷ sends) sent lost (Lost peer o ∷ entries) disk are each = (each, always_still P sends sent are.2.0 entries disk are.2.2 each)
always_still P (s ∷ sends) sent lost (Wrote place o ∷ entries) disk are each = absurd are
always_still P (s ∷ sends) sent lost (Broke place tried left ∷ entries) disk are each = absurd are
always_still P (s ∷ sends) sent lost (Synced ∷ entries) disk are each = absurd are

pub throughout : (site : Site) (layout : Layout) (content : Content) (size : ℕ) (sends : List Send) (sent lost : ℕ) (a b : Option Told) → IsSound size layout → EmitsAll sends sent lost a b → Settled site layout a content → Throughout site content a b
throughout site layout content size sends sent lost a None sound emits settled = tt
throughout site layout content size sends sent lost None (Some b) sound emits settled = absurd emits
throughout site layout content size sends sent lost (Some a) (Some b) sound emits settled =
    (emits.entries, emits.adds, always_still (λ image. OpensTo site image content) sends sent lost emits.entries (disk_of a) emits.emissions (lasts site layout (Some a) content size sound settled))
