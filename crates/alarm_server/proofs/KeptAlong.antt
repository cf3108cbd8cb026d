-- What a crash leaves, stretch by stretch, whatever is said of its images.
use Rattle.std.proofs.Common.{◌≡◌, ◌≤◌, ℕ, Option, Some, None, List, [], ◌∷◌, ◌++◌, length, ap, ◌∙◌, sym, subst, inl, inr, arith}
use Rattle.std.proofs.lemmas.List.{append-nil, append_cancel_left}
use Rattle.bac_values.specs.Address.{PeerData}
use Rattle.ground_io.specs.Disk.{Always, Disk, disk_after}
use Rattle.ground_io.specs.Sent.{Along, AreQuiet, emissions, sent_after}
use Rattle.ground_io.specs.Trace.{Told, Adds, disk_of}
use Rattle.ground_io.specs.declared.entry.Entry.{Entry}
use Rattle.ground_io.specs.declared.entry.Entry.TheVariants.{Synced, Emitted, Lost}
use Rattle.ground_io.proofs.Crashes.{adds_both, adds_none, disk_adds}
use Rattle.ground_io.proofs.Sendings.{along-append, quiet_sends_nothing}
use Rattle.alarm_journal.specs.Journal.{Content, OpenAlike, OpensTo}
use Rattle.alarm_journal.specs.Journal.{Site as Journal}
use Rattle.alarm_journal.specs.Press.{Lasts, OpensSame, Reopens, ReopensSynced, Throughout}
use Rattle.alarm_journal.specs.Protocol.{Leads}
use Rattle.alarm_core.specs.declared.event.Event.{Event}
use Rattle.alarm_core.specs.declared.site.Site.{Site}
use Rattle.state_codec.specs.Contents.{ImageStands}
use Rattle.state_codec.specs.Emission.{Emits}
use Rattle.state_codec.specs.Keeping.{StoodFor}
use Rattle.alarm_server.specs.Keeping.{KeepsAlong, KeepsFromSync}
use Rattle.alarm_server.proofs.KeptLines.{along_few, along_under}

-- what led from one to the other is one list of entries
same_entries : (old new : Told) (first second : List Entry) → Adds (Some old) (Some new) first → Adds (Some old) (Some new) second → first ≡ second
same_entries old new first second one two = append_cancel_left old.trace first second (sym one.1 ∙ two.1)

-- a list of none
none_of : {A : Type 0} (xs : List A) → length xs ≤ 0 → xs ≡ []
none_of [] few = cc
none_of (x ∷ xs) few = absurd (omega (arith, few))

-- nothing was sent: what holds of each image is enough
quietly : (P : List Entry → List ℕ → Type 0) (Q : List ℕ → Type 0) (disk : Disk) (entries : List Entry) → AreQuiet entries → Always Q disk entries → ((image : List ℕ) → Q image → P [] image) → Along P [] disk entries
quietly P Q disk entries quiet always to =
    along_few P Q 0 (λ sent image few q. subst (λ (s : List Entry). P s image) (sym (none_of sent few)) (to image q)) [] disk entries
    (omega (arith, ap (λ (l : List Entry). length l) (quiet_sends_nothing [] entries quiet))) always

module _ (P : List Entry → List ℕ → Type 0) where
  -- one stretch, and another behind it
  pub kept_then : (before : List Entry) (old mid new : Option Told) → Emits old mid before → KeepsAlong P old mid → KeepsAlong (λ s image. P (before ++ s) image) mid new → KeepsAlong P old new
  kept_then before old mid None goes one two = tt
  kept_then before old None (Some new) goes one two = absurd two
  kept_then before None (Some mid) (Some new) goes one two = absurd one
  kept_then before (Some old) (Some mid) (Some new) (more, goes, are) (entries, adds, along) (others, adds_too, along_too) =
      let same : sent_after entries [] ≡ before = ap emissions (same_entries old mid entries more adds goes) ∙ are in
      let two : Along P (before ++ []) (disk_of mid) others = along_under (λ s image. P (before ++ s) image) P before (λ s image p. p) [] (disk_of mid) others along_too in
      let here : Along P (sent_after entries []) (disk_of mid) others = subst (λ (s : List Entry). Along P s (disk_of mid) others) (append-nil before ∙ sym same) two in
      let there : Along P (sent_after entries []) (disk_after entries (disk_of old)) others = subst (λ (d : Disk). Along P (sent_after entries []) d others) (disk_adds old mid entries adds) here in
      (entries ++ others, adds_both (Some old) (Some mid) (Some new) entries others adds adds_too, along-append P [] (disk_of old) entries others along there)

  -- a stretch that sends nothing
  pub kept_quiet : (Q : List ℕ → Type 0) (old new : Option Told) → Leads Q old new → ((image : List ℕ) → Q image → P [] image) → KeepsAlong P old new
  kept_quiet Q old None leads to = tt
  kept_quiet Q None (Some new) leads to = absurd leads
  kept_quiet Q (Some old) (Some new) leads to = (leads.entries, leads.adds, quietly P Q (disk_of old) leads.entries leads.quiet leads.always to)

  -- nothing happened
  pub kept_still : (journal : Journal) (content : Content) (told : Option Told) → Lasts journal told content → ((image : List ℕ) → OpensTo journal image content → P [] image) → KeepsAlong P told told
  kept_still journal content None lasts to = tt
  kept_still journal content (Some told) lasts to = ([], adds_none (Some told), λ image may. to image (lasts image may))

  pub kept_nothing : (journal : Journal) (content : Content) (old new : Option Told) → Throughout journal content old new → Adds old new [] → ((image : List ℕ) → OpensTo journal image content → P [] image) → KeepsAlong P old new
  kept_nothing journal content old None all goes to = tt
  kept_nothing journal content None (Some new) all goes to = absurd all
  kept_nothing journal content (Some old) (Some new) (entries, adds, always) goes to =
      let same : entries ≡ [] = same_entries old new entries [] adds goes in
      let here : Always (λ image. OpensTo journal image content) (disk_of old) [] = subst (λ (l : List Entry). Always (λ image. OpensTo journal image content) (disk_of old) l) same always in
      ([], goes, λ image may. to image (here image may))

  -- one emission, or one that was lost
  pub kept_sent : (journal : Journal) (content : Content) (peer : PeerData) (octets : List ℕ) (old new : Option Told) → Throughout journal content old new → Adds old new (Emitted peer octets ∷ [])
      → ((image : List ℕ) → OpensTo journal image content → P [] image) → ((image : List ℕ) → OpensTo journal image content → P (Emitted peer octets ∷ []) image) → KeepsAlong P old new
  kept_sent journal content peer octets old None all goes none one = tt
  kept_sent journal content peer octets None (Some new) all goes none one = absurd all
  kept_sent journal content peer octets (Some old) (Some new) (entries, adds, always) goes none one =
      let same : entries ≡ Emitted peer octets ∷ [] = same_entries old new entries (Emitted peer octets ∷ []) adds goes in
      let along : Always (λ image. OpensTo journal image content) (disk_of old) (Emitted peer octets ∷ []) = subst (λ (l : List Entry). Always (λ image. OpensTo journal image content) (disk_of old) l) same always in
      (Emitted peer octets ∷ [], goes, (λ image may. none image (along.0 image may), λ image may. one image (along.1 image may)))

  pub kept_lost : (journal : Journal) (content : Content) (peer : PeerData) (octets : List ℕ) (old new : Option Told) → Throughout journal content old new → Adds old new (Lost peer octets ∷ [])
      → ((image : List ℕ) → OpensTo journal image content → P [] image) → ((image : List ℕ) → OpensTo journal image content → P (Lost peer octets ∷ []) image) → KeepsAlong P old new
  kept_lost journal content peer octets old None all goes none one = tt
  kept_lost journal content peer octets None (Some new) all goes none one = absurd all
  kept_lost journal content peer octets (Some old) (Some new) (entries, adds, always) goes none one =
      let same : entries ≡ Lost peer octets ∷ [] = same_entries old new entries (Lost peer octets ∷ []) adds goes in
      let along : Always (λ image. OpensTo journal image content) (disk_of old) (Lost peer octets ∷ []) = subst (λ (l : List Entry). Always (λ image. OpensTo journal image content) (disk_of old) l) same always in
      (Lost peer octets ∷ [], goes, (λ image may. none image (along.0 image may), λ image may. one image (along.1 image may)))

  -- ---- behind the opening of a journal

  along_opening : (journal : Journal) (site : Site) (older : List Event) (old new : Told) → ImageStands journal site (disk_of old).contents older → (opens : OpensSame journal old new) → ((image : List ℕ) → ImageStands journal site image older → P [] image)
      → Along P [] (record { contents = (disk_of old).contents; loose = [] }) opens.entries
  along_opening journal site older old new stood opens to =
      quietly P (λ image. OpenAlike journal image (disk_of old).contents) (record { contents = (disk_of old).contents; loose = [] }) opens.entries opens.quiet opens.always
      (λ image same. to image (record { content = stood.content; opens = (same.opens stood.content).1 stood.opens; stands = stood.stands }))

  -- the journal wasn't opened
  pub kept_unopened : (journal : Journal) (site : Site) (older : List Event) (old new : Option Told) → StoodFor journal site older old new → Reopens journal old new → ((image : List ℕ) → ImageStands journal site image older → P [] image) → KeepsFromSync P old new
  kept_unopened journal site older old None stood opens to = tt
  kept_unopened journal site older None (Some new) stood opens to = absurd opens
  kept_unopened journal site older (Some old) (Some new) stood (inl nothing) to = inl nothing
  kept_unopened journal site older (Some old) (Some new) stood (inr opens) to = inr (opens.entries, opens.adds, along_opening journal site older old new stood opens to)

  -- it was, and more was done behind it
  pub kept_opened : (journal : Journal) (site : Site) (older : List Event) (old mid new : Option Told) → StoodFor journal site older old mid → ReopensSynced journal old mid → ((image : List ℕ) → ImageStands journal site image older → P [] image) → KeepsAlong P mid new → KeepsFromSync P old new
  kept_opened journal site older old mid None stood opens to kept = tt
  kept_opened journal site older None mid (Some new) stood opens to kept = absurd stood
  kept_opened journal site older (Some old) None (Some new) stood opens to kept = absurd kept
  kept_opened journal site older (Some old) (Some mid) (Some new) stood opens to (others, adds, along) =
      let begun : Disk = record { contents = (disk_of old).contents; loose = [] } in
      let nothing : sent_after opens.entries [] ≡ [] = quiet_sends_nothing [] opens.entries opens.quiet in
      let disk : disk_of mid ≡ disk_after opens.entries begun = disk_adds old mid (Synced ∷ opens.entries) opens.adds in
      let there : Along P (sent_after opens.entries []) (disk_after opens.entries begun) others = subst (λ (s : List Entry). Along P s (disk_after opens.entries begun) others) (sym nothing) (subst (λ (d : Disk). Along P [] d others) disk along) in
      inr (opens.entries ++ others, adds_both (Some old) (Some mid) (Some new) (Synced ∷ opens.entries) others opens.adds adds, along-append P [] begun opens.entries others (along_opening journal site older old mid stood opens to) there)
