-- What may stand while a change goes on: each of its two writes keeps what both of them keep.
use Rattle.bac_values.specs.Limits.{most_site_octets}
use Rattle.std.proofs.Common.{◌≡◌, ◌⊎◌, ℕ, ◌+◌, ◌-◌, ◌<◌, ◌≤◌, ◌^◌, List, [], ◌∷◌, ◌++◌, length, sym, ◌∙◌, ap, subst, arith, Option, Some, None}
use denote.Bor.{Bor}
use Rattle.ground_io.specs.Disk.{Disk, with_octets}
use Rattle.ground_io.specs.Trace.{Told, Adds, HasSize, disk_of}
use Rattle.ground_io.specs.declared.entry.Entry.TheVariants.{Wrote, Synced}
use Rattle.ground_io.proofs.Crashes.{disk_adds}
use Rattle.ground_io.proofs.Disks.{length-with_octets}
use Rattle.alarm_journal.specs.Journal.{Site, Content, OpensTo, framed, heading, nothing, only_snapshot, with_batch}
use Rattle.alarm_journal.specs.Press.{IsBlank, IsSettled, IsSound, end_of, other_of, selector_of}
use Rattle.alarm_journal.specs.Underway.{MayWrite, MayWriteBehind, Underway}
use Rattle.alarm_journal.specs.declared.change.Change.TheVariants.{Beginning, Batch, Snapshot}
use Rattle.alarm_journal.specs.declared.layout.Layout.{Layout}
use Rattle.alarm_journal.proofs.Batches.{length-framed}
use Rattle.alarm_journal.proofs.Committing as batch
use Rattle.alarm_journal.proofs.Committing.{end_low}
use Rattle.alarm_journal.proofs.Formatting as heads
use Rattle.alarm_journal.proofs.Formatting.{length-heading}
use Rattle.alarm_journal.proofs.Fronts.{put_front, put_past}
use Rattle.alarm_journal.proofs.Snapshots as snapshots
use Rattle.alarm_journal.proofs.Snapshots.{other_high}
use Rattle.alarm_journal.proofs.TwoWrites.{TwoWrites}

-- octets that are written where they stand already
with_again : (place : ℕ) (octets c : List ℕ) → place + length octets ≤ length c → with_octets place octets (with_octets place octets c) ≡ with_octets place octets c
with_again place octets c fits =
    let front = put_front place octets c (omega (arith, fits)) in
    let past = put_past place octets c (omega (arith, fits)) in
    λ i. (front i ++ octets) ++ past i

-- nothing is loose
rests : (a : Told) → (disk_of a).loose ≡ [] → disk_of a ≡ record { contents = (disk_of a).contents; loose = [] }
rests a stable = λ i. record { contents = (disk_of a).contents; loose = stable i }

module _ (P : List ℕ → Type 0) (p1 : ℕ) (o1 : List ℕ) (p2 : ℕ) (o2 : List ℕ) where
  first_now : (a : Told) → (disk_of a).loose ≡ [] → TwoWrites P (disk_of a).contents p1 o1 p2 o2 → Underway P p1 o1 (disk_of a)
  first_now a stable steps = subst (Underway P p1 o1) (sym (rests a stable)) (record { begins = steps.rest; comes = steps.first; ends = steps.middle })

  second_now : (b : Told) (c : List ℕ) → p1 + length o1 ≤ length c → disk_of b ≡ record { contents = with_octets p1 o1 c; loose = [] } → TwoWrites P (disk_of b).contents p1 o1 p2 o2 → Underway P p2 o2 (disk_of b)
  second_now b c fits is steps =
      let here : TwoWrites P (with_octets p1 o1 c) p1 o1 p2 o2 = subst (λ (k : Disk). TwoWrites P k.contents p1 o1 p2 o2) is steps in
      let there : Underway P p2 o2 (record { contents = with_octets p1 o1 (with_octets p1 o1 c); loose = [] }) = record { begins = here.middle; comes = here.second; ends = here.last } in
      subst (Underway P p2 o2) (sym is) (subst (λ (x : List ℕ). Underway P p2 o2 (record { contents = x; loose = [] })) (with_again p1 o1 c fits) there)

-- for whichever site and content stand
for_each : (layout : Layout) (a : Told) (after : Content → Content) (place : ℕ) (octets : List ℕ) (disk : Disk) → ((site : Site) (content : Content) → IsSettled site layout a content → Underway (λ image. OpensTo site image content ⊎ OpensTo site image (after content)) place octets disk)
    → Underway (λ image. (site : Site) (content : Content) → IsSettled site layout a content → OpensTo site image content ⊎ OpensTo site image (after content)) place octets disk
for_each layout a after place octets disk of = record {
  begins = λ image may site content settled. (of site content settled).begins image may;
  comes = λ left same image may site content settled. (of site content settled).comes left same image may;
  ends = λ image may site content settled. (of site content settled).ends image may;
}

-- ---- a batch

module _ (layout : Layout) (job : Bor (List ℕ)) (size : ℕ) (sound : IsSound size layout) (few : length job.now < 2 ^ 32) (room : layout.next + length job.now + 6 ≤ end_of layout) where
  pub batch_first : (a : Option Told) → HasSize size a → MayWrite (Batch layout job) (layout.next + 1) (framed job.now) a
  batch_first None whole = tt
  batch_first (Some a) whole = for_each layout a (λ content. with_batch content job.now) (layout.next + 1) (framed job.now) (disk_of a)
      (λ site content settled. first_now _ (layout.next + 1) (framed job.now) layout.next (1 ∷ []) a settled.stable (batch.steps site layout content job.now size sound few room (disk_of a).contents whole settled.stands))

  pub batch_second : (a : Option Told) → HasSize size a → MayWriteBehind (Batch layout job) (layout.next + 1) (framed job.now) layout.next (1 ∷ []) a
  batch_second a whole None adds = tt
  batch_second None whole (Some b) adds = absurd adds
  batch_second (Some a) whole (Some b) adds =
      let c = (disk_of a).contents in
      let fits : layout.next + 1 + length (framed job.now) ≤ length c = omega (arith, room, whole, sound.fits, end_low layout, length-framed job.now) in
      let is : disk_of b ≡ record { contents = with_octets (layout.next + 1) (framed job.now) c; loose = [] } = disk_adds a b (Wrote (layout.next + 1) (framed job.now) ∷ Synced ∷ []) adds in
      let long : length (disk_of b).contents ≡ size = ap (λ (k : Disk). length k.contents) is ∙ length-with_octets (layout.next + 1) (framed job.now) c fits ∙ whole in
      for_each layout b (λ content. with_batch content job.now) layout.next (1 ∷ []) (disk_of b)
      (λ site content settled. second_now _ (layout.next + 1) (framed job.now) layout.next (1 ∷ []) b c fits is (batch.steps site layout content job.now size sound few room (disk_of b).contents long settled.stands))

-- ---- a snapshot

module _ (layout : Layout) (job : Bor (List ℕ)) (size : ℕ) (sound : IsSound size layout) (few : length job.now < 2 ^ 32) (room : length job.now + 5 ≤ layout.half) where
  pub snapshot_first : (a : Option Told) → HasSize size a → MayWrite (Snapshot layout job) (other_of layout) (framed job.now) a
  snapshot_first None whole = tt
  snapshot_first (Some a) whole = for_each layout a (λ _. only_snapshot job.now) (other_of layout) (framed job.now) (disk_of a)
      (λ site content settled. first_now _ (other_of layout) (framed job.now) (layout.areas - 1) (selector_of layout ∷ []) a settled.stable (snapshots.steps site layout content job.now size sound few room (disk_of a).contents whole settled.stands))

  pub snapshot_second : (a : Option Told) → HasSize size a → MayWriteBehind (Snapshot layout job) (other_of layout) (framed job.now) (layout.areas - 1) (selector_of layout ∷ []) a
  snapshot_second a whole None adds = tt
  snapshot_second None whole (Some b) adds = absurd adds
  snapshot_second (Some a) whole (Some b) adds =
      let c = (disk_of a).contents in
      let fits : other_of layout + length (framed job.now) ≤ length c = omega (arith, whole, sound.fits, other_high layout, length-framed job.now, room) in
      let is : disk_of b ≡ record { contents = with_octets (other_of layout) (framed job.now) c; loose = [] } = disk_adds a b (Wrote (other_of layout) (framed job.now) ∷ Synced ∷ []) adds in
      let long : length (disk_of b).contents ≡ size = ap (λ (k : Disk). length k.contents) is ∙ length-with_octets (other_of layout) (framed job.now) c fits ∙ whole in
      for_each layout b (λ _. only_snapshot job.now) (layout.areas - 1) (selector_of layout ∷ []) (disk_of b)
      (λ site content settled. second_now _ (other_of layout) (framed job.now) (layout.areas - 1) (selector_of layout ∷ []) b c fits is (snapshots.steps site layout content job.now size sound few room (disk_of b).contents long settled.stands))

-- ---- the beginning of a journal

for_blank : (P : List ℕ → Type 0) (a : Told) (place : ℕ) (octets : List ℕ) (disk : Disk) → (IsBlank a → Underway P place octets disk) → Underway (λ image. IsBlank a → P image) place octets disk
for_blank P a place octets disk of = record {
  begins = λ image may blank. (of blank).begins image may;
  comes = λ left same image may blank. (of blank).comes left same image may;
  ends = λ image may blank. (of blank).ends image may;
}

module _ (text : Bor (List ℕ)) (need size : ℕ) (short : length text.now ≤ most_site_octets) (room : length text.now + 32 ≤ need) (enough : need ≤ size) (word : size < 2 ^ 64) where
  abbrev site : Site
  site = record { text = text.now; need = need }

  abbrev P : List ℕ → Type 0
  P image = OpensTo site image nothing

  pub beginning_first : (a : Option Told) → HasSize size a → MayWrite (Beginning text need) 1 (heading text.now size) a
  beginning_first None whole = tt
  beginning_first (Some a) whole = for_blank P a 1 (heading text.now size) (disk_of a) (λ blank. first_now P 1 (heading text.now size) 0 (1 ∷ []) a blank.stable (heads.steps site size short room enough word (disk_of a).contents whole blank.gate))

  pub beginning_second : (a : Option Told) → HasSize size a → MayWriteBehind (Beginning text need) 1 (heading text.now size) 0 (1 ∷ []) a
  beginning_second a whole None adds = tt
  beginning_second None whole (Some b) adds = absurd adds
  beginning_second (Some a) whole (Some b) adds =
      let c = (disk_of a).contents in
      let fits : 1 + length (heading text.now size) ≤ length c = omega (arith, length-heading text.now size, whole, room, enough) in
      let is : disk_of b ≡ record { contents = with_octets 1 (heading text.now size) c; loose = [] } = disk_adds a b (Wrote 1 (heading text.now size) ∷ Synced ∷ []) adds in
      let long : length (disk_of b).contents ≡ size = ap (λ (k : Disk). length k.contents) is ∙ length-with_octets 1 (heading text.now size) c fits ∙ whole in
      for_blank P b 0 (1 ∷ []) (disk_of b) (λ blank. second_now P 1 (heading text.now size) 0 (1 ∷ []) b c fits is (heads.steps site size short room enough word (disk_of b).contents long blank.gate))
