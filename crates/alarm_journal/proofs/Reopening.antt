-- What a crash may leave from the first sync of an opening on, and what the opening answers.
use Rattle.std.proofs.Common.{◌≡◌, ◌⊎◌, ◌↔◌, inl, inr, ⊎_elim, ℕ, ◌<◌, ◌≤◌, Bool, true, false, List, [], ◌∷◌, length, get_or, refl, sym, ◌∙◌, ap, subst, arith, Option, Some, None, Result, Ok, Err, IsTrue}
use Rattle.ground_io.specs.Disk.{Disk, Always}
use Rattle.ground_io.specs.Trace.{Told, Adds, HasSize, disk_of}
use Rattle.ground_io.specs.declared.entry.Entry.{Entry}
use Rattle.ground_io.specs.declared.entry.Entry.TheVariants.{Synced}
use Rattle.ground_io.proofs.Crashes.{only_read, adds_both, disk_adds, always_weaker}
use Rattle.alarm_journal.specs.Journal.{Site, Content, nothing, IsRefused, OpenAlike, OpensTo, heading}
use Rattle.alarm_journal.specs.Opened.{Shows}
use Rattle.alarm_journal.specs.Press.{Settled, IsAtMostSynced, IsSound, Begun, IsBlank, Blank, MayFormat, Reopens, ReopensSynced, Answers, WasBlank, IsOpening}
use Rattle.alarm_journal.specs.Protocol.{AddsSome, Leads, two_writes, IsTwoCutShort}
use Rattle.alarm_journal.specs.declared.layout.Layout.{Layout}
use Rattle.alarm_journal.specs.declared.open_fault.OpenFault.{OpenFault}
use Rattle.alarm_journal.specs.declared.open_fault.OpenFault.TheVariants.{SmallDevice}
use Rattle.alarm_journal.proofs.Headers.{opens_blank}
use Rattle.alarm_journal.proofs.Images.{same_alike, both_alike}
use Rattle.alarm_journal.proofs.Rest.{opens_now}

-- once the sync was done, it was done or failed
pub reopens : (site : Site) (a x : Option Told) → ReopensSynced site a x → Reopens site a x
reopens site a None so = tt
reopens site None (Some x) so = so
reopens site (Some a) (Some x) so = inr so

-- nothing was written
pub stays : (site : Site) (a x : Option Told) → Adds a x (Synced ∷ []) → ReopensSynced site a x
stays site a None adds = tt
stays site None (Some x) adds = absurd adds
stays site (Some a) (Some x) adds = record {
  entries = [];
  adds = adds;
  quiet = tt;
  always = λ image may. same_alike site image (disk_of a).contents (only_read (disk_of a).contents image may);
}

-- once the disk was synced
synced : (a x : Told) → Adds (Some a) (Some x) (Synced ∷ []) → disk_of x ≡ record { contents = (disk_of a).contents; loose = [] }
synced a x adds = disk_adds a x (Synced ∷ []) adds

pub blank_now : (a z r : Option Told) (flag : Bool) → Adds a z (Synced ∷ []) → Adds z r [] → Shows r (λ image. IsTrue flag ↔ (get_or image 0 0 ≡ 1)) → (IsTrue flag → ⊥) → Blank r
blank_now a z None flag az zr reads shut = tt
blank_now a None (Some r) flag az zr reads shut = absurd zr
blank_now None (Some z) (Some r) flag az zr reads shut = absurd az
blank_now (Some a) (Some z) (Some r) flag az zr reads shut =
    let same : disk_of r ≡ disk_of z = disk_adds z r [] zr in
    record { gate = λ is. shut (reads.1 is); stable = ap (λ (k : Disk). k.loose) (same ∙ synced a z az) }

pub begun_now : (a z r : Option Told) (flag : Bool) → Adds a z (Synced ∷ []) → Adds z r [] → Shows r (λ image. IsTrue flag ↔ (get_or image 0 0 ≡ 1)) → IsTrue flag → Begun r
begun_now a z None flag az zr reads is = tt
begun_now a None (Some r) flag az zr reads is = absurd zr
begun_now None (Some z) (Some r) flag az zr reads is = absurd az
begun_now (Some a) (Some z) (Some r) flag az zr reads is =
    let same : disk_of r ≡ disk_of z = disk_adds z r [] zr in
    record { gate = reads.0 is; stable = ap (λ (k : Disk). k.loose) (same ∙ synced a z az) }

-- the octets are those of the opening
contents_then : (a r : Told) → Adds (Some a) (Some r) (Synced ∷ []) → (disk_of r).contents ≡ (disk_of a).contents
contents_then a r adds = ap (λ (k : Disk). k.contents) (synced a r adds)

blank_then : (site : Site) (size : ℕ) (a r : Told) → Adds (Some a) (Some r) (Synced ∷ []) → IsBlank r → length (disk_of a).contents ≡ size → site.need ≤ size → OpensTo site (disk_of a).contents nothing
blank_then site size a r adds blank whole enough =
    opens_blank site (disk_of a).contents (omega (arith, whole, enough)) (λ is. blank.gate (ap (λ (l : List ℕ). get_or l 0 0) (contents_then a r adds) ∙ is))

pub formatting : (site : Site) (size : ℕ) (a r f : Option Told) → HasSize size a → site.need ≤ size → Adds a r (Synced ∷ []) → Blank r → Leads (λ image. OpensTo site image nothing) r f → ReopensSynced site a f
formatting site size a r None whole enough ar blank formats = tt
formatting site size a None (Some f) whole enough ar blank formats = absurd formats
formatting site size None (Some r) (Some f) whole enough ar blank formats = absurd ar
formatting site size (Some a) (Some r) (Some f) whole enough ar blank formats =
    let before = blank_then site size a r ar blank whole enough in
    record {
      entries = formats.entries;
      adds = adds_both (Some a) (Some r) (Some f) (Synced ∷ []) formats.entries ar formats.adds;
      quiet = formats.quiet;
      always = subst (λ (k : Disk). Always (λ image. OpenAlike site image (disk_of a).contents) k formats.entries) (synced a r ar)
          (always_weaker (λ image. OpensTo site image nothing) (λ image. OpenAlike site image (disk_of a).contents) (λ image opens. both_alike site image (disk_of a).contents nothing opens before) (disk_of r) formats.entries formats.always);
    }

pub small_answer : (site : Site) (size : ℕ) (a z : Option Told) → HasSize size a → size < site.need → Adds a z (Synced ∷ []) → Answers site a z (Err (SmallDevice size site.need))
small_answer site size a None whole small adds = tt
small_answer site size None (Some z) whole small adds = absurd adds
small_answer site size (Some a) (Some z) whole small adds =
    inr (inr (sym whole, small, inl refl))

pub answers_then : (site : Site) (a r d : Option Told) (answer : Result Content OpenFault) → Adds a r (Synced ∷ []) → Answers site r d answer → Answers site a d answer
answers_then site a r None answer adds answers = tt
answers_then site a None (Some d) answer adds answers = absurd answers
answers_then site None (Some r) (Some d) answer adds answers = absurd adds
answers_then site (Some a) (Some r) (Some d) (Ok content) adds answers = subst (λ (l : List ℕ). OpensTo site l content) (contents_then a r adds) answers
answers_then site (Some a) (Some r) (Some d) (Err fault) adds answers =
    ⊎_elim (λ disk. inl disk) (λ more. inr (⊎_elim (λ memory. inl memory) (λ is. inr (subst (λ (l : List ℕ). IsRefused site l fault) (contents_then a r adds) is)) more)) answers

pub answers_read : (site : Site) (layout : Layout) (size : ℕ) (content : Content) (a d : Option Told) → IsSound size layout → Adds a d (Synced ∷ []) → Settled site layout d content → Answers site a d (Ok content)
answers_read site layout size content a None sound ad settled = tt
answers_read site layout size content None (Some d) sound ad settled = absurd ad
answers_read site layout size content (Some a) (Some d) sound ad settled =
    subst (λ (l : List ℕ). OpensTo site l content) (contents_then a d ad) (opens_now site layout (disk_of d).contents content size sound settled.stands)

pub answers_blank : (site : Site) (size : ℕ) (a r f : Option Told) (entries : List Entry) → HasSize size a → site.need ≤ size → Adds a r (Synced ∷ []) → Blank r → Adds r f entries → Answers site a f (Ok nothing)
answers_blank site size a r None entries whole enough ar blank rf = tt
answers_blank site size a None (Some f) entries whole enough ar blank rf = absurd rf
answers_blank site size None (Some r) (Some f) entries whole enough ar blank rf = absurd ar
answers_blank site size (Some a) (Some r) (Some f) entries whole enough ar blank rf = blank_then site size a r ar blank whole enough

never : {A B : Type 0} → (A → ⊥) → (B → ⊥) → A ↔ B
never first second = ((λ a. absurd (first a)), (λ b. absurd (second b)))

not_true : IsTrue false → ⊥
not_true is = cc

pub was_begun : (a r d : Option Told) → Adds a r (Synced ∷ []) → Begun r → Adds r d [] → WasBlank a d false
was_begun a r None ar begun rd = tt
was_begun a None (Some d) ar begun rd = absurd rd
was_begun None (Some r) (Some d) ar begun rd = absurd ar
was_begun (Some a) (Some r) (Some d) ar begun rd = never not_true (λ shut. shut (ap (λ (l : List ℕ). get_or l 0 0) (sym (contents_then a r ar)) ∙ begun.gate))

pub was_blank : (a r f : Option Told) (entries : List Entry) → Adds a r (Synced ∷ []) → Blank r → Adds r f entries → WasBlank a f true
was_blank a r None entries ar blank rf = tt
was_blank a None (Some f) entries ar blank rf = absurd rf
was_blank None (Some r) (Some f) entries ar blank rf = absurd ar
was_blank (Some a) (Some r) (Some f) entries ar blank rf = ((λ is shut. blank.gate (ap (λ (l : List ℕ). get_or l 0 0) (contents_then a r ar) ∙ shut)), (λ shut. refl))

-- what came was at most the first sync
pub at_most : (entries : List Entry) (a f : Option Told) → IsAtMostSynced entries → Adds a f entries → AddsSome IsAtMostSynced a f
at_most entries a None is adds = tt
at_most entries None (Some f) is adds = absurd adds
at_most entries (Some a) (Some f) is adds = (entries, is, adds)

-- a blank device of the needed size may be formatted
pub may_format : (size need : ℕ) (P : List Entry → Type 0) (a r f : Option Told) → need ≤ size → Adds a r (Synced ∷ []) → Blank r → AddsSome P r f → MayFormat size need a f
may_format size need P None r f fits ar blank some = fits
may_format size need P (Some a) r None fits ar blank some = fits
may_format size need P (Some a) None (Some f) fits ar blank some = absurd some
may_format size need P (Some a) (Some r) (Some f) fits ar blank some = (fits, λ shut. blank.gate (ap (λ (l : List ℕ). get_or l 0 0) (contents_then a r ar) ∙ shut))

-- what adds some entries adds some
pub adds_those : (entries : List Entry) (a f : Option Told) → Adds a f entries → AddsSome (λ _. Unit {0}) a f
adds_those entries a None adds = tt
adds_those entries None (Some f) adds = absurd adds
adds_those entries (Some a) (Some f) adds = (entries, tt, adds)

-- the writes of a formatting that was cut short, behind the sync
pub opening_cut : (text : List ℕ) (size : ℕ) (a r f : Option Told) → Adds a r (Synced ∷ []) → AddsSome (λ entries. (entries ≡ []) ⊎ IsTwoCutShort 1 (heading text size) 0 (1 ∷ []) entries) r f → AddsSome (IsOpening text size) a f
opening_cut text size a r None ar some = tt
opening_cut text size a None (Some f) ar some = absurd some
opening_cut text size None (Some r) (Some f) ar some = absurd ar
opening_cut text size (Some a) (Some r) (Some f) ar some = (
  Synced ∷ some.0,
  ⊎_elim (λ none. inr (inl (ap (λ (l : List Entry). Synced ∷ l) none))) (λ short. inr (inr (some.0, inr short, refl))) some.1,
  adds_both (Some a) (Some r) (Some f) (Synced ∷ []) some.0 ar some.2,
)

pub opening_done : (text : List ℕ) (size : ℕ) (a r f : Option Told) → Adds a r (Synced ∷ []) → Adds r f (two_writes 1 (heading text size) 0 (1 ∷ [])) → AddsSome (IsOpening text size) a f
opening_done text size a r None ar wrote = tt
opening_done text size a None (Some f) ar wrote = absurd wrote
opening_done text size None (Some r) (Some f) ar wrote = absurd ar
opening_done text size (Some a) (Some r) (Some f) ar wrote = (
  Synced ∷ two_writes 1 (heading text size) 0 (1 ∷ []),
  inr (inr (two_writes 1 (heading text size) 0 (1 ∷ []), inl refl, refl)),
  adds_both (Some a) (Some r) (Some f) (Synced ∷ []) (two_writes 1 (heading text size) 0 (1 ∷ [])) ar wrote,
)
