-- What an opening of a journal does, and why it is refused.
use Rattle.std.proofs.Common.{◌≡◌, ℕ, ◌+◌, Bool, true, false, Option, Some, None, Ok, Err, List, [], ◌∷◌, ◌++◌, length, refl, ap, ◌∙◌, sym, subst, inl, inr, arith, IsTrue, IsFalse}
use Rattle.ground_io.specs.declared.entry.Entry.TheVariants.{Synced}
use Rattle.ground_io.specs.Trace.{Told, Adds, disk_of}
use Rattle.ground_io.proofs.Sendings.{quiet_sends_nothing}
use Rattle.alarm_journal.specs.Journal.{Content, nothing}
use Rattle.alarm_journal.specs.Journal.{Site as Journal}
use Rattle.alarm_journal.specs.Opened.{LieBetween, Shows, StandsAt, content_in, pieces}
use Rattle.alarm_journal.specs.Press.{Answers, IsRefusal, IsSmall, Reopens, ReopensSynced, Settled, start_of}
use Rattle.alarm_journal.specs.declared.body.Body.{Body}
use Rattle.alarm_journal.specs.declared.layout.Layout.{Layout}
use Rattle.alarm_journal.specs.declared.open_fault.OpenFault.{OpenFault}
use Rattle.alarm_journal.specs.declared.opened.Opened.{Opened}
use Rattle.alarm_journal.proofs.Images.{opens_once}
use Rattle.alarm_core.specs.declared.event.Event.{Event}
use Rattle.alarm_core.specs.declared.site.Site.{Site}
use Rattle.state_codec.specs.Contents.{StandsForHistory}
use Rattle.alarm_core.specs.State.{CoreState}
use Rattle.state_codec.specs.Damage.{ContentLeadsTo, IsDamagedAt}
use Rattle.state_codec.specs.declared.recovering.RecoverFault.{RecoverFault}
use Rattle.state_codec.specs.declared.recovering.RecoverFault.TheVariants.{Damaged, NoMemory}
use Rattle.state_codec.specs.Emission.{Emits}
use Rattle.state_codec.specs.Keeping.{StoodFor, journal_of}
use Rattle.state_codec.specs.Openings.{IsRefusedFor, OpenedTo, open_fault_of}

-- ---- nothing goes out

pub synced_reopens : (journal : Journal) (old new : Option Told) → ReopensSynced journal old new → Reopens journal old new
synced_reopens journal old None opens = tt
synced_reopens journal None (Some new) opens = absurd opens
synced_reopens journal (Some old) (Some new) opens = inr opens

pub reopened_quietly : (journal : Journal) (old new : Option Told) → Reopens journal old new → Emits old new []
reopened_quietly journal old None opens = ([], tt, refl)
reopened_quietly journal None (Some new) opens = absurd opens
reopened_quietly journal (Some old) (Some new) (inl adds) = ([], adds, refl)
reopened_quietly journal (Some old) (Some new) (inr opens) = (Synced ∷ opens.entries, opens.adds, quiet_sends_nothing [] opens.entries opens.quiet)

pub synced_quietly : (journal : Journal) (old new : Option Told) → ReopensSynced journal old new → Emits old new []
synced_quietly journal old new opens = reopened_quietly journal old new (synced_reopens journal old new opens)

-- ---- octets that didn't open

module _ (site : Site) (text : List ℕ) (fault : OpenFault) where
  pub refused_by_octets : (old new : Option Told) → Answers (journal_of site text) old new (Err fault) → IsRefusal fault → IsRefusedFor site text old new fault
  refused_by_octets None new answers refusal = tt
  refused_by_octets (Some old) None answers refusal = tt
  refused_by_octets (Some old) (Some new) (inl disk) refusal = absurd (subst (λ (f : OpenFault). IsRefusal f) disk refusal)
  refused_by_octets (Some old) (Some new) (inr (inl memory)) refusal = absurd (subst (λ (f : OpenFault). IsRefusal f) memory refusal)
  refused_by_octets (Some old) (Some new) (inr (inr octets)) refusal = inl octets

  -- that comes nowhere where they stood for a history
  pub never_by_octets : (history : List Event) (old new : Option Told) → StoodFor (journal_of site text) site history old new → Answers (journal_of site text) old new (Err fault) → IsRefusal fault → ⊥
  never_by_octets history None new stood answers refusal = stood
  never_by_octets history (Some old) None stood answers refusal = stood
  never_by_octets history (Some old) (Some new) stood (inl disk) refusal = subst (λ (f : OpenFault). IsRefusal f) disk refusal
  never_by_octets history (Some old) (Some new) stood (inr (inl memory)) refusal = subst (λ (f : OpenFault). IsRefusal f) memory refusal
  never_by_octets history (Some old) (Some new) stood (inr (inr octets)) refusal = opens_once.never_both (journal_of site text) (disk_of old).contents stood.content fault stood.opens octets

-- ---- a snapshot or a record that can't be there

module _ (site : Site) (text : List ℕ) (opened : Opened) where
  pub refused_within : (layout : Layout) (old new : Option Told) (found : RecoverFault) → Answers (journal_of site text) old new (Ok (content_in opened)) → Settled (journal_of site text) layout new (content_in opened)
      → opened.snapshot_place ≡ start_of layout + 4 → LieBetween (start_of layout + 4 + length opened.snapshot) opened.bodies layout.next → Shows new (StandsAt opened) → ((at : ℕ) → found ≡ Damaged at → IsDamagedAt site opened at) → IsRefusal (open_fault_of found)
      → IsRefusedFor site text old new (open_fault_of found)
  refused_within layout None new found answers laid snapshot bodies stands damaged refusal = tt
  refused_within layout (Some old) None found answers laid snapshot bodies stands damaged refusal = tt
  refused_within layout (Some old) (Some new) (Damaged at) answers laid snapshot bodies stands damaged refusal =
      inr (at, refl, record { opened = opened; layout = layout; opens = answers; laid = laid.stands; snapshot = snapshot; bodies = bodies; stands = stands; damaged = damaged at refl })
  refused_within layout (Some old) (Some new) NoMemory answers laid snapshot bodies stands damaged refusal = absurd refusal

  -- it comes nowhere where the octets stood for a history
  pub never_refused : (history : List Event) (old new : Option Told) (found : RecoverFault) → StoodFor (journal_of site text) site history old new → Answers (journal_of site text) old new (Ok (content_in opened)) → (StandsForHistory site (content_in opened) history → (at : ℕ) → found ≡ Damaged at → ⊥)
      → IsRefusal (open_fault_of found) → ⊥
  never_refused history None new found stood answers never refusal = stood
  never_refused history (Some old) None found stood answers never refusal = stood
  never_refused history (Some old) (Some new) (Damaged at) stood answers never refusal =
      let content : stood.content ≡ content_in opened = opens_once.content (journal_of site text) (disk_of old).contents stood.content (content_in opened) stood.opens answers in
      never (subst (λ (c : Content). StandsForHistory site c history) content stood.stands) at refl
  never_refused history (Some old) (Some new) NoMemory stood answers never refusal = refusal

  -- what was opened stands for the history that the octets stood for
  pub opened_stands : (history : List Event) (old new : Option Told) → StoodFor (journal_of site text) site history old new → Answers (journal_of site text) old new (Ok (content_in opened)) → StandsForHistory site (content_in opened) history
  opened_stands history None new stood answers = absurd stood
  opened_stands history (Some old) None stood answers = absurd stood
  opened_stands history (Some old) (Some new) stood answers =
      let content : stood.content ≡ content_in opened = opens_once.content (journal_of site text) (disk_of old).contents stood.content (content_in opened) stood.opens answers in
      subst (λ (c : Content). StandsForHistory site c history) content stood.stands

-- ---- a device that is refused is as it was

is_false : (flag : Bool) → (IsTrue flag → ⊥) → IsFalse flag
is_false true never = absurd (never refl)
is_false false never = refl

no_pieces : (before : List Body) (body : Body) (behind : List Body) (octets : List ℕ) → pieces (before ++ body ∷ behind) octets ≡ [] → ⊥
no_pieces [] body behind octets none = omega (arith, ap length none)
no_pieces (first ∷ before) body behind octets none = omega (arith, ap length none)

-- nothing that was opened is damaged
never_empty : (site : Site) (opened : Opened) (at : ℕ) → IsDamagedAt site opened at → content_in opened ≡ nothing → ⊥
never_empty site opened at (inl snapshot) none = omega (arith, snapshot.some, ap (λ (c : Content). length c.snapshot) none)
never_empty site opened at (inr (state, tells, damaged)) none =
    no_pieces damaged.before damaged.body damaged.behind opened.batches (ap (λ (l : List Body). pieces l opened.batches) (sym damaged.bodies_are) ∙ ap (λ (c : Content). c.bodies) none)

-- so a device whose journal is damaged wasn't blank, and nothing but the first sync came
pub left_alone : (site : Site) (opened : Opened) (old new : Option Told) (found : RecoverFault) → (IsTrue opened.fresh → content_in opened ≡ nothing) → (IsFalse opened.fresh → Adds old new (Synced ∷ []))
    → ((at : ℕ) → found ≡ Damaged at → IsDamagedAt site opened at) → IsRefusal (open_fault_of found) → Adds old new (Synced ∷ [])
left_alone site opened old new (Damaged at) empty begun damaged refusal = begun (is_false opened.fresh (λ fresh. never_empty site opened at (damaged at refl) (empty fresh)))
left_alone site opened old new NoMemory empty begun damaged refusal = absurd refusal

pub not_small : (size : ℕ) (found : RecoverFault) → IsSmall size (open_fault_of found)
not_small size (Damaged at) = tt
not_small size NoMemory = tt

-- ---- a content that was opened leads to a state

pub opened_to : (site : Site) (text : List ℕ) (content : Content) (state : CoreState) (old new : Option Told) → Answers (journal_of site text) old new (Ok content) → ContentLeadsTo site content state → OpenedTo site text old new state
opened_to site text content state None new answers leads = tt
opened_to site text content state (Some old) None answers leads = tt
opened_to site text content state (Some old) (Some new) answers leads = (content, answers, leads)
