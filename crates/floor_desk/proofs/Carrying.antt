-- What a load leaves when it was carried out.
use Rattle.std.proofs.Common.{◌≡◌, ℕ, ◌+◌, ◌-◌, ◌^◌, ◌≤◌, [], Option, Some, None, List, ◌++◌, All, length, map, take, drop, reverse, refl, ap, ◌∙◌, sym, subst, arith}
use Rattle.std.proofs.lemmas.List.{drop_all, take_all}
use Rattle.std.proofs.lemmas.List.Elements.{All-append, All-drop}
use Rattle.ground_io.specs.Trace.{Told, disk_of}
use Rattle.ground_io.proofs.Crashes.{always_weaker}
use Rattle.bac_values.specs.declared.note.Send.{Send}
use Rattle.alarm_core.specs.Allowed.{IsHistory, Represents}
use Rattle.alarm_core.specs.Fits.{FitsEvent}
use Rattle.alarm_core.specs.State.{CoreState}
use Rattle.alarm_core.specs.declared.event.Event.{Event}
use Rattle.alarm_core.specs.declared.site.Site.{Site}
use Rattle.alarm_journal.specs.Emissions.{EmitsAll}
use Rattle.alarm_journal.specs.Journal.{Content, OpensTo, only_snapshot, with_batch}
use Rattle.alarm_journal.specs.Journal.{Site as Journal}
use Rattle.alarm_journal.specs.Press.{Between, Lasts, PressState, Settled, Throughout, room_of}
use Rattle.state_codec.specs.Contents.{ImageStands, StandsForHistory, records_of}
use Rattle.state_codec.specs.Records.{HasRecord}
use Rattle.state_codec.proofs.Works.{All-reverse, batch_of_events, content_committed, no_events}
use Rattle.floor_desk.specs.Accounts.{Account, Due, Front, front_of}
use Rattle.state_codec.specs.Work.{FitsPress, IsWorkOf, content_with}
use Rattle.floor_desk.specs.Carrying.{CountsCarried, IsCarriedOut, IsWorkFor, KeepsLoan, Lends, SendsAlone, Stays, WritesEventsAlone}
use Rattle.floor_desk.specs.Courses.{KeepsCourse}
use Rattle.state_codec.specs.Keeping.{Commits, HoldsHistory, Rests}
use Rattle.floor_desk.specs.Prefixes.{HasLost, KeepsOrder, RestsOn, with_first}
use Rattle.floor_desk.specs.Holding.{HoldsOrder, pending_events}
use Rattle.floor_desk.specs.declared.load.Carried.{Carried}
use Rattle.floor_desk.specs.declared.load.Carried.TheVariants.{Home as HomeAgain, Broken as Gone}
use Rattle.floor_desk.specs.declared.load.Load.{Load}
use Rattle.state_codec.specs.declared.work.Work.{Work}
use Rattle.state_codec.specs.declared.work.Work.TheVariants.{Nothing, Batch, Snapshot}
use Rattle.floor_desk.proofs.Prefixes.{first_and_rest, keeps_commit, keeps_emitting, lost_both, lost_emitting}

-- what opens to a content that stands for a history stands for that history
stays_of : (journal : Journal) (site : Site) (history : List Event) (content : Content) (old new : Option Told) → StandsForHistory site content history → Throughout journal content old new → Stays journal site history old new
stays_of journal site history content old None stands through = tt
stays_of journal site history content None (Some new) stands through = absurd through
stays_of journal site history content (Some old) (Some new) stands (entries, adds, always) =
    (entries, adds, always_weaker (λ image. OpensTo journal image content) (λ image. ImageStands journal site image history) (λ image opens. record { content = content; opens = opens; stands = stands }) (disk_of old) entries always)

-- where there are no records the work is nothing
pub is_nothing : (state : CoreState) (records : List ℕ) (room area half : ℕ) (work : Work) → records ≡ [] → IsWorkOf state records room work → FitsPress area half work → work ≡ Nothing
is_nothing state records room area half Nothing none is fits = refl
is_nothing state records room area half (Batch job) none is fits = absurd (omega (arith, fits.0, ap (λ (l : List ℕ). length l) (is ∙ none)))
is_nothing state records room area half (Snapshot job) none is fits = absurd (omega (arith, is.1, ap (λ (l : List ℕ). length l) none))

module _ {G : Type 0} (told : G → Option Told) where
  -- the journal with the work stands for the history with the whole order
  work_stands : (origin : CoreState × PressState G) (a : Account G) (room : ℕ) (work : Work) (history : List Event) (content : Content) → KeepsCourse origin a → Represents origin.0 history → IsWorkFor a room work
      → StandsForHistory origin.0.site content (with_first history a.taken.events a.order) → StandsForHistory origin.0.site (content_with work content) (with_first history (length a.order) a.order)
  work_stands origin a room Nothing history content c stands work stood =
      let same : with_first history (length a.order) a.order ≡ with_first history a.taken.events a.order =
      first_and_rest history a.order a.taken.events ∙ ap (λ (l : List Event). reverse l ++ with_first history a.taken.events a.order) (no_events (pending_events a) work) in
      subst (λ (h : List Event). StandsForHistory origin.0.site content h) (sym same) stood
  work_stands origin a room (Batch job) history content c stands work stood =
      let before : List Event = with_first history a.taken.events a.order in
      let rest = first_and_rest history a.order a.taken.events in
      let is : IsHistory origin.0.site (reverse (pending_events a) ++ before) = subst (λ (h : List Event). IsHistory origin.0.site h) rest (subst (λ (s : Site). IsHistory s (with_first history (length a.order) a.order)) c.site (c.stands history stands).is_history) in
      subst (λ (h : List Event). StandsForHistory origin.0.site (with_batch content job) h) (sym rest)
      (batch_of_events origin.0.site content (pending_events a) before job stood is (All-drop HasRecord a.taken.events a.order c.recorded) (All-drop FitsEvent a.taken.events a.order c.fit) work)
  work_stands origin a room (Snapshot job) history content c stands work stood =
      let all : List Event = with_first history (length a.order) a.order in
      let rest = first_and_rest history a.order a.taken.events in
      let fit : All FitsEvent all = subst (λ (h : List Event). All FitsEvent h) (sym rest) (All-append FitsEvent (reverse (pending_events a)) (with_first history a.taken.events a.order) (All-reverse FitsEvent (pending_events a) (All-drop FitsEvent a.taken.events a.order c.fit)) stood.fit) in
      subst (λ (s : Site). StandsForHistory s (only_snapshot job) all) c.site (work.0.stands all (c.stands history stands) fit)

  -- the press that a load left with, by what its account says
  module _ (origin : CoreState × PressState G) (a : Account G) (load : Load G) (lent : Lends told origin a load) where
    home : (a.back ≡ a.taken) × (a.durable ≡ origin.0.events + a.taken.events)
    home = lent.fronts.home lent.none lent.works

    -- it holds the first events, and their dues were sent
    held_before : HoldsOrder told origin a (origin.0.events + a.taken.events) a.taken load.press
    held_before =
        subst (λ (p : PressState G). HoldsOrder told origin a (origin.0.events + a.taken.events) a.taken p) (sym lent.press)
        (subst (λ (t : Front). HoldsOrder told origin a (origin.0.events + a.taken.events) t a.press) home.0 (subst (λ (d : ℕ). HoldsOrder told origin a d a.back a.press) home.1 lent.holds))

    events_are : (history : List Event) → Represents origin.0 history → origin.0.events ≡ length history
    events_are history stands = ap (λ (s : CoreState). s.events) stands.shows

    -- what was durable, and what is written, count from the first event on
    durable_count : a.durable - origin.0.events ≡ a.taken.events
    durable_count = omega (arith, home.1)

    upto_count : load.upto - origin.0.events ≡ length a.order
    upto_count = omega (arith, lent.upto, lent.course.events)

    -- where no event waited its work is nothing
    nothing_new : (area half : ℕ) → FitsPress area half load.work → load.upto ≡ a.durable → load.work ≡ Nothing
    nothing_new area half fits same =
        let none : pending_events a ≡ [] = drop_all a.taken.events a.order (omega (arith, same, lent.upto, lent.course.events, home.1)) in
        is_nothing a.state (records_of (pending_events a)) (room_of load.press.layout) area half load.work (ap records_of none) lent.work fits

    -- its datagrams are those that the press hadn't taken
    sends_are : load.sends ≡ map (λ (due : Due). due.send) (drop a.back.dues (take (length a.dues) a.dues))
    sends_are =
        lent.sends
        ∙ (ap (λ (t : Front). map (λ (due : Due). due.send) (drop t.dues a.dues)) (sym home.0)
        ∙ ap (λ (l : List Due). map (λ (due : Due). due.send) (drop a.back.dues l)) (sym (take_all (length a.dues) a.dues (omega arith))))

    -- then just its datagrams went out
    alone_with : (area half : ℕ) (carried : Carried G) → FitsPress area half load.work → (load.work ≡ Nothing → SendsAlone told load.sends load.press carried) → WritesEventsAlone told a load.upto (front_of a) carried
    alone_with area half carried fits alone same =
        subst (λ (p : PressState G). SendsAlone told (map (λ (due : Due). due.send) (drop a.back.dues (take (length a.dues) a.dues))) p carried) lent.press
        (subst (λ (l : List Send). SendsAlone told l load.press carried) sends_are (alone (nothing_new area half fits same)))

    -- on the way each image stands for what was durable, or for that and what is written
    loan_commits : (journal : Journal) (history : List Event) (new : Option Told) → Represents origin.0 history → HoldsHistory journal origin.0.site history origin.1.layout (told origin.1.device)
        → ((content : Content) → Rests journal load.press.layout (told load.press.device) content → Between journal content (content_with load.work content) (told load.press.device) new)
        → Commits journal origin.0.site (with_first history (a.durable - origin.0.events) a.order) (with_first history (load.upto - origin.0.events) a.order) (told a.press.device) new
    loan_commits journal history new stands first between =
        let site = origin.0.site in
        let both = held_before journal history stands first in
        let count : (origin.0.events + a.taken.events) - origin.0.events ≡ a.taken.events = omega arith in
        let held : HoldsHistory journal site (with_first history a.taken.events a.order) load.press.layout (told load.press.device) = subst (λ (n : ℕ). HoldsHistory journal site (with_first history n a.order) load.press.layout (told load.press.device)) count both.0 in
        let (content, rests, stood) = held in
        let after = with_first history (load.upto - origin.0.events) a.order in
        let commits : Commits journal site (with_first history a.taken.events a.order) (with_first history (length a.order) a.order) (told load.press.device) new =
        content_committed journal site (with_first history a.taken.events a.order) (with_first history (length a.order) a.order) content (content_with load.work content) (told load.press.device) new stood
        (work_stands origin a _ load.work history content lent.course stands lent.work stood) (between content rests) in
        subst (λ (p : PressState G). Commits journal site (with_first history (a.durable - origin.0.events) a.order) after (told p.device) new) lent.press
        (subst (λ (n : ℕ). Commits journal site (with_first history n a.order) after (told load.press.device) new) (sym durable_count)
        (subst (λ (n : ℕ). Commits journal site (with_first history a.taken.events a.order) (with_first history n a.order) (told load.press.device) new) (sym upto_count) commits))

    -- first it is written, and behind that the datagrams are sent
    keeps_loan : (mid press : PressState G) (gone lost : ℕ) → gone + lost ≡ length load.sends
        → ((journal : Journal) (content : Content) → Rests journal load.press.layout (told load.press.device) content → Rests journal mid.layout (told mid.device) (content_with load.work content))
        → ((journal : Journal) (content : Content) → Rests journal load.press.layout (told load.press.device) content → Between journal content (content_with load.work content) (told load.press.device) (told mid.device))
        → EmitsAll load.sends gone lost (told mid.device) (told press.device)
        → ((journal : Journal) (content : Content) → Settled journal mid.layout (told mid.device) content → Throughout journal content (told mid.device) (told press.device))
        → KeepsLoan told origin a load.upto (front_of a) lost press
    keeps_loan mid press gone lost all rest between emits through journal history stands first =
        let site = origin.0.site in
        let both = held_before journal history stands first in
        let count : (origin.0.events + a.taken.events) - origin.0.events ≡ a.taken.events = omega arith in
        let held : HoldsHistory journal site (with_first history a.taken.events a.order) load.press.layout (told load.press.device) = subst (λ (n : ℕ). HoldsHistory journal site (with_first history n a.order) load.press.layout (told load.press.device)) count both.0 in
        let (content, rests, stood) = held in
        let after = content_with load.work content in
        let stood_after : StandsForHistory site after (with_first history (length a.order) a.order) = work_stands origin a _ load.work history content lent.course stands lent.work stood in
        let rests_mid : Rests journal mid.layout (told mid.device) after = rest journal content rests in
        record {
          written = told mid.device;
          commits = loan_commits journal history (told mid.device) stands first (between journal);
          stays =
              subst (λ (n : ℕ). Stays journal site (with_first history n a.order) (told mid.device) (told press.device)) (sym upto_count)
              (stays_of journal site (with_first history (length a.order) a.order) after (told mid.device) (told press.device) stood_after (through journal after rests_mid.0));
          emits =
              subst (λ (l : List Send). EmitsAll l (length l - lost) lost (told mid.device) (told press.device)) sends_are
              (subst (λ (n : ℕ). EmitsAll load.sends n lost (told mid.device) (told press.device)) (omega (arith, all)) emits);
        }

    -- what it leaves where it writes, or is lost
    pub keeps_written : (journal : Journal) (history : List Event) (new : Option Told) → Represents origin.0 history → HoldsHistory journal origin.0.site history origin.1.layout (told origin.1.device)
        → ((content : Content) → Rests journal load.press.layout (told load.press.device) content → Between journal content (content_with load.work content) (told load.press.device) new)
        → KeepsOrder journal origin.0.site history a.order a.dues a.taken.dues (told origin.1.device) new
    keeps_written journal history new stands first between =
        let both = held_before journal history stands first in
        let count : (origin.0.events + a.taken.events) - origin.0.events ≡ a.taken.events = omega arith in
        let held : HoldsHistory journal origin.0.site (with_first history a.taken.events a.order) load.press.layout (told load.press.device) = subst (λ (n : ℕ). HoldsHistory journal origin.0.site (with_first history n a.order) load.press.layout (told load.press.device)) count both.0 in
        let (content, rests, stood) = held in
        let commits : Commits journal origin.0.site (with_first history a.taken.events a.order) (with_first history (length a.order) a.order) (told load.press.device) new =
        content_committed journal origin.0.site (with_first history a.taken.events a.order) (with_first history (length a.order) a.order) content (content_with load.work content) (told load.press.device) new stood
        (work_stands origin a _ load.work history content lent.course stands lent.work stood) (between content rests) in
        keeps_commit journal origin.0.site history a.order a.dues a.taken.dues a.taken.events (length a.order) (told origin.1.device) (told load.press.device) new lent.fronts.dues lent.fronts.events (omega arith) lent.fronts.events
        (subst (λ (n : ℕ). RestsOn (n + a.taken.events) (take a.taken.dues a.dues)) (events_are history stands) lent.fronts.rests) both.1 commits

    -- what is held once it was written and emitted
    pub holds_carried : (mid press : PressState G) (gone lost : ℕ)
        → ((journal : Journal) (content : Content) → Rests journal load.press.layout (told load.press.device) content → Rests journal mid.layout (told mid.device) (content_with load.work content))
        → ((journal : Journal) (content : Content) → Rests journal load.press.layout (told load.press.device) content → Between journal content (content_with load.work content) (told load.press.device) (told mid.device))
        → EmitsAll load.sends gone lost (told mid.device) (told press.device)
        → ((journal : Journal) (content : Content) → Settled journal mid.layout (told mid.device) content → Settled journal press.layout (told press.device) content)
        → ((journal : Journal) (content : Content) → Settled journal mid.layout (told mid.device) content → Lasts journal (told press.device) content)
        → ((journal : Journal) (content : Content) → Settled journal mid.layout (told mid.device) content → Throughout journal content (told mid.device) (told press.device))
        → HoldsOrder told origin a load.upto (front_of a) press
    holds_carried mid press gone lost rest between emits settled lasts through journal history stands first =
        let both = held_before journal history stands first in
        let count : (origin.0.events + a.taken.events) - origin.0.events ≡ a.taken.events = omega arith in
        let held : HoldsHistory journal origin.0.site (with_first history a.taken.events a.order) load.press.layout (told load.press.device) = subst (λ (n : ℕ). HoldsHistory journal origin.0.site (with_first history n a.order) load.press.layout (told load.press.device)) count both.0 in
        let (content, rests, stood) = held in
        let after = content_with load.work content in
        let stood_after : StandsForHistory origin.0.site after (with_first history (length a.order) a.order) = work_stands origin a _ load.work history content lent.course stands lent.work stood in
        let rests_mid : Rests journal mid.layout (told mid.device) after = rest journal content rests in
        let kept : KeepsOrder journal origin.0.site history a.order a.dues a.taken.dues (told origin.1.device) (told mid.device) = keeps_written journal history (told mid.device) stands first (between journal) in
        let all : load.upto - origin.0.events ≡ length a.order = omega (arith, lent.upto, lent.course.events) in (
          subst (λ (n : ℕ). HoldsHistory journal origin.0.site (with_first history n a.order) press.layout (told press.device)) (sym all) (after, (settled journal after rests_mid.0, lasts journal after rests_mid.0), stood_after),
          keeps_emitting journal origin.0.site history a.order a.dues a.taken.dues (length a.order) (told origin.1.device) (told mid.device) (told press.device) after load.sends gone lost lent.fronts.dues (omega arith)
              (subst (λ (n : ℕ). RestsOn n a.dues) (lent.course.events ∙ ap (λ (n : ℕ). n + length a.order) (events_are history stands)) lent.course.rests) stood_after lent.sends kept emits (through journal after rests_mid.0),
        )

    -- what comes back home
    pub back_home : (size disk_faults emit_faults : G → ℕ) (mid press : PressState G) (gone lost : ℕ) → lost ≤ 2 ^ 64 - 1 → gone + lost ≡ length load.sends
        → ((journal : Journal) (content : Content) → Rests journal load.press.layout (told load.press.device) content → Rests journal mid.layout (told mid.device) (content_with load.work content))
        → ((journal : Journal) (content : Content) → Rests journal load.press.layout (told load.press.device) content → Between journal content (content_with load.work content) (told load.press.device) (told mid.device))
        → HasLost 0 (told load.press.device) (told mid.device)
        → EmitsAll load.sends gone lost (told mid.device) (told press.device)
        → ((journal : Journal) (content : Content) → Settled journal mid.layout (told mid.device) content → Settled journal press.layout (told press.device) content)
        → ((journal : Journal) (content : Content) → Settled journal mid.layout (told mid.device) content → Lasts journal (told press.device) content)
        → ((journal : Journal) (content : Content) → Settled journal mid.layout (told mid.device) content → Throughout journal content (told mid.device) (told press.device))
        → (area half : ℕ) → FitsPress area half load.work → (load.work ≡ Nothing → SendsAlone told load.sends load.press (HomeAgain press load.upto lost))
        → CountsCarried size disk_faults emit_faults load.press.device (HomeAgain press load.upto lost) → IsCarriedOut told size disk_faults emit_faults origin a load.upto (front_of a) (HomeAgain press load.upto lost)
    back_home size disk_faults emit_faults mid press gone lost few all rest between quiet emits settled lasts through area half fits alone counted = (
      refl,
      subst (λ (p : PressState G). CountsCarried size disk_faults emit_faults p.device (HomeAgain press load.upto lost)) lent.press counted,
      holds_carried mid press gone lost rest between emits settled lasts through,
      subst (λ (p : PressState G). HasLost lost (told p.device) (told press.device)) lent.press
          (subst (λ (n : ℕ). HasLost n (told load.press.device) (told press.device)) (omega (arith, few))
          (lost_both 0 lost (told load.press.device) (told mid.device) (told press.device) quiet (lost_emitting load.sends gone lost (told mid.device) (told press.device) few emits))),
      keeps_loan mid press gone lost all rest between emits through,
      alone_with area half (HomeAgain press load.upto lost) fits alone,
    )

    -- what is left where the disk failed
    pub back_broken : (size disk_faults emit_faults : G → ℕ) (device : G)
        → ((journal : Journal) (content : Content) → Rests journal load.press.layout (told load.press.device) content → Between journal content (content_with load.work content) (told load.press.device) (told device))
        → HasLost 0 (told load.press.device) (told device) → (area half : ℕ) → FitsPress area half load.work → (load.work ≡ Nothing → ⊥)
        → CountsCarried size disk_faults emit_faults load.press.device (Gone device load.upto) → IsCarriedOut told size disk_faults emit_faults origin a load.upto (front_of a) (Gone device load.upto)
    back_broken size disk_faults emit_faults device between quiet area half fits some counted = (
      refl,
      subst (λ (p : PressState G). CountsCarried size disk_faults emit_faults p.device (Gone device load.upto)) lent.press counted,
      λ journal history stands first.
          subst (λ (t : Front). KeepsOrder journal origin.0.site history a.order a.dues t.dues (told origin.1.device) (told device)) (sym home.0) (keeps_written journal history (told device) stands first (between journal)),
      subst (λ (p : PressState G). HasLost 0 (told p.device) (told device)) lent.press quiet,
      λ journal history stands first. loan_commits journal history (told device) stands first (between journal),
      alone_with area half (Gone device load.upto) fits some,
    )
