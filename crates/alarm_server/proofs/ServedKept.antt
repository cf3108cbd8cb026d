-- What a crash leaves of an opening, and of a server behind it.
use Rattle.std.proofs.Common.{◌≡◌, ℕ, ◌+◌, ◌≤◌, Option, Some, None, List, [], ◌∷◌, ◌++◌, length, reverse, take, map, ap, ◌∙◌, refl, sym, subst, arith}
use Rattle.std.proofs.lemmas.List.Elements.{All-nil}
use Rattle.ground_io.specs.Disk.{Disk, disk_after}
use Rattle.ground_io.specs.Sent.{Along, emissions, sent_after}
use Rattle.ground_io.specs.Trace.{Told, disk_of}
use Rattle.ground_io.specs.declared.entry.Entry.{Entry}
use Rattle.ground_io.specs.declared.entry.Entry.TheVariants.{Synced}
use Rattle.ground_io.proofs.Crashes.{adds_both, disk_adds}
use Rattle.ground_io.proofs.Sendings.{along-append, quiet_sends_nothing}
use Rattle.bac_values.specs.declared.note.Send.{Send}
use Rattle.alarm_core.specs.Allowed.{Represents}
use Rattle.alarm_core.specs.State.{CoreState}
use Rattle.alarm_core.specs.declared.event.Event.{Event}
use Rattle.alarm_core.specs.declared.site.Site.{Site}
use Rattle.alarm_journal.specs.Journal.{OpenAlike}
use Rattle.alarm_journal.specs.Journal.{Site as Journal}
use Rattle.alarm_journal.specs.Press.{OpensSame, PressState, ReopensSynced}
use Rattle.state_codec.specs.Contents.{ImageStands}
use Rattle.floor_desk.specs.Accounts.{Account, Due, Front, account}
use Rattle.floor_desk.specs.LookingBack.{IsLookedBack, before_returned, dues_over, reach_over}
use Rattle.state_codec.specs.Keeping.{HoldsHistory, StoodFor, journal_of}
use Rattle.state_codec.specs.Openings.{OpenedTo}
use Rattle.state_codec.specs.Sizes.{need}
use Rattle.floor_desk.specs.Moves.{IsGroundOf}
use Rattle.floor_desk.specs.Prefixes.{CountsLost, HasLost, KeepsOrder, LeavesPrefix, RestsOn, GoOut}
use Rattle.floor_desk.specs.Standing.{ShowsAccount, Stands}
use Rattle.floor_desk.specs.States.{FloorState}
use Rattle.floor_desk.specs.declared.floor.Spot.{Spot}
use Rattle.floor_desk.specs.declared.floor.Spot.TheVariants.{Home, Out, Broken}
use Rattle.floor_desk.specs.Serving.{LeavesDisk, Serves}
use Rattle.floor_desk.specs.declared.serve.Closed.{Closed}
use Rattle.floor_desk.specs.declared.serve.End.TheVariants.{Done}
use Rattle.alarm_server.specs.declared.serve.Served.{Served}
use Rattle.alarm_server.specs.ServedSites.{HasServedSite, KeepsServed, served_of}
use Rattle.floor_desk.proofs.LookingBack.{looks_back}
use Rattle.alarm_server.proofs.KeptLines.{along_few}

module _ (journal : Journal) (site : Site) where
  -- what opens as octets that stand for a history leaves it, where nothing was sent
  reopened : (history order : List Event) (dues : List Due) (octets image : List ℕ) (sent : List Entry) → length sent ≤ 0 → ImageStands journal site octets history → OpenAlike journal image octets → LeavesPrefix journal site history order dues sent image
  reopened history order dues octets image sent few stood same =
      let none : length sent ≡ 0 = let f = few in omega arith in record {
        count = 0;
        within = omega arith;
        owed = let n = none in omega arith;
        covers = subst (λ k. RestsOn (length history + 0) (take k dues)) (sym none) (All-nil (λ (due : Due). due.after ≤ length history + 0));
        stands = record { content = stood.content; opens = (same.opens stood.content).1 stood.opens; stands = stood.stands };
      }

  along_opening : (history order : List Event) (dues : List Due) (old new : Told) → ImageStands journal site (disk_of old).contents history → (opens : OpensSame journal old new)
      → Along (LeavesPrefix journal site history order dues) [] (record { contents = (disk_of old).contents; loose = [] }) opens.entries
  along_opening history order dues old new stood opens =
      along_few (LeavesPrefix journal site history order dues) (λ image. OpenAlike journal image (disk_of old).contents) 0
      (λ s image few same. reopened history order dues (disk_of old).contents image s few stood same) [] (record { contents = (disk_of old).contents; loose = [] }) opens.entries
      (omega (arith, ap (λ (l : List Entry). length l) (quiet_sends_nothing [] opens.entries opens.quiet))) opens.always

  sent_behind : (first second sent : List Entry) → sent_after (first ++ second) sent ≡ sent_after second (sent_after first sent)
  sent_behind [] second sent = refl
  sent_behind (entry ∷ first) second sent = sent_behind first second _

  -- an opening, and a server behind it
  served_kept : (history order : List Event) (dues : List Due) (sent : ℕ) (old mid : Told) (new : Option Told) → ImageStands journal site (disk_of old).contents history → OpensSame journal old mid → KeepsOrder journal site history order dues sent (Some mid) new
      → KeepsServed journal site history order dues sent (Some old) new
  served_kept history order dues sent old mid None stood opens kept = tt
  served_kept history order dues sent old mid (Some new) stood opens (others, adds, settle, along) =
      let P = LeavesPrefix journal site history order dues in
      let begun : Disk = record { contents = (disk_of old).contents; loose = [] } in
      let nothing : sent_after opens.entries [] ≡ [] = quiet_sends_nothing [] opens.entries opens.quiet in
      let disk : disk_of mid ≡ disk_after opens.entries begun = disk_adds old mid (Synced ∷ opens.entries) opens.adds in
      let there : Along P (sent_after opens.entries []) (disk_after opens.entries begun) others = subst (λ (s : List Entry). Along P s (disk_after opens.entries begun) others) (sym nothing) (subst (λ (d : Disk). Along P [] d others) disk along) in
      let same : emissions (opens.entries ++ others) ≡ emissions others = sent_behind opens.entries others [] ∙ ap (λ (s : List Entry). sent_after others s) nothing in (
        opens.entries ++ others,
        adds_both (Some old) (Some mid) (Some new) (Synced ∷ opens.entries) others opens.adds adds,
        subst (λ (s : List Entry). GoOut (map (λ (due : Due). due.send) (take sent dues)) s) (sym same) settle,
        along-append P [] begun opens.entries others (along_opening history order dues old mid stood opens) there,
      )

  -- where they tell
  pub opened_and_served : (history order : List Event) (dues : List Due) (sent : ℕ) (old mid new : Option Told) → StoodFor journal site history old mid → ReopensSynced journal old mid → KeepsOrder journal site history order dues sent mid new → KeepsServed journal site history order dues sent old new
  opened_and_served history order dues sent old mid None stood opens kept = none_kept old
    where
      none_kept : (old : Option Told) → KeepsServed journal site history order dues sent old None
      none_kept None = tt
      none_kept (Some old) = tt
  opened_and_served history order dues sent None mid (Some new) stood opens kept = absurd (never mid stood)
    where
      never : (mid : Option Told) → StoodFor journal site history None mid → ⊥
      never None stood = stood
      never (Some mid) stood = stood
  opened_and_served history order dues sent (Some old) None (Some new) stood opens kept = absurd stood
  opened_and_served history order dues sent (Some old) (Some mid) (Some new) stood opens kept = served_kept history order dues sent old mid (Some new) stood opens kept

-- a ground that tells after it has served has told before
told_before : (lost : ℕ) (old new : Option Told) → HasLost lost old new → (journal : Journal) (site : Site) (history : List Event) (first : Option Told) → StoodFor journal site history first new → StoodFor journal site history first old
told_before lost None None l journal site history first stood = stood
told_before lost (Some old) None l journal site history None stood = stood
told_before lost (Some old) None l journal site history (Some first) stood = absurd stood
told_before lost None (Some new) l journal site history first stood = absurd l
told_before lost (Some old) (Some new) l journal site history None stood = stood
told_before lost (Some old) (Some new) l journal site history (Some first) stood = stood

module _ {G : Type 0} (told : G → Option Told) (size disk_faults emit_faults : G → ℕ) where
  -- a ground that came back tells what the floor's press told, or what is left of it
  pub ground_told : (origin : CoreState × PressState G) (a : Account G) (floor : FloorState G) (device : G) → ShowsAccount told size disk_faults emit_faults floor a → floor.origin ≡ origin → IsGroundOf floor.spot device → HasLost floor.lost (told origin.1.device) (told device)
  ground_told origin a floor device shows from ground = by_spot floor.spot shows.spot ground
    where
      by_spot : (spot : Spot G) → Stands told size disk_faults emit_faults floor.origin a floor.lost spot → IsGroundOf spot device → HasLost floor.lost (told origin.1.device) (told device)
      by_spot (Home press) s g = subst (λ (d : G). HasLost floor.lost (told origin.1.device) (told d)) (ap (λ (p : PressState G). p.device) (sym s.2) ∙ sym g) (subst (λ (o : CoreState × PressState G). HasLost floor.lost (told o.1.device) (told a.press.device)) from shows.lost)
      by_spot (Out place upto) s g = absurd g
      by_spot (Broken left place) s g = subst (λ (d : G). HasLost floor.lost (told origin.1.device) (told d)) (sym g) (subst (λ (o : CoreState × PressState G). HasLost floor.lost (told o.1.device) (told left)) from s.4)

  -- and keeps the order
  pub ground_keeps : (origin : CoreState × PressState G) (a : Account G) (floor : FloorState G) (device : G) (journal : Journal) (history : List Event) → ShowsAccount told size disk_faults emit_faults floor a → floor.origin ≡ origin → IsGroundOf floor.spot device → Represents origin.0 history
      → HoldsHistory journal origin.0.site history origin.1.layout (told origin.1.device) → KeepsOrder journal origin.0.site history a.order a.dues a.back.dues (told origin.1.device) (told device)
  ground_keeps origin a floor device journal history shows from ground represents holds = by_spot floor.spot shows.spot ground
    where
      Kept : CoreState × PressState G → G → Type 0
      Kept o d = KeepsOrder journal o.0.site history a.order a.dues a.back.dues (told o.1.device) (told d)

      represents' : Represents floor.origin.0 history
      represents' = subst (λ (o : CoreState × PressState G). Represents o.0 history) (sym from) represents

      holds' : HoldsHistory journal floor.origin.0.site history floor.origin.1.layout (told floor.origin.1.device)
      holds' = subst (λ (o : CoreState × PressState G). HoldsHistory journal o.0.site history o.1.layout (told o.1.device)) (sym from) holds

      by_spot : (spot : Spot G) → Stands told size disk_faults emit_faults floor.origin a floor.lost spot → IsGroundOf spot device → Kept origin device
      by_spot (Home press) s g = subst (λ (d : G). Kept origin d) (ap (λ (p : PressState G). p.device) (sym s.2) ∙ sym g) (subst (λ (o : CoreState × PressState G). Kept o a.press.device) from (shows.holds journal history represents' holds').1)
      by_spot (Out place upto) s g = absurd g
      by_spot (Broken left place) s g = subst (λ (d : G). Kept origin d) (sym g) (subst (λ (o : CoreState × PressState G). Kept o left) from (s.3 journal history represents' holds'))

  -- a desk that was opened on a site has served it
  pub site_served : (shows : ℕ → Type 0) (site : Site) (text : List ℕ) (count : ℕ) (old new : Option (List Send)) (before after : G) (origin : CoreState × PressState G) (closed : Closed) (served : Served)
      → origin.0.site ≡ site → served ≡ served_of closed → closed.received ≤ count → (closed.end ≡ Done → closed.received ≡ count) → Serves told size disk_faults emit_faults shows old new origin after closed → LeavesDisk (disk_faults before) (disk_faults after) closed.end → emit_faults origin.1.device ≡ emit_faults before
      → need site (length text) ≤ size before → OpenedTo site text (told before) (told origin.1.device) origin.0
      → ((history : List Event) → StoodFor (journal_of site text) site history (told before) (told origin.1.device) → Represents origin.0 history)
      → ((history : List Event) → StoodFor (journal_of site text) site history (told before) (told origin.1.device) → HoldsHistory (journal_of site text) site history origin.1.layout (told origin.1.device))
      → ReopensSynced (journal_of site text) (told before) (told origin.1.device) → HasServedSite told size disk_faults emit_faults shows site text count old new before after served
  site_served shows site text count old new before after origin closed served of_site is most all s disk emitted enough opens represents holds reopens =
      let journal = journal_of site text in
      let f = s.floor in
      let a : Account G = account f.origin s.history in
      let lost : HasLost f.lost (told origin.1.device) (told after) = ground_told origin a f after s.stands.shows s.from s.ground in
      let early : (history : List Event) → StoodFor journal site history (told before) (told after) → StoodFor journal site history (told before) (told origin.1.device) =
      λ history stood. told_before f.lost (told origin.1.device) (told after) lost journal site history (told before) stood in record {
        origin = origin;
        of_site = of_site;
        closed = closed;
        is = is;
        most = most;
        all = all;
        serves = s;
        disk = disk;
        counted = subst (λ (n : ℕ). CountsLost n (emit_faults after) s.floor.lost) emitted s.counted;
        enough = enough;
        opens = opens;
        begins = represents;
        keeps = λ history stood.
            let e = early history stood in
            let k : KeepsOrder journal origin.0.site history a.order a.dues a.back.dues (told origin.1.device) (told after) =
            ground_keeps origin a f after journal history s.stands.shows s.from s.ground (represents history e) (subst (λ (z : Site). HoldsHistory journal z history origin.1.layout (told origin.1.device)) (sym of_site) (holds history e)) in
            let l : KeepsOrder journal site history a.order a.dues a.back.dues (told origin.1.device) (told after) = subst (λ (z : Site). KeepsOrder journal z history a.order a.dues a.back.dues (told origin.1.device) (told after)) of_site k in
            let m : KeepsOrder journal site history (account origin s.history).order (account origin s.history).dues (account origin s.history).back.dues (told origin.1.device) (told after) =
            subst (λ (o : CoreState × PressState G). KeepsOrder journal site history (account o s.history).order (account o s.history).dues (account o s.history).back.dues (told origin.1.device) (told after)) s.from l in
            let b : IsLookedBack origin (reverse s.history) (account origin s.history) = looks_back origin s.history in
            subst (λ (l : List Event). KeepsServed journal site history l (dues_over origin.0 (reverse s.history)) (reach_over origin.0 (before_returned (reverse s.history))).dues (told before) (told after)) b.order
            (subst (λ (l : List Due). KeepsServed journal site history (account origin s.history).order l (reach_over origin.0 (before_returned (reverse s.history))).dues (told before) (told after)) b.dues
            (subst (λ (f : Front). KeepsServed journal site history (account origin s.history).order (account origin s.history).dues f.dues (told before) (told after)) b.back
            (opened_and_served journal site history (account origin s.history).order (account origin s.history).dues (account origin s.history).back.dues (told before) (told origin.1.device) (told after) e reopens m)));
      }
