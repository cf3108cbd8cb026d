-- Servers over their real ends, where these tell to the end.
use Rattle.std.proofs.Common.{◌≡◌, ◌==◌, ◌≤◌, ℕ, zero, suc, ◌+◌, List, [], ◌∷◌, Option, Some, None, Result, Ok, Err, length, take, reverse, refl, sym, ap, ◌∙◌, subst, inl, inr, arith, cond, Bool, true, false, IfSome, rules}
use Rattle.std.specs.Borrow.{Bor}
use Rattle.std.proofs.lemmas.Bool.{cases_Bool}
use Rattle.std.proofs.lemmas.List.Elements.{All-nil}
use Rattle.bac_values.specs.Moments.{IsMoment}
use Rattle.bac_values.specs.declared.note.Send.{Send}
use Rattle.ending_link.specs.declared.flag.SharedFlag.{SharedFlag as Raised}
use Rattle.ground_io.specs.Disk.{MayLeave}
use Rattle.ground_io.specs.InMemory.{FileGroundState, file_size}
use Rattle.ground_io.specs.Record.{Supposed, told_by, unasked}
use Rattle.ground_io.specs.Sent.{emissions}
use Rattle.ground_io.specs.Trace.{Told, disk_of, still}
use Rattle.ground_io.specs.declared.entry.Entry.{Entry}
use Rattle.ground_io.proofs.Crashes.{adds_none, only_read}
use Rattle.ground_io.proofs.Sendings.{quiet_sends_nothing}
use Rattle.alarm_journal.specs.Journal.{OpenAlike}
use Rattle.alarm_journal.specs.Journal.{Site as Journal}
use Rattle.alarm_journal.specs.Press.{PressState, Reopens}
use Rattle.alarm_core.specs.State.{CoreState}
use Rattle.alarm_core.specs.declared.event.Event.{Event}
use Rattle.alarm_core.specs.declared.site.Site.{Site}
use Rattle.floor_desk.specs.Accounts.{Account, Due, account}
use Rattle.floor_desk.specs.LookingBack.{before_returned, dues_over, events_over, reach_over}
use Rattle.floor_desk.specs.Moves.{IsGroundOf}
use Rattle.floor_desk.specs.Prefixes.{HasLost, LeavesPrefix, RestsOn, with_first}
use Rattle.floor_desk.specs.Serving.{Serves}
use Rattle.floor_desk.specs.Standing.{Stands}
use Rattle.floor_desk.specs.declared.floor.Spot.{Spot}
use Rattle.floor_desk.specs.declared.floor.Spot.TheVariants.{Home, Out, Broken}
use Rattle.floor_desk.specs.declared.serve.Closed.{Closed}
use Rattle.site_config.specs.declared.fault.SiteFault.{SiteFault}
use Rattle.site_config.specs.Sites.{site_of}
use Rattle.state_codec.specs.Contents.{ImageStands}
use Rattle.state_codec.specs.Emission.{Emits}
use Rattle.state_codec.specs.Keeping.{StoodFor, journal_of}
use Rattle.alarm_server.specs.declared.serve.Served.{Served}
use Rattle.alarm_server.specs.OnFile.{RefusesFile}
use Rattle.alarm_server.specs.Real.{ServerEnds, ServesReal, first_told}
use Rattle.alarm_server.specs.Keeping.{KeepsFromSync}
use Rattle.alarm_server.specs.RealLaws.{CrashLeaves, ServedGround, ServedToTheEnd, ServersAreTold, ServersGoOn, ServesFrom, ServesOn, ServesOrder, found}
use Rattle.alarm_server.specs.RealLaws.ServesFrom.{Ordered, Unserved}
use Rattle.alarm_server.specs.RealLaws.ServesOn.{FromItsOrder, FromTheSame}
use Rattle.alarm_server.specs.ServedSites.{HasServedSite, IsUnserved, KeepsServed}
use Rattle.alarm_server.specs.declared.status.Status.{Status}
use Rattle.alarm_server.specs.Serving.{IsNotOpened, IsSiteIn, NotOpened, NotRead, NoSite, Opened, OutOfMemory, ServesFile}
use Rattle.alarm_server.proofs.Emitting.{emits}
use Rattle.alarm_server.proofs.KeptLines.{along_few}
use Rattle.alarm_server.proofs.RealCrashes.{left_by}

-- ---- a ground that tells now told when its desk was opened

told_on : (lost : ℕ) (old new : Option Told) (now : Told) → HasLost lost old new → new ≡ Some now → (was : Told) × (old ≡ Some was)
told_on lost old None now has is = absurd cc
told_on lost None (Some b) now has is = absurd has
told_on lost (Some was) (Some b) now has is = (was, refl)

module _ {G : Type 0} (told : G → Option Told) (size disk_faults emit_faults : G → ℕ) where
  by_spot : (origin : CoreState × PressState G) (a : Account G) (lost : ℕ) (spot : Spot G) (device : G) (now : Told) → Stands told size disk_faults emit_faults origin a lost spot → HasLost lost (told origin.1.device) (told a.press.device) → IsGroundOf spot device → told device ≡ Some now
      → (was : Told) × (told origin.1.device ≡ Some was)
  by_spot origin a lost (Home press) device now (loan, failed, same) has ground is =
      told_on lost (told origin.1.device) (told a.press.device) now has (ap (λ (p : PressState G). told p.device) (sym same) ∙ (ap told (sym ground) ∙ is))
  by_spot origin a lost (Out place upto) device now stands has ground is = absurd ground
  by_spot origin a lost (Broken left place) device now (loan, failed, rose, kept, has_lost, sized, emitted) has ground is =
      told_on lost (told origin.1.device) (told left) now has_lost (ap told (sym ground) ∙ is)

  origin_told : (shows : ℕ → Type 0) (old new : Option (List Send)) (origin : CoreState × PressState G) (device : G) (closed : Closed) (now : Told) → Serves told size disk_faults emit_faults shows old new origin device closed → told device ≡ Some now
      → (was : Told) × (told origin.1.device ≡ Some was)
  origin_told shows old new origin device closed now serves is =
      let shown = serves.stands.shows in
      let (was, at) = by_spot serves.floor.origin (account serves.floor.origin serves.history) serves.floor.lost serves.floor.spot device now shown.spot shown.lost serves.ground is in
      (was, ap (λ (o : CoreState × PressState G). told o.1.device) (sym serves.from) ∙ at)

-- ---- what was told at first

-- the file has as many octets as the contents
first_is : (bytes : ℕ) (disk : Supposed) → length disk.first ≡ bytes → first_told bytes disk ≡ Some (found disk)
first_is bytes disk same = by (length disk.first == bytes) (search rules)
  where
    by : (is : Bool) → is ≡ true → told_by (cond is (Some (record { first = disk.first; trace = []; left = disk.left })) None) ≡ Some (found disk)
    by true is = refl
    by false is = absurd cc

module _ (journal : Journal) (site : Site) (history : List Event) (first now : Told) where
  -- what is so of a ground that told this and tells that
  stood_there : (old new : Option Told) → old ≡ Some first → new ≡ Some now → ImageStands journal site (disk_of first).contents history → StoodFor journal site history old new
  stood_there None new was is stands = absurd cc
  stood_there (Some f) None was is stands = absurd cc
  stood_there (Some f) (Some n) was is stands = let same : f ≡ first = cc in subst (λ (t : Told). ImageStands journal site (disk_of t).contents history) (sym same) stands

  keeps_there : (order : List Event) (dues : List Due) (sent : ℕ) (old new : Option Told) → old ≡ Some first → new ≡ Some now → KeepsServed journal site history order dues sent old new → KeepsServed journal site history order dues sent (Some first) (Some now)
  keeps_there order dues sent old new was is keeps =
      subst (λ (o : Option Told). KeepsServed journal site history order dues sent o (Some now)) was
      (subst (λ (n : Option Told). KeepsServed journal site history order dues sent old n) is keeps)

quiet_there : (first now : Told) (old new : Option Told) → old ≡ Some first → new ≡ Some now → Emits old new [] → Emits (Some first) (Some now) []
quiet_there first now old new was is quiet = subst (λ (o : Option Told). Emits o (Some now) []) was (subst (λ (n : Option Told). Emits old n []) is quiet)

-- ---- what no desk leaves

none_rest : (events count : ℕ) → RestsOn events (take count [])
none_rest events zero = All-nil (λ (due : Due). due.after ≤ events)
none_rest events (suc count) = All-nil (λ (due : Due). due.after ≤ events)

none_first : (events : ℕ) (dues : List Due) → RestsOn events (take 0 dues)
none_first events [] = All-nil (λ (due : Due). due.after ≤ events)
none_first events (due ∷ dues) = All-nil (λ (due : Due). due.after ≤ events)

module _ (journal : Journal) (site : Site) (history : List Event) where
  abbrev Leaves : List Entry → List ℕ → Type 0
  Leaves sent image = LeavesPrefix journal site history [] [] sent image

  -- what opens as octets that stand for the history stands for it, as long as nothing was sent
  alike : (octets image : List ℕ) (sent : List Entry) → length sent ≤ 0 → ImageStands journal site octets history → OpenAlike journal image octets → Leaves sent image
  alike octets image sent few stood same = record {
    count = 0;
    within = omega arith;
    owed = omega (arith, few);
    covers = none_rest (length history + 0) (length sent);
    stands = record { content = stood.content; opens = (same.opens stood.content).1 stood.opens; stands = stood.stands };
  }

  pub unserved_kept : (old new : Told) → ImageStands journal site (disk_of old).contents history → Reopens journal (Some old) (Some new) → KeepsFromSync Leaves (Some old) (Some new)
  unserved_kept old new stood (inl nothing) = inl nothing
  unserved_kept old new stood (inr opens) =
      inr (
        opens.entries,
        opens.adds,
        along_few Leaves (λ image. OpenAlike journal image (disk_of old).contents) 0
            (λ s image few same. alike (disk_of old).contents image s few stood same) [] (record { contents = (disk_of old).contents; loose = [] }) opens.entries
            (omega (arith, ap (λ (l : List Entry). length l) (quiet_sends_nothing [] opens.entries opens.quiet))) opens.always,
      )

-- ---- a server

module _ {L : Type 0} (left : L → Option (List Send)) (faults : L → ℕ) (ends : ServerEnds) (site : Site) (history : List Event) (count : ℕ) (link : L) (served : Served) (now : Told)
    (ran : ServedToTheEnd left faults ends count link served now) (is_site : site_of ends.site ≡ Ok site) (stands : ImageStands (journal_of site ends.site) site ends.disk.first history) where
  abbrev dressed : ServesReal left faults ends (Some count) ran.bytes ran.text ran.device link served
  dressed = ran.serves

  abbrev before : ServedGround
  before = record { inner = unasked ran.bytes ends.disk; flag = dressed.serves.raised; raised = 0 }

  abbrev after : ServedGround
  after = dressed.serves.noting

  told_first : before.inner.told ≡ Some (found ends.disk)
  told_first = first_is ran.bytes ends.disk ran.size

  told_now : after.inner.told ≡ Some now
  told_now = ap (λ (d : FileGroundState). d.told) dressed.serves.ground ∙ ran.device_tells

  -- nothing was done
  same_now : after ≡ before → now ≡ found ends.disk
  same_now same =
      let stayed : after.inner.told ≡ Some (found ends.disk) = ap (λ (n : ServedGround). n.inner.told) same ∙ told_first in
      let both : Some now ≡ Some (found ends.disk) = sym told_now ∙ stayed in
      cc

  nothing : (status : Status) → IsUnserved served status → after ≡ before → ServesFrom ends site history count (left link) served now
  nothing status unserved same =
      let is : now ≡ found ends.disk = same_now same in
      Unserved status unserved
      (subst (λ (t : Told). Emits (Some (found ends.disk)) (Some t) []) (sym is) (emits.nothing (Some (found ends.disk))))
      (subst (λ (t : Told). KeepsFromSync (LeavesPrefix (journal_of site ends.site) site history [] []) (Some (found ends.disk)) (Some t)) (sym is) (inl (adds_none (Some (found ends.disk)))))

  not_opened : (site' : Site) (text : List ℕ) → (ends.site ≡ text) × (site_of ends.site ≡ Ok site') → IsNotOpened (λ (n : ServedGround). n.inner.told) (λ n. file_size n.inner) (λ n. n.inner.disk_faults) (λ n. n.inner.emit_faults) site' text before after served → ServesFrom ends site history count (left link) served now
  not_opened site' text (same_text, says) unopened =
      let same_site : site' ≡ site = cc in
      let there : Reopens (journal_of site ends.site) before.inner.told after.inner.told =
      subst (λ (t : List ℕ). Reopens (journal_of site t) before.inner.told after.inner.told) (sym same_text) (subst (λ (s : Site). Reopens (journal_of s text) before.inner.told after.inner.told) same_site unopened.reopens) in
      Unserved _ unopened.unserved
      (quiet_there (found ends.disk) now before.inner.told after.inner.told told_first told_now unopened.quiet)
      (unserved_kept (journal_of site ends.site) site history (found ends.disk) now stands
      (subst (λ (o : Option Told). Reopens (journal_of site ends.site) o (Some now)) told_first (subst (λ (n : Option Told). Reopens (journal_of site ends.site) before.inner.told n) told_now there)))

  opened : (site' : Site) (text : List ℕ) → (ends.site ≡ text) × (site_of ends.site ≡ Ok site')
      → HasServedSite (λ (n : ServedGround). n.inner.told) (λ n. file_size n.inner) (λ n. n.inner.disk_faults) (λ n. n.inner.emit_faults) IsMoment site' text count (left dressed.asked) (left link) before after served
      → ServesOrder ends site history count (left link) served now
  opened site' text (same_text, says) has =
      let same_site : site' ≡ site = cc in
      let there : HasServedSite (λ (n : ServedGround). n.inner.told) (λ n. file_size n.inner) (λ n. n.inner.disk_faults) (λ n. n.inner.emit_faults) IsMoment site ends.site count (Some ends.datagrams) (left link) before after served =
      subst (λ (o : Option (List Send)). HasServedSite (λ (n : ServedGround). n.inner.told) (λ n. file_size n.inner) (λ n. n.inner.disk_faults) (λ n. n.inner.emit_faults) IsMoment site ends.site count o (left link) before after served) dressed.datagrams
      (subst (λ (t : List ℕ). HasServedSite (λ (n : ServedGround). n.inner.told) (λ n. file_size n.inner) (λ n. n.inner.disk_faults) (λ n. n.inner.emit_faults) IsMoment site t count (left dressed.asked) (left link) before after served) (sym same_text)
      (subst (λ (s : Site). HasServedSite (λ (n : ServedGround). n.inner.told) (λ n. file_size n.inner) (λ n. n.inner.disk_faults) (λ n. n.inner.emit_faults) IsMoment s text count (left dressed.asked) (left link) before after served) same_site has)) in
      let (was, at) = origin_told (λ (n : ServedGround). n.inner.told) (λ n. file_size n.inner) (λ n. n.inner.disk_faults) (λ n. n.inner.emit_faults) IsMoment (Some ends.datagrams) (left link) there.origin after there.closed now there.serves told_now in
      record {
        before = before;
        after = after;
        desk = there;
        order = events_over there.origin.0 (reverse there.serves.history);
        is_order = refl;
        dues = dues_over there.origin.0 (reverse there.serves.history);
        are_dues = refl;
        begins = there.begins history (stood_there (journal_of site ends.site) site history (found ends.disk) was before.inner.told there.origin.1.device.inner.told told_first at stands);
        keeps = keeps_there (journal_of site ends.site) site history (found ends.disk) now (events_over there.origin.0 (reverse there.serves.history)) (dues_over there.origin.0 (reverse there.serves.history)) (reach_over there.origin.0 (before_returned (reverse there.serves.history))).dues before.inner.told after.inner.told told_first told_now
            (there.keeps history (stood_there (journal_of site ends.site) site history (found ends.disk) now before.inner.told after.inner.told told_first told_now stands));
      }

  by_file : (file : Option (List ℕ)) → file ≡ Some ends.site → (rest : Option (List Send)) → rest ≡ left link
      → ServesFile (λ (n : ServedGround). n.inner.told) (λ n. file_size n.inner) (λ n. n.inner.disk_faults) (λ n. n.inner.emit_faults) IsMoment file count (record { inner = dressed.asked; flag = dressed.serves.seen; ended = 0 }) dressed.serves.ending (left dressed.asked) rest before after served
      → ServesFrom ends site history count (left link) served now
  by_file file is rest same (NotRead unserved stays links) = nothing _ unserved stays
  by_file file is rest same (OutOfMemory unserved stays links) = nothing _ unserved stays
  by_file file is rest same (NoSite fault refuses unserved stays links) = nothing _ unserved stays
  by_file file is rest same (NotOpened site' text is_in unopened links) = not_opened site' text (subst (λ (f : Option (List ℕ)). IsSiteIn f site' text) is is_in) unopened
  by_file file is rest same (Opened site' text is_in has) =
      Ordered
      (opened site' text (subst (λ (f : Option (List ℕ)). IsSiteIn f site' text) is is_in)
      (subst (λ (o : Option (List Send)). HasServedSite (λ (n : ServedGround). n.inner.told) (λ n. file_size n.inner) (λ n. n.inner.disk_faults) (λ n. n.inner.emit_faults) IsMoment site' text count (left dressed.asked) o before after served) same has))

pub servers_are_told : {L : Type 0} (left : L → Option (List Send)) (faults : L → ℕ) → ServersAreTold left faults
servers_are_told left faults ends site history count link served now ran is_site stands =
    by_file left faults ends site history count link served now ran is_site stands (still (Some ends.site) ran.text.left) (rw ran.text_tells refl) (left link) refl ran.serves.serves.serves

-- ---- two servers

module _ (ends : ServerEnds) (site : Site) (history : List Event) (image : List ℕ) (stands : ImageStands (journal_of site ends.site) site ends.disk.first history) where
  -- nothing has come yet
  at_first : (order : List Event) (dues : List Due) → MayLeave (record { contents = ends.disk.first; loose = [] }) image → LeavesPrefix (journal_of site ends.site) site history order dues [] image
  at_first order dues leaves = record {
    count = 0;
    within = omega arith;
    owed = omega arith;
    covers = none_first (length history + 0) dues;
    stands = subst (λ (i : List ℕ). ImageStands (journal_of site ends.site) site i history) (sym (only_read ends.disk.first image leaves)) stands;
  }

-- what was served is kept from the first sync on
from_sync : (journal : Journal) (site : Site) (history order : List Event) (dues : List Due) (sent : ℕ) (old new : Told) → KeepsServed journal site history order dues sent (Some old) (Some new) → KeepsFromSync (LeavesPrefix journal site history order dues) (Some old) (Some new)
from_sync journal site history order dues sent old new (entries, adds, goes, along) = inr (entries, adds, along)

module _ {L : Type 0} (left : L → Option (List Send)) (faults : L → ℕ) (ends later : ServerEnds) (site : Site) (history : List Event) (count count' : ℕ) (link link' : L) (served served' : Served) (now now' : Told) (before behind : List Entry)
    (stands : ImageStands (journal_of site ends.site) site ends.disk.first history) (is_site : site_of ends.site ≡ Ok site) (crash : CrashLeaves ends.disk now before behind later.disk.first) (same_text : later.site ≡ ends.site) (ran' : ServedToTheEnd left faults later count' link' served' now') where
  abbrev From : List Event → Type 0
  From held = ServesFrom later site held count' (left link') served' now'

  from_image : (held : List Event) → ImageStands (journal_of site ends.site) site later.disk.first held → From held
  from_image held found_there =
      servers_are_told left faults later site held count' link' served' now' ran' (ap site_of same_text ∙ is_site)
      (subst (λ (t : List ℕ). ImageStands (journal_of site t) site later.disk.first held) (sym same_text) found_there)

  goes_on : ServesFrom ends site history count (left link) served now → ServesOn ends later site history before From count (left link) served now
  goes_on (Unserved status unserved quiet kept) =
      let P = LeavesPrefix (journal_of site ends.site) site history [] [] in
      let at : LeavesPrefix (journal_of site ends.site) site history [] [] (emissions before) later.disk.first = left_by P ends.disk now later.disk.first before behind crash (at_first ends site history later.disk.first stands [] []) kept in
      let none : at.count ≡ 0 = omega (arith, at.within) in
      FromTheSame status unserved (from_image history (subst (λ (n : ℕ). ImageStands (journal_of site ends.site) site later.disk.first (with_first history n [])) none at.stands))
  goes_on (Ordered first) =
      let P = LeavesPrefix (journal_of site ends.site) site history first.order first.dues in
      let kept = from_sync (journal_of site ends.site) site history first.order first.dues _ (found ends.disk) now first.keeps in
      let at : LeavesPrefix (journal_of site ends.site) site history first.order first.dues (emissions before) later.disk.first = left_by P ends.disk now later.disk.first before behind crash (at_first ends site history later.disk.first stands first.order first.dues) kept in
      FromItsOrder first at (from_image (with_first history at.count first.order) at.stands)

pub servers_go_on : {L : Type 0} (left : L → Option (List Send)) (faults : L → ℕ) → ServersGoOn left faults
servers_go_on left faults ends later site history count count' link link' served served' now now' before behind ran is_site stands crash same_text ran' =
    goes_on left faults ends later site history count count' link link' served served' now now' before behind stands is_site crash same_text ran'
    (servers_are_told left faults ends site history count link served now ran is_site stands)
