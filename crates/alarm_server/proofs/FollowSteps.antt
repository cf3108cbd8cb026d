-- The steps of a follower that follows a script, as its calls tell of them.
use Rattle.std.proofs.Common.{◌≡◌, ℕ, Option, None, List, [], ◌∷◌, false, ap, ◌∙◌, sym, subst, inl, inr}
use Rattle.std.specs.Io.KnownBytes.{prepend_known}
use Rattle.bac_values.specs.declared.report.ReportLine.TheVariants as say
use Rattle.ground_io.specs.Trace.{Told, Adds}
use Rattle.script_lines.specs.Report.{report_text}
use Rattle.alarm_journal.specs.Journal.{Content}
use Rattle.alarm_journal.specs.Journal.{Site as Journal}
use Rattle.alarm_journal.specs.Press.{PressState, Throughout}
use Rattle.alarm_journal.specs.declared.layout.Layout.{Layout}
use Rattle.alarm_core.specs.declared.event.Event.{Event}
use Rattle.alarm_core.specs.declared.site.Site.{Site}
use Rattle.alarm_core.specs.Allowed.{Represents}
use Rattle.alarm_core.specs.State.{CoreState}
use Rattle.state_codec.specs.Keeping.{Commits, HoldsHistory, Rests}
use Rattle.standby.specs.Followers.{FollowerState, following_of}
use Rattle.standby.specs.Leads.{MayBe, MayLeadOn}
use Rattle.standby.specs.Takes.{Following, Gathering, following}
use Rattle.standby.specs.declared.took.Took.{Took}
use Rattle.standby.specs.declared.took.Took.TheVariants.{Taken}
use Rattle.alarm_server.specs.declared.status.Status.{Status}
use Rattle.alarm_server.specs.declared.status.Status.TheVariants as status
use Rattle.alarm_server.specs.Emission.{sent}
use Rattle.alarm_server.specs.Following.{BreaksOff}
use Rattle.alarm_server.proofs.Followed.{Breaking, Progress, Taking, begins}

-- two followers that have come as far
pub as_far : {G : Type 0} (one other : FollowerState G) → other.core ≡ one.core → other.gathering ≡ one.gathering → following_of other ≡ following_of one
as_far one other core gathering = ap (λ (s : CoreState). following s other.gathering) core ∙ ap (λ (g : Option Gathering). following one.core g) gathering

-- the follower that was opened told its first line
pub first_told : {G : Type 0} (told : G → Option Told) (core : CoreState) (press : PressState G) (opened new : FollowerState G) (text : Option (List ℕ)) → opened ≡ record { core = core; press = press; gathering = None } → new.core ≡ opened.core → new.gathering ≡ opened.gathering
    → (events : ℕ) → events ≡ opened.core.events → Adds (told opened.press.device) (told new.press.device) (sent report_text (say.Open events ∷ []))
    → ((journal : Journal) (content : Content) → Rests journal opened.press.layout (told opened.press.device) content → Throughout journal content (told opened.press.device) (told new.press.device))
    → ((journal : Journal) (content : Content) → Rests journal opened.press.layout (told opened.press.device) content → Rests journal new.press.layout (told new.press.device) content)
    → Progress core text (prepend_known [] text) press.layout new.press.layout (told press.device) (told new.press.device) 0 false (following_of new)
first_told {G} told core press opened new text is at gathers events events_are adds all rests =
    subst (λ (f : Following). Progress core text (prepend_known [] text) press.layout new.press.layout (told press.device) (told new.press.device) 0 false f)
    (sym (as_far opened new at gathers ∙ ap following_of is))
    (begins core text press.layout new.press.layout (told press.device) (told new.press.device)
    (subst (λ (n : ℕ). Adds (told press.device) (told new.press.device) (sent report_text (say.Open n ∷ []))) (events_are ∙ ap (λ (f : FollowerState G). f.core.events) is)
    (subst (λ (f : FollowerState G). Adds (told f.press.device) (told new.press.device) (sent report_text (say.Open events ∷ []))) is adds))
    (subst (λ (f : FollowerState G). (journal : Journal) (content : Content) → Rests journal f.press.layout (told f.press.device) content → Throughout journal content (told f.press.device) (told new.press.device)) is all)
    (subst (λ (f : FollowerState G). (journal : Journal) (content : Content) → Rests journal f.press.layout (told f.press.device) content → Rests journal new.press.layout (told new.press.device) content) is rests))

-- and its site and its counts are those of the beginning
pub first_site : {G : Type 0} (core : CoreState) (press : PressState G) (opened new : FollowerState G) → opened ≡ record { core = core; press = press; gathering = None } → new.core ≡ opened.core → new.core.site ≡ core.site
first_site {G} core press opened new is at = ap (λ (s : CoreState). s.site) (at ∙ ap (λ (f : FollowerState G). f.core) is)

pub first_count : {G : Type 0} (count : G → ℕ) (core : CoreState) (press : PressState G) (opened new : FollowerState G) → opened ≡ record { core = core; press = press; gathering = None } → count new.press.device ≡ count opened.press.device → count new.press.device ≡ count press.device
first_count {G} count core press opened new is same = same ∙ ap (λ (f : FollowerState G). count f.press.device) is

-- a call that keeps the core keeps its site
pub site_kept : {G : Type 0} (one other : FollowerState G) (site : Site) → other.core ≡ one.core → one.core.site ≡ site → other.core.site ≡ site
site_kept {G} one other site same is = ap (λ (s : CoreState). s.site) same ∙ is

-- what is so of a packet at a site is so at the same site
pub taking_at : (site here : Site) (now next : Following) (octets : List ℕ) (took : Took) (layout layout' : Layout) (mid new : Option Told) → here ≡ site → Taking here now next octets took layout layout' mid new → Taking site now next octets took layout layout' mid new
taking_at site here now next octets took layout layout' mid new same taking = subst (λ (s : Site). Taking s now next octets took layout layout' mid new) same taking

-- a packet that wasn't taken
breaking_by : (site : Site) (now : Following) (octets : List ℕ) (ended : Status) (layout : Layout) (mid new : Option Told) → BreaksOff now octets ended mid new
    → ((journal : Journal) (before after : List Event) → HoldsHistory journal site before layout mid → Represents now.core before → MayBe site before → MayBe site after → MayLeadOn now octets before after → Commits journal site before after mid new)
    → Breaking site now octets layout mid new
breaking_by site now octets status.NoMemory layout mid new same breaks = record { tried = inl same; breaks = breaks }
breaking_by site now octets status.DiskFault layout mid new (known, next, takes) breaks = record { tried = inr (Taken known, next, takes); breaks = breaks }
breaking_by site now octets status.Done layout mid new none breaks = absurd none
breaking_by site now octets status.Usage layout mid new none breaks = absurd none
breaking_by site now octets (status.SiteRefused fault) layout mid new none breaks = absurd none
breaking_by site now octets (status.ScriptRefused line) layout mid new none breaks = absurd none
breaking_by site now octets status.ReadFault layout mid new none breaks = absurd none
breaking_by site now octets status.EmitFault layout mid new none breaks = absurd none
breaking_by site now octets (status.JournalRefused fault) layout mid new none breaks = absurd none
breaking_by site now octets status.LinkFault layout mid new none breaks = absurd none

pub breaking_at : (site here : Site) (now : Following) (octets : List ℕ) (ended : Status) (layout : Layout) (mid new : Option Told) → here ≡ site → BreaksOff now octets ended mid new
    → ((journal : Journal) (before after : List Event) → HoldsHistory journal here before layout mid → Represents now.core before → MayBe here before → MayBe here after → MayLeadOn now octets before after → Commits journal here before after mid new)
    → Breaking site now octets layout mid new
breaking_at site here now octets ended layout mid new same broken breaks = subst (λ (s : Site). Breaking s now octets layout mid new) same (breaking_by here now octets ended layout mid new broken breaks)

-- the last line
pub end_is : (lines lines' events events' : ℕ) → lines ≡ lines' → events ≡ events' → say.End lines events ≡ say.End lines' events'
end_is lines lines' events events' same as_many = ap (λ (n : ℕ). say.End n events) same ∙ ap (λ (n : ℕ). say.End lines' n) as_many
