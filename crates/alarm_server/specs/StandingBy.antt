-- A standby on a site's file: what goes out, what is accepted, where one of its sources stops being read, and what a crash leaves. The sources are seen by their octets, where they tell them.
use Rattle.std.specs.Prelude.{◌≡◌, ◌⊎◌, ℕ, Option, None, Result, Ok, Err, List, [], IfSome, IsOk}
use Rattle.ground_io.specs.Trace.{Told, Adds, WhereTold}
use Rattle.script_lines.specs.PacketLine.{packet_says}
use Rattle.alarm_core.specs.declared.event.Event.{Event}
use Rattle.alarm_core.specs.declared.site.Site.{Site}
use Rattle.alarm_core.specs.State.{CoreState, state_of}
use Rattle.site_config.specs.declared.fault.SiteFault.{SiteFault}
use Rattle.site_config.specs.Sites.{site_of}
use Rattle.state_codec.specs.Emission.{Emits}
use Rattle.state_codec.specs.Keeping.{StoodFor, journal_of}
use Rattle.state_codec.specs.Openings.{OpenedTo}
use Rattle.alarm_server.specs.declared.status.Status.{Status}
use Rattle.alarm_server.specs.declared.status.Status.TheVariants.{SiteRefused, ReadFault, NoMemory}
use Rattle.alarm_server.specs.Following.{Follows, IsSent, LeavesFollower, Sender, StopsFollowing}
use Rattle.alarm_server.specs.Keeping.{KeepsFromSync}
use Rattle.alarm_server.specs.Openings.{EndsUnplayed}
use Rattle.alarm_server.specs.Script.{refused_line}

-- What went out, by the site that the file's text is: the table's lines from the state of a history on that the journal holds. Where the text is no site nothing went out, and the standby ended with the text's fault, or before it was found.
abbrev pub FollowsOnSite : Status → List ℕ → Result Site SiteFault → List ℕ → Option Told → Option Told → Type 0
FollowsOnSite ended text (Ok site) script old new =
    (older : List Event) → StoodFor (journal_of site text) site older old new → Follows Emits ended (state_of site older) script old new
FollowsOnSite ended text (Err fault) script old new =
    ((ended ≡ SiteRefused fault) ⊎ ((ended ≡ ReadFault) ⊎ (ended ≡ NoMemory))) × Adds old new []

abbrev pub FollowsOnFile : Status → Option (List ℕ) → Option (List ℕ) → Option Told → Option Told → Type 0
FollowsOnFile ended site script old new = IfSome site (λ octets. IfSome script (λ text. FollowsOnSite ended octets (site_of octets) text old new))

-- The octets of the journal of the file's site opened and lead to a state, and the table's lines go on from that; or the standby ended before.
abbrev pub GoesOnFromSite : Type 0 → Status → List ℕ → Result Site SiteFault → List ℕ → Option Told → Option Told → Type 0
GoesOnFromSite FileFailed ended text (Ok site) script old new =
    EndsUnplayed FileFailed (journal_of site text) ended old new ⊎ ((state : CoreState) × OpenedTo site text old new state × Follows Emits ended state script old new)
GoesOnFromSite FileFailed ended text (Err refused) script old new = Emits old new []

abbrev pub GoesOnFromFile : Type 0 → Status → Option (List ℕ) → Option (List ℕ) → Option Told → Option Told → Type 0
GoesOnFromFile FileFailed ended site script old new = IfSome site (λ octets. IfSome script (λ text. GoesOnFromSite FileFailed ended octets (site_of octets) text old new))

-- the file's text is a site, and every line of the script is in the grammar
abbrev pub AcceptsPackets : Option (List ℕ) → Option (List ℕ) → Type 0
AcceptsPackets site script = IfSome site (λ octets. IsOk (site_of octets)) × IfSome script (λ text. refused_line packet_says text ≡ None)

-- the script of a standby of this site stopped being read, and what its whole lines give went out; there is no standby where the text is no site
abbrev pub StopsInPackets : List ℕ → Result Site SiteFault → List ℕ → List ℕ → Option Told → Option Told → Type 0
StopsInPackets text (Ok site) script rest old new =
    (older : List Event) → StoodFor (journal_of site text) site older old new → StopsFollowing Emits (state_of site older) script rest old new
StopsInPackets text (Err fault) script rest old new = ⊥

-- either the file failed, and nothing was done; or the script did
abbrev pub StopsStandingBy : Type 0 → Type 0 → Option (List ℕ) → Option (List ℕ) → Option (List ℕ) → Option Told → Option Told → Type 0
StopsStandingBy FileFailed ScriptFailed site script rest old new =
    (FileFailed × Adds old new [])
    ⊎ (ScriptFailed × IfSome site (λ octets. WhereTold script rest (λ text rest. StopsInPackets octets (site_of octets) text rest old new)))

-- Of each history that the journal holds, and each sender of the script's packets: from the first sync on, what a crash may leave at any moment stands for a history to which the follower may come from there, at least as long as each number that was acknowledged by then.
abbrev pub KeepsBehindSite : List ℕ → Result Site SiteFault → List ℕ → Option Told → Option Told → Type 0
KeepsBehindSite text (Ok site) script old new =
    (sender : Sender) (begun : List Event) → StoodFor (journal_of site text) site begun old new → IsSent site sender begun script → KeepsFromSync (LeavesFollower (journal_of site text) site sender begun) old new
KeepsBehindSite text (Err fault) script old new = Adds old new []

abbrev pub KeepsBehindFile : Option (List ℕ) → Option (List ℕ) → Option Told → Option Told → Type 0
KeepsBehindFile site script old new = IfSome site (λ octets. IfSome script (λ text. KeepsBehindSite octets (site_of octets) text old new))
