-- How far a standby has come: what it has told, and what a crash leaves of it.
use Rattle.std.proofs.Common.{◌≡◌, ◌⊎◌, ℕ, ◌+◌, ◌≤◌, All, Option, Some, None, Ok, Err, Bool, false, List, [], ◌∷◌, ◌++◌, IfSome, length, refl, ap, ◌∙◌, sym, subst, inl, inr, arith, append_assoc, append-nil}
use Rattle.std.specs.List.{flat_map, position}
use Rattle.std.specs.Io.KnownBytes.{prepend_known}
use Rattle.std.proofs.lemmas.Grind.{flat_map-append}
use Rattle.std.proofs.lemmas.List.{map-append}
use Rattle.std.proofs.lemmas.List.Elements.{All-append, All-cons, All-head, All-nil, All-same, All-tail, All-weaker}
use Rattle.bac_values.specs.Address.{console}
use Rattle.bac_values.specs.declared.report.ReportLine.{ReportLine}
use Rattle.bac_values.specs.declared.report.ReportLine.TheVariants as say
use Rattle.ground_io.specs.declared.entry.Entry.{Entry}
use Rattle.ground_io.specs.declared.entry.Entry.TheVariants as entry
use Rattle.ground_io.specs.Trace.{Told, Adds, WhereTold, still}
use Rattle.script_lines.specs.declared.packet_line.PacketLine.{PacketLine}
use Rattle.script_lines.specs.declared.lines.LineFault.{LineFault}
use Rattle.script_lines.specs.declared.lines.LineFault.TheVariants.{Grammar, Read, NoMemory}
use Rattle.script_lines.specs.PacketLine.{packet_says}
use Rattle.script_lines.specs.Report.{report_text}
use Rattle.script_lines.specs.Script.{is_line_feed, lines_of, next_in, AtEnd, ReadsLine, TakesLines}
use Rattle.alarm_journal.specs.Journal.{Content, OpensTo}
use Rattle.alarm_journal.specs.Journal.{Site as Journal}
use Rattle.alarm_journal.specs.Press.{Throughout}
use Rattle.alarm_journal.specs.declared.layout.Layout.{Layout}
use Rattle.alarm_core.specs.declared.event.Event.{Event}
use Rattle.alarm_core.specs.declared.site.Site.{Site}
use Rattle.alarm_core.specs.Allowed.{Represents}
use Rattle.alarm_core.specs.Fits.{FitsSite}
use Rattle.alarm_core.specs.Sites.{IsSite}
use Rattle.alarm_core.specs.State.{CoreState, state_of}
use Rattle.state_codec.specs.Contents.{ImageStands}
use Rattle.state_codec.specs.Emission.{Emits}
use Rattle.state_codec.specs.Laws.{BoundsAreLow, OneSnapshot}
use Rattle.state_codec.specs.Keeping.{Commits, HoldsHistory, Rests}
use Rattle.standby.specs.Leads.{LeadsOn, MayBe, MayLeadOn}
use Rattle.standby.specs.Runs.{acknowledged_by}
use Rattle.standby.specs.Takes.{Following, Takes, following}
use Rattle.standby.specs.declared.took.Took.{Took}
use Rattle.standby.specs.declared.took.Took.TheVariants.{Malformed, Gap, Repeat, Part, Taken}
use Rattle.alarm_server.specs.declared.emission.Unsent.{Unsent}
use Rattle.alarm_server.specs.declared.emission.Unsent.TheVariants as unsent
use Rattle.alarm_server.specs.declared.status.Status.{Status}
use Rattle.alarm_server.specs.declared.status.Status.TheVariants as status
use Rattle.alarm_server.specs.Emission.{Ends, lost, sent}
use Rattle.alarm_server.specs.Following.{Follows, IsSent, LeavesFollower, MayBegin, MayReach, MaySend, Reports, Sender, StopsFollowing, TakesEach, TellsUpTo, acknowledged_in, closing_lines, line_of, opening_line, packets_of}
use Rattle.alarm_server.specs.Keeping.{KeepsAlong}
use Rattle.alarm_server.specs.Script.{refused_in, refused_line, spelled_in}
use Rattle.alarm_server.specs.Status.{IsKeepFault, of_line_fault, of_unsent}
use Rattle.alarm_server.proofs.Emitting.{emits, emits_sent}
use Rattle.alarm_server.proofs.Sending.{sent_then}
use Rattle.alarm_server.proofs.Fronts.{front_accepted, front_lines, lines_of-whole, takes_then}
use Rattle.alarm_server.proofs.Known.{in_any}
use Rattle.alarm_server.proofs.KeptAlong.{kept_lost, kept_nothing, kept_quiet, kept_sent, kept_still, kept_then}
use Rattle.alarm_server.proofs.Senders.{IsWith, led_to, reaches_at_once, with_at_once}
use Rattle.alarm_server.proofs.Spelled.{spelled_gives, spells_none, spells_refused, spells_same}

-- ---- what an image stands for

module _ (journal : Journal) (site : Site) (sender : Sender) (begun : List Event) where
  leaves_sent : (lines : List ReportLine) (older : List Event) (image : List ℕ) (entries : List Entry) → entries ≡ sent report_text lines → MayReach sender begun older → All (λ (known : ℕ). known ≤ length older) (flat_map acknowledged_in lines)
      → ImageStands journal site image older → LeavesFollower journal site sender begun entries image
  leaves_sent lines older image entries went there covers stands = record { lines = lines; went = inl went; reached = older; there = there; covers = covers; stands = stands }

  leaves_lost : (lines : List ReportLine) (line : ReportLine) (older : List Event) (image : List ℕ) → MayReach sender begun older → All (λ (known : ℕ). known ≤ length older) (flat_map acknowledged_in (lines ++ line ∷ []))
      → ImageStands journal site image older → LeavesFollower journal site sender begun (sent report_text lines ++ lost report_text line) image
  leaves_lost lines line older image there covers stands = record { lines = lines ++ line ∷ []; went = inr (lines, line, refl, refl); reached = older; there = there; covers = covers; stands = stands }

sent-more : (lines : List ReportLine) (line : ReportLine) → sent report_text (lines ++ line ∷ []) ≡ sent report_text lines ++ entry.Emitted console (report_text line) ∷ []
sent-more lines line = map-append (λ l. entry.Emitted console (report_text l)) lines (line ∷ [])

acknowledged-more : (lines : List ReportLine) (line : ReportLine) → flat_map acknowledged_in (lines ++ line ∷ []) ≡ flat_map acknowledged_in lines ++ acknowledged_in line
acknowledged-more lines line = rw (flat_map-append, append-nil) refl

line_acknowledges : (number : ℕ) (took : Took) → acknowledged_in (line_of number took) ≡ acknowledged_by took
line_acknowledges number Malformed = refl
line_acknowledges number (Gap known) = refl
line_acknowledges number (Repeat known) = refl
line_acknowledges number (Part place) = refl
line_acknowledges number (Taken known) = refl

-- a line that was lost, and none
emits_lost : (line : ReportLine) (old new : Option Told) → Adds old new (lost report_text line) → Emits old new (lost report_text line)
emits_lost line old new adds = (lost report_text line, adds, refl)

emits_none : (old new : Option Told) → Adds old new [] → Emits old new []
emits_none old new adds = ([], adds, refl)

-- ---- of one sender, and the history with which the follower began

-- how far the follower has come, with what was told so far
pub record Kept (journal : Journal) (site : Site) (sender : Sender) (begun : List Event) (lines : List ReportLine) (old new : Option Told) (layout : Layout) (now : Following) : Type 0 where
  pub older : List Event
  pub there : MayReach sender begun older
  pub follows : IsWith site sender begun older now
  pub covers : All (λ (known : ℕ). known ≤ length older) (flat_map acknowledged_in lines)
  pub holds : HoldsHistory journal site older layout new
  pub keeps : KeepsAlong (LeavesFollower journal site sender begun) old new

-- what a packet leaves that was taken
pub record Taking (site : Site) (now next : Following) (octets : List ℕ) (took : Took) (layout layout' : Layout) (mid new : Option Told) : Type 0 where
  pub holds : (journal : Journal) (before after : List Event) → HoldsHistory journal site before layout mid → Represents now.core before → MayBe site before → MayBe site after → LeadsOn now octets took next before after → HoldsHistory journal site after layout' new
  pub keeps : (journal : Journal) (before after : List Event) → HoldsHistory journal site before layout mid → Represents now.core before → MayBe site before → MayBe site after → LeadsOn now octets took next before after → Commits journal site before after mid new

-- what one leaves that wasn't
pub record Breaking (site : Site) (now : Following) (octets : List ℕ) (layout : Layout) (mid new : Option Told) : Type 0 where
  pub tried : (new ≡ mid) ⊎ ((took : Took) × (next : Following) × Takes now octets took next)
  pub breaks : (journal : Journal) (before after : List Event) → HoldsHistory journal site before layout mid → Represents now.core before → MayBe site before → MayBe site after → MayLeadOn now octets before after → Commits journal site before after mid new

module _ (journal : Journal) (site : Site) (sender : Sender) (begun : List Event) where
  image_of : (older : List Event) (layout : Layout) (told : Option Told) (holds : HoldsHistory journal site older layout told) (image : List ℕ) → OpensTo journal image holds.0 → ImageStands journal site image older
  image_of older layout told holds image opens = record { content = holds.0; opens = opens; stands = holds.2 }

  -- nothing was told yet
  pub kept_at_once : (layout : Layout) (told : Option Told) (core : CoreState) → MayBegin site sender begun → core ≡ state_of site begun → HoldsHistory journal site begun layout told → Kept journal site sender begun [] told told layout (following core None)
  kept_at_once layout told core begins state holds = record {
    older = begun;
    there = reaches_at_once site sender begun begins;
    follows = with_at_once site sender begun core begins state;
    covers = All-nil (λ (known : ℕ). known ≤ length begun);
    holds = holds;
    keeps = kept_still (LeavesFollower journal site sender begun) journal holds.0 told holds.1.1
        (λ image opens. leaves_sent journal site sender begun [] begun image [] refl (reaches_at_once site sender begun begins) (All-nil (λ (known : ℕ). known ≤ length begun)) (image_of begun layout told holds image opens));
  }

  covers_more : (older : List Event) (lines : List ReportLine) (line : ReportLine) → All (λ (known : ℕ). known ≤ length older) (flat_map acknowledged_in lines) → All (λ (known : ℕ). known ≤ length older) (acknowledged_in line)
      → All (λ (known : ℕ). known ≤ length older) (flat_map acknowledged_in (lines ++ line ∷ []))
  covers_more older lines line covers few =
      subst (λ (l : List ℕ). All (λ (known : ℕ). known ≤ length older) l) (sym (acknowledged-more lines line))
      (All-append (λ (known : ℕ). known ≤ length older) (flat_map acknowledged_in lines) (acknowledged_in line) covers few)

  -- a line was told
  pub kept_told : (lines : List ReportLine) (line : ReportLine) (old mid new : Option Told) (layout layout' : Layout) (now : Following) (k : Kept journal site sender begun lines old mid layout now) → All (λ (known : ℕ). known ≤ length k.older) (acknowledged_in line)
      → Emits old mid (sent report_text lines) → Adds mid new (sent report_text (line ∷ [])) → ((content : Content) → Rests journal layout mid content → Throughout journal content mid new) → ((content : Content) → Rests journal layout mid content → Rests journal layout' new content)
      → Kept journal site sender begun (lines ++ line ∷ []) old new layout' now
  kept_told lines line old mid new layout layout' now k few goes adds all rests =
      let P = LeavesFollower journal site sender begun in
      let before : List Entry = sent report_text lines in
      let content = k.holds.0 in
      let more = covers_more k.older lines line k.covers few in
      record {
        older = k.older;
        there = k.there;
        follows = k.follows;
        covers = more;
        holds = (content, rests content k.holds.1, k.holds.2);
        keeps = kept_then P before old mid new goes k.keeps
            (kept_sent (λ s image. P (before ++ s) image) journal content console (report_text line) mid new (all content k.holds.1) adds
            (λ image opens. leaves_sent journal site sender begun lines k.older image (before ++ []) (append-nil before) k.there k.covers (image_of k.older layout mid k.holds image opens))
            (λ image opens. leaves_sent journal site sender begun (lines ++ line ∷ []) k.older image (before ++ entry.Emitted console (report_text line) ∷ []) (sym (sent-more lines line)) k.there more (image_of k.older layout mid k.holds image opens)));
      }

  -- it was lost
  pub kept_unsent : (lines : List ReportLine) (line : ReportLine) (old mid new : Option Told) (layout : Layout) (now : Following) (k : Kept journal site sender begun lines old mid layout now) → All (λ (known : ℕ). known ≤ length k.older) (acknowledged_in line)
      → Emits old mid (sent report_text lines) → (fault : Unsent) → TellsUpTo fault line mid new → ((content : Content) → Rests journal layout mid content → Throughout journal content mid new)
      → KeepsAlong (LeavesFollower journal site sender begun) old new
  kept_unsent lines line old mid new layout now k few goes unsent.Lost adds all =
      let P = LeavesFollower journal site sender begun in
      let before : List Entry = sent report_text lines in
      let content = k.holds.0 in
      let more = covers_more k.older lines line k.covers few in
      kept_then P before old mid new goes k.keeps
      (kept_lost (λ s image. P (before ++ s) image) journal content console (report_text line) mid new (all content k.holds.1) adds
      (λ image opens. leaves_sent journal site sender begun lines k.older image (before ++ []) (append-nil before) k.there k.covers (image_of k.older layout mid k.holds image opens))
      (λ image opens. leaves_lost journal site sender begun lines line k.older image k.there more (image_of k.older layout mid k.holds image opens)))
  kept_unsent lines line old mid new layout now k few goes unsent.NoMemory adds all =
      let P = LeavesFollower journal site sender begun in
      let before : List Entry = sent report_text lines in
      let content = k.holds.0 in
      kept_then P before old mid new goes k.keeps
      (kept_nothing (λ s image. P (before ++ s) image) journal content mid new (all content k.holds.1) adds
      (λ image opens. leaves_sent journal site sender begun lines k.older image (before ++ []) (append-nil before) k.there k.covers (image_of k.older layout mid k.holds image opens)))

  -- a commit leads from one history to another
  committing : (lines : List ReportLine) (older next : List Event) (old mid new : Option Told) → KeepsAlong (LeavesFollower journal site sender begun) old mid → Emits old mid (sent report_text lines) → MayReach sender begun older → MayReach sender begun next
      → All (λ (known : ℕ). known ≤ length older) (flat_map acknowledged_in lines) → length older ≤ length next → Commits journal site older next mid new → KeepsAlong (LeavesFollower journal site sender begun) old new
  committing lines older next old mid new keeps goes there further covers long commits =
      let P = LeavesFollower journal site sender begun in
      let before : List Entry = sent report_text lines in
      kept_then P before old mid new goes keeps
      (kept_quiet (λ s image. P (before ++ s) image) (λ image. ImageStands journal site image older ⊎ ImageStands journal site image next) mid new commits (λ image stands. one_of image stands))
    where
      more : All (λ (known : ℕ). known ≤ length next) (flat_map acknowledged_in lines)
      more = All-weaker (λ (known : ℕ). known ≤ length older) (λ (known : ℕ). known ≤ length next) (λ known few. omega (arith, few, long)) (flat_map acknowledged_in lines) covers

      one_of : (image : List ℕ) → ImageStands journal site image older ⊎ ImageStands journal site image next → LeavesFollower journal site sender begun (sent report_text lines ++ []) image
      one_of image (inl stands) = leaves_sent journal site sender begun lines older image (sent report_text lines ++ []) (append-nil (sent report_text lines)) there covers stands
      one_of image (inr stands) = leaves_sent journal site sender begun lines next image (sent report_text lines ++ []) (append-nil (sent report_text lines)) further more stands

  module _ (is_site : IsSite site) (typed : FitsSite site) (one : OneSnapshot) (low : BoundsAreLow) (begins : MayBegin site sender begun) where
    -- a packet was taken
    pub record KeptTaken (lines : List ReportLine) (old new : Option Told) (layout : Layout) (took : Took) (next : Following) : Type 0 where
      pub kept : Kept journal site sender begun lines old new layout next
      pub covers : All (λ (known : ℕ). known ≤ length kept.older) (acknowledged_by took)

    pub kept_taken : (lines : List ReportLine) (old mid new : Option Told) (layout layout' : Layout) (now next : Following) (octets : List ℕ) (took : Took) → Kept journal site sender begun lines old mid layout now → Emits old mid (sent report_text lines)
        → MaySend site sender octets → Takes now octets took next → Taking site now next octets took layout layout' mid new → KeptTaken lines old new layout' took next
    kept_taken lines old mid new layout layout' now next octets took k goes sends takes taking =
        let led = led_to site is_site typed one low sender begun k.older now next octets took begins k.follows sends takes in
        record {
          kept = record {
            older = led.after;
            there = led.there;
            follows = led.follows;
            covers = All-weaker (λ (known : ℕ). known ≤ length k.older) (λ (known : ℕ). known ≤ length led.after) (λ known few. omega (arith, few, led.no_shorter)) (flat_map acknowledged_in lines) k.covers;
            holds = taking.holds journal k.older led.after k.holds led.stands led.may led.may_after led.on;
            keeps = committing lines k.older led.after old mid new k.keeps goes k.there led.there k.covers led.no_shorter (taking.keeps journal k.older led.after k.holds led.stands led.may led.may_after led.on);
          };
          covers = led.covers;
        }

    -- it wasn't
    pub kept_broken : (lines : List ReportLine) (old mid new : Option Told) (layout : Layout) (now : Following) (octets : List ℕ) → Kept journal site sender begun lines old mid layout now → Emits old mid (sent report_text lines)
        → MaySend site sender octets → Breaking site now octets layout mid new → KeepsAlong (LeavesFollower journal site sender begun) old new
    kept_broken lines old mid new layout now octets k goes sends breaking = by breaking.tried
      where
        by : (new ≡ mid) ⊎ ((took : Took) × (next : Following) × Takes now octets took next) → KeepsAlong (LeavesFollower journal site sender begun) old new
        by (inl same) = subst (λ (t : Option Told). KeepsAlong (LeavesFollower journal site sender begun) old t) (sym same) k.keeps
        by (inr (took, next, takes)) =
            let led = led_to site is_site typed one low sender begun k.older now next octets took begins k.follows sends takes in
            committing lines k.older led.after old mid new k.keeps goes k.there led.there k.covers led.no_shorter (breaking.breaks journal k.older led.after k.holds led.stands led.may led.may_after (took, next, takes, led.on))

-- of all elements and one more
All-parted : {X : Type 0} (P : X → Type 0) (xs : List X) (x : X) → All P (xs ++ x ∷ []) → All P xs × P x
All-parted P [] x all = (All-nil P, All-head P x [] all)
All-parted P (y ∷ xs) x all =
    let rest = All-parted P xs x (All-tail P y (xs ++ x ∷ []) all) in
    (All-cons P y xs (All-head P y (xs ++ x ∷ []) all) rest.0, rest.1)

-- of the first elements
All-front : {X : Type 0} (P : X → Type 0) (xs ys : List X) → All P (xs ++ ys) → All P xs
All-front P [] ys all = All-nil P
All-front P (x ∷ xs) ys all = All-cons P x xs (All-head P x (xs ++ ys) all) (All-front P xs ys (All-tail P x (xs ++ ys) all))

-- ---- packet by packet

-- these packets and those of the octets to come are those of the script
pub record Remains (packets : List PacketLine) (number : ℕ) (script octets : List ℕ) : Type 0 where
  pub spelled : packets_of script ≡ packets ++ spelled_in packet_says number (lines_of octets)
  pub refused : refused_line packet_says script ≡ refused_in packet_says number (lines_of octets)
  pub count : length (lines_of script) ≡ number + length (lines_of octets)

-- these packets were taken, and their lines went out, whatever history there was before them
pub record Progress (start : CoreState) (text come : Option (List ℕ)) (first layout : Layout) (old new : Option Told) (number : ℕ) (ended : Bool) (now : Following) : Type 0 where
  pub packets : List PacketLine
  pub lines : List ReportLine
  pub reports : Reports (following start None) packets lines now
  pub out : Emits old new (sent report_text (opening_line start ∷ lines))
  pub remains : WhereTold text come (Remains packets number)
  pub whole : ended ≡ false → WhereTold text come (TakesLines 0 number)
  pub kept : (journal : Journal) (sender : Sender) (older : List Event) → MayBegin start.site sender older → All (λ (line : PacketLine). MaySend start.site sender line.packet) packets → Represents start older → HoldsHistory journal start.site older first old
      → Kept journal start.site sender older (opening_line start ∷ lines) old new layout now

reports_more : (packets : List PacketLine) (lines : List ReportLine) (packet : PacketLine) (took : Took) (old now next : Following) → Reports old packets lines now → Takes now packet.packet took next → Reports old (packets ++ packet ∷ []) (lines ++ line_of packet.number took ∷ []) next
reports_more [] [] packet took old now next is takes = (took, next, subst (λ (f : Following). Takes f packet.packet took next) is takes, refl, refl)
reports_more [] (line ∷ lines) packet took old now next is takes = absurd is
reports_more (one ∷ packets) [] packet took old now next is takes = absurd is
reports_more (one ∷ packets) (line ∷ lines) packet took old now next (first, between, taken, same, others) takes = (first, between, taken, same, reports_more packets lines packet took between now next others takes)

-- what is told at two steps is told over both
where_then : {A : Type 0} (a b c : Option A) (P Q R : A → A → Type 0) → ((x y z : A) → P x y → Q y z → R x z) → WhereTold a b P → WhereTold b c Q → WhereTold a c R
where_then a b None P Q R f first second = tt
where_then a None (Some z) P Q R f first second = absurd second
where_then None (Some y) (Some z) P Q R f first second = absurd first
where_then (Some x) (Some y) (Some z) P Q R f first second = f x y z first second

remains_all : (text : Option (List ℕ)) → WhereTold text (prepend_known [] text) (Remains [] 0)
remains_all None = tt
remains_all (Some script) = record { spelled = refl; refused = refl; count = omega arith }

takes_none : (text : Option (List ℕ)) → WhereTold text (prepend_known [] text) (TakesLines 0 0)
takes_none None = tt
takes_none (Some script) = record { taken = []; whole = inl refl; front = refl; count = omega arith }

-- one more packet was read
remains_next : (packets : List PacketLine) (number number' : ℕ) (packet : PacketLine) (script octets rest : List ℕ) → Remains packets number script octets → ReadsLine packet_says number number' (Ok (Some packet)) octets rest → Remains (packets ++ packet ∷ []) number' script rest
remains_next packets number number' packet script octets rest r next =
    let h = spelled_gives packet_says (lines_of octets) number number' packet (lines_of rest) next in
    record {
      spelled = r.spelled ∙ (ap (λ (l : List PacketLine). packets ++ l) h.spelled ∙ sym (append_assoc packets (packet ∷ []) (spelled_in packet_says number' (lines_of rest))));
      refused = r.refused ∙ h.refused;
      count = omega (arith, r.count, h.count);
    }

-- behind the first line
pub begins : (start : CoreState) (text : Option (List ℕ)) (first layout : Layout) (old new : Option Told) → Adds old new (sent report_text (opening_line start ∷ []))
    → ((journal : Journal) (content : Content) → Rests journal first old content → Throughout journal content old new) → ((journal : Journal) (content : Content) → Rests journal first old content → Rests journal layout new content)
    → Progress start text (prepend_known [] text) first layout old new 0 false (following start None)
unfolding kept_at_once
begins start text first layout old new adds all rests = record {
  packets = [];
  lines = [];
  reports = refl;
  out = emits_sent report_text (opening_line start ∷ []) old new adds;
  remains = remains_all text;
  whole = λ e. takes_none text;
  kept = λ journal sender older begins sends stands holds.
      let nothing = kept_at_once journal start.site sender older first old start begins stands.shows holds in
      kept_told journal start.site sender older [] (opening_line start) old old new first layout (following start None) nothing (All-nil (λ (known : ℕ). known ≤ length older)) (emits.nothing old) adds (all journal) (rests journal);
}

-- one more packet
module _ (start : CoreState) (is_site : IsSite start.site) (typed : FitsSite start.site) (one : OneSnapshot) (low : BoundsAreLow) where
  pub goes_on : (text come come' : Option (List ℕ)) (first layout layout' layout'' : Layout) (old new new' new'' : Option Told) (number number' : ℕ) (ended ended' : Bool) (now next : Following) (packet : PacketLine) (took : Took) (line : ReportLine)
      → Progress start text come first layout old new number ended now → WhereTold come come' (ReadsLine packet_says number number' (Ok (Some packet))) → (ended' ≡ false → ended ≡ false) → (ended' ≡ false → WhereTold come come' (TakesLines number number'))
      → Takes now packet.packet took next → Emits new new' [] → Taking start.site now next packet.packet took layout layout' new new'
      → line ≡ line_of packet.number took → Adds new' new'' (sent report_text (line ∷ [])) → ((journal : Journal) (content : Content) → Rests journal layout' new' content → Throughout journal content new' new'') → ((journal : Journal) (content : Content) → Rests journal layout' new' content → Rests journal layout'' new'' content)
      → Progress start text come' first layout'' old new'' number' ended' next
  goes_on text come come' first layout layout' layout'' old new new' new'' number number' ended ended' now next packet took line p read stays taken takes quiet taking same adds all rests =
      let so : sent report_text (opening_line start ∷ p.lines) ++ [] ≡ sent report_text (opening_line start ∷ p.lines) = append-nil (sent report_text (opening_line start ∷ p.lines)) in
      let out : Emits old new' (sent report_text (opening_line start ∷ p.lines)) = subst (λ (l : List Entry). Emits old new' l) so (emits.followed old new new' (sent report_text (opening_line start ∷ p.lines)) [] p.out quiet) in
      record {
        packets = p.packets ++ packet ∷ [];
        lines = p.lines ++ line ∷ [];
        reports = subst (λ (l : ReportLine). Reports (following start None) (p.packets ++ packet ∷ []) (p.lines ++ l ∷ []) next) (sym same) (reports_more p.packets p.lines packet took (following start None) now next p.reports takes);
        out = sent_then Emits emits report_text old new' new'' (opening_line start ∷ p.lines) (line ∷ []) out (emits_sent report_text (line ∷ []) new' new'' adds);
        remains = where_then text come come' (Remains p.packets number) (ReadsLine packet_says number number' (Ok (Some packet))) (Remains (p.packets ++ packet ∷ []) number')
            (λ script octets rest r q. remains_next p.packets number number' packet script octets rest r q) p.remains read;
        whole = λ e. where_then text come come' (TakesLines 0 number) (TakesLines number number') (TakesLines 0 number')
            (λ script octets rest first_lines more. takes_then 0 number number' script octets rest first_lines more) (p.whole (stays e)) (taken e);
        kept = λ journal sender older begins sends stands holds.
            let each = All-parted (λ (l : PacketLine). MaySend start.site sender l.packet) p.packets packet sends in
            let k = p.kept journal sender older begins each.0 stands holds in
            let t = kept_taken journal start.site sender older is_site typed one low begins (opening_line start ∷ p.lines) old new new' layout layout' now next packet.packet took k p.out each.1 takes taking in
            let few : All (λ (known : ℕ). known ≤ length t.kept.older) (acknowledged_in line) = subst (λ (l : List ℕ). All (λ (known : ℕ). known ≤ length t.kept.older) l) (sym (ap acknowledged_in same ∙ line_acknowledges packet.number took)) t.covers in
            kept_told journal start.site sender older (opening_line start ∷ p.lines) line old new' new'' layout' layout'' next t.kept few out adds (all journal) (rests journal);
      }

-- ---- how it ends

-- at a place of its script, from which something more was read
at_script : (packets : List PacketLine) (number : ℕ) (text come come' : Option (List ℕ)) (P : List ℕ → Type 0) (Q : List ℕ → List ℕ → Type 0) → WhereTold text come (Remains packets number) → WhereTold come come' Q → ((script octets : List ℕ) → Remains packets number script octets → P script) → IfSome (still text come') P
at_script packets number text come None P Q remains read to = tt
at_script packets number None come (Some rest) P Q remains read to = tt
at_script packets number (Some script) None (Some rest) P Q remains read to = absurd read
at_script packets number (Some script) (Some octets) (Some rest) P Q remains read to = to script octets remains

-- what went out, where it may be a front of the report
module _ (start : CoreState) (text come : Option (List ℕ)) (first layout : Layout) (old new : Option Told) (number : ℕ) (ended : Bool) (now : Following) (p : Progress start text come first layout old new number ended now) where
  abbrev so_far : List ReportLine
  so_far = opening_line start ∷ p.lines

  abbrev closing_at : List ℕ → List ℕ → List ReportLine
  closing_at script octets = closing_lines (spelled_in packet_says number (lines_of octets)) (refused_line packet_says script) (length (lines_of script)) now

  front_follows : (come' : Option (List ℕ)) (Q : List ℕ → List ℕ → Type 0) → WhereTold come come' Q → (status : Status) → ((left : List PacketLine) → TakesEach status left) → ((pieces back : List ReportLine) → pieces ≡ so_far ++ back → Ends Emits report_text status pieces old new) → IfSome (still text come') (λ t. Follows Emits status start t old new)
  front_follows come' Q read status each goes =
      at_script p.packets number text come come' (λ t. Follows Emits status start t old new) Q p.remains read
      (λ script octets remains. record {
        packets = p.packets;
        left = spelled_in packet_says number (lines_of octets);
        split = remains.spelled;
        each = each (spelled_in packet_says number (lines_of octets));
        lines = p.lines;
        reached = now;
        reports = p.reports;
        went = goes (so_far ++ closing_at script octets) (closing_at script octets) refl;
      })

  -- a call failed between two packets, or memory was refused
  pub ends_between_memory : (come' : Option (List ℕ)) (Q : List ℕ → List ℕ → Type 0) → WhereTold come come' Q → IfSome (still text come') (λ t. Follows Emits status.NoMemory start t old new)
  ends_between_memory come' Q read = front_follows come' Q read status.NoMemory (λ left. tt) (λ pieces back is. (so_far, back, is, p.out))

  ends_between_read : (come' : Option (List ℕ)) (Q : List ℕ → List ℕ → Type 0) → WhereTold come come' Q → IfSome (still text come') (λ t. Follows Emits status.ReadFault start t old new)
  ends_between_read come' Q read = front_follows come' Q read status.ReadFault (λ left. tt) (λ pieces back is. (so_far, back, is, p.out))

  -- nothing was sent behind it
  pub ends_at_packet : (come' : Option (List ℕ)) (number' : ℕ) (packet : PacketLine) → WhereTold come come' (ReadsLine packet_says number number' (Ok (Some packet))) → (new' : Option Told) (fault : Status) → IsKeepFault fault → Emits new new' [] → IfSome (still text come') (λ t. Follows Emits fault start t old new')
  ends_at_packet come' number' packet read new' fault is quiet = by fault is
    where
      out : Emits old new' (sent report_text so_far)
      out = subst (λ (l : List Entry). Emits old new' l) (append-nil (sent report_text so_far)) (emits.followed old new new' (sent report_text so_far) [] p.out quiet)

      follows : (status : Status) → ((left : List PacketLine) → TakesEach status left) → ((pieces back : List ReportLine) → pieces ≡ so_far ++ back → Ends Emits report_text status pieces old new') → IfSome (still text come') (λ t. Follows Emits status start t old new')
      follows status each goes =
          at_script p.packets number text come come' (λ t. Follows Emits status start t old new') (ReadsLine packet_says number number' (Ok (Some packet))) p.remains read
          (λ script octets remains. record {
            packets = p.packets;
            left = spelled_in packet_says number (lines_of octets);
            split = remains.spelled;
            each = each (spelled_in packet_says number (lines_of octets));
            lines = p.lines;
            reached = now;
            reports = p.reports;
            went = goes (so_far ++ closing_at script octets) (closing_at script octets) refl;
          })

      by : (fault : Status) → IsKeepFault fault → IfSome (still text come') (λ t. Follows Emits fault start t old new')
      by status.DiskFault is = follows status.DiskFault (λ left. tt) (λ pieces back same. (so_far, back, same, out))
      by status.NoMemory is = follows status.NoMemory (λ left. tt) (λ pieces back same. (so_far, back, same, out))
      by status.Done is = absurd is
      by status.Usage is = absurd is
      by (status.SiteRefused fault) is = absurd is
      by (status.ScriptRefused line) is = absurd is
      by status.ReadFault is = absurd is
      by status.EmitFault is = absurd is
      by (status.JournalRefused fault) is = absurd is
      by status.LinkFault is = absurd is

  -- a line is refused
  refuses_line : (octets rest : List ℕ) (number' line : ℕ) (t : List ℕ) → Remains p.packets number t octets → ReadsLine packet_says number number' (Err (Grammar line)) octets rest → Follows Emits (status.ScriptRefused line) start t old new
  refuses_line octets rest number' line t remains read =
      let h = spells_refused packet_says (lines_of octets) number line read.0 in
      let none : p.lines ++ closing_lines [] (refused_line packet_says t) (length (lines_of t)) now ≡ p.lines =
      ap (λ (o : Option ℕ). p.lines ++ closing_lines [] o (length (lines_of t)) now) (remains.refused ∙ h.refused) ∙ append-nil p.lines in
      record {
        packets = p.packets;
        left = [];
        split = remains.spelled ∙ ap (λ (l : List PacketLine). p.packets ++ l) h.spelled;
        each = refl;
        lines = p.lines;
        reached = now;
        reports = p.reports;
        went = subst (λ (ls : List ReportLine). Emits old new (sent report_text (opening_line start ∷ ls))) (sym none) p.out;
      }

  -- a fault while a packet is read
  pub ends_at_line : (come' : Option (List ℕ)) (number' : ℕ) (fault : LineFault) → WhereTold come come' (ReadsLine packet_says number number' (Err fault)) → IfSome (still text come') (λ t. Follows Emits (of_line_fault fault) start t old new)
  ends_at_line come' number' Read read = ends_between_read come' (ReadsLine packet_says number number' (Err Read)) read
  ends_at_line come' number' NoMemory read = ends_between_memory come' (ReadsLine packet_says number number' (Err NoMemory)) read
  ends_at_line come' number' (Grammar line) read = by text come come' p.remains read
    where
      by : (text come come' : Option (List ℕ)) → WhereTold text come (Remains p.packets number) → WhereTold come come' (ReadsLine packet_says number number' (Err (Grammar line))) → IfSome (still text come') (λ t. Follows Emits (status.ScriptRefused line) start t old new)
      by text come None remains read = tt
      by None come (Some rest) remains read = tt
      by (Some t) None (Some rest) remains read = absurd read
      by (Some t) (Some octets) (Some rest) remains read = refuses_line octets rest number' line t remains read

  -- the line that is refused is the first outside the grammar
  pub refused_first : (come' : Option (List ℕ)) (number' line : ℕ) → WhereTold come come' (ReadsLine packet_says number number' (Err (Grammar line))) → IfSome (still text come') (λ t. refused_line packet_says t ≡ Some line)
  refused_first come' number' line read = by text come come' p.remains read
    where
      by : (text come come' : Option (List ℕ)) → WhereTold text come (Remains p.packets number) → WhereTold come come' (ReadsLine packet_says number number' (Err (Grammar line))) → IfSome (still text come') (λ t. refused_line packet_says t ≡ Some line)
      by text come None remains read = tt
      by None come (Some rest) remains read = tt
      by (Some t) None (Some rest) remains read = absurd read
      by (Some t) (Some octets) (Some rest) remains read = remains.refused ∙ (spells_refused packet_says (lines_of octets) number line read.0).refused

  -- the line of a packet is in the way
  pub ends_at_telling : (come' : Option (List ℕ)) (number' : ℕ) (packet : PacketLine) (took : Took) (next : Following) (line : ReportLine) (new' new'' : Option Told) (fault : Unsent) → WhereTold come come' (ReadsLine packet_says number number' (Ok (Some packet)))
      → Takes now packet.packet took next → Emits new new' [] → line ≡ line_of packet.number took → TellsUpTo fault line new' new'' → IfSome (still text come') (λ t. Follows Emits (of_unsent fault) start t old new'')
  ends_at_telling come' number' packet took next line new' new'' fault read takes quiet same tells = by text come come' p.remains read
    where
      out : Emits old new' (sent report_text so_far)
      out = subst (λ (l : List Entry). Emits old new' l) (append-nil (sent report_text so_far)) (emits.followed old new new' (sent report_text so_far) [] p.out quiet)

      -- behind this line
      goes : (fault : Unsent) → TellsUpTo fault line new' new'' → (back : List ReportLine) → Ends Emits report_text (of_unsent fault) (so_far ++ line ∷ back) old new''
      goes unsent.Lost tells back = (so_far, line, back, refl, emits.followed old new' new'' (sent report_text so_far) (lost report_text line) out (emits_lost line new' new'' tells))
      goes unsent.NoMemory tells back = (so_far, line ∷ back, refl, subst (λ (l : List Entry). Emits old new'' l) (append-nil (sent report_text so_far)) (emits.followed old new' new'' (sent report_text so_far) [] out (emits_none new' new'' tells)))

      each : (fault : Unsent) (left : List PacketLine) → TakesEach (of_unsent fault) left
      each unsent.Lost left = tt
      each unsent.NoMemory left = tt

      by : (text come come' : Option (List ℕ)) → WhereTold text come (Remains p.packets number) → WhereTold come come' (ReadsLine packet_says number number' (Ok (Some packet))) → IfSome (still text come') (λ t. Follows Emits (of_unsent fault) start t old new'')
      by text come None remains read = tt
      by None come (Some rest) remains read = tt
      by (Some t) None (Some rest) remains read = absurd read
      by (Some t) (Some octets) (Some rest) remains read =
          let more = remains_next p.packets number number' packet t octets rest remains read in
          let left : List PacketLine = spelled_in packet_says number' (lines_of rest) in
          let back : List ReportLine = closing_lines left (refused_line packet_says t) (length (lines_of t)) next in
          record {
            packets = p.packets ++ packet ∷ [];
            left = left;
            split = more.spelled;
            each = each fault left;
            lines = p.lines ++ line ∷ [];
            reached = next;
            reports = subst (λ (l : ReportLine). Reports (following start None) (p.packets ++ packet ∷ []) (p.lines ++ l ∷ []) next) (sym same) (reports_more p.packets p.lines packet took (following start None) now next p.reports takes);
            went = subst (λ (ls : List ReportLine). Ends Emits report_text (of_unsent fault) (opening_line start ∷ ls) old new'') (sym (append_assoc p.lines (line ∷ []) back)) (goes fault tells back);
          }

  -- ---- the script's end

  closing_is : (t octets : List ℕ) (number' : ℕ) → Remains p.packets number t octets → next_in packet_says number (lines_of octets) ≡ AtEnd number' → closing_lines [] (refused_line packet_says t) (length (lines_of t)) now ≡ say.End number' now.core.events ∷ []
  closing_is t octets number' remains next =
      let h = spells_none packet_says (lines_of octets) number number' next in
      let count : length (lines_of t) ≡ number' = omega (arith, remains.count, h.count) in
      ap (λ (o : Option ℕ). closing_lines [] o (length (lines_of t)) now) (remains.refused ∙ h.refused) ∙ ap (λ (n : ℕ). say.End n now.core.events ∷ []) count

  at_end : (status : Status) (new' : Option Told) (number' : ℕ) (line : ReportLine) → line ≡ say.End number' now.core.events → ((left : List PacketLine) → left ≡ [] → TakesEach status left) → Ends Emits report_text status (so_far ++ line ∷ []) old new'
      → (t octets rest : List ℕ) → Remains p.packets number t octets → ReadsLine packet_says number number' (Ok None) octets rest → Follows Emits status start t old new'
  at_end status new' number' line same each goes t octets rest remains read =
      let h = spells_none packet_says (lines_of octets) number number' read.0 in
      let closing : line ∷ [] ≡ closing_lines [] (refused_line packet_says t) (length (lines_of t)) now = ap (λ (l : ReportLine). l ∷ []) same ∙ sym (closing_is t octets number' remains read.0) in
      record {
        packets = p.packets;
        left = [];
        split = remains.spelled ∙ ap (λ (l : List PacketLine). p.packets ++ l) h.spelled;
        each = each [] refl;
        lines = p.lines;
        reached = now;
        reports = p.reports;
        went = subst (λ (ls : List ReportLine). Ends Emits report_text status (opening_line start ∷ (p.lines ++ ls)) old new') closing goes;
      }

  over_end : (status : Status) (come' : Option (List ℕ)) (new' : Option Told) (number' : ℕ) (line : ReportLine) → WhereTold come come' (ReadsLine packet_says number number' (Ok None)) → line ≡ say.End number' now.core.events → ((left : List PacketLine) → left ≡ [] → TakesEach status left)
      → Ends Emits report_text status (so_far ++ line ∷ []) old new' → IfSome (still text come') (λ t. Follows Emits status start t old new')
  over_end status come' new' number' line read same each goes = by text come come' p.remains read
    where
      by : (text come come' : Option (List ℕ)) → WhereTold text come (Remains p.packets number) → WhereTold come come' (ReadsLine packet_says number number' (Ok None)) → IfSome (still text come') (λ t. Follows Emits status start t old new')
      by text come None remains read = tt
      by None come (Some rest) remains read = tt
      by (Some t) None (Some rest) remains read = absurd read
      by (Some t) (Some octets) (Some rest) remains read = at_end status new' number' line same each goes t octets rest remains read

  pub ends : (come' : Option (List ℕ)) (new' : Option Told) (number' : ℕ) (line : ReportLine) → WhereTold come come' (ReadsLine packet_says number number' (Ok None)) → line ≡ say.End number' now.core.events → Adds new new' (sent report_text (line ∷ [])) → IfSome (still text come') (λ t. Follows Emits status.Done start t old new')
  ends come' new' number' line read same adds =
      over_end status.Done come' new' number' line read same (λ left none. none) (sent_then Emits emits report_text old new new' so_far (line ∷ []) p.out (emits_sent report_text (line ∷ []) new new' adds))

  pub ends_at_end : (come' : Option (List ℕ)) (new' : Option Told) (number' : ℕ) (line : ReportLine) (fault : Unsent) → WhereTold come come' (ReadsLine packet_says number number' (Ok None)) → line ≡ say.End number' now.core.events → TellsUpTo fault line new new' → IfSome (still text come') (λ t. Follows Emits (of_unsent fault) start t old new')
  ends_at_end come' new' number' line unsent.Lost read same tells =
      over_end status.EmitFault come' new' number' line read same (λ left none. tt) (so_far, line, [], refl, emits.followed old new new' (sent report_text so_far) (lost report_text line) p.out (emits_lost line new new' tells))
  ends_at_end come' new' number' line unsent.NoMemory read same tells =
      over_end status.NoMemory come' new' number' line read same (λ left none. tt)
      (so_far, line ∷ [], refl, subst (λ (l : List Entry). Emits old new' l) (append-nil (sent report_text so_far)) (emits.followed old new new' (sent report_text so_far) [] p.out (emits_none new new' tells)))

  -- all lines are in the grammar
  pub accepts : (come' : Option (List ℕ)) (number' : ℕ) → WhereTold come come' (ReadsLine packet_says number number' (Ok None)) → IfSome (still text come') (λ t. refused_line packet_says t ≡ None)
  accepts come' number' read = by text come come' p.remains read
    where
      by : (text come come' : Option (List ℕ)) → WhereTold text come (Remains p.packets number) → WhereTold come come' (ReadsLine packet_says number number' (Ok None)) → IfSome (still text come') (λ t. refused_line packet_says t ≡ None)
      by text come None remains read = tt
      by None come (Some rest) remains read = tt
      by (Some t) None (Some rest) remains read = absurd read
      by (Some t) (Some octets) (Some rest) remains read = remains.refused ∙ (spells_none packet_says (lines_of octets) number number' read.0).refused

  -- ---- where the script stops being read

  stops_where : (number' : ℕ) (pending t octets rest : List ℕ) → Remains p.packets number t octets → ReadsLine packet_says number number' (Err Read) octets (pending ++ rest) → TakesLines 0 number' t (pending ++ rest) → position is_line_feed pending ≡ None → StopsFollowing Emits start t rest old new
  stops_where number' pending t octets rest remains read taken no_feed =
      let h = spells_same packet_says number' number (lines_of (pending ++ rest)) (lines_of octets) read in
      let parts : lines_of t ≡ lines_of taken.taken ++ lines_of (pending ++ rest) = ap lines_of taken.front ∙ lines_of-whole taken.taken (pending ++ rest) taken.whole in
      let spelled : spelled_in packet_says 0 (lines_of taken.taken ++ lines_of (pending ++ rest)) ≡ p.packets ++ spelled_in packet_says number' (lines_of (pending ++ rest)) =
      ap (spelled_in packet_says 0) (sym parts) ∙ (remains.spelled ∙ ap (λ (l : List PacketLine). p.packets ++ l) (sym h.spelled)) in
      let refused : refused_in packet_says 0 (lines_of taken.taken ++ lines_of (pending ++ rest)) ≡ refused_in packet_says number' (lines_of (pending ++ rest)) = ap (refused_in packet_says 0) (sym parts) ∙ (remains.refused ∙ sym h.refused) in
      let count : length (lines_of taken.taken) ≡ number' = omega (arith, taken.count) in
      let same : p.packets ≡ packets_of taken.taken = front_lines packet_says (lines_of taken.taken) (lines_of (pending ++ rest)) p.packets number' spelled refused count in
      record {
        whole = taken.taken;
        begun = pending;
        read = taken.front ∙ sym (append_assoc taken.taken pending rest);
        whole_lines = taken.whole;
        accepted = front_accepted packet_says (lines_of taken.taken) (lines_of (pending ++ rest)) number' refused count;
        no_line_feed = no_feed;
        lines = p.lines;
        reached = now;
        reports = subst (λ (l : List PacketLine). Reports (following start None) l p.lines now) same p.reports;
        went = p.out;
      }

  pub stops_reading : (left : Option (List ℕ)) (pending : List ℕ) (number' : ℕ) (ended' : Bool) → WhereTold come (prepend_known pending left) (ReadsLine packet_says number number' (Err Read)) → (ended' ≡ false → ended ≡ false) → (ended' ≡ false → WhereTold come (prepend_known pending left) (TakesLines number number'))
      → (ended' ≡ false) × (position is_line_feed pending ≡ None) → WhereTold text left (λ t rest. StopsFollowing Emits start t rest old new)
  stops_reading left pending number' ended' read stays taken waits = by text come left p.remains read (p.whole (stays waits.0)) (taken waits.0)
    where
      by : (text come left : Option (List ℕ)) → WhereTold text come (Remains p.packets number) → WhereTold come (prepend_known pending left) (ReadsLine packet_says number number' (Err Read)) → WhereTold text come (TakesLines 0 number) → WhereTold come (prepend_known pending left) (TakesLines number number')
          → WhereTold text left (λ t rest. StopsFollowing Emits start t rest old new)
      by text come None remains read whole more = tt
      by None None (Some rest) remains read whole more = absurd read
      by None (Some octets) (Some rest) remains read whole more = absurd remains
      by (Some t) None (Some rest) remains read whole more = absurd read
      by (Some t) (Some octets) (Some rest) remains read whole more = stops_where number' pending t octets rest remains read (takes_then 0 number number' t octets (pending ++ rest) whole more) waits.1

  -- ---- what a crash leaves

  module _ (journal : Journal) (sender : Sender) (older : List Event) (stands : Represents start older) (holds : HoldsHistory journal start.site older first old) where
    kept_so_far : (t octets : List ℕ) → Remains p.packets number t octets → IsSent start.site sender older t → Kept journal start.site sender older so_far old new layout now
    kept_so_far t octets remains leads =
        p.kept journal sender older leads.begins
        (All-front (λ (line : PacketLine). MaySend start.site sender line.packet) p.packets (spelled_in packet_says number (lines_of octets)) (All-same (λ (line : PacketLine). MaySend start.site sender line.packet) (p.packets ++ spelled_in packet_says number (lines_of octets)) (packets_of t) (sym remains.spelled) leads.packets))
        stands holds

    -- it ends between two packets
    pub kept_between : (come' : Option (List ℕ)) (number' : ℕ) (fault : LineFault) → WhereTold come come' (ReadsLine packet_says number number' (Err fault)) → IfSome (still text come') (λ t. IsSent start.site sender older t → KeepsAlong (LeavesFollower journal start.site sender older) old new)
    kept_between come' number' fault read = at_script p.packets number text come come' (λ t. IsSent start.site sender older t → KeepsAlong (LeavesFollower journal start.site sender older) old new) (ReadsLine packet_says number number' (Err fault)) p.remains read (λ t octets remains leads. (kept_so_far t octets remains leads).keeps)

    -- the end is told, or in the way
    pub kept_at_end : (come' : Option (List ℕ)) (number' : ℕ) → WhereTold come come' (ReadsLine packet_says number number' (Ok None)) → (new' : Option Told) (layout' : Layout) (lines events : ℕ) → Adds new new' (sent report_text (say.End lines events ∷ [])) → ((content : Content) → Rests journal layout new content → Throughout journal content new new') → ((content : Content) → Rests journal layout new content → Rests journal layout' new' content)
        → IfSome (still text come') (λ t. IsSent start.site sender older t → KeepsAlong (LeavesFollower journal start.site sender older) old new')
    kept_at_end come' number' read new' layout' lines events adds all rests =
        at_script p.packets number text come come' (λ t. IsSent start.site sender older t → KeepsAlong (LeavesFollower journal start.site sender older) old new') (ReadsLine packet_says number number' (Ok None)) p.remains read
        (λ t octets remains leads. let k = kept_so_far t octets remains leads in (kept_told journal start.site sender older so_far (say.End lines events) old new new' layout layout' now k (All-nil (λ (known : ℕ). known ≤ length k.older)) p.out adds all rests).keeps)

    pub kept_before_end : (come' : Option (List ℕ)) (number' : ℕ) → WhereTold come come' (ReadsLine packet_says number number' (Ok None)) → (new' : Option Told) (lines events : ℕ) (fault : Unsent) → TellsUpTo fault (say.End lines events) new new' → ((content : Content) → Rests journal layout new content → Throughout journal content new new')
        → IfSome (still text come') (λ t. IsSent start.site sender older t → KeepsAlong (LeavesFollower journal start.site sender older) old new')
    kept_before_end come' number' read new' lines events fault tells all =
        at_script p.packets number text come come' (λ t. IsSent start.site sender older t → KeepsAlong (LeavesFollower journal start.site sender older) old new') (ReadsLine packet_says number number' (Ok None)) p.remains read
        (λ t octets remains leads. let k = kept_so_far t octets remains leads in kept_unsent journal start.site sender older so_far (say.End lines events) old new new' layout now k (All-nil (λ (known : ℕ). known ≤ length k.older)) p.out fault tells all)

    -- a packet is in the way, or its line
    module _ (is_site : IsSite start.site) (typed : FitsSite start.site) (one : OneSnapshot) (low : BoundsAreLow) (come' : Option (List ℕ)) (number' : ℕ) (packet : PacketLine) (read : WhereTold come come' (ReadsLine packet_says number number' (Ok (Some packet)))) where
      at_packet : (new' : Option Told) → (MayBegin start.site sender older → Kept journal start.site sender older so_far old new layout now → MaySend start.site sender packet.packet → KeepsAlong (LeavesFollower journal start.site sender older) old new')
          → IfSome (still text come') (λ t. IsSent start.site sender older t → KeepsAlong (LeavesFollower journal start.site sender older) old new')
      at_packet new' to = by text come come' p.remains read
        where
          by : (text come come' : Option (List ℕ)) → WhereTold text come (Remains p.packets number) → WhereTold come come' (ReadsLine packet_says number number' (Ok (Some packet))) → IfSome (still text come') (λ t. IsSent start.site sender older t → KeepsAlong (LeavesFollower journal start.site sender older) old new')
          by text come None remains read = tt
          by None come (Some rest) remains read = tt
          by (Some t) None (Some rest) remains read = absurd read
          by (Some t) (Some octets) (Some rest) remains read = λ leads.
              let more = remains_next p.packets number number' packet t octets rest remains read in
              let P = λ (line : PacketLine). MaySend start.site sender line.packet in
              let all : All P ((p.packets ++ packet ∷ []) ++ spelled_in packet_says number' (lines_of rest)) = All-same P ((p.packets ++ packet ∷ []) ++ spelled_in packet_says number' (lines_of rest)) (packets_of t) (sym more.spelled) leads.packets in
              let each = All-parted P p.packets packet (All-front P (p.packets ++ packet ∷ []) (spelled_in packet_says number' (lines_of rest)) all) in
              to leads.begins (kept_so_far t octets remains leads) each.1

      pub kept_at_packet : (new' : Option Told) → Breaking start.site now packet.packet layout new new' → IfSome (still text come') (λ t. IsSent start.site sender older t → KeepsAlong (LeavesFollower journal start.site sender older) old new')
      kept_at_packet new' breaking = at_packet new' (λ begins k sends. kept_broken journal start.site sender older is_site typed one low begins so_far old new new' layout now packet.packet k p.out sends breaking)

      pub kept_at_telling : (new' new'' : Option Told) (layout' : Layout) (took : Took) (next : Following) (line : ReportLine) (fault : Unsent) → Takes now packet.packet took next → Emits new new' [] → Taking start.site now next packet.packet took layout layout' new new' → line ≡ line_of packet.number took
          → TellsUpTo fault line new' new'' → ((content : Content) → Rests journal layout' new' content → Throughout journal content new' new'') → IfSome (still text come') (λ t. IsSent start.site sender older t → KeepsAlong (LeavesFollower journal start.site sender older) old new'')
      kept_at_telling new' new'' layout' took next line fault takes quiet taking same tells all =
          at_packet new''
          (λ begins k sends.
          let out : Emits old new' (sent report_text so_far) = subst (λ (l : List Entry). Emits old new' l) (append-nil (sent report_text so_far)) (emits.followed old new new' (sent report_text so_far) [] p.out quiet) in
          let t = kept_taken journal start.site sender older is_site typed one low begins so_far old new new' layout layout' now next packet.packet took k p.out sends takes taking in
          let few : All (λ (known : ℕ). known ≤ length t.kept.older) (acknowledged_in line) = subst (λ (l : List ℕ). All (λ (known : ℕ). known ≤ length t.kept.older) l) (sym (ap acknowledged_in same ∙ line_acknowledges packet.number took)) t.covers in
          kept_unsent journal start.site sender older so_far line old new' new'' layout' next t.kept few out fault tells all)

-- ---- before the first packet

-- nothing was told
pub ends_at_once : (start : CoreState) (text : Option (List ℕ)) (told : Option Told) → IfSome text (λ t. Follows Emits status.NoMemory start t told told)
ends_at_once start None told = tt
ends_at_once start (Some t) told =
    let closing : List ReportLine = closing_lines (packets_of t) (refused_line packet_says t) (length (lines_of t)) (following start None) in
    record { packets = []; left = packets_of t; split = refl; each = tt; lines = []; reached = following start None; reports = refl; went = ([], opening_line start ∷ closing, refl, emits.nothing told) }

-- the first line is in the way
pub ends_at_first : (start : CoreState) (text : Option (List ℕ)) (old new : Option Told) (fault : Unsent) → TellsUpTo fault (opening_line start) old new → IfSome text (λ t. Follows Emits (of_unsent fault) start t old new)
ends_at_first start None old new fault tells = tt
ends_at_first start (Some t) old new unsent.Lost tells =
    let closing : List ReportLine = closing_lines (packets_of t) (refused_line packet_says t) (length (lines_of t)) (following start None) in
    record { packets = []; left = packets_of t; split = refl; each = tt; lines = []; reached = following start None; reports = refl; went = ([], opening_line start, closing, refl, emits_lost (opening_line start) old new tells) }
ends_at_first start (Some t) old new unsent.NoMemory tells =
    let closing : List ReportLine = closing_lines (packets_of t) (refused_line packet_says t) (length (lines_of t)) (following start None) in
    record { packets = []; left = packets_of t; split = refl; each = tt; lines = []; reached = following start None; reports = refl; went = ([], opening_line start ∷ closing, refl, emits_none old new tells) }

module _ (journal : Journal) (start : CoreState) (first : Layout) (old : Option Told) (sender : Sender) (older : List Event) (stands : Represents start older) (holds : HoldsHistory journal start.site older first old) (text : Option (List ℕ)) where
  pub kept_begun : IfSome text (λ t. IsSent start.site sender older t → KeepsAlong (LeavesFollower journal start.site sender older) old old)
  kept_begun = in_any (λ t. IsSent start.site sender older t → KeepsAlong (LeavesFollower journal start.site sender older) old old) text (λ t leads. (kept_at_once journal start.site sender older first old start leads.begins stands.shows holds).keeps)

  pub kept_at_first : (new : Option Told) (fault : Unsent) → TellsUpTo fault (opening_line start) old new → ((content : Content) → Rests journal first old content → Throughout journal content old new)
      → IfSome text (λ t. IsSent start.site sender older t → KeepsAlong (LeavesFollower journal start.site sender older) old new)
  unfolding kept_at_once
  kept_at_first new fault tells all =
      in_any (λ t. IsSent start.site sender older t → KeepsAlong (LeavesFollower journal start.site sender older) old new) text
      (λ t leads.
      let k = kept_at_once journal start.site sender older first old start leads.begins stands.shows holds in
      kept_unsent journal start.site sender older [] (opening_line start) old old new first (following start None) k (All-nil (λ (known : ℕ). known ≤ length older)) (emits.nothing old) fault tells all)
