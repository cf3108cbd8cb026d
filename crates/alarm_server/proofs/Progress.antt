-- How far a trial has come.
use Rattle.std.proofs.Common.{◌≡◌, ℕ, ◌+◌, Option, Some, None, Ok, Err, Bool, false, List, [], ◌∷◌, ◌++◌, IfSome, length, refl, ap, ◌∙◌, sym, subst, arith, append_assoc, inl}
use Rattle.script_lines.specs.Report.{report_text}
use Rattle.alarm_server.specs.Stopping.{StopsReading}
use Rattle.std.specs.List.{position}
use Rattle.std.specs.Io.KnownBytes.{prepend_known}
use Rattle.std.proofs.lemmas.List.{append-nil}
use Rattle.bac_values.specs.declared.report.ReportLine.{ReportLine}
use Rattle.bac_values.specs.declared.report.ReportLine.TheVariants.{TrialEnd}
use Rattle.ground_io.specs.Trace.{Told, Adds, WhereTold, still}
use Rattle.script_lines.specs.declared.line.Grammar.TheVariants.{Trial}
use Rattle.script_lines.specs.Line.{line_says}
use Rattle.script_lines.specs.declared.line.Line.{Line}
use Rattle.script_lines.specs.declared.lines.LineFault.{LineFault}
use Rattle.script_lines.specs.declared.lines.LineFault.TheVariants.{Grammar, Read, NoMemory}
use Rattle.script_lines.specs.Script.{AtEnd, is_line_feed, next_in, lines_of, ReadsLine, TakesLines}
use Rattle.alarm_server.specs.declared.settings.Settings.{Settings}
use Rattle.alarm_server.specs.declared.emission.Unsent.{Unsent}
use Rattle.alarm_server.specs.declared.emission.Unsent.TheVariants as unsent
use Rattle.alarm_server.specs.declared.status.Status.TheVariants as status
use Rattle.event_machine.specs.Points.{Incident}
use Rattle.alarm_server.specs.Looks.{looks_after}
use Rattle.alarm_server.specs.Watched.{HasSeen, WatchState}
use Rattle.alarm_server.specs.Emission.{sent, SendsUpTo, Ends}
use Rattle.alarm_server.specs.Status.{of_line_fault, of_unsent}
use Rattle.alarm_server.specs.Script.{spelled_in, refused_in, refused_line}
use Rattle.alarm_server.specs.Trial.{first_point, looks_over, transitions_of, end_by, report_over, front_transitions, SendsTransitions}
use Rattle.alarm_server.proofs.Sending.{adds, sent_then, front_then, front_more}
use Rattle.alarm_server.proofs.Spelled.{spelled_gives, spells_none, spells_refused, spells_same}
use Rattle.alarm_server.proofs.Fronts.{front_accepted, front_lines, lines_of-whole, takes_then}
use Rattle.alarm_server.proofs.Course.{transitions_of-none, looks_over-none, looks_over-append, looks_over-next, transitions_over_more}

-- these lines and those of the octets to come are those of the script
pub record Remains (lines : List Line) (number : ℕ) (script octets : List ℕ) : Type 0 where
  pub spelled : spelled_in (line_says Trial) 0 (lines_of script) ≡ lines ++ spelled_in (line_says Trial) number (lines_of octets)
  pub refused : refused_in (line_says Trial) 0 (lines_of script) ≡ refused_in (line_says Trial) number (lines_of octets)
  pub count : length (lines_of script) ≡ number + length (lines_of octets)

-- these lines were taken, the object is at their last point, and the moves over them went out
pub record Progress (settings : Settings) (text come : Option (List ℕ)) (old new : Option Told) (number : ℕ) (ended : Bool) (watched : WatchState) : Type 0 where
  pub lines : List Line
  pub later : List Incident
  pub points : later ≡ looks_over (first_point settings) [] lines
  pub seen : HasSeen (first_point settings) later watched
  pub out : Adds old new (sent report_text (transitions_of (first_point settings) later))
  pub remains : WhereTold text come (Remains lines number)
  pub whole : ended ≡ false → WhereTold text come (TakesLines 0 number)

-- what is told at two steps is told over both
where_then : {A : Type 0} (a b c : Option A) (P Q R : A → A → Type 0) → ((x y z : A) → P x y → Q y z → R x z) → WhereTold a b P → WhereTold b c Q → WhereTold a c R
where_then a b None P Q R f first second = tt
where_then a None (Some z) P Q R f first second = absurd second
where_then None (Some y) (Some z) P Q R f first second = absurd first
where_then (Some x) (Some y) (Some z) P Q R f first second = f x y z first second

remains_all : (text : Option (List ℕ)) → WhereTold text (prepend_known [] text) (Remains [] 0)
remains_all None = tt
remains_all (Some script) = record { spelled = refl; refused = refl; count = omega arith }

takes_none : (text : Option (List ℕ)) → WhereTold text (prepend_known [] text) (TakesLines 0 0)
takes_none None = tt
takes_none (Some script) = record { taken = []; whole = inl refl; front = refl; count = omega arith }

-- at the beginning
pub begins : (settings : Settings) (text : Option (List ℕ)) (told : Option Told) (watched : WatchState) → HasSeen (first_point settings) [] watched → Progress settings text (prepend_known [] text) told told 0 false watched
begins settings text told watched first = record {
  lines = [];
  later = [];
  points = sym (looks_over-none (first_point settings) []);
  seen = first;
  out = rw (transitions_of-none (first_point settings)) (adds.nothing told);
  remains = remains_all text;
  whole = λ h. takes_none text;
}

-- what is left to report behind these lines
after : (settings : Settings) (lines : List Line) (number : ℕ) (script octets : List ℕ) (later : List Incident) → later ≡ looks_over (first_point settings) [] lines → Remains lines number script octets → report_over settings (lines_of script) ≡ transitions_of (first_point settings) (looks_over (first_point settings) later (spelled_in (line_says Trial) number (lines_of octets))) ++ end_by (refused_in (line_says Trial) number (lines_of octets)) (number + length (lines_of octets))
after settings lines number script octets later points r =
    let first = first_point settings in
    let behind = spelled_in (line_says Trial) number (lines_of octets) in
    let moves = λ (ps : List Incident). transitions_of first ps in
    let spelled : looks_over first [] (spelled_in (line_says Trial) 0 (lines_of script)) ≡ looks_over first later behind =
    ap (looks_over first []) r.spelled ∙ (looks_over-append lines behind first [] ∙ ap (λ ps. looks_over first ps behind) (sym points)) in
    ap (λ ps. moves ps ++ end_by (refused_in (line_says Trial) 0 (lines_of script)) (length (lines_of script))) spelled
    ∙ (ap (λ o. moves (looks_over first later behind) ++ end_by o (length (lines_of script))) r.refused
    ∙ ap (λ n. moves (looks_over first later behind) ++ end_by (refused_in (line_says Trial) number (lines_of octets)) n) r.count)

-- the moves so far are a front of the report
report_front : (settings : Settings) (lines : List Line) (number : ℕ) (script octets : List ℕ) (later : List Incident) → later ≡ looks_over (first_point settings) [] lines → Remains lines number script octets → (back : List ReportLine) × (report_over settings (lines_of script) ≡ transitions_of (first_point settings) later ++ back)
report_front settings lines number script octets later points r =
    let first = first_point settings in
    let end = end_by (refused_in (line_says Trial) number (lines_of octets)) (number + length (lines_of octets)) in
    let more = transitions_over_more (spelled_in (line_says Trial) number (lines_of octets)) first later in
    (more.0 ++ end, after settings lines number script octets later points r ∙ (ap (λ l. l ++ end) more.1 ∙ append_assoc (transitions_of first later) more.0 end))

-- behind the last line nothing but the end is left
report_all : (settings : Settings) (lines : List Line) (number : ℕ) (script octets : List ℕ) (later : List Incident) → later ≡ looks_over (first_point settings) [] lines → Remains lines number script octets → spelled_in (line_says Trial) number (lines_of octets) ≡ [] → report_over settings (lines_of script) ≡ transitions_of (first_point settings) later ++ end_by (refused_in (line_says Trial) number (lines_of octets)) (number + length (lines_of octets))
report_all settings lines number script octets later points r none =
    let first = first_point settings in
    let end = end_by (refused_in (line_says Trial) number (lines_of octets)) (number + length (lines_of octets)) in
    after settings lines number script octets later points r
    ∙ ap (λ ps. transitions_of first ps ++ end) (ap (looks_over first later) none ∙ looks_over-none first later)

-- want of memory before the first line
pub ends_at_once : (settings : Settings) (text : Option (List ℕ)) (told : Option Told) → IfSome text (λ t. Ends Adds report_text status.NoMemory (report_over settings (lines_of t)) told told)
ends_at_once settings None told = tt
ends_at_once settings (Some script) told = ([], report_over settings (lines_of script), refl, adds.nothing told)

-- a fault while a line is read
pub ends_at_line : (settings : Settings) (text come come' : Option (List ℕ)) (old new : Option Told) (number number' : ℕ) (ended : Bool) (watched : WatchState) (fault : LineFault) → Progress settings text come old new number ended watched → WhereTold come come' (ReadsLine (line_says Trial) number number' (Err fault)) → IfSome (still text come') (λ t. Ends Adds report_text (of_line_fault fault) (report_over settings (lines_of t)) old new)
ends_at_line settings text come None old new number number' ended watched fault p read = tt
ends_at_line settings None come (Some rest) old new number number' ended watched fault p read = tt
ends_at_line settings (Some t) None (Some rest) old new number number' ended watched fault p read = absurd read
ends_at_line settings (Some t) (Some octets) (Some rest) old new number number' ended watched (Grammar line) p read =
    let h = spells_refused (line_says Trial) (lines_of octets) number line read.0 in
    let moves = transitions_of (first_point settings) p.later in
    let all = report_all settings p.lines number t octets p.later p.points p.remains h.spelled
    ∙ (ap (λ o. moves ++ end_by o (number + length (lines_of octets))) h.refused ∙ append-nil moves) in
    subst (λ lines. Adds old new (sent report_text lines)) (sym all) p.out
ends_at_line settings (Some t) (Some octets) (Some rest) old new number number' ended watched Read p read =
    let front = report_front settings p.lines number t octets p.later p.points p.remains in
    (transitions_of (first_point settings) p.later, front.0, front.1, p.out)
ends_at_line settings (Some t) (Some octets) (Some rest) old new number number' ended watched NoMemory p read =
    let front = report_front settings p.lines number t octets p.later p.points p.remains in
    (transitions_of (first_point settings) p.later, front.0, front.1, p.out)

-- the line that is refused is the first outside the grammar
pub refused_first : (settings : Settings) (text come come' : Option (List ℕ)) (old new : Option Told) (number number' : ℕ) (ended : Bool) (watched : WatchState) (line : ℕ) → Progress settings text come old new number ended watched → WhereTold come come' (ReadsLine (line_says Trial) number number' (Err (Grammar line))) → IfSome (still text come') (λ t. refused_line (line_says Trial) t ≡ Some line)
refused_first settings text come None old new number number' ended watched line p read = tt
refused_first settings None come (Some rest) old new number number' ended watched line p read = tt
refused_first settings (Some t) None (Some rest) old new number number' ended watched line p read = absurd read
refused_first settings (Some t) (Some octets) (Some rest) old new number number' ended watched line p read =
    p.remains.refused ∙ (spells_refused (line_says Trial) (lines_of octets) number line read.0).refused

pub grammar_fault : (fault : LineFault) (line : ℕ) → of_line_fault fault ≡ status.ScriptRefused line → fault ≡ Grammar line
grammar_fault (Grammar n) line e = cc
grammar_fault Read line e = absurd cc
grammar_fault NoMemory line e = absurd cc

pub read_fault : (fault : LineFault) → of_line_fault fault ≡ status.ReadFault → fault ≡ Read
read_fault (Grammar n) e = absurd cc
read_fault Read e = refl
read_fault NoMemory e = absurd cc

ends_front : (fault : Unsent) (lines : List ReportLine) (old new : Option Told) → SendsUpTo Adds report_text fault lines old new → Ends Adds report_text (of_unsent fault) lines old new
ends_front unsent.Lost lines old new h = h
ends_front unsent.NoMemory lines old new h = h

-- one more line was taken
remains_next : (lines : List Line) (number number' : ℕ) (line : Line) (script octets rest : List ℕ) → Remains lines number script octets → ReadsLine (line_says Trial) number number' (Ok (Some line)) octets rest → Remains (lines ++ line ∷ []) number' script rest
remains_next lines number number' line script octets rest r next =
    let h = spelled_gives (line_says Trial) (lines_of octets) number number' line (lines_of rest) next in
    record {
      spelled = r.spelled ∙ (ap (λ l. lines ++ l) h.spelled ∙ sym (append_assoc lines (line ∷ []) (spelled_in (line_says Trial) number' (lines_of rest))));
      refused = r.refused ∙ h.refused;
      count = omega (arith, r.count, h.count);
    }

-- a fault while the moves of a line go out
pub ends_at_event : (settings : Settings) (text come come' : Option (List ℕ)) (old new new' : Option Told) (number number' : ℕ) (ended : Bool) (watched : WatchState) (line : Line) (fault : Unsent) → Progress settings text come old new number ended watched → WhereTold come come' (ReadsLine (line_says Trial) number number' (Ok (Some line))) → ((later : List Incident) → HasSeen (first_point settings) later watched → SendsTransitions {A = Unit {0}} Adds (Err fault) (first_point settings) later (looks_after line.moment line.input (first_point settings) later) new new') → IfSome (still text come') (λ t. Ends Adds report_text (of_unsent fault) (report_over settings (lines_of t)) old new')
ends_at_event settings text come None old new new' number number' ended watched line fault p read sends = tt
ends_at_event settings None come (Some rest) old new new' number number' ended watched line fault p read sends = tt
ends_at_event settings (Some t) None (Some rest) old new new' number number' ended watched line fault p read sends = absurd read
ends_at_event settings (Some t) (Some octets) (Some rest) old new new' number number' ended watched line fault p read sends =
    let first = first_point settings in
    let event = sends p.later p.seen in
    let before = transitions_of first p.later in
    let points = looks_over-next first [] p.later p.lines line p.points in
    let next = remains_next p.lines number number' line t octets rest p.remains read in
    let front = report_front settings (p.lines ++ line ∷ []) number' t rest (looks_after line.moment line.input first p.later) points next in
    let all = front.1 ∙ ap (λ l. l ++ front.0) event.1 in
    ends_front fault (report_over settings (lines_of t)) old new'
    (subst (λ lines. SendsUpTo Adds report_text fault lines old new') (sym all)
    (front_more Adds report_text fault old new' (before ++ event.0) front.0 (front_then Adds adds report_text fault old new new' before event.0 p.out event.2)))

-- one more line
pub goes_on : (settings : Settings) (text come come' : Option (List ℕ)) (old new new' : Option Told) (number number' : ℕ) (ended ended' : Bool) (watched watched' : WatchState) (line : Line) → Progress settings text come old new number ended watched → WhereTold come come' (ReadsLine (line_says Trial) number number' (Ok (Some line))) → (ended' ≡ false → ended ≡ false) → (ended' ≡ false → WhereTold come come' (TakesLines number number')) → ((later : List Incident) → HasSeen (first_point settings) later watched → HasSeen (first_point settings) (looks_after line.moment line.input (first_point settings) later) watched') → ((later : List Incident) → HasSeen (first_point settings) later watched → SendsTransitions {A = Unit {0}} Adds (Ok tt) (first_point settings) later (looks_after line.moment line.input (first_point settings) later) new new') → Progress settings text come' old new' number' ended' watched'
goes_on settings text come come' old new new' number number' ended ended' watched watched' line p read stays taken seen sends =
    let first = first_point settings in
    let event = sends p.later p.seen in
    let before = transitions_of first p.later in
    record {
      lines = p.lines ++ line ∷ [];
      later = looks_after line.moment line.input first p.later;
      points = looks_over-next first [] p.later p.lines line p.points;
      seen = seen p.later p.seen;
      out = subst (λ lines. Adds old new' (sent report_text lines)) (sym event.1) (sent_then Adds adds report_text old new new' before event.0 p.out event.2);
      remains = where_then text come come' (Remains p.lines number) (ReadsLine (line_says Trial) number number' (Ok (Some line))) (Remains (p.lines ++ line ∷ []) number')
          (λ script octets rest r q. remains_next p.lines number number' line script octets rest r q) p.remains read;
      whole = λ e. where_then text come come' (TakesLines 0 number) (TakesLines number number') (TakesLines 0 number')
          (λ script octets rest first_lines more. takes_then 0 number number' script octets rest first_lines more) (p.whole (stays e)) (taken e);
    }

-- behind the last line, the end is all that is left to report
report_end : (settings : Settings) (octets script : List ℕ) (number number' : ℕ) (lines : List Line) (later : List Incident) → later ≡ looks_over (first_point settings) [] lines → Remains lines number script octets → next_in (line_says Trial) number (lines_of octets) ≡ AtEnd number' → report_over settings (lines_of script) ≡ transitions_of (first_point settings) later ++ TrialEnd number' ∷ []
report_end settings octets script number number' lines later points r next =
    let h = spells_none (line_says Trial) (lines_of octets) number number' next in
    let moves = transitions_of (first_point settings) later in
    report_all settings lines number script octets later points r h.spelled
    ∙ (ap (λ o. moves ++ end_by o (number + length (lines_of octets))) h.refused ∙ ap (λ n. moves ++ TrialEnd n ∷ []) h.count)

-- the script's end
pub ends : (settings : Settings) (text come come' : Option (List ℕ)) (old new new' : Option Told) (number number' : ℕ) (ended : Bool) (watched : WatchState) → Progress settings text come old new number ended watched → WhereTold come come' (ReadsLine (line_says Trial) number number' (Ok None)) → Adds new new' (sent report_text (TrialEnd number' ∷ [])) → IfSome (still text come') (λ t. Ends Adds report_text status.Done (report_over settings (lines_of t)) old new')
ends settings text come None old new new' number number' ended watched p read last = tt
ends settings None come (Some rest) old new new' number number' ended watched p read last = tt
ends settings (Some t) None (Some rest) old new new' number number' ended watched p read last = absurd read
ends settings (Some t) (Some octets) (Some rest) old new new' number number' ended watched p read last =
    let all = report_end settings octets t number number' p.lines p.later p.points p.remains read.0 in
    subst (λ lines. Adds old new' (sent report_text lines)) (sym all) (sent_then Adds adds report_text old new new' (transitions_of (first_point settings) p.later) (TrialEnd number' ∷ []) p.out last)

-- at its end, every line of the script is in the grammar
pub accepts : (settings : Settings) (text come come' : Option (List ℕ)) (old new : Option Told) (number number' : ℕ) (ended : Bool) (watched : WatchState) → Progress settings text come old new number ended watched → WhereTold come come' (ReadsLine (line_says Trial) number number' (Ok None)) → IfSome (still text come') (λ t. refused_line (line_says Trial) t ≡ None)
accepts settings text come None old new number number' ended watched p read = tt
accepts settings None come (Some rest) old new number number' ended watched p read = tt
accepts settings (Some t) None (Some rest) old new number number' ended watched p read = absurd read
accepts settings (Some t) (Some octets) (Some rest) old new number number' ended watched p read =
    p.remains.refused ∙ (spells_none (line_says Trial) (lines_of octets) number number' read.0).refused

-- a fault while the last line goes out
pub ends_at_end : (settings : Settings) (text come come' : Option (List ℕ)) (old new new' : Option Told) (number number' : ℕ) (ended : Bool) (watched : WatchState) (fault : Unsent) → Progress settings text come old new number ended watched → WhereTold come come' (ReadsLine (line_says Trial) number number' (Ok None)) → SendsUpTo Adds report_text fault (TrialEnd number' ∷ []) new new' → IfSome (still text come') (λ t. Ends Adds report_text (of_unsent fault) (report_over settings (lines_of t)) old new')
ends_at_end settings text come None old new new' number number' ended watched fault p read last = tt
ends_at_end settings None come (Some rest) old new new' number number' ended watched fault p read last = tt
ends_at_end settings (Some t) None (Some rest) old new new' number number' ended watched fault p read last = absurd read
ends_at_end settings (Some t) (Some octets) (Some rest) old new new' number number' ended watched fault p read last =
    let all = report_end settings octets t number number' p.lines p.later p.points p.remains read.0 in
    ends_front fault (report_over settings (lines_of t)) old new'
    (subst (λ lines. SendsUpTo Adds report_text fault lines old new') (sym all) (front_then Adds adds report_text fault old new new' (transitions_of (first_point settings) p.later) (TrialEnd number' ∷ []) p.out last))

-- the source failed: the lines that were taken are those of the whole lines that were read
stops_where : (settings : Settings) (t octets rest pending : List ℕ) (old new : Option Told) (number number' : ℕ) (lines : List Line) (later : List Incident) → later ≡ looks_over (first_point settings) [] lines → Adds old new (sent report_text (transitions_of (first_point settings) later)) → Remains lines number t octets → next_in (line_says Trial) number' (lines_of (pending ++ rest)) ≡ next_in (line_says Trial) number (lines_of octets) → TakesLines 0 number' t (pending ++ rest) → position is_line_feed pending ≡ None → StopsReading Adds report_text (front_transitions settings) (line_says Trial) t rest old new
stops_where settings t octets rest pending old new number number' lines later points out r next taken no_feed =
    let h = spells_same (line_says Trial) number' number (lines_of (pending ++ rest)) (lines_of octets) next in
    let parts : lines_of t ≡ lines_of taken.taken ++ lines_of (pending ++ rest) = ap lines_of taken.front ∙ lines_of-whole taken.taken (pending ++ rest) taken.whole in
    let spelled = ap (spelled_in (line_says Trial) 0) (sym parts) ∙ (r.spelled ∙ ap (λ l. lines ++ l) (sym h.spelled)) in
    let refused = ap (refused_in (line_says Trial) 0) (sym parts) ∙ (r.refused ∙ sym h.refused) in
    let count : length (lines_of taken.taken) ≡ number' = omega (arith, taken.count) in
    let accepted = front_accepted (line_says Trial) (lines_of taken.taken) (lines_of (pending ++ rest)) number' refused count in
    let same = front_lines (line_says Trial) (lines_of taken.taken) (lines_of (pending ++ rest)) lines number' spelled refused count in
    let moves = ap (transitions_of (first_point settings)) (points ∙ ap (looks_over (first_point settings) []) same) in
    record {
      whole = taken.taken;
      begun = pending;
      read = taken.front ∙ sym (append_assoc taken.taken pending rest);
      whole_lines = taken.whole;
      accepted = accepted;
      no_line_feed = no_feed;
      emitted = subst (λ lines. Adds old new (sent report_text lines)) moves out;
    }

pub stops_reading : (settings : Settings) (text come left : Option (List ℕ)) (pending : List ℕ) (old new : Option Told) (number number' : ℕ) (ended ended' : Bool) (watched : WatchState) → Progress settings text come old new number ended watched → WhereTold come (prepend_known pending left) (ReadsLine (line_says Trial) number number' (Err Read)) → (ended' ≡ false → ended ≡ false) → (ended' ≡ false → WhereTold come (prepend_known pending left) (TakesLines number number')) → (ended' ≡ false) × (position is_line_feed pending ≡ None) → WhereTold text left (λ t rest. StopsReading Adds report_text (front_transitions settings) (line_says Trial) t rest old new)
stops_reading settings text come None pending old new number number' ended ended' watched p read stays taken waits = tt
stops_reading settings None None (Some rest) pending old new number number' ended ended' watched p read stays taken waits = absurd read
stops_reading settings None (Some octets) (Some rest) pending old new number number' ended ended' watched p read stays taken waits = absurd p.remains
stops_reading settings (Some t) None (Some rest) pending old new number number' ended ended' watched p read stays taken waits = absurd read
stops_reading settings (Some t) (Some octets) (Some rest) pending old new number number' ended ended' watched p read stays taken waits =
    stops_where settings t octets rest pending old new number number' p.lines p.later p.points p.out p.remains read
    (takes_then 0 number number' t octets (pending ++ rest) (p.whole (stays waits.0)) (taken waits.0)) waits.1
