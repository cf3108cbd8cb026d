-- The events of a report are numbered without a gap: by induction over the lines of the script.
use Rattle.std.proofs.Common.{◌≡◌, inl, inr, ℕ, zero, suc, ◌+◌, Option, Some, None, Result, Ok, Err, List, [], ◌∷◌, ◌++◌, length, map, arith, refl, sym, ap, ◌∙◌, subst, append-nil, append_assoc, take, drop, take-append-drop}
use Rattle.std.proofs.Math.Seq.{take-append_seam}
use Rattle.std.proofs.lemmas.Grind.{flat_map-append}
use Rattle.std.proofs.lemmas.List.Elements.{filter_map-append}
use Rattle.bac_values.specs.declared.note.Send.{Send}
use Rattle.bac_values.specs.declared.report.ReportLine.{ReportLine}
use Rattle.ground_io.specs.Trace.{Told}
use Rattle.script_lines.specs.declared.line.Line.{Line}
use Rattle.alarm_core.specs.declared.event.Event.{Event}
use Rattle.alarm_core.specs.declared.site.Site.{Site}
use Rattle.alarm_core.specs.History.{StateTransition}
use Rattle.alarm_core.specs.CoreSteps.{next_transitions}
use Rattle.alarm_core.specs.State.{CoreState}
use Rattle.service_desk.specs.Answers.{Answer, Entered, Full, Refused, Replied, Unchanged, Ignored, dues_of, state_behind}
use Rattle.script_lines.specs.declared.line.Grammar.TheVariants.{Session as Sessions}
use Rattle.script_lines.specs.Line.{line_says}
use Rattle.script_lines.specs.Script.{lines_of}
use Rattle.site_config.specs.declared.fault.SiteFault.{SiteFault}
use Rattle.site_config.specs.Sites.{site_of}
use Rattle.state_codec.specs.Emission.{Emits}
use Rattle.alarm_server.specs.declared.command.Command.{Command}
use Rattle.alarm_server.specs.declared.command.Command.TheVariants.{Trial, Session, Workload, Ship, Standby}
use Rattle.alarm_server.specs.declared.status.Status.{Status}
use Rattle.alarm_server.specs.declared.status.Status.TheVariants as status
use Rattle.alarm_server.specs.Emission.{Ends, LosesNext, SendsFront, sent}
use Rattle.alarm_server.specs.Numbering.{FollowOn, AreNumbered, GoesNumbered, NumbersOnFile, NumbersOnSite, event_told, events_told, lines_in}
use Rattle.alarm_server.specs.Openings.{OpensOnFile, OpensOnSite}
use Rattle.alarm_server.specs.Promises.{promise_of}
use Rattle.alarm_server.specs.Pieces.{answer_for, change_line, piece_by, piece_text, send_line, session_end}
use Rattle.alarm_server.specs.Sessions.{pieces_over, session_over, state_over, state_with}
use Rattle.alarm_server.specs.Script.{refused_in, spelled_in}

-- Numbers that follow on.

follow_none : (before : ℕ) → FollowOn before []
follow_none before place short = absurd (omega arith)

follow_next : (before number : ℕ) (numbers : List ℕ) → number ≡ before + 1 → FollowOn (before + 1) numbers → FollowOn before (number ∷ numbers)
follow_next before number numbers first later zero short = first
follow_next before number numbers first later (suc place) short = let it = later place (omega arith) in omega arith

first_follows : (before number : ℕ) (numbers : List ℕ) → FollowOn before (number ∷ numbers) → number ≡ before + 1
first_follows before number numbers follow = follow 0 (omega arith)

later_follow : (before number : ℕ) (numbers : List ℕ) → FollowOn before (number ∷ numbers) → FollowOn (before + 1) numbers
later_follow before number numbers follow place short = let it = follow (suc place) (omega arith) in omega arith

front_follows : (before : ℕ) (front back : List ℕ) → FollowOn before (front ++ back) → FollowOn before front
front_follows before [] back follow = follow_none before
front_follows before (number ∷ front) back follow =
    follow_next before number front (first_follows before number (front ++ back) follow) (front_follows (before + 1) front back (later_follow before number (front ++ back) follow))

-- What the lines of a piece tell of.

changes_tell_none : (number : ℕ) (changes : List StateTransition) → events_told (map (change_line number) changes) ≡ []
changes_tell_none number [] = refl
changes_tell_none number (change ∷ changes) = changes_tell_none number changes

sends_tell_none : (number : ℕ) (sends : List Send) → events_told (map (send_line number) sends) ≡ []
sends_tell_none number [] = refl
sends_tell_none number (one ∷ sends) = sends_tell_none number sends

told-append : (xs ys : List ReportLine) → events_told (xs ++ ys) ≡ events_told xs ++ events_told ys
told-append xs ys = filter_map-append event_told xs ys

entered_tells : (number : ℕ) (state : CoreState) (event : Event) (reply : Option Send) → events_told (piece_by number state (Entered event reply)) ≡ (state.events + 1) ∷ []
entered_tells number state event reply =
    let changes = map (change_line number) (next_transitions event state) in
    let sends = map (send_line number) (dues_of state (Entered event reply)) in
    ap (λ ns. (state.events + 1) ∷ ns)
    (told-append changes sends ∙ (ap (λ ns. ns ++ events_told sends) (changes_tell_none number (next_transitions event state)) ∙ sends_tell_none number (dues_of state (Entered event reply))))

-- A piece, and what those behind it tell of, at the state that its answer leaves.
piece_follows : (state : CoreState) (number : ℕ) (answer : Answer) (numbers : List ℕ) → FollowOn (state_behind state answer).events numbers
    → FollowOn state.events (events_told (piece_by number state answer) ++ numbers)
piece_follows state number (Entered event reply) numbers follow =
    subst (λ ns. FollowOn state.events (ns ++ numbers)) (sym (entered_tells number state event reply)) (follow_next state.events (state.events + 1) numbers refl follow)
piece_follows state number (Full would limit reply) numbers follow =
    subst (λ ns. FollowOn state.events (ns ++ numbers)) (sym (sends_tell_none number (dues_of state (Full would limit reply)))) follow
piece_follows state number (Refused why) numbers follow = subst (λ ns. FollowOn state.events (ns ++ numbers)) (sym (sends_tell_none number (dues_of state (Refused why)))) follow
piece_follows state number (Replied send) numbers follow = subst (λ ns. FollowOn state.events (ns ++ numbers)) (sym (sends_tell_none number (dues_of state (Replied send)))) follow
piece_follows state number Unchanged numbers follow = subst (λ ns. FollowOn state.events (ns ++ numbers)) (sym (sends_tell_none number (dues_of state Unchanged))) follow
piece_follows state number Ignored numbers follow = subst (λ ns. FollowOn state.events (ns ++ numbers)) (sym (sends_tell_none number (dues_of state Ignored))) follow

pieces_follow : (state : CoreState) (lines : List Line) → FollowOn state.events (events_told (lines_in (pieces_over state lines)))
unfolding pieces_over
pieces_follow state [] = follow_none state.events
pieces_follow state (line ∷ lines) =
    let answer = answer_for state line in
    let piece = piece_by line.number state answer in
    subst (FollowOn state.events) (sym (told-append piece (lines_in (pieces_over (state_with state line) lines))))
    (piece_follows state line.number answer (events_told (lines_in (pieces_over (state_with state line) lines))) (pieces_follow (state_with state line) lines))

-- The whole report, and a front of it.

end_tells_none : (refused : Option ℕ) (lines : ℕ) (state : CoreState) → events_told (lines_in (session_end refused lines state)) ≡ []
end_tells_none None lines state = refl
end_tells_none (Some refused) lines state = refl

in-append : (xs ys : List (List ReportLine)) → events_told (lines_in (xs ++ ys)) ≡ events_told (lines_in xs) ++ events_told (lines_in ys)
in-append xs ys = ap events_told (flat_map-append (λ (p : List ReportLine). p) xs ys) ∙ told-append (lines_in xs) (lines_in ys)

-- what stands behind the first piece of a report
abbrev behind_open : CoreState → List ℕ → List (List ReportLine)
behind_open state script =
    pieces_over state (spelled_in (line_says Sessions) 0 (lines_of script))
    ++ session_end (refused_in (line_says Sessions) 0 (lines_of script)) (length (lines_of script)) (state_over state (spelled_in (line_says Sessions) 0 (lines_of script)))

behind_follows : (state : CoreState) (script : List ℕ) → FollowOn state.events (events_told (lines_in (behind_open state script)))
behind_follows state script =
    let lines = spelled_in (line_says Sessions) 0 (lines_of script) in
    let pieces = pieces_over state lines in
    let refused = refused_in (line_says Sessions) 0 (lines_of script) in
    let last = state_over state lines in
    subst (FollowOn state.events)
    (sym (in-append pieces (session_end refused (length (lines_of script)) last) ∙ (ap (λ ns. events_told (lines_in pieces) ++ ns) (end_tells_none refused (length (lines_of script)) last) ∙ append-nil (events_told (lines_in pieces)))))
    (pieces_follow state lines)

front_follows_in : (before : ℕ) (front back : List (List ReportLine)) → FollowOn before (events_told (lines_in (front ++ back))) → FollowOn before (events_told (lines_in front))
front_follows_in before front back follow = front_follows before (events_told (lines_in front)) (events_told (lines_in back)) (subst (FollowOn before) (in-append front back) follow)

-- the report of a session that begins in a state
abbrev report : CoreState → List ℕ → List (List ReportLine)
report state script = session_over state (lines_of script)

firsts_numbered : (state : CoreState) (script : List ℕ) (count : ℕ) → AreNumbered (lines_in (take count (report state script)))
firsts_numbered state script zero = tt
firsts_numbered state script (suc count) =
    let behind = behind_open state script in
    front_follows_in state.events (take count behind) (drop count behind)
    (subst (λ (ps : List (List ReportLine)). FollowOn state.events (events_told (lines_in ps))) (sym (take-append-drop count behind)) (behind_follows state script))

-- a front of a report is numbered without a gap
front_numbered : (state : CoreState) (script : List ℕ) (front back : List (List ReportLine)) → report state script ≡ front ++ back → AreNumbered (lines_in front)
front_numbered state script front back parts =
    subst (λ (ps : List (List ReportLine)). AreNumbered (lines_in ps)) (ap (take (length front)) parts ∙ take-append_seam front back) (firsts_numbered state script (length front))

whole_numbered : (state : CoreState) (script : List ℕ) → AreNumbered (lines_in (report state script))
whole_numbered state script = front_numbered state script (report state script) [] (sym (append-nil (report state script)))

-- What went out, by how the session ended.

none_out : (old new : Option Told) → Emits old new [] → GoesNumbered Emits old new
none_out old new quiet = ([], tt, inl quiet)

whole_out : (state : CoreState) (script : List ℕ) (old new : Option Told) → Emits old new (sent piece_text (report state script)) → GoesNumbered Emits old new
whole_out state script old new goes = (report state script, whole_numbered state script, inl goes)

front_out : (state : CoreState) (script : List ℕ) (old new : Option Told) → SendsFront Emits piece_text (report state script) old new → GoesNumbered Emits old new
front_out state script old new (front, back, parts, goes) = (front, front_numbered state script front back parts, inl goes)

lost_out : (state : CoreState) (script : List ℕ) (old new : Option Told) → LosesNext Emits piece_text (report state script) old new → GoesNumbered Emits old new
lost_out state script old new (front, next, back, parts, goes) =
    let pieces = front ++ next ∷ [] in
    (pieces, front_numbered state script pieces back (parts ∙ sym (append_assoc front (next ∷ []) back)), inr (front, next, refl, goes))

out_numbered : (ended : Status) (state : CoreState) (script : List ℕ) (old new : Option Told) → Ends Emits piece_text ended (report state script) old new → GoesNumbered Emits old new
out_numbered status.Done state script old new ends = whole_out state script old new ends
out_numbered status.Usage state script old new ends = none_out old new ends
out_numbered (status.SiteRefused fault) state script old new ends = none_out old new ends
out_numbered (status.ScriptRefused line) state script old new ends = whole_out state script old new ends
out_numbered status.ReadFault state script old new ends = front_out state script old new ends
out_numbered status.EmitFault state script old new ends = lost_out state script old new ends
out_numbered status.DiskFault state script old new ends = front_out state script old new ends
out_numbered (status.JournalRefused fault) state script old new ends = none_out old new ends
out_numbered status.LinkFault state script old new ends = none_out old new ends
out_numbered status.NoMemory state script old new ends = front_out state script old new ends

on_site : (FileFailed : Type 0) (ended : Status) (text : List ℕ) (found : Result Site SiteFault) (script : List ℕ) (old new : Option Told) → OpensOnSite FileFailed text found ended script old new → NumbersOnSite Emits found old new
on_site FileFailed ended text (Ok site) script old new (inl ends) = none_out old new ends.quiet
on_site FileFailed ended text (Ok site) script old new (inr (state, opened, ends)) = out_numbered ended state script old new ends
on_site FileFailed ended text (Err fault) script old new quiet = quiet

on_file : (FileFailed : Type 0) (ended : Status) (site script : Option (List ℕ)) (old new : Option Told) → OpensOnFile FileFailed site ended script old new → NumbersOnFile Emits site script old new
on_file FileFailed ended None script old new opens = tt
on_file FileFailed ended (Some octets) None old new opens = tt
on_file FileFailed ended (Some octets) (Some text) old new opens = on_site FileFailed ended octets (site_of octets) text old new opens

-- whatever the words ask for
pub numbers_as : (FileFailed : Type 0) (command : Option Command) (ended : Status) (site script : Option (List ℕ)) (old new : Option Told) → (promise_of command).opens FileFailed ended site script old new → (promise_of command).numbers site script old new
numbers_as FileFailed (Some Session) ended site script old new opens = on_file FileFailed ended site script old new opens
numbers_as FileFailed (Some (Trial settings)) ended site script old new opens = tt
numbers_as FileFailed (Some (Workload seed count)) ended site script old new opens = tt
numbers_as FileFailed (Some (Ship from)) ended site script old new opens = tt
numbers_as FileFailed (Some Standby) ended site script old new opens = tt
numbers_as FileFailed None ended site script old new opens = tt
