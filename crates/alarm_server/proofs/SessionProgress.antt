-- How far a session has come.
use Rattle.std.proofs.Common.{◌≡◌, ℕ, ◌+◌, Option, Some, None, Ok, Err, Bool, false, List, [], ◌∷◌, ◌++◌, IfSome, length, refl, ap, ◌∙◌, sym, subst, arith, append_assoc, inl}
use Rattle.std.specs.List.{position}
use Rattle.std.specs.Io.KnownBytes.{prepend_known}
use Rattle.std.proofs.lemmas.List.{append-nil}
use Rattle.bac_values.specs.declared.report.ReportLine.{ReportLine}
use Rattle.ground_io.specs.Trace.{Told, WhereTold, still}
use Rattle.script_lines.specs.declared.line.Grammar.TheVariants.{Session}
use Rattle.script_lines.specs.Line.{line_says}
use Rattle.script_lines.specs.declared.line.Line.{Line}
use Rattle.script_lines.specs.declared.lines.LineFault.{LineFault}
use Rattle.script_lines.specs.declared.lines.LineFault.TheVariants.{Grammar, Read, NoMemory}
use Rattle.script_lines.specs.Script.{AtEnd, is_line_feed, next_in, lines_of, ReadsLine, TakesLines}
use Rattle.alarm_core.specs.State.{CoreState}
use Rattle.alarm_server.specs.declared.emission.Unsent.{Unsent}
use Rattle.alarm_server.specs.declared.emission.Unsent.TheVariants as unsent
use Rattle.alarm_server.specs.declared.status.Status.TheVariants as status
use Rattle.alarm_server.specs.Emission.{Going, sent, SendsUpTo, Ends}
use Rattle.alarm_server.specs.Status.{of_line_fault, of_unsent}
use Rattle.alarm_server.specs.Stopping.{StopsReading}
use Rattle.alarm_server.specs.declared.tally.Tally.{Tally}
use Rattle.alarm_server.specs.Tallies.{no_tally, tally_of, tally_with}
use Rattle.alarm_server.specs.Script.{spelled_in, refused_in, refused_line}
use Rattle.alarm_server.specs.Sessions.{pieces_over, session_over, state_front, state_over, state_with}
use Rattle.alarm_server.specs.Pieces.{end_piece, open_piece, piece_of, piece_text, session_end}
use Rattle.alarm_server.proofs.Sending.{Composes, sent_then, front_then, front_more}
use Rattle.alarm_server.proofs.Spelled.{spelled_gives, spells_none, spells_refused, spells_same}
use Rattle.alarm_server.proofs.Fronts.{front_accepted, front_lines, lines_of-whole, takes_then}
use Rattle.alarm_server.proofs.Played.{pieces-append, pieces-next, pieces-none, states-append, states-next, states-none}
use Rattle.alarm_server.proofs.Tallied.{tally-end, tally-next, tally-open}

-- these lines and those of the octets to come are those of the script
pub record Remains (lines : List Line) (number : ℕ) (script octets : List ℕ) : Type 0 where
  pub spelled : spelled_in (line_says Session) 0 (lines_of script) ≡ lines ++ spelled_in (line_says Session) number (lines_of octets)
  pub refused : refused_in (line_says Session) 0 (lines_of script) ≡ refused_in (line_says Session) number (lines_of octets)
  pub count : length (lines_of script) ≡ number + length (lines_of octets)

-- the pieces of a session so far
abbrev pub front : CoreState → List Line → List (List ReportLine)
front start lines = open_piece start ∷ pieces_over start lines

-- these lines were taken, the core is in their state, and their pieces went out and were counted
pub record Progress (Goes : Going) (start : CoreState) (text come : Option (List ℕ)) (old new : Option Told) (number : ℕ) (ended : Bool) (state : CoreState) (tally : Tally) : Type 0 where
  pub lines : List Line
  pub reached : state ≡ state_over start lines
  pub out : Goes old new (sent piece_text (front start lines))
  pub remains : WhereTold text come (Remains lines number)
  pub whole : ended ≡ false → WhereTold text come (TakesLines 0 number)
  pub counted : tally ≡ tally_of (front start lines)

-- what is told at two steps is told over both
pub where_then : {A : Type 0} (a b c : Option A) (P Q R : A → A → Type 0) → ((x y z : A) → P x y → Q y z → R x z) → WhereTold a b P → WhereTold b c Q → WhereTold a c R
where_then a b None P Q R f first second = tt
where_then a None (Some z) P Q R f first second = absurd second
where_then None (Some y) (Some z) P Q R f first second = absurd first
where_then (Some x) (Some y) (Some z) P Q R f first second = f x y z first second

pub remains_all : (text : Option (List ℕ)) → WhereTold text (prepend_known [] text) (Remains [] 0)
remains_all None = tt
remains_all (Some script) = record { spelled = refl; refused = refl; count = omega arith }

pub takes_none : (text : Option (List ℕ)) → WhereTold text (prepend_known [] text) (TakesLines 0 0)
takes_none None = tt
takes_none (Some script) = record { taken = []; whole = inl refl; front = refl; count = omega arith }

module _ (Goes : Going) (composes : Composes Goes) where
  -- behind the first piece
  unfoldable pub begins : (start : CoreState) (text : Option (List ℕ)) (old new : Option Told) (tally : Tally) → tally ≡ no_tally → Goes old new (sent piece_text (open_piece start ∷ [])) → Progress Goes start text (prepend_known [] text) old new 0 false start tally
  begins start text old new tally none opened = record {
    lines = [];
    reached = sym (states-none start);
    out = subst (λ ps. Goes old new (sent piece_text (open_piece start ∷ ps))) (sym (pieces-none start)) opened;
    remains = remains_all text;
    whole = λ h. takes_none text;
    counted = none ∙ (sym (tally-open start) ∙ ap (λ ps. tally_of (open_piece start ∷ ps)) (sym (pieces-none start)));
  }

  pub begins-lines : (start : CoreState) (text : Option (List ℕ)) (old new : Option Told) (tally : Tally) (none : tally ≡ no_tally) (opened : Goes old new (sent piece_text (open_piece start ∷ []))) → (begins start text old new tally none opened).lines ≡ []
  unfolding begins
  begins-lines start text old new tally none opened = refl

  -- what is left to report behind these lines
  abbrev rest_of : CoreState → List Line → ℕ → List ℕ → List (List ReportLine)
  rest_of start lines number octets =
      let behind = spelled_in (line_says Session) number (lines_of octets) in
      pieces_over (state_over start lines) behind ++ session_end (refused_in (line_says Session) number (lines_of octets)) (number + length (lines_of octets)) (state_over (state_over start lines) behind)

  after : (start : CoreState) (lines : List Line) (number : ℕ) (script octets : List ℕ) → Remains lines number script octets → session_over start (lines_of script) ≡ front start lines ++ rest_of start lines number octets
  after start lines number script octets r =
      let behind = spelled_in (line_says Session) number (lines_of octets) in
      let end = λ (refused : Option ℕ) (count : ℕ) (state : CoreState). session_end refused count state in
      let whole = λ (ls : List Line) (refused : Option ℕ) (count : ℕ). (open_piece start ∷ pieces_over start ls) ++ end refused count (state_over start ls) in
      ap (λ ls. whole ls (refused_in (line_says Session) 0 (lines_of script)) (length (lines_of script))) r.spelled
      ∙ (ap (λ o. whole (lines ++ behind) o (length (lines_of script))) r.refused
      ∙ (ap (λ n. whole (lines ++ behind) (refused_in (line_says Session) number (lines_of octets)) n) r.count
      ∙ (ap (λ ps. (open_piece start ∷ ps) ++ end (refused_in (line_says Session) number (lines_of octets)) (number + length (lines_of octets)) (state_over start (lines ++ behind))) (pieces-append lines behind start)
      ∙ (ap (λ s. (open_piece start ∷ (pieces_over start lines ++ pieces_over (state_over start lines) behind)) ++ end (refused_in (line_says Session) number (lines_of octets)) (number + length (lines_of octets)) s) (states-append lines behind start)
      ∙ append_assoc (front start lines) (pieces_over (state_over start lines) behind) (end (refused_in (line_says Session) number (lines_of octets)) (number + length (lines_of octets)) (state_over (state_over start lines) behind))))))

  -- behind the last line nothing but the end is left
  report_all : (start : CoreState) (lines : List Line) (number : ℕ) (script octets : List ℕ) → Remains lines number script octets → spelled_in (line_says Session) number (lines_of octets) ≡ [] →
      session_over start (lines_of script) ≡ front start lines ++ session_end (refused_in (line_says Session) number (lines_of octets)) (number + length (lines_of octets)) (state_over start lines)
  report_all start lines number script octets r none =
      let reached = state_over start lines in
      let end = session_end (refused_in (line_says Session) number (lines_of octets)) (number + length (lines_of octets)) in
      after start lines number script octets r
      ∙ (ap (λ ls. front start lines ++ (pieces_over reached ls ++ end (state_over reached ls))) none
      ∙ (ap (λ ps. front start lines ++ (ps ++ end (state_over reached []))) (pieces-none reached)
      ∙ ap (λ s. front start lines ++ end s) (states-none reached)))

  -- nothing has gone out
  pub ends_at_once : (start : CoreState) (text : Option (List ℕ)) (told : Option Told) → IfSome text (λ t. Ends Goes piece_text status.NoMemory (session_over start (lines_of t)) told told)
  ends_at_once start None told = tt
  ends_at_once start (Some script) told = ([], session_over start (lines_of script), refl, composes.nothing told)

  pub ends_front : (fault : Unsent) (pieces : List (List ReportLine)) (old new : Option Told) → SendsUpTo Goes piece_text fault pieces old new → Ends Goes piece_text (of_unsent fault) pieces old new
  ends_front unsent.Lost pieces old new h = h
  ends_front unsent.NoMemory pieces old new h = h

  -- the first piece is in the way
  pub ends_at_first : (start : CoreState) (text : Option (List ℕ)) (old new : Option Told) (fault : Unsent) → SendsUpTo Goes piece_text fault (open_piece start ∷ []) old new →
      IfSome text (λ t. Ends Goes piece_text (of_unsent fault) (session_over start (lines_of t)) old new)
  ends_at_first start None old new fault sends = tt
  ends_at_first start (Some t) old new fault sends =
      let texts = lines_of t in
      let lines = spelled_in (line_says Session) 0 texts in
      ends_front fault (session_over start texts) old new
      (front_more Goes piece_text fault old new (open_piece start ∷ []) (pieces_over start lines ++ session_end (refused_in (line_says Session) 0 texts) (length texts) (state_over start lines)) sends)

  -- a fault while a line is read
  pub ends_at_line : (start : CoreState) (text come come' : Option (List ℕ)) (old new : Option Told) (number number' : ℕ) (ended : Bool) (state : CoreState) (tally : Tally) (fault : LineFault) → Progress Goes start text come old new number ended state tally → WhereTold come come' (ReadsLine (line_says Session) number number' (Err fault)) →
      IfSome (still text come') (λ t. Ends Goes piece_text (of_line_fault fault) (session_over start (lines_of t)) old new)
  ends_at_line start text come None old new number number' ended state tally fault p read = tt
  ends_at_line start None come (Some rest) old new number number' ended state tally fault p read = tt
  ends_at_line start (Some t) None (Some rest) old new number number' ended state tally fault p read = absurd read
  ends_at_line start (Some t) (Some octets) (Some rest) old new number number' ended state tally (Grammar line) p read =
      let h = spells_refused (line_says Session) (lines_of octets) number line read.0 in
      let all = report_all start p.lines number t octets p.remains h.spelled
      ∙ (ap (λ o. front start p.lines ++ session_end o (number + length (lines_of octets)) (state_over start p.lines)) h.refused ∙ append-nil (front start p.lines)) in
      subst (λ pieces. Goes old new (sent piece_text pieces)) (sym all) p.out
  ends_at_line start (Some t) (Some octets) (Some rest) old new number number' ended state tally Read p read =
      (front start p.lines, rest_of start p.lines number octets, after start p.lines number t octets p.remains, p.out)
  ends_at_line start (Some t) (Some octets) (Some rest) old new number number' ended state tally NoMemory p read =
      (front start p.lines, rest_of start p.lines number octets, after start p.lines number t octets p.remains, p.out)

  -- the line that is refused is the first outside the grammar
  pub refused_first : (start : CoreState) (text come come' : Option (List ℕ)) (old new : Option Told) (number number' : ℕ) (ended : Bool) (state : CoreState) (tally : Tally) (line : ℕ) → Progress Goes start text come old new number ended state tally → WhereTold come come' (ReadsLine (line_says Session) number number' (Err (Grammar line))) →
      IfSome (still text come') (λ t. refused_line (line_says Session) t ≡ Some line)
  refused_first start text come None old new number number' ended state tally line p read = tt
  refused_first start None come (Some rest) old new number number' ended state tally line p read = tt
  refused_first start (Some t) None (Some rest) old new number number' ended state tally line p read = absurd read
  refused_first start (Some t) (Some octets) (Some rest) old new number number' ended state tally line p read =
      p.remains.refused ∙ (spells_refused (line_says Session) (lines_of octets) number line read.0).refused

  -- one more line was taken
  pub remains_next : (lines : List Line) (number number' : ℕ) (line : Line) (script octets rest : List ℕ) → Remains lines number script octets → ReadsLine (line_says Session) number number' (Ok (Some line)) octets rest → Remains (lines ++ line ∷ []) number' script rest
  remains_next lines number number' line script octets rest r next =
      let h = spelled_gives (line_says Session) (lines_of octets) number number' line (lines_of rest) next in
      record {
        spelled = r.spelled ∙ (ap (λ l. lines ++ l) h.spelled ∙ sym (append_assoc lines (line ∷ []) (spelled_in (line_says Session) number' (lines_of rest))));
        refused = r.refused ∙ h.refused;
        count = omega (arith, r.count, h.count);
      }

  -- the pieces with one more
  pub front-next : (start : CoreState) (lines : List Line) (line : Line) (state : CoreState) → state ≡ state_over start lines → front start (lines ++ line ∷ []) ≡ front start lines ++ piece_of state line ∷ []
  front-next start lines line state reached =
      ap (λ ps. open_piece start ∷ ps) (pieces-next lines line start) ∙ ap (λ s. front start lines ++ piece_of s line ∷ []) (sym reached)

  -- a fault while the piece of a line goes out
  pub ends_at_piece : (start : CoreState) (text come come' : Option (List ℕ)) (old new new' : Option Told) (number number' : ℕ) (ended : Bool) (state : CoreState) (tally : Tally) (line : Line) (piece : List ReportLine) (fault : Unsent) → Progress Goes start text come old new number ended state tally → WhereTold come come' (ReadsLine (line_says Session) number number' (Ok (Some line))) →
      piece ≡ piece_of state line → SendsUpTo Goes piece_text fault (piece ∷ []) new new' → IfSome (still text come') (λ t. Ends Goes piece_text (of_unsent fault) (session_over start (lines_of t)) old new')
  ends_at_piece start text come None old new new' number number' ended state tally line piece fault p read same sends = tt
  ends_at_piece start None come (Some rest) old new new' number number' ended state tally line piece fault p read same sends = tt
  ends_at_piece start (Some t) None (Some rest) old new new' number number' ended state tally line piece fault p read same sends = absurd read
  ends_at_piece start (Some t) (Some octets) (Some rest) old new new' number number' ended state tally line piece fault p read same sends =
      let next = remains_next p.lines number number' line t octets rest p.remains read in
      let more = rest_of start (p.lines ++ line ∷ []) number' rest in
      let pieces = front-next start p.lines line state p.reached ∙ ap (λ x. front start p.lines ++ x ∷ []) (sym same) in
      let all = after start (p.lines ++ line ∷ []) number' t rest next ∙ ap (λ ps. ps ++ more) pieces in
      ends_front fault (session_over start (lines_of t)) old new'
      (subst (λ ps. SendsUpTo Goes piece_text fault ps old new') (sym all)
      (front_more Goes piece_text fault old new' (front start p.lines ++ piece ∷ []) more (front_then Goes composes piece_text fault old new new' (front start p.lines) (piece ∷ []) p.out sends)))

  -- one more line
  unfoldable pub goes_on : (start : CoreState) (text come come' : Option (List ℕ)) (old new new' : Option Told) (number number' : ℕ) (ended ended' : Bool) (state state' : CoreState) (tally tally' : Tally) (line : Line) (piece : List ReportLine) → Progress Goes start text come old new number ended state tally → WhereTold come come' (ReadsLine (line_says Session) number number' (Ok (Some line))) →
      (ended' ≡ false → ended ≡ false) → (ended' ≡ false → WhereTold come come' (TakesLines number number')) → state' ≡ state_with state line → piece ≡ piece_of state line → tally' ≡ tally_with piece tally → Goes new new' (sent piece_text (piece ∷ [])) → Progress Goes start text come' old new' number' ended' state' tally'
  goes_on start text come come' old new new' number number' ended ended' state state' tally tally' line piece p read stays taken moved same counts sends =
      let pieces = front-next start p.lines line state p.reached ∙ ap (λ x. front start p.lines ++ x ∷ []) (sym same) in
      record {
        lines = p.lines ++ line ∷ [];
        reached = moved ∙ (ap (λ s. state_with s line) p.reached ∙ sym (states-next p.lines line start));
        out = subst (λ ps. Goes old new' (sent piece_text ps)) (sym pieces) (sent_then Goes composes piece_text old new new' (front start p.lines) (piece ∷ []) p.out sends);
        remains = where_then text come come' (Remains p.lines number) (ReadsLine (line_says Session) number number' (Ok (Some line))) (Remains (p.lines ++ line ∷ []) number')
            (λ script octets rest r q. remains_next p.lines number number' line script octets rest r q) p.remains read;
        whole = λ e. where_then text come come' (TakesLines 0 number) (TakesLines number number') (TakesLines 0 number')
            (λ script octets rest first_lines more. takes_then 0 number number' script octets rest first_lines more) (p.whole (stays e)) (taken e);
        counted = counts ∙ (ap (tally_with piece) p.counted ∙ (sym (tally-next (front start p.lines) piece) ∙ ap tally_of (sym pieces)));
      }

  pub goes_on-lines : (start : CoreState) (text come come' : Option (List ℕ)) (old new new' : Option Told) (number number' : ℕ) (ended ended' : Bool) (state state' : CoreState) (tally tally' : Tally) (line : Line) (piece : List ReportLine) (p : Progress Goes start text come old new number ended state tally) (read : WhereTold come come' (ReadsLine (line_says Session) number number' (Ok (Some line)))) →
      (stays : ended' ≡ false → ended ≡ false) (taken : ended' ≡ false → WhereTold come come' (TakesLines number number')) (moved : state' ≡ state_with state line) (same : piece ≡ piece_of state line) (counts : tally' ≡ tally_with piece tally) (sends : Goes new new' (sent piece_text (piece ∷ []))) →
      (goes_on start text come come' old new new' number number' ended ended' state state' tally tally' line piece p read stays taken moved same counts sends).lines ≡ p.lines ++ line ∷ []
  unfolding goes_on
  goes_on-lines start text come come' old new new' number number' ended ended' state state' tally tally' line piece p read stays taken moved same counts sends = refl

  -- behind the last line, the end is all that is left to report
  report_end : (start : CoreState) (octets script : List ℕ) (number number' : ℕ) (lines : List Line) (state : CoreState) → state ≡ state_over start lines → Remains lines number script octets → next_in (line_says Session) number (lines_of octets) ≡ AtEnd number' →
      session_over start (lines_of script) ≡ front start lines ++ end_piece number' state ∷ []
  report_end start octets script number number' lines state reached r next =
      let h = spells_none (line_says Session) (lines_of octets) number number' next in
      report_all start lines number script octets r h.spelled
      ∙ (ap (λ o. front start lines ++ session_end o (number + length (lines_of octets)) (state_over start lines)) h.refused
      ∙ (ap (λ n. front start lines ++ end_piece n (state_over start lines) ∷ []) h.count
      ∙ ap (λ s. front start lines ++ end_piece number' s ∷ []) (sym reached)))

  -- the script's end
  pub ends : (start : CoreState) (text come come' : Option (List ℕ)) (old new new' : Option Told) (number number' : ℕ) (ended : Bool) (state : CoreState) (tally : Tally) (piece : List ReportLine) → Progress Goes start text come old new number ended state tally → WhereTold come come' (ReadsLine (line_says Session) number number' (Ok None)) →
      piece ≡ end_piece number' state → Goes new new' (sent piece_text (piece ∷ [])) → IfSome (still text come') (λ t. Ends Goes piece_text status.Done (session_over start (lines_of t)) old new')
  ends start text come None old new new' number number' ended state tally piece p read same last = tt
  ends start None come (Some rest) old new new' number number' ended state tally piece p read same last = tt
  ends start (Some t) None (Some rest) old new new' number number' ended state tally piece p read same last = absurd read
  ends start (Some t) (Some octets) (Some rest) old new new' number number' ended state tally piece p read same last =
      let all = report_end start octets t number number' p.lines state p.reached p.remains read.0 ∙ ap (λ x. front start p.lines ++ x ∷ []) (sym same) in
      subst (λ ps. Goes old new' (sent piece_text ps)) (sym all) (sent_then Goes composes piece_text old new new' (front start p.lines) (piece ∷ []) p.out last)

  -- at the script's end, the tally is that of the whole report
  pub tallies : (start : CoreState) (text come come' : Option (List ℕ)) (old new : Option Told) (number number' : ℕ) (ended : Bool) (state : CoreState) (tally : Tally) → Progress Goes start text come old new number ended state tally → WhereTold come come' (ReadsLine (line_says Session) number number' (Ok None)) →
      IfSome (still text come') (λ t. tally ≡ tally_of (session_over start (lines_of t)))
  tallies start text come None old new number number' ended state tally p read = tt
  tallies start None come (Some rest) old new number number' ended state tally p read = tt
  tallies start (Some t) None (Some rest) old new number number' ended state tally p read = absurd read
  tallies start (Some t) (Some octets) (Some rest) old new number number' ended state tally p read =
      p.counted
      ∙ (sym (tally-end (front start p.lines) number' state) ∙ ap tally_of (sym (report_end start octets t number number' p.lines state p.reached p.remains read.0)))

  -- and the state is that of all its lines
  pub reaches : (start : CoreState) (text come come' : Option (List ℕ)) (old new : Option Told) (number number' : ℕ) (ended : Bool) (state : CoreState) (tally : Tally) → Progress Goes start text come old new number ended state tally → WhereTold come come' (ReadsLine (line_says Session) number number' (Ok None)) →
      IfSome (still text come') (λ t. state ≡ state_over start (spelled_in (line_says Session) 0 (lines_of t)))
  reaches start text come None old new number number' ended state tally p read = tt
  reaches start None come (Some rest) old new number number' ended state tally p read = tt
  reaches start (Some t) None (Some rest) old new number number' ended state tally p read = absurd read
  reaches start (Some t) (Some octets) (Some rest) old new number number' ended state tally p read =
      let none = (spells_none (line_says Session) (lines_of octets) number number' read.0).spelled in
      p.reached ∙ ap (state_over start) (sym (p.remains.spelled ∙ (ap (λ l. p.lines ++ l) none ∙ append-nil p.lines)))

  -- at its end, every line of the script is in the grammar
  pub accepts : (start : CoreState) (text come come' : Option (List ℕ)) (old new : Option Told) (number number' : ℕ) (ended : Bool) (state : CoreState) (tally : Tally) → Progress Goes start text come old new number ended state tally → WhereTold come come' (ReadsLine (line_says Session) number number' (Ok None)) → IfSome (still text come') (λ t. refused_line (line_says Session) t ≡ None)
  accepts start text come None old new number number' ended state tally p read = tt
  accepts start None come (Some rest) old new number number' ended state tally p read = tt
  accepts start (Some t) None (Some rest) old new number number' ended state tally p read = absurd read
  accepts start (Some t) (Some octets) (Some rest) old new number number' ended state tally p read =
      p.remains.refused ∙ (spells_none (line_says Session) (lines_of octets) number number' read.0).refused

  -- a fault while the last piece goes out
  pub ends_at_end : (start : CoreState) (text come come' : Option (List ℕ)) (old new new' : Option Told) (number number' : ℕ) (ended : Bool) (state : CoreState) (tally : Tally) (piece : List ReportLine) (fault : Unsent) → Progress Goes start text come old new number ended state tally → WhereTold come come' (ReadsLine (line_says Session) number number' (Ok None)) →
      piece ≡ end_piece number' state → SendsUpTo Goes piece_text fault (piece ∷ []) new new' → IfSome (still text come') (λ t. Ends Goes piece_text (of_unsent fault) (session_over start (lines_of t)) old new')
  ends_at_end start text come None old new new' number number' ended state tally piece fault p read same last = tt
  ends_at_end start None come (Some rest) old new new' number number' ended state tally piece fault p read same last = tt
  ends_at_end start (Some t) None (Some rest) old new new' number number' ended state tally piece fault p read same last = absurd read
  ends_at_end start (Some t) (Some octets) (Some rest) old new new' number number' ended state tally piece fault p read same last =
      let all = report_end start octets t number number' p.lines state p.reached p.remains read.0 ∙ ap (λ x. front start p.lines ++ x ∷ []) (sym same) in
      ends_front fault (session_over start (lines_of t)) old new'
      (subst (λ ps. SendsUpTo Goes piece_text fault ps old new') (sym all) (front_then Goes composes piece_text fault old new new' (front start p.lines) (piece ∷ []) p.out last))

  -- the source failed: the lines that were taken are those of the whole lines that were read
  stops_where : (start : CoreState) (t octets rest pending : List ℕ) (old new : Option Told) (number number' : ℕ) (lines : List Line) → Goes old new (sent piece_text (front start lines)) → Remains lines number t octets → next_in (line_says Session) number' (lines_of (pending ++ rest)) ≡ next_in (line_says Session) number (lines_of octets) → TakesLines 0 number' t (pending ++ rest) → position is_line_feed pending ≡ None →
      StopsReading Goes piece_text (state_front start) (line_says Session) t rest old new
  stops_where start t octets rest pending old new number number' lines out r next taken no_feed =
      let h = spells_same (line_says Session) number' number (lines_of (pending ++ rest)) (lines_of octets) next in
      let parts : lines_of t ≡ lines_of taken.taken ++ lines_of (pending ++ rest) = ap lines_of taken.front ∙ lines_of-whole taken.taken (pending ++ rest) taken.whole in
      let spelled = ap (spelled_in (line_says Session) 0) (sym parts) ∙ (r.spelled ∙ ap (λ l. lines ++ l) (sym h.spelled)) in
      let refused = ap (refused_in (line_says Session) 0) (sym parts) ∙ (r.refused ∙ sym h.refused) in
      let count : length (lines_of taken.taken) ≡ number' = omega (arith, taken.count) in
      let accepted = front_accepted (line_says Session) (lines_of taken.taken) (lines_of (pending ++ rest)) number' refused count in
      let same = front_lines (line_says Session) (lines_of taken.taken) (lines_of (pending ++ rest)) lines number' spelled refused count in
      record {
        whole = taken.taken;
        begun = pending;
        read = taken.front ∙ sym (append_assoc taken.taken pending rest);
        whole_lines = taken.whole;
        accepted = accepted;
        no_line_feed = no_feed;
        emitted = subst (λ ls. Goes old new (sent piece_text (front start ls))) same out;
      }

  pub stops_reading : (start : CoreState) (text come left : Option (List ℕ)) (pending : List ℕ) (old new : Option Told) (number number' : ℕ) (ended ended' : Bool) (state : CoreState) (tally : Tally) → Progress Goes start text come old new number ended state tally → WhereTold come (prepend_known pending left) (ReadsLine (line_says Session) number number' (Err Read)) →
      (ended' ≡ false → ended ≡ false) → (ended' ≡ false → WhereTold come (prepend_known pending left) (TakesLines number number')) → (ended' ≡ false) × (position is_line_feed pending ≡ None) →
      WhereTold text left (λ t rest. StopsReading Goes piece_text (state_front start) (line_says Session) t rest old new)
  stops_reading start text come None pending old new number number' ended ended' state tally p read stays taken waits = tt
  stops_reading start None None (Some rest) pending old new number number' ended ended' state tally p read stays taken waits = absurd read
  stops_reading start None (Some octets) (Some rest) pending old new number number' ended ended' state tally p read stays taken waits = absurd p.remains
  stops_reading start (Some t) None (Some rest) pending old new number number' ended ended' state tally p read stays taken waits = absurd read
  stops_reading start (Some t) (Some octets) (Some rest) pending old new number number' ended ended' state tally p read stays taken waits =
      stops_where start t octets rest pending old new number number' p.lines p.out p.remains read
      (takes_then 0 number number' t octets (pending ++ rest) (p.whole (stays waits.0)) (taken waits.0)) waits.1
