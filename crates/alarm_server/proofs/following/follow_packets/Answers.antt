use Rattle.std.proofs.Common.{◌≡◌, ◌∙◌, Err, ap, refl, subst, sym}
use Rattle.bac_values.specs.declared.report.ReportLine.TheVariants as say
use Rattle.ground_io.specs.Trace.{WhereTold, still}
use Rattle.script_lines.specs.PacketLine.{packet_says}
use Rattle.script_lines.specs.Reading.{octets_to_come}
use Rattle.script_lines.specs.Script.{ReadsLine}
use Rattle.standby.specs.Followers.{following_of}
use Rattle.standby.specs.Takes.{Following}
use Rattle.alarm_server.specs.declared.status.Status.TheVariants.{ReadFault, ScriptRefused}
use Rattle.alarm_server.specs.Status.{of_line_fault}
use Rattle.alarm_server.proofs.FollowSteps.{as_far, breaking_at, end_is, first_count, first_site, first_told, site_kept, taking_at}
use Rattle.alarm_server.proofs.Followed.{Progress, Taking, accepts, ends, ends_at_end, ends_at_first, ends_at_line, ends_at_once, ends_at_packet, ends_at_telling, goes_on, kept_at_end, kept_at_first, kept_at_packet, kept_at_telling, kept_before_end, kept_begun, kept_between, refused_first, stops_reading}
use Rattle.alarm_server.proofs.Progress.{grammar_fault, read_fault}
use Rattle.alarm_server.proofs.Ending.{still_behind}
use Rattle.alarm_server.proofs.following.follow_packets.Goals as goal

pub returns-in-Err-clause-ends : goal.returns-in-Err-clause-ends
returns-in-Err-clause-ends g c =
    rw (c.ground_of.ensures.same, c.open-follower.ensures.opened) (ends_at_once c.args.core (still (g.T.Source.left c.args.script.now) (g.T.Source.left c.args.script.now)) (g.G.Ground.told c.args.press.device))

pub returns-in-Err-clause-keeps : goal.returns-in-Err-clause-keeps
returns-in-Err-clause-keeps g c = λ journal sender begun stands holds.
    rw (c.ground_of.ensures.same, c.open-follower.ensures.opened) (kept_begun journal c.args.core c.args.press.layout (g.G.Ground.told c.args.press.device) sender begun stands holds (still (g.T.Source.left c.args.script.now) (g.T.Source.left c.args.script.now)))

pub returns-in-Err-tell-clause-ends : goal.returns-in-Err-tell-clause-ends
returns-in-Err-tell-clause-ends g c =
    rw (c.ground_of-in-Err-tell.ensures.same, c.from.ensures)
    (ends_at_first c.args.core (still (g.T.Source.left c.args.script.now) (g.T.Source.left c.args.script.now)) (g.G.Ground.told c.args.press.device) (g.G.Ground.told c.tell.new.follower.press.device) c.in-Err-tell.unsent (rw (c.events-events.ensures.events, c.open-follower.ensures.opened) at c.in-Err-tell.ensures.tells))

pub returns-in-Err-tell-clause-keeps : goal.returns-in-Err-tell-clause-keeps
returns-in-Err-tell-clause-keeps g c = λ journal sender begun stands holds.
    rw c.ground_of-in-Err-tell.ensures.same
    (kept_at_first journal c.args.core c.args.press.layout (g.G.Ground.told c.args.press.device) sender begun stands holds (still (g.T.Source.left c.args.script.now) (g.T.Source.left c.args.script.now)) (g.G.Ground.told c.tell.new.follower.press.device) c.in-Err-tell.unsent
    (rw (c.events-events.ensures.events, c.open-follower.ensures.opened) at c.in-Err-tell.ensures.tells) (rw c.open-follower.ensures.opened at (c.tell.ensures.any_moment journal)))

pub loop-packet-init : goal.loop-packet-init
loop-packet-init g c =
    rw c.in-Ok.ensures.start
    (record {
      goes = first_told g.G.Ground.told c.args.core c.args.press c.open-follower.result c.tell.new.follower (g.T.Source.left c.args.script.now) c.open-follower.ensures.opened c.tell.ensures.core c.tell.ensures.gathering c.events-events.result c.events-events.ensures.events c.in_default.ensures.tells c.tell.ensures.any_moment c.tell.ensures.rests;
      site = first_site c.args.core c.args.press c.open-follower.result c.tell.new.follower c.open-follower.ensures.opened c.tell.ensures.core;
      is_site = c.knows_site.ensures.site;
      fits = c.knows_site.ensures.fits;
      spelling = c.knows_site.ensures.spelling;
      low = c.knows_site.ensures.low;
      grammar = refl;
      source = λ e. absurd cc;
      size = first_count g.G.Ground.size c.args.core c.args.press c.open-follower.result c.tell.new.follower c.open-follower.ensures.opened c.tell.ensures.size;
      disk = first_count g.G.Ground.disk_faults c.args.core c.args.press c.open-follower.result c.tell.new.follower c.open-follower.ensures.opened c.tell.ensures.disk;
      read = refl;
      emitted = first_count g.G.Ground.emit_faults c.args.core c.args.press c.open-follower.result c.tell.new.follower c.open-follower.ensures.opened c.in_default.ensures.uncounted;
    })

pub returns-in-Err-next_packet-clause-ends : goal.returns-in-Err-next_packet-clause-ends
returns-in-Err-next_packet-clause-ends g c =
    let here = c.loop-packet in
    let next = c.next_packet.new in
    let text = g.T.Source.left c.args.script.now in
    let come = octets_to_come here.lines (g.T.Source.left here.script) in
    let come' = octets_to_come next.self (g.T.Source.left next.source) in
    let first = c.args.press.layout in
    let layout = here.follower.press.layout in
    let old = g.G.Ground.told c.args.press.device in
    let mid = g.G.Ground.told here.follower.press.device in
    let now = following_of here.follower in
    rw (c.ground_of-in-Err-next_packet.ensures.same, c.from-in-Err-next_packet.ensures)
    (still_behind (g.T.Source.left c.args.script.now) (g.T.Source.left c.next_packet.new.source) c.next_packet.new.self.pending _ (ends_at_line c.args.core text come first layout old mid here.lines.number here.lines.ended now here.invariant.goes come' next.self.number c.in-Err-next_packet.fault c.in-Err-next_packet.ensures.line))

pub returns-in-Err-next_packet-clause-keeps : goal.returns-in-Err-next_packet-clause-keeps
returns-in-Err-next_packet-clause-keeps g c = λ journal sender begun stands holds.
    let here = c.loop-packet in
    let next = c.next_packet.new in
    let text = g.T.Source.left c.args.script.now in
    let come = octets_to_come here.lines (g.T.Source.left here.script) in
    let come' = octets_to_come next.self (g.T.Source.left next.source) in
    let first = c.args.press.layout in
    let layout = here.follower.press.layout in
    let old = g.G.Ground.told c.args.press.device in
    let mid = g.G.Ground.told here.follower.press.device in
    let now = following_of here.follower in
    rw c.ground_of-in-Err-next_packet.ensures.same (still_behind (g.T.Source.left c.args.script.now) (g.T.Source.left c.next_packet.new.source) c.next_packet.new.self.pending _ (kept_between c.args.core text come first layout old mid here.lines.number here.lines.ended now here.invariant.goes journal sender begun stands holds come' next.self.number c.in-Err-next_packet.fault c.in-Err-next_packet.ensures.line))

pub returns-in-Err-next_packet-clause-refused : goal.returns-in-Err-next_packet-clause-refused
returns-in-Err-next_packet-clause-refused g c = λ line e.
    let here = c.loop-packet in
    let next = c.next_packet.new in
    let text = g.T.Source.left c.args.script.now in
    let come = octets_to_come here.lines (g.T.Source.left here.script) in
    let come' = octets_to_come next.self (g.T.Source.left next.source) in
    let first = c.args.press.layout in
    let layout = here.follower.press.layout in
    let old = g.G.Ground.told c.args.press.device in
    let mid = g.G.Ground.told here.follower.press.device in
    let now = following_of here.follower in
    let same : of_line_fault c.in-Err-next_packet.fault ≡ ScriptRefused line = cc in
    let fault = grammar_fault c.in-Err-next_packet.fault line same in
    let read = subst (λ f. WhereTold come come' (ReadsLine packet_says here.lines.number next.self.number (Err f))) fault c.in-Err-next_packet.ensures.line in
    still_behind (g.T.Source.left c.args.script.now) (g.T.Source.left c.next_packet.new.source) c.next_packet.new.self.pending _ (refused_first c.args.core text come first layout old mid here.lines.number here.lines.ended now here.invariant.goes come' next.self.number line read)

pub returns-in-Err-next_packet-clause-stops : goal.returns-in-Err-next_packet-clause-stops
returns-in-Err-next_packet-clause-stops g c = λ e.
    let here = c.loop-packet in
    let next = c.next_packet.new in
    let text = g.T.Source.left c.args.script.now in
    let come = octets_to_come here.lines (g.T.Source.left here.script) in
    let come' = octets_to_come next.self (g.T.Source.left next.source) in
    let first = c.args.press.layout in
    let layout = here.follower.press.layout in
    let old = g.G.Ground.told c.args.press.device in
    let mid = g.G.Ground.told here.follower.press.device in
    let now = following_of here.follower in
    let same : of_line_fault c.in-Err-next_packet.fault ≡ ReadFault = cc in
    let fault = read_fault c.in-Err-next_packet.fault same in
    let read = subst (λ f. WhereTold come come' (ReadsLine packet_says here.lines.number next.self.number (Err f))) fault c.in-Err-next_packet.ensures.line in
    rw c.ground_of-in-Err-next_packet.ensures.same
    (stops_reading c.args.core text come first layout old mid here.lines.number here.lines.ended now here.invariant.goes (g.T.Source.left next.source) next.self.pending next.self.number next.self.ended read c.next_packet.ensures.ended c.next_packet.ensures.whole_lines (c.next_packet.ensures.waits (c.in-Err-next_packet.is ∙ ap Err fault)))

pub returns-in-Err-take_packet-clause-ends : goal.returns-in-Err-take_packet-clause-ends
returns-in-Err-take_packet-clause-ends g c =
    let here = c.loop-packet in
    let next = c.next_packet.new in
    let text = g.T.Source.left c.args.script.now in
    let come = octets_to_come here.lines (g.T.Source.left here.script) in
    let come' = octets_to_come next.self (g.T.Source.left next.source) in
    let first = c.args.press.layout in
    let layout = here.follower.press.layout in
    let old = g.G.Ground.told c.args.press.device in
    let mid = g.G.Ground.told here.follower.press.device in
    let now = following_of here.follower in
    let packet = c.in-Ok-Some.packet in
    let read = rw c.in-Ok-Some.field-0-is at c.in-Ok-Some.ensures.line in
    let lost = c.in-Err-take_packet.status in
    let new = g.G.Ground.told c.in-Err-take_packet.device in
    still_behind (g.T.Source.left c.args.script.now) (g.T.Source.left c.next_packet.new.source) c.next_packet.new.self.pending _ (ends_at_packet c.args.core text come first layout old mid here.lines.number here.lines.ended now here.invariant.goes come' next.self.number packet read new lost c.in-Err-take_packet.ensures.fault c.in-Err-take_packet.ensures.quiet)

pub returns-in-Err-take_packet-clause-keeps : goal.returns-in-Err-take_packet-clause-keeps
returns-in-Err-take_packet-clause-keeps g c = λ journal sender begun stands holds.
    let here = c.loop-packet in
    let next = c.next_packet.new in
    let text = g.T.Source.left c.args.script.now in
    let come = octets_to_come here.lines (g.T.Source.left here.script) in
    let come' = octets_to_come next.self (g.T.Source.left next.source) in
    let first = c.args.press.layout in
    let layout = here.follower.press.layout in
    let old = g.G.Ground.told c.args.press.device in
    let mid = g.G.Ground.told here.follower.press.device in
    let now = following_of here.follower in
    let packet = c.in-Ok-Some.packet in
    let read = rw c.in-Ok-Some.field-0-is at c.in-Ok-Some.ensures.line in
    let lost = c.in-Err-take_packet.status in
    let new = g.G.Ground.told c.in-Err-take_packet.device in
    still_behind (g.T.Source.left c.args.script.now) (g.T.Source.left c.next_packet.new.source) c.next_packet.new.self.pending _ (kept_at_packet c.args.core text come first layout old mid here.lines.number here.lines.ended now here.invariant.goes journal sender begun stands holds here.invariant.is_site here.invariant.fits here.invariant.spelling here.invariant.low come' next.self.number packet read new
    (breaking_at c.args.core.site here.follower.core.site now packet.packet lost layout mid new here.invariant.site c.in-Err-take_packet.ensures.broken c.in-Err-take_packet.ensures.breaks))

pub returns-in-Err-tell-2-clause-ends : goal.returns-in-Err-tell-2-clause-ends
returns-in-Err-tell-2-clause-ends g c =
    let here = c.loop-packet in
    let next = c.next_packet.new in
    let text = g.T.Source.left c.args.script.now in
    let come = octets_to_come here.lines (g.T.Source.left here.script) in
    let come' = octets_to_come next.self (g.T.Source.left next.source) in
    let first = c.args.press.layout in
    let layout = here.follower.press.layout in
    let old = g.G.Ground.told c.args.press.device in
    let mid = g.G.Ground.told here.follower.press.device in
    let now = following_of here.follower in
    let packet = c.in-Ok-Some.packet in
    let read = rw c.in-Ok-Some.field-0-is at c.in-Ok-Some.ensures.line in
    let follower = c.in-Ok-take_packet.taken.0 in
    let took = c.in-Ok-take_packet.taken.1 in
    let taken = c.in-Ok-take_packet.ensures in
    let then = following_of follower in
    let layout' = follower.press.layout in
    let after = g.G.Ground.told follower.press.device in
    let new = g.G.Ground.told c.tell-in-loop-packet.new.follower.press.device in
    let here_taking : Taking here.follower.core.site now then packet.packet took layout layout' mid after = record { holds = taken.holds; keeps = taken.keeps } in
    let taking = taking_at c.args.core.site here.follower.core.site now then packet.packet took layout layout' mid after here.invariant.site here_taking in
    rw (c.ground_of-in-Err-tell-2.ensures.same, c.from-in-Err-tell-2.ensures)
    (still_behind (g.T.Source.left c.args.script.now) (g.T.Source.left c.next_packet.new.source) c.next_packet.new.self.pending _ (ends_at_telling c.args.core text come first layout old mid here.lines.number here.lines.ended now here.invariant.goes come' next.self.number packet took then c.line_of.result after new c.in-Err-tell-2.unsent read taken.table taken.quiet c.line_of.ensures.line c.in-Err-tell-2.ensures.tells))

pub returns-in-Err-tell-2-clause-keeps : goal.returns-in-Err-tell-2-clause-keeps
returns-in-Err-tell-2-clause-keeps g c = λ journal sender begun stands holds.
    let here = c.loop-packet in
    let next = c.next_packet.new in
    let text = g.T.Source.left c.args.script.now in
    let come = octets_to_come here.lines (g.T.Source.left here.script) in
    let come' = octets_to_come next.self (g.T.Source.left next.source) in
    let first = c.args.press.layout in
    let layout = here.follower.press.layout in
    let old = g.G.Ground.told c.args.press.device in
    let mid = g.G.Ground.told here.follower.press.device in
    let now = following_of here.follower in
    let packet = c.in-Ok-Some.packet in
    let read = rw c.in-Ok-Some.field-0-is at c.in-Ok-Some.ensures.line in
    let follower = c.in-Ok-take_packet.taken.0 in
    let took = c.in-Ok-take_packet.taken.1 in
    let taken = c.in-Ok-take_packet.ensures in
    let then = following_of follower in
    let layout' = follower.press.layout in
    let after = g.G.Ground.told follower.press.device in
    let new = g.G.Ground.told c.tell-in-loop-packet.new.follower.press.device in
    let here_taking : Taking here.follower.core.site now then packet.packet took layout layout' mid after = record { holds = taken.holds; keeps = taken.keeps } in
    let taking = taking_at c.args.core.site here.follower.core.site now then packet.packet took layout layout' mid after here.invariant.site here_taking in
    rw c.ground_of-in-Err-tell-2.ensures.same
    (still_behind (g.T.Source.left c.args.script.now) (g.T.Source.left c.next_packet.new.source) c.next_packet.new.self.pending _ (kept_at_telling c.args.core text come first layout old mid here.lines.number here.lines.ended now here.invariant.goes journal sender begun stands holds here.invariant.is_site here.invariant.fits here.invariant.spelling here.invariant.low come' next.self.number packet read after new layout' took then c.line_of.result c.in-Err-tell-2.unsent taken.table taken.quiet taking c.line_of.ensures.line c.in-Err-tell-2.ensures.tells (c.tell-in-loop-packet.ensures.any_moment journal)))

pub loop-packet-preserved : goal.loop-packet-preserved
loop-packet-preserved g c =
    let here = c.loop-packet in
    let next = c.next_packet.new in
    let text = g.T.Source.left c.args.script.now in
    let come = octets_to_come here.lines (g.T.Source.left here.script) in
    let come' = octets_to_come next.self (g.T.Source.left next.source) in
    let first = c.args.press.layout in
    let layout = here.follower.press.layout in
    let old = g.G.Ground.told c.args.press.device in
    let mid = g.G.Ground.told here.follower.press.device in
    let now = following_of here.follower in
    let packet = c.in-Ok-Some.packet in
    let read = rw c.in-Ok-Some.field-0-is at c.in-Ok-Some.ensures.line in
    let follower = c.in-Ok-take_packet.taken.0 in
    let took = c.in-Ok-take_packet.taken.1 in
    let taken = c.in-Ok-take_packet.ensures in
    let then = following_of follower in
    let layout' = follower.press.layout in
    let after = g.G.Ground.told follower.press.device in
    let new = g.G.Ground.told c.tell-in-loop-packet.new.follower.press.device in
    let here_taking : Taking here.follower.core.site now then packet.packet took layout layout' mid after = record { holds = taken.holds; keeps = taken.keeps } in
    let taking = taking_at c.args.core.site here.follower.core.site now then packet.packet took layout layout' mid after here.invariant.site here_taking in
    record {
      goes = subst (λ (f : Following). Progress c.args.core text come' first c.tell-in-loop-packet.new.follower.press.layout old new next.self.number next.self.ended f) (sym (as_far follower c.tell-in-loop-packet.new.follower c.tell-in-loop-packet.ensures.core c.tell-in-loop-packet.ensures.gathering))
          (goes_on c.args.core here.invariant.is_site here.invariant.fits here.invariant.spelling here.invariant.low text come come' first layout layout' c.tell-in-loop-packet.new.follower.press.layout old mid after new here.lines.number next.self.number here.lines.ended next.self.ended now then packet took c.line_of.result here.invariant.goes read c.next_packet.ensures.ended c.next_packet.ensures.whole_lines
          taken.table taken.quiet taking c.line_of.ensures.line c.in_default-tell.ensures.tells c.tell-in-loop-packet.ensures.any_moment c.tell-in-loop-packet.ensures.rests);
      site = site_kept follower c.tell-in-loop-packet.new.follower c.args.core.site c.tell-in-loop-packet.ensures.core (taken.site ∙ here.invariant.site);
      is_site = here.invariant.is_site;
      fits = here.invariant.fits;
      spelling = here.invariant.spelling;
      low = here.invariant.low;
      grammar = c.next_packet.ensures.grammar ∙ here.invariant.grammar;
      source = c.next_packet.ensures.source;
      size = c.tell-in-loop-packet.ensures.size ∙ (taken.size ∙ here.invariant.size);
      disk = c.tell-in-loop-packet.ensures.disk ∙ (taken.cause ∙ here.invariant.disk);
      read = c.in-Ok-Some.ensures.uncounted ∙ here.invariant.read;
      emitted = c.in_default-tell.ensures.uncounted ∙ (taken.emitted ∙ here.invariant.emitted);
    }

pub returns-in-Ok-tell-clause-ends : goal.returns-in-Ok-tell-clause-ends
returns-in-Ok-tell-clause-ends g c =
    let here = c.loop-packet in
    let next = c.next_packet.new in
    let text = g.T.Source.left c.args.script.now in
    let come = octets_to_come here.lines (g.T.Source.left here.script) in
    let come' = octets_to_come next.self (g.T.Source.left next.source) in
    let first = c.args.press.layout in
    let layout = here.follower.press.layout in
    let old = g.G.Ground.told c.args.press.device in
    let mid = g.G.Ground.told here.follower.press.device in
    let now = following_of here.follower in
    let read = rw c.in-Ok-None.field-0-is at c.in-Ok-None.ensures.line in
    let new = g.G.Ground.told c.tell-2.new.follower.press.device in
    let line = say.End c.count-lines.result c.events-events-2.result in
    let same = end_is c.count-lines.result next.self.number c.events-events-2.result here.follower.core.events c.count-lines.ensures.number c.events-events-2.ensures.events in
    rw c.ground_of-in-Ok-tell.ensures.same (still_behind (g.T.Source.left c.args.script.now) (g.T.Source.left c.next_packet.new.source) c.next_packet.new.self.pending _ (ends c.args.core text come first layout old mid here.lines.number here.lines.ended now here.invariant.goes come' new next.self.number line read same c.in-Ok-tell.ensures.tells))

pub returns-in-Ok-tell-clause-accepted : goal.returns-in-Ok-tell-clause-accepted
returns-in-Ok-tell-clause-accepted g c =
    let here = c.loop-packet in
    let next = c.next_packet.new in
    let text = g.T.Source.left c.args.script.now in
    let come = octets_to_come here.lines (g.T.Source.left here.script) in
    let come' = octets_to_come next.self (g.T.Source.left next.source) in
    let first = c.args.press.layout in
    let layout = here.follower.press.layout in
    let old = g.G.Ground.told c.args.press.device in
    let mid = g.G.Ground.told here.follower.press.device in
    let now = following_of here.follower in
    let read = rw c.in-Ok-None.field-0-is at c.in-Ok-None.ensures.line in
    let new = g.G.Ground.told c.tell-2.new.follower.press.device in
    let line = say.End c.count-lines.result c.events-events-2.result in
    let same = end_is c.count-lines.result next.self.number c.events-events-2.result here.follower.core.events c.count-lines.ensures.number c.events-events-2.ensures.events in
    still_behind (g.T.Source.left c.args.script.now) (g.T.Source.left c.next_packet.new.source) c.next_packet.new.self.pending _ (accepts c.args.core text come first layout old mid here.lines.number here.lines.ended now here.invariant.goes come' next.self.number read)

pub returns-in-Ok-tell-clause-keeps : goal.returns-in-Ok-tell-clause-keeps
returns-in-Ok-tell-clause-keeps g c = λ journal sender begun stands holds.
    let here = c.loop-packet in
    let next = c.next_packet.new in
    let text = g.T.Source.left c.args.script.now in
    let come = octets_to_come here.lines (g.T.Source.left here.script) in
    let come' = octets_to_come next.self (g.T.Source.left next.source) in
    let first = c.args.press.layout in
    let layout = here.follower.press.layout in
    let old = g.G.Ground.told c.args.press.device in
    let mid = g.G.Ground.told here.follower.press.device in
    let now = following_of here.follower in
    let read = rw c.in-Ok-None.field-0-is at c.in-Ok-None.ensures.line in
    let new = g.G.Ground.told c.tell-2.new.follower.press.device in
    let line = say.End c.count-lines.result c.events-events-2.result in
    let same = end_is c.count-lines.result next.self.number c.events-events-2.result here.follower.core.events c.count-lines.ensures.number c.events-events-2.ensures.events in
    rw c.ground_of-in-Ok-tell.ensures.same (still_behind (g.T.Source.left c.args.script.now) (g.T.Source.left c.next_packet.new.source) c.next_packet.new.self.pending _ (kept_at_end c.args.core text come first layout old mid here.lines.number here.lines.ended now here.invariant.goes journal sender begun stands holds come' next.self.number read new c.tell-2.new.follower.press.layout c.count-lines.result c.events-events-2.result c.in-Ok-tell.ensures.tells (c.tell-2.ensures.any_moment journal) (c.tell-2.ensures.rests journal)))

pub returns-clause-ends : goal.returns-clause-ends
returns-clause-ends g c =
    let here = c.loop-packet in
    let next = c.next_packet.new in
    let text = g.T.Source.left c.args.script.now in
    let come = octets_to_come here.lines (g.T.Source.left here.script) in
    let come' = octets_to_come next.self (g.T.Source.left next.source) in
    let first = c.args.press.layout in
    let layout = here.follower.press.layout in
    let old = g.G.Ground.told c.args.press.device in
    let mid = g.G.Ground.told here.follower.press.device in
    let now = following_of here.follower in
    let read = rw c.in-Ok-None.field-0-is at c.in-Ok-None.ensures.line in
    let new = g.G.Ground.told c.tell-2.new.follower.press.device in
    let line = say.End c.count-lines.result c.events-events-2.result in
    let same = end_is c.count-lines.result next.self.number c.events-events-2.result here.follower.core.events c.count-lines.ensures.number c.events-events-2.ensures.events in
    rw (c.ground_of-in-Err-tell-3.ensures.same, c.from-in-Err-tell-3.ensures) (still_behind (g.T.Source.left c.args.script.now) (g.T.Source.left c.next_packet.new.source) c.next_packet.new.self.pending _ (ends_at_end c.args.core text come first layout old mid here.lines.number here.lines.ended now here.invariant.goes come' new next.self.number line c.in-Err-tell-3.unsent read same c.in-Err-tell-3.ensures.tells))

pub returns-clause-keeps : goal.returns-clause-keeps
returns-clause-keeps g c = λ journal sender begun stands holds.
    let here = c.loop-packet in
    let next = c.next_packet.new in
    let text = g.T.Source.left c.args.script.now in
    let come = octets_to_come here.lines (g.T.Source.left here.script) in
    let come' = octets_to_come next.self (g.T.Source.left next.source) in
    let first = c.args.press.layout in
    let layout = here.follower.press.layout in
    let old = g.G.Ground.told c.args.press.device in
    let mid = g.G.Ground.told here.follower.press.device in
    let now = following_of here.follower in
    let read = rw c.in-Ok-None.field-0-is at c.in-Ok-None.ensures.line in
    let new = g.G.Ground.told c.tell-2.new.follower.press.device in
    let line = say.End c.count-lines.result c.events-events-2.result in
    let same = end_is c.count-lines.result next.self.number c.events-events-2.result here.follower.core.events c.count-lines.ensures.number c.events-events-2.ensures.events in
    rw c.ground_of-in-Err-tell-3.ensures.same (still_behind (g.T.Source.left c.args.script.now) (g.T.Source.left c.next_packet.new.source) c.next_packet.new.self.pending _ (kept_before_end c.args.core text come first layout old mid here.lines.number here.lines.ended now here.invariant.goes journal sender begun stands holds come' next.self.number read new c.count-lines.result c.events-events-2.result c.in-Err-tell-3.unsent c.in-Err-tell-3.ensures.tells (c.tell-2.ensures.any_moment journal)))
