use Rattle.std.proofs.Common.{◌≡◌, ◌+◌, ◌%◌, [], length, get_or, arith, ap, subst, sym, ◌∙◌, List, ℕ, Err, if◌then◌else◌}
use Rattle.std.proofs.lemmas.Result.{err_from_is_err_and}
use Rattle.ground_io.specs.Trace.{HasSize}
use Rattle.ground_io.specs.Disk.{octets_at}
use Rattle.ground_io.proofs.Crashes.{adds_both}
use Rattle.alarm_journal.specs.Journal.{LeavesAt, Site}
use Rattle.alarm_journal.specs.JournalSteps.{checked_header}
use Rattle.alarm_journal.specs.Press.{Answers, Settled, start_of}
use Rattle.alarm_journal.specs.Areas.{IsRead, IsDamage}
use Rattle.alarm_journal.specs.Opened.{Shows, content_in}
use Rattle.alarm_journal.specs.declared.layout.Layout.{Layout}
use Rattle.alarm_journal.specs.declared.open_fault.OpenFault.{OpenFault}
use Rattle.alarm_journal.proofs.Opening.{Found, settled, bad_header, no_area}
use Rattle.alarm_journal.proofs.Showing.{reads_on}
use Rattle.alarm_journal.proofs.open.read_journal.Goals as goal

pub returns-in_err-formatted-clause-answer : goal.returns-in_err-formatted-clause-answer
returns-in_err-formatted-clause-answer g c = λ begun.
    let site : Site = record { text = c.args.text.now; need = c.args.need } in
    let header : List ℕ = c.in_ok-header.header.items in
    let whole : HasSize c.args.size (g.G.Ground.told c.args.device.now) = subst (λ (n : ℕ). HasSize n (g.G.Ground.told c.args.device.now)) (sym c.requires.size) (g.G.Ground.sized c.args.device.now) in
    let long : length header ≡ 22 + length c.args.text.now = omega (arith, c.in_ok-header.ensures.length) in
    let fault : OpenFault = c.in_err-formatted.field-0.0 in
    let checked : checked_header site c.args.size header ≡ Err fault = ap (checked_header site c.args.size) (sym c.deref.ensures.value) ∙ sym c.in_err-formatted.ensures.checked in
    let p = err_from_is_err_and c.from_residual-in_err-formatted.result c.from_residual-in_err-formatted.ensures.1 in
    rw p.1 (subst (λ (f : OpenFault). Answers site (g.G.Ground.told c.args.device.now) (g.G.Ground.told c.read_piece.new.device) (Err f)) (sym p.2)
    (bad_header site c.args.size header fault _ _ checked long whole c.requires.room c.in_ok-header.ensures.told c.in_ok-header.ensures.octets begun))

pub returns-in_err-opened-clause-answer : goal.returns-in_err-opened-clause-answer
returns-in_err-opened-clause-answer g c = λ begun.
    let site : Site = record { text = c.args.text.now; need = c.args.need } in
    let header : List ℕ = c.in_ok-header.header.items in
    let layout : Layout = c.layout_of-layout.result in
    let whole : HasSize c.args.size (g.G.Ground.told c.args.device.now) = subst (λ (n : ℕ). HasSize n (g.G.Ground.told c.args.device.now)) (sym c.requires.size) (g.G.Ground.sized c.args.device.now) in
    let found : Found site c.args.size header c.in_ok-formatted.formatted layout = record {
      checked = ap (checked_header site c.args.size) (sym c.deref.ensures.value) ∙ sym c.in_ok-formatted.ensures.checked;
      long = omega (arith, c.in_ok-header.ensures.length);
      areas = c.layout_of-layout.ensures.areas;
      half = c.layout_of-layout.ensures.half;
      selected = subst (λ (l : List ℕ). get_or l (21 + length c.args.text.now) 0 % 2 ≡ (if layout.second then 1 else 0)) c.deref-2.ensures.value c.layout_of-layout.ensures.selected;
    } in
    let fault : OpenFault = c.in_err-opened.field-0.0 in
    let told = adds_both (g.G.Ground.told c.args.device.now) (g.G.Ground.told c.read_piece.new.device) (g.G.Ground.told c.read_area.new.device) [] [] c.in_ok-header.ensures.told c.in_err-opened.ensures.told in
    let damage : IsDamage (g.G.Ground.told c.read_area.new.device) (λ at image. LeavesAt (start_of layout) (octets_at (start_of layout) layout.half image) at) fault =
    subst (λ (k : ℕ). IsDamage (g.G.Ground.told c.read_area.new.device) (λ at image. LeavesAt k (octets_at k layout.half image) at) fault) c.start-start.ensures.start c.in_err-opened.ensures.damaged in
    let p = err_from_is_err_and c.from_residual-in_err-opened.result c.from_residual-in_err-opened.ensures.1 in
    rw p.1 (subst (λ (f : OpenFault). Answers site (g.G.Ground.told c.args.device.now) (g.G.Ground.told c.read_area.new.device) (Err f)) (sym p.2)
    (no_area site c.args.size header c.in_ok-formatted.formatted layout fault _ _ found whole told (reads_on _ (g.G.Ground.told c.read_area.new.device) 0 header c.in_err-opened.ensures.told c.in_ok-header.ensures.octets) damage begun))

pub returns-clause-settled : goal.returns-clause-settled
returns-clause-settled g c = λ begun.
    let site : Site = record { text = c.args.text.now; need = c.args.need } in
    let header : List ℕ = c.in_ok-header.header.items in
    let layout : Layout = c.layout_of-layout.result in
    let whole : HasSize c.args.size (g.G.Ground.told c.args.device.now) = subst (λ (n : ℕ). HasSize n (g.G.Ground.told c.args.device.now)) (sym c.requires.size) (g.G.Ground.sized c.args.device.now) in
    let found : Found site c.args.size header c.in_ok-formatted.formatted layout = record {
      checked = ap (checked_header site c.args.size) (sym c.deref.ensures.value) ∙ sym c.in_ok-formatted.ensures.checked;
      long = omega (arith, c.in_ok-header.ensures.length);
      areas = c.layout_of-layout.ensures.areas;
      half = c.layout_of-layout.ensures.half;
      selected = subst (λ (l : List ℕ). get_or l (21 + length c.args.text.now) 0 % 2 ≡ (if layout.second then 1 else 0)) c.deref-2.ensures.value c.layout_of-layout.ensures.selected;
    } in
    let opened = c.in_ok-opened.opened in
    let told = adds_both (g.G.Ground.told c.args.device.now) (g.G.Ground.told c.read_piece.new.device) (g.G.Ground.told c.read_area.new.device) [] [] c.in_ok-header.ensures.told c.in_ok-opened.ensures.told in
    let read : Shows (g.G.Ground.told c.read_area.new.device) (IsRead (start_of layout) layout.half c.in_ok-opened.next (content_in opened)) =
    subst (λ (k : ℕ). Shows (g.G.Ground.told c.read_area.new.device) (IsRead k layout.half c.in_ok-opened.next (content_in opened))) c.start-start.ensures.start c.in_ok-opened.ensures.read in
    let is : c.with_next-layout.result ≡ record { areas = layout.areas; half = layout.half; second = layout.second; next = start_of layout + c.in_ok-opened.next } =
    c.with_next-layout.ensures.next ∙ ap (λ (k : ℕ). record { areas = layout.areas; half = layout.half; second = layout.second; next = k + c.in_ok-opened.next }) c.start-start.ensures.start in
    subst (λ (l : Layout). Settled site l (g.G.Ground.told c.read_area.new.device) (content_in opened)) (sym is)
    (settled site c.args.size header (content_in opened) c.in_ok-formatted.formatted c.in_ok-opened.next layout _ _ found whole told (reads_on _ (g.G.Ground.told c.read_area.new.device) 0 header c.in_ok-opened.ensures.told c.in_ok-header.ensures.octets) read begun)
