use Rattle.std.proofs.Common.{◌≡◌, ℕ, ◌-◌, ◌≤◌, List, length, take, drop, subst, arith}
use Rattle.std.proofs.lemmas.List.{length-drop, take_all}
use Rattle.std.proofs.lemmas.Result.{IfOk-weaker}
use Rattle.alarm_core.specs.Fits.{FitsSite}
use Rattle.alarm_core.specs.declared.site.Site.{Site}
use Rattle.alarm_journal.specs.Press.{room_of}
use Rattle.state_codec.specs.Sizes.{snapshot_bound}
use Rattle.standby.specs.Judging.{ComesTo, TriesFresh}
use Rattle.standby.proofs.Judged.{all_known, are_within, by_walk, malformed, miscounted, past_a_gap, whole_records}
use Rattle.standby.proofs.records.judge_records.Goals as goal
use Rattle.standby.proofs.records.judge_records.Goals.{then-walked-eq0-via-then-walked-eq0, then-walked-eq0-via-else-walked-eq0+then-walked-from}

pub returns-then-walked-eq0-clause-comes : goal.returns-then-walked-eq0-clause-comes
returns-then-walked-eq0-clause-comes g c = λ packet gathering is.
    let core = c.args.core.now in
    let frame = c.args.frame.now in
    let walked = c.in-Ok.walked in
    let wrong : walked.count ≡ frame.count → 1 ≤ walked.count → ⊥ = elim c.then-walked-eq0.branch [
      | then-walked-eq0-via-then-walked-eq0 w ↦ λ same some. absurd (omega arith)
      | then-walked-eq0-via-else-walked-eq0+then-walked-from w ↦ λ same some. absurd (omega arith)
    ] in
    malformed core packet gathering
    (miscounted packet frame.before frame.count frame.octets.now is (omega arith) (omega arith) c.requires.short (snapshot_bound core.site) c.saturating_sub.result walked.count walked.at c.in-Ok.ensures.walked wrong)

pub returns-then-frame-known-clause-comes : goal.returns-then-frame-known-clause-comes
returns-then-frame-known-clause-comes g c = λ packet gathering is.
    let frame = c.args.frame.now in
    let walked = c.in-Ok.walked in
    past_a_gap packet frame.before frame.count frame.octets.now is (omega arith) (omega arith) c.requires.short c.args.core.now gathering c.events-known.result c.saturating_sub.result walked.count walked.at c.events-known.ensures.events c.in-Ok.ensures.walked (omega arith) (omega arith) (omega arith)

pub returns-then-walked-known-clause-comes : goal.returns-then-walked-known-clause-comes
returns-then-walked-known-clause-comes g c = λ packet gathering is.
    let frame = c.args.frame.now in
    let walked = c.in-Ok.walked in
    all_known packet frame.before frame.count frame.octets.now is (omega arith) (omega arith) c.requires.short c.args.core.now gathering c.events-known.result c.saturating_sub.result walked.count walked.at c.events-known.ensures.events c.in-Ok.ensures.walked (omega arith) (omega arith) (omega arith) (omega arith)

pub slice_bounds-try_fresh-count : goal.slice_bounds-try_fresh-count
slice_bounds-try_fresh-count g c = are_within c.args.frame.now.octets.now c.saturating_sub.result c.in-Ok.walked.count c.in-Ok.walked.at c.in-Ok.ensures.walked

pub slice_bounds-try_fresh-start : goal.slice_bounds-try_fresh-start
slice_bounds-try_fresh-start g c = are_within c.args.frame.now.octets.now c.saturating_sub.result c.in-Ok.walked.count c.in-Ok.walked.at c.in-Ok.ensures.walked

pub returns-clause-comes : goal.returns-clause-comes
returns-clause-comes g c = λ packet gathering is.
    let core = c.args.core.now in
    let frame = c.args.frame.now in
    let octets : List ℕ = frame.octets.now in
    let walked = c.in-Ok.walked in
    let fresh : List ℕ = take (length octets - walked.at) (drop walked.at octets) in
    let room : ℕ = room_of c.args.press.now.layout in
    let typed : FitsSite core.site = subst (λ (s : Site). FitsSite s) c.site.ensures.site c.site_fits.ensures.fits in
    let spells = whole_records packet frame.before frame.count octets is (omega arith) (omega arith) c.requires.short c.saturating_sub.result walked.count walked.at c.in-Ok.ensures.walked (omega arith) (omega arith) in
    let past : fresh ≡ drop walked.at octets = take_all (length octets - walked.at) (drop walked.at octets) (omega (arith, length-drop walked.at octets)) in
    IfOk-weaker c.try_fresh.result (TriesFresh core fresh room) (ComesTo core packet gathering gathering)
    (λ judged tries. by_walk core c.site.ensures.keeps typed packet gathering frame.before c.events-known.result c.saturating_sub.result walked.count walked.at room octets fresh judged c.events-known.ensures.events (omega arith) past c.in-Ok.ensures.walked spells (omega arith) (omega arith) tries) c.try_fresh.ensures.tried
