use Rattle.std.proofs.Common.{◌≡◌, ◌∙◌, ◌-◌, ℕ, refl, Err, List, [], ap, arith, length, min, subst, sym, take}
use Rattle.std.proofs.lemmas.Result.{err_from_is_err_and}
use Rattle.alarm_core.specs.declared.event.Event.{Event}
use Rattle.alarm_journal.specs.Journal.{batches_of}
use Rattle.alarm_journal.specs.Opened.{content_in, sum_of}
use Rattle.alarm_journal.specs.declared.body.Body.{Body}
use Rattle.state_codec.specs.Contents.{IsSnapshotAfter, SpellsEvents}
use Rattle.state_codec.specs.declared.fault.CodecFault.{CodecFault}
use Rattle.state_codec.specs.declared.fault.CodecFault.TheVariants.{Malformed, NoMemory}
use Rattle.standby.specs.Offers.{IsLeaderOf, LeadsFor}
use Rattle.standby.proofs.Journals.{batches_are, events_are, later_are, none_before, older_are, whole_records}
use Rattle.standby.proofs.leader.Leader.of_journal.Goals as goal

memory_alone : (fault : CodecFault) → ((at : ℕ) → fault ≡ Malformed at → ⊥) → fault ≡ NoMemory
memory_alone (Malformed at) never = absurd (never at refl)
memory_alone NoMemory never = refl

pub returns-in_err-ends-clause-memory : goal.returns-in_err-ends-clause-memory
returns-in_err-ends-clause-memory c =
    let p = err_from_is_err_and c.from_residual.result c.from_residual.ensures.1 in
    let opened = c.args.opened in
    let whole : ℕ = c.length_of-whole.result in
    let many : whole ≡ min (sum_of opened.bodies) (length opened.batches) =
    omega (arith, c.length_of-whole.ensures.length, ap (λ (l : List Body). sum_of l) c.as_slice.ensures.same, c.len.ensures, ap (λ (l : List ℕ). length l) c.into_vec-records.ensures.same) in
    let records_are : c.as_slice-2.result.now ≡ batches_of (content_in opened) =
    c.as_slice-2.ensures.value ∙ (c.truncate.ensures.items ∙ (ap (λ (l : List ℕ). take whole l) c.into_vec-records.ensures.same ∙ batches_are opened whole many)) in
    let never : (at : ℕ) → c.in_err-ends.field-0.0 ≡ Malformed at → ⊥ = λ at e.
    let is : c.ends_of.result ≡ Err (Malformed at) = cc in
    whole_records opened c.args.core.now c.requires.leads c.as_slice-2.result.now [] records_are at (c.ends_of.ensures.refused at is) in
    rw (p.1, p.2) (memory_alone c.in_err-ends.field-0.0 never)

pub overflow_sub-before : goal.overflow_sub-before
overflow_sub-before c =
    let opened = c.args.opened in
    let whole : ℕ = c.length_of-whole.result in
    let many : whole ≡ min (sum_of opened.bodies) (length opened.batches) =
    omega (arith, c.length_of-whole.ensures.length, ap (λ (l : List Body). sum_of l) c.as_slice.ensures.same, c.len.ensures, ap (λ (l : List ℕ). length l) c.into_vec-records.ensures.same) in
    let records_are : c.as_slice-2.result.now ≡ batches_of (content_in opened) =
    c.as_slice-2.ensures.value ∙ (c.truncate.ensures.items ∙ (ap (λ (l : List ℕ). take whole l) c.into_vec-records.ensures.same ∙ batches_are opened whole many)) in
    omega (arith, c.len-2.ensures, c.events.ensures.events, events_are opened c.args.core.now c.requires.leads c.as_slice-2.result.now c.in_ok-ends.ends.items records_are c.in_ok-ends.ensures.ends)

pub of_parts-requires-clause-none : goal.of_parts-requires-clause-none
of_parts-requires-clause-none c = λ none.
    let opened = c.args.opened in
    let whole : ℕ = c.length_of-whole.result in
    let many : whole ≡ min (sum_of opened.bodies) (length opened.batches) =
    omega (arith, c.length_of-whole.ensures.length, ap (λ (l : List Body). sum_of l) c.as_slice.ensures.same, c.len.ensures, ap (λ (l : List ℕ). length l) c.into_vec-records.ensures.same) in
    let records_are : c.as_slice-2.result.now ≡ batches_of (content_in opened) =
    c.as_slice-2.ensures.value ∙ (c.truncate.ensures.items ∙ (ap (λ (l : List ℕ). take whole l) c.into_vec-records.ensures.same ∙ batches_are opened whole many)) in
    omega (
      arith,
      c.len-2.ensures,
      c.events.ensures.events,
      none_before opened c.args.core.now c.requires.leads c.as_slice-2.result.now c.in_ok-ends.ends.items records_are c.in_ok-ends.ensures.ends (sym c.into_vec.ensures.same ∙ none),
    )

pub returns-clause-made : goal.returns-clause-made
returns-clause-made c = λ lead.
    let opened = c.args.opened in
    let whole : ℕ = c.length_of-whole.result in
    let many : whole ≡ min (sum_of opened.bodies) (length opened.batches) =
    omega (arith, c.length_of-whole.ensures.length, ap (λ (l : List Body). sum_of l) c.as_slice.ensures.same, c.len.ensures, ap (λ (l : List ℕ). length l) c.into_vec-records.ensures.same) in
    let batch : c.truncate.new.self.items ≡ batches_of (content_in opened) = c.truncate.ensures.items ∙ (ap (λ (l : List ℕ). take whole l) c.into_vec-records.ensures.same ∙ batches_are opened whole many) in
    let before : c.events.result - c.len-2.result ≡ lead.begun.events =
    omega (arith, c.len-2.ensures, c.events.ensures.events, events_are opened c.args.core.now lead c.as_slice-2.result.now c.in_ok-ends.ends.items (c.as_slice-2.ensures.value ∙ batch) c.in_ok-ends.ensures.ends) in
    subst (λ (n : ℕ). IsLeaderOf n opened.snapshot (batches_of (content_in opened)) c.of_parts.result) before
    (subst (λ (l : List ℕ). IsLeaderOf (c.events.result - c.len-2.result) l (batches_of (content_in opened)) c.of_parts.result) c.into_vec.ensures.same
    (subst (λ (l : List ℕ). IsLeaderOf (c.events.result - c.len-2.result) c.into_vec.result.items l c.of_parts.result) batch c.of_parts.ensures.made))

pub returns-clause-leads : goal.returns-clause-leads
returns-clause-leads c = λ history stood.
    let opened = c.args.opened in
    let core = c.args.core.now in
    let whole : ℕ = c.length_of-whole.result in
    let many : whole ≡ min (sum_of opened.bodies) (length opened.batches) =
    omega (arith, c.length_of-whole.ensures.length, ap (λ (l : List Body). sum_of l) c.as_slice.ensures.same, c.len.ensures, ap (λ (l : List ℕ). length l) c.into_vec-records.ensures.same) in
    let batch : c.truncate.new.self.items ≡ batches_of (content_in opened) = c.truncate.ensures.items ∙ (ap (λ (l : List ℕ). take whole l) c.into_vec-records.ensures.same ∙ batches_are opened whole many) in
    let before : c.events.result - c.len-2.result ≡ length stood.older =
    omega (
      arith,
      c.len-2.ensures,
      c.events.ensures.events,
      older_are opened core c.requires.leads c.as_slice-2.result.now c.in_ok-ends.ends.items (c.as_slice-2.ensures.value ∙ batch) history c.snapshots_have_one_spelling.ensures.spelling c.snapshots_are_short.ensures.short c.requires.site c.in_ok-ends.ensures.ends stood,
    ) in
    let snapshot : IsSnapshotAfter core.site stood.older c.into_vec.result.items = subst (λ (l : List ℕ). IsSnapshotAfter core.site stood.older l) (sym c.into_vec.ensures.same) stood.snapshot in
    let later : SpellsEvents c.truncate.new.self.items stood.later = later_are opened core c.requires.leads c.truncate.new.self.items [] batch history stood in
    subst (λ (h : List Event). LeadsFor core.site h c.of_parts.result) (sym stood.together) (c.of_parts.ensures.leads core.site stood.older stood.later before snapshot later)
