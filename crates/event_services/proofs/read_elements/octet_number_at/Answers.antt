use Rattle.std.proofs.Common.{◌≡◌, ℕ, ◌<◌, ◌≤◌, Some, List, Ok, Err, refl, ap, sym, ◌∙◌}
use Rattle.std.proofs.lemmas.Result.{IfOk-from_err, err_from_is_err_and}
use Rattle.std.proofs.lemmas.Bool.{lt-ltb, le-ltb}
use Rattle.bac_tags.specs.declared.fault.TagFault.{TagFault}
use Rattle.bac_tags.specs.declared.fault.TagFault.TheVariants.{BadLength}
use Rattle.bac_tags.specs.ReadingSteps.{unsigned_at}
use Rattle.event_services.specs.NoteReadingSteps.{octet_number_at}
use Rattle.event_services.proofs.read_elements.octet_number_at.Goals as goal

octet_err : (input : List ℕ) (place number : ℕ) (e : TagFault) → Err e ≡ unsigned_at input place (Some number) → Err e ≡ octet_number_at number input place
unfolding octet_number_at
octet_err input place number e h = sym (rw (sym h) refl)

octet_ok : (input : List ℕ) (place number n after : ℕ) → Ok (n, after) ≡ unsigned_at input place (Some number) → n < 256 → Ok (n, after) ≡ octet_number_at number input place
unfolding octet_number_at
octet_ok input place number n after h lt = sym (rw (sym h, lt-ltb n 256 lt) refl)

octet_long : (input : List ℕ) (place number n after : ℕ) → Ok (n, after) ≡ unsigned_at input place (Some number) → 256 ≤ n → Err (BadLength place) ≡ octet_number_at number input place
unfolding octet_number_at
octet_long input place number n after h le = sym (rw (sym h, le-ltb n 256 le) refl)

pub returns-in_err-value : goal.returns-in_err-value
returns-in_err-value c =
    let p = err_from_is_err_and c.from_residual.result c.from_residual.ensures.1 in
    record {
      exact = p.1 ∙ ap Err p.2 ∙ octet_err c.args.input.now c.args.at c.args.number c.in_err-value.field-0.0 c.in_err-value.ensures.exact;
      within = IfOk-from_err c.from_residual.result _ c.from_residual.ensures.0;
    }

pub returns-then-value-lt256 : goal.returns-then-value-lt256
returns-then-value-lt256 c = record {
  exact = octet_ok c.args.input.now c.args.at c.args.number c.in_ok-value.value c.in_ok-value.after c.in_ok-value.ensures.exact c.if-value-lt256.true;
  within = c.in_ok-value.ensures.within;
}

pub returns-else-value-lt256 : goal.returns-else-value-lt256
returns-else-value-lt256 c = record {
  exact = octet_long c.args.input.now c.args.at c.args.number c.in_ok-value.value c.in_ok-value.after c.in_ok-value.ensures.exact c.if-value-lt256.false;
  within = tt;
}
