use Rattle.std.proofs.Common.{refl, inl, inr}
use Rattle.std.proofs.lemmas.Result.{err_from_is_err_and, IfOk-from_err}
use Rattle.site_config.specs.Devices.{device_of}
use Rattle.site_config.proofs.device.device_of.Goals as goal

pub returns-in_err-instance : goal.returns-in_err-instance
unfolding device_of
returns-in_err-instance c =
    let p = err_from_is_err_and c.from_residual.result c.from_residual.ensures.1 in
    record {
      answer = rw (p.1, p.2) (elim c.in_err-instance.ensures.answer [
        | inl refused ↦ inl refused
        | inr is ↦ inr (rw is refl)
      ]);
      start = IfOk-from_err c.from_residual.result _ c.from_residual.ensures.0;
      zone = IfOk-from_err c.from_residual.result _ c.from_residual.ensures.0;
    }

pub returns-in_err-name : goal.returns-in_err-name
unfolding device_of
returns-in_err-name c =
    let p = err_from_is_err_and c.from_residual-in_err-name.result c.from_residual-in_err-name.ensures.1 in
    record {
      answer = rw (p.1, p.2, c.in_ok-instance.ensures.answer) (elim (rw c.identifier.ensures.object at c.in_err-name.ensures.answer) [
        | inl refused ↦ inl refused
        | inr is ↦ inr (rw is refl)
      ]);
      start = IfOk-from_err c.from_residual-in_err-name.result _ c.from_residual-in_err-name.ensures.0;
      zone = IfOk-from_err c.from_residual-in_err-name.result _ c.from_residual-in_err-name.ensures.0;
    }

pub returns-in_err-vendor : goal.returns-in_err-vendor
unfolding device_of
returns-in_err-vendor c =
    let name = rw c.identifier.ensures.object at c.in_ok-name.ensures.answer in
    let p = err_from_is_err_and c.from_residual-in_err-vendor.result c.from_residual-in_err-vendor.ensures.1 in
    record {
      answer = rw (p.1, p.2, c.in_ok-instance.ensures.answer, name) (elim c.in_err-vendor.ensures.answer [
        | inl refused ↦ inl refused
        | inr is ↦ inr (rw is refl)
      ]);
      start = IfOk-from_err c.from_residual-in_err-vendor.result _ c.from_residual-in_err-vendor.ensures.0;
      zone = IfOk-from_err c.from_residual-in_err-vendor.result _ c.from_residual-in_err-vendor.ensures.0;
    }

pub returns-in_err-start : goal.returns-in_err-start
unfolding device_of
returns-in_err-start c =
    let name = rw c.identifier.ensures.object at c.in_ok-name.ensures.answer in
    let p = err_from_is_err_and c.from_residual-in_err-start.result c.from_residual-in_err-start.ensures.1 in
    record {
      answer = rw (p.1, p.2, c.in_ok-instance.ensures.answer, name, c.in_ok-vendor.ensures.answer) (elim c.in_err-start.ensures.answer [
        | inl refused ↦ inl refused
        | inr is ↦ inr (rw is refl)
      ]);
      start = IfOk-from_err c.from_residual-in_err-start.result _ c.from_residual-in_err-start.ensures.0;
      zone = IfOk-from_err c.from_residual-in_err-start.result _ c.from_residual-in_err-start.ensures.0;
    }

pub returns-in_err-zone_minutes : goal.returns-in_err-zone_minutes
unfolding device_of
returns-in_err-zone_minutes c =
    let name = rw c.identifier.ensures.object at c.in_ok-name.ensures.answer in
    let p = err_from_is_err_and c.from_residual-in_err-zone_minutes.result c.from_residual-in_err-zone_minutes.ensures.1 in
    record {
      answer = rw (p.1, p.2, c.in_ok-instance.ensures.answer, name, c.in_ok-vendor.ensures.answer, c.in_ok-start.ensures.answer) (elim c.in_err-zone_minutes.ensures.answer [
        | inl refused ↦ inl refused
        | inr is ↦ inr (rw is refl)
      ]);
      start = IfOk-from_err c.from_residual-in_err-zone_minutes.result _ c.from_residual-in_err-zone_minutes.ensures.0;
      zone = IfOk-from_err c.from_residual-in_err-zone_minutes.result _ c.from_residual-in_err-zone_minutes.ensures.0;
    }

pub returns-in_err-zone_rule : goal.returns-in_err-zone_rule
unfolding device_of
returns-in_err-zone_rule c =
    let name = rw c.identifier.ensures.object at c.in_ok-name.ensures.answer in
    let p = err_from_is_err_and c.from_residual-in_err-zone_rule.result c.from_residual-in_err-zone_rule.ensures.1 in
    record {
      answer = rw (p.1, p.2, c.in_ok-instance.ensures.answer, name, c.in_ok-vendor.ensures.answer, c.in_ok-start.ensures.answer, c.in_ok-zone_minutes.ensures.answer) (elim c.in_err-zone_rule.ensures.answer [
        | inl refused ↦ inl refused
        | inr is ↦ inr (rw is refl)
      ]);
      start = IfOk-from_err c.from_residual-in_err-zone_rule.result _ c.from_residual-in_err-zone_rule.ensures.0;
      zone = IfOk-from_err c.from_residual-in_err-zone_rule.result _ c.from_residual-in_err-zone_rule.ensures.0;
    }

pub returns-in_err-apdu_timeout : goal.returns-in_err-apdu_timeout
unfolding device_of
returns-in_err-apdu_timeout c =
    let name = rw c.identifier.ensures.object at c.in_ok-name.ensures.answer in
    let p = err_from_is_err_and c.from_residual-in_err-apdu_timeout.result c.from_residual-in_err-apdu_timeout.ensures.1 in
    record {
      answer = rw (p.1, p.2, c.in_ok-instance.ensures.answer, name, c.in_ok-vendor.ensures.answer, c.in_ok-start.ensures.answer, c.in_ok-zone_minutes.ensures.answer, c.in_ok-zone_rule.ensures.answer) (elim c.in_err-apdu_timeout.ensures.answer [
        | inl refused ↦ inl refused
        | inr is ↦ inr (rw is refl)
      ]);
      start = IfOk-from_err c.from_residual-in_err-apdu_timeout.result _ c.from_residual-in_err-apdu_timeout.ensures.0;
      zone = IfOk-from_err c.from_residual-in_err-apdu_timeout.result _ c.from_residual-in_err-apdu_timeout.ensures.0;
    }

pub returns-in_err-retries : goal.returns-in_err-retries
unfolding device_of
returns-in_err-retries c =
    let name = rw c.identifier.ensures.object at c.in_ok-name.ensures.answer in
    let p = err_from_is_err_and c.from_residual-in_err-retries.result c.from_residual-in_err-retries.ensures.1 in
    record {
      answer = rw (p.1, p.2, c.in_ok-instance.ensures.answer, name, c.in_ok-vendor.ensures.answer, c.in_ok-start.ensures.answer, c.in_ok-zone_minutes.ensures.answer, c.in_ok-zone_rule.ensures.answer, c.in_ok-apdu_timeout.ensures.answer) (elim c.in_err-retries.ensures.answer [
        | inl refused ↦ inl refused
        | inr is ↦ inr (rw is refl)
      ]);
      start = IfOk-from_err c.from_residual-in_err-retries.result _ c.from_residual-in_err-retries.ensures.0;
      zone = IfOk-from_err c.from_residual-in_err-retries.result _ c.from_residual-in_err-retries.ensures.0;
    }

pub returns-in_err-outbox : goal.returns-in_err-outbox
unfolding device_of
returns-in_err-outbox c =
    let name = rw c.identifier.ensures.object at c.in_ok-name.ensures.answer in
    let p = err_from_is_err_and c.from_residual-in_err-outbox.result c.from_residual-in_err-outbox.ensures.1 in
    record {
      answer = rw (p.1, p.2, c.in_ok-instance.ensures.answer, name, c.in_ok-vendor.ensures.answer, c.in_ok-start.ensures.answer, c.in_ok-zone_minutes.ensures.answer, c.in_ok-zone_rule.ensures.answer, c.in_ok-apdu_timeout.ensures.answer, c.in_ok-retries.ensures.answer) (elim c.in_err-outbox.ensures.answer [
        | inl refused ↦ inl refused
        | inr is ↦ inr (rw is refl)
      ]);
      start = IfOk-from_err c.from_residual-in_err-outbox.result _ c.from_residual-in_err-outbox.ensures.0;
      zone = IfOk-from_err c.from_residual-in_err-outbox.result _ c.from_residual-in_err-outbox.ensures.0;
    }

pub returns-in_err-flush_silent : goal.returns-in_err-flush_silent
unfolding device_of
returns-in_err-flush_silent c =
    let name = rw c.identifier.ensures.object at c.in_ok-name.ensures.answer in
    let p = err_from_is_err_and c.from_residual-in_err-flush_silent.result c.from_residual-in_err-flush_silent.ensures.1 in
    record {
      answer = rw (p.1, p.2, c.in_ok-instance.ensures.answer, name, c.in_ok-vendor.ensures.answer, c.in_ok-start.ensures.answer, c.in_ok-zone_minutes.ensures.answer, c.in_ok-zone_rule.ensures.answer, c.in_ok-apdu_timeout.ensures.answer, c.in_ok-retries.ensures.answer, c.in_ok-outbox.ensures.answer) (elim c.in_err-flush_silent.ensures.answer [
        | inl refused ↦ inl refused
        | inr is ↦ inr (rw is refl)
      ]);
      start = IfOk-from_err c.from_residual-in_err-flush_silent.result _ c.from_residual-in_err-flush_silent.ensures.0;
      zone = IfOk-from_err c.from_residual-in_err-flush_silent.result _ c.from_residual-in_err-flush_silent.ensures.0;
    }
