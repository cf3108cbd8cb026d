use Rattle.std.proofs.Common.{ℕ, List, arith}
use Rattle.property_services.specs.declared.requests.ReadRequest.{ReadRequest}
use Rattle.property_services.proofs.Writes.{whole_answers}
use Rattle.property_services.proofs.write_property.write_property_of.Goals as goal

pub returns-in_err-value-clause-no_memory : goal.returns-in_err-value-clause-no_memory
returns-in_err-value-clause-no_memory c = λ _.
    let text = c.in_err-value.ensures.no_memory in
    let written : ReadRequest × List ℕ = (c.in-Ok.written.0, c.in-Ok.written.1.now) in
    record {
      written = written;
      text = text.0;
      end = text.1;
      whole = (whole_answers c.args.bytes.now (λ i. omega (arith, c.type_inv.bytes i))).found written c.in-Ok.ensures.exact;
      there = text.2;
    }
