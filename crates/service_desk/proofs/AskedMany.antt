-- What the parameters of ReadPropertyMultiple ask, by what its reader answered.
use Rattle.std.proofs.Common.{◌≡◌, ℕ, Option, Result, Ok, Err, List, inl, inr}
use Rattle.std.specs.Prelude.{slice_get}
use Rattle.bac_tags.specs.declared.malformed.Malformed.{Malformed}
use Rattle.bac_tags.proofs.Standing.{IsBytes}
use Rattle.bac_tags.proofs.Steps.{bind_err, bind_ok}
use Rattle.summaries.specs.declared.requested.Spec.{Spec}
use Rattle.summaries.specs.ManyRequests.{ObjectAsked, SpellsReadMany, specs_in}
use Rattle.summaries.specs.ManySteps.{groups_of, many_request_of}
use Rattle.summaries.proofs.Grouped.{read_many_answers}

abbrev first_of : List ObjectAsked → Result (Option Spec) Malformed
first_of groups = Ok (slice_get (specs_in groups) 0)

pub groups_found : (input : List ℕ) (bytes : IsBytes input) (spec : Option Spec) → many_request_of input 0 ≡ Ok spec → (groups : List ObjectAsked) × (groups_of input ≡ Ok groups) × SpellsReadMany input groups
groups_found input bytes spec e =
    let a = bind_ok (groups_of input) first_of spec e in
    (a.0, a.1, (read_many_answers input bytes).found a.0 a.1)

pub fault_found : (input : List ℕ) (fault : Malformed) → many_request_of input 0 ≡ Err fault → groups_of input ≡ Err fault
fault_found input fault e = elim (bind_err (groups_of input) first_of fault e) [ inl here ↦ here | inr never ↦ absurd (let bad = never.2 in cc) ]
