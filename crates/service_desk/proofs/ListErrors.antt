-- An error of a service that edits a list is no longer than any requester takes.
use Rattle.std.proofs.Common.{◌≡◌, ℕ, ◌≤◌, Some, None, ◌++◌, length, refl, lit≤, arith}
use Rattle.std.specs.Prelude.{nat_lt}
use Rattle.std.proofs.lemmas.List.{length-append}
use Rattle.apdu_frame.specs.Writing.{written_list_error}
use Rattle.bac_tags.specs.EnclosingTags.{opening, closing}
use Rattle.bac_tags.specs.ParameterWriting.{written_enclosed}
use Rattle.bac_tags.specs.Writing.{written_enumerated, written_tag, written_unsigned}
use Rattle.bac_values.specs.declared.service_error.ServiceError.{ServiceError}
use Rattle.service_desk.specs.Requesters.{RequesterData}
use Rattle.service_desk.specs.Laws.{FitsRequester}
use Rattle.service_desk.specs.Replies.{list_error}
use Rattle.service_desk.proofs.Greatest.{by_case}

number_length : (n : ℕ) → length (written_unsigned (Some 1) n) ≤ 5
unfolding written_tag
number_length n =
    by_case (nat_lt n 256) (λ one. rw one (lit≤ tt)) (λ more. rw more (by_case (nat_lt n 65536) (λ two. rw two (lit≤ tt)) (λ much.
    rw much (by_case (nat_lt n 16777216) (λ three. rw three (lit≤ tt)) (λ four. rw four (lit≤ tt))))))

enumerated_length : (n : ℕ) → length (written_enumerated None n) ≤ 5
unfolding written_tag
enumerated_length n =
    by_case (nat_lt n 256) (λ one. rw one (lit≤ tt)) (λ more. rw more (by_case (nat_lt n 65536) (λ two. rw two (lit≤ tt)) (λ much.
    rw much (by_case (nat_lt n 16777216) (λ three. rw three (lit≤ tt)) (λ four. rw four (lit≤ tt))))))

opening_length : length (written_tag (opening 0)) ≡ 1
unfolding written_tag
opening_length = refl

closing_length : length (written_tag (closing 0)) ≡ 1
unfolding written_tag
closing_length = refl

list_error_length : (invoke service class code element : ℕ) → length (written_list_error invoke service class code element) ≤ 20
list_error_length invoke service class code element =
    let named = written_enumerated None class ++ written_enumerated None code in
    let number = written_unsigned (Some 1) element in
    omega (
      arith,
      length-append (written_enumerated None class) (written_enumerated None code),
      length-append (written_enclosed 0 named) number,
      length-append (written_tag (opening 0) ++ named) (written_tag (closing 0)),
      length-append (written_tag (opening 0)) named,
      opening_length,
      closing_length,
      enumerated_length class,
      enumerated_length code,
      number_length element,
    )

pub list_error_fits : (requester : RequesterData) (error : ServiceError) (element : ℕ) → 50 ≤ requester.max_apdu → FitsRequester requester (list_error requester error element)
list_error_fits requester error element least =
    record { apdu = written_list_error requester.invoke requester.service error.class error.code element; framed = refl; short = omega (arith, least, list_error_length requester.invoke requester.service error.class error.code element) }
