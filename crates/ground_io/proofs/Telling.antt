-- What a ground in memory tells once an entry more came.
use Rattle.std.proofs.Common.{◌≡◌, ℕ, Bool, true, false, List, [], ◌∷◌, ◌++◌, Option, Some, None, unwrap_or, Result, Ok, Err, IfOk, refl, sym, ap, subst, ◌∙◌, length}
use Rattle.std.proofs.lemmas.List.Elements.{All-append, All-cons, All-nil}
use Rattle.std.specs.Result.{result_ok}
use Rattle.bac_values.specs.Address.{PeerData}
use Rattle.ground_io.specs.Disk.{Disk, IsInside}
use Rattle.ground_io.specs.Image.{contents_with}
use Rattle.ground_io.specs.InMemory.{AreTold}
use Rattle.ground_io.specs.Past.{GoesOn}
use Rattle.ground_io.specs.Trace.{Told, disk_of, sending}
use Rattle.ground_io.specs.declared.entry.Entry.{Entry}
use Rattle.ground_io.specs.declared.past.Past.{Past}
use Rattle.ground_io.proofs.Disks.{disk_after-append, contents_after, length-disk_after}

pub untold : (past : Option Past) (contents now : List ℕ) (entry : Entry) → GoesOn past None contents now entry
untold past contents now entry = record { told = tt; kept = λ _. tt }

pub told_length : (contents : List ℕ) (told : Told) → AreTold contents (Some told) → length contents ≡ length told.first
told_length contents told is = ap length is.0 ∙ length-disk_after told.trace (record { contents = told.first; loose = [] }) is.1

kept_more : (contents now : List ℕ) (told : Told) (entry : Entry) → IsInside (length contents) entry → now ≡ contents_with entry contents → AreTold contents (Some told)
    → AreTold now (Some (record { first = told.first; trace = told.trace ++ entry ∷ [] }))
kept_more contents now told entry inside is kept = (
  is ∙ ap (contents_with entry) kept.0 ∙ sym (contents_after entry (disk_of told)) ∙ ap (λ (d : Disk). d.contents) (sym (disk_after-append told.trace (entry ∷ []) (record { contents = told.first; loose = [] }))),
  All-append (IsInside (length told.first)) told.trace (entry ∷ []) kept.1 (All-cons (IsInside (length told.first)) entry [] (subst (λ (n : ℕ). IsInside n entry) (told_length contents told kept) inside) (All-nil (IsInside (length told.first)))),
)

pub goes_on : (past more : Past) (contents now : List ℕ) (entry : Entry) → IsInside (length contents) entry → now ≡ contents_with entry contents
    → unwrap_or more.first now ≡ unwrap_or past.first contents → more.entries.items ≡ past.entries.items ++ entry ∷ [] → GoesOn (Some past) (Some more) contents now entry
goes_on past more contents now entry inside is first entries = record {
  told = (first, entries);
  kept = λ kept. subst (λ (l : List ℕ). AreTold now (Some (record { first = l; trace = more.entries.items }))) (sym first)
      (subst (λ (l : List Entry). AreTold now (Some (record { first = unwrap_or past.first contents; trace = l }))) (sym entries)
      (kept_more contents now (record { first = unwrap_or past.first contents; trace = past.entries.items }) entry inside is kept));
}

-- where a result is the past with the entry more, or an error
pub goes_on_or_untold : {E : Type 0} (past : Past) (made : Result Past E) (contents now : List ℕ) (entry : Entry) → IsInside (length contents) entry → now ≡ contents_with entry contents
    → IfOk made (λ more. unwrap_or more.first now ≡ unwrap_or past.first contents) → IfOk made (λ more. more.entries.items ≡ past.entries.items ++ entry ∷ []) → GoesOn (Some past) (result_ok made) contents now entry
goes_on_or_untold past (Ok more) contents now entry inside is first entries = goes_on past more contents now entry inside is first entries
goes_on_or_untold past (Err fault) contents now entry inside is first entries = untold (Some past) contents now entry

pub same_first : {E : Type 0} (past : Past) (made : Result Past E) (contents : List ℕ) → IfOk made (λ more. more.first ≡ past.first) → IfOk made (λ more. unwrap_or more.first contents ≡ unwrap_or past.first contents)
same_first past (Ok more) contents is = ap (λ (o : Option (List ℕ)). unwrap_or o contents) is
same_first past (Err fault) contents is = tt

pub put_first : {E : Type 0} (past : Past) (made : Result Past E) (contents now : List ℕ) → IfOk made (λ more. more.first ≡ Some (unwrap_or past.first contents)) → IfOk made (λ more. unwrap_or more.first now ≡ unwrap_or past.first contents)
put_first past (Ok more) contents now is = ap (λ (o : Option (List ℕ)). unwrap_or o now) is
put_first past (Err fault) contents now is = tt

pub sending_inside : (lost : Bool) (peer : PeerData) (octets contents : List ℕ) → IsInside (length contents) (sending lost peer octets)
sending_inside true peer octets contents = tt
sending_inside false peer octets contents = tt

pub sending_keeps : (lost : Bool) (peer : PeerData) (octets contents : List ℕ) → contents ≡ contents_with (sending lost peer octets) contents
sending_keeps true peer octets contents = refl
sending_keeps false peer octets contents = refl
