-- The front of a site's text that is read is as good as the whole of it.
use Rattle.bac_values.specs.Limits.{most_site_octets}
use Rattle.std.proofs.Common.{◌≡◌, ◌≤◌, ◌<◌, ℕ, true, nat_lt, if◌then◌else◌, Option, Some, None, Ok, Err, List, [], ◌++◌, IfSome, length, take, ap, ◌∙◌, sym, arith, append-nil, inl, inr}
use Rattle.std.specs.Io.KnownBytes.{IsAtEnd, prepend_known}
use Rattle.ground_io.specs.Source.{Keeps}
use Rattle.ground_io.specs.Trace.{still}
use Rattle.std.proofs.lemmas.Bool.{cases_Bool, ltb-false, ltb-true}
use Rattle.std.proofs.lemmas.List.{length-take, take-append-le, take_all}
use Rattle.alarm_core.specs.declared.site.Site.{Site}
use Rattle.site_config.specs.declared.fault.SiteFault.TheVariants.{TooLong}
use Rattle.site_config.specs.Sites.{document_of, site_of, site_or_no_toml}
use Rattle.alarm_server.specs.Text.{octets_read}

-- the source came to its end
pub reads_all : (source left : Option (List ℕ)) (text : List ℕ) → Keeps (prepend_known [] source) (prepend_known text left) → IsAtEnd left → length text ≤ octets_read → IfSome (still source left) (λ octets. text ≡ take octets_read octets)
reads_all source None text kept end short = tt
reads_all None (Some rest) text kept end short = tt
reads_all (Some octets) (Some rest) text kept end short =
    let same : text ≡ octets = sym (append-nil text) ∙ (ap (λ l. text ++ l) (sym end) ∙ kept) in
    sym (take_all octets_read text short) ∙ ap (take octets_read) same

-- as many octets were read as tell that the text is too long
pub reads_front : (source left : Option (List ℕ)) (text : List ℕ) → Keeps (prepend_known [] source) (prepend_known text left) → octets_read ≤ length text → length text ≤ octets_read → IfSome (still source left) (λ octets. text ≡ take octets_read octets)
reads_front source None text kept long short = tt
reads_front None (Some rest) text kept long short = tt
reads_front (Some octets) (Some rest) text kept long short =
    sym (take_all octets_read text short) ∙ (sym (take-append-le octets_read text rest long) ∙ ap (take octets_read) kept)

is_above : (a b : ℕ) → a < b → nat_lt a b ≡ true
is_above a b less = elim (cases_Bool (nat_lt a b)) [
  | inl above ↦ above
  | inr low ↦ let not_less = ltb-false a b low in let never : ⊥ = omega (arith, less, not_less) in absurd never
]

too_long : (text : List ℕ) → nat_lt most_site_octets (length text) ≡ true → site_of text ≡ Err TooLong
unfolding site_of
too_long text above = ap (λ b. if b then Err TooLong else site_or_no_toml (document_of text)) above

-- the site, or the first fault, is the same
pub front_says : (octets : List ℕ) → site_of (take octets_read octets) ≡ site_of octets
front_says octets = elim (cases_Bool (nat_lt most_site_octets (length octets))) [
  | inl above ↦
      let long = ltb-true most_site_octets (length octets) above in
      let count = length-take octets_read octets in
      let front : most_site_octets < length (take octets_read octets) = omega (arith, long, count) in
      too_long (take octets_read octets) (is_above most_site_octets (length (take octets_read octets)) front) ∙ sym (too_long octets above)
  | inr low ↦ let short = ltb-false most_site_octets (length octets) low in ap site_of (take_all octets_read octets (omega (arith, short)))
]

-- a text that is a site isn't too long
pub short_site : (text : List ℕ) (site : Site) → site_of text ≡ Ok site → length text ≤ most_site_octets
short_site text site says = elim (cases_Bool (nat_lt most_site_octets (length text))) [
  | inl above ↦ let refused = too_long text above in absurd cc
  | inr low ↦ ltb-false most_site_octets (length text) low
]

-- and where it was read, it is the whole of its source
pub whole_site : (octets text : List ℕ) (site : Site) → text ≡ take octets_read octets → site_of text ≡ Ok site → octets ≡ text
whole_site octets text site front says =
    let short = short_site text site says in
    let count = length-take octets_read octets in
    sym (take_all octets_read octets (omega (arith, short, count, ap (λ (l : List ℕ). length l) front))) ∙ sym front
