-- A session on a site's file, where its text is no site or isn't read.
use Rattle.std.proofs.Common.{◌≡◌, ◌≢◌, ◌⊎◌, ℕ, Option, Some, None, Result, Ok, Err, List, [], IfSome, OnOk, take, refl, ap, ◌∙◌, sym, subst, inl, inr}
use Rattle.ground_io.specs.Trace.{Told, WhereTold}
use Rattle.ground_io.proofs.Crashes.{adds_none}
use Rattle.alarm_journal.specs.Journal.{Site as Journal}
use Rattle.alarm_journal.specs.Press.{Reopens}
use Rattle.script_lines.specs.declared.line.Grammar.TheVariants.{Session}
use Rattle.script_lines.specs.Line.{line_says}
use Rattle.script_lines.specs.Script.{lines_of}
use Rattle.alarm_core.specs.declared.event.Event.{Event}
use Rattle.alarm_core.specs.declared.site.Site.{Site}
use Rattle.site_config.specs.declared.fault.SiteFault.{SiteFault}
use Rattle.site_config.specs.declared.fault.SiteFault.TheVariants as site_fault
use Rattle.site_config.specs.Sites.{site_of}
use Rattle.alarm_server.specs.declared.status.Status.{Status}
use Rattle.alarm_server.specs.declared.status.Status.TheVariants.{Done, Usage, SiteRefused, ScriptRefused, ReadFault, EmitFault, DiskFault, JournalRefused, NoMemory, LinkFault}
use Rattle.alarm_server.specs.Emission.{Going, Ends}
use Rattle.state_codec.specs.Keeping.{journal_of}
use Rattle.alarm_server.specs.OnFile.{EndsOnFile, EndsOnSite, KeepsOnFile, KeepsOnSite, RefusesFile}
use Rattle.alarm_server.specs.Openings.{EndsUnplayed, IsUnplayed, OpensOnFile, OpensOnSite}
use Rattle.alarm_server.specs.Script.{spelled_in}
use Rattle.alarm_server.specs.Report.{report_of}
use Rattle.alarm_server.specs.Pieces.{piece_text}
use Rattle.alarm_server.specs.Status.{IsSiteFault, of_site_fault}
use Rattle.alarm_server.specs.Text.{octets_read}
use Rattle.alarm_server.proofs.Emitting.{emits}
use Rattle.alarm_server.proofs.KeptOpenings.{untouched_at_once}
use Rattle.alarm_server.proofs.Sending.{Composes}
use Rattle.alarm_server.proofs.Texts.{front_says, whole_site}

-- ---- nothing went out

ends_on_site : (Goes : Going) → Composes Goes → (site : Site) (history : List Event) (ended : Status) (script : List ℕ) (told : Option Told) → IsSiteFault ended → Ends Goes piece_text ended (report_of site history script) told told
ends_on_site Goes composes site history Done script told fault = absurd fault
ends_on_site Goes composes site history Usage script told fault = absurd fault
ends_on_site Goes composes site history (SiteRefused f) script told fault = composes.nothing told
ends_on_site Goes composes site history (ScriptRefused line) script told fault = absurd fault
ends_on_site Goes composes site history ReadFault script told fault = ([], report_of site history script, refl, composes.nothing told)
ends_on_site Goes composes site history EmitFault script told fault = absurd fault
ends_on_site Goes composes site history DiskFault script told fault = absurd fault
ends_on_site Goes composes site history (JournalRefused refused) script told fault = absurd fault
ends_on_site Goes composes site history LinkFault script told fault = absurd fault
ends_on_site Goes composes site history NoMemory script told fault = ([], report_of site history script, refl, composes.nothing told)

-- it is the text's own fault, or the text wasn't read
pub own_fault : (octets : List ℕ) (fault : SiteFault) (ended : Status) → site_of octets ≡ Err fault → IsSiteFault ended → ((f : SiteFault) → ended ≡ SiteRefused f → RefusesFile (Some octets) f) →
    (ended ≡ SiteRefused fault) ⊎ ((ended ≡ ReadFault) ⊎ (ended ≡ NoMemory))
own_fault octets fault Done says site refused = absurd site
own_fault octets fault Usage says site refused = absurd site
own_fault octets fault (SiteRefused f) says site refused = let own : site_of octets ≡ Err f = (refused f refl).1 in let same : f ≡ fault = cc in inl (ap SiteRefused same)
own_fault octets fault (ScriptRefused line) says site refused = absurd site
own_fault octets fault ReadFault says site refused = inr (inl refl)
own_fault octets fault EmitFault says site refused = absurd site
own_fault octets fault DiskFault says site refused = absurd site
own_fault octets fault (JournalRefused why) says site refused = absurd site
own_fault octets fault LinkFault says site refused = absurd site
own_fault octets fault NoMemory says site refused = inr (inr refl)

ends_by : (Goes : Going) → Composes Goes → (octets script : List ℕ) (ended : Status) (told : Option Told) (says : Result Site SiteFault) → site_of octets ≡ says → IsSiteFault ended → ((f : SiteFault) → ended ≡ SiteRefused f → RefusesFile (Some octets) f) → EndsOnSite Goes ended octets says script told told
ends_by Goes composes octets script ended told (Ok site) says fault refused = λ history stood. ends_on_site Goes composes site history ended script told fault
ends_by Goes composes octets script ended told (Err f) says fault refused = (own_fault octets f ended says fault refused, composes.nothing told)

pub ends_unopened : (Goes : Going) → Composes Goes → (site script : Option (List ℕ)) (ended : Status) (told : Option Told) → IsSiteFault ended → ((f : SiteFault) → ended ≡ SiteRefused f → RefusesFile site f) → EndsOnFile Goes ended site script told told
ends_unopened Goes composes None script ended told fault refused = tt
ends_unopened Goes composes (Some octets) None ended told fault refused = tt
ends_unopened Goes composes (Some octets) (Some text) ended told fault refused = ends_by Goes composes octets text ended told (site_of octets) refl fault refused

keeps_by : (octets script : List ℕ) (told : Option Told) (says : Result Site SiteFault) → KeepsOnSite octets says script told told
keeps_by octets script told (Ok site) = λ history stood. untouched_at_once (journal_of site octets) site history (spelled_in (line_says Session) 0 (lines_of script)) 1 told
keeps_by octets script told (Err f) = adds_none told

pub keeps_unopened : (site script : Option (List ℕ)) (told : Option Told) → KeepsOnFile site script told told
keeps_unopened None script told = tt
keeps_unopened (Some octets) None told = tt
keeps_unopened (Some octets) (Some text) told = keeps_by octets text told (site_of octets)

-- a site was there, but it wasn't read
pub unplayed_by : (octets : List ℕ) (site : Site) (ended : Status) → site_of octets ≡ Ok site → IsSiteFault ended → ((f : SiteFault) → ended ≡ SiteRefused f → RefusesFile (Some octets) f) → IsUnplayed ended
unplayed_by octets site Done says fault refused = absurd fault
unplayed_by octets site Usage says fault refused = absurd fault
unplayed_by octets site (SiteRefused f) says fault refused = let own : site_of octets ≡ Err f = (refused f refl).1 in absurd cc
unplayed_by octets site (ScriptRefused line) says fault refused = absurd fault
unplayed_by octets site ReadFault says fault refused = tt
unplayed_by octets site EmitFault says fault refused = absurd fault
unplayed_by octets site DiskFault says fault refused = absurd fault
unplayed_by octets site (JournalRefused why) says fault refused = absurd fault
unplayed_by octets site LinkFault says fault refused = absurd fault
unplayed_by octets site NoMemory says fault refused = tt

-- nothing was done
pub reopens_same : (journal : Journal) (told : Option Told) → Reopens journal told told
reopens_same journal None = tt
reopens_same journal (Some told) = inl (adds_none (Some told))

module _ (FileFailed : Type 0) where
  opens_by : (octets script : List ℕ) (ended : Status) (told : Option Told) (says : Result Site SiteFault) → site_of octets ≡ says → IsSiteFault ended → ((f : SiteFault) → ended ≡ SiteRefused f → RefusesFile (Some octets) f) → (ended ≡ ReadFault → FileFailed) → OpensOnSite FileFailed octets says ended script told told
  opens_by octets script ended told (Ok site) says fault refused file =
      inl (record { unplayed = unplayed_by octets site ended says fault refused; file = file; quiet = emits.nothing told; reopens = reopens_same (journal_of site octets) told })
  opens_by octets script ended told (Err f) says fault refused file = emits.nothing told

  pub opens_unopened : (site script : Option (List ℕ)) (ended : Status) (told : Option Told) → IsSiteFault ended → ((f : SiteFault) → ended ≡ SiteRefused f → RefusesFile site f) → (ended ≡ ReadFault → FileFailed) → OpensOnFile FileFailed site ended script told told
  opens_unopened None script ended told fault refused file = tt
  opens_unopened (Some octets) None ended told fault refused file = tt
  opens_unopened (Some octets) (Some text) ended told fault refused file = opens_by octets text ended told (site_of octets) refl fault refused file

  -- what ended before the script was played for nothing of the file's source ended so whatever this has done
  pub ends_more : {journal : Journal} {ended : Status} {old new : Option Told} → EndsUnplayed ⊥ journal ended old new → EndsUnplayed FileFailed journal ended old new
  ends_more ends = record { unplayed = ends.unplayed; file = λ read. let never : ⊥ = ends.file read in absurd never; quiet = ends.quiet; reopens = ends.reopens }

  opens_more : (octets script : List ℕ) (ended : Status) (old new : Option Told) (says : Result Site SiteFault) → OpensOnSite ⊥ octets says ended script old new → OpensOnSite FileFailed octets says ended script old new
  opens_more octets script ended old new (Ok site) (inl ends) = inl (ends_more ends)
  opens_more octets script ended old new (Ok site) (inr opened) = inr opened
  opens_more octets script ended old new (Err f) opens = opens

  pub opens_behind : (octets : List ℕ) (script : Option (List ℕ)) (ended : Status) (old new : Option Told) (says : Result Site SiteFault) → IfSome script (λ t. OpensOnSite ⊥ octets says ended t old new) → IfSome script (λ t. OpensOnSite FileFailed octets says ended t old new)
  opens_behind octets None ended old new says opens = tt
  opens_behind octets (Some t) ended old new says opens = opens_more octets t ended old new says opens

-- ---- a site's text

-- what is so of the text and the site that it is
pub on_site : (P : List ℕ → Result Site SiteFault → Type 0) (source : Option (List ℕ)) (site : Site) (text : List ℕ) → IfSome source (λ octets. (site_of octets ≡ Ok site) × (octets ≡ text)) → P text (Ok site) → IfSome source (λ octets. P octets (site_of octets))
on_site P None site text is p = tt
on_site P (Some octets) site text (says, same) p = subst (λ (r : Result Site SiteFault). P octets r) (sym says) (subst (λ (o : List ℕ). P o (Ok site)) (sym same) p)

-- what is so of each script, whatever history there was before it
pub each_script : {A B : Type 0} (P : A → Type 0) (Q : B → A → Type 0) (script : Option B) → ((a : A) → P a → IfSome script (λ t. Q t a)) → IfSome script (λ t. (a : A) → P a → Q t a)
each_script P Q None all = tt
each_script P Q (Some t) all = all

pub each_told : {A B : Type 0} (P : A → Type 0) (Q : B → B → A → Type 0) (script left : Option B) → WhereTold script left (λ t rest. Unit {0}) → ((a : A) → P a → WhereTold script left (λ t rest. Q t rest a)) → WhereTold script left (λ t rest. (a : A) → P a → Q t rest a)
each_told P Q script None told all = tt
each_told P Q None (Some rest) told all = absurd told
each_told P Q (Some t) (Some rest) told all = all

-- the same where the text was handed on
pub on_read : (P : List ℕ → Result Site SiteFault → Type 0) (source : Option (List ℕ)) (site : Site) (read text : List ℕ) → text ≡ read → IfSome source (λ octets. (site_of octets ≡ Ok site) × (octets ≡ read)) → P text (Ok site) → IfSome source (λ octets. P octets (site_of octets))
on_read P None site read text handed is p = tt
on_read P (Some octets) site read text handed (says, same) p = subst (λ (r : Result Site SiteFault). P octets r) (sym says) (subst (λ (o : List ℕ). P o (Ok site)) (handed ∙ sym same) p)

-- what is so where a call ended well
pub on_ok_more : {A E : Type 0} (P Q : Type 0) (result : Result A E) → (P → Q) → OnOk result P → OnOk result Q
on_ok_more P Q (Ok x) to p = to p
on_ok_more P Q (Err fault) to p = tt

-- where it was told before and is told now
pub told_more : {A : Type 0} (P : A → A → Type 0) (before now : Option A) → WhereTold before now P → WhereTold before now (λ t rest. Unit {0})
told_more P before None p = tt
told_more P None (Some rest) p = p
told_more P (Some t) (Some rest) p = tt

-- ---- what is read is as good as the whole text

-- the text that was read is this site, and it is the whole text
pub file_is : (source : Option (List ℕ)) (text : List ℕ) (site : Site) → IfSome source (λ octets. text ≡ take octets_read octets) → site_of text ≡ Ok site → IfSome source (λ octets. (site_of octets ≡ Ok site) × (octets ≡ text))
file_is None text site front says = tt
file_is (Some octets) text site front says = (sym (front_says octets) ∙ (ap site_of (sym front) ∙ says), whole_site octets text site front says)

own_refusal : (found fault : SiteFault) → of_site_fault found ≡ SiteRefused fault → (found ≡ fault) × (found ≢ site_fault.NoMemory)
own_refusal site_fault.TooLong fault same = (cc, λ e. absurd cc)
own_refusal site_fault.NotToml fault same = (cc, λ e. absurd cc)
own_refusal (site_fault.Unknown place) fault same = (cc, λ e. absurd cc)
own_refusal (site_fault.Missing place) fault same = (cc, λ e. absurd cc)
own_refusal (site_fault.BadValue place) fault same = (cc, λ e. absurd cc)
own_refusal (site_fault.Duplicate object) fault same = (cc, λ e. absurd cc)
own_refusal (site_fault.Dangling object) fault same = (cc, λ e. absurd cc)
own_refusal (site_fault.TooMany what) fault same = (cc, λ e. absurd cc)
own_refusal site_fault.NoMemory fault same = absurd cc

-- the text has this fault, where a program is refused by it
pub text_refused : (text : List ℕ) (found fault : SiteFault) → (found ≡ site_fault.NoMemory) ⊎ (site_of text ≡ Err found) → of_site_fault found ≡ SiteRefused fault → (fault ≢ site_fault.NoMemory) × (site_of text ≡ Err fault)
text_refused text found fault given same =
    let own = own_refusal found fault same in
    let refused : fault ≢ site_fault.NoMemory = λ e. own.1 (own.0 ∙ e) in
    elim given [
      | inl no_memory ↦ let never : ⊥ = own.1 no_memory in absurd never
      | inr says ↦ (refused, says ∙ ap Err own.0)
    ]

file_has : (source : Option (List ℕ)) (text : List ℕ) (fault : SiteFault) → IfSome source (λ octets. text ≡ take octets_read octets) → site_of text ≡ Err fault → IfSome source (λ octets. site_of octets ≡ Err fault)
file_has None text fault front says = tt
file_has (Some octets) text fault front says = sym (front_says octets) ∙ (ap site_of (sym front) ∙ says)

pub file_refused : (source : Option (List ℕ)) (text : List ℕ) (found fault : SiteFault) → IfSome source (λ octets. text ≡ take octets_read octets) → (found ≡ site_fault.NoMemory) ⊎ (site_of text ≡ Err found) → of_site_fault found ≡ SiteRefused fault → RefusesFile source fault
file_refused source text found fault front given same =
    let refused = text_refused text found fault given same in
    (refused.0, file_has source text fault front refused.1)
