-- What a crash leaves, stretch by stretch: of the first piece, of each line, of the lines so far, and of the end.
use Rattle.std.proofs.Common.{◌≡◌, ◌⊎◌, ℕ, ◌+◌, ◌≤◌, Option, Some, None, List, [], ◌∷◌, ◌++◌, length, take, refl, ap, ◌∙◌, sym, subst, inl, inr, arith, append_assoc}
use Rattle.std.proofs.lemmas.List.{append-nil, append_cancel_left, length-append, take-append-le, take_all}
use Rattle.std.proofs.Math.Seq.{take-append-add}
use Rattle.ground_io.specs.Disk.{Disk, Always, after_entry, disk_after}
use Rattle.ground_io.specs.Sent.{Along, AreQuiet, emissions, sent_after, sent_with}
use Rattle.ground_io.specs.Trace.{Told, Adds, disk_of}
use Rattle.ground_io.specs.declared.entry.Entry.{Entry}
use Rattle.ground_io.specs.declared.entry.Entry.TheVariants.{Wrote, Broke, Synced, Emitted, Lost}
use Rattle.ground_io.proofs.Crashes.{adds_both, adds_none, disk_adds}
use Rattle.ground_io.proofs.Sendings.{along-append, quiet_sends_nothing}
use Rattle.alarm_journal.specs.Journal.{Content, OpensTo}
use Rattle.alarm_journal.specs.Journal.{Site as Journal}
use Rattle.alarm_journal.specs.Press.{Lasts, Throughout}
use Rattle.script_lines.specs.declared.line.Line.{Line}
use Rattle.alarm_core.specs.declared.event.Event.{Event}
use Rattle.alarm_core.specs.declared.site.Site.{Site}
use Rattle.state_codec.specs.Contents.{ImageStands, StandsForHistory}
use Rattle.state_codec.specs.Emission.{Emits}
use Rattle.state_codec.specs.Keeping.{Commits}
use Rattle.alarm_server.specs.Keeping.{KeepsLines, KeepsReport, LeavesLines, LeavesReport}
use Rattle.alarm_server.specs.Report.{history_over, history_with}

-- ---- the history over some lines

pub history-none : (site : Site) (history : List Event) → history_over site history [] ≡ history
unfolding history_over
history-none site history = refl

pub history-one : (site : Site) (history : List Event) (line : Line) → history_over site history (line ∷ []) ≡ history_with site history line
unfolding history_over
history-one site history line = refl

pub history-append : (site : Site) (first second : List Line) (history : List Event) → history_over site history (first ++ second) ≡ history_over site (history_over site history first) second
unfolding history_over
history-append site [] second history = refl
history-append site (line ∷ first) second history = history-append site first second (history_with site history line)

-- ---- along a trace

-- what was sent before stands in front
sent_under : (before sent : List Entry) (entry : Entry) → sent_with entry (before ++ sent) ≡ before ++ sent_with entry sent
sent_under before sent (Wrote place octets) = refl
sent_under before sent (Broke place tried left) = refl
sent_under before sent Synced = refl
sent_under before sent (Emitted peer octets) = append_assoc before sent (Emitted peer octets ∷ [])
sent_under before sent (Lost peer octets) = append_assoc before sent (Lost peer octets ∷ [])

pub along_under : (P Q : List Entry → List ℕ → Type 0) (before : List Entry) → ((sent : List Entry) (image : List ℕ) → P sent image → Q (before ++ sent) image)
    → (sent : List Entry) (disk : Disk) (entries : List Entry) → Along P sent disk entries → Along Q (before ++ sent) disk entries
along_under P Q before to sent disk [] all = λ image may. to sent image (all image may)
along_under P Q before to sent disk (entry ∷ entries) all =
    (λ image may. to sent image (all.0 image may), subst (λ (s : List Entry). Along Q s (after_entry entry disk) entries) (sym (sent_under before sent entry)) (along_under P Q before to (sent_with entry sent) (after_entry entry disk) entries all.1))

sent_grows : (entry : Entry) (sent : List Entry) → length sent ≤ length (sent_with entry sent)
sent_grows (Wrote place octets) sent = omega arith
sent_grows (Broke place tried left) sent = omega arith
sent_grows Synced sent = omega arith
sent_grows (Emitted peer octets) sent = omega (arith, length-append sent (Emitted peer octets ∷ []))
sent_grows (Lost peer octets) sent = omega (arith, length-append sent (Lost peer octets ∷ []))

sent_grow : (entries sent : List Entry) → length sent ≤ length (sent_after entries sent)
sent_grow [] sent = omega arith
sent_grow (entry ∷ entries) sent = omega (arith, sent_grows entry sent, sent_grow entries (sent_with entry sent))

-- where at most so many are sent in all, it is one about images alone
pub along_few : (P : List Entry → List ℕ → Type 0) (Q : List ℕ → Type 0) (most : ℕ) → ((sent : List Entry) (image : List ℕ) → length sent ≤ most → Q image → P sent image)
    → (sent : List Entry) (disk : Disk) (entries : List Entry) → length (sent_after entries sent) ≤ most → Always Q disk entries → Along P sent disk entries
along_few P Q most to sent disk [] few all = λ image may. to sent image few (all image may)
along_few P Q most to sent disk (entry ∷ entries) few all =
    (λ image may. to sent image (omega (arith, few, sent_grows entry sent, sent_grow entries (sent_with entry sent))) (all.0 image may), along_few P Q most to (sent_with entry sent) (after_entry entry disk) entries few all.1)

-- the same where at least so many were sent before
pub along_least : (P : List Entry → List ℕ → Type 0) (Q : List ℕ → Type 0) (least : ℕ) → ((sent : List Entry) (image : List ℕ) → least ≤ length sent → Q image → P sent image)
    → (sent : List Entry) (disk : Disk) (entries : List Entry) → least ≤ length sent → Always Q disk entries → Along P sent disk entries
along_least P Q least to sent disk [] some all = λ image may. to sent image some (all image may)
along_least P Q least to sent disk (entry ∷ entries) some all =
    (λ image may. to sent image some (all.0 image may), along_least P Q least to (sent_with entry sent) (after_entry entry disk) entries (omega (arith, some, sent_grows entry sent)) all.1)

-- the same entries led from one to the other
same_entries : (old new : Told) (first second : List Entry) → Adds (Some old) (Some new) first → Adds (Some old) (Some new) second → first ≡ second
same_entries old new first second one two = append_cancel_left old.trace first second (sym one.1 ∙ two.1)

module _ (journal : Journal) (site : Site) where
  -- ---- one stretch and another behind it

  -- among more lines
  more_lines : (history : List Event) (first second : List Line) (before : ℕ) (sent : List Entry) (image : List ℕ) → LeavesLines journal site history first before sent image → LeavesLines journal site history (first ++ second) before sent image
  more_lines history first second before sent image (count, most, few, ahead, stands) =
      (count, omega (arith, most, length-append first second), few, ahead, subst (λ (ls : List Line). ImageStands journal site image (history_over site history ls)) (sym (take-append-le count first second most)) stands)

  -- behind other lines, whose pieces were all sent
  behind_lines : (history : List Event) (first second : List Line) (before : ℕ) (pieces sent : List Entry) (image : List ℕ) → length pieces ≡ before + length first
      → LeavesLines journal site (history_over site history first) second 0 sent image → LeavesLines journal site history (first ++ second) before (pieces ++ sent) image
  behind_lines history first second before pieces sent image all (count, most, few, ahead, stands) = (
    length first + count,
    omega (arith, most, length-append first second),
    omega (arith, few, all, length-append pieces sent),
    omega (arith, ahead, all, length-append pieces sent),
    subst (λ (h : List Event). ImageStands journal site image h)
        (sym (history-append site first (take count second) history) ∙ ap (λ (ls : List Line). history_over site history ls) (sym (take-append-add first second count))) stands,
  )

  -- some lines whose pieces were all sent, and others behind them
  pub lines_then : (history : List Event) (first second : List Line) (before : ℕ) (old mid new : Option Told) (pieces : List Entry) → Emits old mid pieces → length pieces ≡ before + length first
      → KeepsLines journal site history first before old mid → KeepsLines journal site (history_over site history first) second 0 mid new → KeepsLines journal site history (first ++ second) before old new
  lines_then history first second before old mid None pieces goes all one two = tt
  lines_then history first second before old None (Some new) pieces goes all one two = absurd two
  lines_then history first second before None (Some mid) (Some new) pieces goes all one two = absurd one
  lines_then history first second before (Some old) (Some mid) (Some new) pieces (more, goes, are) all (entries, adds, along) (others, adds_too, along_too) =
      let P = LeavesLines journal site history (first ++ second) before in
      let sent : List Entry = sent_after entries [] in
      let same : sent ≡ pieces = ap emissions (same_entries old mid entries more adds goes) ∙ are in
      let count : length sent ≡ before + length first = ap (λ (l : List Entry). length l) same ∙ all in
      let one : Along P [] (disk_of old) entries = along_under (LeavesLines journal site history first before) P [] (λ s image. more_lines history first second before s image) [] (disk_of old) entries along in
      let two : Along P (sent ++ []) (disk_of mid) others = along_under (LeavesLines journal site (history_over site history first) second 0) P sent (λ s image. behind_lines history first second before sent s image count) [] (disk_of mid) others along_too in
      let there : Along P sent (disk_after entries (disk_of old)) others = subst (λ (d : Disk). Along P sent d others) (disk_adds old mid entries adds) (subst (λ (s : List Entry). Along P s (disk_of mid) others) (append-nil sent) two) in
      (entries ++ others, adds_both (Some old) (Some mid) (Some new) entries others adds adds_too, along-append P [] (disk_of old) entries others one there)

  -- ---- one line

  -- its event is committed, or not
  pub committed : (history : List Event) (line : Line) (old new : Option Told) → Commits journal site history (history_with site history line) old new → KeepsLines journal site history (line ∷ []) 0 old new
  committed history line old None commits = tt
  committed history line None (Some new) commits = absurd commits
  committed history line (Some old) (Some new) commits =
      (commits.entries, commits.adds, along_few P Q 0 to [] (disk_of old) commits.entries (quiet commits.entries commits.quiet) commits.always)
    where
      P : List Entry → List ℕ → Type 0
      P = LeavesLines journal site history (line ∷ []) 0

      Q : List ℕ → Type 0
      Q image = ImageStands journal site image history ⊎ ImageStands journal site image (history_with site history line)

      to : (sent : List Entry) (image : List ℕ) → length sent ≤ 0 → Q image → P sent image
      to sent image few (inl stands) = (0, omega arith, omega (arith, few), omega arith, subst (λ (h : List Event). ImageStands journal site image h) (sym (history-none site history)) stands)
      to sent image few (inr stands) = (1, omega arith, omega (arith, few), omega arith, subst (λ (h : List Event). ImageStands journal site image h) (sym (history-one site history line)) stands)

      quiet : (entries : List Entry) → AreQuiet entries → length (sent_after entries []) ≤ 0
      quiet entries are = omega (arith, ap (λ (l : List Entry). length l) (quiet_sends_nothing [] entries are))

  -- its piece is sent behind that, while the same stands
  pub told_line : (history : List Event) (line : Line) (after : Content) (old mid new : Option Told) (piece : List Entry) → StandsForHistory site after (history_with site history line)
      → KeepsLines journal site history (line ∷ []) 0 old mid → Emits old mid [] → Throughout journal after mid new → Emits mid new piece → length piece ≤ 1
      → KeepsLines journal site history (line ∷ []) 0 old new
  told_line history line after old mid None piece stands kept none all goes few = tt
  told_line history line after old None (Some new) piece stands kept none all goes few = absurd all
  told_line history line after None (Some mid) (Some new) piece stands kept none all goes few = absurd kept
  told_line history line after (Some old) (Some mid) (Some new) piece stands (entries, adds, along) (quiet, adds_quiet, none) (others, adds_too, always) (more, goes, are) few =
      let P = LeavesLines journal site history (line ∷ []) 0 in
      let nothing : sent_after entries [] ≡ [] = ap emissions (same_entries old mid entries quiet adds adds_quiet) ∙ none in
      let sent : length (sent_after others []) ≤ 1 = omega (arith, few, ap (λ (l : List Entry). length l) (ap emissions (same_entries mid new others more adds_too goes) ∙ are)) in
      let to : (s : List Entry) (image : List ℕ) → length s ≤ 1 → OpensTo journal image after → P s image =
      λ s image one opens. (1, omega arith, omega (arith, one), omega arith, record { content = after; opens = opens; stands = subst (λ (h : List Event). StandsForHistory site after h) (sym (history-one site history line)) stands }) in
      let two : Along P [] (disk_of mid) others = along_few P (λ image. OpensTo journal image after) 1 to [] (disk_of mid) others sent always in
      let there : Along P (sent_after entries []) (disk_after entries (disk_of old)) others = subst (λ (s : List Entry). Along P s (disk_after entries (disk_of old)) others) (sym nothing) (subst (λ (d : Disk). Along P [] d others) (disk_adds old mid entries adds) two) in
      (entries ++ others, adds_both (Some old) (Some mid) (Some new) entries others adds adds_too, along-append P [] (disk_of old) entries others along there)

  -- ---- the first piece, and the end

  -- nothing but the first piece was sent
  pub opened_lines : (history : List Event) (content : Content) (old new : Option Told) (piece : List Entry) → StandsForHistory site content history → Throughout journal content old new → Emits old new piece → length piece ≤ 1
      → KeepsLines journal site history [] 1 old new
  opened_lines history content old None piece stands all goes few = tt
  opened_lines history content None (Some new) piece stands all goes few = absurd all
  opened_lines history content (Some old) (Some new) piece stands (entries, adds, always) (more, goes, are) few =
      let P = LeavesLines journal site history [] 1 in
      let sent : length (sent_after entries []) ≤ 1 = omega (arith, few, ap (λ (l : List Entry). length l) (ap emissions (same_entries old new entries more adds goes) ∙ are)) in
      let to : (s : List Entry) (image : List ℕ) → length s ≤ 1 → OpensTo journal image content → P s image =
      λ s image one opens. (0, omega arith, omega (arith, one), omega arith, record { content = content; opens = opens; stands = subst (λ (h : List Event). StandsForHistory site content h) (sym (history-none site history)) stands }) in
      (entries, adds, along_few P (λ image. OpensTo journal image content) 1 to [] (disk_of old) entries sent always)

  -- as many lines at least as have had their piece sent
  pub report_of_lines : (history : List Event) (lines : List Line) (before : ℕ) (sent : List Entry) (image : List ℕ) → LeavesLines journal site history lines before sent image → LeavesReport journal site history lines before sent image
  report_of_lines history lines before sent image (count, most, few, ahead, stands) = (count, most, λ line short later. omega (arith, few, later), ahead, stands)

  -- a front of the lines was played, and nothing else was done
  pub front_kept : (history : List Event) (first second : List Line) (before : ℕ) (old new : Option Told) → KeepsLines journal site history first before old new → KeepsReport journal site history (first ++ second) before old new
  front_kept history first second before old None kept = tt
  front_kept history first second before None (Some new) kept = absurd kept
  front_kept history first second before (Some old) (Some new) (entries, adds, along) =
      let Q = LeavesReport journal site history (first ++ second) before in
      let to : (s : List Entry) (image : List ℕ) → LeavesLines journal site history first before s image → Q s image = λ s image leaves. report_of_lines history (first ++ second) before s image (more_lines history first second before s image leaves) in
      (entries, adds, along_under (LeavesLines journal site history first before) Q [] to [] (disk_of old) entries along)

  -- all lines were played, and then the end was sent, while the same stood
  pub all_kept : (history : List Event) (lines : List Line) (before : ℕ) (content : Content) (old mid new : Option Told) (pieces : List Entry) → Emits old mid pieces → length pieces ≡ before + length lines → StandsForHistory site content (history_over site history lines)
      → KeepsLines journal site history lines before old mid → Throughout journal content mid new → KeepsReport journal site history lines before old new
  all_kept history lines before content old mid None pieces goes out stands kept all = tt
  all_kept history lines before content old None (Some new) pieces goes out stands kept all = absurd all
  all_kept history lines before content None (Some mid) (Some new) pieces goes out stands kept all = absurd kept
  all_kept history lines before content (Some old) (Some mid) (Some new) pieces (more, goes, are) out stands (entries, adds, along) (others, adds_too, always) =
      let Q = LeavesReport journal site history lines before in
      let sent : List Entry = sent_after entries [] in
      let every : take (length lines) lines ≡ lines = take_all (length lines) lines (omega arith) in
      let count : length sent ≡ before + length lines = ap (λ (l : List Entry). length l) (ap emissions (same_entries old mid entries more adds goes) ∙ are) ∙ out in
      let to : (s : List Entry) (image : List ℕ) → length sent ≤ length s → OpensTo journal image content → Q s image =
      λ s image least opens. (length lines, omega arith, λ line short later. short, omega (arith, least, count), record { content = content; opens = opens; stands = subst (λ (ls : List Line). StandsForHistory site content (history_over site history ls)) (sym every) stands }) in
      let one : Along Q [] (disk_of old) entries = along_under (LeavesLines journal site history lines before) Q [] (λ s image. report_of_lines history lines before s image) [] (disk_of old) entries along in
      let two : Along Q sent (disk_of mid) others = along_least Q (λ image. OpensTo journal image content) (length sent) to sent (disk_of mid) others (omega arith) always in
      let there : Along Q sent (disk_after entries (disk_of old)) others = subst (λ (d : Disk). Along Q sent d others) (disk_adds old mid entries adds) two in
      (entries ++ others, adds_both (Some old) (Some mid) (Some new) entries others adds adds_too, along-append Q [] (disk_of old) entries others one there)

  -- nothing was done
  pub untouched : (history : List Event) (lines : List Line) (before : ℕ) (content : Content) (told : Option Told) → StandsForHistory site content history → Lasts journal told content → KeepsLines journal site history lines before told told
  untouched history lines before content None stands lasts = tt
  untouched history lines before content (Some told) stands lasts = (
    [],
    adds_none (Some told),
    λ image may. (0, omega arith, omega arith, omega arith, record { content = content; opens = lasts image may; stands = subst (λ (h : List Event). StandsForHistory site content h) (sym (history-none site history)) stands }),
  )
