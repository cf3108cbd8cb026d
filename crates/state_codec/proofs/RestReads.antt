-- Enrollments, classes, logs and posts: each is read exactly as it is written, and those that a site may have.
use Rattle.bac_values.specs.Limits.{most_note_octets}
use Rattle.std.proofs.Common.{IsTrue, ◌≡◌, ℕ, zero, suc, ◌^◌, ◌<◌, ◌≤◌, Bool, true, false, eqb, ltb, leb, ◌||◌, not, is_some, if◌then◌else◌, List, [], ◌∷◌, ◌++◌, length, All, refl, sym, ap, subst, ◌∙◌, arith}
use Rattle.std.specs.Int.{w16, w32, w64, to_be_bytes}
use Rattle.std.specs.List.{AllZip, flat_map}
use Rattle.std.proofs.lemmas.Bool.{leb-true, le-leb}
use Rattle.std.proofs.lemmas.List.Elements.{All-nil, All-cons}
use Rattle.std.proofs.lemmas.Slice.Zip.{AllZip-long}
use Rattle.bac_values.specs.Address.{PeerData}
use Rattle.bac_values.specs.declared.note.Note.{Note}
use Rattle.bac_values.specs.declared.stamp.Stamp.{Stamp}
use Rattle.civil_stamp.specs.LocalTime.{ZoneData}
use Rattle.event_log.specs.declared.log_record.LogRecord.{LogRecord}
use Rattle.event_log.specs.declared.log_site.LogSite.{LogSite}
use Rattle.notify_class.specs.Recipients.{DestinationData}
use Rattle.notify_class.specs.declared.class.Class.{Class}
use Rattle.outbox.specs.Posts.{MailboxState}
use Rattle.enrollment.specs.declared.enrollment_site.EnrollmentSite.{EnrollmentSite}
use Rattle.alarm_core.specs.Logs.{SiteLogState}
use Rattle.alarm_core.specs.SiteStates.{hundredths_shown}
use Rattle.state_codec.specs.Records.{written_destination, written_destinations, written_flag, written_flags, written_peer, AreDestinations, IsPeer}
use Rattle.state_codec.specs.Snapshots.{written_body, written_class, written_entry, written_log, written_note, written_post, written_stamp}
use Rattle.state_codec.specs.ReadingSteps.{either_at, nothing_at, octet_at, octets_at, number_at, flag_at, flags_at, peer_at, destinations_at}
use Rattle.state_codec.specs.SnapshotSteps.{PostData, and_at, kept_at, where_at, times_at, stamp_at, enrollment_at, class_with, class_at, body_at, hundredths_at, entry_with, entry_at, numbers_up_to, may_hold, entries_at, log_with, log_at, note_with, note_at, post_with, post_at, posts_at}
use Rattle.state_codec.specs.SnapshotLaws.{AreHundredths, ArePosts, HasClass, HasEnrollment, HasEntry, HasNote, HasPost, IsStamp}
use Rattle.state_codec.proofs.Behind.{Reads, both_true, reads_then}
use Rattle.state_codec.proofs.PartLaws.{written_octet, IsOctet, as_they_are, HasLength, IsBelow, IsAny, AreThree, octet_reads, octets_reads, u16_reads, u32_reads, u64_reads, flag_reads, flags_reads, peer_reads}
use Rattle.state_codec.proofs.KeysLaws.{Kept, reads_kept}
use Rattle.state_codec.proofs.RowsOf.{alone, not_beside}
use Rattle.state_codec.proofs.DestinationLaws.{destinations_reads, reads_if}
use Rattle.state_codec.proofs.Together.{AreSoMany, reads_done, reads_each, reads_made, reads_pair, reads_times, reads_where}
use Rattle.state_codec.proofs.AlarmReads.{stamp_reads}

-- ---- enrollments

-- Event_Algorithm_Inhibit and Event_Enable
abbrev pub written_settings : EnrollmentSite → List ℕ
written_settings site = written_flag site.inhibit ++ written_flags site.enable

abbrev enrollment_with : EnrollmentSite → Bool → List Bool → EnrollmentSite
enrollment_with site inhibit enable = record site { inhibit = inhibit; enable = enable }

pub enrollment_reads : (site : EnrollmentSite) → Reads (enrollment_at site) written_settings (HasEnrollment site)
unfolding enrollment_at
enrollment_reads site =
    let own = not (is_some site.inhibit_ref) in
    reads_made (and_at (kept_at own flag_at not) λ inhibit. flags_at) (λ x. enrollment_with site x.0 x.1) (λ it. (it.inhibit, it.enable)) (λ x. written_flag x.0 ++ written_flags x.1) (λ x. Kept own not IsAny x.0 × AreThree x.1) written_settings (HasEnrollment site)
    (reads_pair (kept_at own flag_at not) (λ inhibit. flags_at) written_flag written_flags (Kept own not IsAny) (λ inhibit. AreThree) (reads_kept own flag_at not written_flag IsAny flag_reads) (λ inhibit any. flags_reads))
    (λ x f. (record { own = record { same = refl; enable = f.1; inhibit = not_beside site.inhibit_ref x.0 f.0.1 } }, refl))
    (λ it f. (((tt, alone site.inhibit_ref it.inhibit f.own.inhibit), f.own.enable), sym f.own.same, refl))

-- ---- classes

class_same : (listed : Class) (recipients : List DestinationData) → AreDestinations recipients → written_class (class_with listed recipients) ≡ written_destinations recipients
class_same listed recipients are = ap (λ (n : ℕ). n ∷ flat_map written_destination recipients) (omega (arith, are.0))

pub class_reads : (listed : Class) → Reads (class_at listed) written_class (HasClass listed)
unfolding class_at
class_reads listed =
    reads_made destinations_at (class_with listed) (λ class. class.destinations) written_destinations AreDestinations written_class (HasClass listed) destinations_reads
    (λ recipients are. (record { same = refl; destinations = are }, class_same listed recipients are))
    (λ class f. (f.destinations, sym f.same, class_same listed class.destinations f.destinations))

-- ---- octets of notifications

abbrev IsBody : List ℕ → Type 0
IsBody body = length body ≤ most_note_octets

pub body_reads : Reads body_at written_body IsBody
unfolding body_at
body_reads =
    reads_then (number_at w16) (λ count. either_at (leb count most_note_octets) (octets_at count) nothing_at) (to_be_bytes w16) (IsBelow (2 ^ 16)) (λ body. length body) as_they_are IsBody u16_reads (λ body short. omega (arith, short))
    (λ count lt. reads_if (leb count most_note_octets) (octets_at count) as_they_are (HasLength count) (λ body. IsBody body × (length body ≡ count)) (λ few. octets_reads count)
    (λ body is. (le-leb _ _ (omega (arith, is.0, is.1)), is.1))
    (λ body few long. (omega (arith, leb-true _ _ few, long), long)))

-- ---- logs

hundredths_reads : (has_rule : Bool) (zone : ZoneData) (stamp : Stamp) → Reads (hundredths_at has_rule zone stamp) (λ hundredths. if has_rule then to_be_bytes w64 hundredths else []) (AreHundredths has_rule zone stamp)
unfolding hundredths_at
hundredths_reads true zone stamp = u64_reads
hundredths_reads false zone stamp = reads_done (hundredths_shown zone stamp) (λ hundredths. []) (AreHundredths false zone stamp) refl refl (λ hundredths e. e)

abbrev numbered : LogRecord → ℕ → LogRecord
numbered entry sequence = record { stamp = entry.stamp; hundredths = entry.hundredths; sequence = sequence; body = entry.body }

pub entry_reads : (has_rule : Bool) (zone : ZoneData) (sequence : ℕ) → Reads (entry_at has_rule zone sequence) (written_entry has_rule) (HasEntry has_rule zone sequence)
unfolding entry_at
entry_reads has_rule zone sequence =
    reads_made (and_at stamp_at λ stamp. and_at (hundredths_at has_rule zone stamp) λ hundredths. body_at) (entry_with sequence) (λ entry. (entry.stamp, (entry.hundredths, entry.body)))
    (λ x. written_stamp x.0 ++ ((if has_rule then to_be_bytes w64 x.1.0 else []) ++ written_body x.1.1)) (λ x. IsStamp x.0 × (AreHundredths has_rule zone x.0 x.1.0 × IsBody x.1.1)) (written_entry has_rule) (HasEntry has_rule zone sequence)
    (reads_pair stamp_at (λ stamp. and_at (hundredths_at has_rule zone stamp) λ hundredths. body_at) written_stamp (λ (x : ℕ × List ℕ). (if has_rule then to_be_bytes w64 x.0 else []) ++ written_body x.1) IsStamp (λ stamp x. AreHundredths has_rule zone stamp x.0 × IsBody x.1) stamp_reads
    (λ stamp is. reads_pair (hundredths_at has_rule zone stamp) (λ hundredths. body_at) (λ hundredths. if has_rule then to_be_bytes w64 hundredths else []) written_body (AreHundredths has_rule zone stamp) (λ hundredths. IsBody) (hundredths_reads has_rule zone stamp) (λ hundredths are. body_reads)))
    (λ x f. (record { stamp = f.0; hundredths = f.1.0; number = refl; short = f.1.1 }, refl))
    (λ entry f. ((f.stamp, (f.hundredths, f.short)), ap (λ (n : ℕ). numbered entry n) (sym f.number), refl))

any_number : (numbers : List ℕ) → All (IsAny {X = ℕ}) numbers
any_number [] = All-nil IsAny
any_number (number ∷ numbers) = All-cons IsAny number numbers tt (any_number numbers)

entries_reads : (has_rule : Bool) (zone : ZoneData) (total count : ℕ) → Reads (entries_at has_rule zone total count) (flat_map (written_entry has_rule)) (AllZip (HasEntry has_rule zone) (numbers_up_to total count))
unfolding entries_at
entries_reads has_rule zone total count =
    reads_each (entry_at has_rule zone) (written_entry has_rule) IsAny (HasEntry has_rule zone) (λ sequence any. entry_reads has_rule zone sequence) (numbers_up_to total count) (any_number (numbers_up_to total count))

so_many : (total count : ℕ) → length (numbers_up_to total count) ≡ count
so_many total zero = refl
so_many total (suc count) = ap suc (so_many total count)

-- a log of a site, whose records have their numbers
pub record HasLog (has_rule : Bool) (zone : ZoneData) (listed : LogSite) (kept : SiteLogState) : Type 0 where
  pub same : kept.site ≡ listed
  pub size : kept.log.size ≡ listed.size
  pub stops : kept.log.stops ≡ listed.stop_when_full
  pub total : kept.log.total < 2 ^ 32
  pub few : IsTrue (may_hold listed.size kept.log.total (length kept.log.records))
  pub records : AllZip (HasEntry has_rule zone) (numbers_up_to kept.log.total (length kept.log.records)) kept.log.records

abbrev CountedData : Type 0
CountedData = Bool × (ℕ × (ℕ × List LogRecord))

abbrev written_counted : Bool → CountedData → List ℕ
written_counted has_rule x = written_flag x.0 ++ (to_be_bytes w32 x.1.0 ++ (to_be_bytes w32 x.1.1.0 ++ flat_map (written_entry has_rule) x.1.1.1))

abbrev MayHold : ℕ → ℕ → ℕ → Type 0
MayHold size total count = (count < 2 ^ 32) × (may_hold size total count ≡ true)

abbrev AreCounted : Bool → ZoneData → ℕ → CountedData → Type 0
AreCounted has_rule zone size x =
    Unit {0} × ((x.1.0 < 2 ^ 32) × (MayHold size x.1.0 x.1.1.0 × AllZip (HasEntry has_rule zone) (numbers_up_to x.1.0 x.1.1.0) x.1.1.1))

counted_reads : (has_rule : Bool) (zone : ZoneData) (size : ℕ) → Reads (and_at flag_at λ enabled. and_at (number_at w32) λ total. and_at (where_at (number_at w32) (may_hold size total)) λ count. entries_at has_rule zone total count) (written_counted has_rule) (AreCounted has_rule zone size)
counted_reads has_rule zone size =
    reads_pair flag_at (λ enabled. and_at (number_at w32) λ total. and_at (where_at (number_at w32) (may_hold size total)) λ count. entries_at has_rule zone total count) written_flag
    (λ (x : ℕ × (ℕ × List LogRecord)). to_be_bytes w32 x.0 ++ (to_be_bytes w32 x.1.0 ++ flat_map (written_entry has_rule) x.1.1)) IsAny
    (λ enabled x. (x.0 < 2 ^ 32) × (MayHold size x.0 x.1.0 × AllZip (HasEntry has_rule zone) (numbers_up_to x.0 x.1.0) x.1.1)) flag_reads (λ enabled any.
    reads_pair (number_at w32) (λ total. and_at (where_at (number_at w32) (may_hold size total)) λ count. entries_at has_rule zone total count) (to_be_bytes w32)
    (λ (x : ℕ × List LogRecord). to_be_bytes w32 x.0 ++ flat_map (written_entry has_rule) x.1) (IsBelow (2 ^ 32))
    (λ total x. MayHold size total x.0 × AllZip (HasEntry has_rule zone) (numbers_up_to total x.0) x.1) u32_reads (λ total lt.
    reads_pair (where_at (number_at w32) (may_hold size total)) (λ count. entries_at has_rule zone total count) (to_be_bytes w32) (flat_map (written_entry has_rule)) (MayHold size total)
    (λ count. AllZip (HasEntry has_rule zone) (numbers_up_to total count))
    (reads_where (number_at w32) (may_hold size total) (to_be_bytes w32) (IsBelow (2 ^ 32)) (MayHold size total) u32_reads (λ a f t. (f, t)) (λ a f. f)) (λ count is.
    entries_reads has_rule zone total count)))

log_forth : (has_rule : Bool) (zone : ZoneData) (listed : LogSite) (x : CountedData) → AreCounted has_rule zone listed.size x → HasLog has_rule zone listed (log_with listed x) × (written_log has_rule (log_with listed x) ≡ written_counted has_rule x)
log_forth has_rule zone listed x f =
    let long : length x.1.1.1 ≡ x.1.1.0 = AllZip-long (HasEntry has_rule zone) (numbers_up_to x.1.0 x.1.1.0) x.1.1.1 f.1.1.1 ∙ so_many x.1.0 x.1.1.0 in (
      record {
        same = refl;
        size = refl;
        stops = refl;
        total = f.1.0;
        few = subst (λ (n : ℕ). may_hold listed.size x.1.0 n ≡ true) (sym long) f.1.1.0.1;
        records = subst (λ (n : ℕ). AllZip (HasEntry has_rule zone) (numbers_up_to x.1.0 n) x.1.1.1) (sym long) f.1.1.1;
      },
      ap (λ (n : ℕ). written_flag x.0 ++ (to_be_bytes w32 x.1.0 ++ (to_be_bytes w32 n ++ flat_map (written_entry has_rule) x.1.1.1))) long,
    )

abbrev counted_of : SiteLogState → CountedData
counted_of kept = (kept.log.enabled, (kept.log.total, (length kept.log.records, kept.log.records)))

abbrev log_of_parts : LogSite → ℕ → Bool → CountedData → SiteLogState
log_of_parts listed size stops x = record { site = listed; log = record { size = size; stops = stops; enabled = x.0; total = x.1.0; records = x.1.1.1 } }

held_fits : (size total count : ℕ) → size < 2 ^ 32 → may_hold size total count ≡ true → count < 2 ^ 32
held_fits size total count lt is =
    let t = both_true (leb count size) (eqb count 0 || ltb 0 total) is in
    omega (arith, lt, leb-true _ _ t.0)

log_back : (has_rule : Bool) (zone : ZoneData) (listed : LogSite) → listed.size < 2 ^ 32 → (kept : SiteLogState) → HasLog has_rule zone listed kept
    → AreCounted has_rule zone listed.size (counted_of kept) × (log_with listed (counted_of kept) ≡ kept) × (written_log has_rule kept ≡ written_counted has_rule (counted_of kept))
log_back has_rule zone listed lt kept f = (
  (tt, (f.total, ((held_fits listed.size kept.log.total (length kept.log.records) lt f.few, f.few), f.records))),
  ap (λ (l : LogSite). log_of_parts l listed.size listed.stop_when_full (counted_of kept)) (sym f.same)
      ∙ ap (λ (n : ℕ). log_of_parts kept.site n listed.stop_when_full (counted_of kept)) (sym f.size)
      ∙ ap (λ (b : Bool). log_of_parts kept.site kept.log.size b (counted_of kept)) (sym f.stops),
  refl,
)

-- a log is read exactly as it is written, and those that a log of a site may be
pub log_reads : (has_rule : Bool) (zone : ZoneData) (listed : LogSite) → listed.size < 2 ^ 32 → Reads (log_at has_rule zone listed) (written_log has_rule) (HasLog has_rule zone listed)
unfolding log_at
log_reads has_rule zone listed lt =
    reads_made (and_at flag_at λ enabled. and_at (number_at w32) λ total. and_at (where_at (number_at w32) (may_hold listed.size total)) λ count. entries_at has_rule zone total count) (log_with listed) counted_of (written_counted has_rule) (AreCounted has_rule zone listed.size) (written_log has_rule) (HasLog has_rule zone listed)
    (counted_reads has_rule zone listed.size) (log_forth has_rule zone listed) (log_back has_rule zone listed lt)

-- ---- posts

pub note_reads : (peer : PeerData) → Reads (note_at peer) written_note (HasNote peer)
unfolding note_at
note_reads peer =
    reads_made (and_at flag_at λ confirmed. body_at) (note_with peer) (λ note. (note.confirmed, note.body)) (λ x. written_flag x.0 ++ written_body x.1) (λ x. Unit {0} × IsBody x.1) written_note (HasNote peer)
    (reads_pair flag_at (λ confirmed. body_at) written_flag written_body IsAny (λ confirmed. IsBody) flag_reads (λ confirmed any. body_reads))
    (λ x f. ((refl, f.1), refl))
    (λ note f. ((tt, f.1), ap (λ (p : PeerData). note_with p (note.confirmed, note.body)) (sym f.0), refl))

abbrev written_parts : PostData → List ℕ
written_parts x = written_peer x.0 ++ (written_octet x.1.0 ++ (written_octet x.1.1.0 ++ (to_be_bytes w64 x.1.1.1.0 ++ (to_be_bytes w16 x.1.1.1.1.0 ++ flat_map written_note x.1.1.1.1.1))))

abbrev AreParts : PostData → Type 0
AreParts x = IsPeer x.0 × ((x.1.0 < 256) × ((x.1.1.0 < 256) × ((x.1.1.1.0 < 2 ^ 64) × ((x.1.1.1.1.0 < 2 ^ 16) × AreSoMany (HasNote x.0) x.1.1.1.1.0 x.1.1.1.1.1))))

parts_reads : Reads (and_at peer_at λ peer. and_at octet_at λ invoke. and_at octet_at λ attempts. and_at (number_at w64) λ deadline. and_at (number_at w16) λ count. times_at (note_at peer) count) written_parts AreParts
parts_reads =
    reads_pair peer_at _ written_peer (λ (x : ℕ × (ℕ × (ℕ × (ℕ × List Note)))). written_octet x.0 ++ (written_octet x.1.0 ++ (to_be_bytes w64 x.1.1.0 ++ (to_be_bytes w16 x.1.1.1.0 ++ flat_map written_note x.1.1.1.1)))) IsPeer
    (λ peer x. (x.0 < 256) × ((x.1.0 < 256) × ((x.1.1.0 < 2 ^ 64) × ((x.1.1.1.0 < 2 ^ 16) × AreSoMany (HasNote peer) x.1.1.1.0 x.1.1.1.1)))) peer_reads (λ peer is_peer.
    reads_pair octet_at _ written_octet (λ (x : ℕ × (ℕ × (ℕ × List Note))). written_octet x.0 ++ (to_be_bytes w64 x.1.0 ++ (to_be_bytes w16 x.1.1.0 ++ flat_map written_note x.1.1.1))) IsOctet
    (λ invoke x. (x.0 < 256) × ((x.1.0 < 2 ^ 64) × ((x.1.1.0 < 2 ^ 16) × AreSoMany (HasNote peer) x.1.1.0 x.1.1.1))) octet_reads (λ invoke lt_invoke.
    reads_pair octet_at _ written_octet (λ (x : ℕ × (ℕ × List Note)). to_be_bytes w64 x.0 ++ (to_be_bytes w16 x.1.0 ++ flat_map written_note x.1.1)) IsOctet
    (λ attempts x. (x.0 < 2 ^ 64) × ((x.1.0 < 2 ^ 16) × AreSoMany (HasNote peer) x.1.0 x.1.1)) octet_reads (λ attempts lt_attempts.
    reads_pair (number_at w64) _ (to_be_bytes w64) (λ (x : ℕ × List Note). to_be_bytes w16 x.0 ++ flat_map written_note x.1) (IsBelow (2 ^ 64))
    (λ deadline x. (x.0 < 2 ^ 16) × AreSoMany (HasNote peer) x.0 x.1) u64_reads (λ deadline lt_deadline.
    reads_pair (number_at w16) _ (to_be_bytes w16) (flat_map written_note) (IsBelow (2 ^ 16)) (λ count. AreSoMany (HasNote peer) count) u16_reads (λ count lt_count.
    reads_times (note_at peer) written_note (HasNote peer) (note_reads peer) count)))))

abbrev parts_of : MailboxState → PostData
parts_of post = (post.peer, (post.next_invoke, (post.attempts, (post.deadline, (length post.notes, post.notes)))))

post_forth : (x : PostData) → AreParts x → HasPost (post_with x) × (written_post (post_with x) ≡ written_parts x)
post_forth x f =
    let long : length x.1.1.1.1.1 ≡ x.1.1.1.1.0 = f.1.1.1.1.1.1 in (
      record { to = f.0; invoke = f.1.0; tries = f.1.1.0; until = f.1.1.1.0; few = omega (arith, long, f.1.1.1.1.0); own = f.1.1.1.1.1.0 },
      ap (λ (n : ℕ). written_peer x.0 ++ (x.1.0 ∷ x.1.1.0 ∷ (to_be_bytes w64 x.1.1.1.0 ++ (to_be_bytes w16 n ++ flat_map written_note x.1.1.1.1.1)))) long,
    )

post_back : (post : MailboxState) → HasPost post → AreParts (parts_of post) × (post_with (parts_of post) ≡ post) × (written_post post ≡ written_parts (parts_of post))
post_back post f = ((f.to, (f.invoke, (f.tries, (f.until, (f.few, (f.own, refl)))))), refl, refl)

-- a post is read exactly as it is written
pub post_reads : Reads post_at written_post HasPost
unfolding post_at
post_reads =
    reads_made (and_at peer_at λ peer. and_at octet_at λ invoke. and_at octet_at λ attempts. and_at (number_at w64) λ deadline. and_at (number_at w16) λ count. times_at (note_at peer) count) post_with parts_of written_parts AreParts written_post HasPost parts_reads post_forth post_back

-- the octets of posts, behind how many they are
abbrev pub written_posts : List MailboxState → List ℕ
written_posts posts = to_be_bytes w16 (length posts) ++ flat_map written_post posts

pub posts_reads : Reads posts_at written_posts ArePosts
unfolding posts_at
posts_reads =
    reads_made (and_at (number_at w16) λ count. times_at post_at count) (λ x. x.1) (λ posts. (length posts, posts)) (λ x. to_be_bytes w16 x.0 ++ flat_map written_post x.1) (λ x. (x.0 < 2 ^ 16) × AreSoMany HasPost x.0 x.1) written_posts ArePosts
    (reads_pair (number_at w16) (λ count. times_at post_at count) (to_be_bytes w16) (flat_map written_post) (IsBelow (2 ^ 16)) (λ count. AreSoMany HasPost count) u16_reads (λ count lt. reads_times post_at written_post HasPost post_reads count))
    (λ x f. ((f.1.0, omega (arith, f.0, f.1.1)), ap (λ (n : ℕ). to_be_bytes w16 n ++ flat_map written_post x.1) f.1.1))
    (λ posts f. ((f.1, (f.0, refl)), refl, refl))
