-- What a packet comes to is what the table says, and leads to the history to which the packet leads.
use Rattle.std.proofs.Common.{◌≡◌, ℕ, ◌+◌, ◌-◌, ◌^◌, ◌<◌, ◌≤◌, eqb, ◌&&◌, cond, Bool, true, false, All, List, [], ◌∷◌, ◌++◌, length, take, drop, reverse, Option, Some, None, refl, sym, ap, subst, ◌∙◌, inl, inr, arith}
use Rattle.std.proofs.lemmas.Bool.{eq-eqb, eqb-true, le-ltb, lt-ltb, ne_eqb}
use Rattle.std.proofs.lemmas.List.{length-append, length-drop, reverse-reverse, take-append-drop, take_at}
use Rattle.std.proofs.lemmas.List.Elements.{All-take}
use Rattle.std.proofs.lemmas.Grind.{flat_map-append}
use Rattle.std.proofs.lemmas.Option.{cond_some, none-some}
use Rattle.alarm_core.specs.Allowed.{Represents}
use Rattle.alarm_core.specs.CoreSteps.{next_state}
use Rattle.alarm_core.specs.Fits.{FitsEvent, FitsSite}
use Rattle.alarm_core.specs.Following.{AreAllowed, state_over}
use Rattle.alarm_core.specs.Sites.{IsSite}
use Rattle.alarm_core.specs.SiteStates.{IsStateOf}
use Rattle.alarm_core.specs.State.{CoreState, state_of}
use Rattle.alarm_core.specs.declared.event.Event.{Event}
use Rattle.alarm_core.specs.declared.site.Site.{Site}
use Rattle.alarm_core.proofs.Following.{stands_over_events}
use Rattle.alarm_core.proofs.KeptSites.{keeps_to_its_site}
use Rattle.alarm_journal.specs.Journal.{Content, only_snapshot}
use Rattle.state_codec.specs.Contents.{SpellsEvents, StandsForHistory, records_of}
use Rattle.state_codec.specs.Keeping.{AreRecordsOf}
use Rattle.state_codec.specs.Laws.{SnapshotsAreShort}
use Rattle.state_codec.specs.Sizes.{snapshot_bound}
use Rattle.state_codec.specs.Snapshots.{written_state}
use Rattle.state_codec.specs.Spelled.{FitsState, SpellsState}
use Rattle.state_codec.specs.Work.{IsWorkOf, content_with}
use Rattle.state_codec.specs.declared.work.Work.{Work}
use Rattle.state_codec.proofs.Behind.{both_true, some_is}
use Rattle.state_codec.proofs.Committed.{snapshot_stands}
use Rattle.state_codec.proofs.Committing.{works_stand}
use Rattle.state_codec.proofs.Recovered.{one_list, over_site}
use Rattle.state_codec.proofs.Works.{All-reverse}
use Rattle.standby.specs.FrameSteps.{RecordsData, piece_packet_at, records_packet_at}
use Rattle.standby.specs.Judging.{ComesTo, GatheredIs, IsPart, IsWhole, PieceIs, TriesFresh, WholeIs, gathering_with, gathered_behind}
use Rattle.standby.specs.Leads.{IsTaken, LeadsOn, MayBe}
use Rattle.standby.specs.Packets.{IsNoPiece, IsNoRecords, PieceData, SpellsNoPacket, SpellsPiece, SpellsRecords, written_piece, written_records}
use Rattle.standby.specs.Takes.{Following, Gathering, GoesOn, IsTriedOn, OfNoPacket, OfPiece, OfRecords, Takes, following, fresh_events, gathered, gathered_by, gathered_on, gathering_of}
use Rattle.standby.specs.Walks.{IsWalked, NoEvents}
use Rattle.standby.specs.declared.judging.Judged.{Judged}
use Rattle.standby.specs.declared.judging.Judged.TheVariants.{Answers, Writes}
use Rattle.standby.specs.declared.took.Took.{Took}
use Rattle.standby.specs.declared.took.Took.TheVariants.{Malformed, Gap, Repeat, Part, Taken}
use Rattle.standby.proofs.Spelling.{AreFields, head_is, no_fewer, not_both, one_reading, one_records, part_fits, piece_packet_reads, records_packet, records_packet_reads, written_fields, written_part}
use Rattle.standby.proofs.Spelling.{IsPart as AreParts}
use Rattle.standby.proofs.Walks.{fresh_records}

-- ---- answers

-- an answer by which nothing is taken
pub answered : (core : CoreState) (packet : List ℕ) (gathering left : Option Gathering) (took : Took) → ((known : ℕ) → took ≡ Taken known → ⊥) → Takes (following core gathering) packet took (following core left) → ComesTo core packet gathering left (Answers took)
answered core packet gathering left took none takes = record {
  takes = takes;
  nothing = λ is. none is.0 is.1;
  site = refl;
  represents = λ before after. tt;
  stands = λ before after content. tt;
}

-- where nothing was taken the history is the same
pub led_nowhere : (old : Following) (packet : List ℕ) (took : Took) (new : Following) (before after : List Event) → (IsTaken took → ⊥) → LeadsOn old packet took new before after → after ≡ before
led_nowhere old packet (Taken known) new before after none on = absurd (none (known, refl))
led_nowhere old packet (Gap known) new before after none on = on
led_nowhere old packet (Repeat known) new before after none on = on
led_nowhere old packet (Part place) new before after none on = on
led_nowhere old packet Malformed new before after none on = on

-- what is no packet is malformed
pub malformed : (core : CoreState) (packet : List ℕ) (gathering : Option Gathering) → SpellsNoPacket (snapshot_bound core.site) packet → ComesTo core packet gathering gathering (Answers Malformed)
malformed core packet gathering none = answered core packet gathering gathering Malformed (λ known e. absurd cc) (OfNoPacket none refl refl)

pub no_packet : (bound : ℕ) (packet : List ℕ) → bound < 2 ^ 32 → IsNoRecords packet → IsNoPiece packet → SpellsNoPacket bound packet
no_packet bound packet low records piece = record {
  records = λ before events spells. records before (length events) (records_of events) spells.number (omega (arith, no_fewer events, spells.short)) spells.short spells.octets_are;
  piece = λ one spells. let fits = part_fits bound packet one low spells in piece one fits.events fits.whole fits.place fits.body spells.octets_are;
}

-- ---- records

module _ (packet : List ℕ) (before count : ℕ) (octets : List ℕ) (is : packet ≡ written_records before count octets) (low : before < 2 ^ 64) (few : count < 2 ^ 16) (short : length octets ≤ 1_400) where
  -- whoever reads events of it reads these fields
  pub record IsOf (other : ℕ) (events : List Event) : Type 0 where
    pub before_is : before ≡ other
    pub count_is : count ≡ length events
    pub spells : SpellsEvents octets events

  abbrev own : RecordsData
  own = record { before = before; count = count; octets = octets }

  pub is_of : (other : ℕ) (events : List Event) → SpellsRecords packet other events → IsOf other events
  is_of other events spells =
      let y : RecordsData = record { before = other; count = length events; octets = records_of events } in
      let same : own ≡ y = one_reading records_packet_at records_packet AreFields records_packet_reads packet own y (record { before = low; count = few; body = short })
      (record { before = spells.number; count = omega (arith, no_fewer events, spells.short); body = spells.short }) is spells.octets_are in
      record {
        before_is = ap (λ (d : RecordsData). d.before) same;
        count_is = ap (λ (d : RecordsData). d.count) same;
        spells = record { octets_are = ap (λ (d : RecordsData). d.octets) same; have = spells.have };
      }

  no_pieces : (bound : ℕ) (piece : PieceData) → SpellsPiece bound packet piece → ⊥
  no_pieces bound piece spells = absurd (omega (arith, head_is 1 2 (written_fields own) (written_part piece) (sym is ∙ spells.octets_are)))

  pub none_there : (bound : ℕ) → NoEvents octets → SpellsNoPacket bound packet
  none_there bound none = record {
    records = λ other events spells. none events (is_of other events spells).spells;
    piece = λ piece spells. no_pieces bound piece spells;
  }

  pub miscounted : (bound skip walked at : ℕ) → IsWalked octets skip walked at → (walked ≡ count → 1 ≤ walked → ⊥) → SpellsNoPacket bound packet
  miscounted bound skip walked at walk wrong = record {
    records = λ other events spells.
        let of = is_of other events spells in
        let same : walk.events ≡ events = one_list octets walk.events events walk.spells of.spells in
        let number : walked ≡ length events = walk.count_is ∙ ap (λ (l : List Event). length l) same in
        wrong (number ∙ sym of.count_is) (omega (arith, number, spells.some));
    piece = λ piece spells. no_pieces bound piece spells;
  }

  pub whole_records : (skip walked at : ℕ) → (walk : IsWalked octets skip walked at) → walked ≡ count → 1 ≤ walked → SpellsRecords packet before walk.events
  whole_records skip walked at walk same some = record {
    octets_are = is ∙ (ap (λ (n : ℕ). written_records before n octets) (sym same ∙ walk.count_is) ∙ ap (λ (l : List ℕ). written_records before (length walk.events) l) walk.spells.octets_are);
    number = low;
    some = omega (arith, some, walk.count_is);
    short = omega (arith, short, ap (λ (l : List ℕ). length l) walk.spells.octets_are);
    have = walk.spells.have;
  }

  module _ (core : CoreState) (gathering : Option Gathering) (known skip walked at : ℕ) (known_is : known ≡ core.events) (walk : IsWalked octets skip walked at) (same : walked ≡ count) (some : 1 ≤ walked) where
    pub past_a_gap : known < before → ComesTo core packet gathering gathering (Answers (Gap known))
    past_a_gap gap = answered core packet gathering gathering (Gap known) (λ number e. absurd cc) (OfRecords before walk.events (whole_records skip walked at walk same some) (known_is, gap, refl))

    pub all_known : before ≤ known → walked ≤ known - before → ComesTo core packet gathering gathering (Answers (Repeat known))
    all_known low_enough few_enough =
        answered core packet gathering gathering (Repeat known) (λ number e. absurd cc) (OfRecords before walk.events (whole_records skip walked at walk same some) (known_is, omega (arith, walk.count_is, low_enough, few_enough), refl))

-- the fresh records lie within the octets
pub are_within : (octets : List ℕ) (skip walked at : ℕ) → IsWalked octets skip walked at → at ≤ length octets
are_within octets skip walked at walk =
    let split : octets ≡ records_of (take skip walk.events) ++ records_of (drop skip walk.events) =
    walk.spells.octets_are ∙ (ap (λ (l : List Event). records_of l) (sym (take-append-drop skip walk.events)) ∙ rw flat_map-append refl) in
    omega (arith, walk.place, ap (λ (l : List ℕ). length l) split, length-append (records_of (take skip walk.events)) (records_of (drop skip walk.events)))

over_count : (events : List Event) (state : CoreState) → (state_over state events).events ≡ state.events + length events
over_count [] state = omega arith
over_count (event ∷ events) state = omega (arith, over_count events (next_state event state))

-- the front of a list has what all of it has
All-front : {X : Type 0} (P : X → Type 0) (xs ys : List X) → All P (xs ++ ys) → All P xs
All-front P xs ys all = subst (λ (l : List _). All P l) (take_at xs ys (length xs) refl) (All-take P (length xs) (xs ++ ys) all)

-- ---- pieces

module _ (bound : ℕ) (low : bound < 2 ^ 32) (packet : List ℕ) (piece : PieceData) (is : packet ≡ written_piece piece) (part : AreParts piece) where
  pub no_piece_there : (piece.whole ≤ bound → piece.place + length piece.octets ≤ piece.whole → ⊥) → SpellsNoPacket bound packet
  no_piece_there wrong = record {
    records = λ before events spells. absurd (omega (arith, head_is 1 2 (written_fields (record { before = before; count = length events; octets = records_of events })) (written_part piece) (sym spells.octets_are ∙ is)));
    piece = λ other spells.
        let same : other ≡ piece = one_reading piece_packet_at written_piece AreParts piece_packet_reads packet other piece (part_fits bound packet other low spells) part spells.octets_are is in
        wrong (subst (λ (p : PieceData). p.whole ≤ bound) same spells.bounded) (subst (λ (p : PieceData). p.place + length p.octets ≤ p.whole) same spells.within);
  }

  pub piece_there : piece.whole ≤ bound → piece.place + length piece.octets ≤ piece.whole → SpellsPiece bound packet piece
  piece_there bounded within = record { octets_are = is; number = part.events; bounded = bounded; within = within; short = part.body }

-- a snapshot that isn't longer than what is known
pub old_piece : (core : CoreState) (packet : List ℕ) (gathering : Option Gathering) (piece : PieceData) (known : ℕ) → known ≡ core.events → SpellsPiece (snapshot_bound core.site) packet piece → piece.events ≤ known
    → ComesTo core packet gathering gathering (Answers (Repeat known))
old_piece core packet gathering piece known is spells old = answered core packet gathering gathering (Repeat known) (λ number e. absurd cc) (OfPiece piece spells (is, old, refl))

-- a piece at place 0 begins anew, and every other one goes on
pub gathered_first : (gathering : Option Gathering) (piece : PieceData) → piece.place ≡ 0 → gathered gathering piece ≡ Some piece.octets
gathered_first gathering piece first = ap (λ (b : Bool). cond b (Some piece.octets) (gathered_by gathering piece)) (eq-eqb piece.place 0 first)

pub gathered_later : (gathering : Option Gathering) (piece : PieceData) → (piece.place ≡ 0 → ⊥) → gathered gathering piece ≡ gathered_by gathering piece
gathered_later gathering piece later = ap (λ (b : Bool). cond b (Some piece.octets) (gathered_by gathering piece)) (ne_eqb piece.place 0 later)

length_on : (gathering : Gathering) (piece : PieceData) (octets : List ℕ) → gathered_on gathering piece ≡ Some octets → length octets ≡ piece.place + length piece.octets
length_on gathering piece octets e =
    let g = cond_some (eqb gathering.events piece.events && (eqb gathering.whole piece.whole && eqb (length gathering.octets) piece.place)) (gathering.octets ++ piece.octets) octets e in
    let t = both_true (eqb gathering.events piece.events) (eqb gathering.whole piece.whole && eqb (length gathering.octets) piece.place) g.0 in
    let u = both_true (eqb gathering.whole piece.whole) (eqb (length gathering.octets) piece.place) t.1 in
    let place : length gathering.octets ≡ piece.place = eqb-true _ _ u.1 in
    omega (arith, place, ap (λ (l : List ℕ). length l) g.1, length-append gathering.octets piece.octets)

length_by : (gathering : Option Gathering) (piece : PieceData) (octets : List ℕ) → gathered_by gathering piece ≡ Some octets → length octets ≡ piece.place + length piece.octets
length_by None piece octets e = absurd (none-some octets e)
length_by (Some gathering) piece octets e = length_on gathering piece octets e

length_at : (first : Bool) (gathering : Option Gathering) (piece : PieceData) (octets : List ℕ) → eqb piece.place 0 ≡ first → cond first (Some piece.octets) (gathered_by gathering piece) ≡ Some octets → length octets ≡ piece.place + length piece.octets
length_at true gathering piece octets is e =
    let place : piece.place ≡ 0 = eqb-true _ _ is in
    omega (arith, place, ap (λ (l : List ℕ). length l) (some_is piece.octets octets e))
length_at false gathering piece octets is e = length_by gathering piece octets e

gathered_length : (gathering : Option Gathering) (piece : PieceData) (octets : List ℕ) → gathered gathering piece ≡ Some octets → length octets ≡ piece.place + length piece.octets
gathered_length gathering piece octets e = length_at (eqb piece.place 0) gathering piece octets refl e

-- ---- what is written

module _ (core : CoreState) (is_site : IsSite core.site) (typed : FitsSite core.site) where
  pub own_state : (history : List Event) → Represents core history → MayBe core.site history → IsStateOf core.site core
  own_state history represents may = subst (λ (s : CoreState). IsStateOf core.site s) (sym represents.shows) (keeps_to_its_site.keeps core.site is_site typed history may.is_history may.fit may.few)

  -- ---- fresh records

  module _ (packet : List ℕ) (gathering : Option Gathering) (before : ℕ) (events : List Event) (fresh : List ℕ) (spells : SpellsRecords packet before events) (goes : GoesOn core.events before events) where
    abbrev list : List Event
    list = fresh_events core.events before events

    module _ (next base : CoreState) (tried : IsTriedOn core base) (reached : next ≡ state_over base list) (allowed : AreAllowed base list) where
      longer : (left : Option Gathering) (one two : List Event) → LeadsOn (following core gathering) packet (Taken next.events) (following next left) one two → two ≡ reverse list ++ one
      longer left one two (inl by) =
          let same = one_records packet by.first before by.events events by.packet spells in
          by.longer ∙ (ap (λ (n : ℕ). reverse (fresh_events core.events n by.events) ++ one) same.before_is ∙ ap (λ (l : List Event). reverse (fresh_events core.events before l) ++ one) same.events_are)
      longer left one two (inr by) = absurd (not_both (snapshot_bound core.site) packet before events by.piece spells by.packet)

      represents_longer : (one : List Event) → Represents core one → MayBe core.site one → Represents next (reverse list ++ one)
      represents_longer one represents may =
          let base_is : base ≡ core = tried.own (own_state one represents may) in
          subst (λ (s : CoreState). Represents s (reverse list ++ one)) (sym (reached ∙ ap (λ (s : CoreState). state_over s list) base_is))
          (stands_over_events core one list is_site represents (subst (λ (s : CoreState). AreAllowed s list) base_is allowed))

      site_stays : next.site ≡ core.site
      site_stays = ap (λ (s : CoreState). s.site) reached ∙ (over_site list base ∙ tried.snapshot.own.site_is)

      stands_longer : (room : ℕ) (work : Work) (content : Content) (one two : List Event) → SpellsEvents fresh list → IsWorkOf next fresh room work → StandsForHistory core.site content one → Represents core one → MayBe core.site one → MayBe core.site two → two ≡ reverse list ++ one
          → StandsForHistory core.site (content_with work content) two
      stands_longer room work content one two have is stood represents may may_two more =
          let fit : All FitsEvent (reverse list) = All-front FitsEvent (reverse list) one (subst (λ (l : List Event). All FitsEvent l) more may_two.fit) in
          let are : AreRecordsOf fresh list = record { spell = have; fit = subst (λ (l : List Event). All FitsEvent l) (reverse-reverse list) (All-reverse FitsEvent (reverse list) fit) } in
          let now = works_stand next fresh list one room work content are (represents_longer one represents may) is (subst (λ (s : Site). StandsForHistory s content one) (sym site_stays) stood) in
          subst (λ (l : List Event). StandsForHistory core.site (content_with work content) l) (sym more) (subst (λ (s : Site). StandsForHistory s (content_with work content) (reverse list ++ one)) site_stays now)

    pub by_fresh : (room : ℕ) (judged : Judged) → SpellsEvents fresh list → TriesFresh core fresh room judged → ComesTo core packet gathering gathering judged
    by_fresh room (Answers took) have (is, (base, tried, refused)) =
        subst (λ (t : Took). ComesTo core packet gathering gathering (Answers t)) (sym is)
        (answered core packet gathering gathering Malformed (λ known e. absurd cc) (OfRecords before events spells (goes, (base, tried, λ allowed. refused list have allowed), refl)))
    by_fresh room (Writes next work) have (base, tried, leads, works) =
        let same : leads.events ≡ list = one_list fresh leads.events list leads.spells have in
        let reached : next ≡ state_over base list = leads.reached ∙ ap (λ (l : List Event). state_over base l) same in
        let allowed : AreAllowed base list = subst (λ (l : List Event). AreAllowed base l) same leads.follow in
        let known : next.events ≡ before + length events = omega (arith, ap (λ (s : CoreState). s.events) reached, over_count list base, tried.events, length-drop (core.events - before) events, goes.0, goes.1) in
        record {
          takes = OfRecords before events spells (goes, known, (base, tried, allowed, ap (λ (s : CoreState). following s gathering) reached));
          nothing = tt;
          site = site_stays next base tried reached allowed;
          represents = λ one two represents may may_two on.
              subst (λ (l : List Event). Represents next l) (sym (longer next base tried reached allowed gathering one two on)) (represents_longer next base tried reached allowed one represents may);
          stands = λ one two content stood represents may may_two on.
              stands_longer next base tried reached allowed room work content one two have works stood represents may may_two (longer next base tried reached allowed gathering one two on);
        }

  pub by_walk : (packet : List ℕ) (gathering : Option Gathering) (before known skip walked at room : ℕ) (octets fresh : List ℕ) (judged : Judged) → known ≡ core.events → skip ≡ known - before → fresh ≡ drop at octets
      → (walk : IsWalked octets skip walked at) → SpellsRecords packet before walk.events → before ≤ known → known - before < walked → TriesFresh core fresh room judged → ComesTo core packet gathering gathering judged
  by_walk packet gathering before known skip walked at room octets fresh judged is skip_is fresh_is walk spells low more tries =
      let list : List Event = fresh_events core.events before walk.events in
      let same : drop skip walk.events ≡ list = ap (λ (n : ℕ). drop n walk.events) (skip_is ∙ ap (λ (n : ℕ). n - before) is) in
      let have : SpellsEvents fresh list =
      subst (λ (l : List Event). SpellsEvents fresh l) same (subst (λ (o : List ℕ). SpellsEvents o (drop skip walk.events)) (sym fresh_is) (fresh_records octets skip at walk.events walk.spells walk.place)) in
      by_fresh packet gathering before walk.events fresh spells (omega (arith, is, low), omega (arith, is, low, more, walk.count_is)) room judged have tries

  -- ---- pieces

  module _ (short : SnapshotsAreShort) (packet : List ℕ) (gathering : Option Gathering) (piece : PieceData) (spells : SpellsPiece (snapshot_bound core.site) packet piece) (more : core.events < piece.events) where
    -- a whole snapshot was taken
    represents_whole : (next : CoreState) (one two : List Event) → LeadsOn (following core gathering) packet (Taken next.events) (following next None) one two → Represents next two
    represents_whole next one two (inl by) = absurd (not_both (snapshot_bound core.site) packet by.first by.events piece by.packet spells)
    represents_whole next one two (inr by) = by.stands

    stands_whole : (next : CoreState) (octets : List ℕ) (two : List Event) → SpellsState core.site octets next → MayBe core.site two → Represents next two → StandsForHistory core.site (only_snapshot octets) two
    stands_whole next octets two state may represents =
        let shows : next ≡ state_of core.site two = represents.shows ∙ ap (λ (s : Site). state_of s two) state.own.site_is in
        let some : 0 < length octets = omega (arith, short.some next, ap (λ (l : List ℕ). length l) state.octets_are) in
        snapshot_stands core.site two octets is_site typed may.is_history may.fit may.few some (state.octets_are ∙ ap written_state shows) (subst (λ (s : CoreState). FitsState s) shows state.fits)

    by_whole : (octets : List ℕ) (judged : Judged) → gathered gathering piece ≡ Some octets → length octets ≡ piece.whole → WholeIs core.site (gathering_with piece octets) judged → ComesTo core packet gathering None judged
    by_whole octets (Answers took) gathers whole (is, none) =
        subst (λ (t : Took). ComesTo core packet gathering None (Answers t)) (sym is)
        (answered core packet gathering None Malformed (λ known e. absurd cc) (OfPiece piece spells (more, (octets, gathers, whole, none, refl))))
    by_whole octets (Writes next work) gathers whole (state, events, is) = record {
      takes = OfPiece piece spells (more, events, (octets, next, gathers, whole, state, events, refl));
      nothing = tt;
      site = state.own.site_is;
      represents = λ one two represents may may_two on. represents_whole next one two on;
      stands = λ one two content stood represents may may_two on.
          subst (λ (w : Work). StandsForHistory core.site (content_with w content) two) (sym is) (stands_whole next octets two state may_two (represents_whole next one two on));
    }

    by_gathered : (octets : List ℕ) (left : Option Gathering) (judged : Judged) → gathered gathering piece ≡ Some octets → length octets ≤ piece.whole → GatheredIs core.site (gathering_with piece octets) judged → left ≡ gathered_behind (gathering_with piece octets)
        → ComesTo core packet gathering left judged
    by_gathered octets left judged gathers within (IsPart part is) same =
        let kept : left ≡ gathering_of piece octets = same ∙ ap (λ (b : Bool). cond b (gathering_of piece octets) None) (lt-ltb _ _ part) in
        subst (λ (j : Judged). ComesTo core packet gathering left j) (sym is) (subst (λ (g : Option Gathering). ComesTo core packet gathering g (Answers (Part (length octets)))) (sym kept)
        (answered core packet gathering (gathering_of piece octets) (Part (length octets)) (λ known e. absurd cc) (OfPiece piece spells (more, (octets, gathers, part, refl, refl)))))
    by_gathered octets left judged gathers within (IsWhole whole is) same =
        let none : left ≡ None = same ∙ ap (λ (b : Bool). cond b (gathering_of piece octets) None) (le-ltb _ _ whole) in
        subst (λ (g : Option Gathering). ComesTo core packet gathering g judged) (sym none) (by_whole octets judged gathers (omega (arith, within, whole)) is)

    by_octets : (all : Option (List ℕ)) (left : Option Gathering) (judged : Judged) → gathered gathering piece ≡ all → PieceIs core piece all gathering left judged → ComesTo core packet gathering left judged
    by_octets None left judged gathers (is, same) =
        subst (λ (j : Judged). ComesTo core packet gathering left j) (sym is) (subst (λ (g : Option Gathering). ComesTo core packet gathering g (Answers (Gap core.events))) (sym same)
        (answered core packet gathering gathering (Gap core.events) (λ known e. absurd cc) (OfPiece piece spells (refl, more, gathers, refl))))
    by_octets (Some octets) left judged gathers (is, same) =
        by_gathered octets left judged gathers (omega (arith, gathered_length gathering piece octets gathers, spells.within)) is same

    pub by_piece : (left : Option Gathering) (judged : Judged) → PieceIs core piece (gathered gathering piece) gathering left judged → ComesTo core packet gathering left judged
    by_piece left judged is = by_octets (gathered gathering piece) left judged refl is
