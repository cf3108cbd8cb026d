-- What a site's history tells of one object is what looking back over its course gives.
use Rattle.std.proofs.Common.{◌≡◌, ℕ, ◌==◌, Bool, true, false, cond, not, ◌&&◌, ◌||◌, if◌then◌else◌, Option, Some, List, [], ◌∷◌, ◌++◌, map, refl, sym, ap, ◌∙◌, subst, arith}
use Rattle.std.specs.Prelude.{All, is_some, find, filter, flat_map, reverse, option_map, option_and_then, slice_index_or}
use Rattle.std.specs.List.{list_any}
use Rattle.std.specs.Option.{option_or}
use Rattle.std.proofs.lemmas.Bool.Decides.{nat_tests}
use Rattle.std.proofs.lemmas.List.{map-append}
use Rattle.std.proofs.lemmas.List.Concat.{flat_map-cons}
use Rattle.std.proofs.lemmas.List.Elements.{All-head, All-tail, All-cons, All-nil, All-append, filter_map-append}
use Rattle.std.proofs.lemmas.List.Folds.{find-append, list_any-append}
use Rattle.std.proofs.lemmas.List.Sorted.{All-permutation, IsPermutation-reverse, list_any-IsPermutation}
use Rattle.bac_values.specs.declared.transition.Transition.{Transition}
use Rattle.bac_values.specs.EventStates.{place_of_transition, transition_to}
use Rattle.algorithm_rules.specs.declared.table.Algorithm.{Algorithm}
use Rattle.event_machine.specs.declared.moves.Move.{Move}
use Rattle.event_machine.specs.AlarmRecord.{Mark, Entered, Acked, acked_in, is_coming, is_of, is_same, marks_of, marks_with, stamp_in, wants_ack}
use Rattle.event_machine.specs.Detection.{detection_at, moves_at}
use Rattle.event_machine.specs.Points.{Point, Incident, Looked, Acknowledged}
use Rattle.profile.specs.Numbers.{Identifier, is, maybe, place}
use Rattle.profile.specs.Numbers as numbers
use Rattle.profile.specs.Sites.{Site, Object, Detection as Settings, identifier_of, object_of}
use Rattle.profile.specs.Times.{stamp_at, no_stamp}
use Rattle.profile.specs.Courses as courses
use Rattle.profile.specs.Histories as book
use Rattle.book_laws.specs.Values.{algorithm_in_book, state_in_book, transition_in_book}
use Rattle.book_laws.specs.Points.{move_in_book, point_in_book, points_in_book, points_of}
use Rattle.book_laws.specs.RuleLaws.{AreKnown}
use Rattle.book_laws.specs.CourseLaws.{IsKnownCourse}
use Rattle.book_laws.specs.RecordLaws.{AreLooks, AreOf, HasRecordsOfBook, IsCourseIn, IsDetected, IsLook}
use Rattle.book_laws.proofs.CoursesTied.{has_course_of_book, has_moves_of_book}
use Rattle.book_laws.proofs.NumbersTied.{entered, places}

-- ---- lists

any_found : {X : Type 0} (p : X → Bool) (xs : List X) → is_some (find p xs) ≡ list_any p xs
any_found p [] = refl
any_found p (x ∷ xs) = by (any_found p xs) (p x)
  where
    by : is_some (find p xs) ≡ list_any p xs → (b : Bool) → is_some (cond b (Some x) (find p xs)) ≡ (b || list_any p xs)
    by rest true = refl
    by rest false = rest

found_only : {X : Type 0} (p : X → Bool) (xs : List X) (x : X) → filter p xs ≡ x ∷ [] → find p xs ≡ Some x
found_only p [] x e = absurd cc
found_only p (y ∷ ys) x e = by (found_only p ys x) (p y) e
  where
    by : (filter p ys ≡ x ∷ [] → find p ys ≡ Some x) → (b : Bool) → cond b (y ∷ filter p ys) (filter p ys) ≡ x ∷ [] → cond b (Some y) (find p ys) ≡ Some x
    by rest true e = ap (find (λ z. true)) e
    by rest false e = rest e

any_flat : {X Y : Type 0} (f : X → List Y) (p : Y → Bool) (keep : X → Bool) → ((x : X) → keep x ≡ false → list_any p (f x) ≡ false) → (xs : List X) →
    list_any p (flat_map f xs) ≡ list_any p (flat_map f (filter keep xs))
any_flat f p keep none [] = refl
any_flat f p keep none (x ∷ xs) =
    ap (list_any p) (flat_map-cons f x xs) ∙ list_any-append p (f x) (flat_map f xs) ∙ by (any_flat f p keep none xs) (keep x) (none x)
  where
    by : list_any p (flat_map f xs) ≡ list_any p (flat_map f (filter keep xs)) → (b : Bool) → (b ≡ false → list_any p (f x) ≡ false) →
        (list_any p (f x) || list_any p (flat_map f xs)) ≡ list_any p (flat_map f (cond b (x ∷ filter keep xs) (filter keep xs)))
    by rest true fails =
        ap (λ b. list_any p (f x) || b) rest
        ∙ sym (ap (list_any p) (flat_map-cons f x (filter keep xs)) ∙ list_any-append p (f x) (flat_map f (filter keep xs)))
    by rest false fails = ap (λ b. b || list_any p (flat_map f xs)) (fails refl) ∙ rest

or_none : (b : Bool) → (b || false) ≡ b
or_none true = refl
or_none false = refl

any_one : {X Y : Type 0} (f : X → List Y) (p : Y → Bool) (x : X) → list_any p (flat_map f (x ∷ [])) ≡ list_any p (f x)
any_one f p x = ap (list_any p) (flat_map-cons f x []) ∙ list_any-append p (f x) (flat_map f []) ∙ or_none (list_any p (f x))

turned : (a b : ℕ) → (a == b) ≡ (b == a)
turned a b = grind (arith, nat_tests)

itself : (n : ℕ) → (n == n) ≡ true
itself n = grind (arith, nat_tests)

is_itself : (id : Identifier) → is id id ≡ true
is_itself id = ap (λ b. b && (id.instance == id.instance)) (itself id.type) ∙ itself id.instance

-- the first that has something among some of one moment, or among others
first_stamp : {X B : Type 0} (p : X → Bool) (g : X → B) (stamp none : B) (xs : List X) (other : Option X) → All (λ x. g x ≡ stamp) xs →
    maybe (option_or (find p xs) other) none g ≡ (if list_any p xs then stamp else maybe other none g)
first_stamp p g stamp none [] other all = refl
first_stamp p g stamp none (x ∷ xs) other all = by (p x) (first_stamp p g stamp none xs other (All-tail (λ y. g y ≡ stamp) x xs all))
  where
    by : (b : Bool) → maybe (option_or (find p xs) other) none g ≡ (if list_any p xs then stamp else maybe other none g) →
        maybe (option_or (cond b (Some x) (find p xs)) other) none g ≡ (if b || list_any p xs then stamp else maybe other none g)
    by true rest = All-head (λ y. g y ≡ stamp) x xs all
    by false rest = rest

-- ---- marks

module _ (transition : Transition) where
  abbrev comes : Move → Bool
  comes move = is_same transition (transition_to move.to)

  wanted_same : (other : Transition) (point : Point) → is_same transition other ≡ true → wants_ack other point ≡ wants_ack transition point
  wanted_same other point e =
      let same : place_of_transition transition ≡ place_of_transition other = grind (arith, nat_tests) in
      ap (λ n. slice_index_or point.ack_required n false) (sym same)

  acked_with : (point : Point) (moves : List Move) (marks : List Mark) →
      acked_in (find (is_of transition) (marks_with point moves marks)) ≡ (if list_any comes moves then not (wants_ack transition point) else acked_in (find (is_of transition) marks))
  acked_with point [] marks = refl
  acked_with point (move ∷ moves) marks = acked_with point moves (Entered point move.to ∷ marks) ∙ by (list_any comes moves) (comes move) refl
    where
      by : (more now : Bool) → comes move ≡ now →
          (if more then not (wants_ack transition point) else acked_in (cond now (Some (Entered point move.to)) (find (is_of transition) marks)))
          ≡ (if now || more then not (wants_ack transition point) else acked_in (find (is_of transition) marks))
      by true true e = refl
      by true false e = refl
      by false true e = ap not (wanted_same (transition_to move.to) point e)
      by false false e = refl

  stamp_with : (point : Point) (moves : List Move) (marks : List Mark) →
      (stamp_in (find (is_coming transition) (marks_with point moves marks))).octets ≡ (if list_any comes moves then point.stamp.octets else (stamp_in (find (is_coming transition) marks)).octets)
  stamp_with point [] marks = refl
  stamp_with point (move ∷ moves) marks = stamp_with point moves (Entered point move.to ∷ marks) ∙ by (list_any comes moves) (comes move)
    where
      by : (more now : Bool) →
          (if more then point.stamp.octets else (stamp_in (cond now (Some (Entered point move.to)) (find (is_coming transition) marks))).octets)
          ≡ (if now || more then point.stamp.octets else (stamp_in (find (is_coming transition) marks)).octets)
      by true true = refl
      by true false = refl
      by false true = refl
      by false false = refl

  -- a move comes by the book where it does by the code
  comes_same : (move : Move) → (place (numbers.transition_to (state_in_book move.to)) == place (transition_in_book transition)) ≡ comes move
  comes_same move =
      ap (λ (t : numbers.Transition). place t == place (transition_in_book transition)) (entered move.to)
      ∙ ap (λ n. n == place (transition_in_book transition)) (places (transition_to move.to))
      ∙ ap (λ n. place_of_transition (transition_to move.to) == n) (places transition)
      ∙ turned (place_of_transition (transition_to move.to)) (place_of_transition transition)

  come_same : (moves : List Move) → list_any (λ (move : courses.Move). place (numbers.transition_to move.to) == place (transition_in_book transition)) (map move_in_book moves) ≡ list_any comes moves
  come_same [] = refl
  come_same (move ∷ moves) =
      ap (λ b. b || list_any (λ (m : courses.Move). place (numbers.transition_to m.to) == place (transition_in_book transition)) (map move_in_book moves)) (comes_same move)
      ∙ ap (λ b. comes move || b) (come_same moves)

-- ---- points

points_more : (newer before : List Incident) → points_of (newer ++ before) ≡ points_of newer ++ points_of before
points_more [] before = refl
points_more (Looked point ∷ newer) before = ap (λ ps. point ∷ ps) (points_more newer before)
points_more (Acknowledged transition ∷ newer) before = points_more newer before

module _ (others : Point → Settings) (site : Site) (object : Object) (settings : Settings) (algorithm : Algorithm) (first : Point) (detected : IsDetected others site object settings algorithm first) where
  abbrev id : Identifier
  id = identifier_of object

  abbrev told : List Incident → List courses.Point
  told incidents = points_in_book others incidents

  told_more : (newer before : List Incident) → told (newer ++ before) ≡ told newer ++ told before
  told_more newer before = ap (map (point_in_book others)) (points_more newer before) ∙ map-append (point_in_book others) (points_of newer) (points_of before)

  seen_more : (looks older : List book.Look) → book.points_of id (looks ++ older) ≡ book.points_of id looks ++ book.points_of id older
  seen_more looks older = filter_map-append (λ (look : book.Look). option_and_then (λ (o : Object). option_map (book.point_of look o) o.detection) (object_of look.objects id)) looks older

  seen_at : (look : book.Look) (point : Point) (older : List book.Look) → IsLook others site id look point → book.points_of id (look ∷ older) ≡ point_in_book others point ∷ book.points_of id older
  seen_at look point older h = seen_more (look ∷ []) older ∙ ap (λ ps. ps ++ book.points_of id older) h.seen

  seen_looks : (looks : List book.Look) (incidents : List Incident) → AreLooks others site id looks incidents → book.points_of id looks ≡ told incidents
  seen_looks [] [] h = refl
  seen_looks [] (incident ∷ incidents) h = absurd h
  seen_looks (look ∷ looks) [] h = absurd h
  seen_looks (look ∷ looks) (Looked point ∷ incidents) h = seen_at look point looks h.0 ∙ ap (λ ps. point_in_book others point ∷ ps) (seen_looks looks incidents h.1)
  seen_looks (look ∷ looks) (Acknowledged transition ∷ incidents) h = absurd h

  nothing_told : (incidents : List Incident) → incidents ≡ [] → [] ≡ told incidents
  nothing_told incidents e = sym (ap told e)

  seen_act : (act : book.Act) (moment : ℕ) (objects : List Object) (newer : List Incident) → AreOf others site id act moment objects newer → book.points_of id (book.looks_by act moment objects) ≡ told newer
  seen_act book.Tick moment objects newer h = seen_looks (book.looks_by book.Tick moment objects) newer h
  seen_act (book.Write written change) moment objects newer h = seen_looks (book.looks_by (book.Write written change) moment objects) newer h
  seen_act book.Pump moment objects newer h = nothing_told newer h
  seen_act (book.Answer peer invoke) moment objects newer h = nothing_told newer h
  seen_act (book.Edit number list) moment objects newer h = nothing_told newer h
  seen_act (book.Acknowledge named transition state) moment objects [] h = refl
  seen_act (book.Acknowledge named transition state) moment objects (Acknowledged mine ∷ []) h = refl
  seen_act (book.Acknowledge named transition state) moment objects (Acknowledged mine ∷ other ∷ more) h = absurd h
  seen_act (book.Acknowledge named transition state) moment objects (Looked point ∷ more) h = absurd h

  seen_over : (history : List book.Event) (later : List Incident) → IsCourseIn others site id history later → book.points_of id (book.looks_over site history) ≡ told later
  seen_over [] later h = nothing_told later h
  seen_over (event ∷ older) later h =
      seen_more (book.looks_by event.act event.moment (book.objects_after site older)) (book.looks_over site older)
      ∙ ap (λ ps. ps ++ book.points_of id (book.looks_over site older)) (seen_act event.act event.moment (book.objects_after site older) h.newer h.front)
      ∙ ap (λ ps. told h.newer ++ ps) (seen_over older h.before h.rest)
      ∙ sym (told_more h.newer h.before) ∙ ap told (sym h.whole)

  -- ---- the moves at some looks

  module _ (transition : Transition) where
    abbrev of : book.Moved → Bool
    of moved = book.is_of site id (transition_in_book transition) moved

    abbrev comes_in : courses.Move → Bool
    comes_in move = place (numbers.transition_to move.to) == place (transition_in_book transition)

    abbrev moved_by : Object → book.Look → List book.Look → courses.Move → book.Moved
    moved_by other look older move = record { object = identifier_of other; look = look; older = older; move = move }

    others_moves : (other : Object) (look : book.Look) (older : List book.Look) → is (identifier_of other) id ≡ false → (moves : List courses.Move) → list_any of (map (moved_by other look older) moves) ≡ false
    others_moves other look older e [] = refl
    others_moves other look older e (move ∷ moves) =
        ap (λ b. (b && comes_in move) || list_any of (map (moved_by other look older) moves)) e ∙ others_moves other look older e moves

    own_moves : (look : book.Look) (older : List book.Look) (moves : List courses.Move) → list_any of (map (moved_by object look older) moves) ≡ list_any comes_in moves
    own_moves look older [] = refl
    own_moves look older (move ∷ moves) =
        ap (λ b. (b && comes_in move) || list_any of (map (moved_by object look older) moves)) (is_itself id)
        ∙ ap (λ b. comes_in move || b) (own_moves look older moves)

    abbrev moves_there : List courses.Point → List courses.Move
    moves_there points = courses.moves_at (algorithm_in_book algorithm) (point_in_book others first) points

    moves_of_it : (look : book.Look) (older : List book.Look) → book.moves_of site look older object ≡ map (moved_by object look older) (moves_there (book.points_of id (look ∷ older)))
    moves_of_it look older =
        let points = book.points_of id (look ∷ older) in
        ap (λ (found : Option Settings). map (moved_by object look older) (maybe found [] (λ (s : Settings). courses.moves_at s.algorithm (book.first_point site object s) points))) detected.detected
        ∙ ap (λ (a : numbers.Algorithm). map (moved_by object look older) (courses.moves_at a (book.first_point site object settings) points)) detected.algorithm_is
        ∙ ap (λ (p : courses.Point). map (moved_by object look older) (courses.moves_at (algorithm_in_book algorithm) p points)) detected.first_is

    at_look : (look : book.Look) (older : List book.Look) → list_any of (flat_map (book.moves_of site look older) site.objects) ≡ list_any comes_in (moves_there (book.points_of id (look ∷ older)))
    at_look look older =
        any_flat (book.moves_of site look older) of (λ other. is (identifier_of other) id) (λ other e. others_moves other look older e _) site.objects
        ∙ ap (λ objects. list_any of (flat_map (book.moves_of site look older) objects)) detected.only
        ∙ any_one (book.moves_of site look older) of object
        ∙ ap (list_any of) (moves_of_it look older)
        ∙ own_moves look older (moves_there (book.points_of id (look ∷ older)))

    -- whether the transition comes at some points, behind others
    abbrev came : List Incident → List Incident → Bool
    came [] before = false
    came (Looked point ∷ newer) before = came newer before || list_any (comes transition) (moves_at algorithm first (Looked point ∷ (newer ++ before)))
    came (Acknowledged other ∷ newer) before = came newer before

    without_newest : (point : Point) (points : List Point) → All (λ (p : Point). AreKnown p.facts) (first ∷ point ∷ points) → All (λ (p : Point). AreKnown p.facts) (first ∷ points)
    without_newest point points known =
        let Seen = λ (p : Point). AreKnown p.facts in
        let rest = All-tail Seen first (point ∷ points) known in
        All-cons Seen first points (All-head Seen first (point ∷ points) known) (All-tail Seen point points rest)

    came_same : (looks : List book.Look) (newer : List Incident) (older : List book.Look) (before : List Incident) → AreLooks others site id looks newer → book.points_of id older ≡ told before →
        IsKnownCourse first (newer ++ before) → list_any of (book.moves_with site looks older) ≡ came newer before
    came_same [] [] older before h seen known = refl
    came_same [] (incident ∷ newer) older before h seen known = absurd h
    came_same (look ∷ looks) [] older before h seen known = absurd h
    came_same (look ∷ looks) (Acknowledged other ∷ newer) older before h seen known = absurd h
    came_same (look ∷ looks) (Looked point ∷ newer) older before h seen known =
        let points : book.points_of id (look ∷ (looks ++ older)) ≡ told (Looked point ∷ (newer ++ before)) =
        seen_at look point (looks ++ older) h.0 ∙ ap (λ ps. point_in_book others point ∷ ps)
        (seen_more looks older ∙ ap (λ ps. ps ++ book.points_of id older) (seen_looks looks newer h.1) ∙ ap (λ ps. told newer ++ ps) seen ∙ sym (told_more newer before)) in
        list_any-append of (book.moves_with site looks older) (flat_map (book.moves_of site look (looks ++ older)) site.objects)
        ∙ ap (λ b. b || list_any of (flat_map (book.moves_of site look (looks ++ older)) site.objects)) (came_same looks newer older before h.1 seen (without_newest point (points_of (newer ++ before)) known))
        ∙ ap (λ b. came newer before || b) (at_look look (looks ++ older) ∙ ap (λ ps. list_any comes_in (moves_there ps)) points
        ∙ ap (list_any comes_in) (sym (has_moves_of_book algorithm others first point (newer ++ before) known)) ∙ come_same transition (moves_at algorithm first (Looked point ∷ (newer ++ before))))

    -- ---- what is kept of the moves at some looks

    abbrev marks : List Incident → List Mark
    marks incidents = marks_of algorithm first incidents

    abbrev acked : List Incident → Bool
    acked incidents = acked_in (find (is_of transition) (marks incidents))

    abbrev stamped : List Incident → List ℕ
    stamped incidents = (stamp_in (find (is_coming transition) (marks incidents))).octets

    abbrev wants : Bool
    wants = book.wants_acknowledgement site id (transition_in_book transition)

    twice : {X : Type 0} (more now : Bool) (x y : X) → (if now then x else (if more then x else y)) ≡ (if more || now then x else y)
    twice true true x y = refl
    twice true false x y = refl
    twice false true x y = refl
    twice false false x y = refl

    acked_behind : (looks : List book.Look) (newer before : List Incident) → AreLooks others site id looks newer → acked (newer ++ before) ≡ (if came newer before then not wants else acked before)
    unfolding marks_of
    acked_behind [] [] before h = refl
    acked_behind [] (incident ∷ newer) before h = absurd h
    acked_behind (look ∷ looks) [] before h = absurd h
    acked_behind (look ∷ looks) (Acknowledged other ∷ newer) before h = absurd h
    acked_behind (look ∷ looks) (Looked point ∷ newer) before h =
        let moves = moves_at algorithm first (Looked point ∷ (newer ++ before)) in
        acked_with transition point moves (marks (newer ++ before))
        ∙ ap (λ b. if list_any (comes transition) moves then not b else acked (newer ++ before)) (h.0.wanted transition)
        ∙ ap (λ b. if list_any (comes transition) moves then not wants else b) (acked_behind looks newer before h.1)
        ∙ twice (came newer before) (list_any (comes transition) moves) (not wants) (acked before)

    stamped_behind : (moment : ℕ) (looks : List book.Look) (newer before : List Incident) → All (λ (look : book.Look). look.moment ≡ moment) looks → AreLooks others site id looks newer →
        stamped (newer ++ before) ≡ (if came newer before then stamp_at site.device moment else stamped before)
    unfolding marks_of
    stamped_behind moment [] [] before at h = refl
    stamped_behind moment [] (incident ∷ newer) before at h = absurd h
    stamped_behind moment (look ∷ looks) [] before at h = absurd h
    stamped_behind moment (look ∷ looks) (Acknowledged other ∷ newer) before at h = absurd h
    stamped_behind moment (look ∷ looks) (Looked point ∷ newer) before at h =
        let moves = moves_at algorithm first (Looked point ∷ (newer ++ before)) in
        let At = λ (l : book.Look). l.moment ≡ moment in
        stamp_with transition point moves (marks (newer ++ before))
        ∙ ap (λ s. if list_any (comes transition) moves then s else stamped (newer ++ before)) (h.0.stamp ∙ ap (stamp_at site.device) (All-head At look looks at))
        ∙ ap (λ s. if list_any (comes transition) moves then stamp_at site.device moment else s) (stamped_behind moment looks newer before (All-tail At look looks at) h.1)
        ∙ twice (came newer before) (list_any (comes transition) moves) (stamp_at site.device moment) (stamped before)

    -- ---- one event

    abbrev AtMoment : ℕ → book.Moved → Type 0
    AtMoment moment = λ moved. stamp_at site.device moved.look.moment ≡ stamp_at site.device moment

    all_mapped : (moment : ℕ) (other : Object) (look : book.Look) (older : List book.Look) → look.moment ≡ moment → (moves : List courses.Move) → All (AtMoment moment) (map (moved_by other look older) moves)
    all_mapped moment other look older e [] = All-nil (AtMoment moment)
    all_mapped moment other look older e (move ∷ moves) =
        All-cons (AtMoment moment) (moved_by other look older move) (map (moved_by other look older) moves) (ap (stamp_at site.device) e) (all_mapped moment other look older e moves)

    all_flat : (moment : ℕ) (look : book.Look) (older : List book.Look) → look.moment ≡ moment → (objects : List Object) → All (AtMoment moment) (flat_map (book.moves_of site look older) objects)
    all_flat moment look older e [] = All-nil (AtMoment moment)
    all_flat moment look older e (other ∷ objects) =
        subst (All (AtMoment moment)) (sym (flat_map-cons (book.moves_of site look older) other objects))
        (All-append (AtMoment moment) (book.moves_of site look older other) (flat_map (book.moves_of site look older) objects)
        (all_mapped moment other look older e _) (all_flat moment look older e objects))

    all_moves : (moment : ℕ) (looks older : List book.Look) → All (λ (look : book.Look). look.moment ≡ moment) looks → All (AtMoment moment) (book.moves_with site looks older)
    all_moves moment [] older at = All-nil (AtMoment moment)
    all_moves moment (look ∷ looks) older at =
        let At = λ (l : book.Look). l.moment ≡ moment in
        All-append (AtMoment moment) (book.moves_with site looks older) (flat_map (book.moves_of site look (looks ++ older)) site.objects)
        (all_moves moment looks older (All-tail At look looks at)) (all_flat moment look (looks ++ older) (All-head At look looks at) site.objects)

    abbrev stamp_now : List book.Event → List ℕ
    stamp_now history = book.stamp_of site history id (transition_in_book transition)

    abbrev acknowledged_now : List book.Event → Bool
    acknowledged_now history = book.is_acknowledged site id (transition_in_book transition) history

    stamp_behind : (event : book.Event) (older : List book.Event) → All (AtMoment event.moment) (book.moves_by site event older) →
        stamp_now (event ∷ older) ≡ (if list_any of (book.moves_by site event older) then stamp_at site.device event.moment else stamp_now older)
    stamp_behind event older all =
        let moves = book.moves_by site event older in
        let turned_moves = IsPermutation-reverse moves in
        let stamp = λ (moved : book.Moved). stamp_at site.device moved.look.moment in
        ap (λ found. maybe found no_stamp stamp) (find-append of (reverse moves) (book.moves_over site older))
        ∙ first_stamp of stamp (stamp_at site.device event.moment) no_stamp (reverse moves) (find of (book.moves_over site older)) (All-permutation (AtMoment event.moment) moves (reverse moves) turned_moves all)
        ∙ ap (λ b. if b then stamp_at site.device event.moment else stamp_now older) (sym (list_any-IsPermutation of moves (reverse moves) turned_moves))

    abbrev Keeps : List book.Event → List Incident → Type 0
    Keeps history later = (acknowledged_now history ≡ acked later) × (stamp_now history ≡ stamped later)

    looked : (event : book.Event) (older : List book.Event) (newer before : List Incident) →
        let looks = book.looks_by event.act event.moment (book.objects_after site older) in
        AreLooks others site id looks newer → All (λ (look : book.Look). look.moment ≡ event.moment) looks → book.acknowledges id (transition_in_book transition) event.act ≡ false →
        book.points_of id (book.looks_over site older) ≡ told before → IsKnownCourse first (newer ++ before) → Keeps older before → Keeps (event ∷ older) (newer ++ before)
    looked event older newer before h at none seen known rest =
        let looks = book.looks_by event.act event.moment (book.objects_after site older) in
        let moves = book.moves_by site event older in
        let same = came_same looks newer (book.looks_over site older) before h seen known in (
          ap (λ b. b || (if is_some (find of moves) then not wants else acknowledged_now older)) none
              ∙ ap (λ b. if b then not wants else acknowledged_now older) (any_found of moves ∙ same)
              ∙ ap (λ b. if came newer before then not wants else b) rest.0
              ∙ sym (acked_behind looks newer before h),
          stamp_behind event older (all_moves event.moment looks (book.looks_over site older) at)
              ∙ ap (λ b. if b then stamp_at site.device event.moment else stamp_now older) same
              ∙ ap (λ s. if came newer before then stamp_at site.device event.moment else s) rest.1
              ∙ sym (stamped_behind event.moment looks newer before at h),
        )

    was_acked : (mine : Transition) (named wanted : Bool) (before : List Incident) (older : Bool) → named ≡ true → wanted ≡ is_same transition mine → older ≡ acked before →
        ((named && wanted) || older) ≡ acked (Acknowledged mine ∷ before)
    unfolding marks_of
    was_acked mine named wanted before older e f rest =
        ap (λ b. (b && wanted) || older) e ∙ ap (λ b. b || older) f ∙ ap (λ b. is_same transition mine || b) rest ∙ by (is_same transition mine)
      where
        by : (b : Bool) → (b || acked before) ≡ acked_in (cond b (Some (Acked mine)) (find (is_of transition) (marks before)))
        by true = refl
        by false = refl

    was_stamped : (mine : Transition) (before : List Incident) → stamped before ≡ stamped (Acknowledged mine ∷ before)
    unfolding marks_of
    was_stamped mine before = refl

    transitions_same : (mine : Transition) (told_of : numbers.Transition) → transition_in_book mine ≡ told_of → (place told_of == place (transition_in_book transition)) ≡ is_same transition mine
    transitions_same mine told_of e =
        ap (λ (t : numbers.Transition). place t == place (transition_in_book transition)) (sym e)
        ∙ ap (λ n. n == place (transition_in_book transition)) (places mine) ∙ ap (λ n. place_of_transition mine == n) (places transition)
        ∙ turned (place_of_transition mine) (place_of_transition transition)

    nothing : (older : List book.Event) (newer before : List Incident) → newer ≡ [] → Keeps older before → Keeps older (newer ++ before)
    nothing older newer before e rest = subst (λ (incidents : List Incident). Keeps older (incidents ++ before)) (sym e) rest

    step : (moment : ℕ) (act : book.Act) (older : List book.Event) (newer before : List Incident) → AreOf others site id act moment (book.objects_after site older) newer →
        book.points_of id (book.looks_over site older) ≡ told before → IsKnownCourse first (newer ++ before) → Keeps older before → Keeps (record { moment = moment; act = act } ∷ older) (newer ++ before)
    step moment book.Tick older newer before h seen known rest =
        let At = λ (look : book.Look). look.moment ≡ moment in
        let look : book.Look = record { moment = moment; objects = book.objects_after site older } in
        looked (record { moment = moment; act = book.Tick }) older newer before h (All-cons At look [] refl (All-nil At)) refl seen known rest
    step moment (book.Write written change) older newer before h seen known rest =
        let At = λ (look : book.Look). look.moment ≡ moment in
        let first_look : book.Look = record { moment = moment; objects = book.objects_after site older } in
        let second_look : book.Look = record { moment = moment; objects = book.objects_with (book.Write written change) (book.objects_after site older) } in
        looked (record { moment = moment; act = book.Write written change }) older newer before h
        (All-cons At second_look (first_look ∷ []) refl (All-cons At first_look [] refl (All-nil At))) refl seen known rest
    step moment book.Pump older newer before h seen known rest = nothing older newer before h rest
    step moment (book.Answer peer invoke) older newer before h seen known rest = nothing older newer before h rest
    step moment (book.Edit number list) older newer before h seen known rest = nothing older newer before h rest
    step moment (book.Acknowledge named wanted state) older [] before h seen known rest =
        (ap (λ b. (b && (place wanted == place (transition_in_book transition))) || acknowledged_now older) h ∙ rest.0, rest.1)
    step moment (book.Acknowledge named wanted state) older (Acknowledged mine ∷ []) before h seen known rest =
        (was_acked mine (is named id) (place wanted == place (transition_in_book transition)) before (acknowledged_now older) h.0 (transitions_same mine wanted h.1) rest.0, rest.1 ∙ was_stamped mine before)
    step moment (book.Acknowledge named wanted state) older (Acknowledged mine ∷ other ∷ more) before h seen known rest = absurd h
    step moment (book.Acknowledge named wanted state) older (Looked point ∷ more) before h seen known rest = absurd h

    -- ---- a history

    known_before : (newer before : List Incident) → IsKnownCourse first (newer ++ before) → IsKnownCourse first before
    known_before [] before known = known
    known_before (Looked point ∷ newer) before known = known_before newer before (without_newest point (points_of (newer ++ before)) known)
    known_before (Acknowledged other ∷ newer) before known = known_before newer before known

    nothing_kept : Keeps [] []
    unfolding marks_of
    nothing_kept = (refl, refl)

    keeps : (history : List book.Event) (later : List Incident) → IsCourseIn others site id history later → IsKnownCourse first later → Keeps history later
    keeps [] later h known = subst (Keeps []) (sym h) nothing_kept
    keeps (event ∷ older) later h known =
        let known_all = subst (IsKnownCourse first) h.whole known in
        let rest = keeps older h.before h.rest (known_before h.newer h.before known_all) in
        subst (Keeps (event ∷ older)) (sym h.whole) (step event.moment event.act older h.newer h.before h.front (seen_over older h.before h.rest) known_all rest)

  states : (history : List book.Event) (later : List Incident) → IsCourseIn others site id history later → IsKnownCourse first later →
      book.state_at site (book.looks_over site history) id ≡ state_in_book (detection_at algorithm first later).state
  states history later h known =
      let looks = book.looks_over site history in
      let state = λ (found : Option courses.Course). maybe found numbers.Normal (λ (c : courses.Course). c.state) in
      ap (λ (found : Option Object). state (option_and_then (book.course_at site looks) found)) (found_only (λ (other : Object). is (identifier_of other) id) site.objects object detected.only)
      ∙ ap (λ (found : Option Settings). state (option_map (λ (s : Settings). courses.course_of s.algorithm (book.first_point site object s) (book.points_of id looks)) found)) detected.detected
      ∙ ap (λ (a : numbers.Algorithm). (courses.course_of a (book.first_point site object settings) (book.points_of id looks)).state) detected.algorithm_is
      ∙ ap (λ (p : courses.Point). (courses.course_of (algorithm_in_book algorithm) p (book.points_of id looks)).state) detected.first_is
      ∙ ap (λ (ps : List courses.Point). (courses.course_of (algorithm_in_book algorithm) (point_in_book others first) ps).state) (seen_over history later h)
      ∙ sym (ap (λ (c : courses.Course). c.state) (has_course_of_book algorithm others first later known))

pub has_records_of_book : HasRecordsOfBook
has_records_of_book others site object settings algorithm first later history detected known course = record {
  state = states others site object settings algorithm first detected history later course known;
  stamps = λ transition. (keeps others site object settings algorithm first detected transition history later course known).1;
  acknowledged = λ transition. (keeps others site object settings algorithm first detected transition history later course known).0;
}
