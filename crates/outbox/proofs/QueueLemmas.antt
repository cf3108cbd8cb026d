-- Notes that are queued one after the other.
use Rattle.std.proofs.Common.{◌≡◌, ◌≢◌, ◌⊎◌, ℕ, zero, suc, ◌+◌, ◌<◌, true, false, true≢false, ◌||◌, IsTrue, List, [], ◌∷◌, ◌++◌, length, take, drop, map, set, get_or, Result, Ok, Err, refl, sym, ◌∙◌, ap, subst, inl, inr, arith, append_assoc}
use Rattle.std.specs.Result.{OnOk, OnErr, is_err}
use Rattle.std.proofs.lemmas.Bool.{cases_eq}
use Rattle.std.proofs.lemmas.List.{append-nil, get_or_default, get_or-map, length-map, length-set, get_or-set_same, get_or-set_other, same_lists, take_more, map_more, drop_more, get_or_at, set_at, length-take-le, length-append, length-take, length-drop}
use Rattle.std.proofs.lemmas.List.Elements.{filter-append}
use Rattle.std.proofs.lemmas.List.Folds.{list_any_none}
use Rattle.bac_values.specs.Address.{PeerData}
use Rattle.bac_values.specs.declared.note.Note.{Note}
use Rattle.bac_values.specs.Orders.{is_same, IsAscending}
use Rattle.outbox.specs.Posts.{with_note, MailboxState}
use Rattle.outbox.specs.Outboxes.{peers_of, notes_for, with_notes, is_known, without_body}
use Rattle.outbox.specs.Places.{IsPlaceOf, IsGapFor}
use Rattle.outbox.proofs.PlaceLemmas.{changed_one, here, others, nowhere}
use Rattle.outbox.proofs.Standing.{peers_stay}

-- one note, at its recipient and at every other
one_other : (note : Note) (post : MailboxState) → is_same post.peer note.peer ≡ false → with_notes (note ∷ []) post ≡ post
one_other note post e = rw e (λ k. record post { notes = append-nil post.notes k })

one_own : (note : Note) (post : MailboxState) → is_same post.peer note.peer ≡ true → with_notes (note ∷ []) post ≡ with_note note post
one_own note post e = rw e refl

pub put_one : (note : Note) (posts : List MailboxState) (place : ℕ) (new old : MailboxState) → IsAscending (peers_of posts) → IsPlaceOf note.peer posts place → new ≡ with_note note (get_or posts place old) → set posts place new ≡ map (with_notes (note ∷ [])) posts
put_one note posts place new old ascending there is =
    changed_one (with_notes (note ∷ [])) note.peer (one_other note) posts place new ascending there
    (λ d. is ∙ ap (with_note note) (get_or_default posts place old d there.0) ∙ sym (one_own note (get_or posts place d) (here posts note.peer place there d)))

-- a peer that is known has a place
pub known_nowhere : (peer : PeerData) (posts : List MailboxState) (place : ℕ) → IsTrue (is_known peer posts) → IsGapFor peer posts place → ⊥
known_nowhere peer posts place known gap =
    true≢false (sym known ∙ list_any_none (λ (post : MailboxState). is_same post.peer peer) posts (λ j d within. nowhere posts peer place gap j d within))

-- more notes behind some
pub more_notes : (notes more : List Note) (posts : List MailboxState) → map (with_notes more) (map (with_notes notes) posts) ≡ map (with_notes (notes ++ more)) posts
more_notes notes more [] = refl
more_notes notes more (post ∷ posts) =
    let both : post.notes ++ notes_for post.peer notes ++ notes_for post.peer more ≡ post.notes ++ notes_for post.peer (notes ++ more) =
    append_assoc post.notes (notes_for post.peer notes) (notes_for post.peer more) ∙ ap (λ ns. post.notes ++ ns) (sym (filter-append (λ (note : Note). is_same post.peer note.peer) notes more)) in
    λ k. record post { notes = both k } ∷ more_notes notes more posts k

pub no_notes : (posts : List MailboxState) → map (with_notes []) posts ≡ posts
no_notes [] = refl
no_notes (post ∷ posts) = λ k. record post { notes = append-nil post.notes k } ∷ no_notes posts k

-- the last note of one recipient is taken back
module _ (note : Note) (posts : List MailboxState) where
  abbrev longer : MailboxState → MailboxState
  longer = with_notes (note ∷ [])

  place_before : (place : ℕ) → IsPlaceOf note.peer (map longer posts) place → IsPlaceOf note.peer posts place
  place_before place there =
      let size = length-map posts longer in
      let within : place < length posts = omega (arith, size, there.0) in
      (within, λ d. ap (λ (post : MailboxState). post.peer) (sym (get_or-map longer posts place d d within)) ∙ there.1 d)

  pub had_one : (place : ℕ) (old : MailboxState) → IsPlaceOf note.peer (map longer posts) place → get_or (map longer posts) place old ≡ with_note note (get_or posts place old)
  had_one place old there =
      let before = place_before place there in
      get_or-map longer posts place old old before.0 ∙ one_own note (get_or posts place old) (here posts note.peer place before old)

  pub taken_one : (place : ℕ) (new old : MailboxState) → IsAscending (peers_of (map longer posts)) → IsPlaceOf note.peer (map longer posts) place → new ≡ get_or posts place old → set (map longer posts) place new ≡ posts
  taken_one place new old ascending there is =
      let before = place_before place there in
      let rises = subst IsAscending (peers_stay longer (λ post. refl) posts) ascending in
      let long : length (set (map longer posts) place new) ≡ length posts = length-set (map longer posts) place new ∙ length-map posts longer in
      same_lists (set (map longer posts) place new) posts long (λ j d inside.
      let within : j < length posts = omega (arith, long, inside) in
      at before rises j d within (cases_eq j place))
    where
      at : IsPlaceOf note.peer posts place → IsAscending (peers_of posts) → (j : ℕ) (d : MailboxState) → j < length posts → (j ≡ place) ⊎ (j ≢ place) → get_or (set (map longer posts) place new) j d ≡ get_or posts j d
      at before rises j d within (inl same) =
          ap (λ n. get_or (set (map longer posts) place new) n d) same ∙ get_or-set_same (map longer posts) place new d there.0 ∙ is ∙ get_or_default posts place old d before.0 ∙ ap (λ n. get_or posts n d) (sym same)
      at before rises j d within (inr other) =
          get_or-set_other (map longer posts) place j new d other ∙ get_or-map longer posts j d d within ∙ one_other note (get_or posts j d) (others posts note.peer place rises before j d within other)

-- a peer has a post before and after
pub known_after : (notes : List Note) (posts : List MailboxState) (peer : PeerData) → is_known peer (map (with_notes notes) posts) ≡ is_known peer posts
known_after notes [] peer = refl
known_after notes (post ∷ posts) peer = ap (λ b. is_same post.peer peer || b) (known_after notes posts peer)

pub peers_set : (posts : List MailboxState) (place : ℕ) (new old : MailboxState) → new.peer ≡ (get_or posts place old).peer → peers_of (set posts place new) ≡ peers_of posts
peers_set [] place new old same = refl
peers_set (post ∷ posts) zero new old same = λ k. same k ∷ peers_of posts
peers_set (post ∷ posts) (suc place) new old same = λ k. post.peer ∷ peers_set posts place new old same k

-- one note more or less of those that were moved
module _ (whole : List Note) (place : ℕ) (within : place < length whole) (d : Note) where
  pub step_posts : (posts : List MailboxState) → map (with_notes (take (place + 1) whole)) posts ≡ map (with_notes (get_or whole place d ∷ [])) (map (with_notes (take place whole)) posts)
  step_posts posts = ap (λ ns. map (with_notes ns) posts) (take_more whole place d within) ∙ sym (more_notes (take place whole) (get_or whole place d ∷ []) posts)

  front_long : length (map without_body (take place whole)) ≡ place
  front_long = length-map (take place whole) without_body ∙ length-take-le place whole (omega arith)

  moved_here : map without_body (take (place + 1) whole) ++ drop (place + 1) whole ≡ map without_body (take place whole) ++ without_body (get_or whole place d) ∷ drop (place + 1) whole
  moved_here = ap (λ ns. ns ++ drop (place + 1) whole) (map_more without_body whole place d within) ∙ append_assoc (map without_body (take place whole)) (without_body (get_or whole place d) ∷ []) (drop (place + 1) whole)

  pub moved_at : (e : Note) → get_or (map without_body (take (place + 1) whole) ++ drop (place + 1) whole) place e ≡ without_body (get_or whole place d)
  moved_at e = ap (λ ns. get_or ns place e) moved_here ∙ get_or_at (map without_body (take place whole)) (without_body (get_or whole place d)) (drop (place + 1) whole) e place front_long

  pub put_back : set (map without_body (take (place + 1) whole) ++ drop (place + 1) whole) place (get_or whole place d) ≡ map without_body (take place whole) ++ drop place whole
  put_back = ap (λ ns. set ns place (get_or whole place d)) moved_here
      ∙ set_at (map without_body (take place whole)) (without_body (get_or whole place d)) (drop (place + 1) whole) (get_or whole place d) place front_long
      ∙ ap (λ ns. map without_body (take place whole) ++ ns) (sym (drop_more whole place d within))

pub moved_long : (whole : List Note) (count : ℕ) → length (map without_body (take count whole) ++ drop count whole) ≡ length whole
moved_long whole count =
    let both = length-append (map without_body (take count whole)) (drop count whole) in
    let front = length-map (take count whole) without_body in
    let taken = length-take count whole in
    let rest = length-drop count whole in
    omega (arith, both, front, taken, rest)

-- recipients that ascended do so still
pub rising_still : (notes : List Note) (posts now : List MailboxState) → now ≡ map (with_notes notes) posts → IsAscending (peers_of posts) → IsAscending (peers_of now)
rising_still notes posts now same ascending = subst IsAscending (sym (ap peers_of same ∙ peers_stay (with_notes notes) (λ post. refl) posts)) ascending

pub on_ok : {T E : Type 0} {P : Type 0} (r : Result T E) → is_err r ≡ false → OnOk r P → P
on_ok (Ok x) e h = h
on_ok (Err x) e h = absurd (true≢false e)

pub on_err : {T E : Type 0} {P : Type 0} (r : Result T E) → is_err r ≡ true → OnErr r P → P
on_err (Ok x) e h = absurd (true≢false (sym e))
on_err (Err x) e h = h
