-- The tallies of reports that grow by a piece.
use Rattle.std.proofs.Common.{◌≡◌, ℕ, ◌+◌, Bool, cond, List, [], ◌∷◌, ◌++◌, refl, ap, ◌∙◌, arith, append-nil}
use Rattle.std.specs.List.{count_by, flat_map}
use Rattle.std.proofs.lemmas.Grind.{flat_map-append}
use Rattle.std.proofs.lemmas.List.Sums.{sum_by-append}
use Rattle.bac_values.specs.declared.report.ReportLine.{ReportLine}
use Rattle.alarm_core.specs.State.{CoreState}
use Rattle.alarm_server.specs.declared.tally.Tally.{Tally}
use Rattle.alarm_server.specs.Pieces.{end_piece, open_piece}
use Rattle.alarm_server.specs.Tallies.{is_change, is_entered, is_full, is_sent, no_tally, tally_of, tally_with}

abbrev made : ℕ → ℕ → ℕ → ℕ → Tally
made events changes sends full = record { events = events; changes = changes; sends = sends; full = full }

same_made : (a b c d a' b' c' d' : ℕ) → a ≡ a' → b ≡ b' → c ≡ c' → d ≡ d' → made a b c d ≡ made a' b' c' d'
same_made a b c d a' b' c' d' p q r s = ap (λ n. made n b c d) p ∙ (ap (λ n. made a' n c d) q ∙ (ap (λ n. made a' b' n d) r ∙ ap (λ n. made a' b' c' n) s))

counted : (is : ReportLine → Bool) (before : ℕ) (xs ys : List ReportLine) → before + count_by is (xs ++ ys) ≡ (before + count_by is xs) + count_by is ys
counted is before xs ys =
    let both : count_by is (xs ++ ys) ≡ count_by is xs + count_by is ys = sum_by-append (λ x. cond (is x) 1 0) xs ys in
    omega (arith, both)

-- lines, and then others
pub tally-append : (xs ys : List ReportLine) (tally : Tally) → tally_with (xs ++ ys) tally ≡ tally_with ys (tally_with xs tally)
tally-append xs ys tally =
    same_made _ _ _ _ _ _ _ _ (counted is_entered tally.events xs ys) (counted is_change tally.changes xs ys) (counted is_sent tally.sends xs ys) (counted is_full tally.full xs ys)

-- one more piece
pub tally-next : (pieces : List (List ReportLine)) (piece : List ReportLine) → tally_of (pieces ++ piece ∷ []) ≡ tally_with piece (tally_of pieces)
tally-next pieces piece =
    let lines = flat_map (λ (p : List ReportLine). p) pieces in
    ap (λ ls. tally_with ls no_tally) (flat_map-append (λ (p : List ReportLine). p) pieces (piece ∷ []) ∙ ap (λ ls. lines ++ ls) (append-nil piece))
    ∙ tally-append lines piece no_tally

-- the first piece and the last one have no line that is counted
pub tally-open : (state : CoreState) → tally_of (open_piece state ∷ []) ≡ no_tally
tally-open state = refl

ends_with : (lines : ℕ) (state : CoreState) (tally : Tally) → tally_with (end_piece lines state) tally ≡ tally
ends_with lines state tally = same_made _ _ _ _ _ _ _ _ (omega arith) (omega arith) (omega arith) (omega arith)

pub tally-end : (pieces : List (List ReportLine)) (lines : ℕ) (state : CoreState) → tally_of (pieces ++ end_piece lines state ∷ []) ≡ tally_of pieces
tally-end pieces lines state = tally-next pieces (end_piece lines state) ∙ ends_with lines state (tally_of pieces)
