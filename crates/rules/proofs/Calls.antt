-- What each public call can refuse, by number and place: the questions that it asks and no others; and the loader's number, which gives number and place back.
-- Assumes nothing.
use mathlib.Core.Bool.{true, not, ◌&&◌, ◌||◌}
use mathlib.Core.List.{List, [], ◌∷◌}
use mathlib.Core.Path.{◌≡◌, refl, sym, ap, subst}
use Prim.Native.Nat.{ℕ, zero, suc, ◌/◌, ◌%◌, ◌≤◌, ◌<◌}
use native.Mathlib.Omega.{arith}
use lib.Dec.{eqb, leb, ltb}
use lib.ListN.{length}
use borrow.Author.Tests.{leb-true, eq-eqb}
use Rattle.rules.specs.declared.layer.Settings.{Settings}
use Rattle.rules.specs.declared.layer.Piece.{Piece}
use Rattle.rules.specs.declared.refusal.Place.{Place}
use Rattle.rules.specs.declared.answers.Scoring.{Scoring}
use Rattle.rules.specs.Basics.{sum_pairs}
use Rattle.rules.specs.Settings.{settings_in_range}
use Rattle.rules.specs.Edges.{edge_of}
use Rattle.rules.specs.Score.{mask_of, is_set}
use Rattle.rules.specs.Units.{unit_of, fits_unit}
use Rattle.rules.specs.Decomposition.{Run, run}
use Rattle.rules.specs.LayerText.{layer_text}
use Rattle.rules.specs.ResultText.{result_text}
use Rattle.rules.specs.Questions.{Outcome, done, refused, ask, judge_layer, Valid, Layer, read_layer}
use Rattle.rules.specs.Calls.{new_settings, edge_between, score_masks, decompose_layer, write_layer, decompose_read, decompose_text}
use Rattle.rules.specs.Loader.{loader_number, place_from}
use Rattle.rules.specs.Refusals.{Ends, accepts, OfSettings, setting, OfRecords, OfMaskList, records, mask_count, OfMasks, mask_list, mask_range, split, OfText, size, form, range, area, fixed_range, overlap, fixed_split, OfBuffer, buffer, given}
use Rattle.rules.specs.Demands.{layer_score, layer_scoring}
use Rattle.rules.proofs.Tests.{by_test}
use Rattle.rules.proofs.Finding.{find_up_to}
use Rattle.rules.proofs.Sums.{pairs_count}
use Rattle.rules.proofs.Outcomes.{accepted, ends_then, ends_ask, ends_each, ends_refused, then_with}
use Rattle.rules.proofs.Validity.{Sound, sound_valid, judged}
use Rattle.rules.proofs.Reading.{read_ends}

pub settings_end : (masks spacing margin weight budget : ℕ) → Ends (λ s. settings_in_range s ≡ true) OfSettings (new_settings masks spacing margin weight budget)
unfolding new_settings
settings_end masks spacing margin weight budget =
    let s : Settings = record { masks = masks; spacing = spacing; margin = margin; weight = weight; budget = budget } in
    ends_then (ends_ask (settings_in_range s) 4 Place.Nothing setting) λ _ e. accepts e

pub edge_ends : (s : Settings) (a b : Piece) → Ends (λ e. e ≡ edge_of s a b) (OfRecords 2) (edge_between s a b)
unfolding edge_between
edge_ends s a b = ends_then (judged s (a ∷ b ∷ [])) λ _ _. accepts refl

-- the first piece is not set, or is the lowest set one of its unit
first_fits : (unit : ℕ → ℕ) (n : ℕ) (masks : List ℕ) → 0 < n → fits_unit unit n masks 0 ≡ true
first_fits unit n masks h =
    by_test (is_set masks 0)
    (λ e.
    let found = find_up_to (λ i. is_set masks i && eqb (unit i) (unit 0)) n 0 h (λ i l. absurd (omega arith)) (rw (e, eq-eqb (unit 0) (unit 0) refl)) in
    rw (e, found, eq-eqb (mask_of masks 0) (mask_of masks 0) refl))
    (λ e. rw e)

-- 12 of piece i
split_ends : (unit : ℕ → ℕ) (n : ℕ) (masks : List ℕ) (i : ℕ) → i < n → Ends (λ _. fits_unit unit n masks i ≡ true) (OfMasks n) (ask (fits_unit unit n masks i) 12 (Place.Piece i))
split_ends unit n masks zero h = rw (first_fits unit n masks h) (accepts refl)
split_ends unit n masks (suc i) h = ends_ask (fits_unit unit n masks (suc i)) 12 (Place.Piece (suc i)) (split (omega arith) h)

pub score_ends : (s : Settings) (ps : List Piece) (masks : List ℕ) → Ends (λ r. r ≡ layer_scoring s ps masks) (OfMasks (length ps)) (score_masks s ps masks)
unfolding score_masks
score_ends s ps masks =
    ends_then (ends_refused (λ _ _ r. mask_list (records r)) (judged s ps)) λ _ _.
    ends_then (ends_ask (eqb (length masks) (length ps)) 7 _ (mask_list mask_count)) λ _ _.
    ends_then (ends_each _ (length ps) (λ i h. ends_ask (not (is_set masks i) || ltb (mask_of masks i) s.masks) 8 _ (mask_range h))) λ _ _.
    ends_then (ends_each _ (length ps) (split_ends (unit_of s ps) (length ps) masks)) λ _ _.
    accepts refl

-- the pairs that a score states as tested are one for each unordered pair
pub score_tested : (s : Settings) (ps : List Piece) (masks : List ℕ) (r : Scoring) → score_masks s ps masks ≡ done r → r.tested ≡ sum_pairs (λ u v. 1) (length ps)
score_tested s ps masks r e =
    let same : r ≡ layer_scoring s ps masks = accepted (score_ends s ps masks) e in
    rw same (sym (pairs_count (length ps)))

-- ---- Calls whose value is made of a valid layer

pub decompose_ends : (P : Settings → List Piece → Run → Type 0) → ((s : Settings) (ps : List Piece) → Valid s ps → P s ps (run s ps))
    → (s : Settings) (ps : List Piece) (masks : List ℕ) → Ends (P s ps) (OfMaskList (length ps)) (decompose_layer s ps masks)
unfolding decompose_layer
decompose_ends P holds s ps masks =
    ends_then (ends_refused (λ _ _ r. records r) (judged s ps)) λ _ f.
    ends_then (ends_ask (eqb (length masks) (length ps)) 7 _ mask_count) λ _ _.
    accepts (holds s ps (sound_valid s ps f))

-- the buffer has 32,768 bytes where a layer is written, and 4,096 where a result is
pub write_ends : ((s : Settings) (ps : List Piece) → Valid s ps → length (layer_text s ps) ≤ 32_768)
    → (s : Settings) (ps : List Piece) (out : List ℕ) → Ends (λ text. length text ≤ length out) (OfBuffer (OfRecords (length ps))) (write_layer s ps out)
unfolding write_layer
write_ends fits s ps out =
    ends_then (ends_ask (leb 32_768 (length out)) 1 _ buffer) λ _ room.
    ends_then (ends_refused (λ _ _ r. given r) (judged s ps)) λ _ f.
    accepts (omega (arith, leb-true 32_768 (length out) room, fits s ps (sound_valid s ps f)))

-- the refusals of a call that reads a layer are 1 and those of the reading; Q is what follows for a result text from what holds of the layer
pub read_call_ends : {P : Layer → Type 0} {Q : List ℕ → Type 0} {R : ℕ → Place → Type 0} (read : Outcome Layer) (out : List ℕ)
    → ((l : Layer) → 4_096 ≤ length out → P l → Q (result_text (run l.settings l.pieces))) → Ends P R read → Ends Q (OfBuffer R) (decompose_read read out)
read_call_ends read out holds e =
    ends_then (ends_ask (leb 4_096 (length out)) 1 _ buffer) λ _ room.
    ends_then (ends_refused (λ _ _ r. given r) e) λ l f.
    accepts (holds l (leb-true 4_096 (length out) room) f)

module _ (fits : (s : Settings) (ps : List Piece) → Valid s ps → length (result_text (run s ps)) ≤ 4_096) where
  pub has_room : (out : List ℕ) (l : Layer) → 4_096 ≤ length out → Sound l.settings l.pieces → length (result_text (run l.settings l.pieces)) ≤ length out
  has_room out l room f = omega (arith, fits l.settings l.pieces (sound_valid l.settings l.pieces f))

  pub load_ends : (text out : List ℕ) → Ends (λ result. length result ≤ length out) (OfBuffer (OfText text)) (decompose_text text out)
  unfolding decompose_text
  load_ends text out = read_call_ends (read_layer text) out (has_room out) (read_ends text)

-- the counts and the cost of a decomposition are those of its masks
pub decompose_counts : (s : Settings) (ps : List Piece) (lent : List ℕ) (r : Run) → decompose_layer s ps lent ≡ done r
    → record { conflicts = r.conflicts; stitches = r.stitches; cost = r.cost } ≡ layer_score s ps r.masks
unfolding decompose_layer run
decompose_counts s ps lent r e =
    then_with (judge_layer s ps) _ r e λ _ e1 k1.
    then_with (ask (eqb (length lent) (length ps)) 7 Place.Nothing) _ r k1 λ _ e2 k2.
    let same : run s ps ≡ r = cc k2 in
    subst (λ (q : Run). record { conflicts = q.conflicts; stitches = q.stitches; cost = q.cost } ≡ layer_score s ps q.masks) same refl

-- ---- The loader's number

-- 10,000 × number + place gives the number and the place back
pub record GivesBack (number : ℕ) (place : Place) : Type 0 where
  pub question : loader_number (refused number place) / 10_000 ≡ number
  pub where_at : place_from number (loader_number (refused number place) % 10_000) ≡ place

pub loader_gives_back : {text : List ℕ} {number : ℕ} {place : Place} → OfBuffer (OfText text) number place → GivesBack number place
loader_gives_back buffer = record { question = refl; where_at = refl }
loader_gives_back (given size) = record { question = refl; where_at = refl }
loader_gives_back (given (form l)) = record { question = omega (arith, l.most); where_at = ap Place.Line (omega (arith, l.most)) }
loader_gives_back (given (range l)) = record { question = omega (arith, l.most); where_at = ap Place.Line (omega (arith, l.most)) }
loader_gives_back (given (area l)) = record { question = omega (arith, l.most); where_at = ap Place.Line (omega (arith, l.most)) }
loader_gives_back (given (fixed_range l)) = record { question = omega (arith, l.most); where_at = ap Place.Line (omega (arith, l.most)) }
loader_gives_back (given (overlap o c h)) = record { question = omega (arith, h); where_at = ap Place.Piece (omega (arith, h)) }
loader_gives_back (given (fixed_split o c h)) = record { question = omega (arith, h); where_at = ap Place.Piece (omega (arith, h)) }
