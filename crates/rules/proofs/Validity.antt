-- For every input the questions give exactly one of two ends. A layer lent as records is accepted, and is then sound, or it is refused with a number and a
-- place of the rules; a layer text is read as a sound layer, or refused likewise. A layer is valid exactly when it is sound, and exactly when no question
-- refuses it. Each law goes through the questions in their order. Assumes nothing.
use mathlib.Core.Bool.{Bool, true, false, not}
use mathlib.Core.List.{List}
use mathlib.Core.Logic.{◌↔◌}
use mathlib.Core.Path.{◌≡◌, refl}
use Prim.Native.Nat.{ℕ, zero, suc, ◌≤◌, ◌<◌}
use native.Mathlib.Omega.{arith}
use borrow.Author.Tests.{not-true}
use lib.ListN.{length}
use Rattle.rules.specs.declared.layer.Settings.{Settings}
use Rattle.rules.specs.declared.layer.Piece.{Piece}
use Rattle.rules.specs.declared.refusal.Place.{Place}
use Rattle.rules.specs.Basics.{up_from, up_to, any_of}
use Rattle.rules.specs.Settings.{settings_in_range, count_in_range, piece_in_range, has_area, fixed_in_range, piece_at}
use Rattle.rules.specs.Edges.{overlapping}
use Rattle.rules.specs.Questions.{Outcome, done, refused, ask, ask_each, judge_piece, judge_record, judge_overlaps, fixed_apart, judge_fixed, judge_records, judge_layer, Valid}
use Rattle.rules.specs.Refusals.{Ends, accepts, OfRecords, settings_or_count, range, fixed_range, area, overlap, fixed_split}
use Rattle.rules.proofs.Lists.{any_out, out_any, in_up_to}
use Rattle.rules.proofs.Outcomes.{ends_then, ends_map, ends_ask, ends_each, accepted, each_passes, then_assoc}
use Rattle.rules.proofs.Ranges.{SettingsFacts, settings_facts, within_facts}

-- ---- What is true of a layer that passes

pub record Sound (s : Settings) (ps : List Piece) : Type 0 where
  pub settings : settings_in_range s ≡ true
  pub count : count_in_range (length ps) ≡ true
  pub ranges : (i : ℕ) → i < length ps → piece_in_range (piece_at ps i) ≡ true
  pub areas : (i : ℕ) → i < length ps → has_area (piece_at ps i) ≡ true
  pub apart : (i j : ℕ) → i < j → j < length ps → overlapping (piece_at ps i) (piece_at ps j) ≡ false
  pub fixed : (i : ℕ) → i < length ps → fixed_in_range s.masks (piece_at ps i).fixed ≡ true
  pub agree : (i j : ℕ) → i < j → j < length ps → fixed_apart s ps i j ≡ false

-- ---- Records

-- 4 and 5 for a piece at a place, with any refusals R that allow them there
pub judged_piece : {R : ℕ → Place → Type 0} (place : Place) (p : Piece) → R 4 place → R 5 place
    → Ends (λ _. (piece_in_range p ≡ true) × (has_area p ≡ true)) R (judge_piece place p)
unfolding judge_piece
judged_piece place p r4 r5 =
    ends_then (ends_ask (piece_in_range p) 4 place r4) λ _ r.
    ends_map (λ _ a. (r, a)) (ends_ask (has_area p) 5 place r5)

-- the same for a lent record, with 13
judged_record : {R : ℕ → Place → Type 0} (K : ℕ) (place : Place) (p : Piece) → R 4 place → R 13 place → R 5 place
    → Ends (λ _. (piece_in_range p ≡ true) × (fixed_in_range K p.fixed ≡ true) × (has_area p ≡ true)) R (judge_record K place p)
unfolding judge_record
judged_record K place p r4 r13 r5 =
    ends_then (ends_ask (piece_in_range p) 4 place r4) λ _ r.
    ends_then (ends_ask (fixed_in_range K p.fixed) 13 place r13) λ _ f.
    ends_map (λ _ a. (r, f, a)) (ends_ask (has_area p) 5 place r5)

-- a question of one piece and those before it; no piece is before the first
asked_earlier : {R : ℕ → Place → Type 0} (number : ℕ) (f : ℕ → Bool) (j : ℕ) → (1 ≤ j → R number (Place.Piece j))
    → Ends (λ _. not (any_of f (up_to j)) ≡ true) R (ask (not (any_of f (up_to j))) number (Place.Piece j))
unfolding any_of up_from
asked_earlier number f zero r = accepts refl
asked_earlier number f (suc j) r = ends_ask (not (any_of f (up_to (suc j)))) number _ (r (omega arith))

-- such a question of each of n pieces, with any refusals R that allow it for each but the first
earlier_ends : {R : ℕ → Place → Type 0} (number : ℕ) (f : ℕ → ℕ → Bool) (n : ℕ) → ((j : ℕ) → 1 ≤ j → j < n → R number (Place.Piece j))
    → Ends (λ _. (i j : ℕ) → i < j → j < n → f i j ≡ false) R (ask_each (λ j. ask (not (any_of (λ i. f i j) (up_to j))) number (Place.Piece j)) n)
earlier_ends number f n r =
    ends_map (λ _ d i j l h. any_out _ (up_to j) (not-true _ (d j h)) i ((in_up_to j i).1 l))
    (ends_each _ n (λ j h. asked_earlier number (λ i. f i j) j (λ o. r j o h)))

earlier_passes : (number : ℕ) (f : ℕ → ℕ → Bool) (n : ℕ) → ((i j : ℕ) → i < j → j < n → f i j ≡ false)
    → ask_each (λ j. ask (not (any_of (λ i. f i j) (up_to j))) number (Place.Piece j)) n ≡ done tt
earlier_passes number f n h = each_passes _ n (λ j l. rw (out_any _ (up_to j) (λ i m. h i j ((in_up_to j i).0 m) l)))

-- 6, and 14
pub judged_overlaps : {R : ℕ → Place → Type 0} (ps : List Piece) → ((j : ℕ) → 1 ≤ j → j < length ps → R 6 (Place.Piece j))
    → Ends (λ _. (i j : ℕ) → i < j → j < length ps → overlapping (piece_at ps i) (piece_at ps j) ≡ false) R (judge_overlaps ps)
unfolding judge_overlaps
judged_overlaps ps r = earlier_ends 6 (λ i j. overlapping (piece_at ps i) (piece_at ps j)) (length ps) r

pub judged_fixed : {R : ℕ → Place → Type 0} (s : Settings) (ps : List Piece) → ((j : ℕ) → 1 ≤ j → j < length ps → R 14 (Place.Piece j))
    → Ends (λ _. (i j : ℕ) → i < j → j < length ps → fixed_apart s ps i j ≡ false) R (judge_fixed s ps)
unfolding judge_fixed
judged_fixed s ps r = earlier_ends 14 (fixed_apart s ps) (length ps) r

pub judged : (s : Settings) (ps : List Piece) → Ends (λ _. Sound s ps) (OfRecords (length ps)) (judge_layer s ps)
unfolding judge_layer judge_records
judged s ps =
    rw (then_assoc (ask (settings_in_range s) 4 Place.Nothing) _ _)
    (ends_then (ends_ask (settings_in_range s) 4 _ settings_or_count) λ _ a.
    rw (then_assoc (ask (count_in_range (length ps)) 4 Place.Nothing) _ _)
    (ends_then (ends_ask (count_in_range (length ps)) 4 _ settings_or_count) λ _ b.
    rw (then_assoc (ask_each (λ i. judge_record s.masks (Place.Piece i) (piece_at ps i)) (length ps)) _ _)
    (ends_then (ends_each _ (length ps) (λ i h. judged_record s.masks (Place.Piece i) (piece_at ps i) (range h) (fixed_range h) (area h))) λ _ c.
    ends_then (judged_overlaps ps (λ j o h. overlap o h)) λ _ d.
    ends_map
    (λ _ e. record { settings = a; count = b; ranges = λ i h. (c i h).0; areas = λ i h. (c i h).2; apart = d; fixed = λ i h. (c i h).1; agree = e })
    (judged_fixed s ps (λ j o h. fixed_split o h)))))

pub sound_overlaps : (s : Settings) (ps : List Piece) → Sound s ps → judge_overlaps ps ≡ done tt
unfolding judge_overlaps
sound_overlaps s ps f = earlier_passes 6 (λ i j. overlapping (piece_at ps i) (piece_at ps j)) (length ps) f.apart

pub sound_fixed : (s : Settings) (ps : List Piece) → Sound s ps → judge_fixed s ps ≡ done tt
unfolding judge_fixed
sound_fixed s ps f = earlier_passes 14 (fixed_apart s ps) (length ps) f.agree

pub sound_valid : (s : Settings) (ps : List Piece) → Sound s ps → Valid s ps
unfolding judge_layer judge_records judge_record
sound_valid s ps f =
    rw (
      f.settings,
      f.count,
      each_passes (λ i. judge_record s.masks (Place.Piece i) (piece_at ps i)) (length ps) (λ i h. rw (f.ranges i h, f.fixed i h, f.areas i h)),
      sound_overlaps s ps f,
    )
    (sound_fixed s ps f)

pub valid_sound : (s : Settings) (ps : List Piece) → Valid s ps → Sound s ps
valid_sound s ps v = accepted (judged s ps) v

-- a layer is valid exactly when it is sound
pub valid_exactly : (s : Settings) (ps : List Piece) → Valid s ps ↔ Sound s ps
valid_exactly s ps = (valid_sound s ps, sound_valid s ps)

-- a layer is valid exactly when no question refuses it
pub valid_unrefused : (s : Settings) (ps : List Piece) → Valid s ps ↔ ((number : ℕ) (place : Place) → judge_layer s ps ≡ refused number place → ⊥)
valid_unrefused s ps = (λ v number place e. never v e, λ n. go (judge_layer s ps) refl n)
  where
    never : {number : ℕ} {place : Place} → Valid s ps → judge_layer s ps ≡ refused number place → ⊥
    never v e = let z : ◌≡◌ {A = ℕ} 0 1 = cc in omega arith

    go : (o : Outcome (Unit {0})) → judge_layer s ps ≡ o → ((number : ℕ) (place : Place) → judge_layer s ps ≡ refused number place → ⊥) → judge_layer s ps ≡ done tt
    go (done _) e n = e
    go (refused number place) e n = absurd (n number place e)

-- what a function may know of a layer that was judged
pub record LayerFacts (s : Settings) (ps : List Piece) : Type 0 where
  pub in_range : settings_in_range s ≡ true
  pub settings : SettingsFacts s
  pub few : length ps ≤ 512
  pub pieces : (i : ℕ) → i < length ps → piece_in_range (piece_at ps i) ≡ true

pub layer_facts : (s : Settings) (ps : List Piece) → Valid s ps → LayerFacts s ps
layer_facts s ps v =
    let f = valid_sound s ps v in
    record { in_range = f.settings; settings = settings_facts s f.settings; few = (within_facts 0 512 (length ps) f.count).high; pieces = f.ranges }
