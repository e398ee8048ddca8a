-- Scores of masks that are half done. Where every vertex is set, every edge counts (`whole_conflicts`, `whole_stitches`). A list that has every mask that another
-- one has set scores no less (`more_score`): what is set keeps its mask, so two vertices that were together or apart are so still, and each edge that was
-- counted is counted.
use mathlib.Core.Bool.{Bool, true, false, not, ◌&&◌}
use mathlib.Core.List.{List}
use mathlib.Core.Path.{◌≡◌, ap, ◌∙◌}
use Prim.Native.Nat.{ℕ, ◌≤◌, ◌<◌}
use native.Mathlib.Nat.{mul-le-mul}
use native.Mathlib.Omega.{arith}
use lib.Dec.{eqb}
use lib.ListN.{set}
use lib.Seq.{get_or-set_other}
use borrow.Author.Tests.{ne_eqb}
use Rattle.rules.specs.Basics.{given, sum_pairs}
use Rattle.rules.specs.Edges.{Graph}
use Rattle.rules.specs.Settings.{unset}
use Rattle.rules.specs.Score.{mask_of, same_mask, is_set, together, apart, conflicts_of, stitches_of, score_of}
use Rattle.rules.specs.Demands.{Extends, AtMost}
use Rattle.rules.proofs.Sums.{pairs_ext, pairs_mono}
use Rattle.rules.proofs.Tests.{by_test, clash, both, and_left}

-- ---- Every vertex set

abbrev pub AllSet : ℕ → List ℕ → Type 0
AllSet n masks = (i : ℕ) → i < n → is_set masks i ≡ true

pub below_set : (masks : List ℕ) (i : ℕ) → mask_of masks i < unset → is_set masks i ≡ true
below_set masks i l = rw (ne_eqb (mask_of masks i) unset (λ e. omega arith))

module _ (g : Graph) (masks : List ℕ) (n : ℕ) (all : AllSet n masks) where
  pub whole_conflicts : conflicts_of g masks n ≡ sum_pairs (λ u v. given (same_mask masks u v) (g.conflicts u v)) n
  unfolding conflicts_of
  whole_conflicts = pairs_ext n λ u v h k. rw (all u (omega arith), all v k)

  pub whole_stitches : stitches_of g masks n ≡ sum_pairs (λ u v. given (not (same_mask masks u v)) (g.stitches u v)) n
  unfolding stitches_of
  whole_stitches = pairs_ext n λ u v h k. rw (all u (omega arith), all v k)

-- ---- More of them set

given_mono : (a b : Bool) (x : ℕ) → (a ≡ true → b ≡ true) → given a x ≤ given b x
given_mono a b x h = by_test a (λ e. rw (e, h e) (omega arith)) (λ e. rw e (omega arith))

module _ (n : ℕ) (masks more : List ℕ) (extends : Extends n masks more) (u v : ℕ) (lu : u < n) (lv : v < n) where
  -- a test that holds only where both are set is the same of both lists
  stays : (test : ℕ → ℕ → Bool) → (is_set masks u && is_set masks v && test (mask_of masks u) (mask_of masks v)) ≡ true
      → (is_set more u && is_set more v && test (mask_of more u) (mask_of more v)) ≡ true
  stays test e =
      let ends = both (is_set masks u) (is_set masks v) (and_left _ (test (mask_of masks u) (mask_of masks v)) e) in
      rw (extends u lu ends.0, extends v lv ends.1) e

module _ (W : ℕ) (g : Graph) (n : ℕ) (masks more : List ℕ) (extends : Extends n masks more) where
  pub more_conflicts : conflicts_of g masks n ≤ conflicts_of g more n
  unfolding conflicts_of
  more_conflicts = pairs_mono n λ u v h k. given_mono (together masks u v) (together more u v) _ (stays n masks more extends u v (omega arith) k eqb)

  pub more_stitches : stitches_of g masks n ≤ stitches_of g more n
  unfolding stitches_of
  more_stitches = pairs_mono n λ u v h k. given_mono (apart masks u v) (apart more u v) _ (stays n masks more extends u v (omega arith) k (λ x y. not (eqb x y)))

  pub more_score : AtMost (score_of W g masks n) (score_of W g more n)
  unfolding score_of
  more_score =
      let same : W ≤ W = omega arith in
      record { conflicts = more_conflicts; stitches = more_stitches; cost = omega (arith, more_stitches, mul-le-mul same more_conflicts) }

-- one more piece set
pub one_more : (W : ℕ) (g : Graph) (n : ℕ) (masks : List ℕ) (i mask : ℕ) → is_set masks i ≡ false → AtMost (score_of W g masks n) (score_of W g (set masks i mask) n)
one_more W g n masks i mask missing =
    more_score W g n masks (set masks i mask) λ j l e. get_or-set_other masks i j mask 0 (λ (q : j ≡ i). clash e (ap (is_set masks) q ∙ missing))
