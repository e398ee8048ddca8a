-- Score (RULES 3). Masks are a list: the mask of vertex v stands at place v. Where they are set by hand, some may be missing yet.
use Rattle.std.specs.Prelude.{Bool, not, cond, ◌&&◌, List, ℕ, ◌+◌, ◌-◌, ◌*◌, ◌/◌, eqb, get_or}
use Rattle.rules.specs.declared.answers.Score.{Score}
use Rattle.rules.specs.Basics.{given, sum_pairs}
use Rattle.rules.specs.Settings.{unset}
use Rattle.rules.specs.Edges.{Graph}

abbrev pub mask_of : List ℕ → ℕ → ℕ
mask_of masks v = get_or masks v 0

abbrev pub same_mask : List ℕ → ℕ → ℕ → Bool
same_mask masks u v = eqb (mask_of masks u) (mask_of masks v)

-- whether a vertex is set
abbrev pub is_set : List ℕ → ℕ → Bool
is_set masks v = not (eqb (mask_of masks v) unset)

-- whether two vertices are set, and on one mask; or are set, and on two
abbrev pub together : List ℕ → ℕ → ℕ → Bool
together masks u v = is_set masks u && is_set masks v && same_mask masks u v

abbrev pub apart : List ℕ → ℕ → ℕ → Bool
apart masks u v = is_set masks u && is_set masks v && not (same_mask masks u v)

-- the conflict edges whose ends are together
unfoldable pub conflicts_of : Graph → List ℕ → ℕ → ℕ
conflicts_of g masks n = sum_pairs (λ u v. given (together masks u v) (g.conflicts u v)) n

-- the stitch edges whose ends are apart
unfoldable pub stitches_of : Graph → List ℕ → ℕ → ℕ
stitches_of g masks n = sum_pairs (λ u v. given (apart masks u v) (g.stitches u v)) n

-- the cost, with a conflict's weight
abbrev pub cost_of : ℕ → ℕ → ℕ → ℕ
cost_of weight conflicts stitches = weight * conflicts + stitches

-- what masks of the vertices 0, 1, .., n - 1 score
unfoldable pub score_of : ℕ → Graph → List ℕ → ℕ → Score
score_of weight g masks n = record {
  conflicts = conflicts_of g masks n;
  stitches = stitches_of g masks n;
  cost = cost_of weight (conflicts_of g masks n) (stitches_of g masks n);
}

-- how many unordered pairs n vertices have; scoring tests each of them for an edge once, whether its ends are set or not
abbrev pub pairs_of : ℕ → ℕ
pairs_of n = n * (n - 1) / 2

-- what the edges between u on mask x and v on mask y cost
unfoldable pub pair_cost : ℕ → Graph → ℕ → ℕ → ℕ → ℕ → ℕ
pair_cost weight g u v x y = cond (eqb x y) (weight * g.conflicts u v) (g.stitches u v)
