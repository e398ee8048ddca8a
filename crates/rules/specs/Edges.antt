-- Edges (RULES 2). The difference that document 01 calls ox, the lesser X2 minus the greater X1, may be negative. Here two natural numbers stand for it:
-- `overlap` is ox where ox is positive, `gap` is its negative where it is negative, and each is 0 otherwise; both are 0 where ox is 0.
use Rattle.std.specs.Prelude.{Bool, not, ◌&&◌, ◌||◌, cond, List, ℕ, ◌+◌, ◌-◌, ◌*◌, min, max, eqb, ltb, leb}
use Rattle.rules.specs.declared.layer.Settings.{Settings}
use Rattle.rules.specs.declared.layer.Piece.{Piece}
use Rattle.rules.specs.declared.layer.Edge.{Edge}
use Rattle.rules.specs.Basics.{given}
use Rattle.rules.specs.Settings.{piece_at}

unfoldable pub overlap_x : Piece → Piece → ℕ
overlap_x p q = min p.x2 q.x2 - max p.x1 q.x1

unfoldable pub overlap_y : Piece → Piece → ℕ
overlap_y p q = min p.y2 q.y2 - max p.y1 q.y1

unfoldable pub gap_x : Piece → Piece → ℕ
gap_x p q = max p.x1 q.x1 - min p.x2 q.x2

unfoldable pub gap_y : Piece → Piece → ℕ
gap_y p q = max p.y1 q.y1 - min p.y2 q.y2

abbrev pub same_shape : Piece → Piece → Bool
same_shape p q = eqb p.shape q.shape

-- the squared distance of two pieces
unfoldable pub squared_gap : Piece → Piece → ℕ
squared_gap p q = gap_x p q * gap_x p q + gap_y p q * gap_y p q

-- A conflict edge: different shapes, nearer than the spacing.
unfoldable pub conflict_edge : Settings → Piece → Piece → Bool
conflict_edge s p q = not (same_shape p q) && ltb (squared_gap p q) (s.spacing * s.spacing)

-- ox is 0: the two meet in X and do not overlap there; likewise in Y
abbrev pub meet_x : Piece → Piece → Bool
meet_x p q = eqb (overlap_x p q + gap_x p q) 0

abbrev pub meet_y : Piece → Piece → Bool
meet_y p q = eqb (overlap_y p q + gap_y p q) 0

-- The length along which two pieces touch: what they share in Y where they meet in X, and what they share in X where they meet in Y.
unfoldable pub contact : Piece → Piece → ℕ
contact p q = cond (meet_x p q) (overlap_y p q) (cond (meet_y p q) (overlap_x p q) 0)

-- A stitch edge: one shape, and contact of at least the margin.
unfoldable pub stitch_edge : Settings → Piece → Piece → Bool
stitch_edge s p q = same_shape p q && leb s.margin (contact p q)

-- A tie: one shape, and contact above 0 and below the margin. Where two pieces touch in a point their contact is 0, which ties nothing.
unfoldable pub tied : Settings → Piece → Piece → Bool
tied s p q = same_shape p q && ltb 0 (contact p q) && ltb (contact p q) s.margin

unfoldable pub edge_of : Settings → Piece → Piece → Edge
edge_of s p q = cond (conflict_edge s p q) Edge.Conflict (cond (stitch_edge s p q) Edge.Stitch (cond (tied s p q) Edge.Tie Edge.None))

-- Two pieces of one shape overlap.
unfoldable pub overlapping : Piece → Piece → Bool
overlapping p q = same_shape p q && ltb 0 (overlap_x p q) && ltb 0 (overlap_y p q)

-- A graph: for two vertices, the number of their conflict edges and that of their stitch edges. The rules of peeling, components and the search see
-- only such a graph.
pub record Graph : Type 0 where
  pub conflicts : ℕ → ℕ → ℕ
  pub stitches : ℕ → ℕ → ℕ

-- whether two vertices are neighbours by a conflict edge, by a stitch edge, by either
abbrev pub in_conflict : Graph → ℕ → ℕ → Bool
in_conflict g u v = ltb 0 (g.conflicts u v)

abbrev pub in_stitch : Graph → ℕ → ℕ → Bool
in_stitch g u v = ltb 0 (g.stitches u v)

abbrev pub joined : Graph → ℕ → ℕ → Bool
joined g u v = in_conflict g u v || in_stitch g u v

-- the graph of a layer's pieces: its vertices are the pieces' numbers, and two of them have at most one edge
abbrev pub graph_of : Settings → List Piece → Graph
graph_of s ps = record {
  conflicts = λ u v. given (conflict_edge s (piece_at ps u) (piece_at ps v)) 1;
  stitches = λ u v. given (stitch_edge s (piece_at ps u) (piece_at ps v)) 1;
}
