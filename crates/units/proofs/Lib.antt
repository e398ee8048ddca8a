-- What the functions' proofs cite: numbering one unit after the other, merging one row after the other, noting masks of units, and the units of a layer from
-- its ties; then the neighbours among units, and whether masks split a unit, which callers cite too.
pub mod NumberLaws
pub mod UnitNeighbours
pub mod MergeLaws
pub mod NotedLaws
pub mod TieUnits
pub mod SplitLaws
