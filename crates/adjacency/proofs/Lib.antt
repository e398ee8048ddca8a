-- What the functions' proofs cite, and other crates may: that a judged layer is drawn, laws of the kinds of edges, of which pieces are too far apart for one, of
-- adjacency words, and of bit sets as lists of vertices.
pub mod DrawnLaws
pub mod KindLaws
pub mod ReachLaws
pub mod AdjacencyLaws
pub mod MemberLaws
