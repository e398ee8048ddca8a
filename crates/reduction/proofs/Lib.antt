-- What the functions' proofs cite, and other crates may: laws of the members that pass a test, of peeling and putting back one vertex at a time, and of
-- both together.
pub mod MemberTests
pub mod PeelLaws
pub mod ReturnLaws
pub mod Reduced
