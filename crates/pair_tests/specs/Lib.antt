pub mod PairTests
