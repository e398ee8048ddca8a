-- What is asked of settings and pieces whose edges are tested: no more than questions 4 and 5. Assumes nothing: these are definitions.
use Rattle.std.specs.Prelude.{true, List, ◌≡◌, ℕ, ◌<◌, ◌≤◌, length}
use Rattle.rules.specs.declared.layer.Settings.{Settings}
use Rattle.rules.specs.declared.layer.Piece.{Piece}
use Rattle.rules.specs.Settings.{settings_in_range, piece_in_range, has_area, piece_at}

pub record Drawn (s : Settings) (ps : List Piece) : Type 0 where
  pub settings : settings_in_range s ≡ true
  pub few : length ps ≤ 512
  pub ranges : (i : ℕ) → i < length ps → piece_in_range (piece_at ps i) ≡ true
  pub areas : (i : ℕ) → i < length ps → has_area (piece_at ps i) ≡ true
