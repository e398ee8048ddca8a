-- The call on a stream: it comes to an end of its own, and its number gives the refusal and the place back. Assumes nothing.
use mathlib.Core.Bool.{true, false}
use mathlib.Core.List.{List}
use mathlib.Core.Path.{◌≡◌}
use Prim.Native.Nat.{ℕ, ◌/◌, ◌%◌, ◌≤◌, ◌<◌}
use native.Mathlib.Omega.{arith}
use lib.Dec.{leb}
use lib.ListN.{length}
use borrow.Author.Tests.{leb-true}
use Rattle.rules.specs.declared.layer.Settings.{Settings}
use Rattle.rules.specs.declared.layer.Piece.{Piece}
use Rattle.rules.specs.declared.refusal.Place.{Place}
use Rattle.rules.specs.Decomposition.{run}
use Rattle.rules.specs.ResultText.{result_text}
use Rattle.rules.specs.Questions.{refused, Valid}
use Rattle.rules.specs.Stream.{read_stream}
use Rattle.rules.specs.Calls.{decompose_stream}
use Rattle.rules.specs.Loader.{place_number, loader_number}
use Rattle.rules.specs.Refusals.{Ends, accepts, refuses, OfStream, size, form, setting, record_form, rectangle, unit, count, range, overlap, OfBuffer, buffer, given}
use Rattle.rules.proofs.Calls.{read_call_ends, has_room}
use Rattle.rules.proofs.Outcomes.{ends_then, ends_ask, ends_refused, rejected}
use Rattle.rules.proofs.Tests.{by_test}
use Rattle.stream_theory.proofs.StreamReading.{stream_ends}

pub load_stream_ends : ((s : Settings) (ps : List Piece) → Valid s ps → length (result_text (run s ps)) ≤ 4_096)
    → (settings stream out : List ℕ) → Ends (λ result. length result ≤ length out) (OfBuffer (OfStream settings stream)) (decompose_stream settings stream out)
unfolding decompose_stream
load_stream_ends fits settings stream out = read_call_ends (read_stream settings stream) out (has_room fits out) (stream_ends settings stream)

-- ---- The loader's number

-- 10,000 × number + place gives both back, the place as a number: 4 alone does not say what kind of place it is
pub record GivesNumbers (number : ℕ) (place : Place) : Type 0 where
  pub question : loader_number (refused number place) / 10_000 ≡ number
  pub where_at : loader_number (refused number place) % 10_000 ≡ place_number place

-- a stream of 65,536 bytes has less than 10,000 records
below_10000 : {settings stream : List ℕ} {number : ℕ} {place : Place} → length stream ≤ 65_536 → OfBuffer (OfStream settings stream) number place → place_number place < 10_000
below_10000 h buffer = omega arith
below_10000 h (given size) = omega arith
below_10000 h (given (form l m)) = omega arith
below_10000 h (given (setting l m)) = omega arith
below_10000 h (given (record_form r)) = omega (arith, r.next)
below_10000 h (given (rectangle r)) = omega (arith, r.next)
below_10000 h (given unit) = omega arith
below_10000 h (given count) = omega arith
below_10000 h (given (range m)) = omega arith
below_10000 h (given (overlap o m)) = omega arith

pub stream_gives_back : {settings stream : List ℕ} {number : ℕ} {place : Place} → length stream ≤ 65_536 → OfBuffer (OfStream settings stream) number place → GivesNumbers number place
stream_gives_back {number} {place} h r =
    let small : place_number place < 10_000 = below_10000 h r in
    record { question = omega arith; where_at = omega arith }

nothing_gives : (number : ℕ) → GivesNumbers number Place.Nothing
nothing_gives number = record { question = omega arith; where_at = omega arith }

module _ (settings stream out : List ℕ) where
  short : leb (length stream) 65_536 ≡ true → Ends (λ _. Unit {0}) GivesNumbers (decompose_stream settings stream out)
  unfolding decompose_stream
  short e =
      ends_refused (λ _ _ r. stream_gives_back (leb-true (length stream) 65_536 e) r)
      (read_call_ends (read_stream settings stream) out (λ _ _ _. tt) (stream_ends settings stream))

  long : leb (length stream) 65_536 ≡ false → Ends (λ _. Unit {0}) GivesNumbers (decompose_stream settings stream out)
  unfolding decompose_stream read_stream
  long e =
      ends_then (ends_ask (leb 4_096 (length out)) 1 _ (nothing_gives 1)) λ _ _.
      ends_then {P = λ _. Unit {0}} (ends_then (ends_ask (leb (length settings) 32_768) 2 _ (nothing_gives 2)) λ _ _. rw e (refuses (nothing_gives 2))) λ _ _.
      accepts tt

-- Whatever the length: a longer stream is refused by 1 or 2.
pub stream_call_gives_back : (settings stream out : List ℕ) {number : ℕ} {place : Place} → decompose_stream settings stream out ≡ refused number place → GivesNumbers number place
stream_call_gives_back settings stream out = rejected (by_test (leb (length stream) 65_536) (short settings stream out) (long settings stream out))
