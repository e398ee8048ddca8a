-- The elements one after the other: those read so far and those from here on are all of them, and the pieces are those of the first 512. Assumes nothing.
use mathlib.Core.Bool.{true, false}
use mathlib.Core.List.{List, [], ◌∷◌, ◌++◌, append-nil, map, map-append}
use mathlib.Core.Path.{◌≡◌, refl, sym, ap, ◌∙◌}
use Prim.Native.Nat.{ℕ, zero, suc, ◌+◌, ◌-◌, ◌*◌, ◌≤◌, ◌<◌}
use native.Mathlib.Omega.{arith}
use lib.ListN.{length, length-append, take, length-map}
use lib.Seq.{append_snoc, take_all, take-nil, take-append-le}
use Rattle.std.proofs.lemmas.List.{length-take}
use Rattle.rules.specs.declared.layer.Piece.{Piece}
use Rattle.rules.specs.declared.refusal.Place.{Place}
use Rattle.rules.specs.Questions.{Outcome, done, refused, and_then}
use Rattle.rules.specs.Stream.{boundary, is_due, Element, read_element, ElementsRead, read_elements}
use Rattle.stream_theory.proofs.StreamRecords.{formed}
use Rattle.gds_elements.specs.Elements.{stored_piece, ElementIs}

-- elements in front of others
abbrev pub ahead : List Element → Outcome ElementsRead → Outcome ElementsRead
ahead es (done r) = done (record { elements = es ++ r.elements; rest = r.rest })
ahead es (refused number place) = refused number place

ahead_none : (o : Outcome ElementsRead) → o ≡ ahead [] o
ahead_none (done r) = refl
ahead_none (refused number place) = refl

ahead_snoc : (es : List Element) (e : Element) (o : Outcome ElementsRead)
    → ahead es (and_then o λ r. done (record { elements = e ∷ r.elements; rest = r.rest })) ≡ ahead (es ++ (e ∷ [])) o
ahead_snoc es e (done r) = ap (λ (l : List Element). done (record { elements = l; rest = r.rest })) (sym (append_snoc es e r.elements))
ahead_snoc es e (refused number place) = refl

-- of the elements from record k on, n were read, and the others follow from the next record on
pub record SoFar (k : ℕ) (bytes : List ℕ) (next : ℕ) (rest : List ℕ) (n : ℕ) (pieces : List Piece) : Type 0 where
  pub elements : List Element
  pub read : read_elements (length bytes) k bytes ≡ ahead elements (read_elements (length bytes - n) next rest)
  pub counted : length elements ≡ n
  pub few : n + length rest ≤ length bytes
  pub numbered : next ≡ k + 7 * n
  pub kept : pieces ≡ map stored_piece (take 512 elements)

pub none_yet : (k : ℕ) (bytes : List ℕ) → SoFar k bytes k bytes 0 []
none_yet k bytes =
    let all : length bytes - 0 ≡ length bytes = omega arith in
    record {
      elements = [];
      read = rw all (ahead_none (read_elements (length bytes) k bytes));
      counted = refl;
      few = omega arith;
      numbered = omega arith;
      kept = ap (map stored_piece) (sym (take-nil 512));
    }

-- as many pieces as elements, up to 512
pub fewer : {k : ℕ} {bytes : List ℕ} {next : ℕ} {rest : List ℕ} {n : ℕ} {pieces : List Piece} → SoFar k bytes next rest n pieces → length pieces ≤ n
fewer s = omega (arith, ap length s.kept ∙ length-map (take 512 s.elements) stored_piece, length-take 512 s.elements, s.counted)

-- the pieces after one more element: its piece is kept if there is room
pub data Kept (pieces : List Piece) (n : ℕ) (p : Piece) : List Piece → Type 0 where
  pushed : {after : List Piece} → n < 512 → after ≡ pieces ++ (p ∷ []) → Kept pieces n p after
  full : {after : List Piece} → 512 ≤ n → after ≡ pieces → Kept pieces n p after

module _ (k : ℕ) (bytes : List ℕ) (next : ℕ) (rest : List ℕ) (n : ℕ) (pieces : List Piece) (s : SoFar k bytes next rest n pieces) where
  module _ (is : is_due boundary rest ≡ true) where
    one_more : length bytes - n ≡ suc (length bytes - (n + 1))
    one_more = let f = formed boundary rest is in omega (arith, f.fits, f.low, s.few)

    -- the first of those that are left, and the others
    abbrev first_then : ℕ → Outcome ElementsRead
    first_then m =
        and_then (read_element next rest) λ e.
        and_then (read_elements m (7 + next) e.rest) λ es.
        done (record { elements = e.element ∷ es.elements; rest = es.rest })

    turns : (m : ℕ) → read_elements (suc m) next rest ≡ first_then m
    unfolding read_elements
    turns m = rw (is, read_elements)

    first_read : read_elements (length bytes) k bytes ≡ ahead s.elements (first_then (length bytes - (n + 1)))
    first_read = s.read ∙ ap (ahead s.elements) (ap (λ (m : ℕ). read_elements m next rest) one_more ∙ turns (length bytes - (n + 1)))

    pub stops_here : (number : ℕ) (place : Place) → read_element next rest ≡ refused number place → read_elements (length bytes) k bytes ≡ refused number place
    stops_here number place e = first_read ∙ rw e

    module _ (p : Piece) (then : ℕ) (after : List ℕ) (e : ElementIs next rest after p) (further : then ≡ next + 7) where
      abbrev all : List Element
      all = s.elements ++ (e.element ∷ [])

      read_more : read_elements (length bytes) k bytes ≡ ahead all (read_elements (length bytes - (n + 1)) then after)
      read_more =
          let seven : 7 + next ≡ then = omega arith in
          first_read ∙ rw (e.read, seven) (ahead_snoc s.elements e.element (read_elements (length bytes - (n + 1)) then after))

      -- a piece is pushed as long as there is room for its element
      all_kept : (now : List Piece) → Kept pieces n p now → now ≡ map stored_piece (take 512 all)
      all_kept now (pushed room h) =
          let size : length all ≡ n + 1 = length-append s.elements (e.element ∷ []) ∙ omega (arith, s.counted) in
          let before : take 512 s.elements ≡ s.elements = take_all 512 s.elements (omega (arith, s.counted)) in
          h ∙ rw (take_all 512 all (omega (arith, size)), map-append stored_piece s.elements (e.element ∷ []), s.kept, before, e.piece)
      all_kept now (full none h) = h ∙ s.kept ∙ ap (map stored_piece) (sym (take-append-le 512 s.elements (e.element ∷ []) (omega (arith, s.counted))))

      pub one_further : (now : List Piece) → Kept pieces n p now → SoFar k bytes then after (n + 1) now
      one_further now t = record {
        elements = all;
        read = read_more;
        counted = length-append s.elements (e.element ∷ []) ∙ omega (arith, s.counted);
        few = omega (arith, s.few, e.less);
        numbered = omega (arith, s.numbered);
        kept = all_kept now t;
      }

  module _ (is : is_due boundary rest ≡ false) where
    none_left : (m : ℕ) → read_elements m next rest ≡ done (record { elements = []; rest = rest })
    unfolding read_elements
    none_left zero = refl
    none_left (suc m) = rw (is, read_elements)

    pub all_read : read_elements (length bytes) k bytes ≡ done (record { elements = s.elements; rest = rest })
    all_read = s.read ∙ rw (none_left (length bytes - n), append-nil s.elements)
