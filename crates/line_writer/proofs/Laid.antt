-- Texts of a list's members, written one after the other: none before the first, room for the next, and one more. Assumes nothing.
use mathlib.Core.List.{List, [], ◌∷◌, ◌++◌, append_assoc, append-nil}
use mathlib.Core.Path.{◌≡◌, refl, sym, ap, ◌∙◌}
use Prim.Native.Nat.{ℕ, ◌+◌, ◌≤◌, ◌<◌}
use native.Mathlib.Numerals.{add-one}
use native.Mathlib.Omega.{arith}
use lib.ListN.{length, get_or, take, drop, length-append, take-append-drop}
use lib.Seq.{take-suc}
use Rattle.line_writer.specs.declared.Writer.{Writer}
use Rattle.line_writer.specs.Writing.{HasRoom, Wrote, laid}
use Rattle.line_writer.proofs.Puts.{wrote_none, wrote_on, wrote_as, room_within}

-- `texts` lays what `text` gives of each member
module _ {A : Type 0} (text : A → List ℕ) (texts : List A → List ℕ) (same : (xs : List A) → texts xs ≡ laid text xs) where
  texts_append : (xs ys : List A) → texts (xs ++ ys) ≡ texts xs ++ texts ys
  unfolding laid
  texts_append xs ys = same (xs ++ ys) ∙ go xs ∙ ap (λ (l : List ℕ). l ++ laid text ys) (sym (same xs)) ∙ ap (λ (l : List ℕ). texts xs ++ l) (sym (same ys))
    where
      go : (xs : List A) → laid text (xs ++ ys) ≡ laid text xs ++ laid text ys
      go [] = refl
      go (x ∷ xs) = ap (λ (l : List ℕ). text x ++ l) (go xs) ∙ sym (append_assoc (text x) (laid text xs) (laid text ys))

  texts_next : (xs : List A) (k : ℕ) (d : A) → k < length xs → texts (take (k + 1) xs) ≡ texts (take k xs) ++ text (get_or xs k d)
  unfolding laid
  texts_next xs k d h =
      rw (add-one, take-suc xs k d h)
      (texts_append (take k xs) (get_or xs k d ∷ []) ∙ ap (λ (l : List ℕ). texts (take k xs) ++ l) (same (get_or xs k d ∷ []) ∙ append-nil (text (get_or xs k d))))

  texts_part : (xs : List A) (k : ℕ) → length (texts (take k xs)) ≤ length (texts xs)
  texts_part xs k =
      omega (
        arith,
        ap (λ (l : List A). length (texts l)) (take-append-drop k xs),
        ap length (texts_append (take k xs) (drop k xs)),
        length-append (texts (take k xs)) (texts (drop k xs)),
      )

  pub laid_none : (w : Writer) → Wrote w (texts []) w
  unfolding laid
  laid_none w = wrote_as (sym (same [])) (wrote_none w)

  module _ {a b : Writer} (xs : List A) (k : ℕ) (d : A) (h : k < length xs) (wrote : Wrote a (texts (take k xs)) b) where
    pub laid_room : HasRoom a (texts xs) → HasRoom b (text (get_or xs k d))
    laid_room room = room_within _ _ wrote room (rw (sym (texts_next xs k d h)) (texts_part xs (k + 1)))

    pub laid_more : {c : Writer} → Wrote b (text (get_or xs k d)) c → Wrote a (texts (take (k + 1) xs)) c
    laid_more more = wrote_as (sym (texts_next xs k d h)) (wrote_on wrote more)
