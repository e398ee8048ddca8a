-- Lines that fix masks. From piece i on they are read on pieces whose masks from i on are not fixed, and set just those that the lines state; the other way, what is
-- read from piece `least` on is what the pieces handed back are written as from there, and the pieces before it stay as they were. Assumes nothing.
use mathlib.Core.Bool.{true, ◌&&◌}
use mathlib.Core.List.{List, [], ◌∷◌, ◌++◌, append-nil}
use mathlib.Core.Path.{◌≡◌, refl, sym, ap, ap₂, subst, ◌∙◌}
use Prim.Native.Nat.{ℕ, zero, suc, ◌+◌, ◌-◌, ◌≤◌, ◌<◌}
use native.Mathlib.Omega.{arith}
use lib.Dec.{eqb, leb, ltb}
use lib.ListN.{length, get_or, take, drop, set, length-append, length-map, length-drop, length-set, drop_of_length-le}
use lib.Seq.{drop-cons, take-suc, take_all, append_snoc, set_at, get_or_at, get_or-set_same, get_or-set_other, map-set_same, length-take-le}
use borrow.Author.Tests.{ltb-true, leb-true, leb-false, eqb-true, eqb-false, lt-ltb, le-leb, ne_eqb}
use Rattle.rules.specs.declared.layer.Piece.{Piece}
use Rattle.rules.specs.declared.refusal.Place.{Place}
use Rattle.rules.specs.Lines.{ascii, line}
use Rattle.rules.specs.LayerText.{fixed_line, fixed_lines}
use Rattle.rules.specs.Settings.{no_piece, unset, fixed_in_range, piece_at}
use Rattle.rules.specs.Questions.{done, refused, ask, read_line, FixedRead, read_fixed, with_fixed, fix_at, read_all_fixed}
use Rattle.rules.proofs.Outcomes.{then_with, ask_yes}
use Rattle.rules.proofs.Tests.{by_test, both}
use Rattle.rules.proofs.Unfixed.{unfixed}
use Rattle.line_writer.proofs.LineSizes.{line_length}
use Rattle.lines.proofs.Written.{one_line, line_read}
use Rattle.text_theory.proofs.WrittenLines.{line_some, read_line_lem}

-- ---- One line

pair : (ns : List ℕ) → length ns ≡ 2 → get_or ns 0 0 ∷ get_or ns 1 0 ∷ [] ≡ ns
pair [] h = absurd (omega arith)
pair (a ∷ []) h = absurd (omega arith)
pair (a ∷ b ∷ []) h = refl
pair (a ∷ b ∷ c ∷ ns) h = absurd (omega arith)

-- what is true of a line that was read
pub record OneFixed (K n least : ℕ) (text : List ℕ) (f : FixedRead) : Type 0 where
  pub written : text ≡ line (ascii "fixed=") (f.piece ∷ f.mask ∷ []) ++ f.rest
  pub shorter : length f.rest < length text
  pub risen : least ≤ f.piece
  pub piece : f.piece < n
  pub mask : f.mask < K

pub fixed_written : (K n least lineNo : ℕ) (text : List ℕ) (f : FixedRead) → read_fixed K n least lineNo text ≡ done f → OneFixed K n least text f
unfolding read_fixed
fixed_written K n least lineNo text f e =
    then_with (read_line (ascii "fixed=") 2 lineNo text) _ f e λ l e1 k1.
    then_with (ask (leb least (get_or l.numbers 0 0)) 3 (Place.Line lineNo)) _ f k1 λ _ e2 k2.
    then_with (ask (ltb (get_or l.numbers 0 0) n && ltb (get_or l.numbers 1 0) K) 13 (Place.Line lineNo)) _ f k2 λ _ e3 k3.
    let written = read_line_lem (ascii "fixed=") 2 lineNo text l e1 in
    let t = both (ltb (get_or l.numbers 0 0) n) (ltb (get_or l.numbers 1 0) K) (ask_yes _ 13 (Place.Line lineNo) e3) in
    let same : record { piece = get_or l.numbers 0 0; mask = get_or l.numbers 1 0; rest = l.rest } ≡ f = cc k3 in
    subst (OneFixed K n least text) same (record {
      written = written.0 ∙ ap (λ (ns : List ℕ). line (ascii "fixed=") ns ++ l.rest) (sym (pair l.numbers written.1));
      shorter = omega (arith, ap length written.0, length-append (line (ascii "fixed=") l.numbers) l.rest, line_length (ascii "fixed=") l.numbers);
      risen = leb-true least _ (ask_yes _ 3 (Place.Line lineNo) e2);
      piece = ltb-true _ n t.0;
      mask = ltb-true _ K t.1;
    })

pub fixed_read : (K n least lineNo i m : ℕ) (rest : List ℕ) → least ≤ i → i < n → m < K
    → read_fixed K n least lineNo (line (ascii "fixed=") (i ∷ m ∷ []) ++ rest) ≡ done (record { piece = i; mask = m; rest = rest })
unfolding read_fixed one_line ascii
fixed_read K n least lineNo i m rest a b c =
    let text = line (ascii "fixed=") (i ∷ m ∷ []) ++ rest in
    let one : read_line (ascii "fixed=") 2 lineNo text ≡ done (record { numbers = i ∷ m ∷ []; rest = rest })
    = line_some (ascii "fixed=") 2 lineNo text _ (line_read (ascii "fixed=") refl i (m ∷ []) rest) in
    rw (one, read_fixed, le-leb least i a, lt-ltb i n b, lt-ltb m K c)

-- ---- One line, and those after it

-- reading goes on after the line, with a bound that is large enough
pub record GoesOn (more K least lineNo : ℕ) (ps : List Piece) (text : List ℕ) (f : FixedRead) : Type 0 where
  pub left : ℕ
  pub enough : length f.rest ≤ left
  pub same : read_all_fixed more K least lineNo ps text ≡ read_all_fixed left K (suc f.piece) (suc lineNo) (fix_at f.piece f.mask ps) f.rest

pub goes_on : (more K least lineNo : ℕ) (ps : List Piece) (text : List ℕ) (f : FixedRead) → length text ≤ more → read_fixed K (length ps) least lineNo text ≡ done f
    → GoesOn more K least lineNo ps text f
unfolding read_all_fixed
goes_on more K least lineNo ps [] f h e = absurd (omega (arith, (fixed_written K (length ps) least lineNo [] f e).shorter))
goes_on zero K least lineNo ps (b ∷ text) f h e = absurd (omega arith)
goes_on (suc more) K least lineNo ps (b ∷ text) f h e = record {
  left = more;
  enough = omega (arith, (fixed_written K (length ps) least lineNo (b ∷ text) f e).shorter);
  same = rw (e, read_all_fixed);
}

pub stops : (more K least lineNo : ℕ) (ps : List Piece) (text : List ℕ) (number : ℕ) (place : Place) → 0 < length text → length text ≤ more
    → read_fixed K (length ps) least lineNo text ≡ refused number place → read_all_fixed more K least lineNo ps text ≡ refused number place
unfolding read_all_fixed
stops more K least lineNo ps [] number place some h e = absurd (omega arith)
stops zero K least lineNo ps (b ∷ text) number place some h e = absurd (omega arith)
stops (suc more) K least lineNo ps (b ∷ text) number place some h e = rw (e, read_all_fixed)

pub none_left : (more K least lineNo : ℕ) (ps : List Piece) → read_all_fixed more K least lineNo ps [] ≡ done ps
unfolding read_all_fixed
none_left zero K least lineNo ps = refl
none_left (suc more) K least lineNo ps = refl

-- there are as many pieces afterwards
pub all_size : (more K least lineNo : ℕ) (ps : List Piece) (text : List ℕ) (ps' : List Piece) → read_all_fixed more K least lineNo ps text ≡ done ps' → length ps' ≡ length ps
unfolding read_all_fixed
all_size zero K least lineNo ps text ps' e = let same : ps' ≡ ps = cc in ap length same
all_size (suc more) K least lineNo ps [] ps' e = let same : ps' ≡ ps = cc in ap length same
all_size (suc more) K least lineNo ps (b ∷ text) ps' e =
    then_with (read_fixed K (length ps) least lineNo (b ∷ text)) _ ps' e λ f e1 k1.
    all_size more K (suc f.piece) (suc lineNo) (fix_at f.piece f.mask ps) f.rest ps' k1
    ∙ length-set ps f.piece (with_fixed f.mask (piece_at ps f.piece))

-- ---- The lines of pieces from one on

pub no_line : (i : ℕ) (p : Piece) → p.fixed ≡ unset → fixed_line i p ≡ []
no_line i p e = rw e

pub a_line : (i : ℕ) (p : Piece) → (p.fixed ≡ unset → ⊥) → fixed_line i p ≡ line (ascii "fixed=") (i ∷ p.fixed ∷ [])
a_line i p d = rw (ne_eqb p.fixed unset d)

lines_here : (ps : List Piece) (i : ℕ) → i < length ps → fixed_lines i (drop i ps) ≡ fixed_line i (piece_at ps i) ++ fixed_lines (suc i) (drop (suc i) ps)
unfolding fixed_lines
lines_here ps i h = rw (drop-cons ps i no_piece h, fixed_lines)

no_lines : (i : ℕ) (ps : List Piece) → length ps ≤ i → fixed_lines i (drop i ps) ≡ []
unfolding fixed_lines
no_lines i ps h = rw (drop_of_length-le ps h)

-- pieces without a fixed mask have no line
skipped : (d i j : ℕ) (ps : List Piece) → i + d ≡ j → j ≤ length ps → ((k : ℕ) → i ≤ k → k < j → (piece_at ps k).fixed ≡ unset)
    → fixed_lines i (drop i ps) ≡ fixed_lines j (drop j ps)
skipped zero i j ps e h free = let same : i ≡ j = omega arith in ap (λ (k : ℕ). fixed_lines k (drop k ps)) same
skipped (suc d) i j ps e h free =
    lines_here ps i (omega arith)
    ∙ rw (no_line i (piece_at ps i) (free i (omega arith) (omega arith)))
    (skipped d (suc i) j ps (omega arith) h (λ k l m. free k (omega arith) m))

-- ---- What is read was written so

-- the pieces from `least` on have no fixed mask
abbrev pub Free : ℕ → List Piece → Type 0
Free least ps = (k : ℕ) → least ≤ k → k < length ps → (piece_at ps k).fixed ≡ unset

pub record AllFixed (least : ℕ) (ps : List Piece) (text : List ℕ) (ps' : List Piece) : Type 0 where
  pub written : text ≡ fixed_lines least (drop least ps')
  pub before : (k : ℕ) → k < least → piece_at ps' k ≡ piece_at ps k
  pub others : unfixed ps' ≡ unfixed ps

nothing_more : (least : ℕ) (ps : List Piece) → Free least ps → AllFixed least ps [] ps
nothing_more least ps free = record {
  written =
      sym (by_test (leb least (length ps))
      (λ t. let l = leb-true least (length ps) t in skipped (length ps - least) least (length ps) ps (omega arith) (omega arith) free ∙ no_lines (length ps) ps (omega arith))
      (λ t. no_lines least ps (omega (arith, leb-false least (length ps) t))));
  before = λ k h. refl;
  others = refl;
}

module _ (K least : ℕ) (few : K ≤ unset) (ps : List Piece) (free : Free least ps) (text : List ℕ) (f : FixedRead) (w : OneFixed K (length ps) least text f) where
  abbrev fixed : List Piece
  fixed = fix_at f.piece f.mask ps

  here : piece_at fixed f.piece ≡ with_fixed f.mask (piece_at ps f.piece)
  here = get_or-set_same ps f.piece _ no_piece w.piece

  elsewhere : (k : ℕ) → (k ≡ f.piece → ⊥) → piece_at fixed k ≡ piece_at ps k
  elsewhere k d = get_or-set_other ps f.piece k _ no_piece d

  still_free : Free (suc f.piece) fixed
  still_free k l m =
      ap (λ (p : Piece). p.fixed) (elsewhere k (λ e. omega arith))
      ∙ free k (omega (arith, w.risen)) (omega (arith, length-set ps f.piece (with_fixed f.mask (piece_at ps f.piece))))

  one_more : (ps' : List Piece) → AllFixed (suc f.piece) fixed f.rest ps' → AllFixed least ps text ps'
  one_more ps' a =
      let same = a.others ∙ map-set_same (with_fixed unset) ps f.piece (with_fixed f.mask (piece_at ps f.piece)) no_piece refl in
      let size : length ps' ≡ length ps = sym (length-map ps' (with_fixed unset)) ∙ ap length same ∙ length-map ps (with_fixed unset) in
      let at = a.before f.piece (omega arith) ∙ here in
      let mask : (piece_at ps' f.piece).fixed ≡ f.mask = ap (λ (p : Piece). p.fixed) at in
      let first = a_line f.piece (piece_at ps' f.piece) (λ e. omega (arith, w.mask, mask)) ∙ ap (λ (m : ℕ). line (ascii "fixed=") (f.piece ∷ m ∷ [])) mask in
      let between : (k : ℕ) → least ≤ k → k < f.piece → (piece_at ps' k).fixed ≡ unset
      = λ k l m. ap (λ (p : Piece). p.fixed) (a.before k (omega arith) ∙ elsewhere k (λ e. omega arith)) ∙ free k l (omega (arith, w.piece)) in
      let all = skipped (f.piece - least) least f.piece ps' (omega (arith, w.risen)) (omega (arith, w.piece)) between ∙ lines_here ps' f.piece (omega (arith, w.piece)) in
      record {
        written = w.written ∙ ap₂ (λ (l t : List ℕ). l ++ t) (sym first) a.written ∙ sym all;
        before = λ k h. a.before k (omega (arith, w.risen)) ∙ elsewhere k (λ e. omega (arith, w.risen));
        others = same;
      }

pub all_written : (more K least lineNo : ℕ) (ps : List Piece) (text : List ℕ) (ps' : List Piece) → K ≤ unset → length text ≤ more → Free least ps
    → read_all_fixed more K least lineNo ps text ≡ done ps' → AllFixed least ps text ps'
unfolding read_all_fixed
all_written zero K least lineNo ps [] ps' few h free e = subst (AllFixed least ps []) (cc) (nothing_more least ps free)
all_written zero K least lineNo ps (b ∷ text) ps' few h free e = absurd (omega arith)
all_written (suc more) K least lineNo ps [] ps' few h free e = subst (AllFixed least ps []) (cc) (nothing_more least ps free)
all_written (suc more) K least lineNo ps (b ∷ text) ps' few h free e =
    then_with (read_fixed K (length ps) least lineNo (b ∷ text)) _ ps' e λ f e1 k1.
    let w = fixed_written K (length ps) least lineNo (b ∷ text) f e1 in
    one_more K least few ps free (b ∷ text) f w ps'
    (all_written more K (suc f.piece) (suc lineNo) (fix_at f.piece f.mask ps) f.rest ps' few (omega (arith, w.shorter)) (still_free K least few ps free (b ∷ text) f w) k1)

-- ---- What is written is read so

-- the first i pieces, and the others without their fixed masks
abbrev pub read_to : List Piece → ℕ → List Piece
read_to ps i = take i ps ++ unfixed (drop i ps)

module _ (ps : List Piece) (i : ℕ) (h : i < length ps) where
  abbrev p : Piece
  p = piece_at ps i

  now_here : read_to ps i ≡ take i ps ++ with_fixed unset p ∷ unfixed (drop (suc i) ps)
  now_here = ap (λ (qs : List Piece). take i ps ++ unfixed qs) (drop-cons ps i no_piece h)

  then_here : take i ps ++ p ∷ unfixed (drop (suc i) ps) ≡ read_to ps (suc i)
  then_here = sym (ap (λ (qs : List Piece). qs ++ unfixed (drop (suc i) ps)) (take-suc ps i no_piece h) ∙ append_snoc (take i ps) p (unfixed (drop (suc i) ps)))

  to_free : p.fixed ≡ unset → read_to ps i ≡ read_to ps (suc i)
  to_free e =
      let same : with_fixed unset p ≡ p = λ k. record { shape = p.shape; x1 = p.x1; y1 = p.y1; x2 = p.x2; y2 = p.y2; fixed = sym e k } in
      now_here ∙ ap (λ (q : Piece). take i ps ++ q ∷ unfixed (drop (suc i) ps)) same ∙ then_here

  to_fixed : fix_at i p.fixed (read_to ps i) ≡ read_to ps (suc i)
  to_fixed =
      let size = length-take-le i ps (omega arith) in
      let rest = unfixed (drop (suc i) ps) in
      ap (fix_at i p.fixed) now_here
      ∙ ap (λ (q : Piece). set (take i ps ++ with_fixed unset p ∷ rest) i (with_fixed p.fixed q)) (get_or_at (take i ps) (with_fixed unset p) rest no_piece i size)
      ∙ set_at (take i ps) (with_fixed unset p) rest p i size
      ∙ then_here

  to_size : length (read_to ps i) ≡ length ps
  to_size = omega (arith, length-append (take i ps) (unfixed (drop i ps)), length-take-le i ps (omega arith), length-map (drop i ps) (with_fixed unset), length-drop i ps)

pub all_read : (left K i more least lineNo : ℕ) (ps : List Piece) → i + left ≡ length ps → least ≤ i → length (fixed_lines i (drop i ps)) ≤ more
    → ((k : ℕ) → k < length ps → fixed_in_range K (piece_at ps k).fixed ≡ true)
    → read_all_fixed more K least lineNo (read_to ps i) (fixed_lines i (drop i ps)) ≡ done ps
all_read zero K i more least lineNo ps e l h ranges =
    let whole : read_to ps i ≡ ps = ap₂ (λ (qs rs : List Piece). qs ++ unfixed rs) (take_all i ps (omega arith)) (drop_of_length-le ps {i = i} (omega arith)) ∙ append-nil ps in
    rw (no_lines i ps (omega arith)) (none_left more K least lineNo (read_to ps i) ∙ ap done whole)
all_read (suc left) K i more least lineNo ps e l h ranges =
    let inside : i < length ps = omega arith in
    let lines = lines_here ps i inside in
    let m = (piece_at ps i).fixed in
    let rest = fixed_lines (suc i) (drop (suc i) ps) in
    by_test (eqb m unset)
    (λ t.
    let free = eqb-true m unset t in
    let same : fixed_lines i (drop i ps) ≡ rest = lines ∙ ap (λ (t : List ℕ). t ++ rest) (no_line i (piece_at ps i) free) in
    ap₂ (read_all_fixed more K least lineNo) (to_free ps i inside free) same
    ∙ all_read left K (suc i) more least lineNo ps (omega arith) (omega arith) (omega (arith, ap length same)) ranges)
    (λ t.
    let text = line (ascii "fixed=") (i ∷ m ∷ []) ++ rest in
    let same : fixed_lines i (drop i ps) ≡ text = lines ∙ ap (λ (t : List ℕ). t ++ rest) (a_line i (piece_at ps i) (eqb-false m unset t)) in
    let below : m < K = ltb-true m K (rw t at (ranges i inside)) in
    let one = fixed_read K (length (read_to ps i)) least lineNo i m rest l (omega (arith, to_size ps i inside)) below in
    let on = goes_on more K least lineNo (read_to ps i) text _ (omega (arith, ap length same)) one in
    ap (read_all_fixed more K least lineNo (read_to ps i)) same
    ∙ on.same
    ∙ ap (λ (qs : List Piece). read_all_fixed on.left K (suc i) (suc lineNo) qs rest) (to_fixed ps i inside)
    ∙ all_read left K (suc i) on.left (suc i) (suc lineNo) ps (omega arith) (omega arith) on.enough ranges)
