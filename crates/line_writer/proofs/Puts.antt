-- Texts written one after the other. Assumes nothing.
use mathlib.Core.List.{List, [], ◌∷◌, ◌++◌, append_assoc}
use mathlib.Core.Path.{◌≡◌, refl, sym, ap, subst, ◌∙◌}
use Prim.Native.Nat.{ℕ, suc, ◌+◌, ◌-◌, ◌≤◌}
use native.Mathlib.Omega.{arith}
use borrow.Rule.Slice.PartMut.{put_mid, Post-is}
use lib.ListN.{length, take, drop, set, length-append}
use lib.Seq.{sets, sets-eq, length-sets}
use Rattle.line_writer.specs.declared.Writer.{Writer}
use Rattle.line_writer.specs.Writing.{Put, HasRoom, Wrote}

sets_append : (l : List ℕ) (i : ℕ) (vs ws : List ℕ) → sets (sets l i vs) (i + length vs) ws ≡ sets l i (vs ++ ws)
sets_append l i [] ws = ap (λ (k : ℕ). sets l k ws) (omega arith)
sets_append l i (v ∷ vs) ws =
    ap (λ (k : ℕ). sets (sets (set l i v) (suc i) vs) k ws) (omega arith) ∙ sets_append (set l i v) (suc i) vs ws

-- a copy into a part stores the bytes one after the other
pub part_stored : (b : List ℕ) (at : ℕ) (bytes : List ℕ) {now : List ℕ} → at + length bytes ≤ length b → now ≡ bytes
    → put_mid at (at + length bytes - at) b now ≡ sets b at bytes
part_stored b at bytes h e =
    rw (e, Post-is at (at + length bytes) b (omega arith)) (sym (append_assoc (take at b) bytes (drop (at + length bytes) b)) ∙ sym (sets-eq bytes b at h))

-- ---- One text after another

pub put_on : {b : List ℕ} {at : ℕ} {t : List ℕ} {end : ℕ} {l u : List ℕ} {end' : ℕ} {l' : List ℕ} → Put b at t end l → Put l end u end' l' → Put b at (t ++ u) end' l'
put_on {b} {at} {t} {end} {l} {u} p q = record {
  end = omega (arith, p.end, q.end, length-append t u);
  stored = q.stored ∙ rw (p.stored, p.end) (sets_append b at t u);
}

pub wrote_none : (w : Writer) → Wrote w [] w
wrote_none w = record { reference = refl; put = record { end = omega arith; stored = refl } }

pub wrote_on : {a b c : Writer} {t u : List ℕ} → Wrote a t b → Wrote b u c → Wrote a (t ++ u) c
wrote_on p q = record { reference = q.reference ∙ p.reference; put = put_on p.put q.put }

-- the same text in other words
pub wrote_as : {a b : Writer} {t u : List ℕ} → t ≡ u → Wrote a t b → Wrote a u b
wrote_as {a} {b} e p = subst (λ (t : List ℕ). Wrote a t b) e p

-- ---- The room: for the front of a text, and for what is left of it

pub room_front : (a : Writer) (t u : List ℕ) → HasRoom a (t ++ u) → HasRoom a t
room_front a t u h = omega (arith, length-append t u)

pub room_within : {a b : Writer} {t : List ℕ} (u whole : List ℕ) → Wrote a t b → HasRoom a whole → length (t ++ u) ≤ length whole → HasRoom b u
room_within {a} {b} {t} u whole p h le =
    omega (arith, p.put.end, ap length p.put.stored, length-sets a.buffer.now a.at t, length-append t u)

pub room_left : {a b : Writer} {t : List ℕ} (u : List ℕ) → Wrote a t b → HasRoom a (t ++ u) → HasRoom b u
room_left {t} u p h = room_within u (t ++ u) p h (omega arith)

-- ---- A text at the front of a buffer

pub front_room : (a : Writer) (text : List ℕ) {buffer : List ℕ} → a.at ≡ 0 → a.buffer.now ≡ buffer → length text ≤ length buffer → HasRoom a text
front_room a text front begun fits = omega (arith, ap length begun)

pub front_wrote : {a b : Writer} {text buffer : List ℕ} → a.at ≡ 0 → a.buffer.now ≡ buffer → length text ≤ length buffer → Wrote a text b
    → (b.at ≡ length text) × (b.buffer.now ≡ text ++ drop (length text) buffer)
front_wrote {a} {b} {text} {buffer} front begun fits p =
    let place : 0 + length text ≡ length text = omega arith in (
      omega (arith, p.put.end),
      p.put.stored ∙ rw (front, begun) (sets-eq text buffer 0 (omega arith)) ∙ ap (λ (n : ℕ). text ++ drop n buffer) place,
    )
