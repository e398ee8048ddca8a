-- Laws of the words that questions are put together with: what an outcome refuses, and what it accepts. Each goes by the cases of an outcome.
-- Assumes nothing.
use mathlib.Core.Bool.{Bool, true, false}
use mathlib.Core.Logic.{⊎_elim}
use mathlib.Core.Path.{◌≡◌, refl, subst, subst⁻¹, subst₂}
use Prim.Native.Nat.{ℕ, zero, suc, ◌+◌, ◌<◌}
use native.Mathlib.Decide.{ℕ_discrete}
use native.Mathlib.Nat.{eq-or-lt_of_le, le_of_suc-le-suc}
use native.Mathlib.Numerals.{add-one}
use native.Mathlib.Omega.{arith}
use Rattle.rules.specs.declared.refusal.Place.{Place}
use Rattle.rules.specs.Questions.{Outcome, done, refused, ask, and_then, ask_each}
use Rattle.rules.specs.Refusals.{Ends, accepts, refuses}

-- what holds below n and at n holds below the next number
below_suc : {P : ℕ → Type 0} {n : ℕ} → ((i : ℕ) → i < n → P i) → P n → (i : ℕ) → i < suc n → P i
below_suc {P} f p i h = ⊎_elim (λ e. subst⁻¹ P e p) (f i) (eq-or-lt_of_le (le_of_suc-le-suc h))

-- the second part begins where the first accepts
pub ends_then : {A B : Type 0} {P : A → Type 0} {Q : B → Type 0} {R : ℕ → Place → Type 0} {o : Outcome A} {next : A → Outcome B}
    → Ends P R o → ((a : A) → P a → Ends Q R (next a)) → Ends Q R (and_then o next)
ends_then (accepts p) n = n _ p
ends_then (refuses r) n = refuses r

-- whatever follows from what is accepted, and from what is refused
pub ends_map : {A : Type 0} {P Q : A → Type 0} {R : ℕ → Place → Type 0} {o : Outcome A} → ((a : A) → P a → Q a) → Ends P R o → Ends Q R o
ends_map f (accepts p) = accepts (f _ p)
ends_map f (refuses r) = refuses r

pub ends_refused : {A : Type 0} {P : A → Type 0} {R S : ℕ → Place → Type 0} {o : Outcome A}
    → ((number : ℕ) (place : Place) → R number place → S number place) → Ends P R o → Ends P S o
ends_refused f (accepts p) = accepts p
ends_refused f (refuses r) = refuses (f _ _ r)

pub accepted : {A : Type 0} {P : A → Type 0} {R : ℕ → Place → Type 0} {o : Outcome A} {a : A} → Ends P R o → o ≡ done a → P a
accepted {P} (accepts p) e = subst P (cc) p
accepted (refuses r) e = let z : ◌≡◌ {A = ℕ} 0 1 = cc in absurd (omega arith)

pub rejected : {A : Type 0} {P : A → Type 0} {R : ℕ → Place → Type 0} {o : Outcome A} {number : ℕ} {place : Place} → Ends P R o → o ≡ refused number place → R number place
rejected (accepts p) e = let z : ◌≡◌ {A = ℕ} 0 1 = cc in absurd (omega arith)
rejected {R} (refuses r) e = subst₂ R (cc) (cc) r

-- a question that passes says yes
pub ends_ask : {R : ℕ → Place → Type 0} (b : Bool) (number : ℕ) (place : Place) → R number place → Ends (λ _. b ≡ true) R (ask b number place)
ends_ask true number place r = accepts refl
ends_ask false number place r = refuses r

-- one of two outcomes, by a test
pub ends_if : {A : Type 0} {P : A → Type 0} {R : ℕ → Place → Type 0} {a b : Outcome A} (t : Bool) → Ends P R a → Ends P R b
    → Ends P R (elim t [ false ↦ a | true ↦ b ])
ends_if false e f = e
ends_if true e f = f

-- a question at each number below n: all pass, or the first that does not decides
pub ends_each : {P : ℕ → Type 0} {R : ℕ → Place → Type 0} (question : ℕ → Outcome (Unit {0})) (n : ℕ)
    → ((i : ℕ) → i < n → Ends (λ _. P i) R (question i)) → Ends (λ _. (i : ℕ) → i < n → P i) R (ask_each question n)
unfolding ask_each
ends_each question zero e = accepts (λ i h. absurd (omega arith))
ends_each {P} {R} question (suc n) e =
    ends_then (ends_each question n (λ i h. e i (omega arith))) λ _ f.
    ends_map (λ _ p. below_suc f p) (e n (omega arith))

pub each_passes : (question : ℕ → Outcome (Unit {0})) (n : ℕ) → ((i : ℕ) → i < n → question i ≡ done tt) → ask_each question n ≡ done tt
unfolding ask_each
each_passes question zero h = refl
each_passes question (suc n) h = rw (each_passes question n (λ i l. h i (omega arith))) (h n (omega arith))

-- ---- As a loop asks them: one more question, the first that refuses, questions that agree

pub each_next : (question : ℕ → Outcome (Unit {0})) (n : ℕ) → ask_each question n ≡ done tt → question n ≡ done tt → ask_each question (n + 1) ≡ done tt
unfolding ask_each
each_next question n e f = rw (add-one n, e) f

pub each_ext : {f g : ℕ → Outcome (Unit {0})} (n : ℕ) → ((i : ℕ) → i < n → f i ≡ g i) → ask_each f n ≡ ask_each g n
unfolding ask_each
each_ext zero h = refl
each_ext (suc n) h = rw (each_ext n (λ i l. h i (omega arith)), h n (omega arith))

-- all before i pass and i is refused, so that decides
pub each_refused : (question : ℕ → Outcome (Unit {0})) (n : ℕ) {i number : ℕ} {place : Place}
    → i < n → ask_each question i ≡ done tt → question i ≡ refused number place → ask_each question n ≡ refused number place
unfolding ask_each
each_refused question zero l e r = absurd (omega arith)
each_refused question (suc n) {i} {number} {place} l e r = go (ℕ_discrete i n) (λ m. each_refused question n m e r)
  where
    go : Dec (i ≡ n) → (i < n → ask_each question n ≡ refused number place) → and_then (ask_each question n) (λ _. question n) ≡ refused number place
    go (yes p) ih = rw (← p, e) r
    go (no q) ih = rw (ih (omega arith))

-- ---- From what passed to what was asked

-- a part that was not refused, and the next
pub then_done : {A B : Type 0} (o : Outcome A) (f : A → Outcome B) (b : B) → and_then o f ≡ done b → (a : A) × (o ≡ done a) × (f a ≡ done b)
then_done (done a) f b e = (a, refl, e)
then_done (refused number place) f b e = let z : ◌≡◌ {A = ℕ} 0 1 = cc e in absurd (omega arith)

-- the same, handed to what goes on
pub then_with : {A B P : Type 0} (o : Outcome A) (f : A → Outcome B) (b : B) → and_then o f ≡ done b → ((a : A) → o ≡ done a → f a ≡ done b → P) → P
then_with o f b e next = let r = then_done o f b e in next r.0 r.1 r.2

pub ask_yes : (t : Bool) (number : ℕ) (place : Place) → ask t number place ≡ done tt → t ≡ true
ask_yes true number place e = refl
ask_yes false number place e = let z : ◌≡◌ {A = ℕ} 0 1 = cc e in absurd (omega arith)

-- ---- Ways on

-- two ways on that agree wherever they begin
pub then_same : {A B : Type 0} (o : Outcome A) {f g : A → Outcome B} → ((a : A) → o ≡ done a → f a ≡ g a) → and_then o f ≡ and_then o g
then_same (done a) h = h a refl
then_same (refused number place) h = refl

-- three parts one after the other
pub then_assoc : {A B C : Type 0} (o : Outcome A) (f : A → Outcome B) (g : B → Outcome C) → and_then (and_then o f) g ≡ (and_then o λ a. and_then (f a) g)
then_assoc (done a) f g = refl
then_assoc (refused number place) f g = refl
