-- What an ending gives, by its goal. Assumes nothing.
use mathlib.Core.Path.{◌≡◌, refl, sym, ◌∙◌, ap, subst}
use mathlib.Core.Bool.{false}
use mathlib.Core.List.Memᴰ
use mathlib.Core.List.{List, [], ◌∷◌, reverse, reverse-reverse}
use Prim.Native.Nat.{ℕ, suc, ◌+◌}
use lib.ListN.{length, length-reverse}
use Rattle.words.specs.Lists.{◌among◌, only, is_empty}
use Rattle.words.specs.Words.{Word}
use Rattle.words.specs.Order.{rank}
use Rattle.meaning.specs.Runs.{Config, config}
use Rattle.join.specs.Reading.{joined_key, left_key, left_number, Suits, Suited, NumberOf}
use Rattle.join.specs.declared.reading.Goal.{Goal}

-- what is asked of the one ending
pub suited-one : {marks : List Word} {goal : Goal} {e : Config} → Suited marks goal (e ∷ []) → Suits marks goal e
suited-one {e = e} s = s.each e (Memᴰ.head refl)

empty-not : (l : List ℕ) → (length l ≡ 0 → ⊥) → is_empty l ≡ false
empty-not [] f = absurd (f refl)
empty-not (x ∷ l) f = refl

module _ (state : ℕ) (stack out : List ℕ) where
  abbrev end : Config
  end = config state (reverse stack) out

  pub keys-call : (symbol from base marker : ℕ) {marks : List Word} {number to : ℕ} → left_key marker end among marks
      → NumberOf marks (marker ∷ stack) number → to ≡ base + state
      → (symbol ∷ from ∷ number ∷ to ∷ out) ∷ [] ≡ joined_key symbol from base (left_number marks marker end) end ∷ []
  keys-call symbol from base marker {marks} {number} {to} m n e =
      let back = ap (λ (l : List ℕ). marker ∷ l) (reverse-reverse stack) in
      let is : number ≡ left_number marks marker end =
      n.is (subst (λ (w : Word). w among marks) back m)
      ∙ ap (λ (w : Word). suc (rank (λ (v : Word). v) marks w)) (sym back) in
      rw (e, is) refl

  pub keys-left : (w : Word) → (length stack ≡ 0 → ⊥) → [] ≡ only (is_empty end.stack) w
  keys-left w f = rw (empty-not (reverse stack) (λ z. f (sym (length-reverse stack) ∙ z))) refl
